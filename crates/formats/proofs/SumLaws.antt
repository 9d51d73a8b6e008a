-- The laws of sums.
use Rattle.std.proofs.Common.{◌≡◌, ℕ, ◌+◌, ◌<◌, ◌≤◌, Bool, true, false, cond, eqb, List, [], ◌∷◌, ◌++◌, map, length, get_or, ℤ, pos, ◌+ℤ◌, nat_abs, Some, None, Ok, Err, Option, sym, refl, ap, ◌∙◌, subst, ap₂, append_assoc, append-nil, arith}
use lib.IntN.{+ℤ_idr}
use borrow.Author.Differences.{ints}
use Rattle.std.specs.List.{AllByRecursion}
use Rattle.std.proofs.ByRecursion.{All-get_or, All-append}
use Rattle.std.proofs.lemmas.Bool.{cond-false, or_parts, eqb-true}
use Rattle.model.specs.declared.refusal.Refusal.{Refusal}
use Rattle.formats.specs.Words.{IsName, Apart, Shown}
use Rattle.formats.specs.Texts.{Check, first_failed, Clause, Keeps, Breaks}
use Rattle.formats.specs.Sums.{Part, amount, weight, Running, ProperSum, part_bytes, sign_of, lead, more_written, sum_written, Piece, piece, is_sign, pieces, terms, lead_length, part_of, piece_checks, piece_clauses, sum_of, sum_checks, sum_clauses, unless_sum, read_sum, SumExact, SumRefusals, WeightPush, WeightsIn}
use Rattle.formats.proofs.Ordered.{Agree, agree_append, keeps, passes, breaks, fails}
use Rattle.formats.proofs.SumPieces.{tails, glued, pieces_some, glued_pieces, Unsigned, pieces_front, pieces_tails}
use Rattle.formats.proofs.SumParts.{piece_agree, piece_in, piece_out, part_unsigned, part_shown, part_first}

-- ---- clauses one after another
pub keeps_split : (rs qs : List Clause) → Keeps (rs ++ qs) → Keeps rs × Keeps qs
keeps_split [] qs h = (tt, h)
keeps_split (r ∷ rs) qs h = let k = keeps_split rs qs h.1 in ((h.0, k.0), k.1)

pub keeps_append : (rs qs : List Clause) → Keeps rs → Keeps qs → Keeps (rs ++ qs)
keeps_append [] qs h k = k
keeps_append (r ∷ rs) qs h k = (h.0, keeps_append rs qs h.1 k)

pub sum_agree : (ns : List (List ℕ)) (ps : List Piece) (at : ℕ) (done : List Part) → Agree (sum_checks ns at done ps) (sum_clauses ns at done ps)
sum_agree ns [] at done = tt
sum_agree ns (p ∷ ps) at done =
    let more = done ++ (part_of ns p.minus p.bytes ∷ []) in
    agree_append (piece_checks ns at done p.minus p.bytes) (sum_checks ns (at + length p.bytes + 1) more ps) (piece_clauses ns at done p.minus p.bytes) (sum_clauses ns (at + length p.bytes + 1) more ps)
    (piece_agree ns at done p.minus p.bytes) (sum_agree ns ps (at + length p.bytes + 1) more)

-- ---- from the clauses to the parts
abbrev bodies : List (List ℕ) → List Part → List ℕ
bodies ns [] = []
bodies ns (q ∷ qs) = part_bytes q.number (get_or ns q.place []) ++ more_written ns qs

tails_in : (ns : List (List ℕ)) (ps : List Piece) → glued ps ≡ bodies ns (sum_of ns ps) → tails ps ≡ more_written ns (sum_of ns ps)
tails_in ns [] e = refl
tails_in ns (p ∷ ps) e = ap (λ (z : List ℕ). sign_of p.minus ∷ z) e

sum_in : (ns : List (List ℕ)) (ps : List Piece) (at : ℕ) (done : List Part) → Keeps (sum_clauses ns at done ps) → (glued ps ≡ bodies ns (sum_of ns ps)) × Running ns done (sum_of ns ps)
sum_in ns [] at done h = (refl, tt)
sum_in ns (p ∷ ps) at done h =
    let more = done ++ (part_of ns p.minus p.bytes ∷ []) in
    let k = keeps_split (piece_clauses ns at done p.minus p.bytes) (sum_clauses ns (at + length p.bytes + 1) more ps) h in
    let i = piece_in ns at done p.minus p.bytes k.0 in
    let r = sum_in ns ps (at + length p.bytes + 1) more k.1 in
    (ap₂ (λ (u v : List ℕ). u ++ v) i.0 (tails_in ns ps r.0), (i.1, i.2, k.0.1.1.1.1.0, r.1))

lead_in : (ns : List (List ℕ)) (m : Bool) (g : List ℕ) → glued (pieces m g) ≡ bodies ns (sum_of ns (pieces m g)) → (g ≡ bodies ns (sum_of ns (pieces m g))) × ((lead m ++ g ≡ sum_written ns (sum_of ns (pieces m g))) × (1 ≤ length (sum_of ns (pieces m g))))
lead_in ns m g e =
    let s = pieces_some m g in
    let b : g ≡ bodies ns (sum_of ns (pieces m g)) = sym (glued_pieces m g) ∙ e in (
      b,
      (
        ap (λ (z : List ℕ). lead m ++ z) b ∙ subst (λ (ps : List Piece). lead m ++ bodies ns (sum_of ns ps) ≡ sum_written ns (sum_of ns ps)) (sym s.2) refl,
        subst (λ (ps : List Piece). 1 ≤ length (sum_of ns ps)) (sym s.2) (omega arith),
      ),
    )

terms_in : (ns : List (List ℕ)) (f : List ℕ) → glued (terms f) ≡ bodies ns (sum_of ns (terms f)) → (f ≡ sum_written ns (sum_of ns (terms f))) × (1 ≤ length (sum_of ns (terms f)))
terms_in ns [] e = (lead_in ns false [] e).1
terms_in ns (b ∷ bs) e = go (eqb b 45) refl e
  where
    go : (t : Bool) → eqb b 45 ≡ t → glued (cond t (pieces true bs) (pieces false (b ∷ bs))) ≡ bodies ns (sum_of ns (cond t (pieces true bs) (pieces false (b ∷ bs))))
        → (b ∷ bs ≡ sum_written ns (sum_of ns (cond t (pieces true bs) (pieces false (b ∷ bs))))) × (1 ≤ length (sum_of ns (cond t (pieces true bs) (pieces false (b ∷ bs)))))
    go true q h = let l = (lead_in ns true bs h).1 in (ap (λ (c : ℕ). c ∷ bs) (eqb-true b 45 q) ∙ l.0, l.1)
    go false q h = (lead_in ns false (b ∷ bs) h).1

pub field_in : (ns : List (List ℕ)) (at : ℕ) (f : List ℕ) → Keeps (sum_clauses ns at [] (terms f)) → ProperSum ns (sum_of ns (terms f)) × (f ≡ sum_written ns (sum_of ns (terms f)))
field_in ns at f h =
    let i = sum_in ns (terms f) at [] h in
    let t = terms_in ns f i.0 in
    ((t.1, i.1), t.0)

-- ---- from the parts to the clauses
abbrev pieces_of : List (List ℕ) → List Part → List Piece
pieces_of ns qs = map (λ (q : Part). piece q.minus (part_bytes q.number (get_or ns q.place []))) qs

module _ (ns : List (List ℕ)) (named : AllByRecursion IsName ns) (apart : Apart (λ m n. m ≡ n) ns) where
  sum_out : (qs : List Part) (at : ℕ) (done : List Part) → Running ns done qs → Keeps (sum_clauses ns at done (pieces_of ns qs)) × (sum_of ns (pieces_of ns qs) ≡ qs)
  sum_out [] at done r = (tt, refl)
  sum_out (q ∷ qs) at done r =
      let p = part_bytes q.number (get_or ns q.place []) in
      let o = piece_out ns at done q named apart r.0 r.1 r.2 in
      let w = sum_out qs (at + length p + 1) (done ++ (q ∷ [])) r.3 in (
        keeps_append (piece_clauses ns at done q.minus p) (sum_clauses ns (at + length p + 1) (done ++ (part_of ns q.minus p ∷ [])) (pieces_of ns qs)) o.0
            (subst (λ (z : Part). Keeps (sum_clauses ns (at + length p + 1) (done ++ (z ∷ [])) (pieces_of ns qs))) (sym o.1) w.0),
        ap₂ (λ (u : Part) (v : List Part). u ∷ v) o.1 w.1,
      )

  unsigned_all : (qs : List Part) (done : List Part) → Running ns done qs → AllByRecursion (λ (p : Piece). Unsigned p.bytes) (pieces_of ns qs)
  unsigned_all [] done r = tt
  unsigned_all (q ∷ qs) done r = (part_unsigned q.number (get_or ns q.place []) (All-get_or IsName ns q.place [] r.0 named) r.1, unsigned_all qs (done ++ (q ∷ [])) r.3)

  tails_of : (qs : List Part) → more_written ns qs ≡ tails (pieces_of ns qs)
  tails_of [] = refl
  tails_of (q ∷ qs) = ap (λ (z : List ℕ). sign_of q.minus ∷ (part_bytes q.number (get_or ns q.place []) ++ z)) (tails_of qs)

  terms_plain : (b : ℕ) (r x : List ℕ) → is_sign b ≡ false → x ≡ b ∷ r → terms x ≡ pieces false x
  terms_plain b r x u e = subst (λ (z : List ℕ). terms z ≡ pieces false z) (sym e) (cond-false (eqb b 45) (pieces true r) (pieces false (b ∷ r)) (or_parts (eqb b 43) (eqb b 45) u).1)

  lead_out : (m : Bool) (x : List ℕ) (b : ℕ) (r : List ℕ) → is_sign b ≡ false → x ≡ b ∷ r → terms (lead m ++ x) ≡ pieces m x
  lead_out true x b r u e = refl
  lead_out false x b r u e = terms_plain b r x u e

  terms_out : (qs : List Part) → ProperSum ns qs → terms (sum_written ns qs) ≡ pieces_of ns qs
  terms_out [] h = absurd (omega arith)
  terms_out (q ∷ qs) h =
      let r = h.1 in
      let n = get_or ns q.place [] in
      let nm = All-get_or IsName ns q.place [] r.0 named in
      let p = part_bytes q.number n in
      let f = part_first q.number n nm r.1 in
      let u = part_unsigned q.number n nm r.1 in
      let ub : is_sign f.0 ≡ false = (subst Unsigned f.2 u).0 in
      lead_out q.minus (p ++ more_written ns qs) f.0 (f.1 ++ more_written ns qs) ub (ap (λ (z : List ℕ). z ++ more_written ns qs) f.2)
      ∙ ap (λ (z : List ℕ). pieces q.minus (p ++ z)) (tails_of qs)
      ∙ pieces_front q.minus p (tails (pieces_of ns qs)) (pieces_of ns qs) u (pieces_tails q.minus (pieces_of ns qs) (unsigned_all qs (q ∷ []) r.3))

  pub field_out : (at : ℕ) (qs : List Part) → ProperSum ns qs → Keeps (sum_clauses ns at [] (terms (sum_written ns qs))) × (sum_of ns (terms (sum_written ns qs)) ≡ qs)
  field_out at qs h =
      let e = terms_out qs h in
      let o = sum_out qs at [] h.1 in
      (subst (λ (ps : List Piece). Keeps (sum_clauses ns at [] ps)) (sym e) o.0, ap (sum_of ns) e ∙ o.1)

  sign_shown : (m : Bool) → Shown (sign_of m)
  sign_shown true = (omega arith, omega arith)
  sign_shown false = (omega arith, omega arith)

  more_shown : (qs : List Part) (done : List Part) → Running ns done qs → AllByRecursion Shown (more_written ns qs)
  more_shown [] done r = tt
  more_shown (q ∷ qs) done r = (
    sign_shown q.minus,
    All-append Shown (part_bytes q.number (get_or ns q.place [])) (more_written ns qs)
        (part_shown q.number (get_or ns q.place []) (All-get_or IsName ns q.place [] r.0 named) r.1) (more_shown qs (done ++ (q ∷ [])) r.3),
  )

  lead_shown : (m : Bool) → AllByRecursion Shown (lead m)
  lead_shown true = ((omega arith, omega arith), tt)
  lead_shown false = tt

  pub sum_shown : (qs : List Part) → Running ns [] qs → AllByRecursion Shown (sum_written ns qs)
  sum_shown [] r = tt
  sum_shown (q ∷ qs) r = All-append Shown (lead q.minus) (part_bytes q.number (get_or ns q.place []) ++ more_written ns qs) (lead_shown q.minus) (more_shown (q ∷ qs) [] r).1

-- ---- the laws
told_sum : (ns : List (List ℕ)) (at : ℕ) (f : List ℕ) (qs : List Part) (o : Option Check) → first_failed (sum_checks ns at [] (terms f)) ≡ o → unless_sum o (sum_of ns (terms f)) ≡ Ok qs → ProperSum ns qs × (f ≡ sum_written ns qs)
told_sum ns at f qs None e h =
    let i = field_in ns at f (keeps (sum_checks ns at [] (terms f)) (sum_clauses ns at [] (terms f)) (sum_agree ns (terms f) at []) e) in
    let same : sum_of ns (terms f) ≡ qs = cc in
    subst (λ (z : List Part). ProperSum ns z × (f ≡ sum_written ns z)) same i
told_sum ns at f qs (Some d) e h = grind arith

pub sum_exact : SumExact
unfolding read_sum
sum_exact ns at f qs named apart = (
  λ e. told_sum ns (at + lead_length f) f qs (first_failed (sum_checks ns (at + lead_length f) [] (terms f))) refl e,
  λ h e.
      let w = sum_written ns qs in
      let a = at + lead_length w in
      let o = field_out ns named apart a qs h in
      ap (read_sum ns at) e
      ∙ ap (λ (c : Option Check). unless_sum c (sum_of ns (terms w))) (passes (sum_checks ns a [] (terms w)) (sum_clauses ns a [] (terms w)) (sum_agree ns (terms w) a []) o.0)
      ∙ ap Ok o.1,
)

failed_sum : (ns : List (List ℕ)) (at : ℕ) (f : List ℕ) (d : Check) (o : Option Check) → first_failed (sum_checks ns at [] (terms f)) ≡ o → unless_sum o (sum_of ns (terms f)) ≡ Err d → Breaks (sum_clauses ns at [] (terms f)) d.refusal d.byte
failed_sum ns at f d None e h = grind arith
failed_sum ns at f d (Some c) e h =
    let same : c ≡ d = cc in
    breaks (sum_checks ns at [] (terms f)) (sum_clauses ns at [] (terms f)) d (sum_agree ns (terms f) at []) (e ∙ ap (λ (x : Check). Some x) same)

pub sum_refusals : SumRefusals
unfolding read_sum
sum_refusals ns at f c i =
    let a = at + lead_length f in (
      λ h. subst (λ (n : Refusal). Breaks (sum_clauses ns a [] (terms f)) n i) h.2
          (subst (λ (j : ℕ). Breaks (sum_clauses ns a [] (terms f)) h.0.refusal j) h.3 (failed_sum ns a f h.0 (first_failed (sum_checks ns a [] (terms f))) refl h.1)),
      λ b. let w = fails (sum_checks ns a [] (terms f)) (sum_clauses ns a [] (terms f)) c i (sum_agree ns (terms f) a []) b in
          (w.0, ap (λ (o : Option Check). unless_sum o (sum_of ns (terms f))) w.1, w.2, w.3),
    )

pub weight_push : WeightPush
weight_push [] q p = omega (arith, ints)
weight_push (r ∷ qs) q p = omega (arith, ints, weight_push qs q p)

-- ---- weights in range
push_in : (ns : List (List ℕ)) (done : List Part) (q : Part) (p : ℕ) → q.place < length ns → nat_abs (weight done q.place +ℤ amount q) ≤ 99 → (nat_abs (weight done p) ≤ 99) × (length ns ≤ p → weight done p ≡ pos 0)
    → (t : Bool) → eqb q.place p ≡ t → (v : ℤ) → v ≡ weight done p +ℤ cond t (amount q) (pos 0) → (nat_abs v ≤ 99) × (length ns ≤ p → v ≡ pos 0)
push_in ns done q p l h w true e v is =
    let same : q.place ≡ p = eqb-true q.place p e in
    (subst (λ (z : ℤ). nat_abs z ≤ 99) (sym is) (subst (λ (i : ℕ). nat_abs (weight done i +ℤ amount q) ≤ 99) same h), λ k. absurd (omega arith))
push_in ns done q p l h w false e v is =
    let same : v ≡ weight done p = is ∙ +ℤ_idr (weight done p) in
    (subst (λ (z : ℤ). nat_abs z ≤ 99) (sym same) w.0, λ k. same ∙ w.1 k)

running_in : (ns : List (List ℕ)) (qs done : List Part) → Running ns done qs → ((p : ℕ) → (nat_abs (weight done p) ≤ 99) × (length ns ≤ p → weight done p ≡ pos 0))
    → (p : ℕ) → (nat_abs (weight (done ++ qs) p) ≤ 99) × (length ns ≤ p → weight (done ++ qs) p ≡ pos 0)
running_in ns [] done r w p = subst (λ (ds : List Part). (nat_abs (weight ds p) ≤ 99) × (length ns ≤ p → weight ds p ≡ pos 0)) (sym (append-nil done)) (w p)
running_in ns (q ∷ qs) done r w p =
    subst (λ (ds : List Part). (nat_abs (weight ds p) ≤ 99) × (length ns ≤ p → weight ds p ≡ pos 0)) (append_assoc done (q ∷ []) qs)
    (running_in ns qs (done ++ (q ∷ [])) r.3 (λ i. push_in ns done q i r.0 r.2 (w i) (eqb q.place i) refl (weight (done ++ (q ∷ [])) i) (weight_push done q i)) p)

pub weights_in : WeightsIn
weights_in ns qs h = running_in ns qs [] h.1 (λ p. (omega arith, λ k. refl))
