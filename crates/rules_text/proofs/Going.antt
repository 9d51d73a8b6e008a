-- The loop over the parts of a sum.
use Rattle.std.proofs.Common.{◌≡◌, ℕ, ◌+◌, ◌<◌, ◌≤◌, min, Bool, true, false, cond, ◌||◌, eqb, leb, ◌⊎◌, List, [], ◌∷◌, ◌++◌, length, get_or, set, take, drop, replicate, to_z, of_z, w32, ℤ, pos, negsuc, ◌+ℤ◌, nat_abs, Some, None, Ok, Err, Option, Result, sym, refl, ap, ◌∙◌, subst, ap₂, inl, inr, append_assoc, append-nil, arith}
use borrow.Author.Differences.{ints}
use Rattle.std.specs.List.{prefix_len}
use Rattle.std.proofs.lemmas.List.{take_all, drop-drop, length-drop, length-replicate, length-set, get_or-replicate, get_or_past, length-take, get_or-drop, get_or-set_same, get_or-set_other}
use Rattle.std.proofs.lemmas.List.Sums.{prefix_len-le-length}
use Rattle.std.proofs.lemmas.Bool.{cond-true, cond-false, cases_lt, eqb-true, eq-eqb, ne_eqb, false≢true, leb-true}
use Rattle.std.proofs.lemmas.Int.{to_z_pos}
use Rattle.model.specs.declared.refusal.Refusal.TheVariants.{Sum}
use Rattle.formats.specs.declared.fault.TextFault.{TextFault}
use Rattle.formats.specs.Words.{none, is_letter, is_digit, index_of, value}
use Rattle.formats.specs.Texts.{Check, check, first_failed, unless, fault}
use Rattle.formats.specs.Sums.{Part, Piece, piece, pieces, terms, lead_length, weight, amount, times, with_sign, digits, body_at, title, left, part_of, sum_of, sum_checks}
use Rattle.formats.proofs.Bridges.{pieces_cut, pieces_last}
use Rattle.formats.proofs.SumLaws.{weight_push}
use Rattle.texts.specs.Spans.{checked}
use Rattle.texts.proofs.Checking.{stops, goes, then_stops}
use Rattle.rules_text.specs.declared.part.Term.{Term}
use Rattle.rules_text.specs.declared.part.Next.{Next}
use Rattle.rules_text.specs.declared.part.Next.TheVariants.{Plus, Minus, Times, Other, End}
use Rattle.rules_text.specs.Sums.{next_at, no_sign, piece_at, number_of, Rest, title_of, term_checks, term_at, Weighs}
use Rattle.rules_text.proofs.Parts.{Means, next_means, piece_size, ends_at, left_over, left_none}

-- from the byte i on, after parts that have the weights w, the sum of the field f comes to what the whole comes to
pub record Going (ns : List (List ℕ)) (at : ℕ) (f : List ℕ) (i : ℕ) (m : Bool) (w : List ℤ) : Type 0 where
  pub done : List Part
  pub same : first_failed (sum_checks ns (at + i) done (pieces m (drop i f))) ≡ first_failed (sum_checks ns (at + lead_length f) [] (terms f))
  pub parts : done ++ sum_of ns (pieces m (drop i f)) ≡ sum_of ns (terms f)
  pub weighs : Weighs w done
  pub small : (p : ℕ) → nat_abs (get_or w p (pos 0)) ≤ 99
  pub inside : i ≤ length f
  pub wide : length w ≡ 32

-- ---- the start
minus_start : (f : List ℕ) → 0 < length f → get_or f 0 0 ≡ 45 → (terms f ≡ pieces true (drop 1 f)) × (lead_length f ≡ 1)
minus_start [] h e = absurd (omega arith)
minus_start (b ∷ bs) h e = (cond-true _ _ _ (eq-eqb b 45 e), cond-true _ _ _ (eq-eqb b 45 e))

plain_start : (f : List ℕ) → (get_or f 0 0 ≡ 45 → ⊥) → (terms f ≡ pieces false f) × (lead_length f ≡ 0)
plain_start [] n = (refl, refl)
plain_start (b ∷ bs) n = (cond-false _ _ _ (ne_eqb b 45 n), cond-false _ _ _ (ne_eqb b 45 n))

module _ (ns : List (List ℕ)) (at : ℕ) (f : List ℕ) (w : List ℤ) (blank : (p : ℕ) → get_or w p (pos 0) ≡ pos 0) (long : length w ≡ 32) where
  begun : (i : ℕ) (m : Bool) → terms f ≡ pieces m (drop i f) → lead_length f ≡ i → i ≤ length f → Going ns at f i m w
  begun i m e l h = record {
    done = [];
    same = ap₂ (λ (j : ℕ) (ps : List Piece). first_failed (sum_checks ns (at + j) [] ps)) (sym l) (sym e);
    parts = ap (sum_of ns) (sym e);
    weighs = blank;
    small = λ p. let z = blank p in omega (arith, ap nat_abs z);
    inside = h;
    wide = long;
  }

  pub starts_minus : Minus ≡ next_at f 0 → (i : ℕ) → i ≡ 1 → Going ns at f i true w
  starts_minus n i e =
      let s = next_means f 0 Minus n in
      let z = minus_start f s.0 s.1 in
      begun i true (z.0 ∙ ap (λ (j : ℕ). pieces true (drop j f)) (sym e)) (z.1 ∙ sym e) (omega (arith, s.0))

  pub starts_plain : (v : Next) → v ≡ next_at f 0 → (v ≡ Minus → ⊥) → (i : ℕ) → i ≡ 0 → Going ns at f i false w
  starts_plain v n no_minus i e =
      let z = plain_start f (at_start v (next_means f 0 v n) no_minus) in
      begun i false (z.0 ∙ ap (λ (j : ℕ). pieces false (drop j f)) (sym e)) (z.1 ∙ sym e) (omega arith)
    where
      past : length f ≤ 0 → get_or f 0 0 ≡ 45 → ⊥
      past h q = omega (arith, get_or_past f 0 0 h, q)

      at_start : (v : Next) → Means f 0 v → (v ≡ Minus → ⊥) → get_or f 0 0 ≡ 45 → ⊥
      at_start Plus m k q = omega (arith, m.1, q)
      at_start Minus m k q = k refl
      at_start Times m k q = omega (arith, m.1, q)
      at_start Other m k q = m.2 q
      at_start End m k q = past m q

-- ---- one part
number_times : (p : List ℕ) → times (cond (none (digits p)) None (Some (value (digits p)))) ≡ number_of p
number_times p = go (none (digits p))
  where
    go : (b : Bool) → times (cond b None (Some (value (digits p)))) ≡ cond b 1 (value (digits p))
    go true = refl
    go false = refl

-- the first piece is the one at i, and the others come after the sign that ends it, if one does
abbrev Others : List ℕ → ℕ → List Piece → Type 0
Others f i ps =
    (length f ≤ i + length (piece_at f i) → ps ≡ [])
    × ((e : ℕ) → i + length (piece_at f i) ≡ e → e < length f → ps ≡ pieces (eqb (get_or f e 0) 45) (drop (e + 1) f))

first_piece : (f : List ℕ) (i : ℕ) (m : Bool) → i ≤ length f → (ps : List Piece) × (pieces m (drop i f) ≡ piece m (piece_at f i) ∷ ps) × Others f i ps
first_piece f i m h = go (cases_lt (prefix_len no_sign (drop i f)) (length (drop i f)))
  where
    go : (prefix_len no_sign (drop i f) < length (drop i f)) ⊎ (length (drop i f) ≤ prefix_len no_sign (drop i f)) → (ps : List Piece) × (pieces m (drop i f) ≡ piece m (piece_at f i) ∷ ps) × Others f i ps
    go (inl l) =
        let n = prefix_len no_sign (drop i f) in (
          pieces (eqb (get_or (drop i f) n 0) 45) (drop (n + 1) (drop i f)),
          pieces_cut m (drop i f) l,
          (
            λ k. absurd (omega (arith, piece_size f i, length-drop i f)),
            λ e q k.
                let at : i + n ≡ e = omega (arith, piece_size f i) in
                ap₂ (λ (b : ℕ) (t : List ℕ). pieces (eqb b 45) t) (get_or-drop i f n 0 ∙ ap (λ (j : ℕ). get_or f j 0) at) (drop-drop (n + 1) i f ∙ ap (λ (j : ℕ). drop j f) (omega arith)),
          ),
        )
    go (inr l) = (
      [],
      pieces_last m (drop i f) (omega (arith, prefix_len-le-length no_sign (drop i f))) ∙ ap (λ (b : List ℕ). piece m b ∷ []) (sym (take_all (prefix_len no_sign (drop i f)) (drop i f) l)),
      (λ k. refl, λ e q k. absurd (omega (arith, piece_size f i, length-drop i f))),
    )

add_nothing : (z : ℤ) → z +ℤ pos 0 ≡ z
add_nothing z = omega (arith, ints)

-- the weight of the place x with z more, after one part more
more_weighs : (w : List ℤ) (qs : List Part) (q : Part) (x : ℕ) (v : ℤ) → Weighs w qs → q.place ≡ x → x < length w → v ≡ get_or w x (pos 0) +ℤ amount q → Weighs (set w x v) (qs ++ (q ∷ []))
more_weighs w qs q x v h e l is p = go (eqb q.place p) refl
  where
    go : (b : Bool) → eqb q.place p ≡ b → get_or (set w x v) p (pos 0) ≡ weight (qs ++ (q ∷ [])) p
    go true t =
        let same : x ≡ p = sym e ∙ eqb-true q.place p t in
        ap (λ (j : ℕ). get_or (set w x v) j (pos 0)) (sym same) ∙ get_or-set_same w x v (pos 0) l ∙ is ∙ ap (λ (j : ℕ). get_or w j (pos 0) +ℤ amount q) same ∙ ap (λ (z : ℤ). z +ℤ amount q) (h p)
        ∙ sym (weight_push qs q p ∙ ap (λ (b : Bool). weight qs p +ℤ cond b (amount q) (pos 0)) t)
    go false t =
        let other : p ≡ x → ⊥ = λ k. false≢true (sym t ∙ eq-eqb q.place p (e ∙ sym k)) in
        get_or-set_other w x p v (pos 0) other ∙ h p
        ∙ sym (weight_push qs q p ∙ ap (λ (b : Bool). weight qs p +ℤ cond b (amount q) (pos 0)) t ∙ add_nothing (weight qs p))

more_small : (w : List ℤ) (x : ℕ) (v : ℤ) → x < length w → ((p : ℕ) → nat_abs (get_or w p (pos 0)) ≤ 99) → nat_abs v ≤ 99 → (p : ℕ) → nat_abs (get_or (set w x v) p (pos 0)) ≤ 99
more_small w x v l h k p = go (eqb p x) refl
  where
    go : (b : Bool) → eqb p x ≡ b → nat_abs (get_or (set w x v) p (pos 0)) ≤ 99
    go true t = subst (λ (z : ℤ). nat_abs z ≤ 99) (sym (ap (λ (j : ℕ). get_or (set w x v) j (pos 0)) (eqb-true p x t) ∙ get_or-set_same w x v (pos 0) l)) k
    go false t = subst (λ (z : ℤ). nat_abs z ≤ 99) (sym (get_or-set_other w x p v (pos 0) (λ e. false≢true (sym t ∙ eq-eqb p x e)))) (h p)

-- a turn: the part t was read at i, and its place has the weight x with it
module _ (ns : List (List ℕ)) (at : ℕ) (f : List ℕ) (i k : ℕ) (m : Bool) (w : List ℤ) (g : Going ns at f i m w) where
  abbrev p : List ℕ
  p = piece_at f i

  abbrev q : Part
  q = part_of ns m p

  abbrev whole : List Check
  whole = sum_checks ns (at + lead_length f) [] (terms f)

  abbrev rest : List Piece
  rest = (first_piece f i m g.inside).0

  abbrev after : List Check
  after = sum_checks ns (at + i + length p + 1) (g.done ++ (q ∷ [])) rest

  abbrev answer : Result (Unit {0}) TextFault
  answer = checked whole k tt

  -- the checks of the weight and of what is left
  abbrev last_two : List Check
  last_two =
      check (leb (nat_abs (weight g.done (index_of ns (title p)) +ℤ amount q)) 99) Sum (at + i + body_at p)
      ∷ check (none (left p)) Sum (at + i + body_at p + length (title p))
      ∷ []

  whole_is : first_failed whole ≡ first_failed (term_checks ns (at + i) p ++ (last_two ++ after))
  whole_is = sym g.same ∙ ap (λ (ps : List Piece). first_failed (sum_checks ns (at + i) g.done ps)) (first_piece f i m g.inside).1

  by_whole : (e : TextFault) → ◌≡◌ {A = Result (Unit {0}) TextFault} (Err e) (unless (first_failed (term_checks ns (at + i) p ++ (last_two ++ after))) k (Ok tt)) → Err e ≡ answer
  by_whole e h = h ∙ ap (λ (o : Option Check). unless {X = Unit {0}} o k (Ok tt)) (sym whole_is)

  pub term_refused : (e : TextFault) → Err e ≡ checked (term_checks ns (at + i) p) k (term_at ns i p) → Err e ≡ answer
  term_refused e h = by_whole e (stops (term_checks ns (at + i) p) (last_two ++ after) k (term_at ns i p) (Ok tt) e h)

  module _ (t : Term) (x : ℤ) (read : Ok t ≡ checked (term_checks ns (at + i) p) k (term_at ns i p)) (from : Rest f i t.name) (is : x ≡ get_or w t.place (pos 0) +ℤ with_sign m t.number) where
    t_is : t ≡ term_at ns i p
    t_is = (goes (term_checks ns (at + i) p) [] k (term_at ns i p) t read).0

    place_is : t.place ≡ index_of ns (title p)
    place_is = ap (λ (u : Term). u.place) t_is

    number_is : with_sign m t.number ≡ amount q
    number_is = ap (λ (u : Term). with_sign m u.number) t_is ∙ ap (with_sign m) (sym (number_times p))

    name_is : t.name ≡ i + body_at p
    name_is = ap (λ (u : Term). u.name) t_is

    end_is : t.end ≡ i + body_at p + length (title p)
    end_is = ap (λ (u : Term). u.end) t_is

    weight_is : weight g.done (index_of ns (title p)) +ℤ amount q ≡ x
    weight_is = sym (is ∙ ap₂ (λ (a b : ℤ). a +ℤ b) (g.weighs t.place ∙ ap (weight g.done) place_is) number_is)

    to_last : (e : TextFault) → ◌≡◌ {A = Result (Unit {0}) TextFault} (Err e) (unless (first_failed (last_two ++ after)) k (Ok tt)) → Err e ≡ answer
    to_last e h = by_whole e (then_stops (term_checks ns (at + i) p) (last_two ++ after) k (term_at ns i p) t (Ok tt) e read h)

    pub weight_refused : (e : TextFault) → Err e ≡ checked {A = Unit {0}} (check (leb (nat_abs x) 99) Sum (at + t.name) ∷ []) k tt → Err e ≡ answer
    weight_refused e h =
        to_last e
        (stops (check (leb (nat_abs (weight g.done (index_of ns (title p)) +ℤ amount q)) 99) Sum (at + i + body_at p) ∷ []) (check (none (left p)) Sum (at + i + body_at p + length (title p)) ∷ after) k tt (Ok tt) e
        (h ∙ ap₂ (λ (y : ℤ) (j : ℕ). checked {A = Unit {0}} (check (leb (nat_abs y) 99) Sum j ∷ []) k tt) (sym weight_is) (omega (arith, name_is))))

    -- the name ends inside its piece
    abbrev named : List ℕ
    named = piece_at f t.name

    title_size : length (title p) ≤ length named
    title_size = omega (arith, ap (λ (b : List ℕ). length (title_of b)) from.0, length_title named)
      where
        short : (j : ℕ) (b : List ℕ) → length (take j b) ≤ length b
        short j b = omega (arith, length-take j b)

        length_title : (b : List ℕ) → length (title_of b) ≤ length b
        length_title b = short (min 12 (prefix_len (λ c. is_letter c || is_digit c) b)) b

    left_is : none (left p) ≡ none (drop (length (title p)) named)
    left_is = ap (λ (b : List ℕ). none (drop (length (title p)) b)) from.0

    end_at : t.end ≡ t.name + length (title p)
    end_at = omega (arith, end_is, name_is)

    module _ (fits : leb (nat_abs x) 99 ≡ true) where
      weight_fits : leb (nat_abs (weight g.done (index_of ns (title p)) +ℤ amount q)) 99 ≡ true
      weight_fits = ap (λ (y : ℤ). leb (nat_abs y) 99) weight_is ∙ fits

      pub left_refused : (v : Next) → v ≡ next_at f t.end → (v ≡ Other) ⊎ (v ≡ Times) → Err (fault Sum k (at + t.end)) ≡ answer
      left_refused v n odd =
          let l : none (left p) ≡ false = left_is ∙ left_over f t.name (length (title p)) t.end end_at title_size v n odd in
          to_last (fault Sum k (at + t.end))
          (subst (λ (b : Bool). ◌≡◌ {A = Result (Unit {0}) TextFault} (Err (fault Sum k (at + t.end))) (unless (cond b (cond (none (left p)) (first_failed after) (Some (check (none (left p)) Sum (at + i + body_at p + length (title p))))) (Some (check b Sum (at + i + body_at p)))) k (Ok tt))) (sym weight_fits)
          (subst (λ (b : Bool). ◌≡◌ {A = Result (Unit {0}) TextFault} (Err (fault Sum k (at + t.end))) (unless (cond b (first_failed after) (Some (check b Sum (at + i + body_at p + length (title p))))) k (Ok tt))) (sym l)
          (ap (λ (j : ℕ). Err (fault Sum k j)) (omega (arith, end_is)))))

      module _ (v : Next) (n : v ≡ next_at f t.end) (no_times : v ≡ Times → ⊥) (no_other : v ≡ Other → ⊥) (in_places : t.place < 32) where
        in_weights : t.place < length w
        in_weights = omega (arith, g.wide)

        named_size : length named ≡ length (title p)
        named_size = ends_at f t.name (length (title p)) t.end end_at title_size v n no_times no_other

        -- the piece ends where the name does
        piece_end : i + length p ≡ t.end
        piece_end = omega (arith, from.1, named_size, end_at)

        left_fine : none (left p) ≡ true
        left_fine = left_is ∙ left_none f t.name (length (title p)) t.end end_at title_size named_size

        whole_after : first_failed whole ≡ first_failed after
        whole_after =
            whole_is ∙ (goes (term_checks ns (at + i) p) (last_two ++ after) k (term_at ns i p) t read).1
            ∙ ap (λ (b : Bool). cond b (cond (none (left p)) (first_failed after) (Some (check (none (left p)) Sum (at + i + body_at p + length (title p))))) (Some (check b Sum (at + i + body_at p)))) weight_fits
            ∙ ap (λ (b : Bool). cond b (first_failed after) (Some (check b Sum (at + i + body_at p + length (title p))))) left_fine

        parts_after : (g.done ++ (q ∷ [])) ++ sum_of ns rest ≡ sum_of ns (terms f)
        parts_after = append_assoc g.done (q ∷ []) (sum_of ns rest) ∙ ap (λ (ps : List Piece). g.done ++ sum_of ns ps) (sym (first_piece f i m g.inside).1) ∙ g.parts

        weighs_after : Weighs (set w t.place x) (g.done ++ (q ∷ []))
        weighs_after = more_weighs w g.done q t.place x g.weighs (sym place_is) in_weights (is ∙ ap (λ (z : ℤ). get_or w t.place (pos 0) +ℤ z) number_is)

        pub finished : End ≡ next_at f t.end → (first_failed whole ≡ None) × Weighs (set w t.place x) (sum_of ns (terms f))
        finished z =
            let past = next_means f t.end End z in
            let none_left : rest ≡ [] = (first_piece f i m g.inside).2.0 (omega (arith, piece_end, past)) in (
              whole_after ∙ ap (λ (ps : List Piece). first_failed (sum_checks ns (at + i + length p + 1) (g.done ++ (q ∷ [])) ps)) none_left,
              subst (Weighs (set w t.place x)) (sym (append-nil (g.done ++ (q ∷ []))) ∙ ap (λ (ps : List Piece). (g.done ++ (q ∷ [])) ++ sum_of ns ps) (sym none_left) ∙ parts_after) weighs_after,
            )

        pub turns : t.end < length f → (s : Bool) → eqb (get_or f t.end 0) 45 ≡ s → Going ns at f (t.end + 1) s (set w t.place x)
        turns lt s signed =
            let next : rest ≡ pieces s (drop (t.end + 1) f) = (first_piece f i m g.inside).2.1 t.end piece_end lt ∙ ap (λ (b : Bool). pieces b (drop (t.end + 1) f)) signed in
            record {
              done = g.done ++ (q ∷ []);
              same = ap₂ (λ (j : ℕ) (ps : List Piece). first_failed (sum_checks ns j (g.done ++ (q ∷ [])) ps)) (omega (arith, piece_end)) (sym next) ∙ sym whole_after;
              parts = ap (λ (ps : List Piece). (g.done ++ (q ∷ [])) ++ sum_of ns ps) (sym next) ∙ parts_after;
              weighs = weighs_after;
              small = more_small w t.place x in_weights g.small (leb-true (nat_abs x) 99 fits);
              inside = omega arith;
              wide = length-set w t.place x ∙ g.wide;
            }

  -- the part ends further on
  pub further : (t : Term) → Ok t ≡ checked (term_checks ns (at + i) p) k (term_at ns i p) → i ≤ t.end
  further t read = let e = ap (λ (u : Term). u.end) (goes (term_checks ns (at + i) p) [] k (term_at ns i p) t read).0 in omega arith

-- ---- the weights as they are held
pub blank : (p : ℕ) → get_or (replicate 32 (pos 0)) p (pos 0) ≡ pos 0
blank p = elim (cases_lt p 32) [
  | inl l ↦ get_or-replicate 32 p (pos 0) (pos 0) l
  | inr l ↦ get_or_past (replicate 32 (pos 0)) p (pos 0) (omega (arith, length-replicate 32 (pos 0)))
]

pub kept : (x : ℤ) → nat_abs x ≤ 198 → to_z w32 (of_z w32 x) ≡ x
kept (pos n) h = to_z_pos w32 n (omega arith)
kept (negsuc n) h = omega (arith, ints)

-- the sum of a weight that is held and of what a part adds
pub plus_kept : (w y x : ℤ) → nat_abs w ≤ 99 → x ≡ to_z w32 (of_z w32 w) +ℤ y → x ≡ w +ℤ y
plus_kept w y x h e = e ∙ ap (λ (z : ℤ). z +ℤ y) (kept w (omega arith))

pub test_kept : (x : ℤ) (b : Bool) → nat_abs x ≤ 198 → b ≡ leb (nat_abs (to_z w32 (of_z w32 x))) 99 → b ≡ leb (nat_abs x) 99
test_kept x b h e = e ∙ ap (λ (z : ℤ). leb (nat_abs z) 99) (kept x h)
