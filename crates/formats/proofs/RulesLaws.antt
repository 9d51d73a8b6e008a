-- The laws of the rules text.
use Rattle.std.proofs.Common.{◌≡◌, ℕ, zero, suc, ◌+◌, ◌^◌, ◌<◌, ◌≤◌, Bool, true, false, cond, ◌&&◌, eqb, leb, ◌⊎◌, List, [], ◌∷◌, ◌++◌, map, length, ℤ, pos, negsuc, neg_ℤ, nat_abs, Some, None, codes, decimal, Decides, Option, sym, refl, ap, ◌∙◌, subst, ap₂, inl, inr, arith}
use Rattle.std.specs.Fmt.{signed_decimal}
use Rattle.std.specs.List.{AllByRecursion}
use Rattle.std.specs.Str.{bytes_eq, all_ascii_digits}
use Rattle.std.proofs.lemmas.List.{map_push, length_push}
use Rattle.std.proofs.ByRecursion.{All-push, All-append}
use Rattle.std.proofs.lemmas.Slice.Eq.{bytes_eq-Decides}
use Rattle.std.proofs.lemmas.Fmt.{digits_decimal, decimal_nonempty}
use Rattle.std.proofs.lemmas.Str.Parse.{tells_all_ascii_digits}
use Rattle.std.proofs.lemmas.Bool.{cond-false, eqb-true, ne_eqb, false≢true}
use Rattle.std.proofs.lemmas.Bool.Decides.{Decides-and, Decides-ltb}
use Rattle.formats.specs.Words.{Shown, IsName, Apart, is_numeral, value}
use Rattle.formats.specs.Texts.{Check, Clause, Keeps, RightSoFar, Exact, Refusals, EachText}
use Rattle.formats.specs.Sums.{Part, sum_written, terms, lead_length, sum_of, sum_checks, sum_clauses}
use Rattle.formats.specs.NetText.{NetText, names, place_names, move_names, Right}
use Rattle.formats.specs.RulesText.{RuleLine, RulesText, all_lines, rule_names, line_row, rule_rows, RightLine, RightRules, Bound, RuleShape, rule_shape, line_clauses, clauses_of, rules_meaning, is_bound, bound_of, line_of, line_checks, checks_of, opened, add_rule, after_rule, rules_reader}
use Rattle.formats.specs.RulesText.RuleShape.{a_fixed, a_rule, neither}
use Rattle.formats.specs.Laws.{RulesExact, RulesRefusals, RulesDecided}
use Rattle.formats.proofs.Tests.{own, value_of, d_leb, refused, d_name, d_new, d_numeral, numeral_is}
use Rattle.formats.proofs.Bytes.{Clean, name_shown, decimal_shown, word_shown}
use Rattle.formats.proofs.Ordered.{Agree, agree_append}
use Rattle.formats.proofs.NetAdding.{one_more, all_pop, all_split, apart_push, apart_pop, apart_split}
use Rattle.formats.proofs.SumLaws.{keeps_split, keeps_append, sum_agree, field_in, field_out, sum_shown}
use Rattle.formats.proofs.Whole.{rows_so_far, Traced, Lawful, begin, extend, from_end, exact, refusals, each_text}

-- ---- bounds
minus_written : (v : ℕ) → 1 ≤ v → (signed_decimal (neg_ℤ (pos v)) ≡ 45 ∷ decimal v) × (nat_abs (neg_ℤ (pos v)) ≡ v)
minus_written zero h = absurd (omega arith)
minus_written (suc v) h = (refl, refl)

bound_fits : (f : List ℕ) → is_bound f ≡ true → (nat_abs (bound_of f) < 10 ^ 6) × (f ≡ signed_decimal (bound_of f))
bound_fits [] e = absurd (false≢true e)
bound_fits (c ∷ cs) e = go (eqb c 45) refl e
  where
    go : (t : Bool) → eqb c 45 ≡ t → cond t (is_numeral 6 cs && leb 1 (value cs)) (is_numeral 6 (c ∷ cs)) ≡ true
        → (nat_abs (cond t (neg_ℤ (pos (value cs))) (pos (value (c ∷ cs)))) < 10 ^ 6) × (c ∷ cs ≡ signed_decimal (cond t (neg_ℤ (pos (value cs))) (pos (value (c ∷ cs)))))
    go true q h =
        let p = (Decides-and (is_numeral 6 cs) (leb 1 (value cs)) (d_numeral 6 cs (omega arith) (omega arith)) (d_leb 1 (value cs))).0 h in
        let w = numeral_is 6 cs (omega arith) p.0 in
        let m = minus_written (value cs) p.1 in
        (omega (arith, w.0, m.1), ap₂ (λ (u : ℕ) (v : List ℕ). u ∷ v) (eqb-true c 45 q) w.1 ∙ sym m.0)
    go false q h = let w = numeral_is 6 (c ∷ cs) (omega arith) ((d_numeral 6 (c ∷ cs) (omega arith) (omega arith)).0 h) in (omega (arith, w.0), w.1)

-- a written number does not begin with a minus
plain_bound : (n : ℕ) (ds : List ℕ) → ds ≡ decimal n → n < 10 ^ 6 → (is_bound ds ≡ true) × (bound_of ds ≡ pos n)
plain_bound n [] e l = absurd (omega (arith, ap length e, decimal_nonempty n (omega arith)))
plain_bound n (c ∷ cs) e l =
    let d = (tells_all_ascii_digits.parts c cs (subst (λ (z : List ℕ). all_ascii_digits z ≡ true) (sym e) (digits_decimal own n (omega arith)))).0 in
    let z : eqb c 45 ≡ false = ne_eqb c 45 (λ q. omega arith) in (
      cond-false (eqb c 45) (is_numeral 6 cs && leb 1 (value cs)) (is_numeral 6 (c ∷ cs)) z ∙ (d_numeral 6 (c ∷ cs) (omega arith) (omega arith)).1 (n, l, e),
      cond-false (eqb c 45) (neg_ℤ (pos (value cs))) (pos (value (c ∷ cs))) z ∙ ap pos (ap value e ∙ value_of n (omega arith)),
    )

written_bound : (z : ℤ) → nat_abs z < 10 ^ 6 → (is_bound (signed_decimal z) ≡ true) × (bound_of (signed_decimal z) ≡ z)
written_bound (pos n) h = plain_bound n (decimal n) refl (omega arith)
written_bound (negsuc n) h =
    let v : value (decimal (suc n)) ≡ suc n = value_of (suc n) (omega arith) in
    let ds = decimal (suc n) in (
      (Decides-and (is_numeral 6 ds) (leb 1 (value ds)) (d_numeral 6 ds (omega arith) (omega arith)) (d_leb 1 (value ds))).1 ((suc n, omega arith, refl), omega arith),
      ap (λ (u : ℕ). neg_ℤ (pos u)) v,
    )

d_bound : (f : List ℕ) → Decides (is_bound f) (Bound f)
d_bound f = (
  λ e. (bound_of f, (bound_fits f e).0, (bound_fits f e).1),
  λ h. subst (λ (g : List ℕ). is_bound g ≡ true) (sym h.2) (written_bound h.0 h.1).0,
)

bound_shown : (z : ℤ) → nat_abs z < 10 ^ 6 → AllByRecursion Shown (signed_decimal z)
bound_shown (pos n) h = decimal_shown n (omega arith)
bound_shown (negsuc n) h = ((omega arith, omega arith), decimal_shown (suc n) (omega arith))

-- ---- checks and clauses
line_agree : (used ps : List (List ℕ)) (at : ℕ) (n s b : List ℕ) → Agree (line_checks used ps at n s b) (line_clauses used ps at n s b)
line_agree used ps at n s b = (
  d_name n,
  refl,
  refl,
  (
    d_new used n,
    refl,
    refl,
    agree_append (sum_checks ps (at + length n + 1 + lead_length s) [] (terms s)) _ (sum_clauses ps (at + length n + 1 + lead_length s) [] (terms s)) _
        (sum_agree ps (terms s) (at + length n + 1 + lead_length s) []) (d_bound b, refl, refl, tt),
  ),
)

agree_shape : (taken ps : List (List ℕ)) (s : Option RulesText) (at : ℕ) (l : RuleShape) → Agree (checks_of taken ps s at l) (clauses_of taken ps s at l)
agree_shape taken ps None at (a_fixed n s b) = line_agree taken ps (at + 6) n s b
agree_shape taken ps None at (a_rule n s b) = (refused, refl, refl, tt)
agree_shape taken ps None at neither = (refused, refl, refl, tt)
agree_shape taken ps (Some x) at (a_fixed n s b) = (refused, refl, refl, tt)
agree_shape taken ps (Some x) at (a_rule n s b) = (Decides-ltb (length x.others) 12, refl, refl, line_agree (taken ++ rule_names x) ps (at + 5) n s b)
agree_shape taken ps (Some x) at neither = (refused, refl, refl, tt)

-- ---- a line
abbrev pub line_fields : RuleShape → List (List ℕ)
line_fields (a_fixed n s b) = codes "fixed" ∷ n ∷ s ∷ b ∷ []
line_fields (a_rule n s b) = codes "rule" ∷ n ∷ s ∷ b ∷ []
line_fields neither = []

pub shape_is : (fs : List (List ℕ)) → (rule_shape fs ≡ neither) ⊎ (fs ≡ line_fields (rule_shape fs))
shape_is [] = inl refl
shape_is (w ∷ []) = inl refl
shape_is (w ∷ a ∷ []) = inl refl
shape_is (w ∷ a ∷ b ∷ []) = inl refl
shape_is (w ∷ a ∷ b ∷ c ∷ []) = go (bytes_eq w (codes "fixed")) refl (bytes_eq w (codes "rule")) refl
  where
    go : (t : Bool) → bytes_eq w (codes "fixed") ≡ t → (u : Bool) → bytes_eq w (codes "rule") ≡ u
        → (cond t (a_fixed a b c) (cond u (a_rule a b c) neither) ≡ neither) ⊎ (w ∷ a ∷ b ∷ c ∷ [] ≡ line_fields (cond t (a_fixed a b c) (cond u (a_rule a b c) neither)))
    go true e u f = inr (ap (λ (v : List ℕ). v ∷ a ∷ b ∷ c ∷ []) ((bytes_eq-Decides w (codes "fixed")).0 e))
    go false e true f = inr (ap (λ (v : List ℕ). v ∷ a ∷ b ∷ c ∷ []) ((bytes_eq-Decides w (codes "rule")).0 f))
    go false e false f = inl refl
shape_is (w ∷ a ∷ b ∷ c ∷ d ∷ fs) = inl refl

line_in : (used ps : List (List ℕ)) (at : ℕ) (n s b word : List ℕ) → Keeps (line_clauses used ps at n s b) → RightLine used ps (line_of ps n s b) × (line_row ps word (line_of ps n s b) ≡ word ∷ n ∷ s ∷ b ∷ [])
line_in used ps at n s b word h =
    let k = keeps_split (sum_clauses ps (at + length n + 1 + lead_length s) [] (terms s)) _ h.1.1 in
    let f = field_in ps (at + length n + 1 + lead_length s) s k.0 in
    let w = bound_fits b ((d_bound b).1 k.1.0) in
    ((h.0, h.1.0, f.0, w.0), ap₂ (λ (u v : List ℕ). word ∷ n ∷ u ∷ v ∷ []) (sym f.1) (sym w.1))

line_same : (n : List ℕ) (qs : List Part) (z : ℤ) (r : RuleLine) → n ≡ r.name → qs ≡ r.sum → z ≡ r.bound → ◌≡◌ {A = RuleLine} (record { name = n; sum = qs; bound = z }) r
line_same n qs z r e1 e2 e3 = λ i. record { name = e1 i; sum = e2 i; bound = e3 i }

module _ (ps : List (List ℕ)) (named : AllByRecursion IsName ps) (apart : Apart (λ m n. m ≡ n) ps) where
  line_out : (used : List (List ℕ)) (at : ℕ) (r : RuleLine) → RightLine used ps r
      → Keeps (line_clauses used ps at r.name (sum_written ps r.sum) (signed_decimal r.bound)) × (line_of ps r.name (sum_written ps r.sum) (signed_decimal r.bound) ≡ r)
  line_out used at r h =
      let s = sum_written ps r.sum in
      let a = at + length r.name + 1 + lead_length s in
      let f = field_out ps named apart a r.sum h.2 in
      let w = written_bound r.bound h.3 in (
        (h.0, (h.1, keeps_append (sum_clauses ps a [] (terms s)) _ f.0 (((r.bound, h.3, refl)), tt))),
        line_same r.name (sum_of ps (terms s)) (bound_of (signed_decimal r.bound)) r refl f.1 w.1,
      )

  line_clean : (used : List (List ℕ)) (word : List ℕ) (r : RuleLine) → AllByRecursion Shown word → RightLine used ps r → Clean (line_row ps word r)
  line_clean used word r c h = (c, (name_shown r.name h.0, (sum_shown ps named apart r.sum h.2.1, (bound_shown r.bound h.3, tt))))

-- ---- one more rule
names_push : (x : RulesText) (r : RuleLine) → rule_names (add_rule x r) ≡ rule_names x ++ (r.name ∷ [])
names_push x r = map_push (λ (q : RuleLine). q.name) (all_lines x) r

rows_push : (ps : List (List ℕ)) (x : RulesText) (r : RuleLine) → rule_rows ps (add_rule x r) ≡ rule_rows ps x ++ (line_row ps (codes "rule") r ∷ [])
rows_push ps x r = ap (λ (z : List (List (List ℕ))). line_row ps (codes "fixed") x.fixed ∷ z) (map_push (line_row ps (codes "rule")) x.others r)

rule_in : (taken ps : List (List ℕ)) (x : RulesText) (r : RuleLine) → RightRules taken ps x → length x.others < 12 → RightLine (taken ++ rule_names x) ps r → RightRules taken ps (add_rule x r)
rule_in taken ps x r h l w =
    let n = all_split (λ m. m ≡ r.name → ⊥) taken (rule_names x) w.1 in
    record {
      few = omega (arith, length_push x.others r);
      each = All-push (RightLine taken ps) (all_lines x) r h.each (w.0, n.0, w.2, w.3);
      different = subst (Apart (λ i j. i ≡ j)) (sym (names_push x r)) (apart_push (λ i j. i ≡ j) (rule_names x) r.name h.different n.1);
    }

rule_out : (taken ps : List (List ℕ)) (x : RulesText) (r : RuleLine) → RightRules taken ps (add_rule x r) → RightRules taken ps x × ((length x.others < 12) × RightLine (taken ++ rule_names x) ps r)
rule_out taken ps x r h =
    let l : length x.others < 12 = omega (arith, length_push x.others r, h.few) in
    let a = all_pop (RightLine taken ps) (all_lines x) r h.each in
    let d = apart_pop (λ i j. i ≡ j) (rule_names x) r.name (subst (Apart (λ i j. i ≡ j)) (names_push x r) h.different) in (
      record { few = omega arith; each = a.0; different = d.0 },
      (l, (a.1.0, All-append (λ m. m ≡ r.name → ⊥) taken (rule_names x) a.1.1 d.1, a.1.2, a.1.3)),
    )

-- ---- the laws, for the names of a net
agree_line : (taken ps : List (List ℕ)) (s : Option RulesText) (at : ℕ) (fs : List (List ℕ)) → Agree ((rules_reader taken ps).checks s at fs) ((rules_meaning taken ps).clauses s at fs)
agree_line taken ps s at fs = agree_shape taken ps s at (rule_shape fs)

advance_shape : (taken ps : List (List ℕ)) (s : Option RulesText) (at : ℕ) (l : RuleShape) → RightSoFar (rules_meaning taken ps) s → Keeps (clauses_of taken ps s at l)
    → RightRules taken ps (after_rule ps s l) × (rule_rows ps (after_rule ps s l) ≡ rows_so_far (rules_meaning taken ps) s ++ (line_fields l ∷ []))
advance_shape taken ps None at (a_fixed n s b) r h =
    let w = line_in taken ps (at + 6) n s b (codes "fixed") h in
    (record { few = omega arith; each = (w.0, tt); different = (tt, tt) }, ap (λ (z : List (List ℕ)). z ∷ []) w.1)
advance_shape taken ps None at (a_rule n s b) r h = absurd h.0
advance_shape taken ps None at neither r h = absurd h.0
advance_shape taken ps (Some x) at (a_fixed n s b) r h = absurd h.0
advance_shape taken ps (Some x) at (a_rule n s b) r h =
    let q = line_of ps n s b in
    let w = line_in (taken ++ rule_names x) ps (at + 5) n s b (codes "rule") h.1 in
    (rule_in taken ps x q r h.0 w.0, one_more (rule_rows ps x) (rule_rows ps (add_rule x q)) (line_row ps (codes "rule") q) (codes "rule" ∷ n ∷ s ∷ b ∷ []) (rows_push ps x q) w.1)
advance_shape taken ps (Some x) at neither r h = absurd h.0

no_keeps : (taken ps : List (List ℕ)) (s : Option RulesText) (at : ℕ) → Keeps (clauses_of taken ps s at neither) → ⊥
no_keeps taken ps None at h = h.0
no_keeps taken ps (Some x) at h = h.0

advance_line : (taken ps : List (List ℕ)) (s : Option RulesText) (at : ℕ) (fs : List (List ℕ)) → RightSoFar (rules_meaning taken ps) s → Keeps (clauses_of taken ps s at (rule_shape fs))
    → RightRules taken ps (after_rule ps s (rule_shape fs)) × (rule_rows ps (after_rule ps s (rule_shape fs)) ≡ rows_so_far (rules_meaning taken ps) s ++ (fs ∷ []))
advance_line taken ps s at fs r h =
    let l = rule_shape fs in
    elim (shape_is fs) [
      | inl e ↦ absurd (no_keeps taken ps s at (subst (λ (z : RuleShape). Keeps (clauses_of taken ps s at z)) e h))
      | inr e ↦ (
        (advance_shape taken ps s at l r h).0,
        one_more (rows_so_far (rules_meaning taken ps) s) (rule_rows ps (after_rule ps s l)) (line_fields l) fs (advance_shape taken ps s at l r h).1 (sym e),
      )
    ]

module _ (taken ps : List (List ℕ)) (named : AllByRecursion IsName ps) (apart : Apart (λ m n. m ≡ n) ps) where
  opened_traced : (r : RuleLine) → RightLine taken ps r → Traced (rules_reader taken ps) (rules_meaning taken ps) (opened r)
  opened_traced r h =
      let o = line_out ps named apart taken 6 r h in
      begin (rules_reader taken ps) (rules_meaning taken ps) (agree_line taken ps) (opened r) (codes "fixed") (r.name ∷ sum_written ps r.sum ∷ signed_decimal r.bound ∷ []) refl
      (line_clean ps named apart taken (codes "fixed") r (word_shown (codes "fixed") refl) h) o.0 (ap opened o.1)

  rule_traced : (x : RulesText) (r : RuleLine) → length x.others < 12 → RightLine (taken ++ rule_names x) ps r → Traced (rules_reader taken ps) (rules_meaning taken ps) x → Traced (rules_reader taken ps) (rules_meaning taken ps) (add_rule x r)
  rule_traced x r l h t =
      let at = length (Rattle.formats.specs.Texts.written (rules_meaning taken ps) x) in
      let o = line_out ps named apart (taken ++ rule_names x) (at + 5) r h in
      extend (rules_reader taken ps) (rules_meaning taken ps) (agree_line taken ps) x (add_rule x r) (codes "rule") (r.name ∷ sum_written ps r.sum ∷ signed_decimal r.bound ∷ []) (rows_push ps x r)
      (line_clean ps named apart (taken ++ rule_names x) (codes "rule") r (word_shown (codes "rule") refl) h) (l, o.0) (ap (add_rule x) o.1) t

  rules_traced : (f : RuleLine) (rs : List RuleLine) → RightRules taken ps (record { fixed = f; others = rs }) → Traced (rules_reader taken ps) (rules_meaning taken ps) (record { fixed = f; others = rs })
  rules_traced f rs =
      from_end (λ (qs : List RuleLine). RightRules taken ps (record { fixed = f; others = qs }) → Traced (rules_reader taken ps) (rules_meaning taken ps) (record { fixed = f; others = qs }))
      (λ r. opened_traced f r.each.0)
      (λ qs q h r.
      let o = rule_out taken ps (record { fixed = f; others = qs }) q r in
      rule_traced (record { fixed = f; others = qs }) q o.1.0 o.1.1 (h o.0))
      rs

  lawful : Lawful (rules_reader taken ps) (rules_meaning taken ps)
  lawful = record {
    agree = agree_line taken ps;
    d_whole = λ x. (λ e. tt, λ h. refl);
    advance = advance_line taken ps;
    traced = λ x r. rules_traced x.fixed x.others r;
    some_row = λ x. (line_row ps (codes "fixed") x.fixed, map (line_row ps (codes "rule")) x.others, refl);
  }

-- against a right net
net_lawful : (x : NetText) → Right x → Lawful (rules_reader (names x) (place_names x)) (rules_meaning (names x) (place_names x))
net_lawful x r =
    lawful (names x) (place_names x) (all_split IsName (place_names x) (move_names x) r.named).0 (apart_split (λ m n. m ≡ n) (place_names x) (move_names x) r.different).0

pub rules_exact : RulesExact
rules_exact x r = exact (rules_reader (names x) (place_names x)) (rules_meaning (names x) (place_names x)) (net_lawful x r)

pub rules_refusals : RulesRefusals
rules_refusals x r = refusals (rules_reader (names x) (place_names x)) (rules_meaning (names x) (place_names x)) (net_lawful x r)

pub rules_decided : RulesDecided
rules_decided x r = each_text (rules_reader (names x) (place_names x)) (rules_meaning (names x) (place_names x)) (net_lawful x r)
