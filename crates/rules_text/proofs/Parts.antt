-- The pieces of a sum, as a reader finds them that goes from byte to byte.
use Rattle.std.proofs.Common.{◌≡◌, ℕ, zero, suc, ◌+◌, ◌-◌, ◌<◌, ◌≤◌, min, Bool, true, false, cond, not, ◌&&◌, ◌||◌, eqb, leb, ◌⊎◌, List, [], ◌∷◌, length, get_or, take, drop, IfSome, MatchOption, Some, None, Ok, Err, Option, Result, sym, refl, ap, ◌∙◌, subst, ap₂, inl, inr, arith}
use Rattle.std.specs.List.{prefix_len}
use Rattle.std.specs.Borrow.{Bor}
use Rattle.std.specs.Option.{option_map, unwrap_or}
use Rattle.std.proofs.lemmas.List.{take-take, length-take-le, drop-take, drop-drop, length-drop, get_or-drop, get_or-take, get_or_past}
use Rattle.std.proofs.lemmas.List.Sums.{prefix_len-le-length, prefix_len_passes, prefix_len_stops}
use Rattle.std.proofs.lemmas.List.Folds.{length-prefix_len}
use Rattle.std.proofs.lemmas.Bool.{cond-true, cond-false, and_parts, or_cases, leb-true, lt-ltb, le-ltb, eqb-true, eq-eqb, ne_eqb, cases_lt, false≢true}
use Rattle.model.specs.declared.refusal.Refusal.{Refusal}
use Rattle.model.specs.declared.refusal.Refusal.TheVariants.{NameUnknown, Sum}
use Rattle.formats.specs.Words.{none, is_letter, is_digit, is_numeral, is_known, index_of, value}
use Rattle.formats.specs.declared.fault.TextFault.{TextFault}
use Rattle.formats.specs.Texts.{Check, check, fault}
use Rattle.formats.specs.Sums.{digits, body_at, body, begins_name}
use Rattle.formats.proofs.Bridges.{run_within}
use Rattle.formats.proofs.Tests.{d_numeral, numeral_is}
use Rattle.texts.specs.Numbers.{is_word}
use Rattle.texts.specs.Spans.{checked, found}
use Rattle.texts.proofs.Checking.{stops, goes, then_stops}
use Rattle.rules_text.specs.declared.part.Next.{Next}
use Rattle.rules_text.specs.declared.part.Next.TheVariants.{Plus, Minus, Times, Other, End}
use Rattle.rules_text.specs.Sums.{next_of, next_at, no_sign, piece_at, number_checks, number_of, factor_of, Rest, title_of, name_checks, term_checks}

-- ---- what stands next
abbrev pub Means : List ℕ → ℕ → Next → Type 0
Means f e Plus = (e < length f) × (get_or f e 0 ≡ 43)
Means f e Minus = (e < length f) × (get_or f e 0 ≡ 45)
Means f e Times = (e < length f) × (get_or f e 0 ≡ 42)
Means f e Other = (e < length f) × (get_or f e 0 ≡ 43 → ⊥) × (get_or f e 0 ≡ 45 → ⊥) × (get_or f e 0 ≡ 42 → ⊥)
Means f e End = length f ≤ e

eqb_false : (a b : ℕ) → eqb a b ≡ false → a ≡ b → ⊥
eqb_false a b e h = false≢true (sym e ∙ eq-eqb a b h)

means_of : (f : List ℕ) (e : ℕ) → e < length f → Means f e (next_of (get_or f e 0))
means_of f e l = go (eqb (get_or f e 0) 43) refl (eqb (get_or f e 0) 45) refl (eqb (get_or f e 0) 42) refl
  where
    go : (s : Bool) → eqb (get_or f e 0) 43 ≡ s → (t : Bool) → eqb (get_or f e 0) 45 ≡ t → (u : Bool) → eqb (get_or f e 0) 42 ≡ u → Means f e (cond s Plus (cond t Minus (cond u Times Other)))
    go true p t q u r = (l, eqb-true _ 43 p)
    go false p true q u r = (l, eqb-true _ 45 q)
    go false p false q true r = (l, eqb-true _ 42 r)
    go false p false q false r = (l, eqb_false _ 43 p, eqb_false _ 45 q, eqb_false _ 42 r)

pub next_means : (f : List ℕ) (e : ℕ) (v : Next) → v ≡ next_at f e → Means f e v
next_means f e v q = subst (Means f e) (sym q) (go (cases_lt e (length f)))
  where
    go : (e < length f) ⊎ (length f ≤ e) → Means f e (next_at f e)
    go (inl l) = subst (Means f e) (sym (cond-true _ _ _ (lt-ltb e (length f) l))) (means_of f e l)
    go (inr l) = subst (Means f e) (sym (cond-false _ _ _ (le-ltb e (length f) l))) l

pub times_next : (f : List ℕ) (e : ℕ) → e < length f → get_or f e 0 ≡ 42 → Times ≡ next_at f e
times_next f e l h = sym (cond-true _ _ _ (lt-ltb e (length f) l) ∙ ap next_of h)

-- ---- bytes
plain : (c : ℕ) → (c ≡ 43 → ⊥) → (c ≡ 45 → ⊥) → no_sign c ≡ true
plain c p q = ap₂ (λ (s t : Bool). not (s || t)) (ne_eqb c 43 p) (ne_eqb c 45 q)

signed : (c : ℕ) → no_sign c ≡ false → (c ≡ 43) ⊎ (c ≡ 45)
signed c e = go (eqb c 43) refl (eqb c 45) refl e
  where
    go : (s : Bool) → eqb c 43 ≡ s → (t : Bool) → eqb c 45 ≡ t → not (s || t) ≡ false → (c ≡ 43) ⊎ (c ≡ 45)
    go true p t q e = inl (eqb-true c 43 p)
    go false p true q e = inr (eqb-true c 45 q)
    go false p false q e = absurd (false≢true (sym e))

unsigned : (c : ℕ) → no_sign c ≡ true → (c ≡ 43 → ⊥) × (c ≡ 45 → ⊥)
unsigned c e = (λ h. false≢true (sym (ap no_sign h) ∙ e), λ h. false≢true (sym (ap no_sign h) ∙ e))

pub digit_plain : (c : ℕ) → is_digit c ≡ true → no_sign c ≡ true
digit_plain c e = let b = and_parts (leb 48 c) (leb c 57) e in let l = leb-true 48 c b.0 in plain c (λ h. omega arith) (λ h. omega arith)

letter_plain : (c : ℕ) → is_letter c ≡ true → no_sign c ≡ true
letter_plain c e = elim (or_cases _ _ e) [
  | inl a ↦ let b = and_parts (leb 65 c) (leb c 90) a in let l = leb-true 65 c b.0 in plain c (λ h. omega arith) (λ h. omega arith)
  | inr a ↦ let b = and_parts (leb 97 c) (leb c 122) a in let l = leb-true 97 c b.0 in plain c (λ h. omega arith) (λ h. omega arith)
]

pub word_plain : (c : ℕ) → is_word c ≡ true → no_sign c ≡ true
word_plain c e = elim (or_cases (is_letter c) (is_digit c) e) [ inl a ↦ letter_plain c a | inr a ↦ digit_plain c a ]

-- ---- a piece
pub piece_size : (f : List ℕ) (i : ℕ) → length (piece_at f i) ≡ prefix_len no_sign (drop i f)
piece_size f i = length-prefix_len no_sign (drop i f)

pub piece_within : (f : List ℕ) (i : ℕ) → i ≤ length f → i + length (piece_at f i) ≤ length f
piece_within f i h = omega (arith, piece_size f i, prefix_len-le-length no_sign (drop i f), length-drop i f)

-- a byte of the piece is the byte of the field, and no sign
pub piece_byte : (f : List ℕ) (i k : ℕ) → k < length (piece_at f i) → (get_or (piece_at f i) k 0 ≡ get_or f (i + k) 0) × (no_sign (get_or f (i + k) 0) ≡ true)
piece_byte f i k h =
    let l : k < prefix_len no_sign (drop i f) = omega (arith, piece_size f i) in (
      get_or-take (prefix_len no_sign (drop i f)) (drop i f) k 0 l ∙ get_or-drop i f k 0,
      subst (λ (c : ℕ). no_sign c ≡ true) (get_or-drop i f k 0) (prefix_len_passes no_sign (drop i f) k 0 l),
    )

-- where the piece ends before the field does, a sign stands
pub piece_sign : (f : List ℕ) (i : ℕ) → i + length (piece_at f i) < length f → no_sign (get_or f (i + length (piece_at f i)) 0) ≡ false
piece_sign f i h =
    let n = prefix_len no_sign (drop i f) in
    subst (λ (k : ℕ). no_sign (get_or f (i + k) 0) ≡ false) (sym (piece_size f i))
    (subst (λ (c : ℕ). no_sign c ≡ false) (get_or-drop i f n 0) (prefix_len_stops no_sign (drop i f) 0 (omega (arith, piece_size f i, length-drop i f))))

-- a run inside the piece that starts with it
pub run_in : (p : ℕ → Bool) → ((c : ℕ) → p c ≡ true → no_sign c ≡ true) → (f : List ℕ) (i : ℕ) → prefix_len p (piece_at f i) ≡ prefix_len p (drop i f)
run_in p h f i = run_within p no_sign h (drop i f)

pub run_short : (p : ℕ → Bool) → ((c : ℕ) → p c ≡ true → no_sign c ≡ true) → (f : List ℕ) (i : ℕ) → prefix_len p (drop i f) ≤ length (piece_at f i)
run_short p h f i = omega (arith, run_in p h f i, prefix_len-le-length p (piece_at f i))

-- the first k bytes of the piece
pub piece_front : (f : List ℕ) (i k : ℕ) → k ≤ length (piece_at f i) → take k (piece_at f i) ≡ take k (drop i f)
piece_front f i k h = take-take k (prefix_len no_sign (drop i f)) (drop i f) (omega (arith, piece_size f i))

-- what is left of the piece after its first k bytes is the piece that starts there
drop_run : (k : ℕ) (t : List ℕ) → k ≤ prefix_len no_sign t → prefix_len no_sign t ≡ k + prefix_len no_sign (drop k t)
drop_run zero t h = omega arith
drop_run (suc k) [] h = absurd (omega arith)
drop_run (suc k) (b ∷ bs) h = go (no_sign b) h (drop_run k bs)
  where
    go : (s : Bool) → suc k ≤ cond s (1 + prefix_len no_sign bs) 0 → (k ≤ prefix_len no_sign bs → prefix_len no_sign bs ≡ k + prefix_len no_sign (drop k bs)) → cond s (1 + prefix_len no_sign bs) 0 ≡ suc k + prefix_len no_sign (drop k bs)
    go true l r = omega (arith, r (omega arith))
    go false l r = absurd (omega arith)

pub piece_rest : (f : List ℕ) (i k : ℕ) → k ≤ length (piece_at f i) → (drop k (piece_at f i) ≡ piece_at f (i + k)) × (length (piece_at f i) ≡ k + length (piece_at f (i + k)))
piece_rest f i k h =
    let t = drop i f in
    let e : prefix_len no_sign t ≡ k + prefix_len no_sign (drop k t) = drop_run k t (omega (arith, piece_size f i)) in
    let d = drop-drop k i f in (
      ap (λ (n : ℕ). drop k (take n t)) e ∙ drop-take k (prefix_len no_sign (drop k t)) t ∙ ap (λ (u : List ℕ). take (prefix_len no_sign u) u) d,
      piece_size f i ∙ e ∙ ap (λ (u : List ℕ). k + prefix_len no_sign u) d ∙ ap (λ (n : ℕ). k + n) (sym (piece_size f (i + k))),
    )

-- ---- its first byte
begins_first : (xs : List ℕ) → begins_name xs ≡ is_letter (get_or xs 0 0)
begins_first [] = refl
begins_first (x ∷ xs) = refl

begins : (f : List ℕ) (i : ℕ) → begins_name (piece_at f i) ≡ is_letter (get_or f i 0)
begins f i = begins_first (piece_at f i) ∙ go (cases_lt 0 (length (piece_at f i)))
  where
    here : get_or f (i + 0) 0 ≡ get_or f i 0
    here = ap (λ (k : ℕ). get_or f k 0) (omega arith)

    none_there : i < length f → length (piece_at f i) ≡ 0 → is_letter (get_or f i 0) ≡ false
    none_there h e =
        let at : i + length (piece_at f i) ≡ i = omega arith in
        let s = subst (λ (k : ℕ). no_sign (get_or f k 0) ≡ false) at (piece_sign f i (omega arith)) in
        elim (signed (get_or f i 0) s) [ inl a ↦ ap is_letter a | inr a ↦ ap is_letter a ]

    go : (0 < length (piece_at f i)) ⊎ (length (piece_at f i) ≤ 0) → is_letter (get_or (piece_at f i) 0 0) ≡ is_letter (get_or f i 0)
    go (inl l) = ap is_letter ((piece_byte f i 0 l).0 ∙ here)
    go (inr l) = ap is_letter (get_or_past (piece_at f i) 0 0 l) ∙ sym (elim (cases_lt i (length f)) [ inl h ↦ none_there h (omega arith) | inr h ↦ ap is_letter (get_or_past f i 0 h) ])

-- what stands at i, if anything does, tells whether a name begins there
pub begins_at : (f : List ℕ) (i : ℕ) (o : Option (Bor ℕ)) (r : Bool) (Q : Bor ℕ → Type 0) → unwrap_or (option_map (λ x. x.now) o) 0 ≡ get_or f i 0
    → MatchOption o (r ≡ false) Q → ((x : Bor ℕ) → Q x → r ≡ is_letter x.now) → r ≡ begins_name (piece_at f i)
begins_at f i None r Q h m t = m ∙ ap is_letter h ∙ sym (begins f i)
begins_at f i (Some x) r Q h m t = t x m ∙ ap is_letter h ∙ sym (begins f i)

-- ---- its digits
pub digits_are : (f : List ℕ) (i : ℕ) → digits (piece_at f i) ≡ take (prefix_len is_digit (drop i f)) (drop i f)
digits_are f i =
    ap (λ (k : ℕ). take k (piece_at f i)) (run_in is_digit digit_plain f i)
    ∙ piece_front f i (prefix_len is_digit (drop i f)) (run_short is_digit digit_plain f i)

pub digits_count : (f : List ℕ) (i : ℕ) → length (digits (piece_at f i)) ≡ prefix_len is_digit (drop i f)
digits_count f i = ap length (digits_are f i) ∙ length-prefix_len is_digit (drop i f)

none_length : (xs : List ℕ) → none xs ≡ eqb (length xs) 0
none_length [] = refl
none_length (x ∷ xs) = sym (ne_eqb (suc (length xs)) 0 (λ e. omega arith))

pub none_empty : (xs : List ℕ) → length xs ≡ 0 → none xs ≡ true
none_empty xs e = none_length xs ∙ eq-eqb (length xs) 0 e

pub none_some : (xs : List ℕ) → 0 < length xs → none xs ≡ false
none_some xs h = none_length xs ∙ ne_eqb (length xs) 0 (λ e. omega arith)

-- ---- the star after them, which stands at the byte e of the field
pub star : (f : List ℕ) (i k e : ℕ) → e ≡ i + k → k ≤ length (piece_at f i) → Times ≡ next_at f e → (eqb (get_or (piece_at f i) k 0) 42 ≡ true) × (k < length (piece_at f i))
star f i k e q h n =
    let m = next_means f e Times n in
    let b : get_or f (i + k) 0 ≡ 42 = ap (λ (j : ℕ). get_or f j 0) (sym q) ∙ m.1 in
    let l : k < length (piece_at f i) = elim (cases_lt k (length (piece_at f i))) [
      | inl l ↦ l
      | inr l ↦
          let same : k ≡ length (piece_at f i) = omega arith in
          let at : i + length (piece_at f i) ≡ i + k = omega arith in
          absurd (false≢true (sym (piece_sign f i (omega arith)) ∙ ap (λ (j : ℕ). no_sign (get_or f j 0)) at ∙ ap no_sign b))
    ] in
    (eq-eqb _ 42 ((piece_byte f i k l).0 ∙ b), l)

pub no_star : (f : List ℕ) (i k e : ℕ) → e ≡ i + k → i ≤ length f → (Times ≡ next_at f e → ⊥) → eqb (get_or (piece_at f i) k 0) 42 ≡ false
no_star f i k e q h n = ne_eqb _ 42 (λ b. go b (cases_lt k (length (piece_at f i))))
  where
    go : get_or (piece_at f i) k 0 ≡ 42 → (k < length (piece_at f i)) ⊎ (length (piece_at f i) ≤ k) → ⊥
    go b (inl l) = n (times_next f e (omega (arith, piece_within f i h)) (ap (λ (j : ℕ). get_or f j 0) q ∙ sym (piece_byte f i k l).0 ∙ b))
    go b (inr l) = omega (arith, get_or_past (piece_at f i) k 0 l, b)

-- ---- its name, of which the piece q that starts at j is left
pub title_are : (f : List ℕ) (j : ℕ) → title_of (piece_at f j) ≡ take (min 12 (prefix_len is_word (drop j f))) (drop j f)
title_are f j =
    ap (λ (k : ℕ). take (min 12 k) (piece_at f j)) (run_in is_word word_plain f j)
    ∙ piece_front f j (min 12 (prefix_len is_word (drop j f))) (omega (arith, run_short is_word word_plain f j))

-- ---- what is left after the first k bytes of the piece q that starts at j, where e is its end
module _ (f : List ℕ) (j k e : ℕ) (q : e ≡ j + k) (h : k ≤ length (piece_at f j)) where
  pub ends_at : (v : Next) → v ≡ next_at f e → (v ≡ Times → ⊥) → (v ≡ Other → ⊥) → length (piece_at f j) ≡ k
  ends_at v n no_times no_other = go v (next_means f e v n) no_times no_other (cases_lt k (length (piece_at f j)))
    where
      sure : (get_or f e 0 ≡ 43) ⊎ (get_or f e 0 ≡ 45) → (k < length (piece_at f j)) ⊎ (length (piece_at f j) ≤ k) → length (piece_at f j) ≡ k
      sure s (inr l) = omega arith
      sure s (inl l) =
          let u = unsigned (get_or f (j + k) 0) (piece_byte f j k l).1 in
          let b : get_or f (j + k) 0 ≡ get_or f e 0 = ap (λ (i : ℕ). get_or f i 0) (sym q) in
          absurd (elim s [ inl a ↦ u.0 (b ∙ a) | inr a ↦ u.1 (b ∙ a) ])

      go : (v : Next) → Means f e v → (v ≡ Times → ⊥) → (v ≡ Other → ⊥) → (k < length (piece_at f j)) ⊎ (length (piece_at f j) ≤ k) → length (piece_at f j) ≡ k
      go Plus m t o c = sure (inl m.1) c
      go Minus m t o c = sure (inr m.1) c
      go Times m t o c = absurd (t refl)
      go Other m t o c = absurd (o refl)
      go End m t o c = omega (arith, piece_size f j, prefix_len-le-length no_sign (drop j f), length-drop j f)

  goes_on : Means f e Times ⊎ Means f e Other → k < length (piece_at f j)
  goes_on m = go m (cases_lt k (length (piece_at f j)))
    where
      none_here : e < length f → (get_or f e 0 ≡ 43 → ⊥) → (get_or f e 0 ≡ 45 → ⊥) → length (piece_at f j) ≤ k → ⊥
      none_here l p m c =
          let at : j + length (piece_at f j) ≡ e = omega arith in
          elim (signed (get_or f (j + length (piece_at f j)) 0) (piece_sign f j (omega arith))) [
            | inl a ↦ p (ap (λ (i : ℕ). get_or f i 0) (sym at) ∙ a)
            | inr a ↦ m (ap (λ (i : ℕ). get_or f i 0) (sym at) ∙ a)
          ]

      go : Means f e Times ⊎ Means f e Other → (k < length (piece_at f j)) ⊎ (length (piece_at f j) ≤ k) → k < length (piece_at f j)
      go m (inl l) = l
      go (inl m) (inr l) = absurd (none_here m.0 (λ a. omega (arith, m.1, a)) (λ a. omega (arith, m.1, a)) l)
      go (inr m) (inr l) = absurd (none_here m.0 m.1 m.2 l)

  pub left_over : (v : Next) → v ≡ next_at f e → (v ≡ Other) ⊎ (v ≡ Times) → none (drop k (piece_at f j)) ≡ false
  left_over v n w =
      let l : k < length (piece_at f j) = goes_on (elim w [ inl a ↦ inr (subst (Means f e) a (next_means f e v n)) | inr a ↦ inl (subst (Means f e) a (next_means f e v n)) ]) in
      none_some (drop k (piece_at f j)) (omega (arith, length-drop k (piece_at f j)))

  pub left_none : length (piece_at f j) ≡ k → none (drop k (piece_at f j)) ≡ true
  left_none s = none_empty (drop k (piece_at f j)) (omega (arith, length-drop k (piece_at f j)))

-- ---- two checks in order
pub two_first : {A : Type 0} (a b : Bool) (r s : Refusal) (i j k : ℕ) (v : A) → a ≡ false → Err (fault r k i) ≡ checked (check a r i ∷ check b s j ∷ []) k v
two_first a b r s i j k v e = subst (λ (t : Bool). Err (fault r k i) ≡ checked (check t r i ∷ check b s j ∷ []) k v) (sym e) refl

pub two_second : {A : Type 0} (a b : Bool) (r s : Refusal) (i j k : ℕ) (v : A) → a ≡ true → b ≡ false → Err (fault s k j) ≡ checked (check a r i ∷ check b s j ∷ []) k v
two_second a b r s i j k v e h =
    subst (λ (t : Bool). Err (fault s k j) ≡ checked (check t r i ∷ check b s j ∷ []) k v) (sym e)
    (subst (λ (t : Bool). Err (fault s k j) ≡ checked (check true r i ∷ check t s j ∷ []) k v) (sym h) refl)

pub two_pass : {A : Type 0} (a b : Bool) (r s : Refusal) (i j k : ℕ) (v w : A) → a ≡ true → b ≡ true → w ≡ v → Ok w ≡ checked (check a r i ∷ check b s j ∷ []) k v
two_pass {A} a b r s i j k v w e h q =
    ap (λ (x : A). Ok x) q
    ∙ subst (λ (t : Bool). Ok v ≡ checked (check t r i ∷ check b s j ∷ []) k v) (sym e)
    (subst (λ (t : Bool). Ok v ≡ checked (check true r i ∷ check t s j ∷ []) k v) (sym h) refl)

pub same_pair : (a b c d : ℕ) → a ≡ c → b ≡ d → ◌≡◌ {A = ℕ × ℕ} (a, b) (c, d)
same_pair a b c d p q = λ i. (p i, q i)

-- ---- the number of a piece, whose digits end at e
pub factor_small : (ds : List ℕ) (o : Option ℕ) → o ≡ factor_of ds → IfSome o (λ n. n ≤ 99)
factor_small ds o e = subst (λ (p : Option ℕ). IfSome p (λ n. n ≤ 99)) (sym e) (go (is_numeral 2 ds) refl (leb 1 (value ds)))
  where
    go : (t : Bool) → is_numeral 2 ds ≡ t → (u : Bool) → IfSome (cond (t && u) (Some (value ds)) None) (λ n. n ≤ 99)
    go true q true = let w = numeral_is 2 ds (omega arith) ((d_numeral 2 ds (omega arith) (omega arith)).0 q) in omega (arith, w.0)
    go true q false = tt
    go false q u = tt

module _ (f : List ℕ) (i e : ℕ) (is : e ≡ i + prefix_len is_digit (drop i f)) (le : i ≤ length f) (some : e ≡ i → ⊥) where
  abbrev ds : List ℕ
  ds = take (e - i) (drop i f)

  digits_here : digits (piece_at f i) ≡ ds
  digits_here = digits_are f i ∙ ap (λ (k : ℕ). take k (drop i f)) (omega arith)

  count : length (digits (piece_at f i)) ≡ e - i
  count = digits_count f i ∙ omega arith

  not_none : none (digits (piece_at f i)) ≡ false
  not_none = none_some (digits (piece_at f i)) (omega (arith, count))

  abbrev first_test : Bool
  first_test = none (digits (piece_at f i)) || (is_numeral 2 (digits (piece_at f i)) && leb 1 (value (digits (piece_at f i))))

  abbrev second_test : Bool
  second_test = none (digits (piece_at f i)) || eqb (get_or (piece_at f i) (length (digits (piece_at f i))) 0) 42

  first_is : first_test ≡ (is_numeral 2 ds && leb 1 (value ds))
  first_is = ap (λ (t : Bool). t || (is_numeral 2 (digits (piece_at f i)) && leb 1 (value (digits (piece_at f i))))) not_none ∙ ap (λ (d : List ℕ). is_numeral 2 d && leb 1 (value d)) digits_here

  second_is : second_test ≡ eqb (get_or (piece_at f i) (e - i) 0) 42
  second_is = ap (λ (t : Bool). t || eqb (get_or (piece_at f i) (length (digits (piece_at f i))) 0) 42) not_none ∙ ap (λ (n : ℕ). eqb (get_or (piece_at f i) n 0) 42) count

  short : e - i ≤ length (piece_at f i)
  short = omega (arith, run_short is_digit digit_plain f i)

  body_index : body_at (piece_at f i) ≡ e - i + 1
  body_index = cond-false _ _ _ not_none ∙ ap (λ (n : ℕ). n + 1) count

  factor_test : (o : Option ℕ) → o ≡ factor_of ds → (b : Bool) → (is_numeral 2 ds && leb 1 (value ds)) ≡ b → o ≡ cond b (Some (value ds)) None
  factor_test o e b q = e ∙ ap (λ (t : Bool). cond t (Some (value ds)) None) q

  pub number_bad : {A : Type 0} (at k : ℕ) (v : A) → None ≡ factor_of ds → Err (fault Sum k at) ≡ checked (number_checks at (piece_at f i)) k v
  number_bad at k v h = two_first first_test second_test Sum Sum at (at + length (digits (piece_at f i))) k v (first_is ∙ go (is_numeral 2 ds && leb 1 (value ds)) refl)
    where
      go : (b : Bool) → (is_numeral 2 ds && leb 1 (value ds)) ≡ b → (is_numeral 2 ds && leb 1 (value ds)) ≡ false
      go true q = let h2 = factor_test None h true q in let z : ◌≡◌ {A = ℕ} 0 1 = cc in absurd (omega arith)
      go false q = q

  number_good : (n : ℕ) → Some n ≡ factor_of ds → (first_test ≡ true) × (n ≡ value ds)
  number_good n h = go (is_numeral 2 ds && leb 1 (value ds)) refl
    where
      go : (b : Bool) → (is_numeral 2 ds && leb 1 (value ds)) ≡ b → (first_test ≡ true) × (n ≡ value ds)
      go true q = let h2 = factor_test (Some n) h true q in (first_is ∙ q, cc)
      go false q = let h2 = factor_test (Some n) h false q in let z : ◌≡◌ {A = ℕ} 0 1 = cc in absurd (omega arith)

  pub number_alone : {A : Type 0} (byte k n : ℕ) (v : A) → Some n ≡ factor_of ds → (Times ≡ next_at f e → ⊥) → Err (fault Sum k (byte + e)) ≡ checked (number_checks (byte + i) (piece_at f i)) k v
  number_alone byte k n v h lone =
      ap (λ (j : ℕ). Err (fault Sum k j)) (omega (arith, count))
      ∙ two_second first_test second_test Sum Sum (byte + i) (byte + i + length (digits (piece_at f i))) k v (number_good n h).0
      (second_is ∙ no_star f i (e - i) e (omega arith) le lone)

  pub number_fine : (at k n : ℕ) → Some n ≡ factor_of ds → Times ≡ next_at f e
      → ◌≡◌ {A = Result (ℕ × ℕ) TextFault} (Ok (n, e + 1)) (checked (number_checks at (piece_at f i)) k (number_of (piece_at f i), i + body_at (piece_at f i)))
  number_fine at k n h s =
      two_pass {A = ℕ × ℕ} first_test second_test Sum Sum at (at + length (digits (piece_at f i))) k (number_of (piece_at f i), i + body_at (piece_at f i)) (n, e + 1) (number_good n h).0
      (second_is ∙ (star f i (e - i) e (omega arith) short s).0)
      (same_pair _ _ _ _ ((number_good n h).1 ∙ ap value (sym digits_here) ∙ sym (cond-false _ _ _ not_none)) (omega (arith, body_index)))

  pub number_rest : Times ≡ next_at f e → Rest f i (e + 1)
  number_rest s =
      let l = (star f i (e - i) e (omega arith) short s).1 in
      let r = piece_rest f i (e - i + 1) (omega arith) in
      let to : i + (e - i + 1) ≡ e + 1 = omega arith in (
        ap (λ (k : ℕ). drop k (piece_at f i)) body_index ∙ r.0 ∙ ap (piece_at f) to,
        omega (arith, r.1, ap (λ (k : ℕ). length (piece_at f k)) to),
      )

-- ---- the name that begins at j and ends at e
module _ (ns : List (List ℕ)) (f : List ℕ) (j e : ℕ) (is : e ≡ j + min 12 (prefix_len is_word (drop j f))) (begun : begins_name (piece_at f j) ≡ true) where
  abbrev name : List ℕ
  name = take (e - j) (drop j f)

  title_here : title_of (piece_at f j) ≡ name
  title_here = title_are f j ∙ ap (λ (k : ℕ). take k (drop j f)) (omega arith)

  pub title_end : j + length (title_of (piece_at f j)) ≡ e
  title_end = omega (arith, ap length (title_are f j), length-take-le (min 12 (prefix_len is_word (drop j f))) (drop j f) (omega (arith, prefix_len-le-length is_word (drop j f))))

  known_is : (b : Bool) → is_known ns name ≡ b → is_known ns (title_of (piece_at f j)) ≡ b
  known_is b q = ap (is_known ns) title_here ∙ q

  pub name_unknown : {A : Type 0} (at k : ℕ) (v : A) → None ≡ found ns name → Err (fault NameUnknown k at) ≡ checked (name_checks ns at (piece_at f j)) k v
  name_unknown at k v h = two_second (begins_name (piece_at f j)) (is_known ns (title_of (piece_at f j))) Sum NameUnknown at at k v begun (known_is false (go (is_known ns name) refl h))
    where
      go : (b : Bool) → is_known ns name ≡ b → None ≡ cond b (Some (index_of ns name)) None → is_known ns name ≡ false
      go true q r = let z : ◌≡◌ {A = ℕ} 0 1 = cc in absurd (omega arith)
      go false q r = q

  pub name_fine : (at k p : ℕ) → Some p ≡ found ns name
      → ◌≡◌ {A = Result (ℕ × ℕ) TextFault} (Ok (p, e)) (checked (name_checks ns at (piece_at f j)) k (index_of ns (title_of (piece_at f j)), j + length (title_of (piece_at f j))))
  name_fine at k p h =
      let w = go (is_known ns name) refl h in
      two_pass {A = ℕ × ℕ} (begins_name (piece_at f j)) (is_known ns (title_of (piece_at f j))) Sum NameUnknown at at k (index_of ns (title_of (piece_at f j)), j + length (title_of (piece_at f j))) (p, e)
      begun (known_is true w.0) (same_pair _ _ _ _ (w.1 ∙ ap (index_of ns) (sym title_here)) (sym title_end))
    where
      go : (b : Bool) → is_known ns name ≡ b → Some p ≡ cond b (Some (index_of ns name)) None → (is_known ns name ≡ true) × (p ≡ index_of ns name)
      go true q r = (q, cc)
      go false q r = let z : ◌≡◌ {A = ℕ} 0 1 = cc in absurd (omega arith)

pub passed : {A : Type 0} (b : Bool) (r : Refusal) (i k : ℕ) (v w : A) → Ok w ≡ checked (check b r i ∷ []) k v → b ≡ true
passed {A} b r i k v w e = go b e
  where
    go : (t : Bool) → Ok w ≡ checked (check t r i ∷ []) k v → t ≡ true
    go true q = refl
    go false q = let z : ◌≡◌ {A = ℕ} 0 1 = cc in absurd (omega arith)

-- ---- the piece that starts at i, whose number is read and whose name starts at j
module _ (ns : List (List ℕ)) (f : List ℕ) (byte i k n j : ℕ)
    (read : ◌≡◌ {A = Result (ℕ × ℕ) TextFault} (Ok (n, j)) (checked (number_checks (byte + i) (piece_at f i)) k (number_of (piece_at f i), i + body_at (piece_at f i))))
    (rest : body (piece_at f i) ≡ piece_at f j) where
  abbrev p : List ℕ
  p = piece_at f i

  number_is : (n ≡ number_of p) × (j ≡ i + body_at p)
  number_is = let e = (goes (number_checks (byte + i) p) [] k (number_of p, i + body_at p) (n, j) read).0 in (ap (λ (x : ℕ × ℕ). x.0) e, ap (λ (x : ℕ × ℕ). x.1) e)

  same_checks : name_checks ns (byte + j) (piece_at f j) ≡ name_checks ns (byte + i + body_at p) (body p)
  same_checks = let m = number_is in ap₂ (λ (a : ℕ) (q : List ℕ). name_checks ns a q) (omega arith) (sym rest)

  pub term_stops : {A B : Type 0} (v : A) (w : B) (g : TextFault) → Err g ≡ checked (name_checks ns (byte + j) (piece_at f j)) k v → Err g ≡ checked (term_checks ns (byte + i) p) k w
  term_stops v w g e =
      then_stops (number_checks (byte + i) p) (name_checks ns (byte + i + body_at p) (body p)) k (number_of p, i + body_at p) (n, j) (Ok w) g read
      (stops (name_checks ns (byte + i + body_at p) (body p)) [] k v (Ok w) g (subst (λ (cs : List Check). Err g ≡ checked cs k v) same_checks e))
