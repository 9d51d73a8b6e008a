-- Whole texts, their lines and the fields of a line.
use Rattle.std.proofs.Common.{◌≡◌, ℕ, ◌+◌, ◌-◌, ◌<◌, ◌≤◌, Bool, true, false, cond, not, ◌&&◌, eqb, List, [], ◌∷◌, length, get_or, take, drop, Ok, Err, Some, None, Option, sym, refl, ap, ◌∙◌, ap₂, zero, suc, arith}
use Rattle.std.specs.List.{prefix_len, slice_get, count_by, position}
use Rattle.std.specs.Borrow.{Bor}
use Rattle.std.specs.Option.{option_map, option_eq}
use Rattle.std.specs.Slice.{IsGetRangeResult}
use Rattle.std.proofs.lemmas.Option.{none-some, slice_get-get_or, get_or_from_slice_get}
use Rattle.std.proofs.lemmas.List.{take_rest, take_all}
use Rattle.std.proofs.lemmas.List.Recursion.{is_count_by}
use Rattle.std.proofs.lemmas.List.Sums.{prefix_len_passes}
use Rattle.std.proofs.lemmas.List.Quantifiers.{position-Some}
use Rattle.std.proofs.lemmas.Bool.{cond-true, cond-false, lt-ltb, le-leb}
use Rattle.std.proofs.lemmas.Bool.Decides.{nat_tests}
use Rattle.formats.specs.Words.{is_not, is_allowed, fields, last}
use Rattle.formats.specs.Texts.{fault, is_text, bad_byte, unless_byte, newlines}
use Rattle.formats.specs.declared.fault.TextFault.{TextFault}
use Rattle.model.specs.declared.refusal.Refusal.TheVariants.{Byte}
use Rattle.formats.specs.NetClauses.{shape}
use Rattle.formats.specs.NetClauses.Shape.{no_record}
use Rattle.formats.proofs.Bridges.{last_is, fields_cut, fields_last, bytes_at, bytes_end}
use Rattle.formats.proofs.Pieces.{fields_some}
use Rattle.texts.specs.Lines.{bytes_check, rest_fields}

-- ---- a whole text
pub text_at : (bs : List ℕ) → 0 < length bs → length bs ≤ 16384 → eqb (get_or bs (length bs - 1) 0) 10 ≡ is_text bs
text_at bs some few =
    ap (λ (b : ℕ). eqb b 10) (sym (last_is bs some))
    ∙ sym (ap₂ (λ (a b : Bool). a && (b && eqb (last bs) 10)) (lt-ltb 0 (length bs) some) (le-leb (length bs) 16384 few))

pub text_ended : (bs : List ℕ) (r : Option (Bor ℕ)) (y : Bor ℕ) → y.now ≡ 10 → option_map (λ x. x.now) r ≡ slice_get bs (length bs - 1) → length bs ≤ 16384
    → option_eq (λ (a b : Bor ℕ). eqb a.now b.now) r (Some y) ≡ is_text bs
text_ended [] None y e m few = refl
text_ended [] (Some x) y e m few = absurd (none-some x.now (sym m))
text_ended (b ∷ bs) None y e m few = absurd (none-some _ (m ∙ slice_get-get_or (b ∷ bs) (length (b ∷ bs) - 1) 0 (omega arith)))
text_ended (b ∷ bs) (Some x) y e m few = ap₂ eqb (sym (get_or_from_slice_get (b ∷ bs) (length (b ∷ bs) - 1) x.now 0 (sym m))) e ∙ text_at (b ∷ bs) (omega arith) few

of_not : (p b : Bool) → not p ≡ b → p ≡ not b
of_not true b e = ap not e
of_not false b e = ap not e

line_on : (b k n : ℕ) → cond (eqb b 10) (k + 1) k + n ≡ k + (cond (eqb b 10) 1 0 + n)
line_on b k n = grind arith

ends_are : (bs : List ℕ) → newlines bs ≡ count_by (λ b. eqb b 10) bs
ends_are = is_count_by newlines (λ b. eqb b 10) refl (λ b bs. grind arith)

-- the first n bytes are allowed
bytes_past : (k i : ℕ) (bs : List ℕ) (n : ℕ) → ((j : ℕ) → j < n → j < length bs → is_allowed (get_or bs j 0) ≡ true) → bad_byte k i bs ≡ bad_byte (k + newlines (take n bs)) (i + n) (drop n bs)
bytes_past k i bs zero h = ap₂ (λ (u v : ℕ). bad_byte u v bs) (omega arith) (omega arith)
bytes_past k i [] (suc n) h = refl
bytes_past k i (b ∷ bs) (suc n) h =
    cond-true _ (bad_byte (cond (eqb b 10) (k + 1) k) (i + 1) bs) (Some (fault Byte k i)) (h 0 (omega arith) (omega arith))
    ∙ bytes_past (cond (eqb b 10) (k + 1) k) (i + 1) bs n (λ j l m. h (suc j) (omega arith) (omega arith))
    ∙ ap₂ (λ (u v : ℕ). bad_byte u v (drop n bs)) (line_on b k (newlines (take n bs))) (omega arith)

-- the first n bytes of a whole text are allowed
text_past : (bs : List ℕ) (n : ℕ) → ((j : ℕ) → j < n → j < length bs → is_allowed (get_or bs j 0) ≡ true) → bytes_check bs ≡ unless_byte (bad_byte (1 + count_by (λ b. eqb b 10) (take n bs)) n (drop n bs)) (Ok tt)
text_past bs n h = ap (λ (o : Option TextFault). unless_byte o (Ok tt)) (bytes_past 1 0 bs n h ∙ ap₂ (λ (u v : ℕ). bad_byte u v (drop n bs)) (ap (λ (m : ℕ). 1 + m) (ends_are (take n bs))) (omega arith))

-- what the position of the first byte that is not allowed says
pub bytes_fine : (bs : List ℕ) → position (λ b. not (is_allowed b)) bs ≡ None → Ok tt ≡ bytes_check bs
bytes_fine bs e =
    let all : (j : ℕ) → j < length bs → j < length bs → is_allowed (get_or bs j 0) ≡ true = λ j l m. of_not _ false (of_not _ true (prefix_len_passes (λ b. not (not (is_allowed b))) bs j 0 (grind (arith, nat_tests)))) in
    sym (text_past bs (length bs) all ∙ ap (λ (o : Option TextFault). unless_byte o (Ok tt)) (bytes_end _ (length bs) bs (omega arith)))

pub bytes_bad : (bs : List ℕ) (i : ℕ) → position (λ b. not (is_allowed b)) bs ≡ Some i → Err (fault Byte (1 + count_by (λ b. eqb b 10) (take i bs)) i) ≡ bytes_check bs
bytes_bad bs i e =
    let at = position-Some (λ b. not (is_allowed b)) bs i 0 e in
    sym (text_past bs i (λ j l m. of_not _ false (at.2 j l)) ∙ ap (λ (o : Option TextFault). unless_byte o (Ok tt)) (bytes_at _ i bs at.0 ∙ cond-false _ _ _ (of_not _ true at.1)))

-- ---- fields
-- the field up to the tab at t, and what follows, if there is a tab
pub cut_is : (l : List ℕ) (t : ℕ) (r : Option (Bor (List ℕ))) → t ≡ 0 + prefix_len (is_not 9) l → t ≤ length l → IsGetRangeResult l (t + 1) (length l) r → fields l ≡ take t l ∷ rest_fields (option_map (λ (x : Bor (List ℕ)). x.now) r)
cut_is l t None e h got = fields_last l (omega (arith, got)) ∙ ap (λ (z : List ℕ). z ∷ []) (sym (take_all t l (omega (arith, got))))
cut_is l t (Some x) e h got =
    let q : prefix_len (is_not 9) l ≡ t = omega arith in
    fields_cut l (omega (arith, got.0.0)) ∙ ap (λ (k : ℕ). take k l ∷ fields (drop (k + 1) l)) q ∙ ap (λ (r : List ℕ). take t l ∷ fields r) (sym (take_rest l (t + 1)) ∙ sym got.0.2)

-- ---- lines of more than five
pub five_more : (w a b c d r : List ℕ) → shape (w ∷ a ∷ b ∷ c ∷ d ∷ fields r) ≡ no_record
five_more w a b c d r = let s = fields_some r in ap (λ (fs : List (List ℕ)). shape (w ∷ a ∷ b ∷ c ∷ d ∷ fs)) s.2
