-- For code that goes through a text by indexes: what the reader's lists are at an index.
use Rattle.std.proofs.Common.{◌≡◌, ℕ, suc, ◌+◌, ◌-◌, ◌<◌, ◌≤◌, Bool, true, false, cond, not, eqb, List, [], ◌∷◌, length, get_or, take, drop, Some, None, sym, refl, ap, ◌∙◌, arith}
use Rattle.std.specs.List.{prefix_len}
use Rattle.std.proofs.lemmas.List.{drop_more, drop_all}
use Rattle.std.proofs.lemmas.Bool.{cond-true, cond-false, eqb-true, not_from_true, not_from_false}
use Rattle.model.specs.declared.refusal.Refusal.TheVariants.{Byte}
use Rattle.formats.specs.Words.{is_not, onto, fields, lines, last, is_allowed}
use Rattle.formats.specs.Texts.{fault, bad_byte}
use Rattle.formats.proofs.Pieces.{cut_at, uncut}
use Rattle.formats.specs.Sums.{piece, is_sign, put, pieces}

-- ---- the last byte
pub last_is : (bs : List ℕ) → 0 < length bs → last bs ≡ get_or bs (length bs - 1) 0
last_is [] h = absurd (omega arith)
last_is (b ∷ []) h = refl
last_is (b ∷ c ∷ bs) h =
    let e : suc (suc (length bs)) - 1 ≡ suc (suc (length bs) - 1) = omega arith in
    last_is (c ∷ bs) (omega arith) ∙ ap (λ (k : ℕ). get_or (b ∷ c ∷ bs) k 0) (sym e)

-- ---- lines
pub lines_cut : (t : List ℕ) → prefix_len (is_not 10) t < length t → lines t ≡ take (prefix_len (is_not 10) t) t ∷ lines (drop (prefix_len (is_not 10) t + 1) t)
lines_cut t h = cut_at (λ b. eqb b 10) (λ l. l) onto (λ b l ys. refl) lines (λ b bs. lines bs) (λ b bs. refl) t h

-- ---- fields
pub fields_cut : (t : List ℕ) → prefix_len (is_not 9) t < length t → fields t ≡ take (prefix_len (is_not 9) t) t ∷ fields (drop (prefix_len (is_not 9) t + 1) t)
fields_cut t h = cut_at (λ b. eqb b 9) (λ l. l) onto (λ b l ys. refl) fields (λ b bs. fields bs) (λ b bs. refl) t h

pub fields_last : (t : List ℕ) → prefix_len (is_not 9) t ≡ length t → fields t ≡ t ∷ []
fields_last t e = uncut (λ b. eqb b 9) (λ l. l) onto (λ b l ys. refl) fields (λ b bs. fields bs) (λ b bs. refl) refl t e

-- ---- bytes
pub bytes_at : (k i : ℕ) (t : List ℕ) → i < length t
    → bad_byte k i (drop i t) ≡ cond (is_allowed (get_or t i 0)) (bad_byte (cond (eqb (get_or t i 0) 10) (k + 1) k) (i + 1) (drop (i + 1) t)) (Some (fault Byte k i))
bytes_at k i t h = ap (bad_byte k i) (drop_more t i 0 h)

pub bytes_end : (k i : ℕ) (t : List ℕ) → length t ≤ i → bad_byte k i (drop i t) ≡ None
bytes_end k i t h = ap (bad_byte k i) (drop_all i t h)

-- ---- pieces of a sum
abbrev pub noSign : ℕ → Bool
noSign c = not (is_sign c)

pub pieces_cut : (m : Bool) (t : List ℕ) → prefix_len noSign t < length t → pieces m t ≡ piece m (take (prefix_len noSign t) t) ∷ pieces (eqb (get_or t (prefix_len noSign t) 0) 45) (drop (prefix_len noSign t + 1) t)
pieces_cut m t h = cut_at is_sign (piece m) put (λ b l ys. refl) (pieces m) (λ b bs. pieces (eqb b 45) bs) (λ b bs. refl) t h

pub pieces_last : (m : Bool) (t : List ℕ) → prefix_len noSign t ≡ length t → pieces m t ≡ piece m t ∷ []
pieces_last m t e = uncut is_sign (piece m) put (λ b l ys. refl) (pieces m) (λ b bs. pieces (eqb b 45) bs) (λ b bs. refl) refl t e

-- a run of bytes that are no signs ends inside the piece: a loop need not know where the piece ends
pub run_within : (p q : ℕ → Bool) → ((c : ℕ) → p c ≡ true → q c ≡ true) → (t : List ℕ) → prefix_len p (take (prefix_len q t) t) ≡ prefix_len p t
run_within p q h [] = refl
run_within p q h (b ∷ bs) = go (q b) refl (p b) refl (run_within p q h bs)
  where
    go : (u : Bool) → q b ≡ u → (v : Bool) → p b ≡ v → prefix_len p (take (prefix_len q bs) bs) ≡ prefix_len p bs → prefix_len p (take (cond u (1 + prefix_len q bs) 0) (b ∷ bs)) ≡ cond v (1 + prefix_len p bs) 0
    go true e v f r =
        let one : 1 + prefix_len q bs ≡ suc (prefix_len q bs) = omega arith in
        ap (λ (k : ℕ). prefix_len p (take k (b ∷ bs))) one ∙ ap (λ (t : Bool). cond t (1 + prefix_len p (take (prefix_len q bs) bs)) 0) f ∙ ap (λ (n : ℕ). cond v (1 + n) 0) r
    go false e true f r = absurd (Rattle.std.proofs.lemmas.Bool.false≢true (sym e ∙ h b f))
    go false e false f r = refl
