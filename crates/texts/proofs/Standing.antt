-- Where a field of a line stands in a text.
use Rattle.std.proofs.Common.{◌≡◌, ℕ, ◌+◌, List, [], ◌∷◌, ◌++◌, length, take, drop, sym, refl, ap, ◌∙◌, append_assoc}
use Rattle.std.proofs.lemmas.List.{length-append, drop-drop, drop_at, take_at}

-- ---- a part of a text after its first w bytes
part_after : (bs word nm rest : List ℕ) (s w : ℕ) → drop s bs ≡ (word ++ (9 ∷ nm)) ++ rest → w ≡ length word + 1 → drop (s + w) bs ≡ nm ++ rest
part_after bs word nm rest s w e q =
    sym (drop-drop w s bs) ∙ ap (drop w) (e ∙ append_assoc word (9 ∷ nm) rest ∙ sym (append_assoc word (9 ∷ []) (nm ++ rest)))
    ∙ drop_at (word ++ (9 ∷ [])) (nm ++ rest) w (length-append word (9 ∷ []) ∙ sym q)

pub named_at : (bs word nm more rest : List ℕ) (s w : ℕ) → drop s bs ≡ (word ++ (9 ∷ (nm ++ more))) ++ rest → w ≡ length word + 1 → take (length nm) (drop (s + w) bs) ≡ nm
named_at bs word nm more rest s w e q =
    ap (take (length nm)) (part_after bs word (nm ++ more) rest s w e q ∙ append_assoc nm more rest) ∙ take_at nm (more ++ rest) (length nm) refl
