-- What is asked of all records of a net text, and of one.
use Rattle.std.proofs.Common.{◌≡◌, ℕ, zero, suc, ◌<◌, ◌≤◌, Bool, true, ◌&&◌, ltb, leb, List, [], ◌∷◌, length, get_or, arith}
use Rattle.std.proofs.lemmas.Bool.{and_parts, ltb-true, leb-true}
use Rattle.formats.specs.Words.{all}
use Rattle.net_text.specs.declared.net.Arc.{Arc}
use Rattle.net_text.specs.declared.net.Place.{Place}
use Rattle.net_text.specs.Filled.{is_filled}
use Rattle.model.specs.Sizes.{most_limit, most_arc}
use Rattle.table.specs.Made.{joins}

-- a test that all pass, at one of them
pub all_at : {X : Type 0} (t : X → Bool) (xs : List X) (i : ℕ) (d : X) → all t xs ≡ true → i < length xs → t (get_or xs i d) ≡ true
all_at t [] i d e l = absurd (omega arith)
all_at t (x ∷ xs) zero d e l = (and_parts (t x) (all t xs) e).0
all_at t (x ∷ xs) (suc i) d e l = all_at t xs i d (and_parts (t x) (all t xs) e).1 (omega arith)

pub joined_parts : (n k : ℕ) (a : Arc) → joins n k a ≡ true → (a.place < n) × (a.transition < k) × (a.take ≤ most_arc) × (a.give ≤ most_arc)
joined_parts n k a e =
    let u = and_parts (ltb a.place n) (ltb a.transition k && (leb a.take most_arc && leb a.give most_arc)) e in
    let v = and_parts (ltb a.transition k) (leb a.take most_arc && leb a.give most_arc) u.1 in
    let w = and_parts (leb a.take most_arc) (leb a.give most_arc) v.1 in
    (ltb-true a.place n u.0, ltb-true a.transition k v.0, leb-true a.take most_arc w.0, leb-true a.give most_arc w.1)

pub filled_parts : (p : Place) → is_filled p ≡ true → (1 ≤ p.limit) × (p.limit ≤ most_limit) × (p.tokens ≤ p.limit)
filled_parts p e =
    let u = and_parts (leb 1 p.limit) (leb p.limit most_limit && leb p.tokens p.limit) e in
    let v = and_parts (leb p.limit most_limit) (leb p.tokens p.limit) u.1 in
    (leb-true 1 p.limit u.0, leb-true p.limit most_limit v.0, leb-true p.tokens p.limit v.1)
