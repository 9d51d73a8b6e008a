-- The pairs of a place and a move that arcs join.
use Rattle.std.proofs.Common.{◌≡◌, ℕ, ◌+◌, ◌*◌, ◌<◌, Bool, true, false, not, ◌&&◌, ◌||◌, eqb, List, [], ◌∷◌, ◌++◌, map, length, get_or, set, replicate, arith}
use Rattle.std.proofs.lemmas.Bool.Decides.{nat_tests}
use Rattle.std.proofs.lemmas.Grind.{common_steps}
use Rattle.model.specs.Sizes.{most_places}
use Rattle.formats.specs.ReadNet.{is_new_pair}
use Rattle.net_text.specs.declared.net.Arc.{Arc}
use Rattle.net_text.specs.declared.joined.Joined.{Joined}
use Rattle.net_text.specs.Nets.{arc_of}
use Rattle.net_text.specs.Joined.{has, Marks}

-- each of n is v, and so is what is read past them
pub same_all : {A : Type 0} (n i : ℕ) (v : A) → get_or (replicate n v) i v ≡ v
same_all n i v = grind (arith, common_steps)

-- one pair more
pub marked : (bs : List Bool) (p t q u : ℕ) → p < most_places → q < most_places → t * most_places + p < length bs → get_or (set bs (t * most_places + p) true) (u * most_places + q) false ≡ (get_or bs (u * most_places + q) false || (eqb p q && eqb t u))
marked bs p t q u l m n = grind (arith, common_steps, nat_tests)

-- one arc more
new_more : (xs : List Arc) (a : Arc) (p t : ℕ) → is_new_pair (map arc_of (xs ++ (a ∷ []))) p t ≡ (is_new_pair (map arc_of xs) p t && not (eqb a.place p && eqb a.transition t))
new_more [] a p t = grind arith
new_more (x ∷ xs) a p t = let e = new_more xs a p t in grind arith

pub marks_more : (j k : Joined) (xs ys : List Arc) (a : Arc) → Marks j xs → ys ≡ xs ++ (a ∷ []) → ((p t : ℕ) → p < most_places → has k p t ≡ (has j p t || (eqb a.place p && eqb a.transition t))) → Marks k ys
marks_more j k xs ys a old pushed added p t h = rw pushed (grind (arith, new_more xs a p t, old p t h, added p t h))
