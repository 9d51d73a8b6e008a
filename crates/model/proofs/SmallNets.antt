-- Nets by their tables keep the ranges, where the table's numbers do.
use Rattle.std.proofs.Common.{◌≡◌, ℕ, zero, suc, ◌<◌, ◌≤◌, Bool, true, ◌&&◌, leb, List, [], ◌∷◌, refl, ap, zero-le, arith, le-leb}
use Rattle.model.specs.Sizes.{most_places, most_moves, most_arc, most_limit}
use Rattle.model.specs.Net.{Net, Ranges}
use Rattle.model.specs.Cases.{nth, count_places, Move, no_such_move, nth_move, count_moves, small_net}
use Rattle.std.proofs.lemmas.Bool.{and_parts}
use Rattle.std.proofs.lemmas.Bool.Decides.{nat_tests}

abbrev pub each_in : ℕ → ℕ → List ℕ → Bool
each_in low high [] = true
each_in low high (x ∷ xs) = leb low x && (leb x high && each_in low high xs)

abbrev pub arcs_in : ℕ → List ℕ → Bool
arcs_in places xs = leb (count_places xs) places && each_in 0 most_arc xs

abbrev pub each_move : ℕ → List Move → Bool
each_move places [] = true
each_move places (m ∷ ms) = arcs_in places m.takes && (arcs_in places m.gives && each_move places ms)

nth_in : (low high : ℕ) (xs : List ℕ) → each_in low high xs ≡ true → (i : ℕ) → i < count_places xs → (low ≤ nth xs i) × (nth xs i ≤ high)
nth_in low high [] e i l = absurd (omega arith)
nth_in low high (x ∷ xs) e zero l = grind (arith, nat_tests)
nth_in low high (x ∷ xs) e (suc i) l = grind (arith, nat_tests, nth_in low high xs)

nth_past : (xs : List ℕ) (i : ℕ) → count_places xs ≤ i → nth xs i ≡ 0
nth_past [] i l = refl
nth_past (x ∷ xs) zero l = absurd (omega arith)
nth_past (x ∷ xs) (suc i) l = nth_past xs i (omega arith)

nth_most : (high : ℕ) (xs : List ℕ) → each_in 0 high xs ≡ true → (i : ℕ) → nth xs i ≤ high
nth_most high [] e i = zero-le
nth_most high (x ∷ xs) e zero = grind (arith, nat_tests)
nth_most high (x ∷ xs) e (suc i) = grind (arith, nat_tests, nth_most high xs)

-- a move of the list has good arcs, and a missing one has none
move_in : (places : ℕ) (ms : List Move) → each_move places ms ≡ true → (t : ℕ) → (arcs_in places (nth_move ms t).takes ≡ true) × (arcs_in places (nth_move ms t).gives ≡ true)
move_in places [] e t = (nothing, nothing)
  where
    nothing : leb 0 places && true ≡ true
    nothing = ap (λ b. b && true) (le-leb 0 places zero-le)
move_in places (m ∷ ms) e zero = grind arith
move_in places (m ∷ ms) e (suc t) = grind (arith, move_in places ms)

move_past : (ms : List Move) (t : ℕ) → count_moves ms ≤ t → nth_move ms t ≡ no_such_move
move_past [] t l = refl
move_past (m ∷ ms) zero l = absurd (omega arith)
move_past (m ∷ ms) (suc t) l = move_past ms t (omega arith)

arc_most : (places : ℕ) (xs : List ℕ) → arcs_in places xs ≡ true → (p : ℕ) → nth xs p ≤ most_arc
arc_most places xs e p = nth_most most_arc xs (and_parts (leb (count_places xs) places) (each_in 0 most_arc xs) e).1 p

arc_past : (places : ℕ) (xs : List ℕ) → arcs_in places xs ≡ true → (p : ℕ) → places ≤ p → nth xs p ≡ 0
arc_past places xs e p l = nth_past xs p (grind (arith, nat_tests))

module _ (limits : List ℕ) (ms : List Move) (some_place : 1 ≤ count_places limits) (few_places : count_places limits ≤ most_places) (some_move : 1 ≤ count_moves ms) (few_moves : count_moves ms ≤ most_moves)
    (good_limits : each_in 1 most_limit limits ≡ true) (good_moves : each_move (count_places limits) ms ≡ true) where
  abbrev n : Net
  n = small_net limits ms

  take_none : (p t : ℕ) → count_places limits ≤ p → n.take p t ≡ 0
  take_none p t l = arc_past (count_places limits) (nth_move ms t).takes (move_in (count_places limits) ms good_moves t).0 p l

  give_none : (p t : ℕ) → count_places limits ≤ p → n.give p t ≡ 0
  give_none p t l = arc_past (count_places limits) (nth_move ms t).gives (move_in (count_places limits) ms good_moves t).1 p l

  pub small_ranges : Ranges (small_net limits ms)
  small_ranges = record {
    ground_some = some_place;
    ground_few = few_places;
    places_all = omega arith;
    places_few = omega (arith, few_places);
    moves_some = some_move;
    moves_few = few_moves;
    ground_arcs = λ p t l. (arc_most (count_places limits) (nth_move ms t).takes (move_in (count_places limits) ms good_moves t).0 p, arc_most (count_places limits) (nth_move ms t).gives (move_in (count_places limits) ms good_moves t).1 p);
    ground_limit = λ p l. nth_in 1 most_limit limits good_limits p l;
    ground_plain = λ p l. (refl, refl);
    control_arcs = λ p t l. (omega (arith, arc_most (count_places limits) (nth_move ms t).takes (move_in (count_places limits) ms good_moves t).0 p), omega (arith, arc_most (count_places limits) (nth_move ms t).gives (move_in (count_places limits) ms good_moves t).1 p));
    control_limited = λ p l m. absurd (omega arith);
    control_free = λ p t l e. take_none p t l;
    no_place = λ p t l. (take_none p t l, give_none p t l, nth_past limits p l, refl, refl);
    no_move = λ p t l. (
      ap (λ (m : Move). nth m.takes p) (move_past ms t l),
      ap (λ (m : Move). nth m.gives p) (move_past ms t l),
      ap (λ (m : Move). m.steered) (move_past ms t l),
    );
  }
