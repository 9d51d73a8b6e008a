-- The net that the model's cases of a line write out is the net of a line.
use Rattle.std.proofs.Common.{◌≡◌, ℕ, zero, suc, refl, arith}
use Rattle.std.proofs.lemmas.Bool.Decides.{nat_tests}
use Rattle.model.specs.Cases as model
use Rattle.cases.specs.Marked.{line_of_two}

steered : (t : ℕ) → model.line.controllable t ≡ line_of_two.controllable t
steered zero = refl
steered (suc zero) = refl
steered (suc (suc zero)) = refl
steered (suc (suc (suc t))) = grind (arith, nat_tests)

takes : (p t : ℕ) → model.line.take p t ≡ line_of_two.take p t
takes p zero = grind (arith, nat_tests)
takes zero (suc zero) = refl
takes (suc p) (suc zero) = grind (arith, nat_tests)
takes zero (suc (suc zero)) = refl
takes (suc zero) (suc (suc zero)) = refl
takes (suc (suc p)) (suc (suc zero)) = grind (arith, nat_tests)
takes p (suc (suc (suc t))) = grind (arith, nat_tests)

gives : (p t : ℕ) → model.line.give p t ≡ line_of_two.give p t
gives zero zero = refl
gives (suc p) zero = grind (arith, nat_tests)
gives zero (suc zero) = refl
gives (suc zero) (suc zero) = refl
gives (suc (suc p)) (suc zero) = grind (arith, nat_tests)
gives p (suc (suc zero)) = grind (arith, nat_tests)
gives p (suc (suc (suc t))) = grind (arith, nat_tests)

limits : (p : ℕ) → model.line.limit p ≡ line_of_two.limit p
limits zero = refl
limits (suc zero) = refl
limits (suc (suc p)) = grind (arith, nat_tests)

pub is_a_line : model.line ≡ line_of_two
is_a_line = λ i. record {
  ground_places = 2;
  places = 2;
  moves = 3;
  controllable = λ t. steered t i;
  take = λ p t. takes p t i;
  give = λ p t. gives p t i;
  limit = λ p. limits p i;
  layer = λ p. 0;
  row = λ p. 0;
}
