use Rattle.std.proofs.Common.{refl}
use Rattle.ledger.proofs.Counting.{zeros, tallied_none}
use Rattle.ledger.proofs.grants.Grants.none.Goals as goal

pub returns-clause-none : goal.returns-clause-none
returns-clause-none c = λ i t. zeros 32 t i

pub returns-clause-tallied : goal.returns-clause-tallied
returns-clause-tallied c = λ n. tallied_none n _ (λ i t. zeros 32 t i) refl (λ p l. zeros 64 p)
