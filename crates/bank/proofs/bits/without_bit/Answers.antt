use Rattle.std.proofs.Common.{◌^◌, ◌<◌, arith}
use Rattle.std.proofs.lemmas.Nat.{one_shl}
use Rattle.bank.specs.Words.{clear_bit}
use Rattle.bank.proofs.bits.without_bit.Goals as goal

pub returns-clause-bits : goal.returns-clause-bits
returns-clause-bits c =
    let fits : c.args.w < 2 ^ 32 = omega arith in
    simp (one_shl c.args.p 32 c.requires) (λ q. clear_bit 32 c.args.w c.args.p q c.requires fits)
