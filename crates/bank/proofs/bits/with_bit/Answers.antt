use Rattle.std.proofs.Common.{◌^◌}
use Rattle.std.proofs.Math.Pow.{pow-lt}
use Rattle.std.proofs.lemmas.Nat.{one_shl, or_lt}
use Rattle.bank.specs.Words.{set_bit}
use Rattle.bank.proofs.bits.with_bit.Goals as goal

pub returns : goal.returns
returns c =
    let w = c.args.w in
    let p = c.args.p in
    simp (one_shl p 32 c.requires) (record {
      bits = λ q. set_bit w p q;
      inside = λ n l h. or_lt n w (2 ^ p) h (pow-lt l);
    })
