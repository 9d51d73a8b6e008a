use Rattle.std.proofs.Common.{◌+◌, refl, arith}
use Rattle.std.specs.Fn.{FnReturnsAt}
use Rattle.bank.specs.Words.{next_inside_word}
use Rattle.bank.proofs.Building.{bits_set, bits_still}
use Rattle.bank.proofs.making.bits.Goals as goal
use Rattle.bank.proofs.making.bits.Goals.{then-test, else-test}

pub loop-k-preserved : goal.loop-k-preserved
loop-k-preserved g c =
    let to = c.loop-k.invariant in
    let R = FnReturnsAt g.F.Fn c.args.test in
    let told : R c.index-items-k.result c.test.result = record { shown = _; shows = refl; says = record { met = c.test.ensures } } in
    elim c.if-test.branch [
      | then-test w ↦ rw w.word-is (bits_set R c.args.items.now c.loop-k.k c.loop-k.word c.index-items-k.result c.test.result to c.loop-k-test.true c.index-items-k.is told w.with_bit-word.result
          (w.with_bit-word.ensures.inside (c.loop-k.k + 1) (omega arith) (next_inside_word c.loop-k.word c.loop-k.k to.inside)) w.with_bit-word.ensures.bits w.if-test.true)
      | else-test w ↦ rw w.word-is (bits_still R c.args.items.now c.loop-k.k c.loop-k.word c.index-items-k.result c.test.result to c.loop-k-test.true c.index-items-k.is told w.if-test.false)
    ]
