use Rattle.std.proofs.Common.{arith}
use Rattle.rules_text.proofs.Standing.{fixed_length}
use Rattle.rules_text.proofs.read.RulesReader.read_fixed.Goals as goal

pub overflow_add-fields : goal.overflow_add-fields
overflow_add-fields c =
    let l = fixed_length c.args.line.now c.in-Fixed.name.now c.in-Fixed.sum.now c.in-Fixed.bound.now (rw c.in-Fixed.is at c.in_ok-name.ensures).1 in
    omega arith

pub invariant_of-fields : goal.invariant_of-fields
invariant_of-fields c =
    let l = fixed_length c.args.line.now c.in-Fixed.name.now c.in-Fixed.sum.now c.in-Fixed.bound.now (rw c.in-Fixed.is at c.in_ok-name.ensures).1 in
    omega arith
