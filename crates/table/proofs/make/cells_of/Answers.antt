use Rattle.table.proofs.Filling.{filled_none, filled_more}
use Rattle.table.proofs.make.cells_of.Goals as goal

pub loop-arc-init : goal.loop-arc-init
loop-arc-init c = filled_none c.args.arcs.now

pub loop-arc-preserved : goal.loop-arc-preserved
loop-arc-preserved c = rw c.of.ensures (filled_more c.args.arcs.now c.loop-arc.arc-index c.loop-arc.cells c.loop-arc.invariant c.loop-arc-test.true c.requires)
