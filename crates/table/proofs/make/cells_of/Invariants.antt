use Rattle.table.proofs.Filling.{Filled}
use Rattle.table.proofs.make.cells_of.Given as goal

abbrev pub invariant-loop-arc : goal.invariant-loop-arc
invariant-loop-arc l = Filled l.arcs l.arc-index l.cells
