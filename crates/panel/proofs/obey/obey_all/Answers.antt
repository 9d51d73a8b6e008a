use Rattle.std.proofs.Common.{rules}
use Rattle.texts.specs.Walking.{line_at}
use Rattle.texts.proofs.Walking.{bytes_of}
use Rattle.panel.proofs.obey.obey_all.Goals as goal

pub loop-line-init : goal.loop-line-init
loop-line-init g c = let e = bytes_of (line_at 1 0) in search (rules, e)
