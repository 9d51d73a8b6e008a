use Rattle.panel.proofs.Making.{table_made, bank_made, line_made}
use Rattle.panel.proofs.run.run_net.Goals as goal

pub run_made-requires : goal.run_made-requires
run_made-requires c = table_made c.net.inside.text.now c.net.inside.net.now c.args.said.now.net.now c.net.view_is c.requires c.in-Net.is c.make.result c.make.ensures

pub run_made-requires-in-Bank : goal.run_made-requires-in-Bank
run_made-requires-in-Bank c = bank_made c.net.inside.text.now c.net.inside.net.now c.args.said.now.net.now c.net.view_is c.requires c.in-Bank.is c.make-in-Bank.result c.make-in-Bank.ensures

pub run_made-requires-in-Line : goal.run_made-requires-in-Line
run_made-requires-in-Line c = line_made c.net.inside.text.now c.net.inside.net.now c.args.said.now.net.now c.net.view_is c.requires c.in-Line.is c.make-in-Line.result c.make-in-Line.ensures
