use Rattle.std.proofs.Common.{◌+◌, ◌++◌, length}
use Rattle.formats.specs.ReadNet.{move_line_checks, name_checks, letter_checks}
use Rattle.net_text.specs.Nets.{net_of}
use Rattle.texts.proofs.Checking.{stops, then_stops, passed_on}
use Rattle.net_text.proofs.read.NetReader.read_move.Goals as goal

pub returns-in_err-check_new_name : goal.returns-in_err-check_new_name
returns-in_err-check_new_name c =
    let x = net_of c.args.self.now.text.now c.args.self.now.net in
    let at = c.args.at.byte in
    let names = name_checks x (at + 5) c.args.name.now in
    let letters = letter_checks (at + 5 + length c.args.name.now + 1) c.args.letter.now in
    passed_on c.from_residual-in_err-check_new_name.result c.from_residual-in_err-check_new_name.ensures.1
    (then_stops (move_line_checks x at) (names ++ letters) c.args.at.line tt tt _ _ c.in_ok-check_move_line.ensures
    (stops names letters c.args.at.line tt _ _ c.in_err-check_new_name.ensures))
