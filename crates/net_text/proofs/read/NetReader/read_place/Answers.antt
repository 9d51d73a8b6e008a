use Rattle.std.proofs.Common.{◌+◌, [], ◌++◌, length}
use Rattle.formats.specs.ReadNet.{place_line_checks, name_checks, count_checks}
use Rattle.net_text.specs.Nets.{net_of}
use Rattle.texts.proofs.Checking.{stops, then_stops, passed_on}
use Rattle.net_text.proofs.read.NetReader.read_place.Goals as goal

pub returns-in_err-check_place_line : goal.returns-in_err-check_place_line
returns-in_err-check_place_line c =
    let x = net_of c.args.self.now.text.now c.args.self.now.net in
    let at = c.args.at.byte in
    let names = name_checks x (at + 6) c.args.name.now in
    let counts = count_checks (at + 6 + length c.args.name.now + 1) c.args.tokens.now c.args.limit.now in
    passed_on c.from_residual.result c.from_residual.ensures.1
    (stops (place_line_checks x at) (names ++ counts) c.args.at.line tt _ _ c.in_err-check_place_line.ensures)

pub returns-in_err-check_new_name : goal.returns-in_err-check_new_name
returns-in_err-check_new_name c =
    let x = net_of c.args.self.now.text.now c.args.self.now.net in
    let at = c.args.at.byte in
    let names = name_checks x (at + 6) c.args.name.now in
    let counts = count_checks (at + 6 + length c.args.name.now + 1) c.args.tokens.now c.args.limit.now in
    passed_on c.from_residual-in_err-check_new_name.result c.from_residual-in_err-check_new_name.ensures.1
    (then_stops (place_line_checks x at) (names ++ counts) c.args.at.line tt tt _ _ c.in_ok-check_place_line.ensures
    (stops names counts c.args.at.line tt _ _ c.in_err-check_new_name.ensures))

pub returns-in_err-tokens : goal.returns-in_err-tokens
returns-in_err-tokens c =
    let x = net_of c.args.self.now.text.now c.args.self.now.net in
    let at = c.args.at.byte in
    let names = name_checks x (at + 6) c.args.name.now in
    let counts = count_checks (at + 6 + length c.args.name.now + 1) c.args.tokens.now c.args.limit.now in
    passed_on c.from_residual-in_err-tokens.result c.from_residual-in_err-tokens.ensures.1
    (then_stops (place_line_checks x at) (names ++ counts) c.args.at.line tt tt _ _ c.in_ok-check_place_line.ensures
    (then_stops names counts c.args.at.line tt tt _ _ c.in_ok-check_new_name.ensures
    (stops counts [] c.args.at.line _ _ _ c.in_err-tokens.ensures)))
