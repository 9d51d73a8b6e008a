use Rattle.std.proofs.Common.{◌≡◌, ℕ, List, ◌∷◌, length, Some, Result, sym, ap, ◌∙◌, arith}
use Rattle.std.proofs.lemmas.Result.{err_from_is_err_and}
use Rattle.formats.specs.ReadNet.{net_reader, read_net}
use Rattle.net_text.specs.declared.net.NetText.{NetText}
use Rattle.net_text.specs.Nets.{net_of}
use Rattle.net_text.specs.Reading.{end_read}
use Rattle.formats.specs.declared.fault.TextFault.{TextFault}
use Rattle.texts.specs.declared.at.At.{At}
use Rattle.texts.specs.Walking.{numbered_lines, read_on, lines_left}
use Rattle.texts.proofs.Walking.{first_at, some_line}
use Rattle.texts.proofs.Whole.{text_refused, text_passed}
use Rattle.net_text.proofs.Whole.{first_refused, first_said, end_refused, end_passed, accepts, refuses, lines_refused}
use Rattle.net_text.proofs.reader.read_net.Goals as goal
use Rattle.net_text.proofs.reader.read_net.Goals.{In-Some, After-read_lines}

pub returns-in_err-check_text : goal.returns-in_err-check_text
returns-in_err-check_text c =
    let p = err_from_is_err_and c.from_residual.result c.from_residual.ensures.1 in
    rw (p.1, p.2) (refuses c.args.text.now _ (text_refused net_reader c.args.text.now _ c.in_err-check_text.ensures))

-- a text that passed has a line
pub unreachable-requires : goal.unreachable-requires
unreachable-requires c =
    let t = text_passed net_reader c.args.text.now c.in_ok-check_text.ensures in
    some_line c.args.text.now t.0.0 t.0.2 (sym c.new-lines.ensures ∙ c.in_default.ensures.steps.0)

-- the first line
starts : (c : In-Some) → numbered_lines c.args.text.now ≡ (c.in-Some.at, c.in-Some.first.now) ∷ lines_left c.next.new.self
starts c = sym c.new-lines.ensures ∙ c.in-Some.ensures.steps

pub read_plant-requires : goal.read_plant-requires
read_plant-requires c =
    let at = ap (λ (a : At). a.byte) (first_at c.args.text.now c.in-Some.at c.in-Some.first.now (lines_left c.next.new.self) (starts (goal.at.read_plant-requires c).In-Some)) in
    omega (arith, at)

pub returns-in_err-kind : goal.returns-in_err-kind
returns-in_err-kind c =
    let p = err_from_is_err_and c.from_residual-in_err-kind.result c.from_residual-in_err-kind.ensures.1 in
    let t = text_passed net_reader c.args.text.now c.in_ok-check_text.ensures in
    rw (p.1, p.2)
    (refuses c.args.text.now _ (t.1 ∙ first_refused c.args.text.now t.0.2 c.in-Some.at c.in-Some.first.now (lines_left c.next.new.self) (starts (goal.at.returns-in_err-kind c).In-Some) _ c.in_err-kind.ensures))

-- the net of which only the kind is known
abbrev begun : (c : After-read_lines) → NetText
begun c = record { kind = c.in_ok-kind.kind; places = c.new.result; moves = c.new-2.result; arcs = c.new-3.result }

-- the text comes to what its lines after the first come to
comes : (c : After-read_lines) → read_net c.args.text.now ≡ read_on net_reader (Some (net_of c.args.text.now (begun c))) (length c.args.text.now) (lines_left c.next.new.self)
comes c =
    let t = text_passed net_reader c.args.text.now c.in_ok-check_text.ensures in
    t.1 ∙ first_said c.args.text.now t.0.2 c.in-Some.at c.in-Some.first.now (lines_left c.next.new.self) (sym c.new-lines.ensures ∙ c.in-Some.ensures.steps) (begun c) c.new.ensures.items c.new-2.ensures.items c.new-3.ensures.items c.in_ok-kind.ensures

pub returns-in_err-read_lines : goal.returns-in_err-read_lines
returns-in_err-read_lines c =
    let p = err_from_is_err_and c.from_residual-in_err-read_lines.result c.from_residual-in_err-read_lines.ensures.1 in
    rw (p.1, p.2) (lines_refused c.args.text.now _ _ (comes (goal.at.returns-in_err-read_lines c).After-read_lines) _ c.in_err-read_lines.ensures.answer)

-- what the end of the text answers, for the text that was read
abbrev ended : (t : List ℕ) (n : NetText) → Result (Unit {0}) TextFault
ended t n = end_read (net_of t n) (length t)

pub returns-in_err-check_end : goal.returns-in_err-check_end
returns-in_err-check_end c =
    let p = err_from_is_err_and c.from_residual-in_err-check_end.result c.from_residual-in_err-check_end.ensures.1 in
    let bs = c.args.text.now in
    let n = c.read_lines.new.self.net in
    rw (p.1, p.2)
    (refuses bs _ (comes (goal.at.returns-in_err-check_end c).After-read_lines ∙ c.in_ok-read_lines.ensures.answer ∙ end_refused (net_of bs n) (length bs) _ (c.in_err-check_end.ensures ∙ ap (λ t. ended t n) c.in_ok-read_lines.ensures.text)))

pub returns : goal.returns
returns c =
    let bs = c.args.text.now in
    let n = c.read_lines.new.self.net in
    accepts bs _ (comes (goal.at.returns c).After-read_lines ∙ c.in_ok-read_lines.ensures.answer ∙ end_passed (net_of bs n) (length bs) (c.in_ok-check_end.ensures ∙ ap (λ t. ended t n) c.in_ok-read_lines.ensures.text))
    c.in_ok-read_lines.ensures.located
