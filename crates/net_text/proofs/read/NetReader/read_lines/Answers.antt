use Rattle.std.proofs.Common.{ℕ, ◌+◌, List, drop, Ok, sym, ap, ◌∙◌, subst, arith}
use Rattle.formats.specs.NetClauses.{Shape, shape}
use Rattle.formats.specs.ReadNet.{checks, after, is_whole}
use Rattle.texts.specs.Lines.{shape_of}
use Rattle.texts.specs.Walking.{numbered_lines, lines_left}
use Rattle.net_text.specs.Reading.{Step, Stands, Locates, line_count}
use Rattle.texts.proofs.Walking.{LineStands, stands, line_passed}
use Rattle.net_text.proofs.Standing.{line_stands}
use Rattle.net_text.proofs.read.NetReader.read_lines.Goals as goal
use Rattle.net_text.proofs.read.NetReader.read_lines.Goals.{In-Some}

-- the line that was taken stands in the text
here : (c : In-Some) → LineStands c.args.self.now.text.now (line_count c.loop-at.self.net + 1) c.in-Some.at c.in-Some.line.now (lines_left c.next.new.self)
here c =
    stands c.args.self.now.text.now (line_count c.loop-at.self.net + 1) c.in-Some.at c.in-Some.line.now (lines_left c.next.new.self) c.requires.text_bound.1
    (sym c.loop-at.invariant.left ∙ c.in-Some.ensures.steps)

pub add_record-requires : goal.add_record-requires
add_record-requires c =
    let h = here (goal.at.add_record-requires c).In-Some in
    record {
      stands = subst (λ (bs : List ℕ). Stands bs c.in-Some.at.byte (shape_of c.in_ok-read.read)) (sym c.loop-at.invariant.same)
          (subst (λ (l : Shape). Stands c.args.self.now.text.now c.in-Some.at.byte l) c.in_ok-read.ensures.0 (line_stands c.args.self.now.text.now c.in-Some.at.byte c.in-Some.line.now h.more h.there));
    }

pub loop-at-preserved : goal.loop-at-preserved
loop-at-preserved c =
    let h = here (goal.at.loop-at-preserved c).In-Some in
    let same = c.loop-at.invariant.same in
    let q = c.loop-at.self.net in
    let q' = c.add_record.new.self.net in
    let step = subst (λ (bs : List ℕ). Step bs q q' c.in-Some.at.line c.in-Some.at.byte (shape_of c.in_ok-read.read) (Ok tt)) same c.in_ok-add_record.ensures.step in
    let grown = subst (λ (bs : List ℕ). Locates bs q q' c.in-Some.at.byte) same c.in_ok-add_record.ensures.located c.loop-at.invariant.located h.start in
    record {
      same = c.in_ok-add_record.ensures.text ∙ same;
      comes = line_passed shape checks after is_whole c.loop-at.invariant.comes c.in-Some.ensures.steps (shape_of c.in_ok-read.read) c.in_ok-read.ensures.0 _ step;
      left = h.next ∙ ap (λ (i : ℕ). drop i (numbered_lines c.args.self.now.text.now)) (omega (arith, grown.1));
      located = grown.0;
    }
