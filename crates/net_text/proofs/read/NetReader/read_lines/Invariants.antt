use Rattle.std.proofs.Common.{◌≡◌, ◌+◌, length, drop, Some}
use Rattle.formats.specs.ReadNet.{net_reader}
use Rattle.texts.specs.Walking.{numbered_lines, read_on, lines_left}
use Rattle.texts.proofs.Walking.{Comes}
use Rattle.net_text.specs.Nets.{net_of}
use Rattle.net_text.specs.Reading.{so_far, Located, line_count}
use Rattle.net_text.proofs.read.NetReader.read_lines.Given as goal

abbrev pub invariant-loop-at : goal.invariant-loop-at
invariant-loop-at l = record {
  same : l.self.text.now ≡ l.initial.self.text.now;
  comes : Comes net_reader (net_of l.initial.self.text.now l.self.net) (length l.initial.self.text.now) (lines_left l.at-iterator)
      (read_on net_reader (Some (so_far l.initial.self)) (length l.initial.self.text.now) (lines_left l.initial.lines));
  left : lines_left l.at-iterator ≡ drop (line_count l.self.net + 1) (numbered_lines l.initial.self.text.now);
  located : Located l.initial.self.text.now l.self.net;
}
