use Rattle.texts.proofs.Checking.{passed_on}
use Rattle.formats.specs.NetText.{place_names}
use Rattle.rules_text.proofs.Parts.{term_stops}
use Rattle.rules_text.proofs.part.SumReader.read_term.Goals as goal

pub returns-in_err-place-clause-value : goal.returns-in_err-place-clause-value
returns-in_err-place-clause-value c =
    passed_on c.from_residual-in_err-place.result c.from_residual-in_err-place.ensures.1
    (term_stops (place_names c.args.self.now.net.now) c.args.self.now.sum.now c.args.self.now.byte c.args.start c.args.self.now.at.line _ _ c.in_ok-number.ensures.value c.in_ok-number.ensures.rest.0 _ _ _ c.in_err-place.ensures.value)
