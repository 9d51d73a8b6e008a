use Rattle.std.proofs.Common.{◌≡◌, ◌+◌, true, None, Err, sym, ap, ◌∙◌, rules}
use Rattle.formats.specs.Sums.{begins_name}
use Rattle.formats.specs.NetText.{place_names}
use Rattle.texts.proofs.Checking.{passed_on}
use Rattle.rules_text.specs.Sums.{piece_at}
use Rattle.rules_text.proofs.Parts.{passed, name_unknown, name_fine}
use Rattle.rules_text.proofs.part.SumReader.read_name.Goals as goal

pub returns-in_err-place-clause-value : goal.returns-in_err-place-clause-value
returns-in_err-place-clause-value c =
    let begun : begins_name (piece_at c.args.self.now.sum.now c.args.start) ≡ true = sym c.begins_name.ensures ∙ passed _ _ _ _ _ _ c.in_ok-check.ensures in
    let none : None ≡ c.find_place.result = search rules in
    let same : c.in_err-place.field-0.0 ≡ c.fault.result = search rules in
    passed_on c.from_residual-in_err-place.result c.from_residual-in_err-place.ensures.1
    (ap Err (same ∙ c.fault.ensures)
    ∙ name_unknown (place_names c.args.self.now.net.now) c.args.self.now.sum.now c.args.start c.name_end-end.result c.name_end-end.ensures.value begun (c.args.self.now.byte + c.args.start) c.args.self.now.at.line _ (none ∙ c.find_place.ensures.value))

pub returns-clause-value : goal.returns-clause-value
returns-clause-value c =
    let begun : begins_name (piece_at c.args.self.now.sum.now c.args.start) ≡ true = sym c.begins_name.ensures ∙ passed _ _ _ _ _ _ c.in_ok-check.ensures in
    name_fine (place_names c.args.self.now.net.now) c.args.self.now.sum.now c.args.start c.name_end-end.result c.name_end-end.ensures.value begun (c.args.self.now.byte + c.args.start) c.args.self.now.at.line c.in_ok-place.place (search rules)
