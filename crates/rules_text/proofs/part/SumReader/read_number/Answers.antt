use Rattle.std.proofs.Common.{◌≡◌, sym, ap, None, Err, ◌∙◌, rules}
use Rattle.texts.proofs.Checking.{passed_on}
use Rattle.rules_text.proofs.Parts.{number_bad, number_alone, number_fine, number_rest}
use Rattle.rules_text.proofs.part.SumReader.read_number.Goals as goal

pub returns-in_err-n-clause-value : goal.returns-in_err-n-clause-value
returns-in_err-n-clause-value c =
    let none : None ≡ c.factor.result = search rules in
    let same : c.in_err-n.field-0.0 ≡ c.fault.result = search rules in
    passed_on c.from_residual.result c.from_residual.ensures.1
    (ap Err (same ∙ c.fault.ensures)
    ∙ number_bad c.args.self.now.sum.now c.args.start c.digits_end-end.result c.digits_end-end.ensures.value c.requires.start_within c.if-end-start.false _ _ _ (none ∙ c.factor.ensures.value))

pub returns-in-Times-clause-value : goal.returns-in-Times-clause-value
returns-in-Times-clause-value c =
    number_fine c.args.self.now.sum.now c.args.start c.digits_end-end.result c.digits_end-end.ensures.value c.requires.start_within c.if-end-start.false _ _ _ (search rules) c.in-Times.ensures

pub returns-in-Times-clause-rest : goal.returns-in-Times-clause-rest
returns-in-Times-clause-rest c =
    number_rest c.args.self.now.sum.now c.args.start c.digits_end-end.result c.digits_end-end.ensures.value c.requires.start_within c.if-end-start.false c.in-Times.ensures

pub returns-in_default : goal.returns-in_default
returns-in_default c =
    record {
      value = ap Err c.fault-in_default.ensures
          ∙ number_alone c.args.self.now.sum.now c.args.start c.digits_end-end.result c.digits_end-end.ensures.value c.requires.start_within c.if-end-start.false c.args.self.now.byte _ c.in_ok-n.n _ (search rules)
          (λ e. c.in_default.not-Times (c.next_at.ensures ∙ sym e));
      within = tt;
      rest = tt;
    }
