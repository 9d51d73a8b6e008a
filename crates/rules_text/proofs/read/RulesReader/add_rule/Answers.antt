use Rattle.std.proofs.Common.{◌≡◌, ◌++◌, [], ◌∷◌, Bool, ltb, true, ap, sym, ◌∙◌, vec_len}
use Rattle.std.proofs.lemmas.Result.{err_from_is_err_and}
use Rattle.formats.specs.NetText.{names, place_names}
use Rattle.model.specs.declared.refusal.Refusal.TheVariants.{TooMany}
use Rattle.formats.specs.Texts.{check}
use Rattle.texts.specs.declared.span.Span.{Span}
use Rattle.texts.specs.Spans.{checked}
use Rattle.rules_text.specs.Rules.{rule_titles}
use Rattle.rules_text.proofs.Parts.{passed}
use Rattle.rules_text.proofs.Adding.{no_room, line_refused, rule_added, rule_located}
use Rattle.rules_text.proofs.read.RulesReader.add_rule.Goals as goal

pub returns-in_err-check-clause-step : goal.returns-in_err-check-clause-step
returns-in_err-check-clause-step c = λ x says.
    let p = err_from_is_err_and c.from_residual.result c.from_residual.ensures.1 in
    let net = c.args.self.now.net.now in
    rw (p.1, p.2)
    (no_room (names net) (place_names net) c.args.self.now.text.now c.args.rules.now c.args.at.line c.args.at.byte c.args.name.now c.args.sum.now c.args.bound.now x says _
    (c.in_err-check.ensures ∙ ap (λ (b : Bool). checked (check b TooMany c.args.at.byte ∷ []) c.args.at.line (tt {0})) c.rule_fits.ensures))

pub returns-in_err-rule-clause-step : goal.returns-in_err-rule-clause-step
returns-in_err-rule-clause-step c = λ x says.
    let p = err_from_is_err_and c.from_residual-in_err-rule.result c.from_residual-in_err-rule.ensures.1 in
    let net = c.args.self.now.net.now in
    let room : ltb (vec_len c.args.rules.now.others) 12 ≡ true = sym c.rule_fits.ensures ∙ passed _ _ _ _ _ _ c.in_ok-check.ensures in
    rw (p.1, p.2)
    (line_refused (names net) (place_names net) c.args.self.now.text.now c.args.rules.now c.args.at.line c.args.at.byte c.args.name.now c.args.sum.now c.args.bound.now x says room _
    (c.in_err-rule.ensures (names net ++ rule_titles c.args.self.now.text.now c.args.rules.now) c.is_new.ensures))

pub returns : goal.returns
returns c =
    let net = c.args.self.now.net.now in
    let room : ltb (vec_len c.args.rules.now.others) 12 ≡ true = sym c.rule_fits.ensures ∙ passed _ _ _ _ _ _ c.in_ok-check.ensures in
    let read = c.in_ok-rule.ensures (names net ++ rule_titles c.args.self.now.text.now c.args.rules.now) c.is_new.ensures in
    record {
      step = λ x says.
          rule_added (names net) (place_names net) c.args.self.now.text.now c.args.rules.now c.args.at.line c.args.at.byte c.args.name.now c.args.sum.now c.args.bound.now x says room
          c.in_ok-rule.rule c.push.new.self c.in_ok-push.ensures.items c.requires.stands.0 read.0 read.1;
      located = rule_located c.args.self.now.text.now c.args.rules.now c.args.at.byte c.in_ok-rule.rule c.push.new.self c.in_ok-push.ensures.items (ap (λ (s : Span). s.start) read.1.0);
    }
