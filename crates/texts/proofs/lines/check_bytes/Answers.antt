use Rattle.std.proofs.Common.{◌+◌, Err, sym, ap, ◌∙◌}
use Rattle.model.specs.declared.refusal.Refusal.TheVariants.{Byte}
use Rattle.formats.specs.Texts.{fault}
use Rattle.texts.proofs.Lining.{bytes_bad, bytes_fine}
use Rattle.texts.proofs.lines.check_bytes.Goals as goal

pub returns-in_default : goal.returns-in_default
returns-in_default c = bytes_fine c.args.text.now (sym c.first_bad.ensures.value ∙ c.in_default.is)

pub returns : goal.returns
returns c = ap Err (c.fault.ensures ∙ ap (λ n. fault Byte (1 + n) c.in-Some.byte) c.count_ends-line.ensures.value) ∙ bytes_bad c.args.text.now c.in-Some.byte (sym c.first_bad.ensures.value ∙ c.in-Some.is)
