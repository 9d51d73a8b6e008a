use Rattle.std.proofs.Common.{refl, ◌∙◌, arith}
use Rattle.texts.proofs.Lining.{text_ended}
use Rattle.texts.proofs.lines.is_text.Goals as goal

pub returns-then-text-le-MOST_BYTES : goal.returns-then-text-le-MOST_BYTES
returns-then-text-le-MOST_BYTES c = c.eq.ensures ∙ text_ended c.args.text.now c.last.result _ refl c.last.ensures.value (omega arith)
