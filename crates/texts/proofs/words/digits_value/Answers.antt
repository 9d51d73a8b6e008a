use Rattle.std.proofs.Common.{ℕ, ◌+◌, ◌*◌, ◌≤◌, leb, get_or, drop, Some, sym, refl, ap, ◌∙◌, arith}
use Rattle.std.specs.Str.{all_ascii_digits}
use Rattle.std.proofs.lemmas.List.{at_drop_more, at_drop_all}
use Rattle.std.proofs.lemmas.Bool.{cond-true, cond-false, and_parts, leb-true}
use Rattle.formats.specs.Words.{is_digit, value_after}
use Rattle.texts.proofs.Scanning.{each_stops, each_goes, each_ends, power_more, power_most}
use Rattle.texts.proofs.words.digits_value.Goals as goal

pub overflow_mul-value : goal.overflow_mul-value
overflow_mul-value c = omega (arith, power_most c.loop-b.b-index (omega arith))

pub overflow_add-value : goal.overflow_add-value
overflow_add-value c = omega (arith, power_most c.loop-b.b-index (omega arith))

pub returns-then-not-is_digit : goal.returns-then-not-is_digit
returns-then-not-is_digit c =
    sym (cond-false _ _ _
    (each_stops is_digit all_ascii_digits refl (λ _ _. refl) c.args.field.now c.loop-b.b-index 0 c.loop-b-test.true c.loop-b.invariant.1 (sym c.if-not-is_digit.ensures)))

-- the digit that was added
digit-small : (c : goal.After-from) → c.from.result ≤ 9
digit-small c = let d = get_or c.args.field.now c.loop-b.b-index 0 in omega (arith, c.from.ensures, leb-true d 57 (and_parts (leb 48 d) (leb d 57) (sym c.if-not-is_digit.ensures)).1)

pub loop-b-preserved : goal.loop-b-preserved
loop-b-preserved c = (
  ap (λ (d : ℕ). value_after (c.loop-b.value * 10 + d) (drop (c.loop-b.b-index + 1) c.args.field.now)) c.from.ensures
      ∙ sym (at_drop_more (value_after c.loop-b.value) c.args.field.now c.loop-b.b-index 0 c.loop-b-test.true)
      ∙ c.loop-b.invariant.0,
  each_goes is_digit all_ascii_digits refl (λ _ _. refl) c.args.field.now c.loop-b.b-index 0 c.loop-b-test.true c.loop-b.invariant.1 (sym c.if-not-is_digit.ensures),
  power_more c.loop-b.value c.from.result c.loop-b.b-index c.loop-b.invariant.2 (digit-small c),
)

pub returns : goal.returns
returns c =
    ap Some (sym (at_drop_all (value_after c.loop-b.value) c.args.field.now c.loop-b.b-index c.loop-b-test.false) ∙ c.loop-b.invariant.0)
    ∙ sym (cond-true _ _ _ (each_ends is_digit all_ascii_digits refl (λ _ _. refl) c.args.field.now c.loop-b.b-index c.loop-b-test.false c.loop-b.invariant.1))
