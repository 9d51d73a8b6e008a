use Rattle.std.proofs.Common.{◌≡◌, ℕ, ◌+◌, ◌<◌, ◌≤◌, Bool, true, eqb, leb, nat_abs, [], ◌∷◌, length, get_or, set, replicate, ℤ, pos, ◌+ℤ◌, Err, sym, ap, ◌∙◌, subst, arith}
use mir.Val.{bool_byte}
use Rattle.std.proofs.lemmas.Result.{err_from_is_err_and}
use Rattle.std.proofs.lemmas.List.{length-replicate}
use Rattle.model.specs.declared.refusal.Refusal.TheVariants.{Sum}
use Rattle.formats.specs.Sums.{terms, sum_of, with_sign}
use Rattle.formats.specs.Texts.{check}
use Rattle.texts.specs.Spans.{checked}
use Rattle.formats.specs.NetText.{place_names}
use Rattle.rules_text.specs.declared.part.Next.TheVariants.{Plus, Minus, End}
use Rattle.rules_text.specs.Sums.{Weighs}
use Rattle.rules_text.proofs.Parts.{passed, next_means}
use Rattle.rules_text.proofs.Going.{Going, starts_minus, starts_plain, term_refused, weight_refused, left_refused, finished, turns, further, blank, kept, plus_kept, test_kept}
use Rattle.rules_text.proofs.part.SumReader.read_sum.Goals as goal
use Rattle.rules_text.proofs.part.SumReader.read_sum.Goals.{After-is_weight, In_ok-check, in-Minus, in_default, in-Plus, in-Minus-next_at}

pub parts-init : goal.parts-init
parts-init c =
    let ns = place_names c.args.self.now.net.now in
    elim c.match-matches.branch [
      | in-Minus w ↦
          let i : c.from-start.result ≡ 1 = c.from-start.ensures ∙ ap bool_byte w.matches-is in
          subst (λ (m : Bool). Going ns c.args.self.now.byte c.args.self.now.sum.now c.from-start.result m (replicate 32 (pos 0))) (sym w.matches-is)
          (starts_minus ns c.args.self.now.byte c.args.self.now.sum.now (replicate 32 (pos 0)) blank (length-replicate 32 (pos 0)) w.in-Minus.ensures c.from-start.result i)
      | in_default w ↦
          let i : c.from-start.result ≡ 0 = c.from-start.ensures ∙ ap bool_byte w.matches-is in
          subst (λ (m : Bool). Going ns c.args.self.now.byte c.args.self.now.sum.now c.from-start.result m (replicate 32 (pos 0))) (sym w.matches-is)
          (starts_plain ns c.args.self.now.byte c.args.self.now.sum.now (replicate 32 (pos 0)) blank (length-replicate 32 (pos 0)) c.next_at.result c.next_at.ensures w.in_default.not-Minus c.from-start.result i)
    ]

-- the weight with the part that was read, and that it is one that a sum may give
weight_is : (c : After-is_weight) → c.added-weight.result ≡ get_or c.parts.weights c.in_ok-term.term.place (pos 0) +ℤ with_sign c.parts.minus c.in_ok-term.term.number
weight_is c = plus_kept (get_or c.parts.weights c.in_ok-term.term.place (pos 0)) _ c.added-weight.result (c.parts.invariant.small c.in_ok-term.term.place) c.added-weight.ensures.value

weight_fits : (c : In_ok-check) → leb (nat_abs c.added-weight.result) 99 ≡ true
weight_fits c = sym (test_kept c.added-weight.result c.is_weight.result c.added-weight.ensures.within c.is_weight.ensures) ∙ passed _ _ _ _ _ _ c.in_ok-check.ensures

pub returns-in_err-term : goal.returns-in_err-term
returns-in_err-term c =
    let p = err_from_is_err_and c.from_residual.result c.from_residual.ensures.1 in
    rw (p.1, p.2) (term_refused (place_names c.args.self.now.net.now) c.args.self.now.byte c.args.self.now.sum.now c.parts.start c.args.self.now.at.line c.parts.minus c.parts.weights c.parts.invariant _ c.in_err-term.ensures.value)

pub returns-in_err-check : goal.returns-in_err-check
returns-in_err-check c =
    let p = err_from_is_err_and c.from_residual-in_err-check.result c.from_residual-in_err-check.ensures.1 in
    let x = c.added-weight.result in
    let is = weight_is (goal.at.returns-in_err-check c).After-is_weight in
    let test = test_kept x c.is_weight.result c.added-weight.ensures.within c.is_weight.ensures in
    rw (p.1, p.2)
    (weight_refused (place_names c.args.self.now.net.now) c.args.self.now.byte c.args.self.now.sum.now c.parts.start c.args.self.now.at.line c.parts.minus c.parts.weights c.parts.invariant
    c.in_ok-term.term x c.in_ok-term.ensures.value c.in_ok-term.ensures.rest is _
    (c.in_err-check.ensures ∙ ap (λ (b : Bool). checked (check b Sum (c.args.self.now.byte + c.in_ok-term.term.name) ∷ []) c.args.self.now.at.line (tt {0})) test))

pub returns-in-Other : goal.returns-in-Other
returns-in-Other c =
    let x = c.added-weight.result in
    let is = weight_is (goal.at.returns-in-Other c).After-is_weight in
    let fits = weight_fits (goal.at.returns-in-Other c).In_ok-check in
    ap Err c.fault.ensures
    ∙ left_refused (place_names c.args.self.now.net.now) c.args.self.now.byte c.args.self.now.sum.now c.parts.start c.args.self.now.at.line c.parts.minus c.parts.weights c.parts.invariant
    c.in_ok-term.term x c.in_ok-term.ensures.value c.in_ok-term.ensures.rest is fits c.next_at-in-parts.result c.next_at-in-parts.ensures c.in-Other.is

pub returns-in-End : goal.returns-in-End
returns-in-End c =
    let x = c.added-weight.result in
    let is = weight_is (goal.at.returns-in-End c).After-is_weight in
    let fits = weight_fits (goal.at.returns-in-End c).In_ok-check in
    let done = finished (place_names c.args.self.now.net.now) c.args.self.now.byte c.args.self.now.sum.now c.parts.start c.args.self.now.at.line c.parts.minus c.parts.weights c.parts.invariant
    c.in_ok-term.term x c.in_ok-term.ensures.value c.in_ok-term.ensures.rest is fits End c.in-End.ensures (λ e. cc) (λ e. cc) (omega (arith, c.in_ok-term.ensures.within.1)) c.in-End.ensures in
    (done.0, subst (λ (v : ℤ). Weighs (set c.parts.weights c.in_ok-term.term.place v) (sum_of (place_names c.args.self.now.net.now) (terms c.args.self.now.sum.now))) (sym (kept x c.added-weight.ensures.within)) done.1)

pub parts-smaller : goal.parts-smaller
parts-smaller c =
    let le : c.parts.start ≤ c.in_ok-term.term.end = further (place_names c.args.self.now.net.now) c.args.self.now.byte c.args.self.now.sum.now c.parts.start c.args.self.now.at.line c.parts.minus c.parts.weights c.parts.invariant c.in_ok-term.term c.in_ok-term.ensures.value in
    let lt : c.in_ok-term.term.end < length c.args.self.now.sum.now = elim c.match-next_at.branch [
      | in-Plus w ↦ (next_means c.args.self.now.sum.now c.in_ok-term.term.end Plus w.in-Plus.ensures).0
      | in-Minus-next_at w ↦ (next_means c.args.self.now.sum.now c.in_ok-term.term.end Minus w.in-Minus-next_at.ensures).0
    ] in
    omega arith

pub parts-preserved : goal.parts-preserved
parts-preserved c =
    let ns = place_names c.args.self.now.net.now in
    let x = c.added-weight.result in
    let is = weight_is (goal.at.parts-preserved c).After-is_weight in
    let fits = weight_fits (goal.at.parts-preserved c).In_ok-check in
    subst (λ (v : ℤ). Going ns c.args.self.now.byte c.args.self.now.sum.now (c.in_ok-term.term.end + 1) c.match-next_at.minus (set c.parts.weights c.in_ok-term.term.place v)) (sym (kept x c.added-weight.ensures.within))
    (elim c.match-next_at.branch [
      | in-Plus w ↦
          let n = next_means c.args.self.now.sum.now c.in_ok-term.term.end Plus w.in-Plus.ensures in
          turns ns c.args.self.now.byte c.args.self.now.sum.now c.parts.start c.args.self.now.at.line c.parts.minus c.parts.weights c.parts.invariant
          c.in_ok-term.term x c.in_ok-term.ensures.value c.in_ok-term.ensures.rest is fits Plus w.in-Plus.ensures (λ e. cc) (λ e. cc) (omega (arith, c.in_ok-term.ensures.within.1)) n.0 c.match-next_at.minus
          (ap (λ (b : ℕ). eqb b 45) n.1 ∙ sym w.minus-is)
      | in-Minus-next_at w ↦
          let n = next_means c.args.self.now.sum.now c.in_ok-term.term.end Minus w.in-Minus-next_at.ensures in
          turns ns c.args.self.now.byte c.args.self.now.sum.now c.parts.start c.args.self.now.at.line c.parts.minus c.parts.weights c.parts.invariant
          c.in_ok-term.term x c.in_ok-term.ensures.value c.in_ok-term.ensures.rest is fits Minus w.in-Minus-next_at.ensures (λ e. cc) (λ e. cc) (omega (arith, c.in_ok-term.ensures.within.1)) n.0 c.match-next_at.minus
          (ap (λ (b : ℕ). eqb b 45) n.1 ∙ sym w.minus-is)
    ])
