-- What stands after an accepted call that moves tokens.
use Rattle.std.proofs.Common.{◌≡◌, ℕ, cond, not, Ok, sym, refl, ap, ◌∙◌, subst}
use Rattle.model.specs.declared.refusal.Refusal.TheVariants.{Controllable}
use Rattle.model.specs.Net.{Net}
use Rattle.model.specs.Plant.{accepted, fault_of, refuse_unless, ◌else_by◌, known, begin_answer, begun, finish_answer, finished, back_answer, gone_back}
use Rattle.model.specs.Layer.{row_count, pile_free, rows_begun, pile_begun}
use Rattle.model.specs.Ledger.{Ledger, Call, grant, commit, cancel, report, net_under, free_under, room_answer, grant_checks, is_open, plus_one, minus_one, answer, next, done}
use Rattle.model.specs.Laws.{Moved, CallsFire}
use Rattle.model.proofs.Checks.{else_ok, known_says}
use Rattle.model.proofs.LayerCalls.{layer_moves}
use Rattle.model.proofs.Running.{finish_after}

module _ (l : Ledger) (t : ℕ) where
  abbrev n : Net
  n = net_under l

  abbrev free : ℕ → ℕ
  free = free_under l

  abbrev size : ℕ
  size = row_count l.pile.top

  -- the ledger after an accepted call is the one that the call makes
  by_next : (c : Call) (f g : ℕ → ℕ) → answer l c ≡ Ok tt → Moved l (done l c) f g → Moved l (next l c) f g
  by_next c f g e h = subst (λ (m : Ledger). Moved l m f g) (sym (ap (λ a. cond (accepted a) (done l c) l) e)) h

  begins : begin_answer n free t ≡ Ok tt → pile_free (pile_begun l.pile t) ≡ begun n free t
  begins e = sym ((layer_moves size l.pile.below l.pile.below_free l.pile.rows t).0 e)

  granted : answer l (grant t) ≡ Ok tt → Moved l (next l (grant t)) (begun n free t) (plus_one l.opened t)
  granted e = by_next (grant t) (begun n free t) (plus_one l.opened t) e
      (record { same_net = refl; tokens = begins (else_ok (begin_answer n free t) (room_answer n free l.opened t) (else_ok (grant_checks n l.opened t) (begin_answer n free t else_by room_answer n free l.opened t) e).1).0; counts = refl })

  committed : answer l (commit t) ≡ Ok tt → Moved l (next l (commit t)) (finished n free t) (minus_one l.opened t)
  committed e = by_next (commit t) (finished n free t) (minus_one l.opened t) e
      (record {
        same_net = refl;
        tokens = sym ((layer_moves size l.pile.below l.pile.below_free l.pile.rows t).1 (else_ok (is_open l.opened t) (finish_answer n free t) (else_ok (known n t) (is_open l.opened t else_by finish_answer n free t) e).1).1);
        counts = refl;
      })

  cancelled : answer l (cancel t) ≡ Ok tt → Moved l (next l (cancel t)) (gone_back n free t) (minus_one l.opened t)
  cancelled e = by_next (cancel t) (gone_back n free t) (minus_one l.opened t) e
      (record {
        same_net = refl;
        tokens = sym ((layer_moves size l.pile.below l.pile.below_free l.pile.rows t).2 (else_ok (is_open l.opened t) (back_answer n free t) (else_ok (known n t) (is_open l.opened t else_by back_answer n free t) e).1).1);
        counts = refl;
      })

  reported : answer l (report t) ≡ Ok tt → Moved l (next l (report t)) (finished n (begun n free t) t) l.opened
  reported e =
      let e₁ = else_ok (known n t) (refuse_unless (not (n.controllable t)) (fault_of Controllable t) else_by begin_answer n free t else_by room_answer n free l.opened t) e in
      let e₂ = else_ok (refuse_unless (not (n.controllable t)) (fault_of Controllable t)) (begin_answer n free t else_by room_answer n free l.opened t) e₁.1 in
      let e₃ = else_ok (begin_answer n free t) (room_answer n free l.opened t) e₂.1 in
      let ends : finish_answer n (pile_free (pile_begun l.pile t)) t ≡ Ok tt = ap (λ f. finish_answer n f t) (begins e₃.0) ∙ finish_after n free l.opened t (known_says n t e₁.0) e₃.0 e₃.1 in
      by_next (report t) (finished n (begun n free t) t) l.opened e
      (record {
        same_net = refl;
        tokens = sym ((layer_moves size l.pile.below (begun l.pile.below l.pile.below_free t) (rows_begun l.pile.below l.pile.rows t) t).1 ends) ∙ ap (λ f. finished n f t) (begins e₃.0);
        counts = refl;
      })

pub calls_fire : CallsFire
calls_fire l t = (granted l t, committed l t, cancelled l t, reported l t)
