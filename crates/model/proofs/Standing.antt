-- What stays true after every list, and laws of single calls: a refused call, a report.
use Rattle.std.proofs.Common.{◌≡◌, suc, cond, not, [], ◌∷◌, pos, Ok, Err, sym, refl, ap, arith}
use borrow.Author.Differences.{ints}
use Rattle.model.specs.declared.refusal.Refusal.TheVariants.{Controllable}
use Rattle.model.specs.Plant.{Answer, accepted, fault_of, refuse_unless, ◌else_by◌, known, begin_answer, begun, finish_answer}
use Rattle.model.specs.Rule.{raise, weighted_free}
use Rattle.model.specs.Ledger.{answer, new_ledger, net_under, free_under, room_answer, done, run}
use Rattle.model.specs.Laws.{AllStanding, RefusedStill, AnswersAll, ReportIs, WorkedImplies, Derived}
use Rattle.model.proofs.Sums.{scaled, unscale}
use Rattle.model.proofs.Checks.{known_says}
pub use Rattle.model.proofs.Working.{work_derives, work_quiets, work_on_ground}
use Rattle.model.proofs.JustSet.{flip}
use Rattle.model.proofs.Running.{ready, finish_after}

pub standing : AllStanding
standing p rs built cs =
    let d = ready p rs built cs in
    let l = run (new_ledger p) cs in
    record {
      ranges = d.steady.ranges;
      within = d.steady.roomy;
      few = d.steady.few;
      is_control = λ r m. ((d.steady.rules r m).low, (d.steady.rules r m).high);
      arcs = λ r m t. flip (raise (net_under l) r.worked.weight t) ((net_under l).take r.place t) ((net_under l).give r.place t) ((d.steady.rules r m).takes t) ((d.steady.rules r m).gives t);
      derived = λ r m. work_derives (net_under l) r.typed r.worked (d.steady.rules r m).working;
      worked = λ r m. (d.steady.rules r m).working;
      blank_or_ruled = d.steady.control;
    }

pub refused_still : RefusedStill
refused_still l c f e = ap (λ a. cond (accepted a) (done l c) l) e

pub answers_all : AnswersAll
answers_all l [] = refl
answers_all l (c ∷ cs) = ap suc (answers_all (cond (accepted (answer l c)) (done l c) l) cs)

pub report_is : ReportIs
report_is l t = go (known (net_under l) t) refl (refuse_unless (not ((net_under l).controllable t)) (fault_of Controllable t)) (begin_answer (net_under l) (free_under l) t) refl (room_answer (net_under l) (free_under l) l.opened t) refl
  where
    go : (k : Answer) → known (net_under l) t ≡ k → (c b : Answer) → begin_answer (net_under l) (free_under l) t ≡ b → (r : Answer) → room_answer (net_under l) (free_under l) l.opened t ≡ r →
        (k else_by c else_by b else_by r) ≡ (k else_by c else_by b else_by r else_by finish_answer (net_under l) (begun (net_under l) (free_under l) t) t)
    go (Err f) e c b d r h = refl
    go (Ok u) e (Err f) b d r h = refl
    go (Ok u) e (Ok w) (Err f) d r h = refl
    go (Ok u) e (Ok w) (Ok v) d (Err f) h = refl
    go (Ok u) e (Ok w) (Ok v) d (Ok x) h = sym (finish_after (net_under l) (free_under l) l.opened t (known_says (net_under l) t e) d h)

-- ---- working
pub worked_implies : WorkedImplies
worked_implies n typed w e m h =
    let d : Derived n.ground_places typed w = work_derives n typed w e in
    unscale d.factor (weighted_free n typed.weight m) typed.bound d.factor_some
    (omega (arith, ints, d.blend_bound, scaled n.ground_places d.factor w.weight d.rest typed.weight (λ i. pos (m i)) m d.rest_low d.blend (λ p l. refl), h))
