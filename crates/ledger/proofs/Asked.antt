-- What the calls of a ledger answer, from the answers of its checks.
use Rattle.std.proofs.Common.{◌≡◌, ℕ, cond, not, Ok, sym, ◌∙◌}
use Rattle.model.specs.declared.refusal.Refusal.TheVariants.{Controllable}
use Rattle.model.specs.Net.{Net}
use Rattle.model.specs.Plant.{Answer, accepted, fault_of, refuse_unless, known, ◌else_by◌, begin_answer, begun, finish_answer}
use Rattle.model.specs.Layer.{Pile, pile_net, pile_free}
use Rattle.model.specs.Ledger.{grant, report, grant_checks, grant_answer, room_answer, answer, next, done, Ledger, Call}
use Rattle.model.proofs.Checks.{else_ok}
use Rattle.model.proofs.Standing.{report_is}
use Rattle.ledger.specs.declared.grants.Grants.{Grants}
use Rattle.ledger.specs.Grants.{opened}
use Rattle.ledger.specs.Ledgers.{ledger_of}

-- the first check accepts: the next one answers
pub next_answers : (a b r : Answer) → Ok tt ≡ a → r ≡ b → r ≡ (a else_by b)
next_answers a b r e q = q ∙ (λ i. e i else_by b)

module _ (p : Pile) (n : Net) (free : ℕ → ℕ) (g : Grants) (t : ℕ) (net : pile_net p ≡ n) (tokens : pile_free p ≡ free) where
  pub grant_asked : (r : Answer) → Ok tt ≡ grant_checks n (opened g.counts) t → Ok tt ≡ begin_answer n free t → r ≡ room_answer n free (opened g.counts) t
      → r ≡ answer (ledger_of p g) (grant t)
  grant_asked r a b c =
      next_answers (grant_checks n (opened g.counts) t) (begin_answer n free t else_by room_answer n free (opened g.counts) t) r a
      (next_answers (begin_answer n free t) (room_answer n free (opened g.counts) t) r b c)
      ∙ (λ i. grant_answer (sym net i) (sym tokens i) (opened g.counts) t)

  -- an accepted report finishes
  pub report_finishes : (m : Net) (after : ℕ → ℕ) → m ≡ n → after ≡ begun n free t → Ok tt ≡ answer (ledger_of p g) (report t) → finish_answer m after t ≡ Ok tt
  report_finishes m after e f a =
      (λ i. finish_answer (e i) (f i) t)
      ∙ (λ i. finish_answer (sym net i) (begun (sym net i) (sym tokens i) t) t)
      ∙ last_accepts (known (pile_net p) t) (refuse_unless (not ((pile_net p).controllable t)) (fault_of Controllable t)) (begin_answer (pile_net p) (pile_free p) t)
      (room_answer (pile_net p) (pile_free p) (opened g.counts) t) (finish_answer (pile_net p) (begun (pile_net p) (pile_free p) t) t)
      (sym (report_is (ledger_of p g) t) ∙ sym a)
    where
      last_accepts : (a b c d e : Answer) → (a else_by b else_by c else_by d else_by e) ≡ Ok tt → e ≡ Ok tt
      last_accepts a b c d e h = (else_ok d e (else_ok c (d else_by e) (else_ok b (c else_by d else_by e) (else_ok a (b else_by c else_by d else_by e) h).1).1).1).1

-- what an accepted call leaves
pub next_done : (l : Ledger) (c : Call) → Ok tt ≡ answer l c → done l c ≡ next l c
next_done l c e = λ i. cond (accepted (e i)) (done l c) l
