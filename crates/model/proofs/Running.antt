-- Every list of calls keeps the invariant: the promise.
use Rattle.std.proofs.Common.{inl, inr, ◌≡◌, ℕ, ◌+◌, ◌-◌, ◌<◌, ◌≤◌, max, cond, not, eqb, ltb, List, [], ◌∷◌, pos, ◌+ℤ◌, ◌-ℤ◌, Ok, Err, Result, sym, refl, ap, ◌∙◌, subst, arith, ltb-false, ltb-true, eqb-true}
use Rattle.std.proofs.lemmas.Bool.{cases_lt}
use Rattle.model.specs.declared.refusal.Refusal.TheVariants.{Controllable, NoRoom, NotOpen, GrantsOpen}
use Rattle.model.specs.declared.fault.Fault.{Fault}
use Rattle.model.specs.Net.{Net, incidence}
use Rattle.model.specs.Plant.{Answer, accepted, fault_of, fault_at, setting_fault, refuse_unless, ◌else_by◌, known, begin_answer, begun, finish_answer, finished, back_answer, gone_back}
use Rattle.model.specs.Rule.{Rule, Worked}
use Rattle.model.specs.Working.{work}
use Rattle.model.specs.Layer.{Pile, pile_net, pile_free, rows_begun, pile_begun, pile_finished, pile_gone_back, row_count, row_place, board_answer, InForce, Built}
use Rattle.model.specs.Ledger.{Ledger, Call, grant, commit, cancel, report, admit, new_ledger, net_under, free_under, open_count, reserved, crowded, crowded_place, room_answer, grant_checks, is_open, plus_one, minus_one, set_by, answer, done, run, answers}
use Rattle.model.specs.Book.{Book, new_book, entered, noted, book_from, book_of, acceptances}
use Rattle.model.specs.Promise.{Upheld, Promise}
use Rattle.model.specs.Laws.{SameGround}
use Rattle.model.proofs.Sums.{le_sum}
use Rattle.model.proofs.Checks.{checks_say, else_ok, refuse_unless_ok, refuse_at_ok, lowest_none, known_says, begin_says, finish_ok, begun_is, finished_is, gone_back_is}
use Rattle.model.proofs.Working.{work_on_ground}
use Rattle.model.proofs.Moving as moving
use Rattle.model.proofs.Moving.{after}
use Rattle.model.proofs.Setting.{set_net, set_same}
use Rattle.model.proofs.Placing.{other_book}
use Rattle.model.proofs.Layering.{same_refl, layer_same}
use Rattle.model.proofs.LayerCalls.{layer_moves}
use Rattle.model.proofs.TopRow.{net_set, set_low, set_steady, set_shape}
use Rattle.model.proofs.Building.{Good, board_says, built_good}
use Rattle.model.proofs.Reading.{upheld}
use Rattle.model.proofs.Steady.{Steady, Shape}

same_trans : (n m k : Net) → SameGround n m → SameGround m k → SameGround n k
same_trans n m k a b = record {
  same_ground = b.same_ground ∙ a.same_ground;
  same_moves = b.same_moves ∙ a.same_moves;
  same_controllable = λ t. b.same_controllable t ∙ a.same_controllable t;
  same_take = λ p t l. b.same_take p t (subst (λ (x : ℕ). p < x) (sym a.same_ground) l) ∙ a.same_take p t l;
  same_give = λ p t l. b.same_give p t (subst (λ (x : ℕ). p < x) (sym a.same_ground) l) ∙ a.same_give p t l;
}

same_incidence : (n m : Net) → SameGround n m → (p t : ℕ) → p < m.ground_places → incidence n p t ≡ incidence m p t
same_incidence n m a p t l =
    let k : p < n.ground_places = subst (λ (x : ℕ). p < x) a.same_ground l in
    ap (λ x. pos x -ℤ pos (n.take p t)) (sym (a.same_give p t k)) ∙ ap (λ x. pos (m.give p t) -ℤ pos x) (sym (a.same_take p t k))

-- the ledger and the book of a list of calls, begun over the net n
pub record Ready (n : Net) (first : ℕ) (l : Ledger) (b : Book) : Type 0 where
  pub same : SameGround n (net_under l)
  pub firsts : l.pile.below.places ≡ first
  pub counted : b.v ≡ l.opened
  pub steady : Steady (net_under l) (free_under l) l.opened b.q b.rules
  pub shape : Shape l.pile b.rules

-- ---- what an accepted call's checks said
pub room_says : (n : Net) (free g : ℕ → ℕ) (t : ℕ) → room_answer n free g t ≡ Ok tt → (p : ℕ) → p < n.places → free p + max (n.take p t) (n.give p t) + reserved n g p ≤ n.limit p + n.take p t
room_says n free g t e p k = ltb-false (n.limit p + n.take p t) (free p + max (n.take p t) (n.give p t) + reserved n g p)
    (lowest_none (crowded n free g t) n.places (refuse_at_ok (fault_at n NoRoom t) (crowded_place n free g t) e) p k)

open_says : (g : ℕ → ℕ) (t : ℕ) → is_open g t ≡ Ok tt → 0 < g t
open_says g t e = ltb-true 0 (g t) (refuse_unless_ok (ltb 0 (g t)) (fault_of NotOpen t) e)

-- begin, and then room, leave finish nothing to refuse
pub finish_after : (n : Net) (free g : ℕ → ℕ) (t : ℕ) → t < n.moves → begin_answer n free t ≡ Ok tt → room_answer n free g t ≡ Ok tt → finish_answer n (begun n free t) t ≡ Ok tt
finish_after n free g t k b r = finish_ok n (begun n free t) t k (λ p a. omega (arith, begun_is n free t b p, begin_says n free t k b p a, room_says n free g t r p a))

module _ (n : Net) (first : ℕ) (l : Ledger) (b : Book) (r : Ready n first l b) where
  abbrev m : Net
  m = net_under l

  abbrev free : ℕ → ℕ
  free = free_under l

  abbrev g : ℕ → ℕ
  g = l.opened

  abbrev size : ℕ
  size = row_count l.pile.top

  -- ---- tokens moved
  -- the book's changes are those of the ledger's net
  book_after : (free' g' : ℕ → ℕ) (t : ℕ) → Steady m free' g' (after m b.q t) b.rules → Steady m free' g' (λ p. b.q p +ℤ incidence n p t) b.rules
  book_after free' g' t s = other_book m free' g' (after m b.q t) (λ p. b.q p +ℤ incidence n p t) b.rules (λ p k. ap (λ x. b.q p +ℤ x) (same_incidence n m r.same p t k)) s

  after_grant : (t : ℕ) → answer l (grant t) ≡ Ok tt → Ready n first (done l (grant t)) (noted n first b (grant t))
  after_grant t e =
      let e₁ = else_ok (grant_checks m g t) (begin_answer m free t else_by room_answer m free g t) e in
      let e₂ = else_ok (begin_answer m free t) (room_answer m free g t) e₁.1 in
      let c = checks_say m g t e₁.0 in
      let k : t < m.moves = c.0 in
      let tokens : pile_free (pile_begun l.pile t) ≡ begun m free t = sym ((layer_moves size l.pile.below l.pile.below_free l.pile.rows t).0 e₂.0) in
      record {
        same = r.same;
        firsts = r.firsts;
        counted = ap (λ f. plus_one f t) r.counted;
        steady = moving.granted m free g b.q b.rules r.steady t k (pile_free (pile_begun l.pile t)) (λ i. ap (λ f. f i) tokens ∙ begun_is m free t e₂.0 i) (begin_says m free t k e₂.0)
            c.2 (room_says m free g t e₂.1);
        shape = record { based = r.shape.based; there = r.shape.there; settled = r.shape.settled };
      }

  after_commit : (t : ℕ) → answer l (commit t) ≡ Ok tt → Ready n first (done l (commit t)) (noted n first b (commit t))
  after_commit t e =
      let e₁ = else_ok (known m t) (is_open g t else_by finish_answer m free t) e in
      let e₂ = else_ok (is_open g t) (finish_answer m free t) e₁.1 in
      let tokens : pile_free (pile_finished l.pile t) ≡ finished m free t = sym ((layer_moves size l.pile.below l.pile.below_free l.pile.rows t).1 e₂.1) in
      record {
        same = r.same;
        firsts = r.firsts;
        counted = ap (λ f. minus_one f t) r.counted;
        steady = book_after (pile_free (pile_finished l.pile t)) (minus_one g t) t
            (moving.committed m free g b.q b.rules r.steady t (known_says m t e₁.0) (pile_free (pile_finished l.pile t)) (λ i. ap (λ f. f i) tokens ∙ finished_is m free t e₂.1 i) (open_says g t e₂.0));
        shape = record { based = r.shape.based; there = r.shape.there; settled = r.shape.settled };
      }

  after_cancel : (t : ℕ) → answer l (cancel t) ≡ Ok tt → Ready n first (done l (cancel t)) (noted n first b (cancel t))
  after_cancel t e =
      let e₁ = else_ok (known m t) (is_open g t else_by back_answer m free t) e in
      let e₂ = else_ok (is_open g t) (back_answer m free t) e₁.1 in
      let tokens : pile_free (pile_gone_back l.pile t) ≡ gone_back m free t = sym ((layer_moves size l.pile.below l.pile.below_free l.pile.rows t).2 e₂.1) in
      record {
        same = r.same;
        firsts = r.firsts;
        counted = ap (λ f. minus_one f t) r.counted;
        steady = moving.cancelled m free g b.q b.rules r.steady t (known_says m t e₁.0) (pile_free (pile_gone_back l.pile t)) (λ i. ap (λ f. f i) tokens ∙ gone_back_is m free t e₂.1 i) (open_says g t e₂.0);
        shape = record { based = r.shape.based; there = r.shape.there; settled = r.shape.settled };
      }

  after_report : (t : ℕ) → answer l (report t) ≡ Ok tt → Ready n first (done l (report t)) (noted n first b (report t))
  after_report t e =
      let e₁ = else_ok (known m t) (refuse_unless (not (m.controllable t)) (fault_of Controllable t) else_by begin_answer m free t else_by room_answer m free g t) e in
      let e₂ = else_ok (refuse_unless (not (m.controllable t)) (fault_of Controllable t)) (begin_answer m free t else_by room_answer m free g t) e₁.1 in
      let e₃ = else_ok (begin_answer m free t) (room_answer m free g t) e₂.1 in
      let k : t < m.moves = known_says m t e₁.0 in
      let begins : pile_free (pile_begun l.pile t) ≡ begun m free t = sym ((layer_moves size l.pile.below l.pile.below_free l.pile.rows t).0 e₃.0) in
      let ends : finish_answer m (begun m free t) t ≡ Ok tt = finish_after m free g t k e₃.0 e₃.1 in
      let ends_here : finish_answer m (pile_free (pile_begun l.pile t)) t ≡ Ok tt = ap (λ f. finish_answer m f t) begins ∙ ends in
      let tokens : pile_free (pile_finished (pile_begun l.pile t) t) ≡ finished m (begun m free t) t
      = sym ((layer_moves size l.pile.below (begun l.pile.below l.pile.below_free t) (rows_begun l.pile.below l.pile.rows t) t).1 ends_here) ∙ ap (λ f. finished m f t) begins in
      let is : (i : ℕ) → finished m (begun m free t) t i ≡ free i - m.take i t + m.give i t = λ i. finished_is m (begun m free t) t ends i ∙ ap (λ x. x + m.give i t) (begun_is m free t e₃.0 i) in
      record {
        same = r.same;
        firsts = r.firsts;
        counted = r.counted;
        steady = book_after (pile_free (pile_finished (pile_begun l.pile t) t)) g t
            (moving.reported m free g b.q b.rules r.steady t k (pile_free (pile_finished (pile_begun l.pile t) t)) (λ i. ap (λ f. f i) tokens ∙ is i) (begin_says m free t k e₃.0) (room_says m free g t e₃.1));
        shape = record { based = r.shape.based; there = r.shape.there; settled = r.shape.settled };
      }

  -- ---- a row set
  none_open : open_count m g ≡ 0 → (t : ℕ) → g t ≡ 0
  none_open e t = elim (cases_lt t m.moves) [ inl k ↦ omega (arith, le_sum m.moves g t k) | inr k ↦ r.steady.beyond t k ]

  pub work_below : (typed : Rule) → work l.pile.below typed ≡ work n typed
  work_below typed = sym (work_on_ground l.pile.below m (layer_same (row_count l.pile.top) l.pile.below l.pile.rows r.shape.based.places_all) typed) ∙ work_on_ground n m r.same typed

  after_set : (i : ℕ) (typed : Rule) (x : Result Worked Fault) → work l.pile.below typed ≡ x → board_answer l.pile i typed ≡ Ok tt → ((t : ℕ) → g t ≡ 0) →
      Ready n first (record { pile = set_by l.pile i x; opened = l.opened }) (record { q = b.q; v = b.v; rules = entered (row_place l.pile i) typed x b.rules })
  after_set i typed (Ok w) is ok z = record {
    same = subst (λ (k : Net). SameGround n k) (sym (net_set l.pile r.shape.based i (board_says l.pile i typed ok).0 typed w (board_says l.pile i typed ok).1 is))
        (same_trans n m (set_net m (row_place l.pile i) w) r.same (set_same m (row_place l.pile i) w (set_low l.pile r.shape.based i (board_says l.pile i typed ok).0 typed w (board_says l.pile i typed ok).1 is g b.q b.rules r.steady r.shape)));
    firsts = r.firsts;
    counted = r.counted;
    steady = set_steady l.pile r.shape.based i (board_says l.pile i typed ok).0 typed w (board_says l.pile i typed ok).1 is g b.q b.rules r.steady r.shape z;
    shape = set_shape l.pile r.shape.based i (board_says l.pile i typed ok).0 typed w (board_says l.pile i typed ok).1 is g b.q b.rules r.steady r.shape;
  }
  after_set i typed (Err f) is ok z = record { same = r.same; firsts = r.firsts; counted = r.counted; steady = r.steady; shape = r.shape }

  after_admit : (i : ℕ) (typed : Rule) → answer l (admit i typed) ≡ Ok tt → Ready n first (done l (admit i typed)) (noted n first b (admit i typed))
  after_admit i typed e =
      let e₁ = else_ok (refuse_unless (eqb (open_count m g) 0) (setting_fault GrantsOpen)) (board_answer l.pile i typed) e in
      let z : (t : ℕ) → g t ≡ 0 = none_open (eqb-true (open_count m g) 0 (refuse_unless_ok (eqb (open_count m g) 0) (setting_fault GrantsOpen) e₁.0)) in
      let h = after_set i typed (work l.pile.below typed) refl e₁.1 z in
      let h₁ = subst (λ (x : Result Worked Fault). Ready n first (record { pile = set_by l.pile i (work l.pile.below typed); opened = l.opened }) (record { q = b.q; v = b.v; rules = entered (row_place l.pile i) typed x b.rules })) (work_below typed) h in
      subst (λ (f : ℕ). Ready n first (record { pile = set_by l.pile i (work l.pile.below typed); opened = l.opened }) (record { q = b.q; v = b.v; rules = entered (f + i) typed (work n typed) b.rules })) r.firsts h₁

  pub after_call : (c : Call) → answer l c ≡ Ok tt → Ready n first (done l c) (noted n first b c)
  after_call (grant t) e = after_grant t e
  after_call (commit t) e = after_commit t e
  after_call (cancel t) e = after_cancel t e
  after_call (report t) e = after_report t e
  after_call (admit i typed) e = after_admit i typed e

-- ---- every list
module _ (n : Net) (first : ℕ) where
  ready_step : (c : Call) (cs : List Call) (l : Ledger) (b : Book) → Ready n first l b →
      ((l : Ledger) (b : Book) → Ready n first l b → Ready n first (run l cs) (book_from n first b cs (acceptances (answers l cs)))) →
      (a : Answer) → answer l c ≡ a →
      Ready n first (run (cond (accepted a) (done l c) l) cs) (book_from n first (cond (accepted a) (noted n first b c) b) cs (acceptances (answers (cond (accepted a) (done l c) l) cs)))
  ready_step c cs l b r rec (Ok u) e = rec (done l c) (noted n first b c) (after_call n first l b r c e)
  ready_step c cs l b r rec (Err f) e = rec l b r

  pub ready_runs : (cs : List Call) (l : Ledger) (b : Book) → Ready n first l b → Ready n first (run l cs) (book_from n first b cs (acceptances (answers l cs)))
  ready_runs [] l b r = r
  ready_runs (c ∷ cs) l b r = ready_step c cs l b r (λ l b r. ready_runs cs l b r) (answer l c) refl

pub ready_new : (p : Pile) (rs : List InForce) → Built p rs → Ready (pile_net p) p.below.places (new_ledger p) (new_book p rs)
ready_new p rs built = let h : Good p rs = built_good built in record { same = same_refl (pile_net p); firsts = refl; counted = refl; steady = h.steady; shape = h.shape }

pub ready : (p : Pile) (rs : List InForce) → Built p rs → (cs : List Call) → Ready (pile_net p) p.below.places (run (new_ledger p) cs) (book_of p rs cs (acceptances (answers (new_ledger p) cs)))
ready p rs built cs = ready_runs (pile_net p) p.below.places cs (new_ledger p) (new_book p rs) (ready_new p rs built)

-- ---- what holds of a ledger and the book that counts its open grants holds of the ledger and its book
pub by_book : (P : Ledger → Book → Type 0) (n : Net) (first : ℕ) (l : Ledger) (b : Book) → Ready n first l b → P l (record { q = b.q; v = l.opened; rules = b.rules }) → P l b
by_book P n first l b r h = subst (λ (f : ℕ → ℕ). P l (record { q = b.q; v = f; rules = b.rules })) (sym r.counted) h

pub promise : Promise
promise p rs built cs =
    let r = ready p rs built cs in
    let l = run (new_ledger p) cs in
    let b = book_of p rs cs (acceptances (answers (new_ledger p) cs)) in
    by_book Upheld (pile_net p) p.below.places l b r (upheld l b.q b.rules r.steady)
