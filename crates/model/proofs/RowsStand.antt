-- Rows and rules: a row is in use exactly while its rule is in the book, and no two rules are at one place.
use Rattle.std.proofs.Common.{◌≡◌, ℕ, ◌+◌, ◌<◌, Bool, true, false, cond, T, eqb, ◌⊎◌, List, [], ◌∷◌, Ok, Err, Result, sym, refl, ap, subst, inl, inr, arith, eqb-true}
use mathlib.Core.List.Memᴰ
use Rattle.model.specs.declared.refusal.Refusal.TheVariants.{GrantsOpen}
use Rattle.model.specs.declared.fault.Fault.{Fault}
use Rattle.model.specs.Net.{Net}
use Rattle.model.specs.Plant.{Answer, accepted, setting_fault, refuse_unless}
use Rattle.model.specs.Rule.{Rule, Worked}
use Rattle.model.specs.Working.{work}
use Rattle.model.specs.Layer.{ruled_row, Top, monitor, board, Pile, pile_net, row_count, row_place, with_layer, with_rule, top_answer, board_answer, InForce, in_force, Built, bare, monitored, boarded, monitor_set, board_set}
use Rattle.model.specs.Ledger.{Ledger, Call, grant, commit, cancel, report, admit, new_ledger, net_under, open_count, set_by, answer, done, run, answers}
use Rattle.model.specs.Book.{Book, new_book, entered, noted, book_from, acceptances}
use Rattle.model.specs.Laws.{Ruled, Apart, RowsAreRules}
use Rattle.model.proofs.Checks.{else_ok}
use Rattle.model.proofs.Steady.{Shape}
use Rattle.model.proofs.TopRow.{top_says, fresh_place}
use Rattle.model.proofs.Building.{built_good, board_says}
use Rattle.model.proofs.Running.{Ready, ready, ready_new, after_call, work_below}

-- what is kept of the pile and its rules
record Rows (p : Pile) (rs : List InForce) : Type 0 where
  apart : Apart rs
  used_ruled : (k : ℕ) → k < row_count p.top → (p.rows k).in_use ≡ true → Ruled rs (row_place p k)

in_more : {rs : List InForce} {c : ℕ} (i : InForce) → Ruled rs c → Ruled (i ∷ rs) c
in_more i r = record { rule = r.rule; stands = Memᴰ.tail r.stands; there = r.there }

rows_set : (p : Pile) (rs : List InForce) (r : ℕ) (typed : Rule) (w : Worked) → Shape p rs → top_answer p r typed ≡ Ok tt → Rows p rs → Rows (with_rule p r w) (in_force p r typed w ∷ rs)
rows_set p rs r typed w h ok s = record {
  apart = (λ i m. fresh_place p r i (top_says p r typed ok).unused (h.settled i m), s.apart);
  used_ruled = λ k l. go k l (eqb k r) refl;
}
  where
    go : (k : ℕ) → k < row_count p.top → (b : Bool) → eqb k r ≡ b → (cond b (ruled_row p.below p.below_free w) (p.rows k)).in_use ≡ true → Ruled (in_force p r typed w ∷ rs) (row_place p k)
    go k l true e u = record { rule = in_force p r typed w; stands = Memᴰ.head refl; there = ap (λ x. row_place p x) (sym (eqb-true k r e)) }
    go k l false e u = in_more (in_force p r typed w) (s.used_ruled k l u)

rows_layer : (p : Pile) (rs : List InForce) (top : Top) → Rows p rs → Rows (with_layer top p) rs
rows_layer p rs top h = record { apart = h.apart; used_ruled = λ k l u. absurd (subst T (sym u) tt) }

abbrev nothing : Apart []
nothing = tt

built_rows : {p : Pile} {rs : List InForce} → Built p rs → Rows p rs
built_rows (bare n free R all fits) = record { apart = nothing; used_ruled = λ k l u. absurd (omega arith) }
built_rows (monitored {p = p} {rs = rs} b) = rows_layer p rs monitor (built_rows b)
built_rows (boarded {p = p} {rs = rs} b) = rows_layer p rs board (built_rows b)
built_rows (monitor_set {p = p} {rs = rs} typed w b on ok is) = rows_set p rs 0 typed w (built_good b).shape ok (built_rows b)
built_rows (board_set {p = p} {rs = rs} r typed w b ok is) = rows_set p rs r typed w (built_good b).shape (board_says p r typed ok).1 (built_rows b)

module _ (n : Net) (first : ℕ) where
  rows_entered : (l : Ledger) (b : Book) → Ready n first l b → (r : ℕ) (typed : Rule) → board_answer l.pile r typed ≡ Ok tt → Rows l.pile b.rules →
      (x : Result Worked Fault) → Rows (set_by l.pile r x) (entered (row_place l.pile r) typed x b.rules)
  rows_entered l b d r typed ok h (Ok w) = rows_set l.pile b.rules r typed w d.shape (board_says l.pile r typed ok).1 h
  rows_entered l b d r typed ok h (Err f) = h

  rows_call : (l : Ledger) (b : Book) → Ready n first l b → Rows l.pile b.rules → (c : Call) → answer l c ≡ Ok tt → Rows (done l c).pile (noted n first b c).rules
  rows_call l b d h (grant t) e = record { apart = h.apart; used_ruled = h.used_ruled }
  rows_call l b d h (commit t) e = record { apart = h.apart; used_ruled = h.used_ruled }
  rows_call l b d h (cancel t) e = record { apart = h.apart; used_ruled = h.used_ruled }
  rows_call l b d h (report t) e = record { apart = h.apart; used_ruled = h.used_ruled }
  rows_call l b d h (admit r typed) e =
      let ok = (else_ok (refuse_unless (eqb (open_count (net_under l) l.opened) 0) (setting_fault GrantsOpen)) (board_answer l.pile r typed) e).1 in
      let a = rows_entered l b d r typed ok h (work l.pile.below typed) in
      let c = subst (λ (x : Result Worked Fault). Rows (set_by l.pile r (work l.pile.below typed)) (entered (row_place l.pile r) typed x b.rules)) (work_below n first l b d typed) a in
      subst (λ (f : ℕ). Rows (set_by l.pile r (work l.pile.below typed)) (entered (f + r) typed (work n typed) b.rules)) d.firsts c

  rows_step : (c : Call) (cs : List Call) (l : Ledger) (b : Book) → Ready n first l b → Rows l.pile b.rules →
      ((l : Ledger) (b : Book) → Ready n first l b → Rows l.pile b.rules → Rows (run l cs).pile (book_from n first b cs (acceptances (answers l cs))).rules) →
      (a : Answer) → answer l c ≡ a →
      Rows (run (cond (accepted a) (done l c) l) cs).pile (book_from n first (cond (accepted a) (noted n first b c) b) cs (acceptances (answers (cond (accepted a) (done l c) l) cs))).rules
  rows_step c cs l b d h rec (Ok u) e = rec (done l c) (noted n first b c) (after_call n first l b d c e) (rows_call l b d h c e)
  rows_step c cs l b d h rec (Err f) e = rec l b d h

  rows_run : (cs : List Call) (l : Ledger) (b : Book) → Ready n first l b → Rows l.pile b.rules → Rows (run l cs).pile (book_from n first b cs (acceptances (answers l cs))).rules
  rows_run [] l b d h = h
  rows_run (c ∷ cs) l b d h = rows_step c cs l b d h (λ l b d h. rows_run cs l b d h) (answer l c) refl

-- a rule of the book at a row of the top layer shows that the row is in use
row_used : (p : Pile) (rs : List InForce) → Shape p rs → (k : ℕ) → Ruled rs (row_place p k) → (p.rows k).in_use ≡ true
row_used p rs h k d = go (h.settled d.rule d.stands)
  where
    go : (d.rule.place < p.below.places) ⊎ ((i : ℕ) × (d.rule.place ≡ row_place p i) × ((p.rows i).in_use ≡ true)) → (p.rows k).in_use ≡ true
    go (inl l) = absurd (omega (arith, d.there))
    go (inr x) = let q : x.0 ≡ k = omega (arith, d.there, x.1) in subst (λ (i : ℕ). (p.rows i).in_use ≡ true) q x.2

pub rows_stand : RowsAreRules
rows_stand p rs built cs =
    let h = rows_run (pile_net p) p.below.places cs (new_ledger p) (new_book p rs) (ready_new p rs built) (built_rows built) in
    record { apart = h.apart; used_ruled = h.used_ruled; ruled_used = row_used (run (new_ledger p) cs).pile (book_from (pile_net p) p.below.places (new_book p rs) cs (acceptances (answers (new_ledger p) cs))).rules (ready p rs built cs).shape }
