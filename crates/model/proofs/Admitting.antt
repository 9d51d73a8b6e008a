-- Exactly when an admission is accepted, by the book.
use Rattle.std.proofs.Common.{◌≡◌, ℕ, ◌<◌, true, not, eqb, ltb, List, ℤ, pos, ◌*ℤ◌, ◌≤ℤ◌, Ok, Err, Result, sym, refl, ap, ◌∙◌, subst, arith, ltb-true, lt-ltb, eq-eqb, eqb-true}
use Rattle.std.proofs.lemmas.Bool.{false_from_ne_true}
use lib.Signed.{le_z}
use borrow.Author.Differences.{ints}
use Rattle.model.specs.declared.refusal.Refusal.TheVariants.{GrantsOpen, NoRow, Shut, RowInUse, Broken}
use Rattle.model.specs.declared.fault.Fault.{Fault}
use Rattle.model.specs.Plant.{setting_fault, refuse_unless, ◌else_by◌}
use Rattle.model.specs.Rule.{Rule, Worked, weighted, weighted_free}
use Rattle.model.specs.Working.{work}
use Rattle.model.specs.Layer.{holds_now, row_count, open_rows, Pile, pile_net, pile_free, top_answer, board_answer, InForce}
use Rattle.model.specs.Ledger.{Ledger, admit, new_ledger, net_under, free_under, open_count, answer, run, answers}
use Rattle.model.specs.Book.{Book, book_of, acceptances}
use Rattle.model.specs.Laws.{RowsStand, Admission, AdmitAccepted, AdmitsExact}
use Rattle.model.proofs.Sums.{signed_sum_ext, sum_none, le_sum}
use Rattle.model.proofs.Checks.{err_not_ok, else_ok, ok_else, passes_if, refuse_unless_ok}
use Rattle.model.proofs.Working.{work_on_ground}
use Rattle.model.proofs.Layering.{layer_same, layer_weighted}
use Rattle.model.proofs.Steady.{Steady, Shape}
use Rattle.model.proofs.TopRow.{Setting, open_row, top_says, now_says, fresh_place}
use Rattle.model.proofs.Running.{Ready, ready, by_book}
use Rattle.model.proofs.RowsStand.{rows_stand}

le_if : (x b : ℤ) → x ≤ℤ b → le_z x b ≡ true
le_if x b h = grind (arith, ints)

module _ (l : Ledger) (q : ℕ → ℤ) (rs : List InForce) (s : Steady (net_under l) (free_under l) l.opened q rs) (h : Shape l.pile rs) (rows : RowsStand l (record { q = q; v = l.opened; rules = rs })) (r : ℕ) (typed : Rule) where
  abbrev p : Pile
  p = l.pile

  abbrev g : ℕ → ℕ
  g = l.opened

  abbrev b : Book
  b = record { q = q; v = g; rules = rs }

  -- with no open grants the book's marking is the tokens
  all_none : open_count (pile_net p) g ≡ 0 → (t : ℕ) → t < (pile_net p).moves → g t ≡ 0
  all_none e t k = omega (arith, le_sum (pile_net p).moves g t k)

  same_weight : (w : Worked) → open_count (pile_net p) g ≡ 0 → weighted (pile_net p) w.weight q ≡ weighted_free p.below w.weight p.below_free
  same_weight w e = signed_sum_ext (pile_net p).ground_places (λ i. w.weight i *ℤ q i) (λ i. w.weight i *ℤ pos (pile_free p i)) (λ i k. ap (λ x. w.weight i *ℤ x) (s.marked i k ∙ ap pos (omega (arith, sum_none (pile_net p).moves g (λ u. (pile_net p).take i u) (all_none e)))))
      ∙ layer_weighted (row_count p.top) p.below p.rows p.below_free w.weight h.based.places_all

  same_work : work (pile_net p) typed ≡ work p.below typed
  same_work = work_on_ground p.below (pile_net p) (layer_same (row_count p.top) p.below p.rows h.based.places_all) typed

  admit_when : r < row_count p.top → (w : Worked) → Admission l b r typed w → answer l (admit r typed) ≡ Ok tt
  admit_when k w a =
      ok_else (refuse_unless (eqb (open_count (pile_net p) g) 0) (setting_fault GrantsOpen)) (board_answer p r typed) (passes_if (eqb (open_count (pile_net p) g) 0) (setting_fault GrantsOpen) (eq-eqb (open_count (pile_net p) g) 0 a.none_open))
      ∙ ok_else (refuse_unless (ltb r (open_rows p.top)) (setting_fault NoRow)) (top_answer p r typed) (passes_if (ltb r (open_rows p.top)) (setting_fault NoRow) (lt-ltb r (open_rows p.top) a.row_there))
      ∙ ap (λ z. refuse_unless (not z) (setting_fault Shut) else_by refuse_unless (not (p.rows r).in_use) (setting_fault RowInUse) else_by holds_now p.below p.below_free (work p.below typed)) a.not_shut
      ∙ ap (λ z. refuse_unless (not z) (setting_fault RowInUse) else_by holds_now p.below p.below_free (work p.below typed)) (false_from_ne_true (p.rows r).in_use (λ u. a.no_rule (rows.used_ruled r k u)))
      ∙ ap (holds_now p.below p.below_free) (sym same_work ∙ a.worked)
      ∙ passes_if (le_z (weighted_free p.below w.weight p.below_free) w.bound) (setting_fault Broken) (le_if (weighted_free p.below w.weight p.below_free) w.bound (omega (arith, ints, same_weight w a.none_open, a.keeps)))

  admit_only : answer l (admit r typed) ≡ Ok tt → (w : Worked) × Admission l b r typed w
  admit_only e =
      let e₁ = else_ok (refuse_unless (eqb (open_count (pile_net p) g) 0) (setting_fault GrantsOpen)) (board_answer p r typed) e in
      let e₂ = else_ok (refuse_unless (ltb r (open_rows p.top)) (setting_fault NoRow)) (top_answer p r typed) e₁.1 in
      let says = top_says p r typed e₂.1 in
      go (eqb-true (open_count (pile_net p) g) 0 (refuse_unless_ok (eqb (open_count (pile_net p) g) 0) (setting_fault GrantsOpen) e₁.0)) (ltb-true r (open_rows p.top) (refuse_unless_ok (ltb r (open_rows p.top)) (setting_fault NoRow) e₂.0)) says (work p.below typed) refl says.held_now
    where
      go : open_count (pile_net p) g ≡ 0 → r < open_rows p.top → Setting p r typed → (x : Result Worked Fault) → work p.below typed ≡ x → holds_now p.below p.below_free x ≡ Ok tt → (w : Worked) × Admission l b r typed w
      go none k says (Err f) is e = absurd (err_not_ok f e)
      go none k says (Ok w) is e = (
        w,
        record {
          none_open = none;
          row_there = k;
          not_shut = says.open_layer;
          no_rule = λ d. fresh_place p r d.rule says.unused (h.settled d.rule d.stands) d.there;
          worked = same_work ∙ is;
          keeps = subst (λ (x : ℤ). x ≤ℤ w.bound) (sym (same_weight w none)) (now_says p.below p.below_free w e);
        },
      )

pub admits_exact : AdmitsExact
admits_exact p rs built cs =
    let d = ready p rs built cs in
    let l = run (new_ledger p) cs in
    let b = book_of p rs cs (acceptances (answers (new_ledger p) cs)) in
    go l b d (rows_stand p rs built cs)
  where
    go : (l : Ledger) (b : Book) → Ready (pile_net p) p.below.places l b → RowsStand l b → AdmitAccepted l b
    go l b d h = by_book AdmitAccepted (pile_net p) p.below.places l b d (record {
      when = λ r typed w a. admit_when l b.q b.rules d.steady d.shape (record { apart = h.apart; used_ruled = h.used_ruled; ruled_used = h.ruled_used }) r typed (open_row l.pile.top r a.row_there) w a;
      only = λ r typed. admit_only l b.q b.rules d.steady d.shape (record { apart = h.apart; used_ruled = h.used_ruled; ruled_used = h.ruled_used }) r typed;
    })
