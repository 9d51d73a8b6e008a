-- A ledger after its board was asked to set a row, while no grant is open.
use Rattle.std.proofs.Common.{◌≡◌, ℕ, true, false, cond, ◌==◌, Ok, Err, sym, ap, ◌∙◌, refl, subst, eqb-true}
use Rattle.model.specs.declared.refusal.Refusal.TheVariants.{GrantsOpen}
use Rattle.model.specs.declared.fault.Fault.{Fault}
use Rattle.model.specs.Net.{Net}
use Rattle.model.specs.Plant.{Answer, ◌else_by◌, setting_fault, refuse_unless}
use Rattle.model.specs.Rule.{Rule}
use Rattle.model.specs.Layer.{Row, Pile, pile_net, is_shut, layer_net, row_count, with_rule, board_answer}
use Rattle.model.specs.Ledger.{admit, open_count, set_by, answer, next}
use Rattle.model.proofs.Layering.{open_net}
use Rattle.model.proofs.Standing.{refused_still}
use Rattle.model.proofs.Checks.{refuse_unless_ok}
use Rattle.layers.specs.Setting.{SetTo}
use Rattle.ledger.specs.declared.grants.Grants.{Grants}
use Rattle.ledger.specs.Grants.{opened, Tallied}
use Rattle.ledger.specs.Ledgers.{ledger_of}
use Rattle.ledger.proofs.Asked.{next_answers, next_done}
use Rattle.ledger.proofs.Counting.{tally_idle}

-- what rows hold says nothing of the places of their layer
same_places : (size : ℕ) (n : Net) (rows rows' : ℕ → Row) → (layer_net size n rows').places ≡ (layer_net size n rows).places
same_places size n rows rows' = elim (is_shut size n) as (λ b. (cond b n (open_net size n rows')).places ≡ (cond b n (open_net size n rows)).places) [ true ↦ refl | false ↦ refl ]

module _ (p : Pile) (g : Grants) (tallied : Tallied (pile_net p) g) (r : ℕ) (typed : Rule) where
  -- refused while a grant is open: nothing is changed
  pub admit_refused : (f : Fault) → Err f ≡ refuse_unless (g.total == 0) (setting_fault GrantsOpen) → ledger_of p g ≡ next (ledger_of p g) (admit r typed)
  admit_refused f e = sym (refused_still (ledger_of p g) (admit r typed) f (sym (ap (λ (a : Answer). a else_by board_answer p r typed) (e ∙ ap (λ k. refuse_unless (k == 0) (setting_fault GrantsOpen)) tallied.total_is))))

  -- else the board answers, and its row is set or nothing is changed
  module _ (q : Pile) (a : Answer) (idle : Ok tt ≡ refuse_unless (g.total == 0) (setting_fault GrantsOpen)) (asked : a ≡ board_answer p r typed)
      (refused : (f : Fault) → a ≡ Err f → q ≡ p) (set : a ≡ Ok tt → SetTo p q r typed) where
    answered : a ≡ answer (ledger_of p g) (admit r typed)
    answered = next_answers (refuse_unless (open_count (pile_net p) (opened g.counts) == 0) (setting_fault GrantsOpen)) (board_answer p r typed) a
        (idle ∙ ap (λ k. refuse_unless (k == 0) (setting_fault GrantsOpen)) tallied.total_is) asked

    pub admit_after : ledger_of q g ≡ next (ledger_of p g) (admit r typed)
    admit_after = go a refl
      where
        go : (b : Answer) → a ≡ b → ledger_of q g ≡ next (ledger_of p g) (admit r typed)
        go (Ok u) e =
            let s : SetTo p q r typed = set e in
            ap (λ x. ledger_of x g) (s.pile ∙ sym (ap (set_by p r) s.works)) ∙ next_done (ledger_of p g) (admit r typed) (sym e ∙ answered)
        go (Err f) e = ap (λ x. ledger_of x g) (refused f e) ∙ sym (refused_still (ledger_of p g) (admit r typed) f (sym answered ∙ e))

    pub admit_tallied : Tallied (pile_net q) g
    admit_tallied = go a refl
      where
        none : g.total ≡ 0
        none = eqb-true g.total 0 (refuse_unless_ok (g.total == 0) (setting_fault GrantsOpen) (sym idle))

        kept : (x : Pile) → q ≡ x → (pile_net x).places ≡ (pile_net p).places → Tallied (pile_net q) g
        kept x e places = subst (λ (y : Pile). Tallied (pile_net y) g) (sym e) (tally_idle (pile_net p) (pile_net x) g places none tallied)

        go : (b : Answer) → a ≡ b → Tallied (pile_net q) g
        go (Ok u) e =
            let s : SetTo p q r typed = set e in
            kept (with_rule p r s.worked) s.pile (same_places (row_count p.top) p.below p.rows (with_rule p r s.worked).rows)
        go (Err f) e = kept p (refused f e) refl
