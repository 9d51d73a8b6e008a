-- What a run prints, by its answers on the way, and the pile on which its ledger is opened.
use Rattle.std.proofs.Common.{◌≡◌, ℕ, List, [], ◌∷◌, Ok, Err, Result, codes, sym, refl, ap, ◌∙◌, subst}
use Rattle.std.specs.Prelude.{OnOk}
use Rattle.model.specs.declared.fault.Fault.{Fault}
use Rattle.model.specs.Net.{Net}
use Rattle.model.specs.Plant.{Answer}
use Rattle.model.specs.Rule.{Rule, Worked}
use Rattle.model.specs.Working.{work}
use Rattle.model.specs.Layer.{Pile, monitor, board, plant_alone, with_layer, monitor_answer, in_force, Built}
use Rattle.model.specs.Ledger.{Ledger, new_ledger, set_by}
use Rattle.formats.specs.declared.kind.Kind.{Kind}
use Rattle.formats.specs.declared.kind.Kind.TheVariants.{Net as of_net, Bank, Line}
use Rattle.formats.specs.NetText.{NetText}
use Rattle.formats.specs.Texts.{fault}
use Rattle.formats.specs.Words.{lines}
use Rattle.ledger.proofs.Upheld.{promise_new}
use Rattle.layers.specs.Piles.{new_pile}
use Rattle.layers.specs.Stacking.{Stacked}
use Rattle.texts.specs.Lines.{text_check}
use Rattle.panel.proofs.Following.{follows}
use Rattle.panel.specs.Prints.{bad_line}
use Rattle.panel.specs.Cells.{Cell, net_by, plant_net}
use Rattle.panel.specs.Orders.{start_monitor, start_pile, BuiltCell, Started, Answered, answers, ran_with, ran_on, ran}

-- a plant of any kind has ground places alone
pub plant_bare : (x : NetText) → (plant_net x).places ≡ (plant_net x).ground_places
plant_bare x = go x.kind
  where
    go : (k : Kind) → (net_by k x).places ≡ (net_by k x).ground_places
    go of_net = refl
    go Bank = refl
    go Line = refl

-- the pile of a board over a monitor over a plant, built by the rule's working
abbrev Of : Net → (ℕ → ℕ) → Rule → Type 0
Of n free typed =
    (w : Worked) × (work n typed ≡ Ok w)
    × Built (with_layer board (set_by (with_layer monitor (plant_alone n free)) 0 (work n typed))) (in_force (with_layer monitor (plant_alone n free)) 0 typed w ∷ [])

module _ (c : Cell) (n : Net) (free : ℕ → ℕ) (typed : Rule) (net : n ≡ c.net) (tokens : free ≡ c.free) (rule : typed ≡ c.typed_fixed) where
  monitored : monitor_answer (new_pile monitor n free) typed ≡ monitor_answer (start_monitor c) c.typed_fixed
  monitored = λ i. monitor_answer (new_pile monitor (net i) (tokens i)) (rule i)

  stands : (p : Pile) → Stacked n free typed p → p ≡ with_layer board (set_by (with_layer monitor (plant_alone n free)) 0 (work n typed))
  stands p s = s.pile ∙ sym (ap (λ r. with_layer board (set_by (with_layer monitor (plant_alone n free)) 0 r)) s.works)

  pub started : (p : Pile) → Stacked n free typed p → p ≡ start_pile c
  started p s =
      stands p s
      ∙ (λ i. with_layer board (set_by (with_layer monitor (plant_alone (net i) (tokens i))) 0 (work (net i) (rule i))))

  pub refused_set : (f : Fault) → Err f ≡ monitor_answer (new_pile monitor n free) typed → Ok tt ≡ monitor_answer (start_monitor c) c.typed_fixed → ◌≡◌ {A = Answer} (Err f) (Ok tt)
  refused_set f e s = e ∙ monitored ∙ sym s

  -- the same pile, built
  pub built_cell : (p : Pile) → Stacked n free typed p → c.net.places ≡ c.net.ground_places → BuiltCell c
  built_cell p s bare =
      let here : Of n free typed = (s.worked, s.works, subst (λ (q : Pile). Built q (in_force (with_layer monitor (plant_alone n free)) 0 typed s.worked ∷ [])) (stands p s) (s.built (subst (λ (m : Net). m.places ≡ m.ground_places) (sym net) bare))) in
      let there : Of c.net c.free c.typed_fixed = subst (λ (m : Net). Of m c.free c.typed_fixed) net (subst (λ (f : ℕ → ℕ). Of n f c.typed_fixed) tokens (subst (λ (t : Rule). Of n free t) rule here)) in
      record { worked = there.0; works = there.1; built = there.2; promise = λ cs. promise_new (start_pile c) (new_ledger (start_pile c)) refl _ there.2 cs; follows = follows c (new_ledger (start_pile c)) }

  module _ (orders : List ℕ) where
    module _ (fine : Ok tt ≡ text_check orders) where
      pub ran_unset : (f : Fault) → Err f ≡ monitor_answer (new_pile monitor n free) typed → bad_line (codes "fixed") (fault f.refusal 1 0) ≡ ran c orders
      ran_unset f e = (λ i. ran_with c orders ((e ∙ monitored) i)) ∙ (λ i. ran_on c orders (fine i))

      pub ran_set : Ok tt ≡ monitor_answer (new_pile monitor n free) typed → (p : Pile) (l : Ledger) → l ≡ new_ledger p → Stacked n free typed p → answers c l (lines orders) ≡ ran c orders
      ran_set e p l new s =
          ap (λ (m : Ledger). answers c m (lines orders)) (new ∙ ap new_ledger (started p s))
          ∙ (λ i. ran_with c orders ((e ∙ monitored) i)) ∙ (λ i. ran_on c orders (fine i))

-- the orders that a cell has run, by the whole of what it prints
pub answered : (c : Cell) (orders out : List ℕ) → Started c orders → out ≡ ran c orders → Answered c orders out
answered c orders out s e = λ fine set. (s fine set, e ∙ ap (ran_on c orders) (sym fine) ∙ ap (ran_with c orders) (sym set))

-- ---- answers
pub on_ok : {A E : Type 0} (r : Result A E) (P : Type 0) → P → OnOk r P
on_ok (Ok a) P p = p
on_ok (Err e) P p = tt

pub only_one : {A E : Type 0} {a b : A} → ◌≡◌ {A = Result A E} (Ok a) (Ok b) → a ≡ b
only_one e = cc
