-- A board over a monitor that was set: one of the piles that can be built.
use Rattle.std.proofs.Common.{◌≡◌, ℕ, ◌≤◌, Ok, sym, refl, ap, ◌∙◌, subst}
use Rattle.model.specs.Net.{Net, Ranges}
use Rattle.model.specs.Rule.{Rule}
use Rattle.model.specs.Layer.{Pile, monitor, board, with_layer, monitor_answer, pile_net, pile_free, bare, monitored, boarded, monitor_set}
use Rattle.layers.specs.Piles.{new_pile}
use Rattle.layers.specs.Setting.{SetTo}
use Rattle.layers.specs.Stacking.{Stacked}

pub stacked : (n : Net) (free : ℕ → ℕ) (typed : Rule) → Ranges n → ((i : ℕ) → free i ≤ n.limit i) → (q p : Pile) → Ok tt ≡ monitor_answer (new_pile monitor n free) typed
    → SetTo (new_pile monitor n free) q 0 typed → p ≡ new_pile board (pile_net q) (pile_free q) → Stacked n free typed p
stacked n free typed R within q p ok set over =
    subst (Stacked n free typed) (sym (over ∙ ap (with_layer board) set.pile))
    (record {
      worked = set.worked;
      works = set.works;
      pile = refl;
      built = λ all. boarded (monitor_set typed set.worked (monitored (bare n free R all within)) refl (sym ok) set.works);
    })
