use Rattle.std.proofs.Common.{◌≡◌, ℕ, false, length, get_or, vec_items, refl, ◌∙◌, arith, rules, tests}
use Rattle.net_text.specs.declared.net.Place.{Place}
use Rattle.net_text.specs.declared.net.Move.{Move}
use Rattle.model.specs.Sizes.{most_moves}
use Rattle.plant.proofs.Made.{copied, mapped}
use Rattle.line.specs.declared.slot.Slot.{Slot}
use Rattle.line.specs.Slots.{none, slot}
use Rattle.line.specs.Making.{LineText}
use Rattle.net_text.specs.Nets.{no_place, no_move, limit_at, tokens_at, letter_at}
use Rattle.line.proofs.Flowing.{line_flows}
use Rattle.line.proofs.Recorded.{some_made, small_made, held_made, tokens_made, net_made}
use Rattle.line.proofs.making.make.Goals as goal
use Rattle.line.proofs.making.make.Goals.{After-front-2, at-returns}

module _ (c : After-front-2) where
  text : LineText c.args.net.now
  text = c.if-not-is_line.ensures.0 refl

  counted : c.len.result ≡ length (vec_items c.args.net.now.places)
  counted = search rules

  abbrev to_slot : Place → Slot
  to_slot x = record { limit = x.limit; tokens = x.tokens }

  slots : (p : ℕ) → slot c.front.result p ≡ record { limit = limit_at (vec_items c.args.net.now.places) p; tokens = tokens_at (vec_items c.args.net.now.places) p }
  slots p =
      copied to_slot c.deref.result.now (vec_items c.args.net.now.places) 31 c.front.result none c.deref.ensures.value (omega (arith, text.moves, text.few))
      (c.front.ensures to_slot (λ x u k. search (rules, tests))) p
      ∙ mapped to_slot (vec_items c.args.net.now.places) no_place p

  letters : (t : ℕ) → get_or c.front-2.result t false ≡ letter_at (vec_items c.args.net.now.moves) t
  letters t =
      copied (λ (x : Move). x.controllable) c.deref-2.result.now (vec_items c.args.net.now.moves) most_moves c.front-2.result false c.deref-2.ensures.value text.few
      (c.front-2.ensures (λ x. x.controllable) (λ x u k. search (rules, tests))) t
      ∙ mapped (λ (x : Move). x.controllable) (vec_items c.args.net.now.moves) no_move t

pub invariant_of-result-clause-some_limits : goal.invariant_of-result-clause-some_limits
invariant_of-result-clause-some_limits c = λ p h. some_made (vec_items c.args.net.now.places) c.front.result (c.if-not-is_line.ensures.0 refl).slots (slots c) p (omega (arith, counted c))

pub invariant_of-result-clause-small_limits : goal.invariant_of-result-clause-small_limits
invariant_of-result-clause-small_limits c = small_made (vec_items c.args.net.now.places) c.front.result (c.if-not-is_line.ensures.0 refl).slots (slots c)

pub invariant_of-result-clause-held : goal.invariant_of-result-clause-held
invariant_of-result-clause-held c = held_made (vec_items c.args.net.now.places) c.front.result (c.if-not-is_line.ensures.0 refl).slots (slots c)

pub returns : goal.returns
returns c =
    let d = (at-returns c).After-front-2 in
    let ps = vec_items c.args.net.now.places in
    let text = c.if-not-is_line.ensures.0 refl in
    record {
      text = text;
      net = net_made ps c.front.result text.slots (slots d) c.len.result (length ps) _ _ (counted d) (letters d);
      flows = line_flows c.len.result _ _ (omega (arith, counted d, text.some));
      tokens = tokens_made ps c.front.result text.slots (slots d) c.len.result (counted d);
    }
