-- The line that a net text tells of.
--   Slot             a record of a place that can stand in a line
--   Slots            all of the records are
--   LineText         the net texts that tell of a line: they have no arcs, since a line's follow from its kind
--   text_net, text_tokens  the net and the tokens that a text tells of, if it tells of a line
--   Tells            the text n tells of the line l, whose net flows as a line does
--   Made             what is made of a net text: such a line, or nothing if it does not tell of one
use Rattle.std.specs.Prelude.{◌≡◌, ℕ, ◌+◌, ◌<◌, ◌≤◌, List, [], length, Some, None, vec_items, Option, slice_index_or}
use Rattle.model.specs.Net.{Net}
use Rattle.model.specs.Sizes.{most_limit, most_moves}
use Rattle.formats.specs.declared.kind.Kind.TheVariants as kinds
use Rattle.net_text.specs.declared.net.Place.{Place}
use Rattle.net_text.specs.declared.net.NetText.{NetText}
use Rattle.net_text.specs.Nets.{no_place, limit_at, tokens_at, letter_at}
use Rattle.line.specs.declared.line.Line.{Line}
use Rattle.line.specs.Lines.{line_net, net_of, tokens_of}
use Rattle.line.specs.Flows.{Flows}

pub record Slot (p : Place) : Type 0 where
  pub some : 1 ≤ p.limit
  pub small : p.limit ≤ most_limit
  pub within : p.tokens ≤ p.limit

abbrev pub Slots : List Place → Type 0
Slots ps = (p : ℕ) → p < length ps → Slot (slice_index_or ps p no_place)

pub record LineText (n : NetText) : Type 0 where
  pub kind : n.kind ≡ kinds.Line
  pub some : 1 ≤ length (vec_items n.places)
  pub moves : length (vec_items n.moves) ≡ length (vec_items n.places) + 1
  pub few : length (vec_items n.moves) ≤ most_moves
  pub slots : Slots (vec_items n.places)
  pub plain : vec_items n.arcs ≡ []

abbrev pub text_net : NetText → Net
text_net n = line_net (length (vec_items n.places)) (limit_at (vec_items n.places)) (letter_at (vec_items n.moves))

abbrev pub text_tokens : NetText → ℕ → ℕ
text_tokens n = tokens_at (vec_items n.places)

pub record Tells (n : NetText) (l : Line) : Type 0 where
  pub text : LineText n
  pub net : net_of l ≡ text_net n
  pub flows : Flows (net_of l)
  pub tokens : tokens_of l ≡ text_tokens n

abbrev pub Made : NetText → Option Line → Type 0
Made n (Some l) = Tells n l
Made n None = LineText n → ⊥
