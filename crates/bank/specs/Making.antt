-- What a bank is made of: the records of a net text.
--   Single                the place p has the limit 1 and at most one token
--   AllSingle             all places are so
--   Shaped                a bank's kind and counts: four places a machine, one to eight machines, as many moves as places
--   BankText              a net text that a bank is made from: it has no arcs, since a bank's follow from its kind
--   Made                  the net of the bank b is that of the moves' letters, and of machines; its tokens are those of the places
--   Makes                 a bank that is made of x, if x is the text of one; else none
use Rattle.std.specs.Prelude.{◌≡◌, ℕ, ◌%◌, ◌<◌, ◌≤◌, List, [], length, Some, None, vec_items, Option}
use Rattle.formats.specs.declared.kind.Kind.TheVariants.{Bank as bank_kind}
use Rattle.model.specs.Sizes.{most_places}
use Rattle.net_text.specs.declared.net.Place.{Place}
use Rattle.net_text.specs.declared.net.NetText.{NetText}
use Rattle.net_text.specs.Nets.{tokens_at, limit_at, letter_at}
use Rattle.bank.specs.declared.bank.Bank.{Bank}
use Rattle.bank.specs.Banks.{bank_net, net_of, tokens_of}
use Rattle.bank.specs.Machines.{Machines}

abbrev pub Single : List Place → ℕ → Type 0
Single ps p = (limit_at ps p ≡ 1) × (tokens_at ps p ≤ 1)

abbrev pub AllSingle : List Place → Type 0
AllSingle ps = (p : ℕ) → p < length ps → Single ps p

pub record Shaped (x : NetText) : Type 0 where
  pub kind : x.kind ≡ bank_kind
  pub some : 4 ≤ length (vec_items x.places)
  pub few : length (vec_items x.places) ≤ most_places
  pub whole : length (vec_items x.places) % 4 ≡ 0
  pub moves : length (vec_items x.moves) ≡ length (vec_items x.places)

pub record BankText (x : NetText) : Type 0 where
  pub shaped : Shaped x
  pub single : AllSingle (vec_items x.places)
  pub plain : vec_items x.arcs ≡ []

pub record Made (x : NetText) (b : Bank) : Type 0 where
  pub net : net_of b ≡ bank_net (length (vec_items x.places)) (letter_at (vec_items x.moves))
  pub machines : Machines (net_of b)
  pub tokens : tokens_of b ≡ tokens_at (vec_items x.places)

abbrev pub Makes : NetText → Option Bank → Type 0
Makes x (Some b) = BankText x × Made x b
Makes x None = BankText x → ⊥
