-- The checks of an arc line, group by group: its place, its move, what it takes and gives, and the pair.
use Rattle.std.proofs.Common.{◌≡◌, ℕ, ◌+◌, List, [], ◌++◌, length, Ok, Err, Option, Result, sym, ap, ◌∙◌, subst₂}
use Rattle.formats.specs.declared.fault.TextFault.{TextFault}
use Rattle.formats.specs.Words.{index_of, value}
use Rattle.formats.specs.Texts.{Check, first_failed, unless}
use Rattle.formats.specs.NetText as net
use Rattle.formats.specs.NetText.{place_names, move_names}
use Rattle.formats.specs.ReadNet.{known_checks, weight_checks, pair_checks, arc_checks}
use Rattle.net_text.specs.declared.net.Arc.{Arc}
use Rattle.texts.specs.Spans.{checked}
use Rattle.texts.proofs.Checking.{stops, goes, then_stops}

module _ (x : net.NetText) (at k : ℕ) (p m t g : List ℕ) where
  abbrev i : ℕ
  i = index_of (place_names x) p

  abbrev j : ℕ
  j = index_of (move_names x) m

  abbrev of_place : List Check
  of_place = known_checks (place_names x) (at + 4) p

  abbrev of_move : List Check
  of_move = known_checks (move_names x) (at + 4 + length p + 1) m

  abbrev of_weights : List Check
  of_weights = weight_checks (at + 4 + length p + 1 + length m + 1) t g

  abbrev weights : ℕ × ℕ
  weights = (value t, value g)

  -- the checks of the pair c, d
  abbrev paired : ℕ → ℕ → Result (Unit {0}) TextFault
  paired c d = checked (pair_checks x at c d) k tt

  abbrev fine : Result (Unit {0}) TextFault
  fine = Ok tt

  abbrev arc_read : Arc
  arc_read = record { place = i; transition = j; take = value t; give = value g }

  abbrev answer : Result Arc TextFault
  answer = checked (arc_checks x at p m t g) k arc_read

  pub no_place : (f : TextFault) → Err f ≡ checked of_place k i → Err f ≡ answer
  no_place f e = stops of_place (of_move ++ (of_weights ++ pair_checks x at i j)) k i (Ok arc_read) f e

  module _ (a : ℕ) (ok_place : Ok a ≡ checked of_place k i) where
    after_place : (f : TextFault) → Err f ≡ unless (first_failed (of_move ++ (of_weights ++ pair_checks x at i j))) k (Ok arc_read) → Err f ≡ answer
    after_place f e = then_stops of_place (of_move ++ (of_weights ++ pair_checks x at i j)) k i a (Ok arc_read) f ok_place e

    pub no_move : (f : TextFault) → Err f ≡ checked of_move k j → Err f ≡ answer
    no_move f e = after_place f (stops of_move (of_weights ++ pair_checks x at i j) k j (Ok arc_read) f e)

    module _ (b : ℕ) (ok_move : Ok b ≡ checked of_move k j) where
      after_move : (f : TextFault) → Err f ≡ unless (first_failed (of_weights ++ pair_checks x at i j)) k (Ok arc_read) → Err f ≡ answer
      after_move f e = after_place f (then_stops of_move (of_weights ++ pair_checks x at i j) k j b (Ok arc_read) f ok_move e)

      pub no_weights : (f : TextFault) → Err f ≡ checked of_weights k weights → Err f ≡ answer
      no_weights f e = after_move f (stops of_weights (pair_checks x at i j) k weights (Ok arc_read) f e)

      module _ (w : ℕ × ℕ) (ok_weights : Ok w ≡ checked of_weights k weights) where
        same_place : a ≡ i
        same_place = (goes of_place [] k i a ok_place).0

        same_move : b ≡ j
        same_move = (goes of_move [] k j b ok_move).0

        pub no_pair : (f : TextFault) → Err f ≡ paired a b → Err f ≡ answer
        no_pair f e =
            after_move f
            (then_stops of_weights (pair_checks x at i j) k weights w (Ok arc_read) f ok_weights
            (stops (pair_checks x at i j) [] k tt (Ok arc_read) f (subst₂ (λ (c d : ℕ). Err f ≡ paired c d) same_place same_move e)))

        pub arc_fits : fine ≡ paired a b → Ok (record { place = a; transition = b; take = w.0; give = w.1 }) ≡ answer
        arc_fits e =
            let pairs = subst₂ (λ (c d : ℕ). fine ≡ paired c d) same_place same_move e in
            let by = goes of_weights (pair_checks x at i j) k weights w ok_weights in
            let all : first_failed (arc_checks x at p m t g) ≡ first_failed [] =
            (goes of_place (of_move ++ (of_weights ++ pair_checks x at i j)) k i a ok_place).1
            ∙ (goes of_move (of_weights ++ pair_checks x at i j) k j b ok_move).1
            ∙ by.1
            ∙ (goes (pair_checks x at i j) [] k tt tt pairs).1 in
            (λ z. Ok (record { place = same_place z; transition = same_move z; take = (by.0 z).0; give = (by.0 z).1 }))
            ∙ sym (ap (λ (o : Option Check). unless o k (Ok arc_read)) all)
