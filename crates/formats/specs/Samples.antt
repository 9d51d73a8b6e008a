-- Some texts, each with what reading it answers: the value, or the refusal with its line and byte.
--   spelled bs       the text that bs spells: a blank stands for a tab, a comma for a newline
--   NetSaid t r      reading the net text that is spelled t answers r
--   cell_net, small_net   two nets
--   NetSamples       net texts
--   places           the names of the places that rules are read over
--   RulesSaid t r    reading the rules text that is spelled t, over the net of the moves in, out, ret and the places A, Z, B, answers r
--   FixedWrong t c i the one line that is spelled t is refused with c at the byte i
--   plain_part       a part of a sum with no number; weighing: the parts of A+2*B-A; zone_and_keep: two rules
--   RulesSamples     rules texts and sums
--   text_refusals    the refusals of texts, in the order of the table; NumbersInOrder: their numbers, 10 to 19
use Rattle.std.specs.Prelude.{◌≡◌, ℕ, Bool, true, false, cond, List, [], ◌∷◌, ◌++◌, map, pos, negsuc, Some, None, Ok, Err, codes, Result, ◌==◌}
use Rattle.model.specs.declared.refusal.Refusal.{Refusal}
use Rattle.model.specs.declared.refusal.Refusal.TheVariants.{Form, Byte, NoRecord, Field, NameTaken, NameUnknown, TooMany, ArcNotAllowed, NotOfKind, Sum}
use Rattle.model.specs.Refusals.{refusal_number}
use Rattle.formats.specs.declared.kind.Kind.TheVariants.{Net}
use Rattle.formats.specs.declared.fault.TextFault.{TextFault}
use Rattle.formats.specs.Texts.{fault}
use Rattle.formats.specs.NetText.{NetText}
use Rattle.formats.specs.ReadNet.{read_net}
use Rattle.formats.specs.Sums.{Part, weight, read_sum}
use Rattle.formats.specs.RulesText.{RulesText, read_rules}

abbrev pub spelled : List ℕ → List ℕ
spelled [] = []
spelled (b ∷ bs) = cond (b == 32) 9 (cond (b == 44) 10 b) ∷ spelled bs

abbrev pub NetSaid : List ℕ → Result NetText TextFault → Type 0
NetSaid t r = read_net (spelled t) ≡ r

-- the net of a rack A, a zone Z and a bench B
abbrev pub cell_net : NetText
cell_net = record {
  kind = Net;
  places = record { name = codes "A"; tokens = 3; limit = 5 } ∷ record { name = codes "Z"; tokens = 0; limit = 4 } ∷ record { name = codes "B"; tokens = 0; limit = 9 } ∷ [];
  moves = record { name = codes "in"; controllable = true } ∷ record { name = codes "out"; controllable = false } ∷ record { name = codes "ret"; controllable = true } ∷ [];
  arcs = record { place = 0; move = 0; take = 1; give = 0 } ∷ record { place = 1; move = 0; take = 0; give = 1 } ∷ record { place = 1; move = 1; take = 1; give = 0 }
      ∷ record { place = 2; move = 1; take = 0; give = 1 } ∷ record { place = 2; move = 2; take = 1; give = 0 } ∷ record { place = 0; move = 2; take = 0; give = 1 } ∷ [];
}

abbrev pub small_net : NetText
small_net = record {
  kind = Net;
  places = record { name = codes "A"; tokens = 3; limit = 5 } ∷ [];
  moves = record { name = codes "in"; controllable = true } ∷ [];
  arcs = record { place = 0; move = 0; take = 1; give = 0 } ∷ [];
}

pub record NetSamples : Type 0 where
  pub cell : NetSaid (codes "plant net,place A 3 5,place Z 0 4,place B 0 9,move in c,move out u,move ret c,arc A in 1 0,arc Z in 0 1,arc Z out 1 0,arc B out 0 1,arc B ret 1 0,arc A ret 0 1,") (Ok cell_net)
  pub small : NetSaid (codes "plant net,place A 3 5,move in c,arc A in 1 0,") (Ok small_net)
  pub no_place : NetSaid (codes "plant net,move in c,") (Err (fault NotOfKind 0 20))
  pub no_move : NetSaid (codes "plant net,place A 3 5,arc A in 1 0,") (Err (fault NameUnknown 3 28))
  pub late_place : NetSaid (codes "plant net,move in c,place A 3 5,") (Err (fault NoRecord 3 20))
  pub over : NetSaid (codes "plant net,place A 7 5,") (Err (fault Field 2 18))
  pub zero_lead : NetSaid (codes "plant net,place A 3 05,") (Err (fault Field 2 20))
  pub in_line : NetSaid (codes "plant line,place A 1 1,move a c,move b c,arc A a 0 1,") (Err (fault ArcNotAllowed 5 41))
  pub again : NetSaid (codes "plant net,place A 3 5,move a c,arc A a 0 1,arc A a 1 0,") (Err (fault ArcNotAllowed 5 43))
  pub twice : NetSaid (codes "plant net,place A 3 5,move A c,") (Err (fault NameTaken 3 27))
  pub bare : NetSaid (codes "plant net") (Err (fault Form 0 0))
  pub blank : read_net (codes "plant net" ++ (10 ∷ [])) ≡ Err (fault Byte 1 5)
  pub byte : read_net (spelled (codes "plant net,") ++ (31 ∷ 10 ∷ [])) ≡ Err (fault Byte 2 10)

-- ---- rules texts
abbrev pub places : List (List ℕ)
places = codes "A" ∷ codes "Z" ∷ codes "B" ∷ []

abbrev pub RulesSaid : List ℕ → Result RulesText TextFault → Type 0
RulesSaid t r = read_rules (places ++ (codes "in" ∷ codes "out" ∷ codes "ret" ∷ [])) places (spelled t) ≡ r

abbrev pub FixedWrong : List ℕ → Refusal → ℕ → Type 0
FixedWrong t c i = RulesSaid t (Err (fault c 1 i))

abbrev pub plain_part : Bool → ℕ → Part
plain_part m i = record { minus = m; number = None; place = i }

-- A+2*B-A weighs A 0, B 2
abbrev pub weighing : List Part
weighing = plain_part false 0 ∷ record { minus = false; number = Some 2; place = 2 } ∷ plain_part true 0 ∷ []

abbrev pub zone_and_keep : RulesText
zone_and_keep = record {
  fixed = record { name = codes "zone"; sum = plain_part false 1 ∷ []; bound = pos 2 };
  others = record { name = codes "keep"; sum = plain_part false 2 ∷ []; bound = negsuc 0 } ∷ [];
}

pub record RulesSamples : Type 0 where
  pub two : RulesSaid (codes "fixed zone Z 2,rule keep B -1,") (Ok zone_and_keep)
  pub sum_read : read_sum places 0 (codes "A+2*B-A") ≡ Ok weighing
  pub sum_weighs : (weight weighing 0 ≡ pos 0) × (weight weighing 1 ≡ pos 0) × (weight weighing 2 ≡ pos 2)
  -- a name of 13 letters: its first 12 are no place
  pub long : FixedWrong (codes "fixed zone ABCDEFGHIJKLM 2,") NameUnknown 11
  pub hundred : FixedWrong (codes "fixed zone 100*A 2,") Sum 11
  pub hundred_bare : FixedWrong (codes "fixed zone 100A 2,") Sum 11
  pub zero_lead : FixedWrong (codes "fixed zone 05*A 2,") Sum 11
  pub no_star : FixedWrong (codes "fixed zone 2Q 2,") Sum 12
  pub empty : FixedWrong (codes "fixed zone  2,") Sum 11
  pub sign_alone : FixedWrong (codes "fixed zone - 2,") Sum 12
  pub ends_in_plus : FixedWrong (codes "fixed zone A+ 2,") Sum 13
  pub number_alone : FixedWrong (codes "fixed zone 2 2,") Sum 12
  pub ends_in_star : FixedWrong (codes "fixed zone A-3* 2,") Sum 15
  pub plus_first : FixedWrong (codes "fixed zone +A 2,") Sum 11
  pub two_signs : FixedWrong (codes "fixed zone A--B 2,") Sum 13
  pub star_late : FixedWrong (codes "fixed zone A*B 2,") Sum 12
  pub heavy : FixedWrong (codes "fixed zone 99*A+B+A 2,") Sum 18
  pub a_move : FixedWrong (codes "fixed zone A+in 2,") NameUnknown 13
  pub a_rule : FixedWrong (codes "fixed zone A+zone 2,") NameUnknown 13
  pub taken : FixedWrong (codes "fixed in A 2,") NameTaken 6
  pub minus_zero : FixedWrong (codes "fixed zone A -0,") Field 13
  pub long_bound : FixedWrong (codes "fixed zone A 1000000,") Field 13
  pub second_line : RulesSaid (codes "fixed zone Z 2,rule keep Q 1,") (Err (fault NameUnknown 2 25))
  pub no_fixed : FixedWrong (codes "rule zone A 2,") NoRecord 0

-- ---- the numbers by which the refusals of texts are printed, in the order of the table
abbrev pub text_refusals : List Refusal
text_refusals = Form ∷ Byte ∷ NoRecord ∷ Field ∷ NameTaken ∷ NameUnknown ∷ TooMany ∷ ArcNotAllowed ∷ NotOfKind ∷ Sum ∷ []

abbrev pub NumbersInOrder : Type 0
NumbersInOrder = map refusal_number text_refusals ≡ 10 ∷ 11 ∷ 12 ∷ 13 ∷ 14 ∷ 15 ∷ 16 ∷ 17 ∷ 18 ∷ 19 ∷ []
