-- The worked example, from its three texts to its print: a rack A, a robot's zone Z and a bench B, with the fixed rule zone, Z ≤ 2, and the
-- rule keep, B ≤ 1, which is put in force while a pallet stands in the zone.
--   example_net, example_rules, example_orders   the three texts; a blank spells a tab, a comma a newline
--   example_print    what is printed for them
--   ExamplePrinted   the program's print is that
use Rattle.std.specs.Prelude.{◌≡◌, ℕ, List, codes}
use Rattle.formats.specs.Samples.{spelled}
use Rattle.panel.specs.Run.{printed}

abbrev pub example_net : List ℕ
example_net = spelled (codes "plant net,place A 3 5,place Z 0 4,place B 0 9,move in c,move out u,move ret c,arc A in 1 0,arc Z in 0 1,arc Z out 1 0,arc B out 0 1,arc B ret 1 0,arc A ret 0 1,")

abbrev pub example_rules : List ℕ
example_rules = spelled (codes "fixed zone Z 2,rule keep B 1,")

abbrev pub example_orders : List ℕ
example_orders = spelled (codes "show A,show Z,show B,show C,show,grant in,grant in,grant in,cancel in,commit in,show Z,show zone,admit keep,admit keep,report out,grant ret,grant in,commit ret,show keep,grant out,commit in,report in,")

abbrev pub example_print : List ℕ
example_print = spelled (codes "at A 3,at Z 0,at B 0,no 15 - -,no 12 - -,ok,ok,no 34 in zone,ok,ok,at Z 1,at zone 1,ok,no 39 - -,ok,ok,no 34 in keep,ok,at keep 1,no 31 out -,no 36 in -,no 32 in -,")

abbrev pub ExamplePrinted : Type 0
ExamplePrinted = printed example_net example_rules example_orders ≡ example_print
