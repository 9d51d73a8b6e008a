-- What is printed for some small texts of which something is refused, on a net of one place and one move.
--   PrintedFor n r o out   for the net, the rules and the orders that are spelled n, r and o the bytes that are spelled out are printed; a
--                    blank spells a tab, a comma a newline
--   one_net, one_rule   a place A with one token and a move a; a fixed rule r that it keeps
--   RefusalsPrinted  the samples: a refused net, refused rules, refused orders, a fixed rule that cannot be set, and refused orders of a run
use Rattle.std.specs.Prelude.{◌≡◌, ℕ, List, [], ◌∷◌, ◌++◌, codes}
use Rattle.formats.specs.Samples.{spelled}
use Rattle.panel.specs.Run.{printed}

abbrev pub PrintedFor : List ℕ → List ℕ → List ℕ → List ℕ → Type 0
PrintedFor n r o out = printed (spelled n) (spelled r) (spelled o) ≡ spelled out

abbrev pub one_net : List ℕ
one_net = codes "plant net,place A 1 1,move a c,"

abbrev pub one_rule : List ℕ
one_rule = codes "fixed r A 1,"

pub record RefusalsPrinted : Type 0 where
  -- where all three texts are refused, the net is told
  pub net_kind : PrintedFor (codes "plant mesh,") [] [] (codes "bad net 13 1 6,")
  pub net_empty : PrintedFor [] [] [] (codes "bad net 10 0 0,")
  pub net_end : PrintedFor (codes "plant net,place A 1 1,") [] [] (codes "bad net 18 0 22,")
  -- where the rules and the orders are, the rules
  pub rules_place : PrintedFor one_net (codes "fixed r B 1,") [] (codes "bad rules 15 1 8,")
  pub rules_empty : PrintedFor one_net [] [] (codes "bad rules 10 0 0,")
  -- where the orders and the fixed rule are, the orders
  pub orders_end : PrintedFor one_net (codes "fixed r A 0,") (codes "show A") (codes "bad orders 10 0 0,")
  pub orders_byte : PrintedFor one_net (codes "fixed r A 0,") (codes "show A,show" ++ (31 ∷ 10 ∷ [])) (codes "bad orders 11 2 11,")
  -- the token at A is more than the fixed rule lets stand there
  pub fixed_broken : PrintedFor one_net (codes "fixed r A 0,") (codes "show A,") (codes "bad fixed 23 1 0,")
  -- three fields, three with an empty one, one empty field, one field, a word of no order, a word with a letter in upper case
  pub no_orders : PrintedFor one_net one_rule (codes "show A A,show A ,,show,take a,Show A,") (codes "no 12 - -,no 12 - -,no 12 - -,no 12 - -,no 12 - -,no 12 - -,")
  -- the fixed rule is no rule to admit, a place is no move, a move is no place
  pub no_names : PrintedFor one_net one_rule (codes "admit r,grant A,show a,") (codes "no 15 - -,no 15 - -,no 15 - -,")
  -- an order that is refused changes nothing
  pub not_open : PrintedFor one_net one_rule (codes "commit a,report a,grant a,commit a,cancel a,show r,") (codes "no 36 a -,no 32 a -,ok,ok,no 36 a -,at r 0,")
  -- A is full, and the row of s is set once
  pub no_room : PrintedFor (codes "plant net,place A 1 1,move a c,arc A a 0 1,") (codes "fixed r A 5,rule s A 2,") (codes "grant a,admit s,admit s,show s,") (codes "no 35 a A,ok,no 39 - -,at s 1,")
  -- rule line s belongs to row 0, rule line u to row 1; the move a brings one from A to B, and u lets no more than two stand at B
  pub two_rules : PrintedFor (codes "plant net,place A 3 9,place B 1 9,move a c,move b c,arc A a 1 0,arc B a 0 1,arc B b 1 0,") (codes "fixed r A 9,rule s B 5,rule u B 2,")
      (codes "show u,admit u,show u,show s,show r,grant a,grant a,grant b,commit b,grant a,admit s,commit a,commit a,admit s,show s,show B,show A,show r,")
      (codes "at u 0,ok,at u 1,at s 0,at r 6,ok,no 34 a u,ok,ok,ok,no 37 - -,ok,ok,ok,at s 3,at B 2,at A 1,at r 8,")
