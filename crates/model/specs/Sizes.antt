-- The sizes that texts and cells keep within, each named once.
--   most_bytes           the bytes of a text
--   most_places          the ground places of a net
--   most_moves           the moves of a net
--   most_rules           the rules of a rules text, beside the fixed one: one for each row of a board
--   name_tail            what follows the first letter of a name
--   count_digits         the digits of tokens and limits, which so stay below a thousand
--   arc_digits           the digits of what a move takes or gives
--   bound_digits         the digits of a rule's bound
--   factor_digits        the digits of a number before a star
--   most_arc             the tokens that a move takes from a ground place, or gives to it
--   most_limit           the limit of a ground place
--   most_all_places      the places of a net, control places among them
--   monitor_rows         the rows of a fixed monitor
--   board_rows           the rows of a board
--   most_weight          the weight of a place in a typed rule, by its size
--   most_bound           the bound of a typed rule, by its size
--   most_rounds          the rounds that may change a rule while it is worked
--   most_worked_weight   the weight of a place in a worked rule, by its size
--   most_worked_bound    the bound of a worked rule, by its size
--   most_control_arc     the tokens that a move takes from a control place, or gives to it: what it can raise a worked rule by,
--                        every ground place at its greatest arc and weight
--   control_limit        the limit of a control place, beyond what a row can come to hold
--   most_open            the open grants of a ledger, in all
use Rattle.std.specs.Prelude.{ℕ, ◌*◌}

abbrev pub most_bytes : ℕ
most_bytes = 16384

abbrev pub most_places : ℕ
most_places = 32

abbrev pub most_moves : ℕ
most_moves = 32

abbrev pub most_rules : ℕ
most_rules = 12

abbrev pub name_tail : ℕ
name_tail = 11

abbrev pub count_digits : ℕ
count_digits = 3

abbrev pub arc_digits : ℕ
arc_digits = 1

abbrev pub bound_digits : ℕ
bound_digits = 6

abbrev pub factor_digits : ℕ
factor_digits = 2

abbrev pub most_weight : ℕ
most_weight = 99

abbrev pub most_bound : ℕ
most_bound = 999999

abbrev pub most_arc : ℕ
most_arc = 9

abbrev pub most_limit : ℕ
most_limit = 999

abbrev pub most_all_places : ℕ
most_all_places = 64

abbrev pub monitor_rows : ℕ
monitor_rows = 1

abbrev pub board_rows : ℕ
board_rows = most_rules

abbrev pub most_rounds : ℕ
most_rounds = 64

abbrev pub most_worked_weight : ℕ
most_worked_weight = 9999

abbrev pub most_worked_bound : ℕ
most_worked_bound = 99999999

abbrev pub most_control_arc : ℕ
most_control_arc = most_places * most_arc * most_worked_weight

abbrev pub control_limit : ℕ
control_limit = 2000000000

abbrev pub most_open : ℕ
most_open = 200
