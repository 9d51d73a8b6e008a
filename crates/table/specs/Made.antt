-- Which net texts a table can be made of, and what it then is.
--   joins n k a      the arc is not too large, and between one of n places and one of k moves
--   some_few most n  n is at least 1 and at most so many
--   is_fit x         x is of the kind net and has places and moves, not too many, each place filled, each arc joining
--   arc_amount       what the arcs take or give, by f, between place p and move t: that of the last of them, 0 if there is none
--   text_net         the net that the records say
--   text_tokens      the tokens that they say, at each place
--   Made x r         r is the table of x, its net as read, or there is none since x does not fit
use Rattle.std.specs.Prelude.{◌≡◌, ℕ, Bool, true, false, cond, ◌&&◌, List, Some, None, vec_items, vec_len, fold, Option, ◌==◌, nat_le, nat_lt}
use Rattle.model.specs.Sizes.{most_places, most_moves, most_arc}
use Rattle.model.specs.Net.{Net}
use Rattle.formats.specs.Words.{all}
use Rattle.formats.specs.ReadNet.{is_net}
use Rattle.net_text.specs.declared.net.Arc.{Arc}
use Rattle.net_text.specs.declared.net.NetText.{NetText}
pub use Rattle.net_text.specs.Filled.{is_filled}
use Rattle.net_text.specs.Nets.{tokens_at, limit_at, letter_at}
use Rattle.table.specs.declared.table.Table.{Table}
use Rattle.table.specs.AsRead.{AsRead}
use Rattle.table.specs.Tables.{table_net, net_of, tokens_of}

abbrev pub joins : ℕ → ℕ → Arc → Bool
joins n k a = nat_lt a.place n && (nat_lt a.transition k && (nat_le a.take most_arc && nat_le a.give most_arc))

-- at least one of them, and not too many
abbrev pub some_few : ℕ → ℕ → Bool
some_few most n = nat_le 1 n && nat_le n most

abbrev pub is_fit : NetText → Bool
is_fit x =
    (some_few most_places (vec_len x.places) && some_few most_moves (vec_len x.moves))
    && (is_net x.kind && (all is_filled (vec_items x.places) && all (joins (vec_len x.places) (vec_len x.moves)) (vec_items x.arcs)))

abbrev pub arc_amount : (Arc → ℕ) → List Arc → ℕ → ℕ → ℕ
arc_amount f xs p t = fold (λ v a. cond (a.place == p && a.transition == t) (f a) v) 0 xs

abbrev pub text_net : NetText → Net
text_net x =
    table_net (vec_len x.places) (vec_len x.moves) (letter_at (vec_items x.moves))
    (arc_amount (λ a. a.take) (vec_items x.arcs)) (arc_amount (λ a. a.give) (vec_items x.arcs)) (limit_at (vec_items x.places))

abbrev pub text_tokens : NetText → ℕ → ℕ
text_tokens x = tokens_at (vec_items x.places)

abbrev pub Made : NetText → Option Table → Type 0
Made x None = is_fit x ≡ false
Made x (Some s) = (is_fit x ≡ true) × (net_of s ≡ text_net x) × (tokens_of s ≡ text_tokens x) × AsRead x (net_of s)
