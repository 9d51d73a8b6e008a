-- The book of a list of calls: kept from the calls and whether each was accepted, and from nothing else of the ledger.
--   Book           q, the marking of the ground places; v, the open grants of each move; and the rules in force
--   new_book       the book of a new ledger
--   entered        the rules with one more, if it could be worked
--   noted          the book after an accepted call, over the net and the first row's place at the new ledger
--   book_from      the book after a list of calls, from an earlier one
--   book_of        the book of a list of calls
--   acceptances    whether each answer of a list accepts
use Rattle.std.specs.Prelude.{ℕ, ◌+◌, Bool, cond, List, [], ◌∷◌, ℤ, pos, ◌+ℤ◌, Ok, Err, Result}
use Rattle.model.specs.declared.fault.Fault.{Fault}
use Rattle.model.specs.Net.{Net, incidence}
use Rattle.model.specs.Plant.{Answer, accepted}
use Rattle.model.specs.Rule.{Rule, Worked}
use Rattle.model.specs.Working.{work}
use Rattle.model.specs.Layer.{Pile, InForce, pile_net, pile_free}
use Rattle.model.specs.Ledger.{Call, grant, commit, cancel, report, admit, plus_one, minus_one}

pub record Book : Type 0 where
  -- signed, so that no subtraction is cut off
  pub q : ℕ → ℤ
  pub v : ℕ → ℕ
  pub rules : List InForce

abbrev pub new_book : Pile → List InForce → Book
new_book p rs = record { q = λ i. pos (pile_free p i); v = λ t. 0; rules = rs }

abbrev pub entered : ℕ → Rule → Result Worked Fault → List InForce → List InForce
entered place typed (Ok w) rs = record { place = place; typed = typed; worked = w } ∷ rs
entered place typed (Err f) rs = rs

module _ (n : Net) (first : ℕ) where
  abbrev pub noted : Book → Call → Book
  noted b (grant t) = record { q = b.q; v = plus_one b.v t; rules = b.rules }
  noted b (commit t) = record { q = λ p. b.q p +ℤ incidence n p t; v = minus_one b.v t; rules = b.rules }
  noted b (cancel t) = record { q = b.q; v = minus_one b.v t; rules = b.rules }
  noted b (report t) = record { q = λ p. b.q p +ℤ incidence n p t; v = b.v; rules = b.rules }
  noted b (admit r typed) = record { q = b.q; v = b.v; rules = entered (first + r) typed (work n typed) b.rules }

  abbrev pub book_from : Book → List Call → List Bool → Book
  book_from b [] xs = b
  book_from b (c ∷ cs) [] = b
  book_from b (c ∷ cs) (x ∷ xs) = book_from (cond x (noted b c) b) cs xs

abbrev pub acceptances : List Answer → List Bool
acceptances [] = []
acceptances (a ∷ xs) = accepted a ∷ acceptances xs

-- over the pile of the new ledger, the rules in force on it, and a list of calls with whether each was accepted
abbrev pub book_of : Pile → List InForce → List Call → List Bool → Book
book_of p rs cs xs = book_from (pile_net p) p.below.places (new_book p rs) cs xs
