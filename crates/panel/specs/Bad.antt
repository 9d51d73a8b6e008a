-- The print of a run that ends before its first order, said of the texts: what is refused, and the one line that is printed for it.
--   orders_meaning   the orders as a text in which no line is wrong: it is refused by the checks of the whole text alone
--   OrdersPass       the orders pass these checks
--   OrdersDecided    each orders text passes them, just where text_check says so, or is refused with one fault, just where text_check
--                    says so; never both
--   TextsOf x y net rules   the net text is that of the proper net x, and the rules text that of the rules y, proper for x
--   BadPrinted net rules orders out   out is the line that says what is refused, in this order: the net, the rules, the orders, by the
--                    text and with its line and byte; and the fixed rule, by what setting it answers, with the line 1 and the byte 0
use Rattle.std.specs.Prelude.{◌≡◌, ℕ, ◌⊎◌, List, [], Ok, Err, codes}
use Rattle.std.specs.List.{AllByRecursion}
use Rattle.model.specs.declared.fault.Fault.{Fault}
use Rattle.model.specs.Layer.{monitor_answer}
use Rattle.formats.specs.declared.fault.TextFault.{TextFault}
use Rattle.formats.specs.Words.{Allowed}
use Rattle.formats.specs.Texts.{Meaning, Proper, IsText, Refused, fault, written}
use Rattle.formats.specs.NetText.{NetText, names, place_names}
use Rattle.formats.specs.NetClauses.{net_meaning}
use Rattle.formats.specs.RulesText.{RulesText, rules_meaning}
use Rattle.texts.specs.Lines.{text_check}
use Rattle.panel.specs.Prints.{bad_line}
use Rattle.panel.specs.Cells.{cell_of, typed_of}
use Rattle.panel.specs.Orders.{start_monitor}

abbrev pub orders_meaning : Meaning (List (List (List ℕ)))
orders_meaning = record { clauses = λ s at fs. []; rows = λ x. x; Right = λ x. Unit {0}; Complete = λ x. Unit {0} }

abbrev pub OrdersPass : List ℕ → Type 0
OrdersPass orders = IsText orders × AllByRecursion Allowed orders

pub record OrdersDecided : Type 0 where
  pub passes : (orders : List ℕ) → (text_check orders ≡ Ok tt → OrdersPass orders) × (OrdersPass orders → text_check orders ≡ Ok tt)
  pub refused : (orders : List ℕ) (f : TextFault) → (text_check orders ≡ Err f → Refused orders_meaning orders f) × (Refused orders_meaning orders f → text_check orders ≡ Err f)
  pub either : (orders : List ℕ) → OrdersPass orders ⊎ ((f : TextFault) × Refused orders_meaning orders f)
  pub never_both : (orders : List ℕ) (f : TextFault) → OrdersPass orders → Refused orders_meaning orders f → ⊥
  pub one_fault : (orders : List ℕ) (f g : TextFault) → Refused orders_meaning orders f → Refused orders_meaning orders g → f ≡ g

pub record TextsOf (x : NetText) (y : RulesText) (net rules : List ℕ) : Type 0 where
  pub net_proper : Proper net_meaning x
  pub net_written : net ≡ written net_meaning x
  pub rules_proper : Proper (rules_meaning (names x) (place_names x)) y
  pub rules_written : rules ≡ written (rules_meaning (names x) (place_names x)) y

pub record BadPrinted (net rules orders out : List ℕ) : Type 0 where
  pub net_refused : (f : TextFault) → Refused net_meaning net f → out ≡ bad_line (codes "net") f
  pub rules_refused : (x : NetText) (f : TextFault) → Proper net_meaning x → net ≡ written net_meaning x → Refused (rules_meaning (names x) (place_names x)) rules f → out ≡ bad_line (codes "rules") f
  pub orders_refused : (x : NetText) (y : RulesText) (f : TextFault) → TextsOf x y net rules → Refused orders_meaning orders f → out ≡ bad_line (codes "orders") f
  pub fixed_refused : (x : NetText) (y : RulesText) (f : Fault) → TextsOf x y net rules → OrdersPass orders → monitor_answer (start_monitor (cell_of x y)) (typed_of y.fixed) ≡ Err f → out ≡ bad_line (codes "fixed") (fault f.refusal 1 0)
