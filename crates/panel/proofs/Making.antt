-- Of a net that is proper the plant of its kind is made, with the net and the tokens that its text tells of.
use Rattle.std.proofs.Common.{◌≡◌, ℕ, List, Some, None, Option, sym, ap, subst, ◌∙◌}
use Rattle.std.specs.Option.{MatchOption}
use Rattle.std.proofs.lemmas.Bool.{both_ways}
use Rattle.formats.specs.declared.kind.Kind.TheVariants.{Net, Bank, Line}
use Rattle.formats.specs.NetText as said
use Rattle.formats.specs.NetClauses.{net_meaning}
use Rattle.formats.specs.Texts.{Proper}
use Rattle.net_text.specs.declared.net.NetText.{NetText}
use Rattle.net_text.specs.Nets.{net_of}
use Rattle.table.specs.Made as tables
use Rattle.table.specs.Made.{is_fit}
use Rattle.table.specs.Tables as table_plants
use Rattle.bank.specs.Banks as bank_plants
use Rattle.bank.specs.Making as banks
use Rattle.line.specs.Lines as line_plants
use Rattle.line.specs.Making as lines
use Rattle.table.specs.declared.table.Table.{Table}
use Rattle.bank.specs.declared.bank.Bank as bank
use Rattle.line.specs.declared.line.Line as line
use Rattle.panel.specs.Cells.{plant_net, free_of}
use Rattle.panel.proofs.Fitting.{fits_table, fits_bank, fits_line}
use Rattle.panel.proofs.Plants.{tokens_said, table_said, bank_said, line_said}

module _ (bs : List ℕ) (n : NetText) (x : said.NetText) (v : net_of bs n ≡ x) (q : Proper net_meaning x) where
  p : Proper net_meaning (net_of bs n)
  p = subst (λ (y : said.NetText). Proper net_meaning y) (sym v) q

  pub table_made : n.kind ≡ Net → (o : Option Table) → tables.Made n o → MatchOption o ⊥ (λ t. (table_plants.net_of t ≡ plant_net x) × (table_plants.tokens_of t ≡ free_of x))
  table_made e (Some t) m = (m.1 ∙ table_said bs n e ∙ ap plant_net v, m.2 ∙ tokens_said bs n ∙ ap free_of v)
  table_made e None m = both_ways (is_fit n) m (fits_table bs n p e)

  pub bank_made : n.kind ≡ Bank → (o : Option bank.Bank) → banks.Makes n o → MatchOption o ⊥ (λ b. (bank_plants.net_of b ≡ plant_net x) × (bank_plants.tokens_of b ≡ free_of x))
  bank_made e (Some b) m = (m.1.net ∙ bank_said bs n e ∙ ap plant_net v, m.1.tokens ∙ tokens_said bs n ∙ ap free_of v)
  bank_made e None m = m (fits_bank bs n p e)

  pub line_made : n.kind ≡ Line → (o : Option line.Line) → lines.Made n o → MatchOption o ⊥ (λ l. (line_plants.net_of l ≡ plant_net x) × (line_plants.tokens_of l ≡ free_of x))
  line_made e (Some l) m = (m.net ∙ line_said bs n e ∙ ap plant_net v, m.tokens ∙ tokens_said bs n ∙ ap free_of v)
  line_made e None m = m (fits_line bs n p e)
