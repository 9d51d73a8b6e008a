-- The net and the tokens of a plant that was made of a read text are those that the text says.
use Rattle.std.proofs.Common.{◌≡◌, ℕ, ◌<◌, ◌≤◌, cond, ◌&&◌, eqb, ◌⊎◌, List, [], ◌∷◌, map, length, get_or, vec_items, fold, sym, refl, ap, ◌∙◌, inl, inr, arith}
use Rattle.std.proofs.lemmas.List.{length-map, get_or-map, get_or_past}
use Rattle.std.proofs.lemmas.Bool.{cases_lt}
use Rattle.formats.specs.declared.kind.Kind.TheVariants.{Net, Bank, Line}
use Rattle.formats.specs.NetText as said
use Rattle.net_text.specs.declared.net.Place.{Place}
use Rattle.net_text.specs.declared.net.Move.{Move}
use Rattle.net_text.specs.declared.net.Arc.{Arc}
use Rattle.net_text.specs.declared.net.NetText.{NetText}
use Rattle.net_text.specs.Nets.{place_of, move_of, arc_of, net_of, tokens_at, limit_at, letter_at}
use Rattle.net_text.specs.Nets as read
use Rattle.table.specs.Tables.{table_net}
use Rattle.table.specs.Made as tables
use Rattle.bank.specs.Banks.{bank_net}
use Rattle.line.specs.Lines.{line_net}
use Rattle.line.specs.Making as lines
use Rattle.panel.specs.Cells.{no_place, no_move, limit_of, free_of, letter_of, arcs_say, net_by, plant_net}

-- one number of the records, at each index: g of a record is f of its value, and both are the same past the end
by_records : {X Y Z : Type 0} (h : X → Y) (xs : List X) (d : X) (e : Y) (f : X → Z) (g : Y → Z) → ((x : X) → f x ≡ g (h x)) → f d ≡ g e → (i : ℕ) → f (get_or xs i d) ≡ g (get_or (map h xs) i e)
by_records h xs d e f g each past i = go (cases_lt i (length xs))
  where
    go : (i < length xs) ⊎ (length xs ≤ i) → f (get_or xs i d) ≡ g (get_or (map h xs) i e)
    go (inl l) = each (get_or xs i d) ∙ ap g (sym (get_or-map h xs i d e l))
    go (inr m) = ap f (get_or_past xs i d m) ∙ past ∙ ap g (sym (get_or_past (map h xs) i e (omega (arith, length-map xs h))))

module _ (bs : List ℕ) (n : NetText) where
  pub tokens_said : tokens_at (vec_items n.places) ≡ free_of (net_of bs n)
  tokens_said = λ z i. by_records (place_of bs) (vec_items n.places) read.no_place no_place (λ (p : Place). p.tokens) (λ (p : said.Place). p.tokens) (λ p. refl) refl i z

  limits_said : limit_at (vec_items n.places) ≡ limit_of (net_of bs n)
  limits_said = λ z i. by_records (place_of bs) (vec_items n.places) read.no_place no_place (λ (p : Place). p.limit) (λ (p : said.Place). p.limit) (λ p. refl) refl i z

  letters_said : letter_at (vec_items n.moves) ≡ letter_of (net_of bs n)
  letters_said = λ z i. by_records (move_of bs) (vec_items n.moves) read.no_move no_move (λ (m : Move). m.controllable) (λ (m : said.Move). m.controllable) (λ m. refl) refl i z

  arcs_said : (f : Arc → ℕ) (g : said.Arc → ℕ) → ((a : Arc) → f a ≡ g (arc_of a))
      → (λ (p t : ℕ). fold (λ v (a : Arc). cond (eqb a.place p && eqb a.transition t) (f a) v) 0 (vec_items n.arcs)) ≡ arcs_say g (net_of bs n)
  arcs_said f g each = λ z p t. go p t 0 (vec_items n.arcs) z
    where
      go : (p t v : ℕ) (xs : List Arc) → fold (λ v (a : Arc). cond (eqb a.place p && eqb a.transition t) (f a) v) v xs ≡ fold (λ v (a : said.Arc). cond (eqb a.place p && eqb a.move t) (g a) v) v (map arc_of xs)
      go p t v [] = refl
      go p t v (a ∷ xs) =
          ap (λ (k : ℕ). fold (λ v (a : Arc). cond (eqb a.place p && eqb a.transition t) (f a) v) (cond (eqb a.place p && eqb a.transition t) k v) xs) (each a)
          ∙ go p t (cond (eqb a.place p && eqb a.transition t) (g (arc_of a)) v) xs

  places_said : length (vec_items n.places) ≡ length (net_of bs n).places
  places_said = sym (length-map (vec_items n.places) (place_of bs))

  moves_said : length (vec_items n.moves) ≡ length (net_of bs n).moves
  moves_said = sym (length-map (vec_items n.moves) (move_of bs))

  pub table_said : n.kind ≡ Net → tables.text_net n ≡ plant_net (net_of bs n)
  table_said e =
      (λ i. table_net ((n.places.ok.0 ∙ places_said) i) ((n.moves.ok.0 ∙ moves_said) i) (letters_said i) (arcs_said (λ (a : Arc). a.take) (λ (a : said.Arc). a.take) (λ a. refl) i) (arcs_said (λ (a : Arc). a.give) (λ (a : said.Arc). a.give) (λ a. refl) i) (limits_said i))
      ∙ sym (ap (λ k. net_by k (net_of bs n)) e)

  pub bank_said : n.kind ≡ Bank → bank_net (length (vec_items n.places)) (letter_at (vec_items n.moves)) ≡ plant_net (net_of bs n)
  bank_said e = (λ i. bank_net (places_said i) (letters_said i)) ∙ sym (ap (λ k. net_by k (net_of bs n)) e)

  pub line_said : n.kind ≡ Line → lines.text_net n ≡ plant_net (net_of bs n)
  line_said e = (λ i. line_net (places_said i) (limits_said i) (letters_said i)) ∙ sym (ap (λ k. net_by k (net_of bs n)) e)
