-- The net that the records of a fitting text say is as read.
use Rattle.std.proofs.Common.{◌≡◌, ℕ, zero, suc, ◌<◌, ◌≤◌, Bool, true, cond, ◌&&◌, eqb, ltb, List, [], ◌∷◌, length, get_or, vec_items, vec_len, fold, sym, refl, ap, subst, ◌∙◌, ⊎_elim, arith}
use Rattle.std.proofs.lemmas.Bool.{cases_eq, cases_lt, cond-true, cond-false, eq-eqb, ne_eqb, lt-ltb, le-ltb, and_from, and_left, and_right}
use Rattle.net_text.specs.declared.net.Arc.{Arc}
use Rattle.net_text.specs.declared.net.NetText.{NetText}
use Rattle.net_text.specs.Nets.{letter_at}
use Rattle.table.specs.AsRead.{no_arc, arc_at, Between, Last, AsRead}
use Rattle.model.specs.Net.{Net}
use Rattle.table.specs.Made.{arc_amount, joins, is_fit, text_net, text_tokens}
use Rattle.table.proofs.Texts.{all_at, joined_parts}
use Rattle.table.proofs.Making.{Fits, fits_parts}

module _ (f : Arc → ℕ) (p t : ℕ) where
  abbrev step : ℕ → Arc → ℕ
  step v a = cond (eqb a.place p && eqb a.transition t) (f a) v

  step_here : (v : ℕ) (a : Arc) → Between p t a → step v a ≡ f a
  step_here v a h = cond-true _ _ _ (and_from _ _ (eq-eqb a.place p h.0) (eq-eqb a.transition t h.1))

  step_else : (v : ℕ) (a : Arc) → (Between p t a → ⊥) → step v a ≡ v
  step_else v a ne =
      ⊎_elim
      (λ e. cond-false _ _ _ (and_right _ _ (ne_eqb a.transition t (λ q. ne (e, q)))))
      (λ n. cond-false _ _ _ (and_left _ _ (ne_eqb a.place p n)))
      (cases_eq a.place p)

  -- none of the arcs is one between p and t
  unchanged : (v : ℕ) (xs : List Arc) → ((i : ℕ) → i < length xs → Between p t (get_or xs i no_arc) → ⊥) → fold step v xs ≡ v
  unchanged v [] ne = refl
  unchanged v (a ∷ xs) ne =
      ap (λ (w : ℕ). fold step w xs) (step_else v a (ne 0 (omega arith)))
      ∙ unchanged v xs (λ i l. ne (suc i) (omega arith))

  -- arc i is one, and none after it
  last_counts : (v : ℕ) (xs : List Arc) (i : ℕ) → i < length xs → Between p t (get_or xs i no_arc)
      → ((j : ℕ) → i < j → j < length xs → Between p t (get_or xs j no_arc) → ⊥) → fold step v xs ≡ f (get_or xs i no_arc)
  last_counts v [] i l h ne = absurd (omega arith)
  last_counts v (a ∷ xs) zero l h ne =
      unchanged (step v a) xs (λ j m. ne (suc j) (omega arith) (omega arith)) ∙ step_here v a h
  last_counts v (a ∷ xs) (suc i) l h ne =
      last_counts (step v a) xs i (omega arith) h (λ j m q. ne (suc j) (omega arith) (omega arith))

module _ (n k p t v : ℕ) where
  inside : p < n → t < k → cond (ltb p n && ltb t k) v 0 ≡ v
  inside l m = cond-true _ v 0 (and_from _ _ (lt-ltb p n l) (lt-ltb t k m))

  past_places : n ≤ p → cond (ltb p n && ltb t k) v 0 ≡ 0
  past_places h = cond-false _ v 0 (and_left _ _ (le-ltb p n h))

  past_moves : k ≤ t → cond (ltb p n && ltb t k) v 0 ≡ 0
  past_moves h = cond-false _ v 0 (and_right _ _ (le-ltb t k h))

  none_there : v ≡ 0 → cond (ltb p n && ltb t k) v 0 ≡ 0
  none_there e =
      ⊎_elim
      (λ l. ⊎_elim (λ m. inside l m ∙ e) past_moves (cases_lt t k))
      past_places
      (cases_lt p n)

module _ (x : NetText) (fits : Fits x) where
  abbrev n : ℕ
  n = vec_len x.places

  abbrev k : ℕ
  k = vec_len x.moves

  joined : (i : ℕ) → i < length (vec_items x.arcs) → ((arc_at x i).place < n) × ((arc_at x i).transition < k)
  joined i l =
      let j = joined_parts n k (arc_at x i) (all_at (joins n k) (vec_items x.arcs) i no_arc fits.joining_all l) in
      (j.0, j.1)

  amount : (f : Arc → ℕ) (i : ℕ) → i < length (vec_items x.arcs) → Last x i
      → cond (ltb (arc_at x i).place n && ltb (arc_at x i).transition k) (arc_amount f (vec_items x.arcs) (arc_at x i).place (arc_at x i).transition) 0 ≡ f (arc_at x i)
  amount f i l last =
      inside n k (arc_at x i).place (arc_at x i).transition _ (joined i l).0 (joined i l).1
      ∙ last_counts f (arc_at x i).place (arc_at x i).transition 0 (vec_items x.arcs) i l (refl, refl) last

  pub as_read : AsRead x (text_net x)
  as_read = record {
    places = x.places.ok.0;
    ground = refl;
    moves = x.moves.ok.0;
    limits = λ p l. cond-true _ _ _ (lt-ltb p n l);
    letters = λ t l. ap (λ (b : Bool). b && letter_at (vec_items x.moves) t) (lt-ltb t k l);
    arcs_join = joined;
    takes = amount (λ a. a.take);
    gives = amount (λ a. a.give);
    nothing_else = λ p t ne. (
      none_there n k p t _ (unchanged (λ a. a.take) p t 0 (vec_items x.arcs) ne),
      none_there n k p t _ (unchanged (λ a. a.give) p t 0 (vec_items x.arcs) ne),
    );
    no_place = λ p t h. (past_places n k p t _ h, past_places n k p t _ h);
    no_move = λ p t h. (past_moves n k p t _ h, past_moves n k p t _ h);
  }

-- what is owed of a table that is made, of its net m and its tokens g
pub as_made : (x : NetText) (m : Net) (g : ℕ → ℕ) → is_fit x ≡ true → m ≡ text_net x → g ≡ text_tokens x
    → (is_fit x ≡ true) × (m ≡ text_net x) × (g ≡ text_tokens x) × AsRead x m
as_made x m g fit e q = (fit, e, q, subst (AsRead x) (sym e) (as_read x (fits_parts x fit)))
