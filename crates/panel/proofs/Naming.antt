-- The orders by the names of a cell: all names of moves differ, and so do all names of places, rules among them.
use Rattle.std.proofs.Common.{◌≡◌, ℕ, ◌+◌, ◌-◌, ◌<◌, false, cond, List, [], ◌∷◌, ◌++◌, map, length, get_or, refl, codes, ap, ◌∙◌, subst, suc, arith}
use Rattle.std.specs.List.{AllByRecursion}
use Rattle.std.proofs.lemmas.List.{get_or-map, get_or_append_left, get_or-append_right, length-map, length-append}
use Rattle.std.proofs.ByRecursion.{All-append, All-weaker}
use Rattle.std.proofs.lemmas.Slice.Eq.{bytes_eq-Decides}
use Rattle.std.specs.Str.{bytes_eq}
use Rattle.std.proofs.lemmas.Bool.{cond-true, cond-false, false_from_ne_true}
use Rattle.model.specs.Ledger.{Call, grant, commit, cancel, report, admit}
use Rattle.formats.specs.Words.{index_of, is_known, Known, Apart, New, AllDifferent}
use Rattle.formats.specs.Texts.{Proper}
use Rattle.formats.specs.NetText.{NetText, Place, Move, names, place_names, move_names}
use Rattle.formats.specs.NetClauses.{net_meaning}
use Rattle.formats.specs.RulesText.{RulesText, RuleLine, RightLine, all_lines, rule_names, rules_meaning}
use Rattle.formats.proofs.Tests.{d_known, name_index}
use Rattle.formats.proofs.NetAdding.{all_split, apart_split}
use Rattle.panel.specs.Cells.{cell_of, typed_of, pile_names, no_place, no_move, no_rule}
use Rattle.panel.specs.Orders.{Order, order_of}
use Rattle.panel.specs.Orders.Order.{a_call, a_show, no_shape, no_name}
use Rattle.panel.specs.Naming.{NamesRead}

-- ---- names that differ, of two lists
apart_both : {A : Type 0} (R : A → A → Type 0) (xs ys : List A) → Apart R xs → Apart R ys → AllByRecursion (New R xs) ys → Apart R (xs ++ ys)
apart_both R [] ys h k n = k
apart_both R (x ∷ xs) ys h k n =
    (All-append (λ y. R x y → ⊥) xs ys h.0 (All-weaker (New R (x ∷ xs)) (λ y. R x y → ⊥) (λ y m. m.0) ys n), apart_both R xs ys h.1 k (All-weaker (New R (x ∷ xs)) (New R xs) (λ y m. m.1) ys n))

-- ---- what a name is found as
found_at : (call : ℕ → Order) (ns : List (List ℕ)) (i : ℕ) → AllDifferent ns → i < length ns → cond (is_known ns (get_or ns i [])) (call (index_of ns (get_or ns i []))) no_name ≡ call i
found_at call ns i differ l = cond-true _ _ _ ((d_known ns (get_or ns i [])).1 (i, l, refl)) ∙ ap call (name_index ns i differ l)

not_found : (call : ℕ → Order) (ns : List (List ℕ)) (n : List ℕ) → (Known ns n → ⊥) → cond (is_known ns n) (call (index_of ns n)) no_name ≡ no_name
not_found call ns n unknown = cond-false _ _ _ (false_from_ne_true (is_known ns n) (λ e. unknown ((d_known ns n).0 e)))

-- ---- of two proper texts
module _ (x : NetText) (y : RulesText) (p : Proper net_meaning x) (q : Proper (rules_meaning (names x) (place_names x)) y) where
  moves_differ : AllDifferent (move_names x)
  moves_differ = (apart_split (λ m n. m ≡ n) (place_names x) (move_names x) p.right.different).1

  places_differ : AllDifferent (place_names x)
  places_differ = (apart_split (λ m n. m ≡ n) (place_names x) (move_names x) p.right.different).0

  new_here : (rs : List RuleLine) → AllByRecursion (RightLine (names x) (place_names x)) rs → AllByRecursion (New (λ m n. m ≡ n) (place_names x)) (map (λ (r : RuleLine). r.name) rs)
  new_here [] h = tt
  new_here (r ∷ rs) h = ((all_split (λ m. m ≡ r.name → ⊥) (place_names x) (move_names x) h.0.1).0, new_here rs h.1)

  pile_differs : AllDifferent (pile_names (cell_of x y))
  pile_differs = apart_both (λ m n. m ≡ n) (place_names x) (rule_names y) places_differ q.right.different (new_here (all_lines y) q.right.each)

  many_moves : length (move_names x) ≡ length x.moves
  many_moves = length-map x.moves _

  many_places : length (place_names x) ≡ length x.places
  many_places = length-map x.places _

  many_rules : length (cell_of x y).rules ≡ length y.others
  many_rules = length-map y.others _

  named_move : (t : ℕ) → t < length x.moves → get_or (move_names x) t [] ≡ (get_or x.moves t no_move).name
  named_move t l = get_or-map (λ (m : Move). m.name) x.moves t no_move [] l

  named_rule : (r : ℕ) → r < length y.others → get_or (map (λ (q : RuleLine). q.name) y.others) r [] ≡ (get_or y.others r no_rule).name
  named_rule r l = get_or-map (λ (q : RuleLine). q.name) y.others r no_rule [] l

  named_place : (i : ℕ) → i < length x.places → get_or (place_names x) i [] ≡ (get_or x.places i no_place).name
  named_place i l = get_or-map (λ (q : Place). q.name) x.places i no_place [] l

  at_move : (call : ℕ → Call) (t : ℕ) → t < length x.moves
      → cond (is_known (move_names x) (get_or x.moves t no_move).name) (a_call (call (index_of (move_names x) (get_or x.moves t no_move).name))) no_name ≡ a_call (call t)
  at_move call t l =
      subst (λ n. cond (is_known (move_names x) n) (a_call (call (index_of (move_names x) n))) no_name ≡ a_call (call t)) (named_move t l)
      (found_at (λ i. a_call (call i)) (move_names x) t moves_differ (omega (arith, many_moves)))

  at_rule : (r : ℕ) → r < length y.others
      → cond (is_known (map (λ (q : RuleLine). q.name) y.others) (get_or y.others r no_rule).name) (a_call (admit (index_of (map (λ (q : RuleLine). q.name) y.others) (get_or y.others r no_rule).name) (typed_of (get_or y.others (index_of (map (λ (q : RuleLine). q.name) y.others) (get_or y.others r no_rule).name) no_rule)))) no_name
      ≡ a_call (admit r (typed_of (get_or y.others r no_rule)))
  at_rule r l =
      let f : ℕ → Order = λ i. a_call (admit i (typed_of (get_or y.others i no_rule))) in
      subst (λ n. cond (is_known (map (λ (q : RuleLine). q.name) y.others) n) (f (index_of (map (λ (q : RuleLine). q.name) y.others) n)) no_name ≡ f r) (named_rule r l)
      (found_at f (map (λ (q : RuleLine). q.name) y.others) r q.right.different.1 (omega (arith, many_rules)))

  at_place : (n : List ℕ) (i : ℕ) → get_or (pile_names (cell_of x y)) i [] ≡ n → i < length (pile_names (cell_of x y))
      → cond (is_known (pile_names (cell_of x y)) n) (a_show (index_of (pile_names (cell_of x y)) n)) no_name ≡ a_show i
  at_place n i e l = subst (λ m. cond (is_known (pile_names (cell_of x y)) m) (a_show (index_of (pile_names (cell_of x y)) m)) no_name ≡ a_show i) e (found_at a_show (pile_names (cell_of x y)) i pile_differs l)

  many : length (pile_names (cell_of x y)) ≡ length x.places + 1 + length y.others
  many = omega (arith, length-append (place_names x) (rule_names y), many_places, length-map y.others (λ (r : RuleLine). r.name))

  no_further : length x.places - length x.places ≡ 0
  no_further = omega arith

  further : (r : ℕ) → length x.places + 1 + r - length x.places ≡ suc r
  further r = omega arith

  shapes : (fs : List (List ℕ)) → (length fs ≡ 2 → ⊥) → order_of (cell_of x y) fs ≡ no_shape
  shapes [] h = refl
  shapes (w ∷ []) h = refl
  shapes (w ∷ n ∷ []) h = absurd (h refl)
  shapes (w ∷ n ∷ m ∷ fs) h = refl

  other_word : (w n : List ℕ) → (w ≡ codes "grant" → ⊥) → (w ≡ codes "commit" → ⊥) → (w ≡ codes "cancel" → ⊥) → (w ≡ codes "report" → ⊥) → (w ≡ codes "admit" → ⊥) → (w ≡ codes "show" → ⊥) → order_of (cell_of x y) (w ∷ n ∷ []) ≡ no_shape
  other_word w n a b d e f g =
      cond-false _ _ _ (other w (codes "grant") a) ∙ cond-false _ _ _ (other w (codes "commit") b) ∙ cond-false _ _ _ (other w (codes "cancel") d)
      ∙ cond-false _ _ _ (other w (codes "report") e) ∙ cond-false _ _ _ (other w (codes "admit") f) ∙ cond-false _ _ _ (other w (codes "show") g)
    where
      other : (u v : List ℕ) → (u ≡ v → ⊥) → bytes_eq u v ≡ false
      other u v h = false_from_ne_true (bytes_eq u v) (λ t. h ((bytes_eq-Decides u v).0 t))

  pub names_read : NamesRead x y
  names_read = record {
    grants = at_move grant;
    commits = at_move commit;
    cancels = at_move cancel;
    reports = at_move report;
    admits = at_rule;
    shows_place = λ i l. at_place _ i (get_or_append_left (place_names x) (rule_names y) [] i (omega (arith, many_places)) ∙ named_place i l) (omega (arith, many));
    shows_fixed = at_place _ (length x.places) (get_or-append_right (place_names x) (rule_names y) (length x.places) (length x.places) [] many_places (omega arith) ∙ ap (λ (i : ℕ). get_or (rule_names y) i []) no_further) (omega (arith, many));
    shows_rule = λ r l. at_place _ (length x.places + 1 + r) (get_or-append_right (place_names x) (rule_names y) (length x.places) (length x.places + 1 + r) [] many_places (omega arith) ∙ ap (λ (i : ℕ). get_or (rule_names y) i []) (further r) ∙ named_rule r l) (omega (arith, many));
    unknown_move = λ n u. (not_found (λ i. a_call (grant i)) (move_names x) n u, not_found (λ i. a_call (commit i)) (move_names x) n u, not_found (λ i. a_call (cancel i)) (move_names x) n u, not_found (λ i. a_call (report i)) (move_names x) n u);
    unknown_rule = not_found (λ i. a_call (admit i (typed_of (get_or y.others i no_rule)))) (cell_of x y).rules;
    unknown_place = not_found a_show (pile_names (cell_of x y));
    unknown_word = other_word;
    other_shape = shapes;
  }
