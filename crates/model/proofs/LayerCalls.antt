-- A layer's calls: as below if refused below, else by its own rows; and the numbers of new rows.
use Rattle.std.proofs.Common.{◌≡◌, ℕ, zero, suc, ◌+◌, ◌-◌, ◌<◌, ◌≤◌, Bool, true, false, cond, ltb, Some, Ok, Err, sym, refl, ap, ◌∙◌, subst, ap₂, arith}
use mathlib.Core.Path.{fun_ext}
use Rattle.std.proofs.lemmas.Bool.{cond_both, cases_eq}
use Rattle.model.specs.declared.refusal.Refusal.{Refusal}
use Rattle.model.specs.declared.refusal.Refusal.TheVariants.{Short, OverLimit}
use Rattle.model.specs.declared.fault.Fault.{Fault}
use Rattle.model.specs.Sizes.{control_limit}
use Rattle.model.specs.Net.{Net}
use Rattle.model.specs.Plant.{Answer, accepted, lowest, fault_at, refuse_at, ◌else_by◌, known, begin_answer, begun, finish_answer, finished, back_answer, gone_back}
use Rattle.model.specs.Layer.{Row, blank, is_shut, own_place, next_layer, masked_take, masked_give, layer_net, layer_free, row_fault, rows_begin, rows_finish, rows_back, rows_begun, rows_finished, rows_gone_back}
use Rattle.model.specs.Laws.{LayerBegins, LayerMoves, LayerRanges, FreshRow, NewRows, AboveAll}
use Rattle.model.proofs.Checks.{else_ok}
use Rattle.model.proofs.Layering.{own_row, not_own, open_net, open_free, net_opens, net_shuts, free_opens, free_shuts, layer_ranges}

-- ---- the answers of two searches
-- the same test at places that are shifted by a, with the same faults
shifted : (f : ℕ → Bool) (h : ℕ → Bool) (x y : ℕ → Fault) (a i j k : ℕ) → a + i ≡ j → ((r : ℕ) → i ≤ r → r < i + k → f (a + r) ≡ h r) → ((r : ℕ) → i ≤ r → r < i + k → x (a + r) ≡ y r) →
    refuse_at x (lowest f j k) ≡ refuse_at y (lowest h i k)
shifted f h x y a i j zero e s t = refl
shifted f h x y a i j (suc k) e s t = ap (λ b. refuse_at x (cond b (Some j) (lowest f (suc j) k))) (subst (λ (p : ℕ). f p ≡ h i) e (s i (omega arith) (omega arith)))
    ∙ go (shifted f h x y a (suc i) (suc j) k (omega arith) (λ r l m. s r (omega arith) (omega arith)) (λ r l m. t r (omega arith) (omega arith))) (h i)
  where
    go : refuse_at x (lowest f (suc j) k) ≡ refuse_at y (lowest h (suc i) k) → (b : Bool) → refuse_at x (cond b (Some j) (lowest f (suc j) k)) ≡ refuse_at y (cond b (Some i) (lowest h (suc i) k))
    go r true = ap Err (subst (λ (p : ℕ). x p ≡ y i) e (t i (omega arith) (omega arith)))
    go r false = r

-- first these places, then those
split : (f : ℕ → Bool) (i j a b : ℕ) (g : ℕ → Fault) → i + a ≡ j → refuse_at g (lowest f i (a + b)) ≡ (refuse_at g (lowest f i a) else_by refuse_at g (lowest f j b))
split f i j zero b g e = let q : i ≡ j = omega arith in let z : 0 + b ≡ b = omega arith in ap (λ y. refuse_at g (lowest f i y)) z ∙ ap (λ x. refuse_at g (lowest f x b)) q
split f i j (suc a) b g e = let z : suc a + b ≡ suc (a + b) = omega arith in ap (λ x. refuse_at g (lowest f i x)) z ∙ go (split f (suc i) j a b g (omega arith)) (f i)
  where
    go : refuse_at g (lowest f (suc i) (a + b)) ≡ (refuse_at g (lowest f (suc i) a) else_by refuse_at g (lowest f j b)) → (z : Bool) → refuse_at g (cond z (Some i) (lowest f (suc i) (a + b))) ≡ (refuse_at g (cond z (Some i) (lowest f (suc i) a)) else_by refuse_at g (lowest f j b))
    go h true = refl
    go h false = h

regroup : (k a b : Answer) → (k else_by (a else_by b)) ≡ ((k else_by a) else_by b)
regroup (Ok u) a b = refl
regroup (Err f) a b = refl

-- ---- at a place of a layer that is not shut
module _ (size : ℕ) (n : Net) where
  -- a number that is its own at a row's place, and the one below elsewhere
  below_is : (x y : ℕ → ℕ) (p : ℕ) → p < n.places → cond (own_place size n p) (x (p - n.places)) (y p) ≡ y p
  below_is x y p l = ap (λ b. cond b (x (p - n.places)) (y p)) (not_own n.places size p l)

  own_is : (x y : ℕ → ℕ) (r : ℕ) → r < size → cond (own_place size n (n.places + r)) (x ((n.places + r) - n.places)) (y (n.places + r)) ≡ x r
  own_is x y r l = ap (λ b. cond b (x ((n.places + r) - n.places)) (y (n.places + r))) (own_row n.places size r l) ∙ ap x (omega arith)

  module _ (rows : ℕ → Row) (why : Refusal) (t : ℕ) where
    fault_below : (p : ℕ) → p < n.places → fault_at (open_net size n rows) why t p ≡ fault_at n why t p
    fault_below p l = ap₂ (λ a b. record { refusal = why; transition = Some t; spot = Some (record { place = p; layer = a; row = b }) })
        (below_is (λ r. next_layer n.places n.layer) n.layer p l) (below_is (λ r. r) n.row p l)

    fault_own : (r : ℕ) → r < size → fault_at (open_net size n rows) why t (n.places + r) ≡ row_fault n why t r
    fault_own r l = ap₂ (λ a b. record { refusal = why; transition = Some t; spot = Some (record { place = n.places + r; layer = a; row = b }) })
        (own_is (λ r. next_layer n.places n.layer) n.layer r l) (own_is (λ r. r) n.row r l)

    -- a call that looks for the lowest place that passes a test
    call_is : (f g h : ℕ → Bool) → ((p : ℕ) → p < n.places → f p ≡ g p) → ((r : ℕ) → r < size → f (n.places + r) ≡ h r) →
        (known n t else_by refuse_at (fault_at (open_net size n rows) why t) (lowest f 0 (n.places + size)))
        ≡ ((known n t else_by refuse_at (fault_at n why t) (lowest g 0 n.places)) else_by refuse_at (row_fault n why t) (lowest h 0 size))
    call_is f g h below own = ap (λ a. known n t else_by a)
        (split f 0 n.places n.places size (fault_at (open_net size n rows) why t) (omega arith)
        ∙ ap₂ (λ a b. a else_by b)
        (shifted f g (fault_at (open_net size n rows) why t) (fault_at n why t) 0 0 0 n.places refl (λ r l m. ap f (omega arith) ∙ below r (omega arith)) (λ r l m. ap (fault_at (open_net size n rows) why t) (omega arith) ∙ fault_below r (omega arith)))
        (shifted f h (fault_at (open_net size n rows) why t) (row_fault n why t) n.places 0 n.places size (omega arith) (λ r l m. own r (omega arith)) (λ r l m. fault_own r (omega arith))))
        ∙ regroup (known n t) (refuse_at (fault_at n why t) (lowest g 0 n.places)) (refuse_at (row_fault n why t) (lowest h 0 size))

module _ (size : ℕ) (n : Net) (free : ℕ → ℕ) (rows : ℕ → Row) (t : ℕ) where
  abbrev m : Net
  m = open_net size n rows

  abbrev f : ℕ → ℕ
  f = open_free size n free rows

  begins : begin_answer m f t ≡ (begin_answer n free t else_by rows_begin size n rows t)
  begins = call_is size n rows Short t (λ p. ltb (f p) (m.take p t)) (λ p. ltb (free p) (n.take p t)) (λ r. ltb (rows r).free (masked_take n (rows r) t))
      (λ p l. ap₂ ltb (below_is size n (λ r. (rows r).free) free p l) (below_is size n (λ r. masked_take n (rows r) t) (λ p. n.take p t) p l))
      (λ r l. ap₂ ltb (own_is size n (λ r. (rows r).free) free r l) (own_is size n (λ r. masked_take n (rows r) t) (λ p. n.take p t) r l))

  finishes : finish_answer m f t ≡ (finish_answer n free t else_by rows_finish size n rows t)
  finishes = call_is size n rows OverLimit t (λ p. ltb (m.limit p) (f p + m.give p t)) (λ p. ltb (n.limit p) (free p + n.give p t)) (λ r. ltb control_limit ((rows r).free + masked_give n (rows r) t))
      (λ p l. ap₂ ltb (below_is size n (λ r. control_limit) n.limit p l) (ap₂ (λ a b. a + b) (below_is size n (λ r. (rows r).free) free p l) (below_is size n (λ r. masked_give n (rows r) t) (λ p. n.give p t) p l)))
      (λ r l. ap₂ ltb (own_is size n (λ r. control_limit) n.limit r l) (ap₂ (λ a b. a + b) (own_is size n (λ r. (rows r).free) free r l) (own_is size n (λ r. masked_give n (rows r) t) (λ p. n.give p t) r l)))

  backs : back_answer m f t ≡ (back_answer n free t else_by rows_back size n rows t)
  backs = call_is size n rows OverLimit t (λ p. ltb (m.limit p) (f p + m.take p t)) (λ p. ltb (n.limit p) (free p + n.take p t)) (λ r. ltb control_limit ((rows r).free + masked_take n (rows r) t))
      (λ p l. ap₂ ltb (below_is size n (λ r. control_limit) n.limit p l) (ap₂ (λ a b. a + b) (below_is size n (λ r. (rows r).free) free p l) (below_is size n (λ r. masked_take n (rows r) t) (λ p. n.take p t) p l)))
      (λ r l. ap₂ ltb (own_is size n (λ r. control_limit) n.limit r l) (ap₂ (λ a b. a + b) (own_is size n (λ r. (rows r).free) free r l) (own_is size n (λ r. masked_take n (rows r) t) (λ p. n.take p t) r l)))

  -- what is said of a layer's net and tokens is said of those of a layer that is not shut
  opened_by : (F : Net → (ℕ → ℕ) → Answer) → is_shut size n ≡ false → F (layer_net size n rows) (layer_free size n free rows) ≡ F m f
  opened_by F e = ap₂ F (net_opens size n rows e) (free_opens size n rows free e)

  closed_by : (F : Net → (ℕ → ℕ) → Answer) → is_shut size n ≡ true → F (layer_net size n rows) (layer_free size n free rows) ≡ F n free
  closed_by F e = ap₂ F (net_shuts size n rows e) (free_shuts size n rows free e)

pub layer_begins : LayerBegins
layer_begins size n free rows t = (
  record { if_open = λ e. opened_by size n free rows t (λ m f. begin_answer m f t) e ∙ begins size n free rows t; if_shut = closed_by size n free rows t (λ m f. begin_answer m f t) },
  record { if_open = λ e. opened_by size n free rows t (λ m f. finish_answer m f t) e ∙ finishes size n free rows t; if_shut = closed_by size n free rows t (λ m f. finish_answer m f t) },
  record { if_open = λ e. opened_by size n free rows t (λ m f. back_answer m f t) e ∙ backs size n free rows t; if_shut = closed_by size n free rows t (λ m f. back_answer m f t) },
)

-- ---- the tokens after an accepted call
module _ (size : ℕ) (n : Net) (free : ℕ → ℕ) (rows : ℕ → Row) where
  -- a change of tokens by the arcs, in a layer that is not shut
  spread : (op : ℕ → ℕ → ℕ) (x y : ℕ → ℕ) (i : ℕ) (b : Bool) →
      op (cond b (rows (i - n.places)).free (free i)) (cond b (x (i - n.places)) (y i)) ≡ cond b (op (rows (i - n.places)).free (x (i - n.places))) (op (free i) (y i))
  spread op x y i true = refl
  spread op x y i false = refl

  moves_by : (answer : Net → (ℕ → ℕ) → Answer) (after : Net → (ℕ → ℕ) → ℕ → ℕ) (new : ℕ → Row) →
      ((e : is_shut size n ≡ false) → answer (open_net size n rows) (open_free size n free rows) ≡ Ok tt → (i : ℕ) → after (open_net size n rows) (open_free size n free rows) i ≡ open_free size n (after n free) new i) →
      answer (layer_net size n rows) (layer_free size n free rows) ≡ Ok tt → after (layer_net size n rows) (layer_free size n free rows) ≡ layer_free size n (after n free) new
  moves_by answer after new h ok = go (is_shut size n) refl
    where
      go : (b : Bool) → is_shut size n ≡ b → after (layer_net size n rows) (layer_free size n free rows) ≡ layer_free size n (after n free) new
      go true e = ap₂ after (net_shuts size n rows e) (free_shuts size n rows free e) ∙ sym (free_shuts size n new (after n free) e)
      go false e = ap₂ after (net_opens size n rows e) (free_opens size n rows free e)
          ∙ fun_ext (λ i. h e (sym (ap₂ answer (net_opens size n rows e) (free_opens size n rows free e)) ∙ ok) i)
          ∙ sym (free_opens size n new (after n free) e)

pub layer_moves : LayerMoves
layer_moves size n free rows t = (
  moves_by size n free rows (λ m f. begin_answer m f t) (λ m f. begun m f t) (rows_begun n rows t)
      (λ e ok i. ap (λ a. cond (accepted a) (f i - m.take i t) (f i)) ok ∙ spread size n free rows (λ a b. a - b) (λ r. masked_take n (rows r) t) (λ p. n.take p t) i (own_place size n i)
      ∙ ap (λ a. cond (own_place size n i) (rows_begun n rows t (i - n.places)).free (cond (accepted a) (free i - n.take i t) (free i))) (sym (else_ok (begin_answer n free t) (rows_begin size n rows t) (sym (begins size n free rows t) ∙ ok)).0)),
  moves_by size n free rows (λ m f. finish_answer m f t) (λ m f. finished m f t) (rows_finished n rows t)
      (λ e ok i. ap (λ a. cond (accepted a) (f i + m.give i t) (f i)) ok ∙ spread size n free rows (λ a b. a + b) (λ r. masked_give n (rows r) t) (λ p. n.give p t) i (own_place size n i)
      ∙ ap (λ a. cond (own_place size n i) (rows_finished n rows t (i - n.places)).free (cond (accepted a) (free i + n.give i t) (free i))) (sym (else_ok (finish_answer n free t) (rows_finish size n rows t) (sym (finishes size n free rows t) ∙ ok)).0)),
  moves_by size n free rows (λ m f. back_answer m f t) (λ m f. gone_back m f t) (rows_gone_back n rows t)
      (λ e ok i. ap (λ a. cond (accepted a) (f i + m.take i t) (f i)) ok ∙ spread size n free rows (λ a b. a + b) (λ r. masked_take n (rows r) t) (λ p. n.take p t) i (own_place size n i)
      ∙ ap (λ a. cond (own_place size n i) (rows_gone_back n rows t (i - n.places)).free (cond (accepted a) (free i + n.take i t) (free i))) (sym (else_ok (back_answer n free t) (rows_back size n rows t) (sym (backs size n free rows t) ∙ ok)).0)),
)
  where
    m : Net
    m = open_net size n rows

    f : ℕ → ℕ
    f = open_free size n free rows

pub layer_keeps : LayerRanges
layer_keeps size n rows R small = layer_ranges size n rows R small

-- ---- new rows
pub new_rows : NewRows
new_rows size n free k e l = subst (λ (m : Net). FreshRow n m (layer_free size n free (λ r. blank)) k) (sym (net_opens size n (λ r. blank) e))
    (subst (λ (f : ℕ → ℕ). FreshRow n (open_net size n (λ r. blank)) f k) (sym (free_opens size n (λ r. blank) free e))
    (record {
      row_is = own_is size n (λ r. r) n.row k l;
      layer_is = own_is size n (λ r. next_layer n.places n.layer) n.layer k l;
      limit_is = own_is size n (λ r. control_limit) n.limit k l;
      no_arcs = λ t. (own_is size n (λ r. masked_take n blank t) (λ p. n.take p t) k l ∙ cond_both (n.controllable t) 0 0 (λ x. x ≡ 0) (λ e. refl) (λ e. refl), own_is size n (λ r. masked_give n blank t) (λ p. n.give p t) k l ∙ cond_both (ltb t n.moves) 0 0 (λ x. x ≡ 0) (λ e. refl) (λ e. refl));
      no_free = own_is size n (λ r. 0) free k l;
    }))

over_each : (k : ℕ) (layer : ℕ → ℕ) (i : ℕ) → i < k → layer i < next_layer k layer
over_each zero layer i l = absurd (omega arith)
over_each (suc k) layer i l = grind (arith, over_each k layer i, cases_eq i k)

at_most : (k : ℕ) (layer : ℕ → ℕ) (m : ℕ) → 1 ≤ m → ((i : ℕ) → i < k → layer i < m) → next_layer k layer ≤ m
at_most zero layer m l h = l
at_most (suc k) layer m l h = omega (arith, at_most k layer m l (λ i a. h i (omega arith)), h k (omega arith))

pub above_all : AboveAll
above_all k layer = (over_each k layer, at_most k layer)
