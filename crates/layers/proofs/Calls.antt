-- A layer's calls: the lowest place that is in the way is one below, else that of the layer's lowest such row, whose arcs are masked.
use Rattle.std.proofs.Common.{◌≡◌, ℕ, zero, suc, ◌+◌, ◌-◌, ◌<◌, ◌≤◌, Bool, true, false, cond, not, ◌&&◌, ltb, Some, None, Ok, Option, sym, refl, ap, ap₂, ◌∙◌, subst, arith}
use Rattle.std.specs.Option.{option_or, option_map}
use Rattle.std.proofs.lemmas.Bool.{cond_both, le-ltb, ltb-false}
use Rattle.std.proofs.lemmas.Option.{none-some}
use Rattle.model.specs.declared.refusal.Refusal.{Refusal}
use Rattle.model.specs.declared.refusal.Refusal.TheVariants.{Short, OverLimit}
use Rattle.model.specs.Net.{Net}
use Rattle.model.specs.Plant.{lowest, fault_at, refuse_at, ◌else_by◌, known, short_place, over_place, begin_answer, finish_answer, back_answer}
use Rattle.model.specs.Layer.{Row, is_shut, own_place, masked_take, masked_give, layer_net, layer_free}
use Rattle.model.specs.Sizes.{control_limit}
use Rattle.model.proofs.Checks.{else_ok, lowest_all_fail, lowest_ext, lowest_none, refuse_at_ok}
use Rattle.model.proofs.Layering.{own_row, not_own, open_net, open_free, net_opens, net_shuts, free_opens, free_shuts}
use Rattle.plant.proofs.Answering.{known_in, passed}
use Rattle.layers.specs.Kept.{Kept}

-- ---- one search in two parts
split : (f : ℕ → Bool) (i j a b : ℕ) → i + a ≡ j → lowest f i (a + b) ≡ option_or (lowest f i a) (lowest f j b)
split f i j zero b e = let q : i ≡ j = omega arith in let z : 0 + b ≡ b = omega arith in ap (lowest f i) z ∙ ap (λ (x : ℕ). lowest f x b) q
split f i j (suc a) b e = let z : suc a + b ≡ suc (a + b) = omega arith in ap (lowest f i) z ∙ go (split f (suc i) j a b (omega arith)) (f i)
  where
    go : lowest f (suc i) (a + b) ≡ option_or (lowest f (suc i) a) (lowest f j b) → (z : Bool) → cond z (Some i) (lowest f (suc i) (a + b)) ≡ option_or (cond z (Some i) (lowest f (suc i) a)) (lowest f j b)
    go h true = refl
    go h false = h

shifted : (f h : ℕ → Bool) (a i j k : ℕ) → a + i ≡ j → ((r : ℕ) → i ≤ r → r < i + k → f (a + r) ≡ h r) → lowest f j k ≡ option_map (λ (r : ℕ). a + r) (lowest h i k)
shifted f h a i j zero e s = refl
shifted f h a i j (suc k) e s =
    ap (λ (b : Bool). cond b (Some j) (lowest f (suc j) k)) (subst (λ (p : ℕ). f p ≡ h i) e (s i (omega arith) (omega arith)))
    ∙ go (shifted f h a (suc i) (suc j) k (omega arith) (λ r l m. s r (omega arith) (omega arith))) (h i)
  where
    go : lowest f (suc j) k ≡ option_map (λ (r : ℕ). a + r) (lowest h (suc i) k) → (b : Bool) → cond b (Some j) (lowest f (suc j) k) ≡ option_map (λ (r : ℕ). a + r) (cond b (Some i) (lowest h (suc i) k))
    go q true = ap Some (sym e)
    go q false = q

or_none : (o : Option ℕ) → option_or o None ≡ o
or_none (Some p) = refl
or_none None = refl

none_or : (o q : Option ℕ) → option_or o q ≡ None → (o ≡ None) × (q ≡ None)
none_or (Some p) q e = absurd (none-some p (sym e))
none_or None q e = (refl, e)

unmapped : (f : ℕ → ℕ) (o : Option ℕ) → option_map f o ≡ None → o ≡ None
unmapped f (Some p) e = absurd (none-some (f p) (sym e))
unmapped f None e = refl

module _ (size : ℕ) (n : Net) (free : ℕ → ℕ) (rows : ℕ → Row) (t : ℕ) where
  abbrev whole : (Net → (ℕ → ℕ) → ℕ → Bool) → Option ℕ
  whole test = lowest (test (layer_net size n rows) (layer_free size n free rows)) 0 (layer_net size n rows).places

  -- the place of the lowest row that passes, if the rows count
  abbrev rows_place : Bool → (ℕ → Bool) → Option ℕ
  rows_place c own = cond c (option_map (λ (r : ℕ). n.places + r) (lowest own 0 size)) None

  -- a test of the places, and that of the rows, whose arcs count where c says so
  module _ (test : Net → (ℕ → ℕ) → ℕ → Bool) (own : Bool → ℕ → Bool) (c : Bool)
      (below : (p : ℕ) → p < n.places → test (open_net size n rows) (open_free size n free rows) p ≡ test n free p)
      (here : (r : ℕ) → r < size → test (open_net size n rows) (open_free size n free rows) (n.places + r) ≡ own c r)
      (masked : (r : ℕ) → r < size → own false r ≡ false) where
    in_rows : (b : Bool) → option_map (λ (r : ℕ). n.places + r) (lowest (own b) 0 size) ≡ rows_place b (own true)
    in_rows true = refl
    in_rows false = ap (option_map (λ (r : ℕ). n.places + r)) (lowest_all_fail (own false) size masked)

    finds : whole test ≡ option_or (lowest (test n free) 0 n.places) (rows_place (not (is_shut size n) && c) (own true))
    finds = go (is_shut size n) refl
      where
        go : (b : Bool) → is_shut size n ≡ b → whole test ≡ option_or (lowest (test n free) 0 n.places) (rows_place (not b && c) (own true))
        go true e = ap₂ (λ (m : Net) (f : ℕ → ℕ). lowest (test m f) 0 m.places) (net_shuts size n rows e) (free_shuts size n rows free e) ∙ sym (or_none (lowest (test n free) 0 n.places))
        go false e = ap₂ (λ (m : Net) (f : ℕ → ℕ). lowest (test m f) 0 m.places) (net_opens size n rows e) (free_opens size n rows free e)
            ∙ split (test (open_net size n rows) (open_free size n free rows)) 0 n.places n.places size (omega arith)
            ∙ ap₂ option_or (lowest_ext (test (open_net size n rows) (open_free size n free rows)) (test n free) 0 n.places (λ p l m. below p (omega arith)))
            (shifted (test (open_net size n rows) (open_free size n free rows)) (own c) n.places 0 n.places size (omega arith) (λ r l m. here r (omega arith)) ∙ in_rows c)

  -- a number that is its own at a row's place, and the one below elsewhere
  at_place : (x y : ℕ → ℕ) (p : ℕ) → p < n.places → cond (own_place size n p) (x (p - n.places)) (y p) ≡ y p
  at_place x y p l = ap (λ (b : Bool). cond b (x (p - n.places)) (y p)) (not_own n.places size p l)

  at_row : (x y : ℕ → ℕ) (r : ℕ) → r < size → cond (own_place size n (n.places + r)) (x ((n.places + r) - n.places)) (y (n.places + r)) ≡ x r
  at_row x y r l = ap (λ (b : Bool). cond b (x ((n.places + r) - n.places)) (y (n.places + r))) (own_row n.places size r l) ∙ ap x (omega arith)

  pub short_is : short_place (layer_net size n rows) (layer_free size n free rows) t
      ≡ option_or (short_place n free t) (rows_place (not (is_shut size n) && n.controllable t) (λ r. ltb (rows r).free ((rows r).take t)))
  short_is = finds (λ m f p. ltb (f p) (m.take p t)) (λ b r. ltb (rows r).free (cond b ((rows r).take t) 0)) (n.controllable t)
      (λ p l. ap₂ ltb (at_place (λ r. (rows r).free) free p l) (at_place (λ r. masked_take n (rows r) t) (λ p. n.take p t) p l))
      (λ r l. ap₂ ltb (at_row (λ r. (rows r).free) free r l) (at_row (λ r. masked_take n (rows r) t) (λ p. n.take p t) r l))
      (λ r l. le-ltb (rows r).free 0 (omega arith))

  module _ (kept : (r : ℕ) → Kept (rows r)) where
    over_is : (arcs : Net → ℕ → ℕ) (own : ℕ → ℕ) (c : Bool)
        → ((p : ℕ) → p < n.places → arcs (open_net size n rows) p ≡ arcs n p) → ((r : ℕ) → r < size → arcs (open_net size n rows) (n.places + r) ≡ cond c (own r) 0)
        → over_place (layer_net size n rows) (layer_free size n free rows) (arcs (layer_net size n rows))
        ≡ option_or (over_place n free (arcs n)) (rows_place (not (is_shut size n) && c) (λ r. ltb control_limit ((rows r).free + own r)))
    over_is arcs own c below here = finds (λ m f p. ltb (m.limit p) (f p + arcs m p)) (λ b r. ltb control_limit ((rows r).free + cond b (own r) 0)) c
        (λ p l. ap₂ ltb (at_place (λ r. control_limit) n.limit p l) (ap₂ (λ (a b : ℕ). a + b) (at_place (λ r. (rows r).free) free p l) (below p l)))
        (λ r l. ap₂ ltb (at_row (λ r. control_limit) n.limit r l) (ap₂ (λ (a b : ℕ). a + b) (at_row (λ r. (rows r).free) free r l) (here r l)))
        (λ r l. le-ltb control_limit ((rows r).free + 0) (omega (arith, (kept r).low)))

    pub over_give_is : over_place (layer_net size n rows) (layer_free size n free rows) (λ p. (layer_net size n rows).give p t)
        ≡ option_or (over_place n free (λ p. n.give p t)) (rows_place (not (is_shut size n) && ltb t n.moves) (λ r. ltb control_limit ((rows r).free + (rows r).give t)))
    over_give_is = over_is (λ m p. m.give p t) (λ r. (rows r).give t) (ltb t n.moves) (at_place (λ r. masked_give n (rows r) t) (λ p. n.give p t)) (at_row (λ r. masked_give n (rows r) t) (λ p. n.give p t))

    pub over_take_is : over_place (layer_net size n rows) (layer_free size n free rows) (λ p. (layer_net size n rows).take p t)
        ≡ option_or (over_place n free (λ p. n.take p t)) (rows_place (not (is_shut size n) && n.controllable t) (λ r. ltb control_limit ((rows r).free + (rows r).take t)))
    over_take_is = over_is (λ m p. m.take p t) (λ r. (rows r).take t) (n.controllable t) (at_place (λ r. masked_take n (rows r) t) (λ p. n.take p t)) (at_row (λ r. masked_take n (rows r) t) (λ p. n.take p t))

  -- ---- a call that is accepted is so below, and none of its rows is in the way: o is the place that was sought in the whole, p the one below
  accepted : (why : Refusal) (own : ℕ → Bool) (c : Bool) (o p : Option ℕ) → o ≡ option_or p (rows_place c own)
      → Ok tt ≡ (known (layer_net size n rows) t else_by refuse_at (fault_at (layer_net size n rows) why t) o)
      → (Ok tt ≡ (known n t else_by refuse_at (fault_at n why t) p)) × (true ≡ c → (r : ℕ) → r < size → own r ≡ false)
  accepted why own c o p is ok =
      let both = else_ok (known (layer_net size n rows) t) (refuse_at (fault_at (layer_net size n rows) why t) o) (sym ok) in
      let none = none_or p (rows_place c own) (sym is ∙ refuse_at_ok (fault_at (layer_net size n rows) why t) o both.1) in (
        passed n why t p (cond_both (is_shut size n) n (open_net size n rows) (λ (m : Net). t < m.moves → t < n.moves) (λ e l. l) (λ e l. l) (known_in (layer_net size n rows) t (sym both.0))) none.0,
        λ e. lowest_none own size (unmapped (λ (r : ℕ). n.places + r) (lowest own 0 size) (ap (λ (b : Bool). rows_place b own) e ∙ none.1)),
      )

  abbrev takes : Bool
  takes = not (is_shut size n) && n.controllable t

  abbrev gives : Bool
  gives = not (is_shut size n) && ltb t n.moves

  pub begins : Ok tt ≡ begin_answer (layer_net size n rows) (layer_free size n free rows) t
      → (Ok tt ≡ begin_answer n free t) × (true ≡ takes → (r : ℕ) → r < size → (rows r).take t ≤ (rows r).free)
  begins ok =
      let a = accepted Short (λ r. ltb (rows r).free ((rows r).take t)) takes _ (short_place n free t) short_is ok in
      (a.0, λ e r l. ltb-false (rows r).free ((rows r).take t) (a.1 e r l))

  module _ (kept : (r : ℕ) → Kept (rows r)) where
    pub finishes : Ok tt ≡ finish_answer (layer_net size n rows) (layer_free size n free rows) t
        → (Ok tt ≡ finish_answer n free t) × (true ≡ gives → (r : ℕ) → r < size → (rows r).free + (rows r).give t ≤ control_limit)
    finishes ok =
        let a = accepted OverLimit (λ r. ltb control_limit ((rows r).free + (rows r).give t)) gives _ (over_place n free (λ p. n.give p t)) (over_give_is kept) ok in
        (a.0, λ e r l. ltb-false control_limit ((rows r).free + (rows r).give t) (a.1 e r l))

    pub goes_back : Ok tt ≡ back_answer (layer_net size n rows) (layer_free size n free rows) t
        → (Ok tt ≡ back_answer n free t) × (true ≡ takes → (r : ℕ) → r < size → (rows r).free + (rows r).take t ≤ control_limit)
    goes_back ok =
        let a = accepted OverLimit (λ r. ltb control_limit ((rows r).free + (rows r).take t)) takes _ (over_place n free (λ p. n.take p t)) (over_take_is kept) ok in
        (a.0, λ e r l. ltb-false control_limit ((rows r).free + (rows r).take t) (a.1 e r l))
