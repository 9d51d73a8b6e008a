-- The loop over the rounds: what is left to do gives what working the typed rule gives.
use Rattle.std.proofs.Common.{◌≡◌, ℕ, zero, suc, ◌+◌, ◌-◌, ◌<◌, ◌≤◌, Bool, true, false, not, cond, Some, None, Ok, Err, Option, Result, sym, refl, ap, ◌∙◌, subst, arith}
use Rattle.std.proofs.lemmas.Bool.{cond-true, cond-false}
use Rattle.std.specs.Option.{ok_or, is_some}
use Rattle.model.specs.declared.refusal.Refusal.TheVariants.{NotTyped, NotAbsorbed, TooLarge, TooManyRounds}
use Rattle.model.specs.declared.fault.Fault.{Fault}
use Rattle.model.specs.Sizes.{most_rounds}
use Rattle.model.specs.Net.{Net}
use Rattle.model.specs.Plant.{lowest, setting_fault}
use Rattle.model.specs.Rule.{Rule, Worked}
use Rattle.model.specs.Working.{rising, falls, changed, fits, at_place, at_move, at_end, rounds_from, is_typed, unchanged, work}
use Rattle.model.specs.Rounds.{WorkSays}
use Rattle.model.proofs.Rounds.{working_says}
use Rattle.model.proofs.Standing.{work_derives, work_quiets, worked_implies, work_on_ground}
use Rattle.rules.specs.declared.search.Rising.{Rising}
use Rattle.rules.specs.Rules.{Works}
use Rattle.rules.specs.Rounding.{after_round, before_rounds, OnGround, RoundAt}
use Rattle.rules.specs.Searching.{rising_at, round_search}
use Rattle.rules.proofs.Changing.{changed_on_ground}

-- ---- what the answer of the model promises
pub works : (n : Net) (typed : Rule) (r : Result Worked Fault) → r ≡ work n typed → Works n typed r
works n typed r e = record {
  answer = e;
  says = subst (λ (x : Result Worked Fault). WorkSays n typed x) (sym e) (working_says n typed);
  better = λ w k. record {
    derived = work_derives n typed w (sym e ∙ k);
    quiet = work_quiets n typed w (sym e ∙ k);
    implies = worked_implies n typed w (sym e ∙ k);
  };
  on_ground = λ m s. work_on_ground n m s typed ∙ sym e;
}

-- ---- what a search found
search_none : (n : Net) (m : Option ℕ) → None ≡ rising_at n m → m ≡ None
search_none n None e = refl
search_none n (Some t) e = let z : ◌≡◌ {A = ℕ} 0 1 = cc in absurd (omega arith)

search_some : (n : Net) (m : Option ℕ) (r : Rising) → Some r ≡ rising_at n m → (m ≡ Some r.transition) × (lowest (falls n r.transition) 0 n.ground_places ≡ r.absorber)
search_some n None r e = let z : ◌≡◌ {A = ℕ} 0 1 = cc in absurd (omega arith)
search_some n (Some t) r e =
    let k : r ≡ record { transition = t; absorber = lowest (falls n t) 0 n.ground_places } = cc in
    (ap Some (sym (ap (λ x. x.transition) k)), ap (λ x. lowest (falls n x.transition) 0 n.ground_places) k ∙ sym (ap (λ x. x.absorber) k))

-- ---- what an `Option` holds
pub some_place : (m : Option ℕ) (f : Fault) (p : ℕ) → Ok p ≡ ok_or m f → m ≡ Some p
some_place None f p e = let z : ◌≡◌ {A = ℕ} 0 1 = cc in absurd (omega arith)
some_place (Some q) f p e = let k : q ≡ p = cc in ap Some k

pub no_place : (m : Option ℕ) (f h : Fault) → Err h ≡ ok_or m f → (m ≡ None) × (h ≡ f)
no_place None f h e = (refl, cc)
no_place (Some q) f h e = let z : ◌≡◌ {A = ℕ} 0 1 = cc in absurd (omega arith)

pub none_left : (o : Option Rising) (b : Bool) → is_some o ≡ not b → b ≡ true → o ≡ None
none_left None b e k = refl
none_left (Some r) b e k = let h : true ≡ false = e ∙ ap not k in let z : ◌≡◌ {A = ℕ} 0 1 = cc in absurd (omega arith)

pub one_left : (o : Option Rising) (b : Bool) → is_some o ≡ not b → b ≡ false → (r : Rising) × (o ≡ Some r)
one_left None b e k = let h : false ≡ true = e ∙ ap not k in let z : ◌≡◌ {A = ℕ} 0 1 = cc in absurd (omega arith)
one_left (Some r) b e k = (r, refl)

-- ---- the turns
-- after i rounds the rule is w
pub record Progress (n : Net) (typed : Rule) (w : Worked) (i : ℕ) : Type 0 where
  pub counted : w.rounds ≡ i
  pub on_ground : OnGround n (Ok w)
  pub so_far : rounds_from (most_rounds - i) n w ≡ work n typed

pub progress_first : (n : Net) (typed : Rule) (w : Worked) → Ok w ≡ before_rounds n typed → OnGround n (Ok w) → Progress n typed w 0
progress_first n typed w e on = go (is_typed n typed) refl e
  where
    go : (b : Bool) → is_typed n typed ≡ b → Ok w ≡ cond b (Ok (unchanged typed)) (Err (setting_fault NotTyped)) → Progress n typed w 0
    go true k h = let s : w ≡ unchanged typed = cc in
        record { counted = ap (λ x. x.rounds) s; on_ground = on; so_far = ap (rounds_from most_rounds n) s ∙ sym (cond-true _ _ _ k) }
    go false k h = let z : ◌≡◌ {A = ℕ} 0 1 = cc in absurd (omega arith)

pub refused_first : (n : Net) (typed : Rule) (f : Fault) → Err f ≡ before_rounds n typed → Err f ≡ work n typed
refused_first n typed f e = go (is_typed n typed) refl e
  where
    go : (b : Bool) → is_typed n typed ≡ b → Err f ≡ cond b (Ok (unchanged typed)) (Err (setting_fault NotTyped)) → Err f ≡ work n typed
    go true k h = let z : ◌≡◌ {A = ℕ} 0 1 = cc in absurd (omega arith)
    go false k h = h ∙ sym (cond-false _ _ _ k)

round_now : (k : ℕ) (n : Net) (w : Worked) → rounds_from (suc k) n w ≡ at_move (rounds_from k n) n w (lowest (rising n w) 0 n.moves)
unfolding rounds_from
round_now k n w = refl

no_round : (n : Net) (w : Worked) → rounds_from 0 n w ≡ at_end w (lowest (rising n w) 0 n.moves)
unfolding rounds_from
no_round n w = refl

module _ (n : Net) (typed : Rule) (w : Worked) (i : ℕ) (now : Progress n typed w i) where
  -- no move raises it: it is worked
  pub worked_now : None ≡ round_search n w → Ok w ≡ work n typed
  worked_now e = go (most_rounds - i) (search_none n (lowest (rising n w) 0 n.moves) e) ∙ now.so_far
    where
      go : (k : ℕ) → lowest (rising n w) 0 n.moves ≡ None → Ok w ≡ rounds_from k n w
      go zero m = sym (no_round n w ∙ ap (at_end w) m)
      go (suc k) m = sym (round_now k n w ∙ ap (at_move (rounds_from k n) n w) m)

  -- all rounds are used up
  pub endless_now : most_rounds ≤ i → (r : Rising) (f : Fault) → Some r ≡ round_search n w → f ≡ setting_fault TooManyRounds → Err f ≡ work n typed
  endless_now l r f e why =
      ap Err why
      ∙ sym (no_round n w ∙ ap (at_end w) (search_some n (lowest (rising n w) 0 n.moves) r e).0)
      ∙ ap (λ k. rounds_from k n w) (none i l) ∙ now.so_far
    where
      none : (j : ℕ) → most_rounds ≤ j → 0 ≡ most_rounds - j
      none j l = omega arith

  -- a round: one is left
  module _ (left : i < most_rounds) (r : Rising) (found : Some r ≡ round_search n w) where
    more : (j : ℕ) → j < most_rounds → most_rounds - j ≡ suc (most_rounds - (j + 1))
    more j l = omega arith

    turn : at_place (rounds_from (most_rounds - (i + 1)) n) n w r.transition r.absorber ≡ work n typed
    turn =
        let s = search_some n (lowest (rising n w) 0 n.moves) r found in
        sym (round_now (most_rounds - (i + 1)) n w
        ∙ ap (at_move (rounds_from (most_rounds - (i + 1)) n) n w) s.0
        ∙ ap (at_place (rounds_from (most_rounds - (i + 1)) n) n w r.transition) s.1)
        ∙ ap (λ k. rounds_from k n w) (sym (more i left)) ∙ now.so_far

    pub stuck_now : (f : Fault) → r.absorber ≡ None → f ≡ setting_fault NotAbsorbed → Err f ≡ work n typed
    stuck_now f e why = ap Err why ∙ sym (ap (at_place (rounds_from (most_rounds - (i + 1)) n) n w r.transition) e) ∙ turn

    module _ (p : ℕ) (place : r.absorber ≡ Some p) where
      pub round_due : RoundAt n w r.transition p
      round_due =
          let s = search_some n (lowest (rising n w) 0 n.moves) r found in
          record { move_is = s.0; place_is = s.1 ∙ place; on_ground = now.on_ground; rounds_left = subst (λ (k : ℕ). k < most_rounds) (sym now.counted) left }

      turn_at : at_place (rounds_from (most_rounds - (i + 1)) n) n w r.transition (Some p) ≡ work n typed
      turn_at = ap (at_place (rounds_from (most_rounds - (i + 1)) n) n w r.transition) (sym place) ∙ turn

      pub large_now : (f : Fault) → Err f ≡ after_round n w r.transition p → Err f ≡ work n typed
      large_now f e = go (fits n (changed n w r.transition p)) refl e
        where
          go : (b : Bool) → fits n (changed n w r.transition p) ≡ b → Err f ≡ cond b (Ok (changed n w r.transition p)) (Err (setting_fault TooLarge)) → Err f ≡ work n typed
          go true k h = let z : ◌≡◌ {A = ℕ} 0 1 = cc in absurd (omega arith)
          go false k h = h ∙ sym (cond-false _ _ _ k) ∙ turn_at

      pub round_on : (s : Worked) → Ok s ≡ after_round n w r.transition p → Progress n typed s (i + 1)
      round_on s e = go (fits n (changed n w r.transition p)) refl e
        where
          one : (a b : ℕ) → a ≡ b → suc a ≡ b + 1
          one a b e = omega arith

          go : (b : Bool) → fits n (changed n w r.transition p) ≡ b → Ok s ≡ cond b (Ok (changed n w r.transition p)) (Err (setting_fault TooLarge)) → Progress n typed s (i + 1)
          go true k h =
              let is : s ≡ changed n w r.transition p = cc in
              record {
                counted = ap (λ x. x.rounds) is ∙ one w.rounds i now.counted;
                on_ground = λ q l. ap (λ x. x.weight q) is ∙ changed_on_ground round_due q l;
                so_far = ap (rounds_from (most_rounds - (i + 1)) n) is ∙ sym (cond-true _ _ _ k) ∙ turn_at;
              }
          go false k h = let z : ◌≡◌ {A = ℕ} 0 1 = cc in absurd (omega arith)
