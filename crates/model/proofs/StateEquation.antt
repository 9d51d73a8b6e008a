-- The state equation: after every list the marking is the first marking and D times the moves fired.
use Rattle.std.proofs.Common.{inl, inr, lt-ltb, le-ltb, ◌≡◌, ℕ, ◌+◌, ◌<◌, Bool, true, false, cond, eqb, List, [], ◌∷◌, ℤ, pos, ◌+ℤ◌, ◌*ℤ◌, sym, ap, ◌∙◌, subst, arith}
use lib.IntN.{zero-*ℤ}
use Rattle.std.proofs.lemmas.Bool.{cases_lt}
use borrow.Author.Differences.{ints}
use Rattle.model.specs.Net.{Net, Ranges, signed_sum, incidence}
use Rattle.model.specs.Layer.{pile_net}
use Rattle.model.specs.Ledger.{Call, grant, commit, cancel, report, admit, new_ledger, answers}
use Rattle.model.specs.Book.{Book, new_book, noted, book_from, acceptances}
use Rattle.model.specs.Laws.{fires_once, fired, StateEquation}
use Rattle.model.proofs.Sums.{signed_sum_ext}
use Rattle.model.proofs.Setting.{signed_sum_none, no_incidence}
use Rattle.model.proofs.Rounds.{part, absorb_sum}
use Rattle.model.proofs.Running.{ready, ready_new}

module _ (n : Net) (R : Ranges n) where
  part_is : (p t : ℕ) → part n.moves 1 t (λ u. incidence n p u) ≡ incidence n p t
  part_is p t = elim (cases_lt t n.moves) [
    | inl l ↦ grind (arith, ints, lt-ltb t n.moves l)
    | inr l ↦ grind (arith, ints, le-ltb t n.moves l, no_incidence n R p t l)
  ]

  bump : (p t : ℕ) (f : ℕ → ℕ) → signed_sum n.moves (λ u. pos (cond (eqb u t) 1 0 + f u) *ℤ incidence n p u) ≡ incidence n p t +ℤ signed_sum n.moves (λ u. pos (f u) *ℤ incidence n p u)
  bump p t f = signed_sum_ext n.moves (λ u. pos (cond (eqb u t) 1 0 + f u) *ℤ incidence n p u) (λ u. (pos 1 *ℤ pos (f u) +ℤ cond (eqb u t) (pos 1) (pos 0)) *ℤ incidence n p u) (λ u l. ap (λ z. z *ℤ incidence n p u) (split (eqb u t) (f u)))
      ∙ omega (arith, ints, absorb_sum n.moves 1 1 t (λ u. pos (f u)) (λ u. incidence n p u), part_is p t)
    where
      split : (b : Bool) (x : ℕ) → pos (cond b 1 0 + x) ≡ pos 1 *ℤ pos x +ℤ cond b (pos 1) (pos 0)
      split b x = grind (arith, ints)

  module _ (first : ℕ) (p : ℕ) where
    abbrev moved : (ℕ → ℕ) → ℤ
    moved f = signed_sum n.moves (λ u. pos (f u) *ℤ incidence n p u)

    glue : (q d s t x : ℤ) → x ≡ (q +ℤ d) +ℤ s → t ≡ d +ℤ s → x ≡ q +ℤ t
    glue q d s t x e k = omega (arith, ints)

    zero_and : (f : ℕ → ℕ) → moved (λ u. 0 + f u) ≡ moved f
    zero_and f = signed_sum_ext n.moves (λ u. pos (0 + f u) *ℤ incidence n p u) (λ u. pos (f u) *ℤ incidence n p u) (λ u l. ap (λ x. pos x *ℤ incidence n p u) (omega arith))

    still : (q x : ℤ) (f : ℕ → ℕ) → x ≡ q +ℤ moved f → x ≡ q +ℤ moved (λ u. 0 + f u)
    still q x f e = e ∙ ap (λ z. q +ℤ z) (sym (zero_and f))

    module _ (cs : List Call) (xs : List Bool) (rec : (b : Book) → (book_from n first b cs xs).q p ≡ b.q p +ℤ moved (fired cs xs)) where
      one_call : (c : Call) (x : Bool) (b : Book) → (book_from n first (cond x (noted n first b c) b) cs xs).q p ≡ b.q p +ℤ moved (λ u. cond x (fires_once c u) 0 + fired cs xs u)
      one_call c false b = still (b.q p) ((book_from n first b cs xs).q p) (fired cs xs) (rec b)
      one_call (grant t) true b = still (b.q p) ((book_from n first (noted n first b (grant t)) cs xs).q p) (fired cs xs) (rec (noted n first b (grant t)))
      one_call (cancel t) true b = still (b.q p) ((book_from n first (noted n first b (cancel t)) cs xs).q p) (fired cs xs) (rec (noted n first b (cancel t)))
      one_call (admit r y) true b = still (b.q p) ((book_from n first (noted n first b (admit r y)) cs xs).q p) (fired cs xs) (rec (noted n first b (admit r y)))
      one_call (commit t) true b = glue (b.q p) (incidence n p t) (moved (fired cs xs)) (moved (λ u. cond (eqb u t) 1 0 + fired cs xs u)) ((book_from n first (noted n first b (commit t)) cs xs).q p) (rec (noted n first b (commit t))) (bump p t (fired cs xs))
      one_call (report t) true b = glue (b.q p) (incidence n p t) (moved (fired cs xs)) (moved (λ u. cond (eqb u t) 1 0 + fired cs xs u)) ((book_from n first (noted n first b (report t)) cs xs).q p) (rec (noted n first b (report t))) (bump p t (fired cs xs))

    nil : (q s : ℤ) → s ≡ pos 0 → q ≡ q +ℤ s
    nil q s e = omega (arith, ints)

    state_book : (cs : List Call) (xs : List Bool) (b : Book) → (book_from n first b cs xs).q p ≡ b.q p +ℤ moved (fired cs xs)
    state_book [] xs b = nil (b.q p) (signed_sum n.moves (λ u. pos 0 *ℤ incidence n p u)) (signed_sum_none n.moves (λ u. pos 0 *ℤ incidence n p u) (λ u l. zero-*ℤ (incidence n p u)))
    state_book (c ∷ cs) [] b = nil (b.q p) (signed_sum n.moves (λ u. pos 0 *ℤ incidence n p u)) (signed_sum_none n.moves (λ u. pos 0 *ℤ incidence n p u) (λ u l. zero-*ℤ (incidence n p u)))
    state_book (c ∷ cs) (x ∷ xs) b = one_call cs xs (λ b. state_book cs xs b) c x b

pub state_equation : StateEquation
state_equation p rs built cs i l =
    let r = ready p rs built cs in
    sym (r.steady.marked i (subst (λ (g : ℕ). i < g) (sym r.same.same_ground) l))
    ∙ state_book (pile_net p) (ready_new p rs built).steady.ranges p.below.places i cs (acceptances (answers (new_ledger p) cs)) (new_book p rs)
