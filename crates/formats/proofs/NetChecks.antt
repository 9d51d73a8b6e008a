-- The reader's checks and the clauses say the same, row by row.
use Rattle.std.proofs.Common.{◌≡◌, ℕ, ◌+◌, ◌^◌, ◌≤◌, not, ◌&&◌, ◌||◌, eqb, ◌⊎◌, List, length, Some, None, codes, Decides, Option, refl, ap, inl, inr, arith}
use Rattle.std.specs.Str.{bytes_eq}
use Rattle.std.proofs.lemmas.Slice.Eq.{bytes_eq-Decides}
use Rattle.std.proofs.lemmas.Bool.{false≢true}
use Rattle.std.proofs.lemmas.Bool.Decides.{Decides-and, Decides-eqb, Decides-like, Decides-ltb, Decides-not, Decides-or}
use Rattle.formats.specs.declared.kind.Kind.{Kind}
use Rattle.formats.specs.declared.kind.Kind.TheVariants.{Net, Bank, Line}
use Rattle.formats.specs.Words.{none, value, index_of}
use Rattle.formats.specs.NetText.{Place, Move, Arc, NetText, place_names, move_names, names, kind_word, Shaped, Complete}
use Rattle.formats.specs.NetClauses.{Shape, NewPair, place_clauses, move_clauses, arc_clauses, clauses}
use Rattle.formats.specs.NetClauses.Shape.{a_plant, a_place, a_move, an_arc, no_record}
use Rattle.formats.specs.ReadNet.{checks, place_checks, move_checks, arc_checks, is_kind, is_net, is_new_pair, is_shaped, is_whole}
use Rattle.formats.proofs.Ordered.{Agree}
use Rattle.formats.proofs.Tests.{d_leb, d_all, refused, d_name, d_new, d_known, d_numeral, d_none}

-- ---- the tests of the tables
kind_from : (f : List ℕ) → (f ≡ codes "net") ⊎ ((f ≡ codes "bank") ⊎ (f ≡ codes "line")) → (k : Kind) × (f ≡ kind_word k)
kind_from f (inl e) = (Net, e)
kind_from f (inr (inl e)) = (Bank, e)
kind_from f (inr (inr e)) = (Line, e)

kind_to : (f : List ℕ) (k : Kind) → f ≡ kind_word k → (f ≡ codes "net") ⊎ ((f ≡ codes "bank") ⊎ (f ≡ codes "line"))
kind_to f Net e = inl e
kind_to f Bank e = inr (inl e)
kind_to f Line e = inr (inr e)

d_kind : (f : List ℕ) → Decides (is_kind f) ((k : Kind) × (f ≡ kind_word k))
d_kind f =
    Decides-like (is_kind f) (kind_from f) (λ h. kind_to f h.0 h.1)
    (Decides-or (bytes_eq f (codes "net")) (bytes_eq f (codes "bank") || bytes_eq f (codes "line")) (bytes_eq-Decides f (codes "net"))
    (Decides-or (bytes_eq f (codes "bank")) (bytes_eq f (codes "line")) (bytes_eq-Decides f (codes "bank")) (bytes_eq-Decides f (codes "line"))))

abbrev kind_number : Kind → ℕ
kind_number Net = 0
kind_number Bank = 1
kind_number Line = 2

d_net : (k : Kind) → Decides (is_net k) (k ≡ Net)
d_net Net = (λ e. refl, λ e. refl)
d_net Bank = (λ e. absurd (false≢true e), λ e. absurd (omega (arith, ap kind_number e)))
d_net Line = (λ e. absurd (false≢true e), λ e. absurd (omega (arith, ap kind_number e)))

d_pair : (xs : List Arc) (p m : ℕ) → Decides (is_new_pair xs p m) (NewPair xs p m)
d_pair xs p m =
    d_all (λ (a : Arc). not (eqb a.place p && eqb a.move m)) (λ (a : Arc). (a.place ≡ p) × (a.move ≡ m) → ⊥)
    (λ (a : Arc). Decides-not (eqb a.place p && eqb a.move m) (Decides-and (eqb a.place p) (eqb a.move m) (Decides-eqb a.place p) (Decides-eqb a.move m))) xs

three : 10 ^ 3 ≤ 2 ^ 64
three = omega arith

-- ---- the tables
place_agree : (x : NetText) (at : ℕ) (n t l : List ℕ) → Agree (place_checks x at n t l) (place_clauses x at n t l)
place_agree x at n t l = (
  Decides-and (none x.moves) (none x.arcs) (d_none x.moves) (d_none x.arcs),
  refl,
  refl,
  (
    Decides-ltb (length x.places) 32,
    refl,
    refl,
    (
      d_name n,
      refl,
      refl,
      (
        d_new (names x) n,
        refl,
        refl,
        (
          d_numeral 3 t (omega arith) three,
          refl,
          refl,
          (
            d_numeral 3 l (omega arith) three,
            refl,
            refl,
            (
              d_leb 1 (value l),
              refl,
              refl,
              (d_leb (value t) (value l), refl, refl, tt),
            ),
          ),
        ),
      ),
    ),
  ),
)

move_agree : (x : NetText) (at : ℕ) (n k : List ℕ) → Agree (move_checks x at n k) (move_clauses x at n k)
move_agree x at n k = (
  d_none x.arcs,
  refl,
  refl,
  (
    Decides-ltb (length x.moves) 32,
    refl,
    refl,
    (
      d_name n,
      refl,
      refl,
      (
        d_new (names x) n,
        refl,
        refl,
        (Decides-or (bytes_eq k (codes "c")) (bytes_eq k (codes "u")) (bytes_eq-Decides k (codes "c")) (bytes_eq-Decides k (codes "u")), refl, refl, tt),
      ),
    ),
  ),
)

arc_agree : (x : NetText) (at : ℕ) (p m t g : List ℕ) → Agree (arc_checks x at p m t g) (arc_clauses x at p m t g)
arc_agree x at p m t g =
    let i = index_of (place_names x) p in
    let j = index_of (move_names x) m in (
      d_name p,
      refl,
      refl,
      (
        d_known (place_names x) p,
        refl,
        refl,
        (
          d_name m,
          refl,
          refl,
          (
            d_known (move_names x) m,
            refl,
            refl,
            (
              d_numeral 1 t (omega arith) (omega arith),
              refl,
              refl,
              (
                d_numeral 1 g (omega arith) (omega arith),
                refl,
                refl,
                (
                  d_leb 1 (value t + value g),
                  refl,
                  refl,
                  (
                    d_pair x.arcs i j,
                    refl,
                    refl,
                    (d_net x.kind, refl, refl, tt),
                  ),
                ),
              ),
            ),
          ),
        ),
      ),
    )

pub agree : (s : Option NetText) (at : ℕ) (l : Shape) → Agree (checks s at l) (clauses s at l)
agree None at (a_plant k) = (d_kind k, refl, refl, tt)
agree None at (a_place n t l) = (refused, refl, refl, tt)
agree None at (a_move n k) = (refused, refl, refl, tt)
agree None at (an_arc p m t g) = (refused, refl, refl, tt)
agree None at no_record = (refused, refl, refl, tt)
agree (Some x) at (a_plant k) = (refused, refl, refl, tt)
agree (Some x) at (a_place n t l) = place_agree x at n t l
agree (Some x) at (a_move n k) = move_agree x at n k
agree (Some x) at (an_arc p m t g) = arc_agree x at p m t g
agree (Some x) at no_record = (refused, refl, refl, tt)

-- ---- the end
d_shaped : (k : Kind) (ps : List Place) (ms : List Move) → Decides (is_shaped k ps ms) (Shaped k ps ms)
d_shaped Net ps ms = (λ e. tt, λ h. refl)
d_shaped Bank ps ms =
    Decides-like (is_shaped Bank ps ms) (λ h. (h.0, h.1.0, h.1.1)) (λ h. (h.0, (h.1, h.2)))
    (Decides-and _ _ (Decides-eqb _ 0) (Decides-and _ _ (Decides-eqb (length ms) (length ps)) (d_all (λ (p : Place). eqb p.limit 1) (λ (p : Place). p.limit ≡ 1) (λ (p : Place). Decides-eqb p.limit 1) ps)))
d_shaped Line ps ms = Decides-eqb (length ms) (length ps + 1)

pub d_whole : (x : NetText) → Decides (is_whole x) (Complete x)
d_whole x =
    Decides-like (is_whole x) (λ h. (h.0, h.1.0, h.1.1)) (λ h. (h.0, (h.1, h.2)))
    (Decides-and _ _ (d_leb 1 (length x.places)) (Decides-and _ _ (d_leb 1 (length x.moves)) (d_shaped x.kind x.places x.moves)))
