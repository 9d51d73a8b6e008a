-- The laws of texts of lines, from the laws of their lines.
use Rattle.std.proofs.Common.{◌≡◌, ℕ, ◌+◌, ◌≤◌, Bool, true, false, cond, ◌&&◌, eqb, ltb, leb, ◌⊎◌, List, [], ◌∷◌, ◌++◌, map, length, Some, None, Ok, Err, Decides, Option, Result, sym, refl, ap, ◌∙◌, subst, ap₂, inl, inr, append_assoc, append-nil, arith, length-append}
use Rattle.std.specs.List.{AllByRecursion}
use Rattle.std.proofs.lemmas.List.{map_push, length_push}
use Rattle.std.proofs.ByRecursion.{All-push}
use Rattle.std.proofs.lemmas.Bool.{cond-true, cond-false, false_from_ne_true}
use Rattle.std.proofs.lemmas.Option.{none-some}
use Rattle.std.proofs.lemmas.Bool.Decides.{Decides-and, Decides-eqb, Decides-like, Decides-ltb, not_from_Decides}
use Rattle.model.specs.declared.refusal.Refusal.{Refusal}
use Rattle.model.specs.declared.refusal.Refusal.TheVariants.{Form, Byte, NotOfKind}
use Rattle.formats.specs.declared.fault.TextFault.{TextFault}
use Rattle.formats.specs.Words.{Allowed, is_allowed, joined, unlines, fields, lines, last}
use Rattle.formats.specs.Texts.{Check, fault, first_failed, Keeps, Breaks, Reader, ended, unless, read_lines, is_text, bad_byte, unless_byte, read_text, Meaning, written, Proper, so_far, lines_so_far, RightSoFar, IsText, newlines, Refused, Exact, Refusals, EachText}
use Rattle.formats.specs.Texts.Refused.{no_text, no_byte, no_line, no_end}
use Rattle.formats.proofs.Tests.{d_leb, d_allowed}
use Rattle.formats.proofs.Pieces.{joined_fields, fields_joined, unlines_append, lines_unlines, unlines_lines, lines_clean, lines_line, last_unlines}
use Rattle.formats.proofs.Bytes.{Clean, not_tab, unlines_allowed, rows_no_ten}
use Rattle.formats.proofs.Ordered.{Agree, keeps, passes, breaks, fails}

-- ---- the whole text's checks
pub d_text : (bs : List ℕ) → Decides (is_text bs) (IsText bs)
d_text bs =
    Decides-like (is_text bs) (λ h. (h.0, h.1.0, h.1.1)) (λ h. (h.0, (h.1, h.2)))
    (Decides-and (ltb 0 (length bs)) (leb (length bs) 16384 && eqb (last bs) 10) (Decides-ltb 0 (length bs)) (Decides-and (leb (length bs) 16384) (eqb (last bs) 10) (d_leb (length bs) 16384) (Decides-eqb (last bs) 10)))

pub bytes_fine : (k i : ℕ) (bs : List ℕ) → bad_byte k i bs ≡ None → AllByRecursion Allowed bs
bytes_fine k i [] e = tt
bytes_fine k i (b ∷ bs) e = go (is_allowed b) refl e (λ q. bytes_fine (cond (eqb b 10) (k + 1) k) (i + 1) bs q)
  where
    go : (t : Bool) → is_allowed b ≡ t → cond t (bad_byte (cond (eqb b 10) (k + 1) k) (i + 1) bs) (Some (fault Byte k i)) ≡ None
        → (bad_byte (cond (eqb b 10) (k + 1) k) (i + 1) bs ≡ None → AllByRecursion Allowed bs) → AllByRecursion Allowed (b ∷ bs)
    go true p q r = ((d_allowed b).0 p, r q)
    go false p q r = absurd (none-some (fault Byte k i) (sym q))

pub fine_bytes : (k i : ℕ) (bs : List ℕ) → AllByRecursion Allowed bs → bad_byte k i bs ≡ None
fine_bytes k i [] h = refl
fine_bytes k i (b ∷ bs) h = cond-true _ (bad_byte (cond (eqb b 10) (k + 1) k) (i + 1) bs) (Some (fault Byte k i)) ((d_allowed b).1 h.0) ∙ fine_bytes (cond (eqb b 10) (k + 1) k) (i + 1) bs h.1

-- the first byte that is not allowed, and where it stands
pub record FirstBad (k i : ℕ) (bs : List ℕ) (f : TextFault) : Type 0 where
  pub front : List ℕ
  pub bad : ℕ
  pub back : List ℕ
  pub splits : bs ≡ front ++ (bad ∷ back)
  pub good : AllByRecursion Allowed front
  pub wrong : Allowed bad → ⊥
  pub told : f ≡ fault Byte (k + newlines front) (i + length front)

line_on : (b k n : ℕ) → cond (eqb b 10) (k + 1) k + n ≡ k + (cond (eqb b 10) 1 0 + n)
line_on b k n = grind arith

pub bytes_bad : (k i : ℕ) (bs : List ℕ) (f : TextFault) → bad_byte k i bs ≡ Some f → FirstBad k i bs f
bytes_bad k i [] f e = absurd (none-some f e)
bytes_bad k i (b ∷ bs) f e = go (is_allowed b) refl e (λ q. bytes_bad (cond (eqb b 10) (k + 1) k) (i + 1) bs f q)
  where
    go : (t : Bool) → is_allowed b ≡ t → cond t (bad_byte (cond (eqb b 10) (k + 1) k) (i + 1) bs) (Some (fault Byte k i)) ≡ Some f
        → (bad_byte (cond (eqb b 10) (k + 1) k) (i + 1) bs ≡ Some f → FirstBad (cond (eqb b 10) (k + 1) k) (i + 1) bs f) → FirstBad k i (b ∷ bs) f
    go true p q r =
        let w = r q in
        record {
          front = b ∷ w.front;
          bad = w.bad;
          back = w.back;
          splits = ap (λ (z : List ℕ). b ∷ z) w.splits;
          good = ((d_allowed b).0 p, w.good);
          wrong = w.wrong;
          told = w.told ∙ ap₂ (λ (u v : ℕ). fault Byte u v) (line_on b k (newlines w.front)) (omega arith);
        }
    go false p q r =
        let same : fault Byte k i ≡ f = cc in
        record {
          front = [];
          bad = b;
          back = bs;
          splits = refl;
          good = tt;
          wrong = not_from_Decides (is_allowed b) (d_allowed b) p;
          told = sym same ∙ ap₂ (λ (u v : ℕ). fault Byte u v) (omega arith) (omega arith);
        }

pub bad_bytes : (k i : ℕ) (front : List ℕ) (b : ℕ) (back : List ℕ) → AllByRecursion Allowed front → (Allowed b → ⊥) → bad_byte k i (front ++ (b ∷ back)) ≡ Some (fault Byte (k + newlines front) (i + length front))
bad_bytes k i [] b back h n =
    cond-false _ (bad_byte (cond (eqb b 10) (k + 1) k) (i + 1) back) (Some (fault Byte k i)) (false_from_ne_true (is_allowed b) (λ e. n ((d_allowed b).0 e)))
    ∙ ap₂ (λ (u v : ℕ). Some (fault Byte u v)) (omega arith) (omega arith)
bad_bytes k i (c ∷ front) b back h n =
    cond-true _ (bad_byte (cond (eqb c 10) (k + 1) k) (i + 1) (front ++ (b ∷ back))) (Some (fault Byte k i)) ((d_allowed c).1 h.0)
    ∙ bad_bytes (cond (eqb c 10) (k + 1) k) (i + 1) front b back h.1 n
    ∙ ap₂ (λ (u v : ℕ). Some (fault Byte u v)) (line_on c k (newlines front)) (omega arith)

-- ---- the laws of the lines
abbrev pub rows_so_far : {X : Type 0} → Meaning X → Option X → List (List (List ℕ))
rows_so_far M None = []
rows_so_far M (Some x) = M.rows x

-- reading the lines of x leads to x, whatever follows
pub record Traced {X : Type 0} (R : Reader X) (M : Meaning X) (x : X) : Type 0 where
  pub trace : (ls : List (List ℕ)) → read_lines R None 1 0 (map joined (M.rows x) ++ ls) ≡ read_lines R (Some x) (length (M.rows x) + 1) (length (written M x)) ls
  pub clean : AllByRecursion Clean (M.rows x)

pub record Lawful {X : Type 0} (R : Reader X) (M : Meaning X) : Type 0 where
  -- the checks are those of the clauses
  pub agree : (s : Option X) (at : ℕ) (fs : List (List ℕ)) → Agree (R.checks s at fs) (M.clauses s at fs)
  pub d_whole : (x : X) → Decides (R.is_whole x) (M.Complete x)
  -- a line that keeps the clauses goes on the value
  pub advance : (s : Option X) (at : ℕ) (fs : List (List ℕ)) → RightSoFar M s → Keeps (M.clauses s at fs) → M.Right (R.after s fs) × (M.rows (R.after s fs) ≡ rows_so_far M s ++ (fs ∷ []))
  -- what is written for a right value is read as it
  pub traced : (x : X) → M.Right x → Traced R M x
  pub some_row : (x : X) → (row : List (List ℕ)) × (rs : List (List (List ℕ))) × (M.rows x ≡ row ∷ rs)

written_push : (rs : List (List (List ℕ))) (row : List (List ℕ)) → unlines (map joined (rs ++ (row ∷ []))) ≡ unlines (map joined rs) ++ (joined row ++ (10 ∷ []))
written_push rs row = ap unlines (map_push joined rs row) ∙ unlines_append (map joined rs) (joined row ∷ [])

written_rows : {X : Type 0} (M : Meaning X) (x : X) → written M x ≡ unlines (map joined (M.rows x))
unfolding written
written_rows M x = refl

written_length : {X : Type 0} (M : Meaning X) (x y : X) (row : List (List ℕ)) → M.rows y ≡ M.rows x ++ (row ∷ []) → length (written M y) ≡ length (written M x) + length (joined row) + 1
unfolding written
written_length M x y row e =
    ap (λ (z : List (List (List ℕ))). length (unlines (map joined z))) e ∙ ap length (written_push (M.rows x) row)
    ∙ length-append (unlines (map joined (M.rows x))) (joined row ++ (10 ∷ []))
    ∙ omega (arith, length-append (joined row) (10 ∷ []))

-- ---- one more row
module _ {X : Type 0} (R : Reader X) (M : Meaning X) (agree : (s : Option X) (at : ℕ) (fs : List (List ℕ)) → Agree (R.checks s at fs) (M.clauses s at fs)) where
  step_over : (s : Option X) (k at : ℕ) (row ls : List (List ℕ)) (line : List ℕ) (y : X) → fields line ≡ row → Keeps (M.clauses s at row) → R.after s row ≡ y
      → read_lines R s k at (line ∷ ls) ≡ read_lines R (Some y) (k + 1) (at + length line + 1) ls
  step_over s k at row ls line y e h a =
      ap (λ (f : List (List ℕ)). unless (first_failed (R.checks s at f)) k (read_lines R (Some (R.after s f)) (k + 1) (at + length line + 1) ls)) e
      ∙ ap (λ (o : Option Check). unless o k (read_lines R (Some (R.after s row)) (k + 1) (at + length line + 1) ls)) (passes (R.checks s at row) (M.clauses s at row) (agree s at row) h)
      ∙ ap (λ (z : X). read_lines R (Some z) (k + 1) (at + length line + 1) ls) a

  pub begin : (y : X) (f : List ℕ) (fs : List (List ℕ)) → M.rows y ≡ (f ∷ fs) ∷ [] → Clean (f ∷ fs) → Keeps (M.clauses None 0 (f ∷ fs)) → R.after None (f ∷ fs) ≡ y → Traced R M y
  begin y f fs e c h a = record {
    trace = λ ls.
        ap (λ (z : List (List (List ℕ))). read_lines R None 1 0 (map joined z ++ ls)) e
        ∙ step_over None 1 0 (f ∷ fs) ls (joined (f ∷ fs)) y (fields_joined f fs (not_tab (f ∷ fs) c)) h a
        ∙ ap₂ (λ (i j : ℕ). read_lines R (Some y) i j ls) (omega (arith, ap length e))
        (omega (arith, ap length (written_rows M y ∙ ap (λ (z : List (List (List ℕ))). unlines (map joined z)) e), length-append (joined (f ∷ fs)) (10 ∷ [])));
    clean = subst (AllByRecursion Clean) (sym e) (c, tt);
  }

  pub extend : (x y : X) (f : List ℕ) (fs : List (List ℕ)) → M.rows y ≡ M.rows x ++ ((f ∷ fs) ∷ []) → Clean (f ∷ fs) → Keeps (M.clauses (Some x) (length (written M x)) (f ∷ fs)) → R.after (Some x) (f ∷ fs) ≡ y → Traced R M x → Traced R M y
  extend x y f fs e c h a t = record {
    trace = λ ls.
        ap (λ (z : List (List (List ℕ))). read_lines R None 1 0 (map joined z ++ ls)) e
        ∙ ap (λ (z : List (List ℕ)). read_lines R None 1 0 (z ++ ls)) (map_push joined (M.rows x) (f ∷ fs))
        ∙ ap (λ (z : List (List ℕ)). read_lines R None 1 0 z) (append_assoc (map joined (M.rows x)) (joined (f ∷ fs) ∷ []) ls)
        ∙ t.trace (joined (f ∷ fs) ∷ ls)
        ∙ step_over (Some x) (length (M.rows x) + 1) (length (written M x)) (f ∷ fs) ls (joined (f ∷ fs)) y (fields_joined f fs (not_tab (f ∷ fs) c)) h a
        ∙ ap₂ (λ (i j : ℕ). read_lines R (Some y) i j ls) (omega (arith, ap length e, length_push (M.rows x) (f ∷ fs))) (sym (written_length M x y (f ∷ fs) e));
    clean = subst (AllByRecursion Clean) (sym e) (All-push Clean (M.rows x) (f ∷ fs) t.clean c);
  }

-- ---- induction from the end of a list
from_end_go : {A : Type 0} (P : List A → Type 0) → ((xs : List A) (y : A) → P xs → P (xs ++ (y ∷ []))) → (xs ys : List A) → P xs → P (xs ++ ys)
from_end_go P more xs [] h = subst P (sym (append-nil xs)) h
from_end_go P more xs (y ∷ ys) h = subst P (append_assoc xs (y ∷ []) ys) (from_end_go P more (xs ++ (y ∷ [])) ys (more xs y h))

pub from_end : {A : Type 0} (P : List A → Type 0) → P [] → ((xs : List A) (y : A) → P xs → P (xs ++ (y ∷ []))) → (xs : List A) → P xs
from_end P none more xs = from_end_go P more [] xs none

-- ---- from the answer to its meaning
abbrev Outcome : {X : Type 0} → Meaning X → List ℕ → Result X TextFault → Type 0
Outcome M bs (Ok x) = M.Right x × M.Complete x × (bs ≡ written M x) × (length bs ≤ 16384)
Outcome M bs (Err f) = Refused M bs f

module _ {X : Type 0} (R : Reader X) (M : Meaning X) (law : Lawful R M) where
  so_far_rows : (s : Option X) → (so_far M s ≡ unlines (map joined (rows_so_far M s))) × (lines_so_far M s ≡ length (rows_so_far M s))
  unfolding written
  so_far_rows None = (refl, refl)
  so_far_rows (Some x) = (refl, refl)

  -- the text with the line is the text so far and the line
  more_written : (s : Option X) (y : X) (l : List ℕ) → M.rows y ≡ rows_so_far M s ++ (fields l ∷ []) → written M y ≡ so_far M s ++ (l ++ (10 ∷ []))
  more_written s y l e =
      written_rows M y ∙ ap (λ (z : List (List (List ℕ))). unlines (map joined z)) e ∙ written_push (rows_so_far M s) (fields l)
      ∙ ap₂ (λ (u v : List ℕ). u ++ (v ++ (10 ∷ []))) (sym (so_far_rows s).0) (joined_fields l)

  more_lines : (s : Option X) (y : X) (l : List ℕ) → M.rows y ≡ rows_so_far M s ++ (fields l ∷ []) → length (M.rows y) ≡ lines_so_far M s + 1
  more_lines s y l e = ap length e ∙ length_push (rows_so_far M s) (fields l) ∙ ap (λ (n : ℕ). n + 1) (sym (so_far_rows s).1)

  module _ (bs : List ℕ) (text : IsText bs) (allowed : AllByRecursion Allowed bs) where
    at_end : (x : X) → M.Right x → bs ≡ written M x → (t : Bool) → R.is_whole x ≡ t → Outcome M bs (cond t (Ok x) (Err (fault NotOfKind 0 (length (written M x)))))
    at_end x r e true w = (r, (law.d_whole x).0 w, e, text.1)
    at_end x r e false w = no_end text allowed x r e (not_from_Decides (R.is_whole x) (law.d_whole x) w) (ap (λ (z : List ℕ). fault NotOfKind 0 (length z)) (sym e))

    finish : (s : Option X) → RightSoFar M s → bs ≡ so_far M s ++ [] → Outcome M bs (ended R s (length (so_far M s)))
    finish None r e = absurd (omega (arith, text.0, ap length e))
    finish (Some x) r e = at_end x r (e ∙ append-nil (written M x)) (R.is_whole x) refl

    at_line : (s : Option X) (l : List ℕ) (ls : List (List ℕ)) (k at : ℕ) → RightSoFar M s → AllByRecursion (λ b. b ≡ 10 → ⊥) l → bs ≡ so_far M s ++ (l ++ (10 ∷ unlines ls)) → k ≡ lines_so_far M s + 1 → at ≡ length (so_far M s)
        → ((y : X) → M.Right y → k + 1 ≡ length (M.rows y) + 1 → at + length l + 1 ≡ length (written M y) → bs ≡ written M y ++ unlines ls → Outcome M bs (read_lines R (Some y) (k + 1) (at + length l + 1) ls))
        → (o : Option Check) → first_failed (R.checks s at (fields l)) ≡ o
        → Outcome M bs (unless o k (read_lines R (Some (R.after s (fields l))) (k + 1) (at + length l + 1) ls))
    at_line s l ls k at r c e ek ea rec None o =
        let y = R.after s (fields l) in
        let h = law.advance s at (fields l) r (keeps (R.checks s at (fields l)) (M.clauses s at (fields l)) (law.agree s at (fields l)) o) in
        let w : written M y ≡ so_far M s ++ (l ++ (10 ∷ [])) = more_written s y l h.1 in
        rec y h.0 (omega (arith, more_lines s y l h.1))
        (omega (arith, ap length w, length-append (so_far M s) (l ++ (10 ∷ [])), length-append l (10 ∷ [])))
        (e ∙ ap (λ (z : List ℕ). so_far M s ++ z) (sym (append_assoc l (10 ∷ []) (unlines ls))) ∙ sym (append_assoc (so_far M s) (l ++ (10 ∷ [])) (unlines ls)) ∙ ap (λ (z : List ℕ). z ++ unlines ls) (sym w))
    at_line s l ls k at r c e ek ea rec (Some d) o =
        no_line text allowed s l (unlines ls) r e c d.refusal d.byte
        (subst (λ (z : ℕ). Breaks (M.clauses s z (fields l)) d.refusal d.byte) ea (breaks (R.checks s at (fields l)) (M.clauses s at (fields l)) d (law.agree s at (fields l)) o))
        (ap (λ (z : ℕ). fault d.refusal z d.byte) ek)

    walk : (ls : List (List ℕ)) (s : Option X) (k at : ℕ) → RightSoFar M s → AllByRecursion (AllByRecursion (λ b. b ≡ 10 → ⊥)) ls → bs ≡ so_far M s ++ unlines ls → k ≡ lines_so_far M s + 1 → at ≡ length (so_far M s) → Outcome M bs (read_lines R s k at ls)
    walk [] s k at r c e ek ea = subst (λ (z : ℕ). Outcome M bs (ended R s z)) (sym ea) (finish s r e)
    walk (l ∷ ls) s k at r c e ek ea =
        at_line s l ls k at r c.0 e ek ea (λ y ry ky ay ey. walk ls (Some y) (k + 1) (at + length l + 1) ry c.1 ey ky ay)
        (first_failed (R.checks s at (fields l))) refl

  told_bytes : (bs : List ℕ) → IsText bs → (o : Option TextFault) → bad_byte 1 0 bs ≡ o → Outcome M bs (unless_byte o (read_lines R None 1 0 (lines bs)))
  told_bytes bs t None e = walk bs t (bytes_fine 1 0 bs e) (lines bs) None 1 0 tt (lines_clean bs) (sym (unlines_lines bs t.2)) refl refl
  told_bytes bs t (Some f) e =
      let b = bytes_bad 1 0 bs f e in
      no_byte t b.front b.bad b.back b.splits b.good b.wrong (b.told ∙ ap₂ (λ (u v : ℕ). fault Byte u v) (omega arith) (omega arith))

  told_go : (bs : List ℕ) (t : Bool) → is_text bs ≡ t → Outcome M bs (cond t (unless_byte (bad_byte 1 0 bs) (read_lines R None 1 0 (lines bs))) (Err (fault Form 0 0)))
  told_go bs true e = told_bytes bs ((d_text bs).0 e) (bad_byte 1 0 bs) refl
  told_go bs false e = no_text (not_from_Decides (is_text bs) (d_text bs) e) refl

  told_text : (bs : List ℕ) → Outcome M bs (read_text R bs)
  unfolding read_text
  told_text bs = told_go bs (is_text bs) refl

  -- ---- from the meaning to the answer
  read_through : (bs : List ℕ) → IsText bs → AllByRecursion Allowed bs → read_text R bs ≡ read_lines R None 1 0 (lines bs)
  unfolding read_text
  read_through bs t a =
      cond-true _ (unless_byte (bad_byte 1 0 bs) (read_lines R None 1 0 (lines bs))) (Err (fault Form 0 0)) ((d_text bs).1 t)
      ∙ ap (λ (o : Option TextFault). unless_byte o (read_lines R None 1 0 (lines bs))) (fine_bytes 1 0 bs a)

  -- what follows the lines of a right value is read after that value
  read_after : (s : Option X) (more : List ℕ) → RightSoFar M s → read_lines R None 1 0 (lines (so_far M s ++ more)) ≡ read_lines R s (lines_so_far M s + 1) (length (so_far M s)) (lines more)
  unfolding written
  read_after None more r = refl
  read_after (Some x) more r =
      ap (λ (z : List (List ℕ)). read_lines R None 1 0 z) (lines_unlines (map joined (M.rows x)) more (rows_no_ten (M.rows x) (law.traced x r).clean)) ∙ (law.traced x r).trace (lines more)

  written_text : (x : X) → length (written M x) ≤ 16384 → IsText (written M x)
  written_text x h =
      let s = law.some_row x in
      let e : written M x ≡ unlines (joined s.0 ∷ map joined s.1) = written_rows M x ∙ ap (λ (z : List (List (List ℕ))). unlines (map joined z)) s.2 in
      (omega (arith, ap length e, length-append (joined s.0) (10 ∷ unlines (map joined s.1))), h, ap last e ∙ last_unlines (joined s.0) (map joined s.1))

  written_allowed : (x : X) → M.Right x → AllByRecursion Allowed (written M x)
  unfolding written
  written_allowed x r = unlines_allowed (M.rows x) (law.traced x r).clean

  -- the lines of the whole text of x lead to its end
  read_written : (x : X) → M.Right x → read_lines R None 1 0 (lines (written M x)) ≡ cond (R.is_whole x) (Ok x) (Err (fault NotOfKind 0 (length (written M x))))
  read_written x r = ap (λ (z : List ℕ). read_lines R None 1 0 (lines z)) (sym (append-nil (written M x))) ∙ read_after (Some x) [] r

  -- ---- a proper value is what its text is read as, and no other
  accepted : (bs : List ℕ) (x : X) → Outcome M bs (Ok x) → Proper M x × (bs ≡ written M x)
  accepted bs x o = (record { right = o.0; complete = o.1; short = subst (λ (z : List ℕ). length z ≤ 16384) o.2 o.3 }, o.2)

  reads : (x : X) → Proper M x → read_text R (written M x) ≡ Ok x
  reads x p =
      read_through (written M x) (written_text x p.short) (written_allowed x p.right) ∙ read_written x p.right
      ∙ cond-true (R.is_whole x) (Ok x) (Err (fault NotOfKind 0 (length (written M x)))) ((law.d_whole x).1 p.complete)

  pub exact : Exact R M
  exact bs x = (λ e. accepted bs x (subst (Outcome M bs) e (told_text bs)), λ p e. ap (read_text R) e ∙ reads x p)

  -- ---- refusals
  refuse_text : (bs : List ℕ) → (IsText bs → ⊥) → read_text R bs ≡ Err (fault Form 0 0)
  unfolding read_text
  refuse_text bs n = cond-false _ (unless_byte (bad_byte 1 0 bs) (read_lines R None 1 0 (lines bs))) (Err (fault Form 0 0)) (false_from_ne_true (is_text bs) (λ e. n ((d_text bs).0 e)))

  refuse_byte : (bs : List ℕ) → IsText bs → (front : List ℕ) (b : ℕ) (back : List ℕ) → bs ≡ front ++ (b ∷ back) → AllByRecursion Allowed front → (Allowed b → ⊥) → read_text R bs ≡ Err (fault Byte (newlines front + 1) (length front))
  unfolding read_text
  refuse_byte bs t front b back s g w =
      cond-true _ (unless_byte (bad_byte 1 0 bs) (read_lines R None 1 0 (lines bs))) (Err (fault Form 0 0)) ((d_text bs).1 t)
      ∙ ap (λ (o : Option TextFault). unless_byte o (read_lines R None 1 0 (lines bs)))
      (ap (λ (z : List ℕ). bad_byte 1 0 z) s ∙ bad_bytes 1 0 front b back g w ∙ ap₂ (λ (u v : ℕ). Some (fault Byte u v)) (omega arith) (omega arith))

  refuse_line : (bs : List ℕ) → IsText bs → AllByRecursion Allowed bs → (s : Option X) (l rest : List ℕ) → RightSoFar M s → bs ≡ so_far M s ++ (l ++ (10 ∷ rest)) → AllByRecursion (λ b. b ≡ 10 → ⊥) l
      → (c : Refusal) (i : ℕ) → Breaks (M.clauses s (length (so_far M s)) (fields l)) c i → read_text R bs ≡ Err (fault c (lines_so_far M s + 1) i)
  refuse_line bs t a s l rest r e n c i b =
      let k = lines_so_far M s + 1 in
      let at = length (so_far M s) in
      let d = fails (R.checks s at (fields l)) (M.clauses s at (fields l)) c i (law.agree s at (fields l)) b in
      read_through bs t a ∙ ap (λ (z : List ℕ). read_lines R None 1 0 (lines z)) e ∙ read_after s (l ++ (10 ∷ rest)) r
      ∙ ap (λ (z : List (List ℕ)). read_lines R s k at z) (lines_line l rest n)
      ∙ ap (λ (o : Option Check). unless o k (read_lines R (Some (R.after s (fields l))) (k + 1) (at + length l + 1) (lines rest))) d.1
      ∙ ap₂ (λ (u : Refusal) (v : ℕ). Err (fault u k v)) d.2 d.3

  refuse_end : (bs : List ℕ) → IsText bs → AllByRecursion Allowed bs → (x : X) → M.Right x → bs ≡ written M x → (M.Complete x → ⊥) → read_text R bs ≡ Err (fault NotOfKind 0 (length bs))
  refuse_end bs t a x r e n =
      read_through bs t a ∙ ap (λ (z : List ℕ). read_lines R None 1 0 (lines z)) e ∙ read_written x r
      ∙ cond-false (R.is_whole x) (Ok x) (Err (fault NotOfKind 0 (length (written M x)))) (false_from_ne_true (R.is_whole x) (λ e. n ((law.d_whole x).0 e)))
      ∙ ap (λ (z : List ℕ). Err (fault NotOfKind 0 (length z))) (sym e)

  refuse : (bs : List ℕ) (f : TextFault) → Refused M bs f → read_text R bs ≡ Err f
  refuse bs f (no_text n e) = refuse_text bs n ∙ ap Err (sym e)
  refuse bs f (no_byte t front b back s g w e) = refuse_byte bs t front b back s g w ∙ ap Err (sym e)
  refuse bs f (no_line t a s l rest r q n c i b e) = refuse_line bs t a s l rest r q n c i b ∙ ap Err (sym e)
  refuse bs f (no_end t a x r q n e) = refuse_end bs t a x r q n ∙ ap Err (sym e)

  pub refusals : Refusals R M
  refusals bs f = (λ e. subst (Outcome M bs) e (told_text bs), refuse bs f)

  -- ---- each text is one or the other
  which : (bs : List ℕ) (r : Result X TextFault) → Outcome M bs r → ((x : X) × Proper M x × (bs ≡ written M x)) ⊎ ((f : TextFault) × Refused M bs f)
  which bs (Ok x) o = let a = accepted bs x o in inl (x, a.0, a.1)
  which bs (Err f) o = inr (f, o)

  pub each_text : EachText M
  each_text bs = (
    which bs (read_text R bs) (told_text bs),
    (
      λ x y p q e d. let r = (exact bs x).1 p e in let s = (exact bs y).1 q d in cc,
      (
        λ f g p q. let r = refuse bs f p in let s = refuse bs g q in cc,
        λ x f p e q. grind (arith, (exact bs x).1 p e, refuse bs f q),
      ),
    ),
  )
