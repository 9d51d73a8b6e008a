-- The walk over the lines of a text.
use Rattle.std.proofs.Common.{◌≡◌, ℕ, zero, suc, ◌+◌, ◌-◌, ◌<◌, ◌≤◌, Bool, true, false, cond, not, eqb, min, ◌⊎◌, List, [], ◌∷◌, ◌++◌, map, length, take, drop, Some, None, Ok, Option, Result, sym, refl, ap, ◌∙◌, ap₂, inl, inr, arith}
use Rattle.std.specs.List.{prefix_len}
use Rattle.std.proofs.lemmas.List.{length-append, length-take-le, take_all, drop_all, take_rest, drop_at, drop-drop}
use Rattle.std.proofs.lemmas.Bool.{cases_lt}
use Rattle.formats.specs.declared.fault.TextFault.{TextFault}
use Rattle.formats.specs.Words.{is_not, onto, fields, lines, last, unlines}
use Rattle.formats.specs.Texts.{Check, Reader, first_failed, unless, ended, read_lines}
use Rattle.formats.proofs.Bridges.{lines_cut}
use Rattle.formats.proofs.Pieces.{unlines_lines, unlines_append}
use Rattle.texts.specs.declared.at.At.{At}
use Rattle.texts.specs.Spans.{line_start}
use Rattle.texts.specs.Walking.{line_at, numbered, numbered_lines, read_on}

-- the last line of a text that does not end in a newline
lines_last : (t : List ℕ) → 0 < length t → prefix_len (is_not 10) t ≡ length t → lines t ≡ t ∷ []
lines_last [] h e = absurd (omega arith)
lines_last (b ∷ []) h e = go (eqb b 10) e
  where
    go : (u : Bool) → cond (not u) (1 + prefix_len (is_not 10) []) 0 ≡ length (b ∷ []) → cond u ([] ∷ lines []) (onto b (lines [])) ≡ (b ∷ []) ∷ []
    go true q = absurd (omega arith)
    go false q = refl
lines_last (b ∷ c ∷ bs) h e = go (eqb b 10) e (λ q. lines_last (c ∷ bs) (omega arith) q)
  where
    go : (u : Bool) → cond (not u) (1 + prefix_len (is_not 10) (c ∷ bs)) 0 ≡ length (b ∷ c ∷ bs) → (prefix_len (is_not 10) (c ∷ bs) ≡ length (c ∷ bs) → lines (c ∷ bs) ≡ (c ∷ bs) ∷ []) → cond u ([] ∷ lines (c ∷ bs)) (onto b (lines (c ∷ bs))) ≡ (b ∷ c ∷ bs) ∷ []
    go true q r = absurd (omega arith)
    go false q r = ap (onto b) (r (omega arith))

-- one line: it ends at e, and what follows it begins at m
pub next_line : (at : At) (t : List ℕ) (e m : ℕ) → e ≡ prefix_len (is_not 10) t → e ≤ length t → 0 < length t → m ≡ min (length (take e t) + 1) (length t)
    → numbered at (lines t) ≡ (at, take e t) ∷ numbered (line_at (at.line + 1) (at.byte + m)) (lines (take (length t - m) (drop m t)))
next_line at t e m q le some past = go (cases_lt e (length t)) ∙ ap (λ (r : List ℕ). (at, take e t) ∷ numbered (line_at (at.line + 1) (at.byte + m)) (lines r)) (sym (take_rest t m))
  where
    go : (e < length t) ⊎ (length t ≤ e) → numbered at (lines t) ≡ (at, take e t) ∷ numbered (line_at (at.line + 1) (at.byte + m)) (lines (drop m t))
    go (inl h) =
        let n : m ≡ e + 1 = omega (arith, length-take-le e t le) in
        let cut : lines t ≡ take e t ∷ lines (drop m t) = lines_cut t (omega arith) ∙ ap₂ (λ (i j : ℕ). take i t ∷ lines (drop j t)) (sym q) (omega arith) in
        ap (numbered at) cut ∙ ap (λ (j : ℕ). (at, take e t) ∷ numbered (line_at (at.line + 1) j) (lines (drop m t))) (omega (arith, length-take-le e t le))
    go (inr h) =
        ap (numbered at) (lines_last t some (omega arith) ∙ ap (λ (l : List ℕ). l ∷ []) (sym (take_all e t (omega arith))))
        ∙ ap (λ (ls : List (List ℕ)). (at, take e t) ∷ numbered (line_at (at.line + 1) (at.byte + m)) ls) (sym (ap lines (drop_all m t (omega (arith, length-take-le e t le)))))

-- ---- where a line stands
-- line i, counted from 0, among lines the first of which stands at `at`
at_index : (at : At) (ls : List (List ℕ)) (i : ℕ) (here : At) (l : List ℕ) (rest : List (At × List ℕ)) → drop i (numbered at ls) ≡ (here, l) ∷ rest
    → (here.byte ≡ at.byte + length (unlines (take i ls))) × ((ks : List (List ℕ)) × (ls ≡ take i ls ++ (l ∷ ks)))
at_index at [] zero here l rest e = let n = ap length e in absurd (omega (arith, n))
at_index at [] (suc i) here l rest e = let n = ap length e in absurd (omega (arith, n))
at_index at (m ∷ ms) zero here l rest e =
    let q : (at, m) ≡ (here, l) = cc in
    (omega (arith, ap (λ (p : At × List ℕ). p.0.byte) q), (ms, ap (λ (p : At × List ℕ). p.1 ∷ ms) q))
at_index at (m ∷ ms) (suc i) here l rest e =
    let r = at_index (line_at (at.line + 1) (at.byte + length m + 1)) ms i here l rest e in
    (omega (arith, r.0, length-append m (10 ∷ unlines (take i ms))), (r.1.0, ap (λ (z : List (List ℕ)). m ∷ z) r.1.1))

-- line i of the text bs is l, and it stands at `here`
pub record LineStands (bs : List ℕ) (i : ℕ) (here : At) (l : List ℕ) (rest : List (At × List ℕ)) : Type 0 where
  pub start : line_start bs i ≡ here.byte
  pub more : List ℕ
  pub there : drop here.byte bs ≡ l ++ (10 ∷ more)
  pub next : rest ≡ drop (i + 1) (numbered_lines bs)

pub stands : (bs : List ℕ) (i : ℕ) (here : At) (l : List ℕ) (rest : List (At × List ℕ)) → last bs ≡ 10 → drop i (numbered_lines bs) ≡ (here, l) ∷ rest → LineStands bs i here l rest
stands bs i here l rest ends e =
    let r = at_index (line_at 1 0) (lines bs) i here l rest e in
    let front = unlines (take i (lines bs)) in
    let split : bs ≡ front ++ (l ++ (10 ∷ unlines r.1.0)) = sym (unlines_lines bs ends) ∙ ap unlines r.1.1 ∙ unlines_append (take i (lines bs)) (l ∷ r.1.0) in
    record {
      start = omega (arith, r.0);
      more = unlines r.1.0;
      there = ap (drop here.byte) split ∙ drop_at front (l ++ (10 ∷ unlines r.1.0)) here.byte (omega (arith, r.0));
      next = sym (sym (drop-drop 1 i (numbered_lines bs)) ∙ ap (drop 1) e);
    }

-- the first line of a text
pub first_at : (bs : List ℕ) (here : At) (l : List ℕ) (rest : List (At × List ℕ)) → numbered_lines bs ≡ (here, l) ∷ rest → line_at 1 0 ≡ here
first_at bs here l rest e = go (lines bs) e
  where
    go : (ls : List (List ℕ)) → numbered (line_at 1 0) ls ≡ (here, l) ∷ rest → line_at 1 0 ≡ here
    go [] q = let n = ap length q in absurd (omega (arith, n))
    go (m ∷ ms) q = let p : (line_at 1 0, m) ≡ (here, l) = cc in ap (λ (x : At × List ℕ). x.0) p

-- a text has a line
pub some_line : (bs : List ℕ) → 0 < length bs → last bs ≡ 10 → numbered_lines bs ≡ [] → ⊥
some_line bs some ends e = go (lines bs) e (ap length (unlines_lines bs ends))
  where
    go : (ls : List (List ℕ)) → numbered (line_at 1 0) ls ≡ [] → length (unlines ls) ≡ length bs → ⊥
    go [] q n = omega arith
    go (m ∷ ms) q n = let k = ap length q in omega (arith, k)

-- ---- what a reader answers for the lines
on_numbered : {X : Type 0} (R : Reader X) (s : Option X) (n : ℕ) (at : At) (ls : List (List ℕ)) → n ≡ at.byte + length (unlines ls) → read_lines R s at.line at.byte ls ≡ read_on R s n (numbered at ls)
on_numbered R s n at [] e = ap (ended R s) (omega arith)
on_numbered R s n at (l ∷ ls) e =
    ap (unless (first_failed (R.checks s at.byte (fields l))) at.line)
    (on_numbered R (Some (R.after s (fields l))) n (line_at (at.line + 1) (at.byte + length l + 1)) ls (omega (arith, length-append l (10 ∷ unlines ls))))

pub on_lines : {X : Type 0} (R : Reader X) (bs : List ℕ) → last bs ≡ 10 → read_lines R None 1 0 (lines bs) ≡ read_on R None (length bs) (numbered_lines bs)
on_lines R bs ends = on_numbered R None (length bs) (line_at 1 0) (lines bs) (omega (arith, ap length (unlines_lines bs ends)))

-- the lines without where they stand
pub bytes_of : (at : At) (ls : List (List ℕ)) → map (λ (x : At × List ℕ). x.1) (numbered at ls) ≡ ls
bytes_of at [] = refl
bytes_of at (l ∷ ls) = ap (λ (z : List (List ℕ)). l ∷ z) (bytes_of (line_at (at.line + 1) (at.byte + length l + 1)) ls)

-- the lines ls of a text of n bytes, from the value x on, come to the whole
pub record Comes {X : Type 0} (R : Reader X) (x : X) (n : ℕ) (ls : List (At × List ℕ)) (whole : Result X TextFault) : Type 0 where
  pub to : whole ≡ read_on R (Some x) n ls

-- a reader that looks at the shape of a line
abbrev pub by_shape : {X S : Type 0} → (List (List ℕ) → S) → (Option X → ℕ → S → List Check) → (Option X → S → X) → (X → Bool) → Reader X
by_shape shape checks after is_whole = record { checks = λ s at fs. checks s at (shape fs); after = λ s fs. after s (shape fs); is_whole = is_whole }

-- one line, by its checks o and the value y after it
passes_on : {X : Type 0} (o : Option Check) (k : ℕ) (y z : X) (F : X → Result X TextFault) → unless o k (Ok y) ≡ Ok z → unless o k (F y) ≡ F z
passes_on None k y z F e = let q : y ≡ z = cc in ap F q
passes_on (Some c) k y z F e = let q : ◌≡◌ {A = ℕ} 0 1 = cc in absurd (omega arith)

-- ---- one line of the shape m, for a reader that looks at shapes
module _ {X S : Type 0} (shape : List (List ℕ) → S) (checks : Option X → ℕ → S → List Check) (after : Option X → S → X) (is_whole : X → Bool)
    {x : X} {n : ℕ} {ls rest : List (At × List ℕ)} {here : At} {l : List ℕ} {whole : Result X TextFault}
    (g : Comes (by_shape shape checks after is_whole) x n ls whole) (first : ls ≡ (here, l) ∷ rest) (m : S) (shaped : shape (fields l) ≡ m) where
  turn : whole ≡ unless (first_failed (checks (Some x) here.byte m)) here.line (read_on (by_shape shape checks after is_whole) (Some (after (Some x) m)) n rest)
  turn =
      g.to ∙ ap (read_on (by_shape shape checks after is_whole) (Some x) n) first
      ∙ ap (λ (k : S). unless (first_failed (checks (Some x) here.byte k)) here.line (read_on (by_shape shape checks after is_whole) (Some (after (Some x) k)) n rest)) shaped

  pub line_passed : (y : X) → unless (first_failed (checks (Some x) here.byte m)) here.line (Ok (after (Some x) m)) ≡ Ok y → Comes (by_shape shape checks after is_whole) y n rest whole
  line_passed y e =
      record { to = turn ∙ passes_on (first_failed (checks (Some x) here.byte m)) here.line (after (Some x) m) y (λ (z : X). read_on (by_shape shape checks after is_whole) (Some z) n rest) e }
