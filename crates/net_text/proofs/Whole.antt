-- A whole net text, from its first line to its end.
use Rattle.std.proofs.Common.{◌≡◌, ℕ, ◌+◌, Bool, true, false, cond, List, [], ◌∷◌, map, length, drop, Some, None, Ok, Err, vec_items, Option, Result, sym, refl, ap, ◌∙◌, arith}
use Rattle.model.specs.declared.refusal.Refusal.TheVariants.{NotOfKind}
use Rattle.formats.specs.declared.kind.Kind.{Kind}
use Rattle.formats.specs.declared.fault.TextFault.{TextFault}
use Rattle.formats.specs.Words.{fields, lines, last}
use Rattle.formats.specs.Texts.{Check, first_failed, unless, fault, ended, read_lines}
use Rattle.formats.specs.NetText as said
use Rattle.formats.specs.NetClauses.{Shape, shape}
use Rattle.formats.specs.NetClauses.Shape.{a_plant, a_place, a_move, an_arc, no_record}
use Rattle.formats.specs.ReadNet.{checks, after, begun, is_whole, net_reader, read_net}
use Rattle.formats.proofs.NetLaws.{net_exact, net_refusals}
use Rattle.net_text.specs.declared.net.NetText.{NetText}
use Rattle.texts.specs.declared.stop.ReadError.{ReadError}
use Rattle.texts.specs.declared.stop.ReadError.TheVariants.{Refused, NoMemory}
use Rattle.net_text.specs.Nets.{place_of, move_of, arc_of, net_of}
use Rattle.texts.specs.declared.at.At.{At}
use Rattle.texts.specs.Spans.{Told}
use Rattle.texts.specs.Walking.{numbered_lines, read_on}
use Rattle.texts.proofs.Walking.{on_lines}
use Rattle.net_text.specs.Reading.{plant_read, end_read, Located, line_count, NetRead}

abbrev fine : Result (Unit {0}) TextFault
fine = Ok tt

-- ---- the first line
module _ (bs : List ℕ) (ends : last bs ≡ 10) (at : At) (l : List ℕ) (rest : List (At × List ℕ)) (starts : numbered_lines bs ≡ (at, l) ∷ rest) where
  abbrev first : Shape
  first = shape (fields l)

  first_turn : read_lines net_reader None 1 0 (lines bs) ≡ unless (first_failed (checks None at.byte first)) at.line (read_on net_reader (Some (after None first)) (length bs) rest)
  first_turn = on_lines net_reader bs ends ∙ ap (read_on net_reader None (length bs)) starts

  pub first_refused : (f : TextFault) → Err f ≡ plant_read at.line at.byte first → read_lines net_reader None 1 0 (lines bs) ≡ Err f
  first_refused f q = first_turn ∙ go (first_failed (checks None at.byte first)) q
    where
      go : (o : Option Check) → Err f ≡ unless o at.line (Ok (after None first).kind) → unless o at.line (read_on net_reader (Some (after None first)) (length bs) rest) ≡ Err f
      go None r = let z : ◌≡◌ {A = ℕ} 0 1 = cc in absurd (omega arith)
      go (Some c) r = cc

  begins : (s : Shape) → after None s ≡ begun (after None s).kind
  begins (a_plant k) = refl
  begins (a_place n t m) = refl
  begins (a_move n k) = refl
  begins (an_arc p m t g) = refl
  begins no_record = refl

  first_passed : (k : Kind) → Ok k ≡ plant_read at.line at.byte first → read_lines net_reader None 1 0 (lines bs) ≡ read_on net_reader (Some (begun k)) (length bs) rest
  first_passed k q = first_turn ∙ go (first_failed (checks None at.byte first)) q
    where
      go : (o : Option Check) → Ok k ≡ unless o at.line (Ok (after None first).kind) → unless o at.line (read_on net_reader (Some (after None first)) (length bs) rest) ≡ read_on net_reader (Some (begun k)) (length bs) rest
      go None r = let same : (after None first).kind ≡ k = cc in ap (λ (x : said.NetText). read_on net_reader (Some x) (length bs) rest) (begins first ∙ ap begun same)
      go (Some c) r = let z : ◌≡◌ {A = ℕ} 0 1 = cc in absurd (omega arith)

  -- nothing is read yet: the net begins with the kind that the first line says
  module _ (n : NetText) (ps : vec_items n.places ≡ []) (ms : vec_items n.moves ≡ []) (xs : vec_items n.arcs ≡ []) where
    pub first_said : Ok n.kind ≡ plant_read at.line at.byte first → read_lines net_reader None 1 0 (lines bs) ≡ read_on net_reader (Some (net_of bs n)) (length bs) rest
    first_said q = first_passed n.kind q ∙ ap (λ (x : said.NetText). read_on net_reader (Some x) (length bs) rest) (λ i. said.net n.kind (map (place_of bs) (sym ps i)) (map (move_of bs) (sym ms i)) (map arc_of (sym xs i)))

    pub first_left : rest ≡ drop (line_count n + 1) (numbered_lines bs)
    first_left =
        let one : line_count n + 1 ≡ 1 = omega (arith, ap length ps, ap length ms, ap length xs) in
        sym (ap (λ (i : ℕ). drop i (numbered_lines bs)) one ∙ ap (drop 1) starts)

    pub first_located : Located bs n
    first_located =
        let np : length (vec_items n.places) ≡ 0 = ap length ps in
        let nm : length (vec_items n.moves) ≡ 0 = ap length ms in
        record { places = λ i h. absurd (omega arith); moves = λ i h. absurd (omega arith) }

-- ---- the end
pub end_refused : (x : said.NetText) (i : ℕ) (f : TextFault) → Err f ≡ end_read x i → ended net_reader (Some x) i ≡ Err f
end_refused x i f e = go (is_whole x) e
  where
    go : (b : Bool) → Err f ≡ cond b fine (Err (fault NotOfKind 0 i)) → cond b (Ok x) (Err (fault NotOfKind 0 i)) ≡ Err f
    go true q = let z : ◌≡◌ {A = ℕ} 0 1 = cc in absurd (omega arith)
    go false q = cc

pub end_passed : (x : said.NetText) (i : ℕ) → fine ≡ end_read x i → ended net_reader (Some x) i ≡ Ok x
end_passed x i e = go (is_whole x) e
  where
    go : (b : Bool) → fine ≡ cond b fine (Err (fault NotOfKind 0 i)) → cond b (Ok x) (Err (fault NotOfKind 0 i)) ≡ Ok x
    go true q = refl
    go false q = let z : ◌≡◌ {A = ℕ} 0 1 = cc in absurd (omega arith)

-- ---- what an answer means
pub accepts : (bs : List ℕ) (n : NetText) → read_net bs ≡ Ok (net_of bs n) → Located bs n → NetRead bs (Ok n)
accepts bs n e w =
    record {
      answer = e;
      accepted = (net_exact bs (net_of bs n)).0 e;
      refused = λ f h. let q = (net_refusals bs f).1 h in let z : ◌≡◌ {A = ℕ} 0 1 = cc in omega arith;
      located = w;
    }

pub refuses : (bs : List ℕ) (f : TextFault) → read_net bs ≡ Err f → NetRead bs (Err (Refused f))
refuses bs f e =
    record {
      answer = e;
      accepted = λ x p w. let q = (net_exact bs x).1 p w in let z : ◌≡◌ {A = ℕ} 0 1 = cc in omega arith;
      refused = ((net_refusals bs f).0 e, λ g h. let q = (net_refusals bs g).1 h in cc);
      located = tt;
    }

pub gives_up : (bs : List ℕ) → NetRead bs (Err NoMemory)
gives_up bs = record { answer = tt; accepted = tt; refused = tt; located = tt }

-- an error of the lines after the first
pub lines_refused : (bs : List ℕ) (r : ReadError) (answer : Result said.NetText TextFault) → read_net bs ≡ answer → (P : Unit {0} → Type 0) → Told (Err r) P (λ f. answer ≡ Err f) → NetRead bs (Err r)
lines_refused bs (Refused f) answer e P h = refuses bs f (e ∙ h)
lines_refused bs NoMemory answer e P h = gives_up bs
