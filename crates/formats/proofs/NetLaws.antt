-- The text that is written for a right net is read back, line by line; and the laws of the net text.
use Rattle.std.proofs.Common.{◌≡◌, ℕ, ◌<◌, Bool, true, false, ◌⊎◌, List, [], ◌∷◌, ◌++◌, map, length, get_or, codes, decimal, Option, sym, refl, ap, ap₂, subst₂, inl, inr, arith}
use lib.ListN.{length-map}
use Rattle.std.specs.List.{AllByRecursion}
use Rattle.std.specs.Str.{bytes_eq}
use Rattle.std.proofs.ByRecursion.{All-get_or}
use Rattle.formats.specs.declared.kind.Kind.{Kind}
use Rattle.formats.specs.declared.kind.Kind.TheVariants.{Net, Bank, Line}
use Rattle.formats.specs.Words.{Shown, IsName, value, index_of}
use Rattle.formats.specs.NetText.{Place, Move, Arc, NetText, net, place_names, move_names, letter_of, plant_row, place_row, move_row, arc_row, Right}
use Rattle.formats.specs.NetClauses.{shape, net_meaning}
use Rattle.formats.specs.ReadNet.{begun, add_place, add_move, add_arc, net_reader}
use Rattle.formats.proofs.Tests.{value_of, name_index}
use Rattle.formats.proofs.Bytes.{name_shown, decimal_shown, word_shown}
use Rattle.formats.proofs.Ordered.{Agree}
use Rattle.formats.proofs.Whole.{Traced, Lawful, begin, extend, from_end, exact, refusals, each_text}
use Rattle.formats.specs.Laws.{NetExact, NetRefusals, NetDecided}
use Rattle.formats.proofs.NetAdding.{all_split, apart_split, FitsPlace, FitsMove, FitsArc, place_out, place_rows, move_out, move_rows, arc_out, arc_rows}
use Rattle.formats.proofs.NetChecks.{agree, d_whole}
use Rattle.formats.proofs.NetSteps.{advance_line}

agree_line : (s : Option NetText) (at : ℕ) (fs : List (List ℕ)) → Agree (net_reader.checks s at fs) (net_meaning.clauses s at fs)
agree_line s at fs = agree s at (shape fs)

begun_traced : (k : Kind) → Traced net_reader net_meaning (begun k)
begun_traced Net = begin net_reader net_meaning agree_line (begun Net) (codes "plant") (codes "net" ∷ []) refl (word_shown (codes "plant") refl, (word_shown (codes "net") refl, tt)) ((Net, refl), tt) refl
begun_traced Bank = begin net_reader net_meaning agree_line (begun Bank) (codes "plant") (codes "bank" ∷ []) refl (word_shown (codes "plant") refl, (word_shown (codes "bank") refl, tt)) ((Bank, refl), tt) refl
begun_traced Line = begin net_reader net_meaning agree_line (begun Line) (codes "plant") (codes "line" ∷ []) refl (word_shown (codes "plant") refl, (word_shown (codes "line") refl, tt)) ((Line, refl), tt) refl

-- ---- places
place_traced : (k : Kind) (ps : List Place) (p : Place) → FitsPlace (net k ps [] []) p → Traced net_reader net_meaning (net k ps [] []) → Traced net_reader net_meaning (net k (ps ++ (p ∷ [])) [] [])
place_traced k ps p f t =
    let x = net k ps [] [] in
    let a = f.fill in
    let vt : value (decimal p.tokens) ≡ p.tokens = value_of p.tokens (omega arith) in
    let vl : value (decimal p.limit) ≡ p.limit = value_of p.limit (omega arith) in
    extend net_reader net_meaning agree_line x (add_place x p) (codes "place") (p.name ∷ decimal p.tokens ∷ decimal p.limit ∷ []) (place_rows k ps p)
    (word_shown (codes "place") refl, (name_shown p.name f.name_ok, (decimal_shown p.tokens (omega arith), (decimal_shown p.limit (omega arith), tt))))
    ((refl, refl), (f.room, (f.name_ok, (f.name_new, ((p.tokens, omega arith, refl), ((p.limit, omega arith, refl), (omega arith, (omega arith, tt))))))))
    (ap₂ (λ (i j : ℕ). add_place x (record { name = p.name; tokens = i; limit = j })) vt vl)
    t

-- ---- moves
letter_kept : (b : Bool) → (bytes_eq (letter_of b) (codes "c") ≡ b) × (((letter_of b ≡ codes "c") ⊎ (letter_of b ≡ codes "u")) × AllByRecursion Shown (letter_of b))
letter_kept true = (refl, (inl refl, word_shown (codes "c") refl))
letter_kept false = (refl, (inr refl, word_shown (codes "u") refl))

move_traced : (k : Kind) (ps : List Place) (ms : List Move) (m : Move) → FitsMove (net k ps ms []) m → Traced net_reader net_meaning (net k ps ms []) → Traced net_reader net_meaning (net k ps (ms ++ (m ∷ [])) [])
move_traced k ps ms m f t =
    let x = net k ps ms [] in
    let l = letter_kept m.controllable in
    extend net_reader net_meaning agree_line x (add_move x m) (codes "move") (m.name ∷ letter_of m.controllable ∷ []) (move_rows k ps ms m)
    (word_shown (codes "move") refl, (name_shown m.name f.name_ok, (l.1.1, tt)))
    (refl, (f.room, (f.name_ok, (f.name_new, (l.1.0, tt)))))
    (ap (λ (b : Bool). add_move x (record { name = m.name; controllable = b })) l.0)
    t

-- ---- arcs
pair_moved : (xs : List Arc) (a : Arc) (i j : ℕ) → a.place ≡ i → a.move ≡ j → AllByRecursion (λ (b : Arc). (b.place ≡ a.place) × (b.move ≡ a.move) → ⊥) xs → AllByRecursion (λ (b : Arc). (b.place ≡ i) × (b.move ≡ j) → ⊥) xs
pair_moved xs a i j e q h = subst₂ (λ (u v : ℕ). AllByRecursion (λ (b : Arc). (b.place ≡ u) × (b.move ≡ v) → ⊥) xs) e q h

arc_value : (i j t g : ℕ) (a : Arc) → i ≡ a.place → j ≡ a.move → t ≡ a.take → g ≡ a.give → ◌≡◌ {A = Arc} (record { place = i; move = j; take = t; give = g }) a
arc_value i j t g a e1 e2 e3 e4 = λ z. record { place = e1 z; move = e2 z; take = e3 z; give = e4 z }

arc_traced : (k : Kind) (ps : List Place) (ms : List Move) (xs : List Arc) (a : Arc) → Right (net k ps ms xs) → FitsArc (net k ps ms xs) a → Traced net_reader net_meaning (net k ps ms xs) → Traced net_reader net_meaning (net k ps ms (xs ++ (a ∷ [])))
arc_traced k ps ms xs a r f t =
    let x = net k ps ms xs in
    let pn = place_names x in
    let mn = move_names x in
    let w = f.ends in
    let named = all_split IsName pn mn r.named in
    let apart = apart_split (λ m n. m ≡ n) pn mn r.different in
    let li : a.place < length pn = omega (arith, length-map ps (λ (q : Place). q.name)) in
    let lj : a.move < length mn = omega (arith, length-map ms (λ (q : Move). q.name)) in
    let ni : IsName (get_or pn a.place []) = All-get_or IsName pn a.place [] li named.0 in
    let nj : IsName (get_or mn a.move []) = All-get_or IsName mn a.move [] lj named.1 in
    let ei : index_of pn (get_or pn a.place []) ≡ a.place = name_index pn a.place apart.0 li in
    let ej : index_of mn (get_or mn a.move []) ≡ a.move = name_index mn a.move apart.1 lj in
    let vt : value (decimal a.take) ≡ a.take = value_of a.take (omega arith) in
    let vg : value (decimal a.give) ≡ a.give = value_of a.give (omega arith) in
    extend net_reader net_meaning agree_line x (add_arc x a) (codes "arc") (get_or pn a.place [] ∷ get_or mn a.move [] ∷ decimal a.take ∷ decimal a.give ∷ []) (arc_rows k ps ms xs a)
    (word_shown (codes "arc") refl, (name_shown (get_or pn a.place []) ni, (name_shown (get_or mn a.move []) nj, (decimal_shown a.take (omega arith), (decimal_shown a.give (omega arith), tt)))))
    (ni, ((a.place, li, refl), (nj, ((a.move, lj, refl), ((a.take, omega arith, refl), ((a.give, omega arith, refl), (omega (arith, vt, vg), (pair_moved xs a (index_of pn (get_or pn a.place [])) (index_of mn (get_or mn a.move [])) (sym ei) (sym ej) f.pair_new, (f.in_net, tt)))))))))
    (ap (λ (b : Arc). add_arc x b) (arc_value (index_of pn (get_or pn a.place [])) (index_of mn (get_or mn a.move [])) (value (decimal a.take)) (value (decimal a.give)) a ei ej vt vg))
    t

-- ---- all of them
places_traced : (k : Kind) (ps : List Place) → Right (net k ps [] []) → Traced net_reader net_meaning (net k ps [] [])
places_traced k ps =
    from_end (λ (qs : List Place). Right (net k qs [] []) → Traced net_reader net_meaning (net k qs [] [])) (λ r. begun_traced k)
    (λ qs q h r. place_traced k qs q (place_out k qs q r).1 (h (place_out k qs q r).0)) ps

moves_traced : (k : Kind) (ps : List Place) (ms : List Move) → Right (net k ps ms []) → Traced net_reader net_meaning (net k ps ms [])
moves_traced k ps ms =
    from_end (λ (qs : List Move). Right (net k ps qs []) → Traced net_reader net_meaning (net k ps qs [])) (places_traced k ps)
    (λ qs q h r. move_traced k ps qs q (move_out k ps qs q r).1 (h (move_out k ps qs q r).0)) ms

arcs_traced : (k : Kind) (ps : List Place) (ms : List Move) (xs : List Arc) → Right (net k ps ms xs) → Traced net_reader net_meaning (net k ps ms xs)
arcs_traced k ps ms xs =
    from_end (λ (qs : List Arc). Right (net k ps ms qs) → Traced net_reader net_meaning (net k ps ms qs)) (moves_traced k ps ms)
    (λ qs q h r. arc_traced k ps ms qs q (arc_out k ps ms qs q r).0 (arc_out k ps ms qs q r).1 (h (arc_out k ps ms qs q r).0)) xs

pub traced : (x : NetText) → Right x → Traced net_reader net_meaning x
traced x r = arcs_traced x.kind x.places x.moves x.arcs r

-- ---- the laws
lawful : Lawful net_reader net_meaning
lawful = record {
  agree = agree_line;
  d_whole = d_whole;
  advance = advance_line;
  traced = traced;
  some_row = λ x. (plant_row x.kind, map place_row x.places ++ (map move_row x.moves ++ map (arc_row (place_names x) (move_names x)) x.arcs), refl);
}

pub net_exact : NetExact
net_exact = exact net_reader net_meaning lawful

pub net_refusals : NetRefusals
net_refusals = refusals net_reader net_meaning lawful

pub net_decided : NetDecided
net_decided = each_text net_reader net_meaning lawful
