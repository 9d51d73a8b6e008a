-- The names of the places and moves that were read.
use Rattle.std.proofs.Common.{◌≡◌, ℕ, ◌<◌, Bool, true, false, cond, ◌&&◌, List, ◌++◌, map, length, Some, None, Ok, vec_items, Result, refl, sym, ap, ◌∙◌, ap₂, arith}
use Rattle.std.proofs.lemmas.List.{length-map}
use Rattle.std.proofs.lemmas.Bool.{ltb-true}
use Rattle.model.specs.declared.refusal.Refusal.TheVariants.{Field, NameUnknown}
use Rattle.formats.specs.declared.fault.TextFault.{TextFault}
use Rattle.formats.specs.Words.{is_name, is_new, is_known, index_of}
use Rattle.formats.specs.Texts.{check, unless}
use Rattle.formats.specs.ReadNet.{known_checks}
use Rattle.formats.specs.NetText as value
use Rattle.formats.specs.NetText.{names, place_names, move_names}
use Rattle.texts.specs.Spans.{part_of, titles_of, checked}
use Rattle.texts.proofs.Naming.{map_map, new_append}
use Rattle.net_text.specs.declared.net.Place.{Place}
use Rattle.net_text.specs.declared.net.Move.{Move}
use Rattle.net_text.specs.declared.net.NetText.{NetText}
use Rattle.net_text.specs.Nets.{place_of, move_of, net_of, place_titles, move_titles}

pub places_of : (bs : List ℕ) (x : NetText) → place_names (net_of bs x) ≡ place_titles bs x
places_of bs x = map_map (λ (p : value.Place). p.name) (place_of bs) (vec_items x.places)

pub moves_of : (bs : List ℕ) (x : NetText) → move_names (net_of bs x) ≡ move_titles bs x
moves_of bs x = map_map (λ (m : value.Move). m.name) (move_of bs) (vec_items x.moves)

pub new_names : (bs : List ℕ) (x : NetText) (n : List ℕ) → is_new (names (net_of bs x)) n
    ≡ (is_new (titles_of bs (λ (p : Place). p.name) (vec_items x.places)) n && is_new (titles_of bs (λ (m : Move). m.name) (vec_items x.moves)) n)
new_names bs x n = ap₂ (λ (u v : List (List ℕ)). is_new (u ++ v) n) (places_of bs x) (moves_of bs x) ∙ new_append (place_titles bs x) (move_titles bs x) n

-- what is known of the items by their names is known of the names in the net
pub knows_place : {r : Result ℕ TextFault} (bs : List ℕ) (x : NetText) (ps : List Place) (b k : ℕ) (f : List ℕ) → r ≡ checked (known_checks (map (λ (p : Place). part_of bs p.name) ps) b f) k (index_of (map (λ (p : Place). part_of bs p.name) ps) f)
    → ps ≡ vec_items x.places → r ≡ checked (known_checks (place_names (net_of bs x)) b f) k (index_of (place_names (net_of bs x)) f)
knows_place bs x ps b k f e is =
    let by = λ (ns : List (List ℕ)). checked (known_checks ns b f) k (index_of ns f) in
    e ∙ ap (λ (qs : List Place). by (map (λ (p : Place). part_of bs p.name) qs)) is ∙ sym (ap by (places_of bs x))

pub knows_move : {r : Result ℕ TextFault} (bs : List ℕ) (x : NetText) (ms : List Move) (b k : ℕ) (f : List ℕ) → r ≡ checked (known_checks (map (λ (m : Move). part_of bs m.name) ms) b f) k (index_of (map (λ (m : Move). part_of bs m.name) ms) f)
    → ms ≡ vec_items x.moves → r ≡ checked (known_checks (move_names (net_of bs x)) b f) k (index_of (move_names (net_of bs x)) f)
knows_move bs x ms b k f e is =
    let by = λ (ns : List (List ℕ)). checked (known_checks ns b f) k (index_of ns f) in
    e ∙ ap (λ (qs : List Move). by (map (λ (m : Move). part_of bs m.name) qs)) is ∙ sym (ap by (moves_of bs x))

-- what is known of the items by their names is one of them
pub known_in : {X : Type 0} {i : ℕ} (f : X → List ℕ) (xs ys : List X) (b k : ℕ) (n : List ℕ) → Ok i ≡ checked (known_checks (map f xs) b n) k (index_of (map f xs) n) → xs ≡ ys → i < length ys
known_in {i = i} f xs ys b k n e is = go (is_name n) (is_known (map f xs) n) (ltb-true (index_of (map f xs) n) (length (map f xs))) e
  where
    go : (c d : Bool) → (d ≡ true → index_of (map f xs) n < length (map f xs)) → Ok i ≡ unless (cond c (cond d None (Some (check d NameUnknown b))) (Some (check c Field b))) k (Ok (index_of (map f xs) n)) → i < length ys
    go true true r q = let same : i ≡ index_of (map f xs) n = cc in omega (arith, r refl, length-map xs f, ap length is)
    go true false r q = absurd (cc)
    go false d r q = absurd (cc)
