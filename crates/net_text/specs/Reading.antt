-- What the net reader answers.
--   so_far r         the net that the lines so far say
--   line_read x k s l    the net x with the line l, which is line k and starts at byte s; or the refusal of that line
--   plant_read k s l the kind that the first line says, or its refusal
--   end_read x s     what the end of the text answers for the net x, where the text has s bytes
--   Step             what one line does to a net
--   Stands bs s l    the names of the line l stand in the text bs as parts of the line that starts at s
--   Located bs n     each name of n starts where the name of its line does: place i is line i + 1, and the moves follow the places
--   line_count n     how many lines n has after the first
--   Locates          a line keeps the names located
--   LineAdded        what one line does to the reader: its text stays, its net takes the step, and names stay located
--   NetRead bs r     r is what the text bs says
use Rattle.std.specs.Prelude.{◌≡◌, ℕ, ◌+◌, ◌<◌, ◌≤◌, cond, List, length, take, drop, Some, None, Ok, Err, vec_items, Result, OnOk, ◌≢◌, slice_index_or}
use Rattle.model.specs.declared.refusal.Refusal.TheVariants.{NotOfKind}
use Rattle.formats.specs.declared.kind.Kind.{Kind}
use Rattle.formats.specs.declared.fault.TextFault.{TextFault}
use Rattle.formats.specs.Texts.{first_failed, unless, fault, Proper, written}
use Rattle.formats.specs.Texts.{Refused as Wrong}
use Rattle.formats.specs.NetText as value
use Rattle.formats.specs.NetClauses.{Shape, net_meaning}
use Rattle.formats.specs.NetClauses.Shape.{a_plant, a_place, a_move, an_arc, no_record}
use Rattle.formats.specs.ReadNet.{checks, after, is_whole, read_net}
use Rattle.texts.specs.declared.at.At.{At}
use Rattle.texts.specs.declared.stop.ReadError.{ReadError}
use Rattle.net_text.specs.declared.net.NetText.{NetText}
use Rattle.net_text.specs.declared.read.NetReader.{NetReader}
use Rattle.texts.specs.Spans.{Told, line_start}
use Rattle.net_text.specs.Nets.{net_of, no_place, no_move}

abbrev pub so_far : NetReader → value.NetText
so_far r = net_of r.text.now r.net

abbrev pub line_read : value.NetText → ℕ → ℕ → Shape → Result value.NetText TextFault
line_read x k s l = unless (first_failed (checks (Some x) s l)) k (Ok (after (Some x) l))

abbrev pub plant_read : ℕ → ℕ → Shape → Result Kind TextFault
plant_read k s l = unless (first_failed (checks None s l)) k (Ok (after None l).kind)

abbrev pub end_read : value.NetText → ℕ → Result (Unit {0}) TextFault
end_read x at = cond (is_whole x) (Ok tt) (Err (fault NotOfKind 0 at))

-- r answers the line l, which leads from n to n'
abbrev pub Step : List ℕ → NetText → NetText → ℕ → ℕ → Shape → Result (Unit {0}) ReadError → Type 0
Step bs n n' k s l r = Told r (λ _. line_read (net_of bs n) k s l ≡ Ok (net_of bs n')) (λ f. line_read (net_of bs n) k s l ≡ Err f)

-- the line goes as far as the text does, so that its bytes can be counted
abbrev pub Stands : List ℕ → ℕ → Shape → Type 0
Stands bs s (a_plant k) = s + 6 + length k ≤ length bs
Stands bs s (a_place n t l) = (take (length n) (drop (s + 6) bs) ≡ n) × (s + 6 + length n + 1 + length t + 1 + length l ≤ length bs)
Stands bs s (a_move n k) = (take (length n) (drop (s + 5) bs) ≡ n) × (s + 5 + length n + 1 + length k ≤ length bs)
Stands bs s (an_arc p m t g) = s + 4 + length p + 1 + length m + 1 + length t + 1 + length g ≤ length bs
Stands bs s no_record = Unit {0}

-- how many lines n has after the first
abbrev pub line_count : NetText → ℕ
line_count n = length (vec_items n.places) + length (vec_items n.moves) + length (vec_items n.arcs)

pub record Located (bs : List ℕ) (n : NetText) : Type 0 where
  pub places : (i : ℕ) → i < length (vec_items n.places) → (slice_index_or (vec_items n.places) i no_place).name.start ≡ line_start bs (i + 1) + 6
  pub moves : (i : ℕ) → i < length (vec_items n.moves) → (slice_index_or (vec_items n.moves) i no_move).name.start ≡ line_start bs (length (vec_items n.places) + i + 1) + 5

-- one line more, which starts at s: n' is located if n is
abbrev pub Locates : List ℕ → NetText → NetText → ℕ → Type 0
Locates bs n n' s = Located bs n → line_start bs (line_count n + 1) ≡ s → Located bs n' × (line_count n' ≡ line_count n + 1)

-- r answers the line l at `at`, which leads from the reader q to q'
pub record LineAdded (q q' : NetReader) (at : At) (l : Shape) (r : Result (Unit {0}) ReadError) : Type 0 where
  pub text : q'.text.now ≡ q.text.now
  pub step : Step q.text.now q.net q'.net at.line at.byte l r
  pub located : OnOk r (Locates q.text.now q.net q'.net at.byte)

-- r is what the text bs says: by the order of checks, and in the format's own terms
pub record NetRead (bs : List ℕ) (r : Result NetText ReadError) : Type 0 where
  -- the answer that the order of checks gives
  pub answer : Told r (λ n. read_net bs ≡ Ok (net_of bs n)) (λ f. read_net bs ≡ Err f)
  -- a net is answered just where it is proper and the text is that net written down
  pub accepted : Told r (λ n. Proper net_meaning (net_of bs n) × (bs ≡ written net_meaning (net_of bs n))) (λ f. (x : value.NetText) → Proper net_meaning x → bs ≢ written net_meaning x)
  -- a text is refused just for the first thing that is wrong with it
  pub refused : Told r (λ n. (f : TextFault) → Wrong net_meaning bs f → ⊥) (λ f. Wrong net_meaning bs f × ((g : TextFault) → Wrong net_meaning bs g → g ≡ f))
  -- each name is the part of the text where its line has it
  pub located : Told r (λ n. Located bs n) (λ f. Unit {0})
