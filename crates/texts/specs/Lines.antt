-- What the checks of a whole text and the line reader answer.
--   bytes_check bs   refuses the first byte that is not allowed
--   text_check bs    the checks of the whole text, before any of its lines is read
--   rest_fields r    the fields of what follows the first tab of a line, if anything does
--   shape_of r       the read line, as the net text's lines are told apart
--   rule_shape_of r  the same for the rules text
--   RecordOf fs r    r is the record of a line with the fields fs, if it is one
--   LineRead fs at r r is the record of a line with the fields fs that starts at `at`
use Rattle.std.specs.Prelude.{◌≡◌, ℕ, cond, List, [], Some, None, Ok, Err, Option, Result}
use Rattle.model.specs.declared.refusal.Refusal.TheVariants.{Form, NoRecord}
use Rattle.formats.specs.declared.fault.TextFault.{TextFault}
use Rattle.formats.specs.Words.{fields}
use Rattle.formats.specs.Texts.{fault, is_text, bad_byte, unless_byte}
use Rattle.formats.specs.NetClauses.{Shape, shape}
use Rattle.formats.specs.NetClauses.Shape.{a_plant, a_place, a_move, an_arc, no_record}
use Rattle.formats.specs.RulesText.{RuleShape, rule_shape}
use Rattle.formats.specs.RulesText.RuleShape.{a_fixed, a_rule, neither}
use Rattle.texts.specs.declared.at.At.{At}
use Rattle.texts.specs.declared.record.Record.{Record}
use Rattle.texts.specs.declared.record.Record.TheVariants.{Plant, Place, Move, Arc, Fixed, Rule}

abbrev pub bytes_check : List ℕ → Result (Unit {0}) TextFault
bytes_check bs = unless_byte (bad_byte 1 0 bs) (Ok tt)

abbrev pub text_check : List ℕ → Result (Unit {0}) TextFault
text_check bs = cond (is_text bs) (bytes_check bs) (Err (fault Form 0 0))

abbrev pub rest_fields : Option (List ℕ) → List (List ℕ)
rest_fields None = []
rest_fields (Some r) = fields r

abbrev pub shape_of : Record → Shape
shape_of (Plant k) = a_plant k.now
shape_of (Place n t l) = a_place n.now t.now l.now
shape_of (Move n k) = a_move n.now k.now
shape_of (Arc p m t g) = an_arc p.now m.now t.now g.now
shape_of (Fixed n s b) = no_record
shape_of (Rule n s b) = no_record

abbrev pub rule_shape_of : Record → RuleShape
rule_shape_of (Plant k) = neither
rule_shape_of (Place n t l) = neither
rule_shape_of (Move n k) = neither
rule_shape_of (Arc p m t g) = neither
rule_shape_of (Fixed n s b) = a_fixed n.now s.now b.now
rule_shape_of (Rule n s b) = a_rule n.now s.now b.now

abbrev pub RecordOf : List (List ℕ) → Option Record → Type 0
RecordOf fs None = (shape fs ≡ no_record) × (rule_shape fs ≡ neither)
RecordOf fs (Some r) = (shape fs ≡ shape_of r) × (rule_shape fs ≡ rule_shape_of r)

abbrev pub LineRead : List (List ℕ) → At → Result Record TextFault → Type 0
LineRead fs at (Ok r) = (shape fs ≡ shape_of r) × (rule_shape fs ≡ rule_shape_of r)
LineRead fs at (Err f) = (shape fs ≡ no_record) × (rule_shape fs ≡ neither) × (f ≡ fault NoRecord at.line at.byte)
