-- The checks of a whole text, whatever its lines are.
use Rattle.std.proofs.Common.{◌≡◌, ℕ, Bool, true, false, cond, List, Some, None, Ok, Err, Option, Result, refl, arith}
use Rattle.model.specs.declared.refusal.Refusal.TheVariants.{Form}
use Rattle.formats.specs.declared.fault.TextFault.{TextFault}
use Rattle.formats.specs.Words.{lines}
use Rattle.formats.specs.Texts.{Reader, fault, read_lines, is_text, IsText, bad_byte, unless_byte, read_text}
use Rattle.formats.proofs.Whole.{d_text}
use Rattle.texts.specs.Lines.{bytes_check, text_check}

abbrev fine : Result (Unit {0}) TextFault
fine = Ok tt

pub text_refused : {X : Type 0} (R : Reader X) (bs : List ℕ) (f : TextFault) → Err f ≡ text_check bs → read_text R bs ≡ Err f
unfolding read_text
text_refused {X} R bs f e = go (is_text bs) e
  where
    bytes : (o : Option TextFault) → Err f ≡ unless_byte o fine → unless_byte o (read_lines R None 1 0 (lines bs)) ≡ Err f
    bytes None q = let z : ◌≡◌ {A = ℕ} 0 1 = cc in absurd (omega arith)
    bytes (Some g) q = cc

    go : (b : Bool) → Err f ≡ cond b (bytes_check bs) (Err (fault Form 0 0)) → cond b (unless_byte (bad_byte 1 0 bs) (read_lines R None 1 0 (lines bs))) (Err (fault Form 0 0)) ≡ Err f
    go true q = bytes (bad_byte 1 0 bs) q
    go false q = cc

pub text_passed : {X : Type 0} (R : Reader X) (bs : List ℕ) → fine ≡ text_check bs → IsText bs × (read_text R bs ≡ read_lines R None 1 0 (lines bs))
unfolding read_text
text_passed {X} R bs e = go (is_text bs) refl e
  where
    bytes : (o : Option TextFault) → fine ≡ unless_byte o fine → unless_byte o (read_lines R None 1 0 (lines bs)) ≡ read_lines R None 1 0 (lines bs)
    bytes None q = refl
    bytes (Some g) q = let z : ◌≡◌ {A = ℕ} 0 1 = cc in absurd (omega arith)

    go : (b : Bool) → is_text bs ≡ b → fine ≡ cond b (bytes_check bs) (Err (fault Form 0 0))
        → IsText bs × (cond b (unless_byte (bad_byte 1 0 bs) (read_lines R None 1 0 (lines bs))) (Err (fault Form 0 0)) ≡ read_lines R None 1 0 (lines bs))
    go true p q = ((d_text bs).0 p, bytes (bad_byte 1 0 bs) q)
    go false p q = let z : ◌≡◌ {A = ℕ} 0 1 = cc in absurd (omega arith)
