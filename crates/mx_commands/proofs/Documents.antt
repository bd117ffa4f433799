-- Bytes as the text of a source.
use Rattle.std.proofs.Common.{◌≡◌, ℕ, List, Bool, true, false, cond, refl}
use Rattle.std.specs.Str.{IsUtf8, is_utf8}
use Rattle.std.proofs.lemmas.Str.{is_utf8-from_IsUtf8, IsUtf8-from_is_utf8}
use Rattle.mx_commands.specs.declared.status.Status.TheVariants.{AsmFault}
use Rattle.mx_commands.specs.Next.{Outcome, refusal}
use Rattle.mx_commands.specs.Commands.{assembled_text, assembled}

pub assembled_source : (source bytes : List ℕ) → IsUtf8 bytes → assembled source bytes ≡ assembled_text source bytes
assembled_source source bytes text = rw (is_utf8-from_IsUtf8 bytes text) refl

other_unless : (b : Bool) (x y : Outcome) → (b ≡ true → ⊥) → cond b x y ≡ y
other_unless true x y fails = absurd (fails refl)
other_unless false x y fails = refl

pub assembled_none : (source bytes : List ℕ) → (IsUtf8 bytes → ⊥) → assembled source bytes ≡ refusal source (AsmFault 0 11)
assembled_none source bytes fails =
    other_unless (is_utf8 bytes) (assembled_text source bytes) (refusal source (AsmFault 0 11)) (λ is. fails (IsUtf8-from_is_utf8 bytes is))
