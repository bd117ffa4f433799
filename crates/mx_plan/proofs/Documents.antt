-- Bytes as a TOML document.
use Rattle.std.proofs.Common.{◌≡◌, ℕ, List, Bool, true, false, cond, Option, None, refl}
use Rattle.std.specs.Str.{IsUtf8, is_utf8}
use Rattle.std.proofs.lemmas.Str.{is_utf8-from_IsUtf8, IsUtf8-from_is_utf8}
use Rattle.toml.specs.Parse.{parse_document}
use Rattle.mx_plan.specs.Manifest.{document}

pub document_text : (bytes : List ℕ) → IsUtf8 bytes → document bytes ≡ parse_document bytes
document_text bytes text = rw (is_utf8-from_IsUtf8 bytes text) refl

none_unless : (b : Bool) {A : Type 0} (o : Option A) → (b ≡ true → ⊥) → cond b o None ≡ None
none_unless true o fails = absurd (fails refl)
none_unless false o fails = refl

pub document_none : (bytes : List ℕ) → (IsUtf8 bytes → ⊥) → document bytes ≡ None
document_none bytes fails = none_unless (is_utf8 bytes) (parse_document bytes) (λ is. fails (IsUtf8-from_is_utf8 bytes is))
