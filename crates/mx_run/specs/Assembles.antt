-- What `asm` gives of a source without a fault: for a reader of `asm` alone.
-- The rules: docs/PROMISES.md, "One clause for each command".
use Rattle.std.specs.Prelude.{◌≡◌, ℕ, true, List, [], ◌∷◌, codes, None}
use Rattle.std.specs.Str.{is_utf8}
use Rattle.mx_words.specs.Limits.{most_text_bytes}
use Rattle.mx_io.specs.Store.{FileMap, StoreState}
use Rattle.mx_image.specs.Image.{image_of}
use Rattle.mx_asm.specs.Denoted.{program_of, first_fault}
use Rattle.mx_turns.specs.Ends.{Sinks}
use Rattle.mx_commands.specs.declared.status.Status.{Status}
use Rattle.mx_commands.specs.declared.status.Status.TheVariants.{Ran}
use Rattle.mx_run.specs.Words.{is_name}
use Rattle.mx_run.specs.Promise.{Smoothly}
use Rattle.mx_run.specs.Plainly.{HasFile, HoldsTexts}

-- the image of the source goes to the console, and nothing else is written
abbrev pub Assembles : List (List ℕ) → FileMap → Sinks → Sinks → Status → Type 0
Assembles words files before now result =
    (source bytes : List ℕ) → words ≡ codes "asm" ∷ source ∷ [] → is_name source ≡ true →
    HasFile files most_text_bytes source bytes → is_utf8 bytes ≡ true → first_fault bytes ≡ None →
    (result ≡ Ran) × HoldsTexts (image_of (program_of bytes)) [] [] before now

abbrev pub AssemblesPlainly : List (List ℕ) → StoreState → StoreState → Sinks → Sinks → Status → Type 0
AssemblesPlainly words = Smoothly (Assembles words)
