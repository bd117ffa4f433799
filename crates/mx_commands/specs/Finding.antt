-- What a call finds of a file, by the answers that the store gave about it.
-- The rules: docs/COMMANDS.md, "What is judged first".
use Rattle.std.specs.Prelude.{◌≡◌, ℕ, ◌-◌, ◌<◌, ◌≤◌, ◌⊎◌, nat_lt, if◌then◌else◌, List, [], ◌∷◌, ◌++◌, length, Option, Some, None}
use Rattle.std.specs.FinMap.{get}
use Rattle.mx_io.specs.Store.{FileMap}
use Rattle.mx_io.specs.Answer.{Answer, Sized, Gave}

-- no file of that name, one over the limit, one that ended after so many bytes before the size told, a failing store, or
-- the bytes of the file
pub data Finding : Type 0 where
  Absent : Finding
  Large : Finding
  Short : ℕ → ℕ → Finding
  Broken : Finding
  Whole : List ℕ → Finding

-- the last part of a file that isn't whole: its reading failed, or it has no bytes
abbrev pub EndsEarly : Option (List ℕ) → ℕ → ℕ → Finding → Type 0
EndsEarly None told got found = found ≡ Broken
EndsEarly (Some []) told got found = found ≡ Short told got
EndsEarly (Some (byte ∷ bytes)) told got found = ⊥

-- answers about a file for which a size was told and of which these bytes came: each part is asked for all that is missing,
-- until as many bytes as told have come, or a part is the last one early
abbrev pub Completes : List ℕ → ℕ → List ℕ → List Answer → Finding → Type 0
Completes name told got [] found = (length got ≡ told) × (found ≡ Whole got)
Completes name told got (answer ∷ more) found =
    (length got < told) × (part : Option (List ℕ))
    × (answer ≡ Gave name (length got) (told - length got) part)
    × (((bytes : List ℕ) × (part ≡ Some bytes) × (0 < length bytes)
    × Completes name told (got ++ bytes) more found)
    ⊎ (EndsEarly part told (length got) found × (more ≡ [])))

-- answers that follow that of the file's size
abbrev pub FindsSized : ℕ → List ℕ → Option (Option ℕ) → List Answer → Finding → Type 0
FindsSized most name None more found = (found ≡ Broken) × (more ≡ [])
FindsSized most name (Some None) more found = (found ≡ Absent) × (more ≡ [])
FindsSized most name (Some (Some told)) more found =
    ((most < told) × (found ≡ Large) × (more ≡ []))
    ⊎ ((told ≤ most) × Completes name told [] more found)

-- what the answers about one file of at most so many bytes come to: its size is asked first
abbrev pub Finds : ℕ → List ℕ → List Answer → Finding → Type 0
Finds most name [] found = ⊥
Finds most name (answer ∷ more) found =
    (size : Option (Option ℕ)) × (answer ≡ Sized name size) × FindsSized most name size more found

-- what is found of a file where nothing fails and its size is that of its bytes
abbrev pub found_file : ℕ → Option (List ℕ) → Finding
found_file most None = Absent
found_file most (Some bytes) = if nat_lt most (length bytes) then Large else Whole bytes

-- the same by its name
abbrev pub found_in : FileMap → ℕ → List ℕ → Finding
found_in files most name = found_file most (get files name)
