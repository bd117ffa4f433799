-- Readers of bytes: what each takes from a place on, or the place and number of the first fault.
-- The faults: docs/COMMANDS.md, "The snapshot".
use Rattle.std.specs.Prelude.{ℕ, zero, suc, ◌+◌, Bool, nat_le, List, [], ◌∷◌, ◌++◌, length, take, drop, if◌then◌else◌}
use Rattle.mx_words.specs.Bytes.{number_at}

-- what was read, and the place after it; or the place of a field and the number of its fault
pub data Taken (A : Type 0) : Type 0 where
  Took : A → ℕ → Taken A
  Fails : ℕ → ℕ → Taken A

-- a reader takes something of the bytes from a place on
abbrev pub Reader : Type 0 → Type 0
Reader A = List ℕ → ℕ → Taken A

-- what was read is handed on
abbrev pub goes_on : {A B : Type 0} → (A → Reader B) → List ℕ → Taken A → Taken B
goes_on next bytes (Took a after) = next a bytes after
goes_on next bytes (Fails at fault) = Fails at fault

-- a reader, and another behind it
infixl 10 ◌>>=◌
abbrev pub ◌>>=◌ : {A B : Type 0} → Reader A → (A → Reader B) → Reader B
◌>>=◌ reader next bytes at = goes_on next bytes (reader bytes at)

-- nothing is read
abbrev pub done : {A : Type 0} → A → Reader A
done a bytes at = Took a at

-- a field of so many bytes; fault 2 where it ends past the file
abbrev pub piece : ℕ → Reader (List ℕ)
piece size bytes at =
    if nat_le (at + size) (length bytes) then Took (take size (drop at bytes)) (at + size)
    else Fails at 2

-- a number of so many bytes
abbrev pub number_of : ℕ → Reader ℕ
number_of size bytes at =
    if nat_le (at + size) (length bytes) then Took (number_at bytes at size) (at + size)
    else Fails at 2

abbrev pub number : Reader ℕ
number = number_of 4

-- what was read of a field that begins at a place passes a test, or the field has a fault
abbrev pub tested : {A : Type 0} → ℕ → (A → Bool) → ℕ → Taken A → Taken A
tested fault test at (Took a after) = if test a then Took a after else Fails at fault
tested fault test at (Fails place which) = Fails place which

abbrev pub such_or : {A : Type 0} → ℕ → (A → Bool) → Reader A → Reader A
such_or fault test reader bytes at = tested fault test at (reader bytes at)

-- a field is in its range, or it has fault 4
abbrev pub such : {A : Type 0} → (A → Bool) → Reader A → Reader A
such test reader = such_or 4 test reader

-- what a field's number means
abbrev pub meant : {A B : Type 0} → (A → B) → Reader A → Reader B
meant f reader = reader >>= λ a. done (f a)

-- so many items more, each read by those before it
abbrev pub list_of : {A : Type 0} → ℕ → (List A → Reader A) → List A → Reader (List A)
list_of zero item before = done before
list_of (suc n) item before = item before >>= λ a. list_of n item (before ++ a ∷ [])
