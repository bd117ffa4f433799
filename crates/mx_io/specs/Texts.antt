-- What a sink that tells its bytes holds after a text was put on it.
-- The rules: docs/COMMANDS.md, "How texts leave".
use Rattle.std.specs.Prelude.{ℕ, ◌<◌, List, length, take, Option}
use Rattle.std.specs.Io.KnownBytes.{Appends}

-- the text was appended whole, where the bytes before it are told
pub record AppendsWhole (before now : Option (List ℕ)) (text : List ℕ) : Type 0 where
  pub grows : Appends before now text

-- a prefix of the text was appended
abbrev pub AppendsPrefix : Option (List ℕ) → Option (List ℕ) → List ℕ → Type 0
AppendsPrefix before now text = (n : ℕ) × AppendsWhole before now (take n text)

-- a prefix of the text was appended that isn't the whole text
abbrev pub AppendsFront : Option (List ℕ) → Option (List ℕ) → List ℕ → Type 0
AppendsFront before now text =
    (n : ℕ) × (n < length text) × AppendsWhole before now (take n text)
