-- What the program does next: it reads one more file, or it ends with a status and three texts.
-- The rules: docs/COMMANDS.md, "What is judged first".
use Rattle.std.specs.Prelude.{ℕ, List, [], ◌∷◌, Option, Some, None, unwrap_or}
use Rattle.mx_turns.specs.Ends.{Texts, still}
use Rattle.mx_commands.specs.declared.status.FileRole.{FileRole}
use Rattle.mx_commands.specs.declared.status.Status.{Status}
use Rattle.mx_commands.specs.declared.status.Status.TheVariants.{Ran, StoreFault, ShortFile, NoFile}
use Rattle.mx_commands.specs.Refusal.{line_of}
use Rattle.mx_commands.specs.Finding.{Finding, Absent, Large, Short, Broken, Whole}

-- a status, and the text of each sink
pub record Outcome : Type 0 where
  pub status : Status
  pub texts : Texts

-- a refusal writes its line and nothing else; the name is that of the file that it is about
abbrev pub refusal : List ℕ → Status → Outcome
refusal name status = record {
  status = status;
  texts = still [] (unwrap_or (line_of name status) []) [];
}

-- a report is all that a command writes
abbrev pub reported : List ℕ → Outcome
reported text = record { status = Ran; texts = still [] text [] }

-- a file that is to be read: its role, its name, the most bytes that it may have, and the status where it has more
pub record Wanted : Type 0 where
  pub role : FileRole
  pub name : List ℕ
  pub most : ℕ
  pub large : Status

-- the status of a file that isn't whole, or none
abbrev pub lack_of : Wanted → Finding → Option Status
lack_of file Absent = Some (NoFile file.role)
lack_of file Large = Some file.large
lack_of file (Short told got) = Some (ShortFile file.role told got)
lack_of file Broken = Some StoreFault
lack_of file (Whole bytes) = None

-- the bytes that were found
abbrev pub bytes_of : Finding → List ℕ
bytes_of Absent = []
bytes_of Large = []
bytes_of (Short told got) = []
bytes_of Broken = []
bytes_of (Whole bytes) = bytes

-- what the program does next: it reads this file, or it ends with this outcome
pub data Next : Type 0 where
  Read : Wanted → Next
  End : Outcome → Next

-- a file that isn't whole ends the call with its line
abbrev pub unless : Wanted → Option Status → Next → Next
unless file None whole = whole
unless file (Some status) whole = End (refusal file.name status)

-- a file is read, and then the rest follows from its bytes and the findings after it
abbrev pub after_file : Wanted → (List ℕ → List Finding → Next) → List Finding → Next
after_file file rest [] = Read file
after_file file rest (found ∷ more) = unless file (lack_of file found) (rest (bytes_of found) more)
