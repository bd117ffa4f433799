-- What a loaded segment means: its words, its bytes and its permission.
-- The rules: docs/COMMANDS.md, "The manifest".
use Rattle.std.specs.Prelude.{ℕ, ◌+◌, ◌-◌, ◌/◌, ◌%◌, ◌==◌, Bool, ◌&&◌, if◌then◌else◌, List, ◌++◌, take, drop, replicate, Option, Some}
use Rattle.mx_words.specs.declared.perm.Perm.{Perm}
use Rattle.mx_words.specs.declared.perm.Perm.TheVariants as perms
use Rattle.mx_elf.specs.declared.segment.Seg.{Seg}

-- the number of the first word that a segment covers, a word's number being its address / 4
abbrev pub first_word : Seg → ℕ
first_word s = s.address / 4

-- the number of the word after those that it covers
abbrev pub end_word : Seg → ℕ
end_word s = (s.address + s.memory + 3) / 4

-- how many words it covers
abbrev pub word_count : Seg → ℕ
word_count s = end_word s - first_word s

-- its bytes in memory: those of the file, and zeros
unfoldable pub memory_bytes : List ℕ → Seg → List ℕ
memory_bytes bytes s = take s.file (drop s.offset bytes) ++ replicate (s.memory - s.file) 0

-- whether flags say executable, writable, readable
abbrev pub is_executable : ℕ → Bool
is_executable flags = flags % 2 == 1

abbrev pub is_writable : ℕ → Bool
is_writable flags = flags / 2 % 2 == 1

abbrev pub is_readable : ℕ → Bool
is_readable flags = flags / 4 % 2 == 1

-- the permission that flags give; where they say writable and executable it is what the manifest says, if it does
unfoldable pub permission_of : ℕ → Option Perm → Option Perm
permission_of flags said =
    if is_writable flags && is_executable flags then said
    else (if is_writable flags then Some perms.ReadWrite
    else (if is_executable flags then Some perms.ExecuteRead
    else (if is_readable flags then Some perms.Read
    else Some perms.None)))
