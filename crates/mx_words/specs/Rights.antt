-- Permissions and what they allow. A permission belongs to a domain and a word of RAM.
-- The rules: docs/MACHINE.md, "Memory, domains, harts".
use Rattle.std.specs.Prelude.{ℕ, Bool, true, false, not, List, ◌==◌, Option, Some, if◌then◌else◌, slice_index_or, length}
use Rattle.std.specs.Prelude.{None as Nothing}
use Rattle.mx_words.specs.declared.perm.Perm.{Perm}
use Rattle.mx_words.specs.declared.perm.Perm.TheVariants as P
use Rattle.mx_words.specs.declared.perm.Access.{Access}
use Rattle.mx_words.specs.declared.perm.Access.TheVariants as A
use Rattle.std.specs.Option.{option_map_or}
use Rattle.mx_words.specs.Ranges.{word_of}

-- the number of a permission, as it is stored and as the supervisor's calls take it
abbrev pub number : Perm → ℕ
number P.None = 0
number P.Read = 1
number P.ReadWrite = 2
number P.ExecuteRead = 3

-- the permission with a number, and nothing above 3
abbrev pub from_number : ℕ → Option Perm
from_number n =
    if n == 0 then Some P.None else
    if n == 1 then Some P.Read else
    if n == 2 then Some P.ReadWrite else
    if n == 3 then Some P.ExecuteRead else Nothing

-- whether two permissions are the same
abbrev pub same : Perm → Perm → Bool
same p q = number p == number q

-- a load needs any permission but none, a store read-write, a fetch execute-read
abbrev pub allows : Perm → Access → Bool
allows P.None a = false
allows P.Read A.Read = true
allows P.Read A.Write = false
allows P.Read A.Execute = false
allows P.ReadWrite A.Read = true
allows P.ReadWrite A.Write = true
allows P.ReadWrite A.Execute = false
allows P.ExecuteRead A.Read = true
allows P.ExecuteRead A.Write = false
allows P.ExecuteRead A.Execute = true

-- the permission of a word in a domain's map, the list of the permissions of RAM's words; none outside RAM
abbrev pub perm_at : List Perm → ℕ → Perm
perm_at m i = slice_index_or m i P.None

-- the permission of the word that holds an address, none outside RAM
abbrev pub perm : List Perm → ℕ → Perm
perm m address = option_map_or (perm_at m) (word_of address (length m)) P.None

-- whether the permissions of a domain, by address, deny an access at an address
abbrev pub denies : (ℕ → Perm) → ℕ → Access → Bool
denies perms address access = not (allows (perms address) access)
