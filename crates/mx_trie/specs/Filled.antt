-- Lines and pages of which all words have one permission.
use Rattle.std.specs.Prelude.{ℕ, ◌+◌, ◌*◌, List, replicate}
use Rattle.mx_words.specs.declared.perm.Perm.{Perm}

-- a line of one permission
abbrev pub flat_line : Perm → List Perm
flat_line p = replicate 16 p

-- the vector of a block of which all words have the permission with a number
abbrev pub flat_vector : ℕ → ℕ
flat_vector n = 1 + 4 * 0x5555 * n
