-- Digits of two bits.
use Rattle.std.specs.Prelude.{ℕ, zero, suc, ◌/◌, ◌%◌, unwrap_or}
use Rattle.mx_words.specs.declared.perm.Perm.{Perm}
use Rattle.mx_words.specs.declared.perm.Perm.TheVariants as P
use Rattle.mx_words.specs.Rights.{from_number}

-- the digit at a place of a number, the lowest at place 0
unfoldable pub digit : ℕ → ℕ → ℕ
digit number zero = number % 4
digit number (suc place) = digit (number / 4) place

-- the permission with a number, which is below 4
abbrev pub numbered : ℕ → Perm
numbered n = unwrap_or (from_number n) P.None
