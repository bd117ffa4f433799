-- Sign extension, and the numbers that it gives.
use Rattle.std.proofs.Common.{◌≡◌, ℕ, ◌^◌, ◌%◌, ◌<◌, arith}
use Rattle.std.proofs.lemmas.Bool.Decides.{nat_tests}
use Rattle.mx_isa.specs.Fields.{extended}
use Rattle.mx_isa.specs.Ranges.{IsExtended}

-- the low 12 bits of an extended number give it again
pub extended-low_12 : (imm n : ℕ) → IsExtended 12 imm → n ≡ imm % 2 ^ 12 → extended 12 n ≡ imm
unfolding extended
extended-low_12 imm n v e = grind (arith, nat_tests)

pub extended-low_13 : (imm n : ℕ) → IsExtended 13 imm → n ≡ imm % 2 ^ 13 → extended 13 n ≡ imm
unfolding extended
extended-low_13 imm n v e = grind (arith, nat_tests)

pub extended-low_21 : (imm n : ℕ) → IsExtended 21 imm → n ≡ imm % 2 ^ 21 → extended 21 n ≡ imm
unfolding extended
extended-low_21 imm n v e = grind (arith, nat_tests)

-- an extended number is in range, and its low bits are the number
pub IsExtended-12 : (n : ℕ) → n < 2 ^ 12 → IsExtended 12 (extended 12 n)
unfolding extended
IsExtended-12 n h = grind (arith, nat_tests)

pub IsExtended-13 : (n : ℕ) → n < 2 ^ 13 → IsExtended 13 (extended 13 n)
unfolding extended
IsExtended-13 n h = grind (arith, nat_tests)

pub IsExtended-21 : (n : ℕ) → n < 2 ^ 21 → IsExtended 21 (extended 21 n)
unfolding extended
IsExtended-21 n h = grind (arith, nat_tests)

pub low-extended_12 : (n : ℕ) → n < 2 ^ 12 → extended 12 n % 2 ^ 12 ≡ n
unfolding extended
low-extended_12 n h = grind (arith, nat_tests)

pub low-extended_13 : (n : ℕ) → n < 2 ^ 13 → extended 13 n % 2 ^ 13 ≡ n
unfolding extended
low-extended_13 n h = grind (arith, nat_tests)

pub low-extended_21 : (n : ℕ) → n < 2 ^ 21 → extended 21 n % 2 ^ 21 ≡ n
unfolding extended
low-extended_21 n h = grind (arith, nat_tests)
