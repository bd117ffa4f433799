-- What a subtraction of numbers below 2 ^ 32 borrows, in 64 bits.
use Rattle.std.proofs.Common.{◌≡◌, ℕ, ◌+◌, ◌-◌, ◌/◌, ◌%◌, ◌<◌, ◌≤◌, arith}

module _ (a b : ℕ) (low : a < 4294967296) where
  pub borrows : a < b → b ≤ 4294967296 → (a + (18446744073709551616 - b)) % 18446744073709551616 / 9223372036854775808 ≡ 1
  borrows lt most = omega arith

  pub borrows_none : b ≤ a → (a + (18446744073709551616 - b)) % 18446744073709551616 / 9223372036854775808 ≡ 0
  borrows_none ge = omega arith

  -- the high half is all ones where it borrows, else zero
  pub high_ones : a < b → b ≤ 4294967296 → (a + (18446744073709551616 - b)) % 18446744073709551616 / 4294967296 ≡ 4294967295
  high_ones lt most = omega arith

  pub high_none : b ≤ a → (a + (18446744073709551616 - b)) % 18446744073709551616 / 4294967296 ≡ 0
  high_none ge = omega arith
