-- Decimal digits and the number that they spell.
use Rattle.std.proofs.Common.{◌≡◌, ℕ, zero, suc, ◌+◌, ◌-◌, ◌*◌, ◌^◌, ◌<◌, ◌≤◌, true, List, [], ◌∷◌, length, get_or, ◌∙◌, mul_comm, arith}
use Rattle.std.proofs.lemmas.Nat.{pow-add}
use Rattle.std.proofs.lemmas.Bool.{and_parts}
use Rattle.std.proofs.lemmas.Bool.Decides.{nat_tests}
use Rattle.std.specs.Char.{is_ascii_digit, digit_value}
use Rattle.std.specs.List.{list_all}

-- a digit's code
pub digit_at : (bytes : List ℕ) (i : ℕ) → list_all is_ascii_digit bytes ≡ true → i < length bytes → is_ascii_digit (get_or bytes i 0) ≡ true
digit_at [] i all below = absurd (omega arith)
digit_at (b ∷ bytes) zero all below = (and_parts (is_ascii_digit b) (list_all is_ascii_digit bytes) all).0
digit_at (b ∷ bytes) (suc i) all below = digit_at bytes i (and_parts (is_ascii_digit b) (list_all is_ascii_digit bytes) all).1 (omega arith)

pub digit_range : (c : ℕ) → is_ascii_digit c ≡ true → (48 ≤ c) × (c ≤ 57)
digit_range c digit = grind (arith, nat_tests)

pub digit_value_is : (c : ℕ) → is_ascii_digit c ≡ true → digit_value c ≡ c - 48
digit_value_is c digit = grind (arith, nat_tests)

pub pow_next : (i : ℕ) → 10 ^ (i + 1) ≡ 10 * 10 ^ i
pow_next i = pow-add 10 i 1 ∙ mul_comm (10 ^ i) 10
