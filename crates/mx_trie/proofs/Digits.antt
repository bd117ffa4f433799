-- Digits of two bits, by shift and mask, of packed permissions, and of one permission eight times.
use Rattle.std.proofs.Common.{below_more, below_none}
use Rattle.std.proofs.Common.{◌≡◌, ℕ, zero, suc, ◌+◌, ◌*◌, ◌/◌, ◌%◌, ◌^◌, ◌<◌, List, [], ◌∷◌, refl, ◌∙◌, arith}
use Rattle.std.proofs.Math.Nat.{div-one}
use Rattle.std.proofs.lemmas.Nat.{shr-shr, and_mask}
use Rattle.std.specs.Int.Bits.{bit_and}
use Rattle.mx_words.specs.declared.perm.Perm.{Perm}
use Rattle.mx_words.specs.Rights.{number, perm_at}
use Rattle.mx_words.specs.Reach.{packed}
use Rattle.mx_words.proofs.NumberLaws.{number-small}
use Rattle.mx_trie.specs.Digits.{digit}

-- a shift and a remainder
pub shifted : (w i : ℕ) → w / 2 ^ (2 * i) % 4 ≡ digit w i
unfolding digit
shifted w zero = rw div-one
shifted w (suc i) = let e : 2 * suc i ≡ 2 + 2 * i = omega arith in rw (e, ← shr-shr) (shifted (w / 4) i)

-- a shift and a mask
pub masked : (w i : ℕ) → bit_and (w / 2 ^ (2 * i)) 3 ≡ digit w i
masked w i = and_mask (w / 2 ^ (2 * i)) 2 ∙ shifted w i

-- the digits of packed permissions are their numbers
pub digit-packed : (ps : List Perm) (i : ℕ) → digit (packed ps) i ≡ number (perm_at ps i)
unfolding digit
digit-packed [] zero = refl
digit-packed [] (suc i) = digit-packed [] i
digit-packed (p ∷ ps) zero = omega (arith, number-small p)
digit-packed (p ∷ ps) (suc i) =
    let rest : (number p + 4 * packed ps) / 4 ≡ packed ps = omega (arith, number-small p) in rw rest (digit-packed ps i)

-- the digits of a number in which one digit stands eight times
pub flat-digits : (n e : ℕ) → n ≡ 21845 * (n % 4) → e < 8 → digit n e ≡ n % 4
flat-digits n e same below = let P : ℕ → Type 0 = λ k. digit n k ≡ n % 4 in let m = below_more P in
    m 7 (m 6 (m 5 (m 4 (m 3 (m 2 (m 1 (m 0 (below_none P) (omega (arith, shifted n 0))) (omega (arith, shifted n 1)))
    (omega (arith, shifted n 2))) (omega (arith, shifted n 3)))
    (omega (arith, shifted n 4))) (omega (arith, shifted n 5))) (omega (arith, shifted n 6))) (omega (arith, shifted n 7)) e below
