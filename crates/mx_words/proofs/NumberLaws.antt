-- Numbers of permissions, packed permissions, and tests of shifted numbers.
use Rattle.std.proofs.Common.{◌≡◌, ◌≢◌, ℕ, zero, suc, ◌+◌, ◌^◌, ◌<◌, ◌≤◌, ◌==◌, ◌⊎◌, inl, inr, true, false, List, [], ◌∷◌, length}
use Rattle.std.proofs.Common.{unwrap_or, refl, sym, ◌∙◌, arith, eq-eqb}
use Rattle.std.proofs.Math.Nat.{pow-suc}
use Rattle.std.proofs.lemmas.Bool.{ne_eqb}
use Rattle.std.proofs.lemmas.Bool.Decides.{eqb_tells}
use Rattle.mx_words.specs.declared.perm.Perm.{Perm}
use Rattle.mx_words.specs.declared.perm.Perm.TheVariants as P
use Rattle.mx_words.specs.Rights.{number, from_number}
use Rattle.mx_words.specs.Reach.{packed}
use Rattle.mx_words.proofs.RunLaws.{same_eq}

pub number-small : (p : Perm) → number p < 4
number-small P.None = omega arith
number-small P.Read = omega arith
number-small P.ReadWrite = omega arith
number-small P.ExecuteRead = omega arith

-- a permission has its number alone, and is told by it
pub number-one_to_one : (p q : Perm) → number p ≡ number q → p ≡ q
number-one_to_one p q e = same_eq p q (eq-eqb (number p) (number q) e)

pub from_number-number : (p : Perm) → unwrap_or (from_number (number p)) P.None ≡ p
from_number-number P.None = refl
from_number-number P.Read = refl
from_number-number P.ReadWrite = refl
from_number-number P.ExecuteRead = refl

-- n permissions take 2 n bits
pub packed-below : (n : ℕ) (ps : List Perm) → length ps ≤ n → packed ps < 4 ^ n
packed-below zero [] few = omega arith
packed-below zero (p ∷ ps) few = absurd (omega arith)
packed-below (suc n) [] few =
    let more : packed [] < 4 ^ n = packed-below n [] (omega arith) in
    rw pow-suc (omega arith)
packed-below (suc n) (p ∷ ps) few =
    let small : number p < 4 = number-small p in
    let more : packed ps < 4 ^ n = packed-below n ps (omega arith) in
    rw pow-suc (omega arith)

-- a shift that a test doesn't see
pub shift-first : (line a : ℕ) → (line + a == line) ≡ (a == 0)
shift-first line a = cases (eqb_tells a 0)
  where
    cases : ((a == 0) ≡ true) × (a ≡ 0) ⊎ ((a == 0) ≡ false) × (a ≢ 0) → (line + a == line) ≡ (a == 0)
    cases (inl h) = eq-eqb (line + a) line (omega arith) ∙ sym h.0
    cases (inr h) = ne_eqb (line + a) line (λ e. h.1 (omega arith)) ∙ sym h.0
