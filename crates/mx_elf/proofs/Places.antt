-- Going over records one by one.
use Rattle.std.proofs.Common.{◌≡◌, ℕ, suc, ◌+◌, ◌-◌, ◌*◌, ◌<◌, Bool, false, ◌∷◌, refl, ap, arith}
use Rattle.std.specs.Prelude.{find}
use Rattle.mx_elf.specs.Field.{places}

-- all records are those from the first on
pub places-first : (start size count : ℕ) → places (start + size * 0) size (count - 0) ≡ places start size count
places-first start size count =
    let a : start + size * 0 ≡ start = omega arith in
    let b : count - 0 ≡ count = omega arith in
    rw (a, b) refl

-- those from one on are that one and those from the next on
pub places-next : (start size count k : ℕ) → k < count
    → places (start + size * k) size (count - k) ≡ (start + size * k) ∷ places (start + size * (k + 1)) size (count - (k + 1))
places-next start size count k lt =
    let a : count - k ≡ suc (count - (k + 1)) = omega arith in
    let b : start + size * k + size ≡ start + size * (k + 1) = grind arith in
    rw (a) (ap (λ (at : ℕ). (start + size * k) ∷ places at size (count - (k + 1))) b)

pub find-later : (p : ℕ → Bool) (start size count k : ℕ) → k < count → p (start + size * k) ≡ false
    → find p (places (start + size * k) size (count - k)) ≡ find p (places (start + size * (k + 1)) size (count - (k + 1)))
find-later p start size count k lt fails = rw (places-next start size count k lt, fails) refl
