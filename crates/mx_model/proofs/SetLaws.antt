-- A list with one element set.
use Rattle.std.proofs.Common.{◌≡◌, ℕ, zero, suc, ◌<◌, List, [], ◌∷◌, get_or, set, refl}

-- numbers stay below a bound
pub set-below : (most : ℕ) (xs : List ℕ) (k v : ℕ) → ((i : ℕ) → get_or xs i 0 < most) → v < most → (i : ℕ) → get_or (set xs k v) i 0 < most
set-below most [] k v h p i = h i
set-below most (x ∷ xs) zero v h p zero = p
set-below most (x ∷ xs) zero v h p (suc i) = h (suc i)
set-below most (x ∷ xs) (suc k) v h p zero = h zero
set-below most (x ∷ xs) (suc k) v h p (suc i) = set-below most xs k v (λ j. h (suc j)) p i

-- a part of each element that the new one has too stays as it was
pub part-set : {X Y : Type 0} (part : X → Y) (xs : List X) (k i : ℕ) (x d : X) → part x ≡ part (get_or xs k d) →
    part (get_or (set xs k x) i d) ≡ part (get_or xs i d)
part-set part [] k i x d e = refl
part-set part (y ∷ ys) zero zero x d e = e
part-set part (y ∷ ys) zero (suc i) x d e = refl
part-set part (y ∷ ys) (suc k) zero x d e = refl
part-set part (y ∷ ys) (suc k) (suc i) x d e = part-set part ys k i x d e
