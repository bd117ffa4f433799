-- A store, and cleared bytes, leave the bytes of other words as they were.
use Rattle.std.proofs.Common.{◌≡◌, ◌≢◌, ◌⊎◌, inl, inr, ⊎_elim, ℕ, zero, suc, ◌+◌, ◌-◌, ◌*◌, ◌/◌, ◌%◌, ◌<◌, ◌≤◌, true, false, nat_lt, List}
use Rattle.std.proofs.Common.{length, get_or, set, refl, ◌∙◌, arith}
use Rattle.std.proofs.lemmas.List.{get_or-set_other}
use Rattle.std.proofs.lemmas.Bool.{ltb-true, ltb-false}
use Rattle.std.proofs.lemmas.Grind.{common_steps}
use Rattle.mx_words.specs.Bytes.{put_at, cleared_at, IsSize}
use Rattle.mx_words.specs.Ranges.{ram_base}
use Rattle.mx_model.proofs.AlignedLaws.{in-word}

-- a place outside `size` places from k on
abbrev pub IsOutside : ℕ → ℕ → ℕ → Type 0
IsOutside k size j = (j < k) ⊎ (k + size ≤ j)

pub put-outside : (size : ℕ) (xs : List ℕ) (k n j : ℕ) → IsOutside k size j → get_or (put_at xs k size n) j 0 ≡ get_or xs j 0
unfolding put_at
put-outside zero xs k n j p = refl
put-outside (suc size) xs k n j p =
    let q : IsOutside (k + 1) size j = ⊎_elim (λ l. let e : j < k + 1 = omega (arith, l) in inl e) (λ l. let e : k + 1 + size ≤ j =
    omega (arith, l) in inr e) p in
    let other : j ≢ k = ⊎_elim (λ l. λ e. let z : ⊥ = omega (arith, l, e) in z) (λ l. λ e. let z : ⊥ = omega (arith, l, e) in z) p in
    put-outside size (set xs k (n % 256)) (k + 1) (n / 256) j q ∙ get_or-set_other xs k j (n % 256) 0 other

pub cleared-outside : (xs : List ℕ) (k n j : ℕ) → k + n ≤ length xs → IsOutside k n j → get_or (cleared_at xs k n) j 0 ≡ get_or xs j 0
unfolding cleared_at
cleared-outside xs k n j l p = ⊎_elim (λ e. below e) (λ e. behind e) p
  where
    below : j < k → get_or (cleared_at xs k n) j 0 ≡ get_or xs j 0
    below e = grind (arith, common_steps)

    behind : k + n ≤ j → get_or (cleared_at xs k n) j 0 ≡ get_or xs j 0
    behind e = grind (arith, common_steps)

-- an aligned store is outside every word but one
pub store-outside : (size address w k : ℕ) → IsSize size → address % size ≡ 0 → ram_base ≤ address → w ≢ (address - ram_base) / 4 → k < 4 →
    IsOutside (address - ram_base) size (4 * w + k)
store-outside size address w k s a b n l = elim (nat_lt w ((address - ram_base) / 4)) as (λ t. nat_lt w ((address - ram_base) / 4) ≡ t
    → IsOutside (address - ram_base) size (4 * w + k)) [
      | true ↦ λ t. let e = ltb-true w ((address - ram_base) / 4) t in let q : 4 * w + k < address - ram_base = omega (arith, e, l) in inl q
      | false ↦ λ t. let e = ltb-false w ((address - ram_base) / 4) t in
          let i = in-word size address s a b in
          let m : (address - ram_base) / 4 < w = omega (arith, e, n) in
          let q : address - ram_base + size ≤ 4 * w + k = omega (arith, m, i) in inr q
    ] refl
