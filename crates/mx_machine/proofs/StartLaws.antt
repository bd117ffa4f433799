-- The harts with which a machine starts or resumes, one by one.
use Rattle.std.proofs.Common.{◌≡◌, ℕ, zero, suc, ◌+◌, ◌*◌, ◌<◌, ◌≤◌, ◌⊎◌, List, [], ◌∷◌, length, get_or, take, refl, ap, ◌∙◌, arith}
use Rattle.std.specs.Option.{option_map_or}
use Rattle.std.specs.Prelude.{slice_get}
use Rattle.std.proofs.Math.Nat.{mul-le-mul_left}
use Rattle.mx_machine.specs.declared.hart.Hart.{Hart}
use Rattle.mx_machine.specs.declared.starts.HartStart.{HartStart}
use Rattle.mx_machine.specs.declared.starts.StackArea.{StackArea}
use Rattle.mx_machine.specs.Harts.{no_held_hart, hart_among}
use Rattle.mx_machine.specs.Starts.{started_from, started_hart}

-- hart i of those that start from number n on, and of those that resume
started-from : (stacks : List StackArea) (n i : ℕ) (starts : List HartStart) →
    get_or (started_from stacks n starts) i no_held_hart ≡ option_map_or (started_hart stacks (n + i)) (slice_get starts i) no_held_hart
started-from stacks n i [] = refl
started-from stacks n zero (s ∷ rest) = let e : n ≡ n + 0 = omega arith in ap (λ k. started_hart stacks k s) e
started-from stacks n (suc i) (s ∷ rest) =
    let e : (n + 1) + i ≡ n + suc i = omega arith in
    started-from stacks (n + 1) i rest ∙ ap (λ k. option_map_or (started_hart stacks k) (slice_get rest i) no_held_hart) e

pub started-at : (stacks : List StackArea) (i : ℕ) (starts : List HartStart) →
    get_or (started_from stacks 0 starts) i no_held_hart ≡ option_map_or (started_hart stacks i) (slice_get starts i) no_held_hart
started-at stacks i starts =
    let e : 0 + i ≡ i = omega arith in
    started-from stacks 0 i starts ∙ ap (λ k. option_map_or (started_hart stacks k) (slice_get starts i) no_held_hart) e

pub length-started : (stacks : List StackArea) (n : ℕ) (starts : List HartStart) → length (started_from stacks n starts) ≡ length starts
length-started stacks n [] = refl
length-started stacks n (s ∷ rest) = ap suc (length-started stacks (n + 1) rest)

-- at most four are their list
pub four-are : (xs : List Hart) (n : ℕ) (a b c d : Hart) → n ≡ length xs → n ≤ 4 → a ≡ hart_among xs 0 → b ≡ hart_among xs 1
    → c ≡ hart_among xs 2 → d ≡ hart_among xs 3 →
    take n (a ∷ b ∷ c ∷ d ∷ []) ≡ xs
four-are xs n a b c d e le ea eb ec ed =
    ap (λ k. take k (a ∷ b ∷ c ∷ d ∷ [])) e
    ∙ ap (λ (x : Hart). take (length xs) (x ∷ b ∷ c ∷ d ∷ [])) ea
    ∙ ap (λ (x : Hart). take (length xs) (hart_among xs 0 ∷ x ∷ c ∷ d ∷ [])) eb
    ∙ ap (λ (x : Hart). take (length xs) (hart_among xs 0 ∷ hart_among xs 1 ∷ x ∷ d ∷ [])) ec
    ∙ ap (λ (x : Hart). take (length xs) (hart_among xs 0 ∷ hart_among xs 1 ∷ hart_among xs 2 ∷ x ∷ [])) ed
    ∙ by xs (omega (arith, e, le))
  where
    by : (xs : List Hart) → length xs ≤ 4 → take (length xs) (hart_among xs 0 ∷ hart_among xs 1 ∷ hart_among xs 2 ∷ hart_among xs 3 ∷ [])
        ≡ xs
    by [] le = refl
    by (x ∷ []) le = refl
    by (x ∷ y ∷ []) le = refl
    by (x ∷ y ∷ z ∷ []) le = refl
    by (x ∷ y ∷ z ∷ w ∷ []) le = refl
    by (x ∷ y ∷ z ∷ w ∷ v ∷ rest) le = absurd (omega (arith, le))

-- an area that lies in RAM for all harts lies there for each, whose number is then small
pub area-fits : (a : StackArea) (most n h : ℕ) → (a.words ≡ 0) ⊎ (a.first + a.words * n ≤ most) → h < n →
    (a.words ≡ 0) ⊎ (a.first + a.words * (h + 1) ≤ most)
area-fits a most n h x lt = grind (arith, mul-le-mul_left)
