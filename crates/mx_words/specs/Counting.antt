-- Recursions on a number: counting, testing and listing the numbers below it.
-- The rules: docs/MACHINE.md, "Memory, domains, harts".
use Rattle.std.specs.Prelude.{ℕ, zero, suc, ◌+◌, Bool, true, cond, ◌&&◌, List, [], ◌∷◌, ◌++◌}

-- one for true
abbrev pub bit : Bool → ℕ
bit b = cond b 1 0

-- how many numbers below n pass the test
unfoldable pub count_below : ℕ → (ℕ → Bool) → ℕ
count_below zero test = 0
count_below (suc n) test = count_below n test + bit (test n)

-- whether all numbers below n pass the test
unfoldable pub all_below : ℕ → (ℕ → Bool) → Bool
all_below zero test = true
all_below (suc n) test = all_below n test && test n

-- the sum of f over the numbers below n
unfoldable pub sum_below : ℕ → (ℕ → ℕ) → ℕ
sum_below zero f = 0
sum_below (suc n) f = sum_below n f + f n

-- the values of f at the numbers below n, in order
unfoldable pub list_below : {A : Type 0} → ℕ → (ℕ → A) → List A
list_below zero f = []
list_below (suc n) f = list_below n f ++ f n ∷ []
