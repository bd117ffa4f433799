-- Blocks beside a range.
use Rattle.std.specs.Prelude.{ℕ, ◌<◌, ◌≤◌, ◌⊎◌}

-- the words begin to stop - 1 don't all lie in the range first to end - 1, or none does
abbrev pub IsInside : ℕ → ℕ → ℕ → ℕ → Type 0
IsInside first end begin stop = (begin < first) ⊎ (end < stop)

abbrev pub IsApart : ℕ → ℕ → ℕ → ℕ → Type 0
IsApart first end begin stop = (stop ≤ first) ⊎ (end ≤ begin)
