-- A count of faults in a call: the value of a u64, which never falls.
-- The rules: docs/PROMISES.md, "The outside".
use Rattle.std.specs.Prelude.{◌≡◌, ℕ, ◌+◌, ◌-◌, ◌^◌, ◌<◌, ◌≤◌, min, ◌⊎◌}

-- where a count of faults ends: it stands still there
abbrev pub count_end : ℕ
count_end = 2 ^ 64 - 1

-- a count after one more fault
abbrev pub raised : ℕ → ℕ
raised count = min (count + 1) count_end

-- the count rose in a call: it is greater at the end than at the start, or stands at its end
abbrev pub Rose : ℕ → ℕ → Type 0
Rose before now = (before < now) ⊎ (count_end ≤ now)

-- the count stays in a call: it is the same at both, and not at its end
abbrev pub Stays : ℕ → ℕ → Type 0
Stays before now = (now ≡ before) × (now < count_end)
