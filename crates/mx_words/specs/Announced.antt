-- The range of words that an announced call may change.
-- The rules: docs/MACHINE.md, "Announced calls".
use Rattle.std.specs.Prelude.{ℕ, ◌==◌, ◌||◌, Bool, if◌then◌else◌}
use Rattle.mx_words.specs.Calls.{grant_call, revoke_all_call, alloc_call, free_call}
use Rattle.mx_words.specs.Ranges.{range_words}

-- whether a call is announced: grant, revoke_all, alloc and free change rights
abbrev pub is_announced : ℕ → Bool
is_announced number =
    (number == grant_call) || (number == revoke_all_call) || (number == alloc_call)
    || (number == free_call)

-- whether an announced call names its range
abbrev pub names_range : ℕ → Bool
names_range number = (number == grant_call) || (number == revoke_all_call)

-- grant and revoke_all announce the range of a0 and a1, alloc and free the caller's heap area; no words are (0, 0)
abbrev pub announced : ℕ → ℕ → ℕ → ℕ → (ℕ × ℕ) → (ℕ × ℕ)
announced number a0 a1 words heap =
    if names_range number then range_words a0 a1 words else heap
