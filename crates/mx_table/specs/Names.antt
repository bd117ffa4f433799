-- Which domains a change names.
use Rattle.std.specs.Prelude.{◌≡◌, ℕ, ◌<◌, ◌⊎◌, List, slice_index_or, Option, None}
use Rattle.mx_words.specs.declared.perm.Perm.{Perm}

-- permissions by domain number name no domain but 1 to `domains`
abbrev pub NamesUpTo : ℕ → List (Option Perm) → Type 0
NamesUpTo domains perms = (d : ℕ) → (d ≡ 0) ⊎ (domains < d) → slice_index_or perms d None ≡ None
