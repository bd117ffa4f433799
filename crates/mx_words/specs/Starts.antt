-- Where the maximal runs of a list begin.
use Rattle.std.specs.Prelude.{ℕ, ◌-◌, Bool, not, ◌==◌, ◌||◌, List, slice_index_or}
use Rattle.mx_words.specs.declared.perm.Perm.{Perm}
use Rattle.mx_words.specs.declared.perm.Perm.TheVariants as P
use Rattle.mx_words.specs.Rights.{same}

-- whether a run begins at place i: the first place, and each whose element differs from that before
abbrev pub begins : {A : Type 0} → (A → A → Bool) → A → List A → ℕ → Bool
begins eq default xs i =
    i == 0 || not (eq (slice_index_or xs (i - 1) default) (slice_index_or xs i default))

-- whether a run of permissions begins at word i of a map
abbrev pub is_start : List Perm → ℕ → Bool
is_start m i = begins same P.None m i

-- whether a run of owners begins at word i
abbrev pub is_owner_start : List ℕ → ℕ → Bool
is_owner_start os i = begins (λ a b. a == b) 0 os i
