-- Values under names, the newest first: the one under a name is the first of that name.
use Rattle.std.specs.Prelude.{List, ℕ, map, string_bytes}
use Rattle.mx_io.specs.declared.named.Named.{Named}

-- the names with their values
abbrev pub named : {V : Type 0} → List (Named V) → List (List ℕ × V)
named entries = map (λ e. (string_bytes e.name, e.value)) entries
