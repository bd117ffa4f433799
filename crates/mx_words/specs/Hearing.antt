-- Calls in flight, as the other harts hear them. A set of harts has a place for each of the four.
-- The rules: docs/MACHINE.md, "Announced calls".
use Rattle.std.specs.Prelude.{ℕ, Bool, true, false, ◌==◌, ◌&&◌, ◌||◌, List, replicate, slice_index_or, slice_set, if◌then◌else◌, Option}
use Rattle.std.specs.Prelude.{Some, None}
use Rattle.mx_words.specs.declared.perm.Span.{Span}
pub use Rattle.mx_words.specs.Limits.{most_harts}
use Rattle.mx_words.specs.Caches.{meets}

-- whether hart h is in a set of harts
abbrev pub is_in : List Bool → ℕ → Bool
is_in set h = slice_index_or set h false

-- nobody has heard a call that was just announced
abbrev pub nobody : List Bool
nobody = replicate most_harts false

-- the set with hart h in it
abbrev pub with_hearer : ℕ → List Bool → List Bool
with_hearer h heard = slice_set heard h true

-- the range of a call where hart h has heard it, and where it hasn't
abbrev pub heard_range : ℕ → List Bool → ℕ × ℕ → Option (ℕ × ℕ)
heard_range h heard range = if is_in heard h then Some range else None

abbrev pub unheard_range : ℕ → List Bool → ℕ × ℕ → Option (ℕ × ℕ)
unheard_range h heard range = if is_in heard h then None else Some range

-- whether a call that hart h has heard keeps it from keeping a span
abbrev pub forbids_keeping : ℕ → List Bool → ℕ × ℕ → Span → Bool
forbids_keeping h heard range s = is_in heard h && meets s range.0 range.1

-- whether hart i doesn't hold up a call of hart h: it is h, is halted, or has heard the call
abbrev pub lets_pass : ℕ → List Bool → ℕ → Bool → Bool
lets_pass h heard i halted = (i == h) || halted || is_in heard i
