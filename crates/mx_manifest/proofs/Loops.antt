-- Loops that look for the first fault.
use Rattle.std.proofs.Common.{◌≡◌, ℕ, ◌+◌, ◌<◌, ◌≤◌, List, length, get_or, drop, map, Option, Some, None, refl, ap, ◌∙◌, sym}
use Rattle.std.proofs.lemmas.List.{drop_more, drop_all}
use Rattle.std.specs.List.{enumerate_from}
use Rattle.toml.specs.Data.{Data}
use Rattle.toml.specs.declared.value.Value.{Value}
use Rattle.toml.specs.View.{view}
use Rattle.mx_manifest.specs.declared.fault.Part.{Part}
use Rattle.mx_manifest.specs.declared.fault.BootFault.{BootFault}
use Rattle.mx_manifest.specs.declared.tables.KeyFault.{KeyFault}
use Rattle.mx_manifest.specs.Faults.{first_of, placed, numbered_fault}

-- the first fault from a place on
abbrev pub first_from : {A F : Type 0} → (A → Option F) → ℕ → List A → Option F
first_from test i xs = first_of (map test (drop i xs))

-- the same of values by their data
abbrev pub found_from : {F : Type 0} → (Data → Option F) → ℕ → List Value → Option F
found_from test i values = first_of (map test (map view (drop i values)))

-- the same of numbered tables
abbrev pub each_from : Part → (ℕ → Data → Option KeyFault) → ℕ → List Value → Option BootFault
each_from sort test i values = first_of (map (numbered_fault sort test) (enumerate_from (i + 1) (map view (drop i values))))

pub each_next : (sort : Part) (test : ℕ → Data → Option KeyFault) (values : List Value) (i : ℕ) (v : Value) → i < length values
    → v ≡ get_or values i v
    → placed sort (i + 1) (test (i + 1) (view v)) ≡ None
    → each_from sort test (i + 1) values ≡ each_from sort test i values
each_next sort test values i v below at none =
    let here : placed sort (i + 1) (test (i + 1) (view (get_or values i v))) ≡ None =
    ap (λ w. placed sort (i + 1) (test (i + 1) (view w))) (sym at) ∙ none in
    rw (drop_more values i v below, here) refl

pub each_here : (sort : Part) (test : ℕ → Data → Option KeyFault) (values : List Value) (i : ℕ) (v : Value) (fault : BootFault)
    → i < length values → v ≡ get_or values i v
    → placed sort (i + 1) (test (i + 1) (view v)) ≡ Some fault
    → Some fault ≡ each_from sort test i values
each_here sort test values i v fault below at some =
    let here : placed sort (i + 1) (test (i + 1) (view (get_or values i v))) ≡ Some fault =
    ap (λ w. placed sort (i + 1) (test (i + 1) (view w))) (sym at) ∙ some in
    rw (drop_more values i v below, here) refl

pub each_over : (sort : Part) (test : ℕ → Data → Option KeyFault) (values : List Value) (i : ℕ) → length values ≤ i
    → each_from sort test i values ≡ None
each_over sort test values i over =
    ap (λ vs. first_of (map (numbered_fault sort test) (enumerate_from (i + 1) (map view vs)))) (drop_all i values over)
