-- What `twin` gives of two manifests that boot and are alike: for a reader of `twin` alone.
-- The rules: docs/PROMISES.md, "One clause for each command".
use Rattle.std.specs.Prelude.{◌≡◌, ℕ, true, List, [], ◌∷◌, codes, Some, None}
use Rattle.mx_io.specs.Store.{FileMap, StoreState}
use Rattle.mx_model.specs.State.{State, flat}
use Rattle.mx_manifest.specs.Plan.{Said}
use Rattle.mx_twin.specs.Lines.{twin_line}
use Rattle.mx_twin.specs.Twins.{twins}
use Rattle.mx_turns.specs.Ends.{Sinks}
use Rattle.mx_commands.specs.declared.status.Status.{Status}
use Rattle.mx_commands.specs.declared.status.Status.TheVariants.{Ran}
use Rattle.mx_commands.specs.Compared.{first_unlike, is_domain}
use Rattle.mx_commands.specs.Order.{Pair}
use Rattle.mx_run.specs.Words.{pair_of}
use Rattle.mx_run.specs.Promise.{Smoothly}
use Rattle.mx_run.specs.Plainly.{Boots, HoldsTexts}

-- the line of the comparison is the report, and nothing else is written
abbrev pub Compares : List (List ℕ) → FileMap → Sinks → Sinks → Status → Type 0
Compares words files before now result =
    (operands : List (List ℕ)) (p : Pair) (plan other : Said) (s t : State) →
    words ≡ codes "twin" ∷ operands → pair_of operands ≡ Some p →
    Boots files p.first plan s → Boots files p.second other t →
    first_unlike plan other ≡ None → is_domain plan p.domain ≡ true →
    (result ≡ Ran) × HoldsTexts [] (twin_line p.steps (twins p.domain plan.quantum p.steps (flat s) (flat t))) [] before now

abbrev pub ComparesSmoothly : List (List ℕ) → StoreState → StoreState → Sinks → Sinks → Status → Type 0
ComparesSmoothly words = Smoothly (Compares words)
