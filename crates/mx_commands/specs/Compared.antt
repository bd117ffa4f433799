-- The comparison of two booted machines: where their plans are unlike, and its outcome.
-- The rules: docs/COMMANDS.md, "The comparison".
use Rattle.std.specs.Prelude.{ℕ, Bool, true, false, not, ◌&&◌, ◌==◌, nat_le, if◌then◌else◌, [], length, Option, Some, None}
use Rattle.mx_manifest.specs.declared.fault.Key.{Key}
use Rattle.mx_manifest.specs.declared.fault.Key.TheVariants as key
use Rattle.mx_manifest.specs.Plan.{Said}
use Rattle.mx_model.specs.State.{State, flat}
use Rattle.mx_twin.specs.Lines.{twin_line}
use Rattle.mx_twin.specs.Twins.{twins}
use Rattle.mx_commands.specs.declared.status.Status.TheVariants.{Unlike, NoDomain}
use Rattle.mx_commands.specs.Next.{Outcome, refusal, reported}
use Rattle.mx_commands.specs.Order.{Pair}

-- the first key in which two plans differ that have to agree in it
abbrev pub first_unlike : Said → Said → Option Key
first_unlike a b =
    if not (a.ram_kib == b.ram_kib) then Some key.RamKib
    else if not (a.quantum == b.quantum) then Some key.Quantum
    else if not (length a.modules == length b.modules) then Some key.Module
    else if not (length a.harts == length b.harts) then Some key.Hart
    else None

-- whether a number is that of a module's domain
abbrev pub is_domain : Said → ℕ → Bool
is_domain plan d = nat_le 1 d && nat_le d (length plan.modules)

-- plans that differ in a key end the comparison
abbrev pub unlike : Option Key → Outcome → Outcome
unlike None other = other
unlike (Some key) other = refusal [] (Unlike key)

-- two plans that are alike and their states at boot, compared for a domain, or refused where that is no module's
abbrev pub alike_by : Bool → Pair → Said → State → State → Outcome
alike_by true p plan s t =
    reported (twin_line p.steps (twins p.domain plan.quantum p.steps (flat s) (flat t)))
alike_by false p plan s t = refusal [] NoDomain

abbrev pub alike : Pair → Said → State → State → Outcome
alike p plan s t = alike_by (is_domain plan p.domain) p plan s t

-- two plans and their states at boot, compared
abbrev pub compared : Pair → Said → State → Said → State → Outcome
compared p plan s other t = unlike (first_unlike plan other) (alike p plan s t)
