-- Two machines that make the same harts' turns, and the first turn after which agreement fails for a domain.
-- The rules: docs/MACHINE.md, "Agreement".
use Rattle.std.specs.Prelude.{◌≡◌, ◌≢◌, ℕ, zero, suc, ◌+◌, ◌/◌, ◌%◌, true, false, length, if◌then◌else◌}
use Rattle.mx_model.specs.declared.values.TurnKind.TheVariants as T
use Rattle.mx_model.specs.Run.{flat_kind, flat_turn}
use Rattle.mx_model.specs.State.{Flat}
use Rattle.mx_touched.specs.Pairs.{fails, is_compared}
use Rattle.mx_twin.specs.declared.twin.TwinEnd.{TwinEnd}
use Rattle.mx_twin.specs.declared.twin.TwinEnd.TheVariants as E

-- the hart that makes the turn after `made` others: each makes `quantum` in a row
abbrev pub next_hart : ℕ → ℕ → Flat → ℕ
next_hart quantum made f = made / quantum % length f.core.harts

-- of at most n more turns after `made` others, the first after which agreement fails, with its hart and its kind in the first machine
abbrev pub twins_from : ℕ → ℕ → ℕ → ℕ → Flat → Flat → TwinEnd
twins_from d quantum zero made f g = E.Agreed
twins_from d quantum (suc n) made f g =
    let h = next_hart quantum made f in
    elim (fails d (flat_turn f h) (flat_turn g h)) [
      | true ↦ E.Ended (made + 1) h (flat_kind f h)
      | false ↦ twins_from d quantum n (made + 1) (flat_turn f h) (flat_turn g h)
    ]

-- two machines watched for domain d over so many turns; where agreement fails at the start that is step 0
abbrev pub twins : ℕ → ℕ → ℕ → Flat → Flat → TwinEnd
twins d quantum steps f g =
    if fails d f g then E.Ended 0 0 T.Idle else twins_from d quantum steps 0 f g

-- a machine after so many turns
abbrev pub turns_on : ℕ → ℕ → Flat → Flat
turns_on quantum zero f = f
turns_on quantum (suc n) f =
    let before = turns_on quantum n f in flat_turn before (next_hart quantum n before)

-- where agreement fails after a turn of a hart that was compared before it, the turn was neither idle nor just carried out an instruction
abbrev pub IsAtBorder : ℕ → ℕ → Flat → Flat → TwinEnd → Type 0
IsAtBorder d quantum f g (E.Ended (suc before) hart kind) =
    is_compared d (turns_on quantum before f) (turns_on quantum before g) hart ≡ true →
    (kind ≢ T.Ran) × (kind ≢ T.Idle)
IsAtBorder d quantum f g answer = Unit {0}
