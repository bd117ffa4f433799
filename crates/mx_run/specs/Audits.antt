-- What `audit` gives of a manifest that boots: for a reader of `audit` alone.
-- The rules: docs/PROMISES.md, "One clause for each command".
use Rattle.std.specs.Prelude.{◌≡◌, ℕ, true, List, [], ◌∷◌, codes}
use Rattle.mx_io.specs.Store.{FileMap, StoreState}
use Rattle.mx_model.specs.State.{State, flat}
use Rattle.mx_manifest.specs.Plan.{Said}
use Rattle.mx_snapshot.specs.Kept.{kept_of}
use Rattle.mx_audit.specs.Lines.{audit_text}
use Rattle.mx_turns.specs.Ends.{Sinks}
use Rattle.mx_commands.specs.declared.status.Status.{Status}
use Rattle.mx_commands.specs.declared.status.Status.TheVariants.{Ran}
use Rattle.mx_run.specs.Words.{is_name}
use Rattle.mx_run.specs.Promise.{Smoothly}
use Rattle.mx_run.specs.Plainly.{Boots, HoldsTexts}

-- the audit of the state at boot is the report, and nothing else is written
abbrev pub Audits : List (List ℕ) → FileMap → Sinks → Sinks → Status → Type 0
Audits words files before now result =
    (name : List ℕ) (plan : Said) (s : State) → words ≡ codes "audit" ∷ name ∷ [] → is_name name ≡ true →
    Boots files name plan s →
    (result ≡ Ran) × HoldsTexts [] (audit_text (kept_of plan).names (flat s)) [] before now

abbrev pub AuditsPlainly : List (List ℕ) → StoreState → StoreState → Sinks → Sinks → Status → Type 0
AuditsPlainly words = Smoothly (Audits words)
