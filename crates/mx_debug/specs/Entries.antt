-- Where a hart may go on in its domain, and what its turns in a row come to at breakpoints.
use Rattle.std.specs.Prelude.{◌≡◌, ℕ, Bool, false, not, ◌==◌, ◌&&◌, ◌||◌, List, [], Option, Some, None, if◌then◌else◌}
use Rattle.std.specs.List.{list_any}
use Rattle.std.specs.Option.{option_map_or}
use Rattle.mx_words.specs.declared.perm.Access.TheVariants as A
use Rattle.mx_words.specs.Ranges.{word_of}
use Rattle.mx_model.specs.declared.values.Note.{Note}
use Rattle.mx_model.specs.declared.values.Note.TheVariants as N
use Rattle.mx_model.specs.declared.values.TurnKind.{TurnKind}
use Rattle.mx_model.specs.declared.values.TurnKind.TheVariants as T
use Rattle.mx_model.specs.Gates.{has_gate}
use Rattle.mx_model.specs.Reads.{Reads, flat_reads}
use Rattle.mx_model.specs.State.{Core, Flat, Hart, hart_at}
use Rattle.mx_model.specs.Turn.{is_denied}
use Rattle.mx_debug.specs.Session.{Asked, is_last, is_trapped}

-- a domain may execute at an address, or has a gate there
abbrev pub is_entry : Reads → Core → ℕ → ℕ → Bool
is_entry r c d address =
    not (is_denied r c d address A.Execute) || option_map_or (has_gate c.gates d) (word_of address c.size) false

-- a hart's domain does so at none of these addresses
abbrev pub IsClear : Flat → ℕ → List ℕ → Type 0
IsClear f h breaks = list_any (is_entry (flat_reads f) f.core (hart_at f.core h).domain) breaks ≡ false

-- a hart may make several turns in a row before one looks again: none but the last ends a step, and none but one that traps begins
-- at a breakpoint
pub record IsFree (f : Flat) (a : Asked) (h : ℕ) : Type 0 where
  pub clear : IsClear f h a.breaks
  pub stops : a.faults ≡ false → a.breaks ≡ []
  pub other : (x : Hart) → is_last a.step h T.Ran x ≡ false

-- a note tells of a fault at a breakpoint
abbrev pub faults_in : List ℕ → Option Note → Bool
faults_in breaks None = false
faults_in breaks (Some (N.Fault step h d pc fault)) = list_any (λ b. b == pc) breaks
faults_in breaks (Some (N.Exit step h d code)) = false

-- whether the last turn of a row began at a breakpoint, where the first did or not
abbrev pub last_stood : List ℕ → Bool → ℕ → TurnKind → Option Note → Bool
last_stood breaks stood ran last note = if ran == 0 then stood else is_trapped last && faults_in breaks note
