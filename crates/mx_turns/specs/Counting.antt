-- The texts of a run, counted and not written.
-- The rules: docs/COMMANDS.md, "The mill".
use Rattle.std.specs.Prelude.{◌≡◌, ℕ, ◌+◌, ◌*◌, ◌^◌, ◌<◌, ◌≤◌, Bool, true, false, length, count_by, option_to_list}
use Rattle.mx_words.specs.Limits.{most_written}
use Rattle.mx_model.specs.Events.{Events}
use Rattle.mx_model.specs.State.{State, Flat, flat}
use Rattle.mx_model.specs.declared.values.Note.{Note}
use Rattle.mx_model.specs.declared.values.Note.TheVariants as N
use Rattle.mx_turns.specs.declared.counting.Tally.{Tally}

-- whether a note tells a fault, and whether it tells an exit
abbrev pub is_fault : Note → Bool
is_fault (N.Fault step hart domain pc fault) = true
is_fault (N.Exit step hart domain code) = false

abbrev pub is_exit : Note → Bool
is_exit (N.Fault step hart domain pc fault) = false
is_exit (N.Exit step hart domain code) = true

-- what the texts of a state come to: its console bytes, its faults and its exits
abbrev pub tally_of : State → Tally
tally_of s = record {
  bytes = length s.console;
  faults = count_by is_fault s.notes;
  exits = count_by is_exit s.notes;
}

-- a machine is a state's, and a tally too
pub record IsCounted (s : State) (machine : Flat) (tally : Tally) : Type 0 where
  pub state : machine ≡ flat s
  pub counts : tally ≡ tally_of s

-- a tally with what a turn adds, below 2^63 each
pub record IsSum (old : Tally) (events : Events) (new : Tally) : Type 0 where
  pub bytes : old.bytes < 2 ^ 63 → new.bytes ≡ old.bytes + length events.bytes
  pub faults : old.faults < 2 ^ 63 →
      new.faults ≡ old.faults + count_by is_fault (option_to_list events.note)
  pub exits : old.exits < 2 ^ 63 →
      new.exits ≡ old.exits + count_by is_exit (option_to_list events.note)
  pub few_bytes : new.bytes ≤ old.bytes + most_written
  pub few_faults : new.faults ≤ old.faults + 1
  pub few_exits : new.exits ≤ old.exits + 1

-- the same after so many turns, with what they come to at most
pub record IsFewCounted (made : ℕ) (s : State) (machine : Flat) (tally : Tally) : Type 0 where
  pub counted : IsCounted s machine tally
  pub bytes : tally.bytes ≤ 4096 * made
  pub faults : tally.faults ≤ made
  pub exits : tally.exits ≤ made

-- where these are few enough for the counts
abbrev pub IsTallied : ℕ → State → Flat → Tally → Type 0
IsTallied made s machine tally = made < 2 ^ 40 → IsFewCounted made s machine tally
