-- The texts of a run of the plain machine, which has no caches.
use Rattle.std.specs.Prelude.{◌≡◌, ℕ, ◌+◌, Option}
use Rattle.mx_model.specs.Run.{Schedule}
use Rattle.mx_report.specs.declared.closing.Options.{Options}
use Rattle.mx_snapshot.specs.Kept.{KeptPlan}
use Rattle.mx_turns.specs.declared.task.Dump.{Dump}
use Rattle.mx_turns.specs.Ends.{Texts}
use Rattle.mx_turns.specs.Runs.{ended}
use Rattle.mx_uncached.specs.Forgetting.{bare}
use Rattle.mx_uncached.specs.Plain.{Plain}
use Rattle.mx_uncached.specs.Turn.{plain_run}

-- the texts of a run of the plain machine by a schedule: those of a run, with its states
abbrev pub plain_ran : KeptPlan → Options → Option Dump → ℕ → Schedule → Plain → Texts
plain_ran kept options dump steps schedule p =
    ended kept options dump (p.turns + steps) steps (λ made. bare (plain_run schedule made p))

-- the same text for each sink, of as many turns, and the same so far after each number of them
pub record SameTexts (t u : Texts) : Type 0 where
  pub console : t.console ≡ u.console
  pub report : t.report ≡ u.report
  pub dump : t.dump ≡ u.dump
  pub turns : t.turns ≡ u.turns
  pub shown : (made : ℕ) → t.shown made ≡ u.shown made
  pub told : (made : ℕ) → t.told made ≡ u.told made
