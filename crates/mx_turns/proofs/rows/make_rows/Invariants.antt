use Rattle.std.proofs.Common.{◌≡◌, ℕ, ◌+◌, ◌-◌, ◌≤◌, false}
use Rattle.mx_model.specs.Run.{Schedule, all_halted}
use Rattle.mx_model.specs.State.{State}
use Rattle.mx_turns.specs.Running.{IsLater, IsPace, Places}
use Rattle.mx_turns.proofs.rows.make_rows.Given as goal

abbrev pub invariant-turns : goal.invariant-turns
invariant-turns g l = record {
  within : l.made ≤ l.steps;
  later : IsLater (g.X.Rows.means l.fn.machine) l.made (g.X.Rows.means l.machine);
  going : all_halted (g.X.Rows.means l.machine).core ≡ false;
  pace : (p : Schedule) → IsPace p (g.X.Rows.means l.fn.machine).core l.start → IsPace p (g.X.Rows.means l.machine).core l.pace;
  stands : (p : Schedule) (made : ℕ) (s : State) (before : Places) → IsPace p (g.X.Rows.means l.fn.machine).core l.start
      → g.X.Rows.Stands l.rows p made s before l.fn.machine l.fn.shown l.fn.console l.fn.told l.fn.report
      → g.X.Rows.Stands l.rows p (made + l.made) s before l.machine l.shown l.console l.told l.report;
}

abbrev pub decreases-turns : goal.decreases-turns
decreases-turns g l = l.steps - l.made
