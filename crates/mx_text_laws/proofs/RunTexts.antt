-- The texts of a run read no cache.
use Rattle.std.proofs.Common.{◌≡◌, ◌≢◌, ℕ, ◌+◌, false, List, ◌++◌, Option, Some, None, refl, ◌∙◌, ap}
use Rattle.mx_model.specs.Run.{Schedule, run}
use Rattle.mx_model.specs.State.{State, flat}
use Rattle.mx_report.specs.declared.closing.Options.{Options}
use Rattle.mx_text_laws.proofs.ReportTexts.{closing-alike}
use Rattle.mx_snapshot.specs.Kept.{KeptPlan}
use Rattle.mx_turns.specs.declared.task.Dump.{Dump}
use Rattle.mx_turns.specs.declared.task.Dump.TheVariants as D
use Rattle.mx_text_laws.specs.PlainRuns.{SameTexts, plain_ran}
use Rattle.mx_turns.specs.Runs.{dumped, end_of, note_lines, ran, report_of}
use Rattle.mx_uncached.specs.Forgetting.{bare, plain}
use Rattle.mx_uncached.specs.Plain.{Plain}
use Rattle.mx_uncached.proofs.RunLaws.{run-plain}

-- the report and the dump of a state are those of the state without caches
report-plain : (kept : KeptPlan) (target : ℕ) (options : Options) (lines : List ℕ) (s : State) → options.counts ≡ false →
    report_of kept target options lines s ≡ report_of kept target options lines (bare (plain s))
unfolding report_of
report-plain kept target options lines s e =
    ap (λ (text : List ℕ). lines ++ text) (closing-alike kept.names (end_of target s.core) options s (bare (plain s)) e refl)

dump-plain : (kept : KeptPlan) (dump : Option Dump) (s : State) → dump ≢ Some D.Snapshot
    → dumped dump kept (flat s) ≡ dumped dump kept (flat (bare (plain s)))
dump-plain kept None s other = refl
dump-plain kept (Some D.Ram) s other = refl
dump-plain kept (Some D.Snapshot) s other = absurd (other refl)

pub texts-plain : (kept : KeptPlan) (options : Options) (dump : Option Dump) (steps : ℕ) (schedule : Schedule) (s : State) →
    options.counts ≡ false → dump ≢ Some D.Snapshot →
    SameTexts (ran kept options dump steps schedule s) (plain_ran kept options dump steps schedule (plain s))
texts-plain kept options dump steps schedule s e other =
    let target = s.core.turns + steps in
    let u = run schedule steps s in
    let same = run-plain schedule steps s in
    record {
      console = ap (λ (p : Plain). p.console) same;
      report = report-plain kept target options (note_lines u.notes) u e
          ∙ ap (λ (p : Plain). report_of kept target options (note_lines p.notes) (bare p)) same;
      dump = dump-plain kept dump u other ∙ ap (λ (p : Plain). dumped dump kept (flat (bare p))) same;
      turns = refl;
      shown = λ made. ap (λ (p : Plain). p.console) (run-plain schedule made s);
      told = λ made. ap (λ (p : Plain). note_lines p.notes) (run-plain schedule made s);
    }
