use Rattle.std.proofs.Common.{◌==◌, drop, ap, arith}
use Rattle.std.proofs.lemmas.Result.{err_from_is_err_and}
use Rattle.mx_any.specs.Machines.{meaning}
use Rattle.mx_words.specs.Runs.{runs_of}
use Rattle.mx_report.specs.Runs.{run_texts}
use Rattle.mx_report.proofs.RunTexts.{owners_from, owners_behind}
use Rattle.mx_tail.proofs.PassLaws.{passes_same, coming_all, coming_same, coming_next, coming_stop, coming_none}
use Rattle.mx_snapshot.specs.Spelling.{owner_run_bytes}
use Rattle.mx_snapshot.specs.Stored.{owner_runs_of}
use Rattle.mx_snapshot.proofs.EdgeLaws.{by_edges, by_edges_all}
use Rattle.mx_snapshot.proofs.edges.put_owner_runs.Goals as goal

pub runs-init : goal.runs-init
runs-init g c =
    record {
      within = omega arith;
      coming = coming_same (by_edges_all owner_run_bytes 0 (owner_runs_of (meaning c.args.machine.now)))
          (coming_all _ _ _);
    }

pub returns-in_err-put_owner_run : goal.returns-in_err-put_owner_run
returns-in_err-put_owner_run g c =
    let os = (meaning c.args.machine.now).owners in
    let text = by_edges owner_run_bytes in
    let end = c.owner_end-end.result in
    let run = c.owner_end-end.ensures in
    let whole = c.any_machine_is_valid.ensures.owners in
    let p = err_from_is_err_and c.from_residual.result c.from_residual.ensures.1 in
    rw (p.1, p.2)
    (coming_stop (run_texts text end (runs_of (λ a b. a == b) (drop end os)))
    (coming_same (owners_from text os c.runs.word end run.behind (omega (arith, run.within, whole)) run.same (λ lt.
    run.ends (omega (arith, whole)))) c.runs.invariant.coming)
    (passes_same (ap (text c.runs.word end) c.owner.ensures) c.in_err-put_owner_run.ensures))

pub runs-preserved : goal.runs-preserved
runs-preserved g c =
    let os = (meaning c.args.machine.now).owners in
    let text = by_edges owner_run_bytes in
    let end = c.owner_end-end.result in
    let run = c.owner_end-end.ensures in
    let whole = c.any_machine_is_valid.ensures.owners in
    record {
      within = run.within;
      coming = coming_next
          (coming_same (owners_from text os c.runs.word end run.behind (omega (arith, run.within, whole)) run.same (λ lt.
          run.ends (omega (arith, whole)))) c.runs.invariant.coming)
          (passes_same (ap (text c.runs.word end) c.owner.ensures) c.in_ok-put_owner_run.ensures);
    }

pub returns : goal.returns
returns g c =
    let os = (meaning c.args.machine.now).owners in
    coming_none (coming_same (owners_behind (by_edges owner_run_bytes) os c.runs.word
    (omega (arith, c.runs-test.false, c.words.ensures, c.any_machine_is_valid.ensures.owners))) c.runs.invariant.coming)
