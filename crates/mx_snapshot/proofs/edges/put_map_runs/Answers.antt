use Rattle.std.proofs.Common.{drop, ap, arith}
use Rattle.std.proofs.lemmas.Result.{err_from_is_err_and}
use Rattle.mx_any.specs.Machines.{meaning}
use Rattle.mx_words.specs.Rights.{same}
use Rattle.mx_words.specs.Runs.{runs_of}
use Rattle.mx_model.specs.Reads.{map_in}
use Rattle.mx_report.specs.Runs.{run_texts}
use Rattle.mx_report.proofs.RunTexts.{map_from, map_behind}
use Rattle.mx_tail.proofs.PassLaws.{passes_same, coming_all, coming_same, coming_next, coming_stop, coming_none}
use Rattle.mx_snapshot.specs.Spelling.{map_run_bytes}
use Rattle.mx_snapshot.specs.Stored.{perm_runs_of}
use Rattle.mx_snapshot.proofs.EdgeLaws.{by_edges, by_edges_all}
use Rattle.mx_snapshot.proofs.edges.put_map_runs.Goals as goal

pub runs-init : goal.runs-init
runs-init g c =
    record {
      within = omega arith;
      coming = coming_same (by_edges_all map_run_bytes 0
          (perm_runs_of (meaning c.args.machine.now) c.args.domain)) (coming_all _ _ _);
    }

pub returns-in_err-put_map_run : goal.returns-in_err-put_map_run
returns-in_err-put_map_run g c =
    let f = meaning c.args.machine.now in
    let m = map_in f.core.size f.maps c.args.domain in
    let text = by_edges map_run_bytes in
    let end = c.perm_end-end.result in
    let told = c.perm_end-end.ensures in
    let from = map_from text m f.core.size c.runs.word end (c.any_machine_is_valid.ensures.whole c.args.domain c.requires) told.behind
    told.within told.same told.ends in
    let p = err_from_is_err_and c.from_residual.result c.from_residual.ensures.1 in
    rw (p.1, p.2)
    (coming_stop (run_texts text end (runs_of same (drop end m))) (coming_same from c.runs.invariant.coming)
    (passes_same (ap (text c.runs.word end) c.perm.ensures) c.in_err-put_map_run.ensures))

pub runs-preserved : goal.runs-preserved
runs-preserved g c =
    let f = meaning c.args.machine.now in
    let m = map_in f.core.size f.maps c.args.domain in
    let text = by_edges map_run_bytes in
    let end = c.perm_end-end.result in
    let told = c.perm_end-end.ensures in
    let from = map_from text m f.core.size c.runs.word end (c.any_machine_is_valid.ensures.whole c.args.domain c.requires) told.behind
    told.within told.same told.ends in
    record {
      within = told.within;
      coming = coming_next (coming_same from c.runs.invariant.coming)
          (passes_same (ap (text c.runs.word end) c.perm.ensures) c.in_ok-put_map_run.ensures);
    }

pub returns : goal.returns
returns g c =
    let f = meaning c.args.machine.now in
    let m = map_in f.core.size f.maps c.args.domain in
    coming_none (coming_same (map_behind (by_edges map_run_bytes) m c.runs.word
    (omega (arith, c.runs-test.false, c.words.ensures, c.any_machine_is_valid.ensures.whole c.args.domain c.requires)))
    c.runs.invariant.coming)
