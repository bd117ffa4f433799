use Rattle.std.proofs.Common.{rules, drop, ap, arith, le_trans, zero-le}
use Rattle.std.proofs.lemmas.Result.{err_from_is_err_and}
use Rattle.mx_words.specs.Rights.{same}
use Rattle.mx_words.specs.Runs.{runs_of}
use Rattle.mx_model.specs.Reads.{map_in}
use Rattle.mx_report.specs.Lines.{map_text}
use Rattle.mx_report.specs.Runs.{run_texts}
use Rattle.mx_report.specs.Texts.{map_lines}
use Rattle.mx_tail.proofs.PassLaws.{passes_same, coming_all, coming_same, coming_next, coming_stop, coming_none}
use Rattle.mx_report.proofs.RunTexts.{map_from, map_behind}
use Rattle.mx_report.proofs.maps.put_maps.Goals as goal

pub runs-init : goal.runs-init
unfolding map_lines
runs-init g c = record { within = zero-le; coming = coming_all _ _ _ }

pub returns-in_err-put_map : goal.returns-in_err-put_map
returns-in_err-put_map g c =
    let f = c.args.machine.now in
    let m = map_in f.core.size f.maps c.args.domain in
    let text = map_text c.args.domain in
    let end = c.perm_end-end.result in
    let told = c.perm_end-end.ensures in
    let from = map_from text m f.core.size c.runs.word end (c.machine_is_valid.ensures.whole c.args.domain c.requires) told.behind
    told.within told.same told.ends in
    let p = err_from_is_err_and c.from_residual.result c.from_residual.ensures.1 in
    rw (p.1, p.2)
    (coming_stop (run_texts text end (runs_of same (drop end m))) (coming_same from c.runs.invariant.coming)
    (passes_same (ap (text c.runs.word end) c.perm.ensures) c.in_err-put_map.ensures))

pub runs-preserved : goal.runs-preserved
runs-preserved g c =
    let f = c.args.machine.now in
    let m = map_in f.core.size f.maps c.args.domain in
    let text = map_text c.args.domain in
    let end = c.perm_end-end.result in
    let told = c.perm_end-end.ensures in
    let from = map_from text m f.core.size c.runs.word end (c.machine_is_valid.ensures.whole c.args.domain c.requires) told.behind
    told.within told.same told.ends in
    record {
      within = told.within;
      coming = coming_next (coming_same from c.runs.invariant.coming)
          (passes_same (ap (text c.runs.word end) c.perm.ensures) c.in_ok-put_map.ensures);
    }

pub returns : goal.returns
returns g c =
    let f = c.args.machine.now in
    let m = map_in f.core.size f.maps c.args.domain in
    coming_none (coming_same (map_behind (map_text c.args.domain) m c.runs.word
    (omega (arith, c.runs-test.false, c.words.ensures, c.machine_is_valid.ensures.whole c.args.domain c.requires)))
    c.runs.invariant.coming)

pub machine_is_valid-requires : goal.machine_is_valid-requires
machine_is_valid-requires g c = search

pub words-requires : goal.words-requires
words-requires g c = search

pub perm_end-end-requires : goal.perm_end-end-requires
perm_end-end-requires g c = (search, search rules)

pub perm-requires : goal.perm-requires
perm-requires g c = (search, search rules)

pub put_map-requires : goal.put_map-requires
put_map-requires g c =
    let few = c.machine_is_valid.ensures.valid.few_words in
    record { first = le_trans c.runs.invariant.within few; end = le_trans c.perm_end-end.ensures.within few }
