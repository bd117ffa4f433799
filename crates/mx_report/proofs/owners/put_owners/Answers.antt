use Rattle.std.proofs.Common.{rules, ◌==◌, drop, ap, arith, le_trans, zero-le}
use Rattle.std.proofs.lemmas.Result.{err_from_is_err_and}
use Rattle.mx_words.specs.Runs.{runs_of}
use Rattle.mx_report.specs.Lines.{owner_text}
use Rattle.mx_report.specs.Runs.{run_texts}
use Rattle.mx_report.specs.Texts.{owner_lines}
use Rattle.mx_tail.proofs.PassLaws.{passes_same, coming_all, coming_same, coming_next, coming_stop, coming_none}
use Rattle.mx_report.proofs.RunTexts.{owners_from, owners_behind}
use Rattle.mx_report.proofs.owners.put_owners.Goals as goal

pub runs-init : goal.runs-init
unfolding owner_lines
runs-init g c = record { within = zero-le; coming = coming_all _ _ _ }

pub returns-in_err-put_owner : goal.returns-in_err-put_owner
returns-in_err-put_owner g c =
    let os = c.args.machine.now.owners in
    let end = c.owner_end-end.result in
    let run = c.owner_end-end.ensures in
    let whole = c.machine_is_valid.ensures.owners in
    let p = err_from_is_err_and c.from_residual.result c.from_residual.ensures.1 in
    rw (p.1, p.2)
    (coming_stop (run_texts owner_text end (runs_of (λ a b. a == b) (drop end os)))
    (coming_same (owners_from owner_text os c.runs.word end run.behind (omega (arith, run.within, whole)) run.same (λ lt.
    run.ends (omega (arith, whole)))) c.runs.invariant.coming)
    (passes_same (ap (owner_text c.runs.word end) c.owner.ensures) c.in_err-put_owner.ensures))

pub runs-preserved : goal.runs-preserved
runs-preserved g c =
    let os = c.args.machine.now.owners in
    let end = c.owner_end-end.result in
    let run = c.owner_end-end.ensures in
    let whole = c.machine_is_valid.ensures.owners in
    record {
      within = run.within;
      coming = coming_next
          (coming_same (owners_from owner_text os c.runs.word end run.behind (omega (arith, run.within, whole)) run.same (λ lt.
          run.ends (omega (arith, whole)))) c.runs.invariant.coming)
          (passes_same (ap (owner_text c.runs.word end) c.owner.ensures) c.in_ok-put_owner.ensures);
    }

pub returns : goal.returns
returns g c =
    let os = c.args.machine.now.owners in
    coming_none (coming_same (owners_behind owner_text os c.runs.word
    (omega (arith, c.runs-test.false, c.words.ensures, c.machine_is_valid.ensures.owners))) c.runs.invariant.coming)

pub machine_is_valid-requires : goal.machine_is_valid-requires
machine_is_valid-requires g c = search

pub words-requires : goal.words-requires
words-requires g c = search

pub owner_end-end-requires : goal.owner_end-end-requires
owner_end-end-requires g c = (search, search rules)

pub owner-requires : goal.owner-requires
owner-requires g c = (search, search rules)

pub put_owner-requires : goal.put_owner-requires
put_owner-requires g c =
    let few = c.machine_is_valid.ensures.valid.few_words in
    record { first = le_trans c.runs.invariant.within few; end = le_trans c.owner_end-end.ensures.within few }
