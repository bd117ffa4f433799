use Rattle.std.proofs.lemmas.Result.{err_from_is_err_and}
use Rattle.mx_resume.specs.Parts.{head_seen, owner_run_seen}
use Rattle.mx_resume.proofs.Chains.{misses_memory}
use Rattle.mx_resume.proofs.Lists.{left_misses, left_none}
use Rattle.mx_resume.proofs.Owning.{extent-of, few-given, given-next, given-none, in-ram, run-inside}
use Rattle.mx_resume.proofs.owners.read_owners.Goals as goal

pub returns-in_err-owners : goal.returns-in_err-owners
returns-in_err-owners c =
    let p = err_from_is_err_and c.from_residual.result c.from_residual.ensures.1 in
    rw (p.1, p.2) (misses_memory _ _ c.in_err-owners.ensures.memory)

pub runs-init : goal.runs-init
runs-init c = given-none (head_seen c.args.head.now) c.args.bytes.now c.args.runs c.args.at.now c.in_ok-owners.owners
    c.in_ok-owners.ensures.owners

pub returns-in_err-run : goal.returns-in_err-run
returns-in_err-run c =
    let g = c.runs.invariant in
    let p = err_from_is_err_and c.from_residual-in_err-run.result c.from_residual-in_err-run.ensures.1 in
    rw (p.1, p.2) (left_misses _ c.runs-test.true g.left (c.in_err-run.ensures.taken g.before (extent-of _ _ _ _ _ _ _ _ _ g) g.value))

pub give-requires-clause-some : goal.give-requires-clause-some
give-requires-clause-some c = (run-inside _ _ _ _ _ _ _ _ _ c.runs.invariant (owner_run_seen c.in_ok-run.run') c.in_ok-run.ensures.place).0

pub give-requires-clause-in_ram : goal.give-requires-clause-in_ram
give-requires-clause-in_ram c = in-ram _ _ _ _ _ _ _ _ _ c.runs.invariant (owner_run_seen c.in_ok-run.run') c.in_ok-run.ensures.place

pub give-requires-clause-few : goal.give-requires-clause-few
give-requires-clause-few c = few-given _ _ _ _ _ _ _ _ _ c.runs.invariant (owner_run_seen c.in_ok-run.run') c.in_ok-run.ensures.place
    c.runs-test.true c.requires.runs

pub runs-preserved : goal.runs-preserved
runs-preserved c =
    let g = c.runs.invariant in
    given-next _ _ _ _ _ _ _ _ _ g (owner_run_seen c.in_ok-run.run') c.in_ok-run.ensures.place c.owner_run.new.at c.give.new.owners
    c.runs-test.true
    (c.in_ok-run.ensures.taken g.before (extent-of _ _ _ _ _ _ _ _ _ g) g.value) c.give.ensures

pub returns : goal.returns
returns c = let g = c.runs.invariant in (g.before, left_none c.runs-test.false g.left, g.given)
