use Rattle.std.proofs.Common.{◌==◌, arith}
use Rattle.mx_any.specs.Machines.{meaning}
use Rattle.mx_snapshot.proofs.EdgeLaws.{owner_count, none_behind}
use Rattle.mx_snapshot.proofs.edges.count_owner_runs.Goals as goal

pub overflow_add-count : goal.overflow_add-count
overflow_add-count c =
    let few = c.any_machine_is_valid.ensures.valid.few_words in
    let told = c.owner_end-word.ensures.within in
    let behind = c.owner_end-word.ensures.behind in
    let fewer = c.runs.invariant.few in
    omega (arith, few, told, behind, fewer)

pub runs-preserved : goal.runs-preserved
runs-preserved c =
    let os = (meaning c.args.machine.now).owners in
    let told = c.owner_end-word.ensures in
    let behind = told.behind in
    let within = told.within in
    let whole = c.any_machine_is_valid.ensures.owners in
    let step = owner_count os c.runs.word c.owner_end-word.result told.behind (omega (arith, within, whole)) told.same (λ lt.
    told.ends (omega (arith, whole))) in
    let rest = c.runs.invariant.rest in
    let few = c.runs.invariant.few in
    record { within = within; few = omega (arith, few, behind); rest = omega (arith, step, rest) }

pub returns : goal.returns
returns c =
    let os = (meaning c.args.machine.now).owners in
    let whole = c.any_machine_is_valid.ensures.owners in
    let none = none_behind (λ a b. a == b) os c.runs.word (omega (arith, c.runs-test.false, c.words.ensures, whole)) in
    let rest = c.runs.invariant.rest in
    omega (arith, none, rest)
