use Rattle.std.proofs.Common.{arith}
use Rattle.mx_any.specs.Machines.{meaning}
use Rattle.mx_words.specs.Rights.{same}
use Rattle.mx_model.specs.Reads.{map_in}
use Rattle.mx_snapshot.proofs.EdgeLaws.{map_count, none_behind}
use Rattle.mx_snapshot.proofs.edges.count_map_runs.Goals as goal

pub overflow_add-count : goal.overflow_add-count
overflow_add-count c =
    let few = c.any_machine_is_valid.ensures.valid.few_words in
    let told = c.perm_end-word.ensures.within in
    let behind = c.perm_end-word.ensures.behind in
    let fewer = c.runs.invariant.few in
    omega (arith, few, told, behind, fewer)

pub runs-preserved : goal.runs-preserved
runs-preserved c =
    let f = meaning c.args.machine.now in
    let m = map_in f.core.size f.maps c.args.domain in
    let told = c.perm_end-word.ensures in
    let behind = told.behind in
    let within = told.within in
    let step = map_count m f.core.size c.runs.word c.perm_end-word.result (c.any_machine_is_valid.ensures.whole c.args.domain c.requires)
    told.behind told.within told.same told.ends in
    let rest = c.runs.invariant.rest in
    let few = c.runs.invariant.few in
    record { within = within; few = omega (arith, few, behind); rest = omega (arith, step, rest) }

pub returns : goal.returns
returns c =
    let f = meaning c.args.machine.now in
    let m = map_in f.core.size f.maps c.args.domain in
    let whole = c.any_machine_is_valid.ensures.whole c.args.domain c.requires in
    let none = none_behind same m c.runs.word (omega (arith, c.runs-test.false, c.words.ensures, whole)) in
    let rest = c.runs.invariant.rest in
    omega (arith, none, rest)
