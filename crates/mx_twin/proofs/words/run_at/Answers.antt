use Rattle.std.proofs.Common.{arith}
use Rattle.mx_any.specs.Machines.{meaning}
use Rattle.mx_twin.proofs.SeenRuns.{span-alike}
use Rattle.mx_twin.proofs.words.run_at.Goals as goal

pub overflow_add-result : goal.overflow_add-result
overflow_add-result c =
    let whole = c.any_machine_is_valid.ensures.whole c.args.domain c.requires.domain in
    let few = c.any_machine_is_valid.ensures.valid.few_words in
    let inside = (span-alike (meaning c.args.machine.now) c.args.domain c.args.at c.span-span.result c.span-span.ensures whole
    c.requires.inside).inside in
    omega (arith, whole, few, inside)

pub returns-clause-more : goal.returns-clause-more
returns-clause-more c =
    let whole = c.any_machine_is_valid.ensures.whole c.args.domain c.requires.domain in
    (span-alike (meaning c.args.machine.now) c.args.domain c.args.at c.span-span.result c.span-span.ensures whole c.requires.inside).right

pub returns-clause-alike : goal.returns-clause-alike
returns-clause-alike c = λ w l h.
    let whole = c.any_machine_is_valid.ensures.whole c.args.domain c.requires.domain in
    let round = span-alike (meaning c.args.machine.now) c.args.domain c.args.at c.span-span.result c.span-span.ensures whole
    c.requires.inside in
    let left = round.left in
    round.alike w (omega (arith, left, l)) h
