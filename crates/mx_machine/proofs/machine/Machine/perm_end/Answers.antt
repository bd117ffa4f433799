use Rattle.std.proofs.Common.{◌<◌, sym, ◌∙◌, arith, rules}
use denote.Enum.Bare.{differs_true, differs_false}
use Rattle.mx_words.specs.contracts.perm.Perm.{the_type}
use Rattle.mx_model.specs.Reads.{map_in}
use Rattle.mx_machine.proofs.MapRuns.{alike_span, alike_more, round_other, round_perm, walk_round}
use Rattle.mx_machine.proofs.machine.Machine.perm_end.Goals as goal

pub machine_is_valid-requires : goal.machine_is_valid-requires
machine_is_valid-requires g c = search

pub words-words-requires : goal.words-words-requires
words-words-requires g c = search

pub span-span-requires : goal.span-span-requires
span-span-requires g c = search

pub overflow_add-end : goal.overflow_add-end
overflow_add-end g c =
    let f = c.args.self.now in
    let m = map_in f.core.size f.maps c.args.domain in
    let whole = c.machine_is_valid.ensures.whole c.args.domain c.requires.domain in
    let few = c.machine_is_valid.ensures.valid.few_words in
    let round = walk_round f c.args.domain c.args.word c.span-span.result c.span-span.ensures whole c.requires.word in
    let inside = round.inside in
    omega (arith, whole, few, inside)

pub spans-init : goal.spans-init
spans-init g c =
    let f = c.args.self.now in
    let m = map_in f.core.size f.maps c.args.domain in
    let whole = c.machine_is_valid.ensures.whole c.args.domain c.requires.domain in
    let round = walk_round f c.args.domain c.args.word c.span-span.result c.span-span.ensures whole c.requires.word in
    alike_span m c.args.word c.span-span.result round

pub span-next-requires : goal.span-next-requires
span-next-requires g c = (search, (c.requires.domain, omega (arith, c.spans-test.true, c.words-words.ensures)))

pub returns-then-ne-clause-within : goal.returns-then-ne-clause-within
returns-then-ne-clause-within g c = omega (arith, c.spans-test.true, c.words-words.ensures)

pub returns-then-ne-clause-ends : goal.returns-then-ne-clause-ends
returns-then-ne-clause-ends g c = λ small.
    let f = c.args.self.now in
    let m = map_in f.core.size f.maps c.args.domain in
    let whole = c.machine_is_valid.ensures.whole c.args.domain c.requires.domain in
    let round = walk_round f c.args.domain c.spans.end c.span-next.result c.span-next.ensures whole small in
    let start = walk_round f c.args.domain c.args.word c.span-span.result c.span-span.ensures whole c.requires.word in
    let two = differs_true the_type _ _ (sym c.if-ne.ensures) in
    round_other m c.args.word c.spans.end c.span-next.result round (λ e. two (e ∙ sym (round_perm m c.args.word c.span-span.result start)))

pub overflow_add-end-in-spans : goal.overflow_add-end-in-spans
overflow_add-end-in-spans g c =
    let f = c.args.self.now in
    let m = map_in f.core.size f.maps c.args.domain in
    let whole = c.machine_is_valid.ensures.whole c.args.domain c.requires.domain in
    let few = c.machine_is_valid.ensures.valid.few_words in
    let small : c.spans.end < f.core.size = omega (arith, c.spans-test.true, c.words-words.ensures) in
    let round = walk_round f c.args.domain c.spans.end c.span-next.result c.span-next.ensures whole small in
    let inside = round.inside in
    omega (arith, whole, few, inside)

pub spans-smaller : goal.spans-smaller
spans-smaller g c =
    let f = c.args.self.now in
    let m = map_in f.core.size f.maps c.args.domain in
    let whole = c.machine_is_valid.ensures.whole c.args.domain c.requires.domain in
    let small : c.spans.end < f.core.size = omega (arith, c.spans-test.true, c.words-words.ensures) in
    let round = walk_round f c.args.domain c.spans.end c.span-next.result c.span-next.ensures whole small in
    let right = round.right in
    omega arith

pub spans-preserved : goal.spans-preserved
spans-preserved g c =
    let f = c.args.self.now in
    let m = map_in f.core.size f.maps c.args.domain in
    let whole = c.machine_is_valid.ensures.whole c.args.domain c.requires.domain in
    let small : c.spans.end < f.core.size = omega (arith, c.spans-test.true, c.words-words.ensures) in
    let round = walk_round f c.args.domain c.spans.end c.span-next.result c.span-next.ensures whole small in
    let start = walk_round f c.args.domain c.args.word c.span-span.result c.span-span.ensures whole c.requires.word in
    let one = differs_false the_type (search rules) _ _ (sym c.if-ne.ensures) in
    alike_more m c.args.word c.spans.end c.span-next.result c.spans.invariant round (one
    ∙ round_perm m c.args.word c.span-span.result start)

pub returns-clause-within : goal.returns-clause-within
returns-clause-within g c =
    let whole = c.machine_is_valid.ensures.whole c.args.domain c.requires.domain in
    omega (arith, whole, c.spans.invariant.within)

pub returns-clause-same : goal.returns-clause-same
returns-clause-same g c = c.spans.invariant.alike

pub returns-clause-ends : goal.returns-clause-ends
returns-clause-ends g c = λ small e. omega (arith, small, c.spans-test.false, c.words-words.ensures)
