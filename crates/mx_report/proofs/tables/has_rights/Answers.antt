use Rattle.std.proofs.Common.{◌<◌, sym, ◌∙◌, arith, rules}
use denote.Enum.Bare.{differs_true, differs_false}
use Rattle.mx_model.specs.Reads.{map_in}
use Rattle.mx_words.specs.declared.perm.Perm.TheVariants as P
use Rattle.mx_words.specs.contracts.perm.Perm.{the_type}
use Rattle.mx_machine.proofs.MapRuns.{round_perm, walk_round}
use Rattle.mx_report.proofs.MapLaws.{some_right, no_right, none_more}
use Rattle.mx_report.proofs.tables.has_rights.Goals as goal

pub returns-then-ne : goal.returns-then-ne
returns-then-ne g c =
    let f = c.args.machine.now in
    let m = map_in f.core.size f.maps c.args.domain in
    let whole = c.machine_is_valid.ensures.whole c.args.domain c.requires.domain in
    let small : c.spans.word < f.core.size = omega (arith, c.spans-test.true, c.requires.inside) in
    let round = walk_round f c.args.domain c.spans.word c.span-span.result c.span-span.ensures whole small in
    let low = c.spans.invariant.low in
    sym (some_right m c.args.first c.args.count c.spans.word (omega (arith, whole, c.requires.inside)) low
    (omega (arith, c.spans-test.true))
    (λ e. differs_true the_type c.span-span.result.perm P.None (sym c.if-ne.ensures) (round_perm m c.spans.word c.span-span.result round
    ∙ e)))

pub overflow_add-word : goal.overflow_add-word
overflow_add-word g c =
    let f = c.args.machine.now in
    let whole = c.machine_is_valid.ensures.whole c.args.domain c.requires.domain in
    let few = c.machine_is_valid.ensures.valid.few_words in
    let small : c.spans.word < f.core.size = omega (arith, c.spans-test.true, c.requires.inside) in
    let round = walk_round f c.args.domain c.spans.word c.span-span.result c.span-span.ensures whole small in
    let inside = round.inside in
    omega (arith, whole, few, inside)

pub spans-smaller : goal.spans-smaller
spans-smaller g c =
    let f = c.args.machine.now in
    let whole = c.machine_is_valid.ensures.whole c.args.domain c.requires.domain in
    let small : c.spans.word < f.core.size = omega (arith, c.spans-test.true, c.requires.inside) in
    let round = walk_round f c.args.domain c.spans.word c.span-span.result c.span-span.ensures whole small in
    let right = round.right in
    omega (arith, c.spans-test.true)

pub spans-preserved : goal.spans-preserved
spans-preserved g c =
    let f = c.args.machine.now in
    let m = map_in f.core.size f.maps c.args.domain in
    let whole = c.machine_is_valid.ensures.whole c.args.domain c.requires.domain in
    let small : c.spans.word < f.core.size = omega (arith, c.spans-test.true, c.requires.inside) in
    let round = walk_round f c.args.domain c.spans.word c.span-span.result c.span-span.ensures whole small in
    let low = c.spans.invariant.low in
    let right = round.right in
    record {
      low = omega arith;
      none = none_more m c.args.first c.spans.word c.span-span.result c.spans.invariant.none round
          (differs_false the_type (search rules) c.span-span.result.perm P.None (sym c.if-ne.ensures));
    }

pub returns : goal.returns
returns g c =
    let f = c.args.machine.now in
    let m = map_in f.core.size f.maps c.args.domain in
    sym (no_right m c.args.first c.args.count (λ w lo hi. c.spans.invariant.none w lo (omega (arith, c.spans-test.false))))

pub machine_is_valid-requires : goal.machine_is_valid-requires
machine_is_valid-requires g c = search

pub span-span-requires : goal.span-span-requires
span-span-requires g c = (search, search rules)

pub overflow_add-end : goal.overflow_add-end
overflow_add-end g c =
    let few = c.machine_is_valid.ensures.valid.few_words in
    omega (arith, c.requires.inside, few)

pub spans-init : goal.spans-init
spans-init g c = record { low = omega arith; none = λ w lo hi. absurd (omega arith) }
