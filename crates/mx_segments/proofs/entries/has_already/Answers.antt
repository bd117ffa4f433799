use Rattle.std.proofs.Common.{◌+◌, sym, arith, rules}
use denote.Enum.Bare.{same_true}
use Rattle.std.proofs.lemmas.Bool.{leb-true}
use Rattle.mx_words.specs.contracts.perm.Perm.{the_type}
use Rattle.mx_segments.specs.Sound.{map_in}
use Rattle.mx_segments.proofs.SkipLaws.{run_round, run_has}
use Rattle.mx_segments.proofs.entries.has_already.Goals as goal

pub overflow_add-result-then-eq : goal.overflow_add-result-then-eq
overflow_add-result-then-eq c =
    let m = map_in c.args.words c.args.leaf.now c.args.chains.now.lists c.args.row in
    let long = c.requires.sound.length_is in
    let r = run_round m c.args.first c.run_in-run.result (omega (arith, long)) c.run_in-run.ensures in
    omega (arith, r.inside, long)

pub returns-then-eq : goal.returns-then-eq
returns-then-eq c told =
    let m = map_in c.args.words c.args.leaf.now c.args.chains.now.lists c.args.row in
    let long = c.requires.sound.length_is in
    run_has m c.args.first c.args.count c.args.perm c.run_in-run.result (omega (arith, long)) c.run_in-run.ensures
    (same_true the_type (search rules) _ _ (sym c.if-eq.ensures))
    (leb-true (c.args.first + c.args.count) (c.run_in-run.result.first + c.run_in-run.result.count) told)
