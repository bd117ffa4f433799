use Rattle.std.proofs.Common.{◌+◌, ◌-◌, ◌*◌, ap, ◌∙◌}
use Rattle.mx_trie.proofs.Scans.{round-perm}
use Rattle.mx_trie.proofs.Vectors.{IsPartVector, part-more, part-small}
use Rattle.mx_trie.proofs.scan.vector_of.Goals as goal

pub loop-e-preserved : goal.loop-e-preserved
loop-e-preserved g c =
    let m = g.V.View.map c.args.view.now in
    let more = part-more m c.args.first c.args.part c.loop-e.e c.loop-e.entry c.around.result.perm c.loop-e-test.true
    c.loop-e.invariant.made (round-perm m (c.args.first + (7 - c.loop-e.e) * c.args.part) c.around.result c.around.ensures) in
    let made : IsPartVector m c.args.first c.args.part (c.loop-e.e + 1) (c.number.result + 4 * c.loop-e.entry) =
    record { entry_is = ap (λ n. n + 4 * c.loop-e.entry) c.number.ensures ∙ more.entry_is } in
    record { made = made; small = part-small m c.args.first c.args.part (c.loop-e.e + 1) (c.number.result + 4 * c.loop-e.entry) made }
