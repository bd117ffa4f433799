use Rattle.mx_machine_tests.proofs.SmallLaws.{laid-more}
use Rattle.mx_machine_tests.proofs.small.Layout.add.Goals as goal

pub returns : goal.returns
returns c =
    laid-more c.args.count c.args.harts c.args.self.now.rows.items c.push.new.self.items _ _ _ _ _ _ _ _ c.in_ok-row.row c.in_ok-heap.heap
    c.args.part.now.stack _ _
    c.requires.laid c.requires.placed c.requires.few c.in_ok-row.ensures c.in_ok-push.ensures.items c.fill.ensures c.own.ensures
    (rw c.in_ok-heap.ensures c.requires.heap) c.push-2.ensures c.push-3.ensures
