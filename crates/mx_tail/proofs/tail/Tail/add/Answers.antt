use Rattle.std.proofs.Common.{◌+◌, drop, arith}
use Rattle.std.proofs.lemmas.List.{drop_all}
use Rattle.std.proofs.lemmas.Result.{err_from_is_err_and}
use Rattle.mx_tail.proofs.TailLaws.{adding_all, adding_same, adding_next, adding_stop, adding_none, one_more}
use Rattle.mx_tail.proofs.tail.Tail.add.Goals as goal

pub loop-i-init : goal.loop-i-init
loop-i-init g c = record { adding = adding_all _ _ _; few = rw (← c.self.view_is) c.self.invariant }

pub returns-in_err-push-clause-adds : goal.returns-in_err-push-clause-adds
returns-in_err-push-clause-adds g c =
    let p = err_from_is_err_and c.from_residual.result c.from_residual.ensures.1 in
    let more = one_more c.args.bytes.now.bytes c.loop-i.i c.byte.result (omega (arith, c.loop-i-test.true, c.len-i-end.ensures.count))
    c.byte.ensures in
    rw (p.1, p.2) (adding_stop (drop (c.loop-i.i + 1) c.args.bytes.now.bytes) (adding_same more c.loop-i.invariant.adding)
    c.in_err-push.ensures.adds)

pub loop-i-preserved : goal.loop-i-preserved
loop-i-preserved g c =
    let more = one_more c.args.bytes.now.bytes c.loop-i.i c.byte.result (omega (arith, c.loop-i-test.true, c.len-i-end.ensures.count))
    c.byte.ensures in
    record {
      adding = adding_next (drop (c.loop-i.i + 1) c.args.bytes.now.bytes) (adding_same more c.loop-i.invariant.adding)
          c.in_ok-push.ensures.adds;
      few = c.in_ok-push.ensures.few;
    }

pub returns-clause-adds : goal.returns-clause-adds
returns-clause-adds g c =
    adding_none (adding_same (drop_all c.loop-i.i c.args.bytes.now.bytes (omega (arith, c.loop-i-test.false, c.len-i-end.ensures.count)))
    c.loop-i.invariant.adding) c.loop-i.invariant.few
