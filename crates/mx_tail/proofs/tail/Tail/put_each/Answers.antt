use Rattle.std.proofs.Common.{◌+◌, drop, refl}
use Rattle.std.proofs.lemmas.List.{drop_all}
use Rattle.std.proofs.lemmas.Result.{err_from_is_err_and}
use Rattle.mx_tail.proofs.TailLaws.{adding_all, adding_same, adding_next, adding_stop, adding_none, one_more}
use Rattle.mx_tail.proofs.tail.Tail.put_each.Goals as goal

pub loop-byte-init : goal.loop-byte-init
loop-byte-init g c = record { adding = adding_all _ _ _; few = rw (← c.self.view_is) c.self.invariant }

pub returns-in_err-push-clause-adds : goal.returns-in_err-push-clause-adds
returns-in_err-push-clause-adds g c =
    let p = err_from_is_err_and c.from_residual.result c.from_residual.ensures.1 in
    let more = one_more c.args.bytes.now c.loop-byte.byte-index _ c.loop-byte-test.true refl in
    rw (p.1, p.2) (adding_stop (drop (c.loop-byte.byte-index + 1) c.args.bytes.now) (adding_same more c.loop-byte.invariant.adding)
    c.in_err-push.ensures.adds)

pub loop-byte-preserved : goal.loop-byte-preserved
loop-byte-preserved g c =
    let more = one_more c.args.bytes.now c.loop-byte.byte-index _ c.loop-byte-test.true refl in
    record {
      adding = adding_next (drop (c.loop-byte.byte-index + 1) c.args.bytes.now) (adding_same more c.loop-byte.invariant.adding)
          c.in_ok-push.ensures.adds;
      few = c.in_ok-push.ensures.few;
    }

pub returns-clause-adds : goal.returns-clause-adds
returns-clause-adds g c =
    adding_none (adding_same (drop_all c.loop-byte.byte-index c.args.bytes.now c.loop-byte-test.false) c.loop-byte.invariant.adding)
    c.loop-byte.invariant.few
