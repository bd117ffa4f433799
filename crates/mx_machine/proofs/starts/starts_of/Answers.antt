use Rattle.std.proofs.Common.{sym, length, ◌≤◌, arith}
use Rattle.mx_machine.specs.Smalls.{IsSmallStart}
use Rattle.mx_machine.proofs.SmallLaws.{first-all, first-more, first-past}
use Rattle.mx_machine.proofs.starts.starts_of.Goals.{in-Some, in-None}
use Rattle.mx_machine.proofs.starts.starts_of.Goals as goal

pub loop-hart-preserved : goal.loop-hart-preserved
loop-hart-preserved c =
    elim c.match-get.branch [
      | in-Some w ↦ first-more IsSmallStart c.args.starts.now c.loop-hart.hart w.in-Some.start c.loop-hart.invariant (sym w.in-Some.ensures)
          w.start_of.ensures
      | in-None w ↦ first-past IsSmallStart c.args.starts.now c.loop-hart.hart c.loop-hart.invariant (sym w.in-None.ensures)
    ]

pub returns-clause-small : goal.returns-clause-small
returns-clause-small c =
    let all : length c.args.starts.now ≤ c.loop-hart.hart = omega (arith, c.loop-hart-test.false, c.len-hart-end.ensures.number) in
    first-all IsSmallStart c.args.starts.now c.loop-hart.hart all c.loop-hart.invariant
