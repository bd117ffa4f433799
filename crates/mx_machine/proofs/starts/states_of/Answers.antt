use Rattle.std.proofs.Common.{length, ◌≤◌, arith, ap, List, ◌∙◌}
use Rattle.std.proofs.lemmas.Option.{slice_get_past}
use Rattle.mx_machine.specs.declared.starts.HartState.{HartState}
use Rattle.mx_machine.specs.Smalls.{IsSmallState}
use Rattle.mx_machine.proofs.SmallLaws.{first-all, first-more, first-past, get-there}
use Rattle.mx_machine.proofs.starts.states_of.Goals.{in-Some, in-None}
use Rattle.mx_machine.proofs.starts.states_of.Goals as goal

pub loop-hart-preserved : goal.loop-hart-preserved
loop-hart-preserved c =
    elim c.match-get.branch [
      | in-Some w ↦ first-more IsSmallState c.args.states.now c.loop-hart.hart w.in-Some.state.now c.loop-hart.invariant
          (get-there c.args.states.now c.as_slice.result.now c.loop-hart.hart w.in-Some.state.now (c.as_slice.ensures.value
          ∙ c.states.view_is) w.in-Some.ensures.lookup.3.0
          (w.in-Some.ensures.lookup.3.1 w.in-Some.state.now)) w.state_of.ensures
      | in-None w ↦ first-past IsSmallState c.args.states.now c.loop-hart.hart c.loop-hart.invariant
          (slice_get_past c.args.states.now c.loop-hart.hart (omega
          (arith, w.in-None.ensures.lookup.3, ap (λ (xs : List HartState). length xs) (c.as_slice.ensures.value ∙ c.states.view_is))))
    ]

pub returns-clause-small : goal.returns-clause-small
returns-clause-small c =
    let all : length c.args.states.now ≤ c.loop-hart.hart = omega (arith, c.loop-hart-test.false, c.len-hart-end.ensures.number) in
    first-all IsSmallState c.args.states.now c.loop-hart.hart all c.loop-hart.invariant
