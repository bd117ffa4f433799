use Rattle.std.proofs.Common.{rules, List, ap, ◌∙◌}
use Rattle.mx_check.specs.declared.flight.Flight.{Flight}
use Rattle.mx_check.specs.Calls.{waiting_harts}
use Rattle.mx_machine_tests.proofs.ResumeLaws.{may-fly, small-resumes}
use Rattle.mx_machine_tests.proofs.SmallLaws.{small-joined}
use Rattle.mx_machine_tests.proofs.small.resumed.Goals as goal

pub resume-requires : goal.resume-requires
resume-requires c = (
  search rules,
  (
    search rules,
    (
      search rules,
      rw c.flights_of-flights.ensures
          (may-fly _ _ _ c.in_ok-tables.ensures.size c.in_ok-range.ensures.inside),
    ),
  ),
)

pub new-supervisor-requires : goal.new-supervisor-requires
new-supervisor-requires c =
    let laid = c.in_ok-layout.ensures in
    let tables = c.in_ok-tables.ensures in
    let maps = tables.maps ∙ laid.one_each in (
      search rules,
      (
        search rules,
        (
          rw c.resume.ensures (small-joined _ _ _ _ _ laid tables.size maps),
          rw c.new.ensures tt,
        ),
      ),
    )

pub resume-requires-2 : goal.resume-requires-2
resume-requires-2 c =
    let laid = c.in_ok-layout.ensures in
    let tables = c.in_ok-tables.ensures in
    let maps = tables.maps ∙ laid.one_each in
    let range = c.in_ok-range.ensures in
    let waiting = c.is_left.ensures c.if-not-is_left.false in
    let halted = c.is_left-2.ensures c.if-not-is_left-2.false in
    let running = c.is_left-3.ensures c.if-not-is_left-3.false in (
      search rules,
      (
        search rules,
        rw (c.new-supervisor.ensures, c.resume.ensures) (
          small-joined _ _ _ _ _ laid tables.size maps,
          (
            rw c.new.ensures tt,
            rw c.states_of-states.ensures (small-resumes _ _ _ _ _ _ _ _ _ _ _ _ _ _ _ laid tables.size maps
                (ap (λ (fs : List Flight). waiting_harts fs 3) c.flights_of-flights.ensures) waiting halted running range.number range.range
                c.args.steps c.if-steps-gt1000.false),
          ),
        ),
      ),
    )
