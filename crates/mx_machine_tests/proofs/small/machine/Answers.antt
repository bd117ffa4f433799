use Rattle.std.proofs.Common.{rules, refl, ◌∙◌}
use Rattle.mx_machine_tests.proofs.SmallLaws.{small-gates, small-joined, small-starts, some-there}
use Rattle.mx_machine_tests.proofs.small.machine.Goals as goal

pub new-supervisor-requires : goal.new-supervisor-requires
new-supervisor-requires c =
    let laid = c.in_ok-layout.ensures in
    let tables = c.in_ok-tables.ensures in
    let maps = tables.maps ∙ laid.one_each in (
      search rules,
      (
        search rules,
        rw c.new.ensures (
          small-joined _ _ _ _ _ laid tables.size maps,
          small-gates _ _ _ c.in_ok-gates.gates maps tables.size c.in_ok-gates.ensures,
        ),
      ),
    )

pub new-requires-2 : goal.new-requires-2
new-requires-2 c =
    let laid = c.in_ok-layout.ensures in
    let tables = c.in_ok-tables.ensures in
    let maps = tables.maps ∙ laid.one_each in (
      search rules,
      (
        search rules,
        rw (c.new-supervisor.ensures, c.new.ensures) (
          small-joined _ _ _ _ _ laid tables.size maps,
          (
            small-gates _ _ _ c.in_ok-gates.gates maps tables.size c.in_ok-gates.ensures,
            small-starts _ _ _ _ _ laid tables.size maps c.in_ok-starts.starts (some-there _ c.if-harts-eq0.false)
                c.in_ok-starts.ensures.count refl c.in_ok-starts.ensures.each,
          ),
        ),
      ),
    )
