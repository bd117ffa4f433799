use Rattle.std.proofs.Common.{◌≡◌, ◌<◌}
use Rattle.mx_model.specs.Events.{no_events}
use Rattle.mx_machine.specs.Held.{meaning}
use Rattle.mx_machine.specs.Ties.{RunsAlive}
use Rattle.mx_machine.specs.Rows.{HasRunOn}
use Rattle.mx_machine.proofs.bare.Bare.run_on.Given as goal

abbrev pub invariant-turns : goal.invariant-turns
invariant-turns g l = record {
  run : HasRunOn (meaning l.fn.self) l.hart l.ran l.self;
  empty : l.out ≡ no_events;
  alive : l.ran < l.room → RunsAlive l.self l.hart;
}
