use Rattle.std.proofs.Common.{◌≡◌, ◌+◌, ◌-◌, ◌<◌, ◌≤◌}
use Rattle.mx_model.specs.Events.{no_events}
use Rattle.mx_model.specs.State.{Flat}
use Rattle.mx_machine.specs.Rows.{HasRunOn}
use Rattle.mx_machine.specs.Ties.{IsWhole, RunsAlive}
use Rattle.mx_machine.specs.Windows.{IsWindow}
use Rattle.mx_machine.proofs.bare.Bare.rest.Given as goal

abbrev pub invariant-rows : goal.invariant-rows
invariant-rows g l = record {
  run : (f : Flat) → HasRunOn f l.hart l.made l.fn.self → HasRunOn f l.hart l.ran l.self;
  whole : IsWhole l.self;
  counted : l.self.steps + l.made ≡ l.fn.self.steps + l.ran;
  empty : l.out ≡ no_events;
  alive : l.ran < l.room → RunsAlive l.self l.hart;
  window : IsWindow l.self l.hart l.window;
  upto : l.ran ≤ l.room;
}

abbrev pub decreases-rows : goal.decreases-rows
decreases-rows g l = l.room - l.ran
