use Rattle.std.proofs.Common.{◌≡◌}
use Rattle.mx_machine.specs.Actions.{halted_first}
use Rattle.mx_machine.proofs.bare.Bare.halt_left.Given as goal

abbrev pub invariant-loop-hart : goal.invariant-loop-hart
invariant-loop-hart g l = l.self ≡ record l.fn.self {
  parts =
      record l.fn.self.parts { harts = halted_first l.hart l.fn.self.harts l.fn.self.parts.harts };
}
