use Rattle.std.proofs.Common.{◌≡◌, ◌+◌}
use Rattle.machine_speed.proofs.turns.make_steps.Given as goal

abbrev pub invariant-loop-i : goal.invariant-loop-i
invariant-loop-i l = l.machine.core.turns ≡ l.fn.machine.core.turns + l._i
