use Rattle.std.proofs.Common.{◌≡◌, ◌-◌, take, drop}
use Rattle.mx_words.specs.Ranges.{ram_base}
use Rattle.mx_supervisor.proofs.supervisor.Supervisor.print.Given as goal

abbrev pub invariant-loop-i : goal.invariant-loop-i
invariant-loop-i g l = l.out ≡ record l.fn.out { bytes = take l.i (drop (l.addr - ram_base) l.self.ram) }
