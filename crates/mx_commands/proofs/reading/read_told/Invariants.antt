use Rattle.std.proofs.Common.{◌≡◌, ◌-◌, ◌≤◌, length, take}
use Rattle.mx_commands.proofs.Parts.{Came}
use Rattle.mx_commands.proofs.reading.read_told.Given as goal

abbrev pub invariant-parts : goal.invariant-parts
invariant-parts g l = record {
  within : l.got ≤ l.size;
  full : length l.bytes.items ≡ l.size;
  came : Came g.S.Store.gives l.name l.size l.initial.store l.store (take l.got l.bytes.items);
}

abbrev pub decreases-parts : goal.decreases-parts
decreases-parts g l = l.size - l.got
