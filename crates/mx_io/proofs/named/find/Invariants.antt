use Rattle.std.proofs.Common.{◌≡◌}
use Rattle.std.specs.Ordering.{nat_cmp}
use Rattle.std.specs.Cmp.Lexicographic.{slice_cmp}
use Rattle.std.specs.FinMap.Entries.{find}
use Rattle.std.specs.VecDeque.Iter.{deque_iter_rest}
use Rattle.mx_io.specs.Named.{named}
use Rattle.mx_io.proofs.named.find.Given as goal

abbrev pub invariant-loop-entry : goal.invariant-loop-entry
invariant-loop-entry g l = find (slice_cmp nat_cmp) l.name (named l.entries.items)
    ≡ find (slice_cmp nat_cmp) l.name (named (deque_iter_rest l.entry-iterator))
