use Rattle.std.proofs.Common.{◌≡◌}
use Rattle.mx_call_tests.proofs.worlds.filled_heap.Given as goal

abbrev pub invariant-loop : goal.invariant-loop
invariant-loop l = record {
  first : l.heap.area.first ≡ l.fn.area.first;
  count : l.heap.area.count ≡ l.fn.area.count;
}
