use Rattle.std.proofs.Common.{◌≡◌, ℕ, ◌+◌, ◌≤◌, length}
use Rattle.std.specs.List.{AllByRecursion}
use Rattle.mx_call_tests.specs.Calls.{EndsBy}
use Rattle.mx_call_tests.proofs.worlds.one_heap.Given as goal

abbrev pub invariant-loop-module : goal.invariant-loop-module
invariant-loop-module l = record {
  count : length l.heaps ≡ l.module;
  areas : (n : ℕ) → l.fn.area.first + l.fn.area.count ≤ n → AllByRecursion (EndsBy n) l.heaps;
}
