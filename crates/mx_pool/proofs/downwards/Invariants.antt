use Rattle.std.proofs.Common.{◌≡◌, ℕ, ◌-◌, ◌<◌, get_or, length}
use Rattle.mx_pool.proofs.downwards.Given as goal

abbrev pub invariant-loop-i : goal.invariant-loop-i
invariant-loop-i l = record {
  len : length l.free.items ≡ l.frames;
  each : (k : ℕ) → k < l.i → get_or l.free.items k 0 ≡ l.frames - 1 - k;
}
