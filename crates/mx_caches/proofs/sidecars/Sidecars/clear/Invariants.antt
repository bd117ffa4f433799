use Rattle.std.proofs.Common.{◌≡◌, None, length, take, replicate}
use Rattle.mx_caches.proofs.sidecars.Sidecars.clear.Given as goal

abbrev pub invariant-loop-place : goal.invariant-loop-place
invariant-loop-place l = record {
  long : length l.self-inside.spans ≡ 32;
  emptied : take l.place l.self-inside.spans ≡ replicate l.place None;
}
