use Rattle.std.proofs.Common.{◌≡◌, ◌++◌, length, take, drop}
use Rattle.mx_words.specs.Caches.{places_without}
use Rattle.mx_caches.proofs.sidecars.Sidecars.drop_overlap.Given as goal

abbrev pub invariant-loop-at : goal.invariant-loop-at
invariant-loop-at l = record {
  long : length l.initial.self-inside.spans ≡ 32;
  dropped : l.self-inside.spans ≡ places_without l.first l.count (take l.at l.initial.self-inside.spans)
      ++ drop l.at l.initial.self-inside.spans;
}
