use Rattle.std.proofs.Common.{◌≡◌, ◌-◌, ◌≤◌, length}
use Rattle.parts_speed.proofs.owners.spread.Given as goal

abbrev pub invariant-loop-first : goal.invariant-loop-first
invariant-loop-first l = record {
  all : length l.owners ≡ l.words;
  most : l.first ≤ 50331648;
}

abbrev pub decreases-loop-first : goal.decreases-loop-first
decreases-loop-first l = 50331648 - l.first
