use Rattle.std.proofs.Common.{◌≡◌, ◌≤◌}
use Rattle.mx_words.specs.Counting.{count_below}
use Rattle.mx_plain.proofs.BlockTests.{crowded_at}
use Rattle.mx_plain.proofs.blocks.crowded_lines.Given as goal

abbrev pub invariant-loop-line : goal.invariant-loop-line
invariant-loop-line g l = (l.count ≡ count_below l.line (crowded_at (g.M.WordMap.list l.map))) × (l.count ≤ l.line)
