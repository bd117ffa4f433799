use Rattle.std.proofs.Common.{◌≡◌, ◌≤◌}
use Rattle.mx_words.specs.Counting.{count_below}
use Rattle.mx_words.specs.Blocks.{is_broken}
use Rattle.mx_plain.proofs.blocks.broken_blocks.Given as goal

abbrev pub invariant-loop-block : goal.invariant-loop-block
invariant-loop-block g l = (l.count ≡ count_below l.block (is_broken l.size (g.M.WordMap.list l.map))) × (l.count ≤ l.block)
