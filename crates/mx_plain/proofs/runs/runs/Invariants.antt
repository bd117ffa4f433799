use Rattle.std.proofs.Common.{◌≡◌, ◌≤◌}
use Rattle.mx_words.specs.Counting.{count_below}
use Rattle.mx_words.specs.Starts.{is_start}
use Rattle.mx_plain.proofs.runs.runs.Given as goal

abbrev pub invariant-loop-word : goal.invariant-loop-word
invariant-loop-word g l = (l.count ≡ count_below l.word (is_start (g.M.WordMap.list l.map))) × (l.count ≤ l.word)
