use Rattle.std.proofs.Common.{◌≡◌, ◌++◌, map, string_bytes}
use Rattle.std.specs.Vec.Iter.{into_iter_items}
use Rattle.mx_run.proofs.program.read_words.Given as goal

abbrev pub invariant-words : goal.invariant-words
invariant-words l = l.words ++ map string_bytes (into_iter_items l.word-iterator)
    ≡ map string_bytes (into_iter_items l.initial.word-iterator)
