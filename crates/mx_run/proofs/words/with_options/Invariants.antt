use Rattle.std.proofs.Common.{◌≡◌, drop, map, fold, string_bytes, None}
use Rattle.mx_commands.specs.Order.{nothing}
use Rattle.mx_run.specs.Asked.{parsed_of}
use Rattle.mx_run.specs.Words.{Stands, with_word}
use Rattle.mx_run.proofs.words.with_options.Given as goal

abbrev pub invariant-loop-option : goal.invariant-loop-option
invariant-loop-option l = fold (with_word l.asker) (parsed_of l.parse) (map string_bytes (drop l.option-index l.options))
    ≡ fold (with_word l.asker) (Stands None nothing) (map string_bytes l.options)
