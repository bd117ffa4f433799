use Rattle.std.proofs.Common.{◌≡◌, ◌+◌, drop}
use Rattle.std.specs.List.{prefix_len}
use Rattle.mx_source.specs.Characters.{is_in_word}
use Rattle.mx_source.proofs.lines.word_size.Given as goal

abbrev pub invariant-characters : goal.invariant-characters
invariant-characters l = prefix_len is_in_word l.text ≡ l.i + prefix_len is_in_word (drop l.i l.text)
