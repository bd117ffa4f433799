use Rattle.std.proofs.Common.{◌≡◌, ◌+◌, drop}
use Rattle.std.specs.List.{prefix_len}
use Rattle.mx_source.specs.Characters.{is_in_name}
use Rattle.mx_source.proofs.lines.name_size.Given as goal

abbrev pub invariant-characters : goal.invariant-characters
invariant-characters l = prefix_len is_in_name l.text ≡ l.i + prefix_len is_in_name (drop l.i l.text)
