use Rattle.std.proofs.Common.{◌≡◌, ◌+◌, ◌≤◌, length, drop, option_map, false}
use Rattle.mx_source.specs.Operands.{quoted_bytes}
use Rattle.mx_source.proofs.texts.quoted_size.Given as goal

abbrev pub invariant-characters : goal.invariant-characters
invariant-characters l =
    (option_map length (quoted_bytes false l.text) ≡ option_map (λ bytes. l.size + length bytes) (quoted_bytes l.escape (drop l.i l.text)))
    × (l.size ≤ l.i)
