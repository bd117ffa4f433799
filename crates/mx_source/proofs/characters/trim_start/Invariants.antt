use Rattle.std.proofs.Common.{◌≡◌, drop}
use Rattle.mx_source.specs.Characters.{trim_start}
use Rattle.mx_source.proofs.characters.trim_start.Given as goal

abbrev pub invariant-blanks : goal.invariant-blanks
invariant-blanks l = trim_start l.text ≡ trim_start (drop l.i l.text)
