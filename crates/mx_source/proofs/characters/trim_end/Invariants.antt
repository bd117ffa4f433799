use Rattle.std.proofs.Common.{◌≡◌, ◌≤◌, length, take}
use Rattle.mx_source.specs.Characters.{trim_end}
use Rattle.mx_source.proofs.characters.trim_end.Given as goal

abbrev pub invariant-blanks : goal.invariant-blanks
invariant-blanks l = (l.end ≤ length l.text) × (trim_end (take l.end l.text) ≡ trim_end l.text)

abbrev pub decreases-blanks : goal.decreases-blanks
decreases-blanks l = l.end
