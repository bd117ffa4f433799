use Rattle.std.proofs.Common.{◌≡◌, ◌+◌, drop}
use Rattle.mx_source.specs.Characters.{mark_place}
use Rattle.mx_source.specs.declared.characters.Quotes.TheVariants.{Outside}
use Rattle.mx_source.proofs.characters.mark_place.Given as goal

abbrev pub invariant-characters : goal.invariant-characters
invariant-characters l = mark_place l.mark Outside l.text ≡ l.i + mark_place l.mark l.quotes (drop l.i l.text)
