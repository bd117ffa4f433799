use Rattle.mx_machine.specs.Rows.{IsRowTo, NamesOwn, tallied}
use Rattle.mx_machine.proofs.bare.Bare.row_inside.Given as goal

abbrev pub invariant-turns : goal.invariant-turns
invariant-turns g l = record {
  row : IsRowTo l.fn.self l.hart l.made l.window (tallied l.hart l.made l.self);
  own : NamesOwn l.self l.hart;
}
