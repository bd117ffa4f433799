use Rattle.std.proofs.Common.{◌≡◌, ◌*◌, ◌≤◌, take}
use Rattle.mx_audit.specs.Lines.{words_of}
use Rattle.mx_audit.proofs.lines.words_of.Given as goal

abbrev pub invariant-loop-i : goal.invariant-loop-i
invariant-loop-i l = record {
  sum : l.words ≡ words_of (take l.i l.runs);
  small : l.words ≤ l.i * 16777216;
}
