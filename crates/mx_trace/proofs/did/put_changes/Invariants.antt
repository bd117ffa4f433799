use Rattle.std.proofs.Common.{◌≡◌, ◌+◌, ◌*◌, ◌%◌, ◌≤◌, ◌++◌, length}
use Rattle.mx_trace.proofs.DidLaws.{rest_text}
use Rattle.mx_trace.proofs.did.put_changes.Given as goal

abbrev pub invariant-loop-i : goal.invariant-loop-i
invariant-loop-i g l = record {
  within : l.i ≤ 32;
  fours : l.i % 4 ≡ 0;
  text : l.line ≡ rest_text l.before l.after l.i ++ l.initial.line;
  few : length l.line + 23 * l.i ≤ 736 + length l.initial.line;
}

abbrev pub decreases-loop-i : goal.decreases-loop-i
decreases-loop-i g l = l.i
