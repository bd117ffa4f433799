use Rattle.std.proofs.Common.{◌≡◌, length}
use Rattle.mx_snapshot.specs.Fields.{gate_in}
use Rattle.mx_resume.specs.Parts.{head_seen}
use Rattle.mx_resume.proofs.Lists.{Left}
use Rattle.mx_resume.proofs.gates.read_gates.Given as goal

abbrev pub invariant-gates : goal.invariant-gates
invariant-gates l = record {
  long : length l.gates ≡ l.counter;
  left : Left (gate_in (head_seen l.head)) l.bytes l.count l.fn.at l.counter l.gates l.at;
}
