use Rattle.mx_turns.proofs.Paces.{row_quantum}
use Rattle.mx_turns.proofs.pace.next_hart.Goals as goal

pub returns-in-Quantum-clause-named : goal.returns-in-Quantum-clause-named
returns-in-Quantum-clause-named c = λ s core i.
    row_quantum s core c.args.most c.in-Quantum.field-0 c.in-Quantum.field-1 c.in-Quantum.hart c.in-Quantum.left c.min.result
    c.requires.some c.min.ensures
    (rw c.in-Quantum.is at i)
