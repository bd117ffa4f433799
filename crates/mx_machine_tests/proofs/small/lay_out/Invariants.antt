use Rattle.mx_machine_tests.specs.Small.{AreLaid}
use Rattle.mx_machine_tests.proofs.small.lay_out.Given as goal

abbrev pub invariant-loop-i : goal.invariant-loop-i
invariant-loop-i l = AreLaid l.i l.harts l.layout.rows.items l.layout.ram l.layout.owners l.layout.heaps l.layout.stacks
