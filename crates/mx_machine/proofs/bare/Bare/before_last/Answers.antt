use Rattle.std.proofs.Common.{◌≡◌, true, false, sym, ◌∙◌, arith}
use Rattle.mx_machine.proofs.bare.Bare.before_last.Goals as goal
use Rattle.mx_machine.proofs.bare.Bare.before_last.Goals.{else-most-gt1-via-then-most-gt1+else-runs_alive, else-most-gt1-via-else-most-gt1}

pub returns-then-runs_alive-clause-alive : goal.returns-then-runs_alive-clause-alive
returns-then-runs_alive-clause-alive g c = λ some. c.runs_alive.ensures.0 c.if-runs_alive.true

pub returns-else-most-gt1-clause-all : goal.returns-else-most-gt1-clause-all
returns-else-most-gt1-clause-all g c = λ alive. elim c.else-most-gt1.branch [
  | else-most-gt1-via-then-most-gt1+else-runs_alive w ↦
      absurd (let e : true ≡ false = sym (w.runs_alive.ensures.1 alive) ∙ w.if-runs_alive.false in let z : ⊥ = cc in z)
  | else-most-gt1-via-else-most-gt1 w ↦ omega (arith, w.if-most-gt1.false, c.requires.some)
]
