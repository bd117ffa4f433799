use Rattle.std.proofs.lemmas.Bool.{lt-ltb, le-ltb}
use Rattle.mx_tail.proofs.PassLaws.{passes_adds, passes_last}
use Rattle.mx_turns.proofs.tracing.put_line.Goals as goal

pub returns-then-step-lines-clause-passes : goal.returns-then-step-lines-clause-passes
returns-then-step-lines-clause-passes g c = rw (lt-ltb c.args.step c.args.lines.from c.if-step-lines.true) (passes_adds c.put.ensures.adds)

pub returns-else-step-lines-clause-passes : goal.returns-else-step-lines-clause-passes
returns-else-step-lines-clause-passes g c = rw (le-ltb c.args.step c.args.lines.from c.if-step-lines.false)
    (passes_last c.put_turn.ensures.passes)
