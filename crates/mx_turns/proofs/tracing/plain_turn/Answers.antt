use Rattle.std.proofs.Common.{refl}
use Rattle.mx_any.specs.Machines.{meaning}
use Rattle.mx_model.specs.Reads.{flat_reads}
use Rattle.mx_model.specs.Run.{flat_made}
use Rattle.mx_turns.proofs.Sinking.{breaks_of, moves_of, moves_passes}
use Rattle.mx_turns.proofs.TraceTexts.{line_plain}
use Rattle.mx_turns.proofs.tracing.plain_turn.Goals as goal

pub returns-in-Ok-put_line-clause-shows : goal.returns-in-Ok-put_line-clause-shows
returns-in-Ok-put_line-clause-shows g c =
    let f = meaning c.args.machine.now in (
      rw c.step-kind.ensures.out.bytes at (moves_of c.in-Ok.ensures.adds),
      rw (line_plain (flat_reads f) f.core (flat_made f c.args.hart) c.args.lines c.args.hart c.requires.plain)
          (rw (c.steps-step.ensures, c.seen-before.ensures.seen, c.step-kind.ensures.kind) at
          (moves_passes c.in-Ok-put_line.ensures.passes c.in-Ok-put_line.ensures.few)),
    )

pub returns-in-Err-put_line-clause-shows : goal.returns-in-Err-put_line-clause-shows
returns-in-Err-put_line-clause-shows g c =
    let f = meaning c.args.machine.now in (
      rw c.step-kind.ensures.out.bytes at (moves_of c.in-Ok.ensures.adds),
      rw (line_plain (flat_reads f) f.core (flat_made f c.args.hart) c.args.lines c.args.hart c.requires.plain)
          (rw (c.steps-step.ensures, c.seen-before.ensures.seen, c.step-kind.ensures.kind) at
          (breaks_of c.in-Err-put_line.ensures.passes.stopped)),
    )

pub returns-in-Err-clause-shows : goal.returns-in-Err-clause-shows
returns-in-Err-clause-shows g c = (rw c.step-kind.ensures.out.bytes at (breaks_of c.in-Err.ensures.adds.left), refl, refl)
