use Rattle.std.proofs.Common.{◌<◌, length, refl, sym, subst}
use Rattle.mx_any.specs.Machines.{meaning}
use Rattle.mx_model.specs.Reads.{flat_reads}
use Rattle.mx_model.specs.Run.{flat_made}
use Rattle.mx_model.specs.State.{Flat}
use Rattle.mx_turns.proofs.Sinking.{breaks_of, moves_of, moves_passes}
use Rattle.mx_turns.proofs.TraceTexts.{harts_kept, line_told}
use Rattle.mx_turns.proofs.tracing.deed_turn.Goals as goal

pub held-after-requires : goal.held-after-requires
held-after-requires g c =
    subst (λ (f : Flat). c.args.hart < length f.core.harts) (sym c.step-kind.ensures.turn)
    (subst (λ n. c.args.hart < n) (sym (harts_kept (meaning c.args.machine.now) c.args.hart)) c.requires.there)

pub returns-in-Ok-put_lines-clause-shows : goal.returns-in-Ok-put_lines-clause-shows
returns-in-Ok-put_lines-clause-shows g c =
    let f = meaning c.args.machine.now in
    let h = c.args.hart in (
      rw c.step-kind.ensures.out.bytes at (moves_of c.in-Ok.ensures.adds),
      rw (line_told (flat_reads f) f.core (flat_made f h) c.args.lines h c.requires.asked c.requires.there (harts_kept f h))
          (rw (
            c.held-before.ensures,
            c.held-after.ensures,
            c.note.ensures,
            c.step-kind.ensures.out.note,
            c.step-kind.ensures.turn,
            c.steps-step.ensures,
            c.seen_of-seen.ensures.seen,
            c.step-kind.ensures.kind,
          )
          at (moves_passes c.in-Ok-put_lines.ensures.passes c.in-Ok-put_lines.ensures.few)),
    )

pub returns-in-Err-put_lines-clause-shows : goal.returns-in-Err-put_lines-clause-shows
returns-in-Err-put_lines-clause-shows g c =
    let f = meaning c.args.machine.now in
    let h = c.args.hart in (
      rw c.step-kind.ensures.out.bytes at (moves_of c.in-Ok.ensures.adds),
      rw (line_told (flat_reads f) f.core (flat_made f h) c.args.lines h c.requires.asked c.requires.there (harts_kept f h))
          (rw (
            c.held-before.ensures,
            c.held-after.ensures,
            c.note.ensures,
            c.step-kind.ensures.out.note,
            c.step-kind.ensures.turn,
            c.steps-step.ensures,
            c.seen_of-seen.ensures.seen,
            c.step-kind.ensures.kind,
          )
          at (breaks_of c.in-Err-put_lines.ensures.passes.stopped)),
    )

pub returns-in-Err-clause-shows : goal.returns-in-Err-clause-shows
returns-in-Err-clause-shows g c = (rw c.step-kind.ensures.out.bytes at (breaks_of c.in-Err.ensures.adds.left), refl, refl)
