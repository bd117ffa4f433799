use Rattle.std.proofs.Common.{Some}
use Rattle.std.proofs.lemmas.Bool.{lt-ltb, le-ltb}
use Rattle.std.proofs.lemmas.Result.{err_from_is_err_and}
use Rattle.mx_tail.proofs.PassLaws.{passes_adds, coming_all, coming_next, coming_stop, coming_end}
use Rattle.mx_trace.specs.Did.{deed}
use Rattle.mx_turns.specs.Tracing.{deed_text}
use Rattle.mx_turns.proofs.tracing.put_lines.Goals as goal

pub returns-then-step-lines-clause-passes : goal.returns-then-step-lines-clause-passes
returns-then-step-lines-clause-passes g c = rw (lt-ltb c.args.step c.args.lines.from c.if-step-lines.true) (passes_adds c.put.ensures.adds)

pub returns-in_err-put_turn-clause-passes : goal.returns-in_err-put_turn-clause-passes
returns-in_err-put_turn-clause-passes g c =
    let p = err_from_is_err_and c.from_residual.result c.from_residual.ensures.1 in
    let told = deed_text (Some (deed c.args.turned c.args.before.now c.args.after.now)) in
    rw (le-ltb c.args.step c.args.lines.from c.if-step-lines.false, p.1, p.2)
    (coming_stop told (coming_all _ _ _) c.in_err-put_turn.ensures.passes)

pub returns-clause-passes : goal.returns-clause-passes
returns-clause-passes g c =
    rw (le-ltb c.args.step c.args.lines.from c.if-step-lines.false)
    (coming_end (coming_next (coming_all _ _ _) c.in_ok-put_turn.ensures.passes) c.put_did.ensures.passes)
