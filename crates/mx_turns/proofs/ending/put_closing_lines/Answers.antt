use Rattle.std.proofs.Common.{sym, ap, ◌∙◌, length}
use Rattle.std.proofs.lemmas.List.{length-map}
use Rattle.std.proofs.lemmas.Result.{err_from_is_err_and}
use Rattle.mx_tail.proofs.PassLaws.{passes_failed}
use Rattle.mx_turns.proofs.Sinking.{passes_end}
use Rattle.mx_turns.proofs.ending.put_closing_lines.Goals as goal

pub returns-in_err-put_closing : goal.returns-in_err-put_closing
returns-in_err-put_closing g c =
    let p = err_from_is_err_and c.from_residual.result c.from_residual.ensures.1 in
    rw (p.1, p.2) (passes_failed (rw (c.end_of-end.ensures c.args.machine.now.core c.steps.ensures c.all_halted.ensures, c.requires.names)
    at c.in_err-put_closing.ensures))

pub returns : goal.returns
returns g c = passes_end (rw (c.end_of-end.ensures c.args.machine.now.core c.steps.ensures c.all_halted.ensures, c.requires.names) at
    c.in_ok-put_closing.ensures) c.end.ensures.puts

pub put_closing-requires : goal.put_closing-requires
put_closing-requires g c =
    let plan = c.requires.plan in
    let names = sym (length-map c.args.names.now _) ∙ ap length c.requires.names ∙ sym plan.modules in
    (search, (names, (c.kind.ensures ∙ sym plan.kind, c.limit.ensures.value ∙ sym plan.limit)))
