use Rattle.std.proofs.Common.{inl, ◌∙◌}
use Rattle.mx_debugger.proofs.program.run_debugger.Goals as goal

pub returns-in-Ok : goal.returns-in-Ok
returns-in-Ok g c =
    let does = c.debug-status.ensures in
    inl (
      c.in-Ok.words,
      c.debug-status.result,
      c.in-Ok.ensures,
      record { answered = does.answered; talk = does.talk; headline = does.headline; refused = does.refused; complete = does.complete },
      c.from.ensures ∙ c.number.ensures.value,
    )
