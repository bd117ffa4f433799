use Rattle.std.proofs.Common.{sym, ◌∙◌}
use Rattle.mx_io.proofs.CallLaws.{asks_listed, asks_other}
use Rattle.mx_io.proofs.files.Files.begin_call.Goals as goal

pub returns-then-next-clause-asks : goal.returns-then-next-clause-asks
returns-then-next-clause-asks c =
    rw (← c.self.view_is, c.next.ensures.after, c.saturating_add-self-inside.ensures)
    (asks_listed _ _ c.self.inside.calls c.self.invariant (sym c.next.ensures.fails ∙ c.if-next.true))

pub returns-clause-asks : goal.returns-clause-asks
returns-clause-asks c =
    rw (← c.self.view_is, c.next.ensures.after) (asks_other _ _ c.self.inside.calls c.self.invariant c.next.ensures.counted)
