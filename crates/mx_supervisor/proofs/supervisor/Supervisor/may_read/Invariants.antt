use Rattle.std.proofs.Common.{◌-◌}
use Rattle.std.specs.List.{range_with_len}
use Rattle.mx_supervisor.specs.Parts.{parts_of}
use Rattle.mx_supervisor.proofs.Reading.{HasReadTo}
use Rattle.mx_supervisor.proofs.supervisor.Supervisor.may_read.Given as goal

abbrev pub invariant-loop-word : goal.invariant-loop-word
invariant-loop-word g l =
    HasReadTo l.call (range_with_len l.first (l.behind - l.first)) (range_with_len l.word (l.behind - l.word))
    (parts_of g.T.PermTables l.fn.self) (parts_of g.T.PermTables l.self)
