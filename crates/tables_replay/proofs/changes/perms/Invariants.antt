use Rattle.mx_table.specs.Names.{NamesUpTo}
use Rattle.tables_replay.proofs.changes.perms.Given as goal

abbrev pub invariant-loop-domain : goal.invariant-loop-domain
invariant-loop-domain l = NamesUpTo l.domains l.perms
