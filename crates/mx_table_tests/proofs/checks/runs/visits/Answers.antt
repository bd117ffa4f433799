use Rattle.std.proofs.Common.{lit<, lit≤, arith}
use Rattle.mx_table_tests.proofs.checks.runs.visits.Goals as goal

pub may-third-requires : goal.may-third-requires
may-third-requires g c =
    (assumption c, (c.visit-second.ensures.free 1, (lit< tt, record { first = lit≤ tt; last = omega (arith, c.visit-second.ensures.two) })))
