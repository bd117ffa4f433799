use Rattle.std.proofs.Common.{lit<, arith}
use Rattle.mx_check.proofs.MayLaws.{leave_may}
use Rattle.mx_table_tests.proofs.checks.runs.visit.Goals as goal

pub returns-clause-free : goal.returns-clause-free
returns-clause-free g c = λ d. rw c.leave_domain.ensures (leave_may _ 0 c.args.domain d c.may-answer.ensures.again)

pub may-answer-requires : goal.may-answer-requires
may-answer-requires g c = (
  assumption c,
  (
    c.requires.free c.args.domain,
    (
      lit< tt,
      record {
        first = c.requires.first;
        last =
            omega (arith, c.requires.two, c.requires.last);
      },
    ),
  ),
)
