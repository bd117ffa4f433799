use Rattle.mx_tail.proofs.PassLaws.{passes_same, passes_adds}
use Rattle.mx_trace.proofs.LineLaws.{text_alone}
use Rattle.mx_trace.proofs.lines.put_turn.Goals as goal

pub returns-clause-passes : goal.returns-clause-passes
returns-clause-passes g c =
    passes_same (text_alone c.as_slice.ensures c.put_parts.ensures c.new-line.ensures) (passes_adds c.put.ensures.adds)
