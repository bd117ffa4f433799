use Rattle.mx_snapshot.proofs.KeptLaws.{kept_in_range}
use Rattle.mx_snapshot.proofs.kept.Kept.of.Goals as goal

pub invariant_of-result : goal.invariant_of-result
invariant_of-result c =
    rw (
      c.tables.ensures,
      c.upper.ensures.value,
      c.leaf.ensures.value,
      c.spill.ensures.value,
      c.lookaside.ensures.value,
      c.quantum.ensures.value,
      c.in_ok-names.ensures,
    )
    (kept_in_range c.args.plan.now c.plan_is_in_range.ensures)
