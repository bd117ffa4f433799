use Rattle.mx_manifest.specs.Section.{section_view}
use Rattle.mx_manifest.proofs.Short.{from_length}
use Rattle.mx_manifest.proofs.build.gate_plan.Goals as goal

pub domains-requires-clause-few : goal.domains-requires-clause-few
domains-requires-clause-few c = from_length c.args.names.now (section_view c.args.gate) c.from_values.result.now c.from_values.ensures
    c.requires.few
