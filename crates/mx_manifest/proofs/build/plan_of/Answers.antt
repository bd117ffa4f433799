use Rattle.mx_manifest.specs.Section.{section_view}
use Rattle.mx_manifest.proofs.Short.{shorts}
use Rattle.mx_manifest.proofs.build.plan_of.Goals as goal

pub module_plans-requires-clause-short : goal.module_plans-requires-clause-short
module_plans-requires-clause-short c = shorts (section_view c.args.top) _ _ c.requires.in_range c.requires.names c.elements_at.ensures
