-- How long the lists of a module's plan are at most.
use Rattle.std.specs.Prelude.{◌≤◌, length, IfSome}
use Rattle.mx_words.specs.Limits.{most_gates, most_inline_words}
use Rattle.mx_manifest.specs.declared.parts.ModulePlan.{ModulePlan}
use Rattle.mx_manifest.specs.InRange.{Each}

pub record HasShortLists (plan : ModulePlan) : Type 0 where
  pub words : IfSome plan.words (λ words. length words ≤ most_inline_words)
  pub gates : length plan.gates ≤ most_gates
  pub froms : Each (λ gate. length gate.from ≤ most_inline_words) plan.gates
  pub returns : length plan.returns ≤ most_gates
