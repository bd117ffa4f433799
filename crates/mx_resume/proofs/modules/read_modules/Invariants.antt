use Rattle.std.proofs.Common.{◌≡◌, List, length}
use Rattle.mx_snapshot.specs.Fields.{module_in}
use Rattle.mx_snapshot.specs.Stored.{StoredModule}
use Rattle.mx_resume.specs.Parts.{AreModulesOf, head_seen}
use Rattle.mx_resume.proofs.Lists.{Left}
use Rattle.mx_resume.proofs.modules.read_modules.Given as goal

abbrev pub invariant-modules : goal.invariant-modules
invariant-modules l = (before : List StoredModule) × (length before ≡ l.i) × AreModulesOf before l.modules
    × Left (module_in (head_seen l.head)) l.bytes l.head.modules l.fn.at l.i before l.at
