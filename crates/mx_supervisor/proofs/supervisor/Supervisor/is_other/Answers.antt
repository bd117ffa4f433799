use Rattle.std.proofs.Common.{◌≡◌, Bool, true, false, not, ◌||◌, ◌∙◌}
use Rattle.mx_supervisor.proofs.supervisor.Supervisor.is_other.Goals as goal

same : (b t : Bool) → b ≡ true → (not b || t) ≡ not (not t)
same b true e = rw e
same b false e = rw e

none : (b t r : Bool) → b ≡ r → r ≡ false → (not b || t) ≡ not r
none b t r e f = rw (e, f)

pub returns-then-is_module : goal.returns-then-is_module
returns-then-is_module g c = λ rest. same _ _ (c.is_module.ensures.module rest ∙ c.if-is_module.true)

pub returns-else-is_module : goal.returns-else-is_module
returns-else-is_module g c = λ rest. none _ _ _ (c.is_module.ensures.module rest) c.if-is_module.false

pub is_module-requires : goal.is_module-requires
is_module-requires g c = search
