use Rattle.std.proofs.Common.{sym, subst}
use Rattle.mx_model.specs.declared.values.TurnKind.{TurnKind}
use Rattle.mx_model.specs.Run.{kind}
use Rattle.mx_model.specs.State.{Flat, flat}
use Rattle.mx_model.specs.Valid.{IsValid}
use Rattle.mx_any.specs.Machines.{meaning}
use Rattle.mx_twin.specs.Turns.{AreAlike, AreTwinTurns}
use Rattle.mx_twin.proofs.TurnRows.{twin-turns}
use Rattle.mx_twin.proofs.pair.step_pair.Goals as goal

pub returns-clause-twins : goal.returns-clause-twins
returns-clause-twins c = λ s t x y k e.
    let v = subst (λ (f : Flat). IsValid f.core) x c.any_machine_is_valid.ensures.valid in
    let w = subst (λ (f : Flat). IsValid f.core) y c.any_machine_is_valid-2.ensures.valid in
    let a = subst (λ (f : Flat). AreAlike f (flat t)) x (subst (λ (g : Flat). AreAlike (meaning c.args.a.now) g) y c.requires.alike) in
    let p = twin-turns s t c.args.hart v w a k e in
    let m = (c.step-first.ensures.state s x).kind in
    let n = (c.step-second.ensures.state t y).kind in
    subst (λ (z : TurnKind). AreTwinTurns s t c.args.hart z c.step-second.result) (sym m)
    (subst (λ (z : TurnKind). AreTwinTurns s t c.args.hart (kind s c.args.hart) z) (sym n) p)
