use Rattle.std.proofs.Common.{refl}
use Rattle.mx_commands.specs.Boots.{Rest}
use Rattle.mx_commands.specs.Commands.{audited}
use Rattle.mx_commands.specs.Next.{End}
use Rattle.mx_commands.proofs.Continued.{continues_end}
use Rattle.mx_commands.proofs.auditing.audit_manifest.Goals as goal

pub returns-in-Ok : goal.returns-in-Ok
returns-in-Ok g c =
    let takes = c.in-Ok.ensures in
    let goes = takes.1 in
    let plan = c.in-Ok.booted.plan in
    let rest : Rest = λ plan s more. End (audited plan s) in
    λ console dump. goes.comes rest _ _ _ _
    (continues_end g.S.Store.gives (λ more. End (audited plan goes.state)) (audited plan goes.state) refl c.take_boot.new.store
    (rw takes.0 at (c.audit_boot.ensures goes.state goes.means console dump)))

pub returns-in-Err : goal.returns-in-Err
returns-in-Err g c =
    let rest : Rest = λ plan s more. End (audited plan s) in
    λ console dump. c.in-Err.ensures rest console dump
