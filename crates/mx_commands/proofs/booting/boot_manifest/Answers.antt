use Rattle.std.proofs.Common.{refl, Err}
use Rattle.mx_boot.specs.Boot.{Faulty}
use Rattle.mx_commands.specs.Boots.{Load, loaded, refused_by}
use Rattle.mx_commands.specs.Next.{refusal}
use Rattle.mx_commands.proofs.Scheduled.{boots_refused, boots_wanting}
use Rattle.mx_commands.proofs.booting.boot_manifest.Goals as goal

pub returns-in-Ok : goal.returns-in-Ok
returns-in-Ok g c = rw c.in-Ok.ensures c.boot_plan.ensures

pub returns-in-Err-Fault : goal.returns-in-Err-Fault
returns-in-Err-Fault g c =
    let judged = rw c.in-Err-Fault.field-0-is at c.in-Err-Fault.ensures in
    let side = c.args.side in
    let name = c.args.name.now in
    let fault = c.in-Err-Fault.fault in
    rw judged
    (boots_refused g.S.Store.gives (λ (rest : Load). loaded side name rest (Err fault)) (refusal name (refused_by side (Faulty fault)))
    c.args.store.now _ _ _ (λ rest. refl)
    (rw (c.refused.ensures, c.in-Err-Fault.field-0-is) at c.refuse.ensures))

pub returns-in-Err-NoMemory : goal.returns-in-Err-NoMemory
returns-in-Err-NoMemory g c = boots_wanting g.S.Store.gives _ c.args.store.now _
