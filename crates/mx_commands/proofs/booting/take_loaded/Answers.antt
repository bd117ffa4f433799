use Rattle.mx_commands.specs.Boots.{Load, after_load, loaded}
use Rattle.mx_plan.specs.Manifest.{judged}
use Rattle.mx_commands.proofs.Scheduled.{boots_on}
use Rattle.mx_commands.proofs.booting.take_loaded.Goals as goal

pub returns-in-Ok : goal.returns-in-Ok
returns-in-Ok g c =
    let takes = rw c.manifest_file.ensures at c.in-Ok.ensures.takes in
    let side = c.args.side in
    let name = c.args.name.now in
    boots_on g.S.Store.gives (after_load side name) (λ (rest : Load). loaded side name rest (judged c.in-Ok.bytes.items)) _ _ _ _ _ _
    takes.0
    (λ rest. takes.1 (λ bytes. loaded side name rest (judged bytes))) _ (rw c.as_slice.ensures.value at c.boot_manifest.ensures)

pub returns-in-Err : goal.returns-in-Err
returns-in-Err g c =
    let takes = rw c.manifest_file.ensures at c.in-Err.ensures.takes in
    λ rest console dump. takes (λ bytes. loaded c.args.side c.args.name.now rest (judged bytes)) console dump
