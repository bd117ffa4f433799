use Rattle.mx_boot.proofs.Fitting.{boot-faulty}
use Rattle.mx_boot.proofs.booting.boot_files.Goals as goal

pub returns-in-Err-Fault : goal.returns-in-Err-Fault
returns-in-Err-Fault c =
    rw c.in-Err-Fault.field-0-is (boot-faulty c.args.plan.now c.args.images.now c.args.inputs.now c.in-Err-Fault.fault
    (rw c.in-Err-Fault.field-0-is at c.in-Err-Fault.ensures))
