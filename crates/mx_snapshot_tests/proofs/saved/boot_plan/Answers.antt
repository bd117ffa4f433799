use Rattle.mx_snapshot_tests.proofs.saved.boot_plan.Goals as goal

pub returns-in-Ok-boot : goal.returns-in-Ok-boot
returns-in-Ok-boot c =
    let booted = c.in-Ok-boot.ensures in
    rw (c.in-Ok.ensures, booted.2) (c.machines_are_of_their_plan.ensures.boot c.args.plan.now _ _ booted.0 booted.1)
