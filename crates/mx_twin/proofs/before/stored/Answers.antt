use Rattle.mx_twin.proofs.before.stored.Goals as goal
use Rattle.mx_twin.proofs.Registers.{store-register}

pub bounds-view-rs1 : goal.bounds-view-rs1
bounds-view-rs1 c = store-register _ _ _ _ _ c.in-Some-Store.field-0-is c.in-Some-Store.ensures.valid
