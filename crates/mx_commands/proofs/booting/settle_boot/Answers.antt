use Rattle.std.proofs.Common.{◌≡◌, ℕ, List, Result, refl, subst, Err}
use Rattle.mx_any.specs.declared.any.AnyMachine.{AnyMachine}
use Rattle.mx_manifest.specs.Plan.{Said}
use Rattle.mx_boot.specs.Boot.{Faulty, TooFull, boot_of}
use Rattle.mx_boot.specs.Booted.{IsBooted, IsRefusedBy}
use Rattle.mx_boot.specs.declared.refused.BootRefused.{BootRefused}
use Rattle.mx_boot.specs.declared.refused.BootRefused.TheVariants.{Fault, TablesFull}
use Rattle.mx_commands.specs.Boots.{Load, booted, refused_by}
use Rattle.mx_commands.specs.Next.{refusal}
use Rattle.mx_commands.proofs.BootedLaws.{boots_new, boots_fresh}
use Rattle.mx_commands.proofs.Scheduled.{boots_refused, boots_wanting}
use Rattle.mx_commands.proofs.booting.settle_boot.Goals as goal

pub returns-in-Ok : goal.returns-in-Ok
returns-in-Ok g c =
    let images = c.args.images.items in
    let inputs = c.args.inputs.items in
    let boot = rw c.in-Ok.is at c.requires.boots in
    let fresh = boots_fresh c.args.plan images inputs boot.0 boot.1 in (
      refl,
      record {
        state = boot.0;
        boots = boot.1;
        fits = c.requires.fits;
        new = boots_new c.args.plan images inputs boot.0 boot.1;
        means = boot.2;
        size = fresh.0;
        kept = fresh.1;
        comes = λ rest. rw boot.1 (λ end before now status c. c);
      },
    )

refused_as : (plan : Said) (images inputs : List (List ℕ)) (boot : Result AnyMachine BootRefused) (field why : BootRefused)
    → IsBooted plan images inputs boot
    → boot ≡ Err field → field ≡ why → IsRefusedBy (boot_of plan images inputs) why
refused_as plan images inputs boot field why is refused named =
    subst (λ r. IsRefusedBy (boot_of plan images inputs) r) named (subst (λ r. IsBooted plan images inputs r) refused is)

pub returns-in-Err-Fault : goal.returns-in-Err-Fault
returns-in-Err-Fault g c =
    let images = c.args.images.items in
    let inputs = c.args.inputs.items in
    let is = c.requires.boots in
    let boot = refused_as c.args.plan images inputs c.args.boot c.in-Err-Fault.field-0 (Fault c.in-Err-Fault.fault) is c.in-Err-Fault.is
    (rw c.in-Err-Fault.is at c.in-Err-Fault.field-0-is) in
    let side = c.args.side in
    let name = c.args.name.now in
    let why = Faulty c.in-Err-Fault.fault in
    rw boot
    (boots_refused g.S.Store.gives (λ (rest : Load). booted side name (rest images inputs) c.args.plan (Err why))
    (refusal name (refused_by side why)) c.args.store.now _ _ _ (λ rest. refl)
    (rw c.refused.ensures at c.refuse.ensures))

pub returns-in-Err-TablesFull : goal.returns-in-Err-TablesFull
returns-in-Err-TablesFull g c =
    let images = c.args.images.items in
    let inputs = c.args.inputs.items in
    let is = c.requires.boots in
    let boot = refused_as c.args.plan images inputs c.args.boot c.in-Err-TablesFull.field-0
    (TablesFull c.in-Err-TablesFull.need c.in-Err-TablesFull.limit) is c.in-Err-TablesFull.is
    (rw c.in-Err-TablesFull.is at c.in-Err-TablesFull.field-0-is) in
    let side = c.args.side in
    let name = c.args.name.now in
    let why = TooFull c.in-Err-TablesFull.need c.in-Err-TablesFull.limit in
    rw boot
    (boots_refused g.S.Store.gives (λ (rest : Load). booted side name (rest images inputs) c.args.plan (Err why))
    (refusal name (refused_by side why)) c.args.store.now _ _ _ (λ rest. refl)
    (rw c.tables_full.ensures at c.refuse-in-Err-TablesFull.ensures))

pub returns : goal.returns
returns g c = boots_wanting g.S.Store.gives _ c.args.store.now _
