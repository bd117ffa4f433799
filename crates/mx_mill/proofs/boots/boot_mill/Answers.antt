use Rattle.std.proofs.Common.{◌≡◌, ℕ, List, [], Result, Ok, ap, sym, ◌∙◌}
use Rattle.mx_model.specs.State.{State, flat}
use Rattle.mx_manifest.specs.Plan.{Said}
use Rattle.mx_boot.specs.Boot.{Refusal, boot_of, boot_state}
use Rattle.mx_mill.specs.Plan.{mill_plan, no_images}
use Rattle.mx_mill.proofs.BootLaws.{mill_boots}
use Rattle.mx_mill.proofs.boots.boot_mill.Goals as goal

boots_as : (k : ℕ) (plan : Said) (images given : List (List ℕ)) → plan ≡ mill_plan k → images ≡ given → given ≡ no_images
    → boot_of plan images [] ≡ Ok (boot_state (mill_plan k) no_images [])
boots_as k plan images given p i n = ap (λ (x : Said). boot_of x images []) p ∙ ap (λ is. boot_of (mill_plan k) is []) (i ∙ n)
    ∙ mill_boots k

ok_same : (r : Result State Refusal) (s t : State) → r ≡ Ok s → r ≡ Ok t → s ≡ t
ok_same r s t p q = let e = sym p ∙ q in cc

pub returns-in-Ok : goal.returns-in-Ok
returns-in-Ok c =
    let is = boots_as c.args.k _ _ _ c.in_ok-plan.ensures c.as_slice.ensures.value c.in_ok-images.ensures in
    let booted = c.in-Ok.ensures in
    booted.2 ∙ ap flat (ok_same _ _ _ booted.1 is)

pub unreachable-requires : goal.unreachable-requires
unreachable-requires c =
    let is = boots_as c.args.k _ _ _ c.in_ok-plan.ensures c.as_slice.ensures.value c.in_ok-images.ensures in
    let refused = rw c.in-Err-Fault.field-0-is at c.in-Err-Fault.ensures in
    let both = sym refused ∙ is in
    cc

pub unreachable-requires-in-Err-TablesFull : goal.unreachable-requires-in-Err-TablesFull
unreachable-requires-in-Err-TablesFull c =
    let is = boots_as c.args.k _ _ _ c.in_ok-plan.ensures c.as_slice.ensures.value c.in_ok-images.ensures in
    let refused = rw c.in-Err-TablesFull.field-0-is at c.in-Err-TablesFull.ensures in
    let both = sym refused ∙ is in
    cc
