-- Harts of a plan without a fault.
use Rattle.std.proofs.Common.{◌≡◌, ℕ, zero, suc, ◌+◌, ◌-◌, ◌*◌, ◌^◌, ◌<◌, ◌≤◌, true, List, [], ◌∷◌, length, get_or, set, replicate}
use Rattle.std.proofs.Common.{slice_get, Option, Some, None, unwrap_or, refl, ap, ◌∙◌, sym, arith, mul-le-mul_left, mul_assoc}
use Rattle.std.proofs.lemmas.Option.{same_Some, slice_get_within}
use Rattle.std.specs.List.{enumerate_from, flat_map}
use Rattle.std.specs.Option.{option_map_or}
use Rattle.std.proofs.lemmas.List.{length-set, length-replicate}
use Rattle.mx_words.specs.FirstRow.{first_row}
use Rattle.mx_words.proofs.FirstRowLaws.{first_row-append}
use Rattle.mx_model.specs.Valid.{IsRegisters, IsHart}
use Rattle.mx_manifest.specs.declared.parts.HartPlan.{HartPlan}
use Rattle.mx_manifest.specs.declared.parts.ModulePlan.{ModulePlan}
use Rattle.mx_manifest.specs.InRange.{IsInRange}
use Rattle.mx_manifest.specs.Plan.{Said}
use Rattle.mx_words.proofs.OptionLaws.{neither}
use Rattle.mx_boot.specs.Areas.{Home, home, stack_words, stack_area, areas}
use Rattle.mx_boot.specs.Boot.{stack_address, hart_at_boot}
use Rattle.mx_boot.specs.Entries.{hart_start}
use Rattle.mx_boot.specs.Faults.{Fault, is_in_ram, at_hart, hart_rows, harts_rows}
use Rattle.mx_boot.proofs.Apart.{in_ram}
use Rattle.mx_boot.proofs.Entered.{IsInside, entry_inside, entry_clear}
use Rattle.mx_boot.proofs.Homes.{hart_domain}
use Rattle.mx_boot.proofs.Housed.{Inside, home_inside}
use Rattle.mx_boot.proofs.Parted.{stack_part}
use Rattle.mx_model.proofs.EachLaws.{there}
use Rattle.mx_boot.proofs.Rows.{at_numbered}

-- where none of the rows of elements applies, none of those of each applies
pub each_clear : {A : Type 0} (rows : A → List Fault) (xs : List A) (i : ℕ) (x : A) → first_row (flat_map rows xs) ≡ None
    → slice_get xs i ≡ Some x → first_row (rows x) ≡ None
each_clear rows [] i x h e = absurd cc
each_clear rows (y ∷ xs) zero x h e =
    ap (λ z. first_row (rows z)) (sym (same_Some _ _ e)) ∙ (neither (first_row (rows y)) (first_row (flat_map rows xs))
    (sym (first_row-append (rows y) (flat_map rows xs)) ∙ h)).0
each_clear rows (y ∷ xs) (suc i) x h e =
    each_clear rows xs i x (neither (first_row (rows y)) (first_row (flat_map rows xs)) (sym (first_row-append (rows y) (flat_map rows xs))
    ∙ h)).1 e

-- registers that are zero but for x2
registers : (stack : ℕ) → stack < 2 ^ 32 → IsRegisters (set (replicate 32 0) 2 stack)
registers stack small = record {
  count = length-set {A = ℕ} (replicate 32 0) 2 stack ∙ length-replicate {A = ℕ} 32 0;
  small = each;
  x0 = refl;
}
  where
    zeros : (n i : ℕ) → get_or {A = ℕ} (replicate n 0) i 0 < 2 ^ 32
    zeros zero i = omega arith
    zeros (suc n) zero = omega arith
    zeros (suc n) (suc i) = zeros n i

    each : (r : ℕ) → get_or (set (replicate 32 0) 2 stack) r 0 < 2 ^ 32
    each zero = omega arith
    each (suc zero) = omega arith
    each (suc (suc zero)) = small
    each (suc (suc (suc r))) = zeros 29 r

-- a hart's own words end no later than those of all harts
own_words : (words h harts : ℕ) → h < harts → words * (h + 1) ≤ words * harts
own_words words h harts lt = mul-le-mul_left words ((omega arith))

stack_small : (words harts h : ℕ) (of : Home) (o : Option ℕ) → words ≤ 16777216 → h < harts
    → Inside words (option_map_or (λ address. stack_area harts of address ∷ []) o [])
    → option_map_or (λ address. address + 4 * stack_words of.plan * (h + 1)) o 0 < 2 ^ 32
stack_small words harts h of None few lt inside = omega arith
stack_small words harts h of (Some address) few lt inside =
    let r = in_ram words (stack_area harts of address) inside.0 in
    let to = r.to in
    let own = own_words (stack_words of.plan) h harts lt in
    let same : 4 * stack_words of.plan * (h + 1) ≡ 4 * (stack_words of.plan * (h + 1)) = mul_assoc 4 (stack_words of.plan) (h + 1) in
    rw same (omega (arith, to, own, few))

x2_small : (plan : Said) (images : List (List ℕ)) (words h i : ℕ) (m : ModulePlan) → words ≤ 16777216 → Inside words (areas plan images)
    → h < length plan.harts
    → slice_get plan.modules i ≡ Some m → stack_address h m < 2 ^ 32
x2_small plan images words h i m few all lt at =
    let g = home images (i, m) in
    stack_small words (length plan.harts) h g m.stack few lt
    (stack_part (λ a. is_in_ram words a ≡ true) (length plan.harts) g (home_inside plan images words i m all at))

pub hart_valid : (plan : Said) (images : List (List ℕ)) (words h : ℕ) (hart : HartPlan) → IsInRange plan → words ≤ 16777216
    → Inside words (areas plan images)
    → first_row (harts_rows plan images) ≡ None → slice_get plan.harts h ≡ Some hart
    → IsHart (length plan.modules) (length plan.harts) h (hart_at_boot plan images (h, hart))
hart_valid plan images words h hart in_range few all clear at =
    let domain = hart_domain plan h hart in_range at in
    let lt = slice_get_within plan.harts h hart at in
    let below : hart.module - 1 < length plan.modules = omega (arith, domain.0, domain.1) in
    let found = there plan.modules (hart.module - 1) below in
    let m = found.0 in
    let own = found.1 in
    let row = each_clear (hart_rows plan images) (enumerate_from 1 plan.harts) h (1 + h, hart) clear (at_numbered plan.harts 1 h hart at) in
    let entered = entry_clear (areas plan images) (at_hart (1 + h)) hart.module (hart_start plan images hart) row in
    let inside = entry_inside words (areas plan images) hart.module (unwrap_or (hart_start plan images hart) 0) all entered.entry in
    let small : option_map_or (stack_address h) (slice_get plan.modules (hart.module - 1)) 0 < 2 ^ 32 =
    rw own (x2_small plan images words h (hart.module - 1) m few all lt own) in
    record {
      regs = registers (option_map_or (stack_address h) (slice_get plan.modules (hart.module - 1)) 0) small;
      pc = record { aligned = inside.aligned; small = pc_small (unwrap_or (hart_start plan images hart) 0) inside };
      domain = record { first = domain.0; last = domain.1 };
      few_frames = omega arith;
      frames = tt;
      status = tt;
    }
  where
    pc_small : (pc : ℕ) → IsInside words pc → pc < 2 ^ 32
    pc_small pc i = let to = i.to in let from = i.from in omega (arith, to, from, few)
