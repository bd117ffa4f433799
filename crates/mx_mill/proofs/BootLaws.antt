-- The plan of a mill boots.
use Rattle.std.proofs.Common.{◌≡◌, ℕ, ◌*◌, ◌≤◌, true, List, [], length, Ok, None, refl, ap, ◌∙◌, arith}
use Rattle.std.proofs.Common.{map as list_map}
use Rattle.std.specs.List.{list_all, range_with_len}
use Rattle.mx_words.specs.declared.perm.Perm.TheVariants as P
use Rattle.mx_words.specs.declared.tables.Kind.{Kind}
use Rattle.mx_words.specs.declared.tables.Kind.TheVariants as K
use Rattle.mx_words.specs.Need.{need, within}
use Rattle.mx_words.specs.Newest.{Grant, map}
use Rattle.mx_manifest.specs.Plan.{Said}
use Rattle.mx_boot.specs.Areas.{homes}
use Rattle.mx_model.specs.State.{map_need}
use Rattle.mx_boot.specs.Boot.{boot_of, boot_state, grants_of, limit_of}
use Rattle.mx_boot.specs.Entries.{word_at}
use Rattle.mx_boot.specs.Faults.{first_fault, ram_words}
use Rattle.mx_mill.specs.declared.draws.Draws.{Draws}
use Rattle.mx_mill.specs.Draws.{draws}
use Rattle.mx_mill.specs.Plan.{mill_plan, no_images, plan_with}
use Rattle.mx_mill.specs.Words.{base, module_count, words_by}
use Rattle.mx_mill.proofs.NeedLaws.{few-within, lies_in, single}

-- a plan without a fault whose maps fit boots
boots : (plan : Said) (images inputs : List (List ℕ)) → first_fault plan images ≡ None
    → within (map_need (boot_state plan images inputs)) (limit_of plan) ≡ true
    → boot_of plan images inputs ≡ Ok (boot_state plan images inputs)
unfolding boot_of
boots plan images inputs clear fits = rw (clear, fits) refl

-- packed tables whose maps have one grant each
singles_fit : (plan : Said) (images inputs : List (List ℕ)) (gs : List Grant) → plan.tables ≡ K.Packed
    → list_map (grants_of (length plan.harts)) (homes plan images) ≡ list_map single gs
    → ram_words plan ≤ 16777216 → list_all (lies_in (ram_words plan)) gs ≡ true → 3 * length gs ≤ plan.upper → 2 * length gs ≤ plan.leaf
    → 2 * length gs ≤ plan.spill
    → within (map_need (boot_state plan images inputs)) (limit_of plan) ≡ true
singles_fit plan images inputs gs packed singles few inside upper leaf spill =
    ap (λ (kind : Kind). within (need kind (list_map (λ grants. map grants (ram_words plan))
    (list_map (grants_of (length plan.harts)) (homes plan images)))) (limit_of plan)) packed
    ∙ ap (λ (grants : List (List Grant)). within (need K.Packed (list_map (λ gs. map gs (ram_words plan)) grants)) (limit_of plan)) singles
    ∙ few-within (ram_words plan) gs (limit_of plan) few inside upper leaf spill

-- the one grant of each module of a mill: its words
abbrev grants : List Grant
grants = list_map (λ i. record { first = word_at (base i); count = 18; value = P.ExecuteRead }) (range_with_len 1 module_count)

plan_clear : (n : ℕ → Draws) → first_fault (plan_with (words_by n)) no_images ≡ None
unfolding first_fault
plan_clear n = refl

plan_singles : (n : ℕ → Draws) → let plan = plan_with (words_by n) in
    list_map (grants_of (length plan.harts)) (homes plan no_images) ≡ list_map single grants
plan_singles n = refl

mill_clear : (k : ℕ) → first_fault (mill_plan k) no_images ≡ None
unfolding mill_plan
mill_clear k = plan_clear (draws k)

mill_singles : (k : ℕ) → list_map (grants_of (length (mill_plan k).harts)) (homes (mill_plan k) no_images) ≡ list_map single grants
unfolding mill_plan
mill_singles k = plan_singles (draws k)

mill_packed : (k : ℕ) → (mill_plan k).tables ≡ K.Packed
unfolding mill_plan
mill_packed k = refl

mill_words_few : (k : ℕ) → ram_words (mill_plan k) ≤ 16777216
unfolding mill_plan
mill_words_few k = omega arith

mill_inside : (k : ℕ) → list_all (lies_in (ram_words (mill_plan k))) grants ≡ true
unfolding mill_plan
mill_inside k = refl

mill_upper : (k : ℕ) → 3 * length grants ≤ (mill_plan k).upper
unfolding mill_plan
mill_upper k = omega arith

mill_leaf : (k : ℕ) → 2 * length grants ≤ (mill_plan k).leaf
unfolding mill_plan
mill_leaf k = omega arith

mill_spill : (k : ℕ) → 2 * length grants ≤ (mill_plan k).spill
unfolding mill_plan
mill_spill k = omega arith

pub mill_boots : (k : ℕ) → boot_of (mill_plan k) no_images [] ≡ Ok (boot_state (mill_plan k) no_images [])
mill_boots k =
    boots (mill_plan k) no_images [] (mill_clear k)
    (singles_fit (mill_plan k) no_images [] grants (mill_packed k) (mill_singles k) (mill_words_few k) (mill_inside k) (mill_upper k)
    (mill_leaf k) (mill_spill k))
