-- The tables of a plan without a fault decide whether it boots.
use Rattle.std.proofs.Common.{◌≡◌, ℕ, true, false, cond, List, Some, None, Ok, Err, length, map, ap, ◌∙◌, sym}
use Rattle.std.proofs.lemmas.List.{length-map}
use Rattle.mx_words.specs.declared.perm.Perm.{Perm}
use Rattle.mx_words.specs.declared.perm.Span.{Span}
use Rattle.mx_words.specs.declared.tables.Kind.{Kind}
use Rattle.mx_words.specs.declared.tables.Need.{Need}
use Rattle.mx_words.specs.Need.{need, within}
use Rattle.mx_words.specs.Newest.{map as map_of}
use Rattle.mx_model.specs.State.{map_need}
use Rattle.mx_table.specs.Tables.{row_map}
use Rattle.mx_manifest.specs.declared.fault.BootFault.{BootFault}
use Rattle.mx_manifest.specs.Plan.{Said}
use Rattle.mx_boot.specs.Areas.{homes}
use Rattle.mx_boot.specs.Boot.{Faulty, TooFull, boot_grants, boot_of, boot_state, grants_of, limit_of, limited, unless}
use Rattle.mx_boot.specs.Faults.{first_fault, ram_words}
use Rattle.mx_boot.specs.Joined.{boot_maps}
use Rattle.mx_boot.proofs.Homes.{length-homes}

module _ (plan : Said) (images inputs : List (List ℕ)) (none : first_fault plan images ≡ None) where
  pub boot-fits : within (need plan.tables (boot_maps plan images)) (limit_of plan) ≡ true
      → boot_of plan images inputs ≡ Ok (boot_state plan images inputs)
  unfolding boot_of
  boot-fits fit =
      ap (λ o. unless o (limited (boot_state plan images inputs))) none
      ∙ ap (λ b. cond b (Ok (boot_state plan images inputs)) (Err (TooFull (map_need (boot_state plan images inputs)) (limit_of plan)))) fit

  pub boot-full : within (need plan.tables (boot_maps plan images)) (limit_of plan) ≡ false
      → boot_of plan images inputs ≡ Err (TooFull (need plan.tables (boot_maps plan images)) (limit_of plan))
  unfolding boot_of
  boot-full full =
      ap (λ o. unless o (limited (boot_state plan images inputs))) none
      ∙ ap (λ b. cond b (Ok (boot_state plan images inputs)) (Err (TooFull (map_need (boot_state plan images inputs)) (limit_of plan))))
      full

-- there is a row for each module
pub length-rows : (plan : Said) (images : List (List ℕ)) (rows : List (List Span))
    → map (row_map (ram_words plan)) rows ≡ boot_maps plan images → length rows ≡ length plan.modules
length-rows plan images rows same =
    sym (length-map rows (row_map (ram_words plan))) ∙ ap length same
    ∙ length-map (boot_grants plan images) (λ grants. map_of grants (ram_words plan))
    ∙ length-map (homes plan images) (grants_of (length plan.harts)) ∙ length-homes plan images

-- whether maps fit
pub fits-are : (plan : Said) (images : List (List ℕ)) (kind : Kind) (limit : Need) (maps : List (List Perm)) → kind ≡ plan.tables
    → limit ≡ limit_of plan → maps ≡ boot_maps plan images
    → within (need kind maps) limit ≡ within (need plan.tables (boot_maps plan images)) (limit_of plan)
fits-are plan images kind limit maps a b c =
    ap (λ k. within (need k maps) limit) a ∙ ap (λ ms. within (need plan.tables ms) limit) c
    ∙ ap (within (need plan.tables (boot_maps plan images))) b

pub need-is : (plan : Said) (images : List (List ℕ)) (kind : Kind) (maps : List (List Perm)) → kind ≡ plan.tables
    → maps ≡ boot_maps plan images → need kind maps ≡ need plan.tables (boot_maps plan images)
need-is plan images kind maps a c = ap (λ k. need k maps) a ∙ ap (need plan.tables) c

-- a plan with a fault doesn't boot
pub boot-faulty : (plan : Said) (images inputs : List (List ℕ)) (fault : BootFault) → first_fault plan images ≡ Some fault
    → boot_of plan images inputs ≡ Err (Faulty fault)
unfolding boot_of
boot-faulty plan images inputs fault e = ap (λ o. unless o (limited (boot_state plan images inputs))) e
