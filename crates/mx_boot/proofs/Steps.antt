-- The first fault of a plan, step by step.
use Rattle.std.proofs.Common.{◌≡◌, ℕ, List, [], Option, Some, None, Result, refl, ap, ◌∙◌, sym, subst, arith}
use Rattle.std.specs.List.{flat_map}
use Rattle.std.specs.Option.{option_or}
use Rattle.mx_words.specs.FirstRow.{first_row}
use Rattle.mx_words.proofs.FirstRowLaws.{first_row-append}
use Rattle.mx_words.proofs.OptionLaws.{neither}
use Rattle.mx_model.specs.declared.values.Gate.{Gate}
use Rattle.mx_manifest.specs.declared.fault.BootFault.{BootFault}
use Rattle.mx_manifest.specs.Plan.{Said}
use Rattle.mx_boot.specs.declared.area.Area.{Area}
use Rattle.mx_boot.specs.declared.refused.LayoutRefused.{LayoutRefused}
use Rattle.mx_boot.specs.Areas.{homes, areas}
use Rattle.mx_boot.specs.Entries.{requests}
use Rattle.mx_boot.specs.Faults.{image_rows, areas_rows, gates_rows, harts_rows, ram_words, first_fault}
use Rattle.mx_boot.specs.Laid.{Tells, AreAsked}

module _ (plan : Said) (images : List (List ℕ)) where
  pub images_found : Option BootFault
  images_found = first_row (flat_map image_rows (homes plan images))

  pub areas_found : Option BootFault
  areas_found = first_row (areas_rows (ram_words plan) [] (areas plan images))

  pub gates_found : Option BootFault
  gates_found = first_row (gates_rows (areas plan images) [] (requests plan images))

  pub harts_found : Option BootFault
  harts_found = first_row (harts_rows plan images)

  first_is : first_fault plan images ≡ option_or (option_or (option_or images_found areas_found) gates_found) harts_found
  unfolding first_fault images_found areas_found gates_found harts_found
  first_is = search (arith, first_row-append)

  pub at_images : (fault : BootFault) → images_found ≡ Some fault → first_fault plan images ≡ Some fault
  at_images fault a = first_is ∙ rw a refl

  pub at_areas : (fault : BootFault) → images_found ≡ None → areas_found ≡ Some fault → first_fault plan images ≡ Some fault
  at_areas fault a b = first_is ∙ rw (a, b) refl

  pub at_gates : (refused : LayoutRefused) → images_found ≡ None → areas_found ≡ None → Tells gates_found refused
      → Tells (first_fault plan images) refused
  at_gates x a b c = grind (arith, first_is)

  pub at_harts : (refused : LayoutRefused) → images_found ≡ None → areas_found ≡ None → gates_found ≡ None → Tells harts_found refused
      → Tells (first_fault plan images) refused
  at_harts x a b c d = grind (arith, first_is)

  pub nowhere : images_found ≡ None → areas_found ≡ None → gates_found ≡ None → harts_found ≡ None → first_fault plan images ≡ None
  nowhere a b c d = first_is ∙ rw (a, b, c, d) refl

  -- what is found of lists that are the plan's
  pub images_are : (found : Option BootFault) → found ≡ first_row (flat_map image_rows (homes plan images)) → images_found ≡ found
  unfolding images_found
  images_are found e = sym e

  pub areas_are : (found : Option BootFault) (words : ℕ) (all : List Area) → words ≡ ram_words plan → all ≡ areas plan images
      → found ≡ first_row (areas_rows words [] all) → areas_found ≡ found
  unfolding areas_found
  areas_are found words all size same e =
      sym (e ∙ ap (λ n. first_row (areas_rows n [] all)) size ∙ ap (λ xs. first_row (areas_rows (ram_words plan) [] xs)) same)

  pub asked_are : (all : List Area) (earlier later : List Gate) (result : Result (Unit {0}) LayoutRefused) → all ≡ areas plan images
      → earlier ≡ []
      → AreAsked all earlier (requests plan images) later result → AreAsked (areas plan images) [] (requests plan images) later result
  asked_are all earlier later result same none a =
      subst (λ e. AreAsked (areas plan images) e (requests plan images) later result) none
      (subst (λ xs. AreAsked xs earlier (requests plan images) later result) same a)

  pub gates_are : (found : Option BootFault) → first_row (gates_rows (areas plan images) [] (requests plan images)) ≡ found
      → gates_found ≡ found
  unfolding gates_found
  gates_are found e = e

  pub gates_tell : (refused : LayoutRefused) → Tells (first_row (gates_rows (areas plan images) [] (requests plan images))) refused
      → Tells gates_found refused
  unfolding gates_found
  gates_tell refused e = e

  pub harts_are : (found : Option BootFault) → first_row (harts_rows plan images) ≡ found → harts_found ≡ found
  unfolding harts_found
  harts_are found e = e

  pub harts_tell : (refused : LayoutRefused) → Tells (first_row (harts_rows plan images)) refused → Tells harts_found refused
  unfolding harts_found
  harts_tell refused e = e

-- a plan without a fault has none at each step
pub parts_clear : (plan : Said) (images : List (List ℕ)) → first_fault plan images ≡ None
    → (first_row (areas_rows (ram_words plan) [] (areas plan images)) ≡ None)
    × (first_row (gates_rows (areas plan images) [] (requests plan images)) ≡ None)
    × (first_row (harts_rows plan images) ≡ None)
unfolding images_found areas_found gates_found harts_found
parts_clear plan images e =
    let last = neither (option_or (option_or (images_found plan images) (areas_found plan images)) (gates_found plan images))
    (harts_found plan images) (sym (first_is plan images) ∙ e) in
    let next = neither (option_or (images_found plan images) (areas_found plan images)) (gates_found plan images) last.0 in
    let first = neither (images_found plan images) (areas_found plan images) next.0 in
    (first.1, next.1, last.1)
