-- The files of a plan's modules, one after another.
use Rattle.std.proofs.Common.{◌≡◌, ℕ, ◌+◌, List, [], ◌∷◌, ◌++◌, Some, None, Option, Vec, Global, Ok, Err, sym, ap, subst, ◌∙◌, append_assoc}
use Rattle.std.specs.Prelude.{map as list_map}
use Rattle.std.proofs.lemmas.List.{append-nil, map-append}
use Rattle.mx_io.specs.Sink.{SinkState}
use Rattle.mx_io.specs.Answer.{Answer}
use Rattle.mx_manifest.specs.declared.parts.ModulePlan.{ModulePlan}
use Rattle.mx_manifest.specs.Plan.{Said}
use Rattle.mx_commands.specs.declared.status.Status.{Status}
use Rattle.mx_commands.specs.Finding.{Finding, Whole}
use Rattle.mx_commands.specs.Boots.{HasBoth, HasFile, HasFiles, after_files, after_images, after_inputs, image_named, image_wanted}
use Rattle.mx_commands.specs.Boots.{input_named, input_wanted}
use Rattle.mx_commands.specs.Next.{Next, Wanted, after_file}
use Rattle.mx_commands.specs.Booting.{TakesFile}
use Rattle.mx_commands.specs.Reading.{Takes}
use Rattle.mx_turns.specs.Ends.{sinks}
use Rattle.mx_commands.specs.Ends.{Continues, Comes}
use Rattle.mx_commands.specs.declared.side.Side.{Side}

-- the files of modules that name one
module _ {N : Type 0} (named : ModulePlan → Option N) (file : ℕ → List (List ℕ) → N → Wanted) where
  -- the step of a module's file, by its name
  abbrev pub file_step : Option N → ℕ → List ModulePlan → List (List ℕ) → (List (List ℕ) → List Finding → Next) → List Finding → Next
  file_step o number ms taken rest found = elim o [
    | None ↦ after_files named file (number + 1) ms (taken ++ [] ∷ []) rest found
    | Some name ↦ after_file (file number taken name) (λ bytes. after_files named file (number + 1) ms (taken ++ bytes ∷ []) rest) found
  ]

  -- the files of modules are those that were found, and what else was found is left
  file_taken : (o : Option N) (number : ℕ) (ms : List ModulePlan) (before : List (List ℕ)) (rest : List (List ℕ) → List Finding
      → Next) (files : List (List ℕ)) (bytes : List ℕ)
      (left : List (List ℕ)) (more : List Finding) → HasFile o files bytes left
      → file_step o number ms before rest (list_map Whole files ++ more)
      ≡ after_files named file (number + 1) ms (before ++ bytes ∷ []) rest (list_map Whole left ++ more)
  file_taken None number ms before rest files bytes left more has =
      ap (λ (fs : List (List ℕ)). after_files named file (number + 1) ms (before ++ [] ∷ []) rest (list_map Whole fs ++ more)) has.1
      ∙ ap (λ (i : List ℕ). after_files named file (number + 1) ms (before ++ i ∷ []) rest (list_map Whole left ++ more)) (sym has.0)
  file_taken (Some name) number ms before rest files bytes left more has =
      ap (λ (fs : List (List ℕ)). file_step (Some name) number ms before rest (list_map Whole fs ++ more)) has

  pub files_taken : (ms : List ModulePlan) (number : ℕ) (before : List (List ℕ)) (rest : List (List ℕ) → List Finding
      → Next) (files taken : List (List ℕ)) (more : List Finding)
      → HasFiles named ms files taken → after_files named file number ms before rest (list_map Whole files ++ more)
      ≡ rest (before ++ taken) more
  files_taken [] number before rest files taken more has =
      ap (λ (fs : List (List ℕ)). rest before (list_map Whole fs ++ more)) has.0
      ∙ ap (λ (all : List (List ℕ)). rest all more) (sym (append-nil before) ∙ ap (λ (t : List (List ℕ)). before ++ t) (sym has.1))
  files_taken (m ∷ ms) number before rest files taken more has =
      file_taken (named m) number ms before rest files has.0 has.1 more has.3
      ∙ files_taken ms (number + 1) (before ++ has.0 ∷ []) rest has.1 has.2 more has.5
      ∙ ap (λ (all : List (List ℕ)). rest all more) (append_assoc before (has.0 ∷ []) has.2
      ∙ ap (λ (t : List (List ℕ)). before ++ t) (sym has.4))

  module _ {S : Type 0} (gives : S → Answer → S → Type 0) (number : ℕ) (taken : List (List ℕ)) (m : ModulePlan) (s t : S) (r u : SinkState)
    where
      -- a module names no file
      pub takes_none : named m ≡ None → s ≡ t → u ≡ r → TakesFile gives named file number taken m s t r u (Ok [])
      takes_none is same stays = (
        stays,
        λ ms rest. subst (λ (t : S). Comes (after_files named file number (m ∷ ms) taken rest) gives s t
            (after_files named file (number + 1) ms (taken ++ [] ∷ []) rest)) same
            (subst (λ (o : Option N). Comes (file_step o number ms taken rest) gives s s
            (after_files named file (number + 1) ms (taken ++ [] ∷ []) rest)) (sym is)
            (λ end before now status c. c)),
      )

      -- the file that it names was taken
      pub takes_some : (name : N) → named m ≡ Some name → (bytes : Vec ℕ Global) → Takes gives (file number taken name) s t r u (Ok bytes)
          → TakesFile gives named file number taken m s t r u (Ok bytes.items)
      takes_some name is bytes takes = (
        takes.0,
        λ ms rest. subst (λ (o : Option N). Comes (file_step o number ms taken rest) gives s t
            (after_files named file (number + 1) ms (taken ++ bytes.items ∷ []) rest)) (sym is)
            (takes.1 (λ bytes. after_files named file (number + 1) ms (taken ++ bytes ∷ []) rest)),
      )

      -- it wasn't taken
      pub takes_err : (name : N) → named m ≡ Some name → (status : Status) → Takes gives (file number taken name) s t r u (Err status)
          → TakesFile gives named file number taken m s t r u (Err status)
      takes_err name is status takes ms rest console dump =
          subst (λ (o : Option N). Continues (file_step o number ms taken rest) gives s t (sinks console r dump) (sinks console u dump)
          status) (sym is)
          (takes (λ bytes. after_files named file (number + 1) ms (taken ++ bytes ∷ []) rest) console dump)

-- the images of a plan's modules, and then their inputs
pub both_taken : (side : Side) (size : ℕ) (plan : Said) (rest : List (List ℕ) → List (List ℕ) → List Finding
    → Next) (files images inputs : List (List ℕ)) (more : List Finding)
    → HasBoth plan files images inputs
    → after_images side 1 plan.modules [] (λ images. after_inputs side size 1 plan.modules [] (rest images)) (list_map Whole files ++ more)
    ≡ rest images inputs more
both_taken side size plan rest files images inputs more has =
    ap (λ xs. after_images side 1 plan.modules [] (λ images. after_inputs side size 1 plan.modules [] (rest images)) (xs ++ more))
    (ap (list_map Whole) has.parts ∙ map-append Whole has.first has.last)
    ∙ ap (after_images side 1 plan.modules [] (λ images. after_inputs side size 1 plan.modules [] (rest images)))
    (append_assoc (list_map Whole has.first) (list_map Whole has.last) more)
    ∙ files_taken image_named (image_wanted side) plan.modules 1 [] (λ images. after_inputs side size 1 plan.modules [] (rest images))
    has.first images (list_map Whole has.last ++ more) has.as_images
    ∙ files_taken input_named (input_wanted side size) plan.modules 1 [] (rest images) has.last inputs more has.as_inputs
