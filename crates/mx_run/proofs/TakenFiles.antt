-- The images and the inputs of modules as files that are read one after another.
use Rattle.std.proofs.Common.{◌≡◌, ℕ, ◌+◌, ◌-◌, List, [], ◌∷◌, ◌++◌, length, Option, Some, None, sym, subst, arith}
use Rattle.mx_io.specs.Store.{FileMap}
use Rattle.mx_manifest.specs.declared.parts.InputPlan.{InputPlan}
use Rattle.mx_manifest.specs.declared.parts.ModulePlan.{ModulePlan}
use Rattle.mx_commands.specs.declared.side.Side.{Side}
use Rattle.mx_commands.specs.Boots.{image_named, image_wanted, input_file, input_named, input_wanted, total}
use Rattle.mx_commands.specs.Next.{Wanted}
use Rattle.mx_commands.proofs.FitLaws.{total_more}
use Rattle.mx_run.specs.Plainly.{HasFile, IsImage, AreImages, IsInput, AreInputs}

module _ (files : FileMap) where
  module _ {N : Type 0} (named : ModulePlan → Option N) (file : ℕ → List (List ℕ) → N → Wanted) where
    -- the file of a module stands within its limit; that of a module that names none is empty
    abbrev pub IsTaken : Option N → ℕ → List (List ℕ) → List ℕ → Type 0
    IsTaken None number before bytes = bytes ≡ []
    IsTaken (Some name) number before bytes = HasFile files (file number before name).most (file number before name).name bytes

    abbrev pub AreTaken : ℕ → List (List ℕ) → List ModulePlan → List (List ℕ) → Type 0
    AreTaken number before [] taken = taken ≡ []
    AreTaken number before (m ∷ ms) taken =
        (bytes : List ℕ) × (others : List (List ℕ)) × (taken ≡ bytes ∷ others) × IsTaken (named m) number before bytes
        × AreTaken (number + 1) (before ++ bytes ∷ []) ms others

  module _ (side : Side) where
    image-taken : (o : Option (List ℕ)) (number : ℕ) (before : List (List ℕ)) (image : List ℕ) → IsImage files o image
        → IsTaken image_named (image_wanted side) o number before image
    image-taken None number before image is = is
    image-taken (Some name) number before image is = is

    pub images-taken : (ms : List ModulePlan) (number : ℕ) (before images : List (List ℕ)) → AreImages files ms images
        → AreTaken image_named (image_wanted side) number before ms images
    images-taken [] number before images are = are
    images-taken (m ∷ ms) number before images are = (
      are.0,
      are.1,
      are.2,
      image-taken m.image number before are.0 are.3,
      images-taken ms (number + 1) (before ++ are.0 ∷ []) are.1
          are.4,
    )

    taken-image : (o : Option (List ℕ)) (number : ℕ) (before : List (List ℕ)) (image : List ℕ)
        → IsTaken image_named (image_wanted side) o number before image → IsImage files o image
    taken-image None number before image is = is
    taken-image (Some name) number before image is = is

    pub taken-images : (ms : List ModulePlan) (number : ℕ) (before images : List (List ℕ))
        → AreTaken image_named (image_wanted side) number before ms images → AreImages files ms images
    taken-images [] number before images are = are
    taken-images (m ∷ ms) number before images are = (
      are.0,
      are.1,
      are.2,
      taken-image m.image number before are.0 are.3,
      taken-images ms (number + 1) (before ++ are.0 ∷ []) are.1
          are.4,
    )

    -- what is left of RAM after one more input
    left_more : (size left : ℕ) (before : List (List ℕ)) (bytes : List ℕ) → left ≡ size - total before
        → left - length bytes ≡ size - total (before ++ bytes ∷ [])
    left_more size left before bytes is = let more = total_more before bytes in omega (arith, is, more)

    module _ (size : ℕ) where
      input-taken : (o : Option InputPlan) (left number : ℕ) (before : List (List ℕ)) (bytes : List ℕ) → left ≡ size - total before
          → IsInput files left o bytes
          → IsTaken input_named (input_wanted side size) o number before bytes
      input-taken None left number before bytes same is = is
      input-taken (Some input) left number before bytes same is =
          subst (λ n. HasFile files (input_file side number n input).most input.file bytes) same is

      pub inputs-taken : (ms : List ModulePlan) (left number : ℕ) (before inputs : List (List ℕ)) → left ≡ size - total before
          → AreInputs files left ms inputs
          → AreTaken input_named (input_wanted side size) number before ms inputs
      inputs-taken [] left number before inputs same are = are
      inputs-taken (m ∷ ms) left number before inputs same are = (
        are.0,
        are.1,
        are.2,
        input-taken m.input left number before are.0 same are.3,
        inputs-taken ms (left - length are.0) (number + 1) (before ++ are.0 ∷ []) are.1 (left_more size left before are.0 same) are.4,
      )

      taken-input : (o : Option InputPlan) (left number : ℕ) (before : List (List ℕ)) (bytes : List ℕ) → left ≡ size - total before
          → IsTaken input_named (input_wanted side size) o number before bytes → IsInput files left o bytes
      taken-input None left number before bytes same is = is
      taken-input (Some input) left number before bytes same is =
          subst (λ n. HasFile files (input_file side number n input).most input.file bytes) (sym same) is

      pub taken-inputs : (ms : List ModulePlan) (left number : ℕ) (before inputs : List (List ℕ)) → left ≡ size - total before
          → AreTaken input_named (input_wanted side size) number before ms inputs → AreInputs files left ms inputs
      taken-inputs [] left number before inputs same are = are
      taken-inputs (m ∷ ms) left number before inputs same are = (
        are.0,
        are.1,
        are.2,
        taken-input m.input left number before are.0 same are.3,
        taken-inputs ms (left - length are.0) (number + 1) (before ++ are.0 ∷ []) are.1 (left_more size left before are.0 same) are.4,
      )
