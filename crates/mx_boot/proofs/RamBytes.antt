-- RAM at boot has its size, and bytes.
use Rattle.std.proofs.Common.{◌≡◌, ℕ, zero, suc, ◌+◌, ◌-◌, ◌*◌, ◌<◌, true, false, cond, List, [], ◌∷◌, ◌++◌, length, get_or, set, drop}
use Rattle.std.proofs.Common.{replicate, map, fold, Option, Some, None, refl, ◌∙◌, arith}
use Rattle.std.specs.List.{AllByRecursion, enumerate_from, flat_map}
use Rattle.std.specs.Option.{option_map_or}
use Rattle.std.proofs.lemmas.List.{length-set, length-replicate}
use Rattle.mx_model.proofs.ListLaws.{all-take}
use Rattle.mx_manifest.specs.declared.parts.InputPlan.{InputPlan}
use Rattle.mx_manifest.specs.declared.parts.ModulePlan.{ModulePlan}
use Rattle.mx_manifest.specs.Plan.{Said}
use Rattle.mx_boot.specs.Areas.{Home, home, homes, Content, contents, has_image, image, segment_content, inline_content, inline_words}
use Rattle.mx_boot.specs.Areas.{input_content, placed_input, all_inputs, word_bytes}
use Rattle.mx_boot.specs.Boot.{with_content, boot_ram}
use Rattle.mx_boot.specs.Faults.{ram_words}
use Rattle.mx_boot.specs.Bytes.{AreBytes}
use Rattle.mx_model.proofs.EachLaws.{all_each, all_mapped, all_flat, all_numbered}
use Rattle.mx_model.proofs.JoinLaws.{all-weaker, all-join}

abbrev pub IsByte : ℕ → Type 0
IsByte b = b < 256

abbrev pub AreSmall : List ℕ → Type 0
AreSmall xs = (i : ℕ) → get_or xs i 0 < 256

small-set : (xs : List ℕ) (k v : ℕ) → AreSmall xs → v < 256 → AreSmall (set xs k v)
small-set [] k v h p i = h i
small-set (x ∷ xs) zero v h p zero = p
small-set (x ∷ xs) zero v h p (suc i) = h (suc i)
small-set (x ∷ xs) (suc k) v h p zero = h zero
small-set (x ∷ xs) (suc k) v h p (suc i) = small-set xs k v (λ j. h (suc j)) p i

small-zeros : (n : ℕ) → AreSmall (replicate n 0)
small-zeros zero i = omega arith
small-zeros (suc n) zero = omega arith
small-zeros (suc n) (suc i) = small-zeros n i

all-small : (xs : List ℕ) → AreSmall xs → AllByRecursion IsByte xs
all-small [] h = tt
all-small (x ∷ xs) h = (h 0, all-small xs (λ i. h (suc i)))

all-drop : {X : Type 0} (P : X → Type 0) (n : ℕ) (xs : List X) → AllByRecursion P xs → AllByRecursion P (drop n xs)
all-drop P zero xs h = h
all-drop P (suc n) [] h = tt
all-drop P (suc n) (x ∷ xs) h = all-drop P n xs h.1

-- bytes put from a place on
abbrev pub put : List ℕ → ℕ → List ℕ → List ℕ
put ram k bytes = fold (λ ram (p : ℕ × ℕ). set ram p.0 p.1) ram (enumerate_from k bytes)

pub length-put : (ram : List ℕ) (k : ℕ) (bytes : List ℕ) → length (put ram k bytes) ≡ length ram
length-put ram k [] = refl
length-put ram k (b ∷ bytes) = length-put (set ram k b) (k + 1) bytes ∙ length-set ram k b

small-put : (ram : List ℕ) (k : ℕ) (bytes : List ℕ) → AreSmall ram → AllByRecursion IsByte bytes → AreSmall (put ram k bytes)
small-put ram k [] h all = h
small-put ram k (b ∷ bytes) h all = small-put (set ram k b) (k + 1) bytes (small-set ram k b h all.0) all.1

length-contents : (ram : List ℕ) (cs : List Content) → length (fold with_content ram cs) ≡ length ram
length-contents ram [] = refl
length-contents ram (c ∷ cs) = length-contents (with_content ram c) cs ∙ length-put ram (c.address - 2147483648) c.bytes

small-contents : (ram : List ℕ) (cs : List Content) → AreSmall ram → AllByRecursion (λ (c : Content). AllByRecursion IsByte c.bytes) cs
    → AreSmall (fold with_content ram cs)
small-contents ram [] h all = h
small-contents ram (c ∷ cs) h all = small-contents (with_content ram c) cs (small-put ram (c.address - 2147483648) c.bytes h all.0) all.1

-- what a module puts there are bytes
word-small : (w : ℕ) → AllByRecursion IsByte (word_bytes w)
word-small w = (omega arith, (omega arith, (omega arith, (omega arith, tt))))

contents-small : (h : Home) → AllByRecursion IsByte h.bytes → AllByRecursion (λ (c : Content). AllByRecursion IsByte c.bytes) (contents h)
contents-small h all = elim (has_image h) as (λ b. AllByRecursion (λ (c : Content). AllByRecursion IsByte c.bytes)
    (cond b (map (segment_content h.bytes) (image h).segments) (inline_content h.plan ∷ []))) [
      | true ↦ search (arith, all_mapped, all_each, all-take, all-drop)
      | false ↦ (
        all_flat word_bytes IsByte (inline_words h.plan)
            (all_each (λ w. AllByRecursion IsByte (word_bytes w)) (inline_words h.plan) word-small),
        tt,
      )
    ]

homes-small : (plan : Said) (images : List (List ℕ)) → AreBytes images
    → AllByRecursion (λ (h : Home). AllByRecursion IsByte h.bytes) (homes plan images)
homes-small plan images are = all_mapped (home images) (λ (h : Home). AllByRecursion IsByte h.bytes) (enumerate_from 0 plan.modules)
    (all_numbered (λ (p : ℕ × ModulePlan). AllByRecursion IsByte (get_or images p.0 [])) 0 plan.modules (λ i m at.
    all-small (get_or images (0 + i) []) (λ k. are.bytes (0 + i) k)))

-- and so are their inputs
input-small : (bytes : List ℕ) (o : Option InputPlan) → AllByRecursion IsByte bytes
    → AllByRecursion (λ (c : Content). AllByRecursion IsByte c.bytes) (option_map_or (λ input. input_content bytes input ∷ []) o [])
input-small bytes None all = tt
input-small bytes (Some input) all = (all-join IsByte (word_bytes (length bytes)) bytes (word-small (length bytes)) all, tt)

inputs-small : (plan : Said) (inputs : List (List ℕ)) → AreBytes inputs
    → AllByRecursion (λ (c : Content). AllByRecursion IsByte c.bytes) (all_inputs plan inputs)
inputs-small plan inputs are =
    all_flat (placed_input inputs) (λ (c : Content). AllByRecursion IsByte c.bytes) (enumerate_from 0 plan.modules)
    (all_numbered (λ (p : ℕ × ModulePlan). AllByRecursion (λ (c : Content). AllByRecursion IsByte c.bytes) (placed_input inputs p)) 0
    plan.modules
    (λ i m at. input-small (get_or inputs (0 + i) []) m.input (all-small (get_or inputs (0 + i) []) (λ k. are.bytes (0 + i) k))))

pub length-boot_ram : (plan : Said) (images inputs : List (List ℕ)) → length (boot_ram plan images inputs) ≡ 4 * ram_words plan
length-boot_ram plan images inputs =
    length-contents (replicate (4 * ram_words plan) 0) (flat_map contents (homes plan images) ++ all_inputs plan inputs)
    ∙ length-replicate {A = ℕ} (4 * ram_words plan) 0

pub small-boot_ram : (plan : Said) (images inputs : List (List ℕ)) → AreBytes images → AreBytes inputs
    → AreSmall (boot_ram plan images inputs)
small-boot_ram plan images inputs are given =
    let small : AllByRecursion (λ (c : Content). AllByRecursion IsByte c.bytes) (flat_map contents (homes plan images)) =
    all_flat contents (λ (c : Content). AllByRecursion IsByte c.bytes) (homes plan images)
    (all-weaker (λ (h : Home). AllByRecursion IsByte h.bytes) (λ h.
    AllByRecursion (λ (c : Content). AllByRecursion IsByte c.bytes) (contents h)) (homes plan images) contents-small
    (homes-small plan images are)) in
    small-contents (replicate (4 * ram_words plan) 0) (flat_map contents (homes plan images) ++ all_inputs plan inputs)
    (small-zeros (4 * ram_words plan))
    (all-join (λ (c : Content). AllByRecursion IsByte c.bytes) (flat_map contents (homes plan images)) (all_inputs plan inputs) small
    (inputs-small plan inputs given))
