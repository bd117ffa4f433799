-- Two boots of one plan agree for a hart whose module is given the same in both.
use Rattle.std.proofs.Common.{◌≡◌, ◌≢◌, ◌⊎◌, inl, inr, ℕ, ◌+◌, ◌-◌, ◌*◌, ◌%◌, ◌<◌, ◌≤◌, Bool, true, false, cond, nat_lt, List, [], ◌∷◌}
use Rattle.std.proofs.Common.{◌++◌, length, get_or, slice_get, replicate, Option, Some, None, IfSome, refl, ap, ◌∙◌, sym, subst, arith}
use Rattle.std.specs.List.{flat_map}
use Rattle.std.specs.Option.{option_map_or}
use Rattle.std.proofs.lemmas.Bool.{cases_eq, cases_lt}
use Rattle.std.proofs.lemmas.Bool.Decides.{nat_tests}
use Rattle.mx_words.specs.declared.perm.Perm.TheVariants as P
use Rattle.mx_words.specs.declared.perm.Access.TheVariants as A
use Rattle.mx_words.specs.Newest.{at}
use Rattle.mx_words.specs.Ranges.{covers}
use Rattle.mx_words.specs.Rights.{allows}
use Rattle.mx_model.specs.Agreement.{agree}
use Rattle.mx_laws.specs.After.{domain_at}
use Rattle.mx_manifest.specs.declared.parts.InputPlan.{InputPlan}
use Rattle.mx_manifest.specs.declared.parts.ModulePlan.{ModulePlan}
use Rattle.mx_manifest.specs.InRange.{IsInput, IsInRange}
use Rattle.mx_manifest.specs.Plan.{Said}
use Rattle.mx_boot.specs.Areas.{contents, home, homes, input_area, input_content, placed_input, all_inputs}
use Rattle.mx_boot.specs.Boot.{boot_grants, boot_ram, boot_state, grants_of}
use Rattle.mx_boot.specs.Entries.{word_at}
use Rattle.mx_boot.specs.Faults.{first_fault, ram_words}
use Rattle.mx_boot.specs.Inputs.{AreInputs, FitsArea}
use Rattle.mx_boot.proofs.Apart.{in_ram}
use Rattle.mx_inputs.specs.Same.{HasSameInput}
use Rattle.mx_inputs.proofs.Rights.{GrantsAre, OfModule, OfNone, grants-are, input-part, unread}
use Rattle.mx_inputs.proofs.SameRam.{AreAlike, IsElsewhere, PassesBy, alike-append, alike-numbered, alike-self, all-alike}

not-covered : (first count word : ℕ) → covers first count word ≡ false → (word < first) ⊎ (first + count ≤ word)
not-covered first count word h = elim (cases_lt word first) [ inl lt ↦ inl lt | inr ge ↦ inr (grind (arith, nat_tests)) ]

-- what lies in an area passes by a byte of a word outside it
outside : (address count word k long : ℕ) → 2147483648 ≤ address → address % 4 ≡ 0 → covers (word_at address) count word ≡ false →
    k < 4 → long ≤ 4 * count → PassesBy (4 * word + k) (address - 2147483648) long
outside address count word k long from aligned past small fits =
    let first : address - 2147483648 ≡ 4 * word_at address = omega (arith, from, aligned) in
    elim (not-covered (word_at address) count word past) [
      | inl lt ↦ inl (omega (arith, first, lt, small))
      | inr ge ↦ inr (omega (arith, first, ge, small, fits))
    ]

module _ (plan : Said) (images left right : List (List ℕ)) (in_range : IsInRange plan) (none : first_fault plan images ≡ None)
    (lefts : AreInputs plan left) (rights : AreInputs plan right) where
  -- a word that the module at a place may read, where that is given the same in both
  module _ (j word k : ℕ) (n : ModulePlan) (at_j : slice_get plan.modules j ≡ Some n) (same : HasSameInput plan left right (j + 1))
      (small : k < 4) (reads : allows (at (grants_of (length plan.harts) (home images (j, n))) word) A.Read ≡ true) where
    abbrev place : ℕ
    place = 4 * word + k

    elsewhere : (i : ℕ) (m : ModulePlan) (input : InputPlan) (bytes : List ℕ) → slice_get plan.modules i ≡ Some m → i ≢ j →
        m.input ≡ Some input → IsInput input → FitsArea input bytes → IsElsewhere place (input_content bytes input)
    elsewhere i m input bytes at_i other is range fits =
        let part = input-part plan images none i m input at_i is in
        let from = (in_ram (ram_words plan) (input_area (home images (i, m)) input) part.inside).from in
        let past = unread plan images none i j m n input at_i at_j other is word reads in
        let long : length (input_content bytes input).bytes ≤ 4 * input.words = omega (arith, fits) in
        outside input.address input.words word k (length (input_content bytes input).bytes) from range.address.0 past small long

    -- what inputs of another module put into RAM passes by
    other-alike : (i : ℕ) (m : ModulePlan) (xs ys : List ℕ) → slice_get plan.modules i ≡ Some m → i ≢ j → (o : Option InputPlan) →
        m.input ≡ o → IfSome o IsInput → IfSome o (λ input. FitsArea input xs) → IfSome o (λ input. FitsArea input ys) →
        AreAlike place (option_map_or (λ input. input_content xs input ∷ []) o [])
        (option_map_or (λ input. input_content ys input ∷ []) o [])
    other-alike i m xs ys at_i other None is range fits fits_too = tt
    other-alike i m xs ys at_i other (Some input) is range fits fits_too =
        (inr (elsewhere i m input xs at_i other is range fits, elsewhere i m input ys at_i other is range fits_too), tt)

    -- and its own is the same
    given-same : (m : ModulePlan) → slice_get plan.modules j ≡ Some m → placed_input left (j, m) ≡ placed_input right (j, m)
    given-same m at =
        let less : j + 1 - 1 ≡ j = omega arith in
        let here : option_map_or (λ m. placed_input left (j, m)) (slice_get plan.modules j) []
        ≡ option_map_or (λ m. placed_input right (j, m)) (slice_get plan.modules j) [] =
        subst (λ i. option_map_or (λ m. placed_input left (i, m)) (slice_get plan.modules i) []
        ≡ option_map_or (λ m. placed_input right (i, m)) (slice_get plan.modules i) []) less same in
        subst (λ o. option_map_or (λ m. placed_input left (j, m)) o [] ≡ option_map_or (λ m. placed_input right (j, m)) o []) at here

    one : (i : ℕ) (m : ModulePlan) → slice_get plan.modules i ≡ Some m → (i ≡ j) ⊎ (i ≢ j) →
        AreAlike place (placed_input left (i, m)) (placed_input right (i, m))
    one i m at_i (inl is) =
        let same_here = given-same m (subst (λ d. slice_get plan.modules d ≡ Some m) is at_i) in
        subst (λ d. AreAlike place (placed_input left (d, m)) (placed_input right (d, m))) (sym is)
        (subst (AreAlike place (placed_input left (j, m))) same_here (alike-self place (placed_input left (j, m))))
    one i m at_i (inr other) =
        other-alike i m (get_or left i []) (get_or right i []) at_i other m.input refl (in_range.modules i m at_i).input
        (lefts.fit i m at_i) (rights.fit i m at_i)

    byte-same : get_or (boot_ram plan images left) place 0 ≡ get_or (boot_ram plan images right) place 0
    byte-same =
        let zeros : List ℕ = replicate (4 * ram_words plan) 0 in
        let first = flat_map contents (homes plan images) in
        all-alike place zeros zeros (first ++ all_inputs plan left) (first ++ all_inputs plan right) refl refl
        (alike-append place first first (all_inputs plan left) (all_inputs plan right) (alike-self place first)
        (alike-numbered place 0 (placed_input left) (placed_input right) plan.modules
        (λ i m at_i. subst (λ d. AreAlike place (placed_input left (d, m)) (placed_input right (d, m)))
        (let e : i ≡ 0 + i = omega arith in e) (one i m at_i (cases_eq i j)))))

  -- a byte that a domain may read
  read-same : (d word k : ℕ) → k < 4 → HasSameInput plan left right d → (b : Bool) →
      allows (cond b (at (get_or (boot_grants plan images) (d - 1) []) word) P.None) A.Read ≡ true → GrantsAre plan images (d - 1) →
      get_or (boot_ram plan images left) (4 * word + k) 0 ≡ get_or (boot_ram plan images right) (4 * word + k) 0
  read-same d word k small same false reads g = cc
  read-same d word k small same true reads (OfNone is) = absurd (
      let q : allows P.None A.Read ≡ true = ap (λ gs. allows (at gs word) A.Read) (sym is) ∙ reads in let r : ⊥ = cc in r)
  read-same d word k small same true reads (OfModule n at_d is) =
      let less : d - 1 + 1 - 1 ≡ d - 1 = omega arith in
      byte-same (d - 1) word k n at_d
      (subst (λ i. option_map_or (λ m. placed_input left (i, m)) (slice_get plan.modules i) []
      ≡ option_map_or (λ m. placed_input right (i, m)) (slice_get plan.modules i) []) (sym less) same)
      small (ap (λ gs. allows (at gs word) A.Read) (sym is) ∙ reads)

  pub states-agree : (h : ℕ) → HasSameInput plan left right (domain_at (boot_state plan images left).core h) →
      agree (boot_state plan images left) (boot_state plan images right) h
  states-agree h same = record {
    same_standing = refl;
    same_pc = refl;
    same_regs = refl;
    same_domain = refl;
    same_map = λ i. refl;
    same_death = refl;
    same_gates = λ i. refl;
    same_bytes = λ i may k small.
        let d = domain_at (boot_state plan images left).core h in
        read-same d i k small same (nat_lt i (ram_words plan)) may (grants-are plan images (d - 1));
  }
