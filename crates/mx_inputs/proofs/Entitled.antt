-- A module has a right on its own input area at boot: so one without a right where inputs differ is given the same.
use Rattle.std.proofs.Common.{◌≡◌, ◌⊎◌, inl, inr, ℕ, ◌-◌, ◌<◌, ◌≤◌, true, cond, List, [], ◌∷◌, ◌++◌, length, get_or, slice_get, Option}
use Rattle.std.proofs.Common.{Some, None, IfSome, refl, ap, ◌∙◌, sym, subst, arith}
use Rattle.std.specs.Prelude.{fold, map}
use Rattle.std.specs.Option.{option_map_or}
use Rattle.std.proofs.lemmas.Bool.{lt-ltb}
use Rattle.std.proofs.lemmas.Bool.Decides.{nat_tests}
use Rattle.std.proofs.lemmas.List.{map-append}
use Rattle.std.proofs.lemmas.List.Sums.{fold-append}
use Rattle.mx_words.specs.declared.perm.Perm.{Perm}
use Rattle.mx_words.specs.declared.perm.Perm.TheVariants as P
use Rattle.mx_words.specs.Newest.{Grant, at, laid_at}
use Rattle.mx_words.specs.Ranges.{covers}
use Rattle.mx_model.specs.Reads.{reads}
use Rattle.mx_model.specs.State.{State}
use Rattle.mx_manifest.specs.declared.parts.InputPlan.{InputPlan}
use Rattle.mx_manifest.specs.declared.parts.ModulePlan.{ModulePlan}
use Rattle.mx_manifest.specs.InRange.{IsInput, IsInRange}
use Rattle.mx_manifest.specs.Plan.{Said}
use Rattle.mx_boot.specs.Areas.{Content, Home, home, input_area, input_areas, input_content, pieces, placed_input, stacks}
use Rattle.mx_boot.specs.Boot.{boot_grants, boot_state, grant, grants_of}
use Rattle.mx_boot.specs.Entries.{word_at}
use Rattle.mx_boot.specs.Faults.{first_fault, ram_words}
use Rattle.mx_boot.proofs.Apart.{end_is, in_ram}
use Rattle.mx_inputs.specs.Same.{HasNoRightWhereTheyDiffer, HasSameInput}
use Rattle.mx_inputs.proofs.Rights.{grants-at, input-part}

-- the last grant that covers a word decides
last-covers : (gs : List Grant) (e : Grant) (w : ℕ) → covers e.first e.count w ≡ true → at (gs ++ e ∷ []) w ≡ e.value
last-covers gs e w over =
    let before = fold (laid_at w) P.None gs in
    fold-append (laid_at w) P.None gs (e ∷ []) ∙ ap (λ b. cond b e.value before) over

-- it is that of the input area
own-right : (harts : ℕ) (h : Home) (input : InputPlan) (w : ℕ) → h.plan.input ≡ Some input →
    covers (word_at input.address) input.words w ≡ true → at (grants_of harts h) w ≡ input.perm
own-right harts h input w is over =
    let others = pieces h ++ stacks harts h in
    let own : input_areas h ≡ input_area h input ∷ [] = ap (λ o. option_map_or (λ i. input_area h i ∷ []) o []) is in
    ap (λ xs. at (map grant (others ++ xs)) w) own
    ∙ ap (λ gs. at gs w) (map-append grant others (input_area h input ∷ []))
    ∙ last-covers (map grant others) (grant (input_area h input)) w over

covers-first : (first count : ℕ) → 1 ≤ count → covers first count first ≡ true
covers-first first count some = search (arith, nat_tests)

some-right : (p : Perm) → p ≡ P.None → (p ≡ P.Read) ⊎ (p ≡ P.ReadWrite) → ⊥
some-right p none (inl read) = let q : P.None ≡ P.Read = sym none ∙ read in cc
some-right p none (inr both) = let q : P.None ≡ P.ReadWrite = sym none ∙ both in cc

module _ (plan : Said) (images left right : List (List ℕ)) (in_range : IsInRange plan) (none : first_fault plan images ≡ None) where
  abbrev booted : State
  booted = boot_state plan images left

  -- on the first word of its own input area a module has that right
  right-there : (d : ℕ) (m : ModulePlan) (input : InputPlan) → slice_get plan.modules (d - 1) ≡ Some m → m.input ≡ Some input →
      1 ≤ input.words → (reads booted).perm d (word_at input.address) ≡ input.perm
  right-there d m input at_d is some =
      let w = word_at input.address in
      let h = home images (d - 1, m) in
      let part = input-part plan images none (d - 1) m input at_d is in
      let end = end_is (ram_words plan) (input_area h input) (in_ram (ram_words plan) (input_area h input) part.inside) in
      let low : w < ram_words plan = omega (arith, end, some) in
      ap (λ b. cond b (at (get_or (boot_grants plan images) (d - 1) []) w) P.None) (lt-ltb w (ram_words plan) low)
      ∙ ap (λ gs. at gs w) (grants-at plan images (d - 1) m at_d)
      ∙ own-right (length plan.harts) h input w is (covers-first w input.words some)

  module _ (d : ℕ) (nowhere : HasNoRightWhereTheyDiffer plan left right booted d) where
    abbrev i : ℕ
    i = d - 1

    by-input : (m : ModulePlan) → slice_get plan.modules i ≡ Some m → (o : Option InputPlan) → m.input ≡ o →
        ◌≡◌ {A = List Content} (option_map_or (λ input. input_content (get_or left i []) input ∷ []) o [])
        (option_map_or (λ input. input_content (get_or right i []) input ∷ []) o [])
    by-input m at_i None is = refl
    by-input m at_i (Some input) is = elim (nowhere i m input at_i is) [
      | inl same ↦ ap (λ bytes. input_content bytes input ∷ []) same
      | inr no_right ↦ absurd (
          let range : IsInput input = subst (λ o. IfSome o IsInput) is (in_range.modules i m at_i).input in
          let some : 1 ≤ input.words = range.words.0 in
          let w = word_at input.address in
          some-right input.perm (sym (right-there d m input at_i is some) ∙ no_right w (covers-first w input.words some)) range.perm)
    ]

    by-module : (o : Option ModulePlan) → slice_get plan.modules i ≡ o →
        option_map_or (λ m. placed_input left (i, m)) o [] ≡ option_map_or (λ m. placed_input right (i, m)) o []
    by-module None e = refl
    by-module (Some m) e = by-input m e m.input refl

    pub same-input : HasSameInput plan left right d
    same-input = by-module (slice_get plan.modules i) refl
