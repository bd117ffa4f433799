-- At boot no two modules have a right on one word.
use Rattle.std.proofs.Common.{◌≡◌, ◌≢◌, ◌⊎◌, inl, inr, ℕ, ◌+◌, ◌-◌, ◌||◌, Bool, true, false, cond, nat_lt, List, [], ◌∷◌, ◌++◌, length, map}
use Rattle.std.proofs.Common.{get_or, slice_get, Option, Some, None, refl, ap, ◌∙◌, sym, subst, arith}
use Rattle.std.specs.List.{AllByRecursion, list_any}
use Rattle.std.specs.Option.{option_map_or}
use Rattle.std.proofs.lemmas.Bool.{cases_Bool, cases_lt}
use Rattle.std.proofs.lemmas.List.{get_or_past, length-map}
use Rattle.std.proofs.lemmas.Option.{get_or_from_slice_get}
use Rattle.mx_words.specs.declared.perm.Perm.TheVariants as P
use Rattle.mx_words.specs.declared.perm.Access.{Access}
use Rattle.mx_words.specs.declared.perm.Access.TheVariants as A
use Rattle.mx_words.specs.Newest.{Grant, Laid, at, newest}
use Rattle.mx_words.specs.Ranges.{covers}
use Rattle.mx_words.specs.Rights.{allows}
use Rattle.mx_model.proofs.EachLaws.{all_both, all_each, all_mapped, any_none, there}
use Rattle.mx_model.proofs.JoinLaws.{all-join, all-weaker}
use Rattle.mx_model.specs.Reads.{reads}
use Rattle.mx_machine.proofs.SmallLaws.{from-each}
use Rattle.mx_manifest.specs.declared.parts.InputPlan.{InputPlan}
use Rattle.mx_manifest.specs.declared.parts.ModulePlan.{ModulePlan}
use Rattle.mx_manifest.specs.Plan.{Said}
use Rattle.mx_boot.specs.declared.area.Area.{Area}
use Rattle.mx_boot.specs.Areas.{Home, areas, home, homes, input_area, input_areas, pieces, stack_area, stacks}
use Rattle.mx_boot.specs.Boot.{boot_grants, boot_state, grant, grants_of}
use Rattle.mx_boot.specs.Entries.{word_at}
use Rattle.mx_boot.specs.Faults.{first_fault, is_in_ram, ram_words, shares_word}
use Rattle.mx_boot.specs.Placed.{IsApart, granted_areas}
use Rattle.mx_boot.proofs.Apart.{all_inside, apart_at, both_cover, in_ram}
use Rattle.mx_boot.proofs.Booted.{faultless}
use Rattle.mx_boot.proofs.Homes.{home_is, length-homes}
use Rattle.mx_boot.proofs.Owning.{is_over, newest_is}
use Rattle.mx_boot.proofs.Parted.{granted_part, input_part}
use Rattle.mx_boot.proofs.Placing.{home_all}
use Rattle.mx_boot.proofs.Rows.{at_mapped}
use Rattle.mx_inputs.proofs.Sides.{AreApart}

-- a word that no entry covers has the default
uncovered : {B : Type 0} (default : B) (entries : List (Laid B)) (i : ℕ) → AllByRecursion (λ e. is_over i e ≡ false) entries →
    newest default entries i ≡ default
uncovered default entries i none =
    newest_is default default entries i
    (all-weaker (λ e. is_over i e ≡ false) (λ e. is_over i e ≡ true → e.value ≡ default) entries
    (λ e f t. absurd (let q : true ≡ false = sym t ∙ f in cc)) none)
    (inr refl)

-- so one on which a list gives a right is covered
covered : (grants : List Grant) (i : ℕ) (x : Access) → allows (at grants i) x ≡ true → list_any (is_over i) grants ≡ true
covered grants i x may = elim (cases_Bool (list_any (is_over i) grants)) [
  | inl some ↦ some
  | inr none ↦ absurd (
      let p = ap (λ p. allows p x) (uncovered P.None grants i (any_none (is_over i) grants none)) in
      let q : true ≡ false = sym may ∙ p in cc)
]

-- by the grant of an area
abbrev pub covers_word : ℕ → Area → Bool
covers_word w a = covers (word_at a.address) a.count w

area-over : (Q : Area → Type 0) (w : ℕ) (xs : List Area) → AllByRecursion Q xs → list_any (is_over w) (map grant xs) ≡ true →
    (a : Area) × Q a × (covers_word w a ≡ true)
area-over Q w [] all h = absurd (let q : ⊥ = cc in q)
area-over Q w (a ∷ xs) all h =
    elim (is_over w (grant a)) as (λ b. is_over w (grant a) ≡ b → (b || list_any (is_over w) (map grant xs)) ≡ true →
    (c : Area) × Q c × (covers_word w c ≡ true)) [
      | true ↦ λ e k. (a, all.0, e)
      | false ↦ λ e k. area-over Q w xs all.1 k
    ] refl h

-- the areas on which a module has rights are its own
abbrev IsOf : Home → Area → Type 0
IsOf h a = a.domain ≡ h.domain

pieces-own : (h : Home) → AllByRecursion (IsOf h) (pieces h)
pieces-own h = search (arith, all_mapped, all_each)

stack-own : (harts : ℕ) (h : Home) (o : Option ℕ) →
    AllByRecursion (IsOf h) (option_map_or (λ address. stack_area harts h address ∷ []) o [])
stack-own harts h None = tt
stack-own harts h (Some address) = (refl, tt)

input-own : (h : Home) (o : Option InputPlan) → AllByRecursion (IsOf h) (option_map_or (λ input. input_area h input ∷ []) o [])
input-own h None = tt
input-own h (Some input) = (refl, tt)

granted-own : (harts : ℕ) (h : Home) → AllByRecursion (IsOf h) (granted_areas harts h)
granted-own harts h =
    all-join (IsOf h) (pieces h ++ stacks harts h) (input_areas h)
    (all-join (IsOf h) (pieces h) (stacks harts h) (pieces-own h) (stack-own harts h h.plan.stack)) (input-own h h.plan.input)

module _ (plan : Said) (images : List (List ℕ)) (none : first_fault plan images ≡ None) where
  abbrev size : ℕ
  size = ram_words plan

  abbrev all : List Area
  all = areas plan images

  abbrev grants_in : ℕ → ModulePlan → List Grant
  grants_in j n = grants_of (length plan.harts) (home images (j, n))

  -- an area of the module at a place: it lies in RAM and is apart
  pub record IsPart (i : ℕ) (a : Area) : Type 0 where
    pub inside : is_in_ram size a ≡ true
    pub apart : IsApart all a
    pub own : a.domain ≡ i + 1

  abbrev IsClear : Area → Type 0
  IsClear a = (is_in_ram size a ≡ true) × IsApart all a

  each-clear : AllByRecursion IsClear all
  each-clear =
      let clear = (faultless plan images none).placed in
      all_both (λ a. is_in_ram size a ≡ true) (IsApart all) all (all_inside size [] all clear)
      (from-each (IsApart all) all (λ i a at. apart_at size [] all clear i a at))

  granted-parts : (i : ℕ) (m : ModulePlan) → slice_get plan.modules i ≡ Some m →
      AllByRecursion (IsPart i) (granted_areas (length plan.harts) (home images (i, m)))
  granted-parts i m at =
      let h = home images (i, m) in
      let harts = length plan.harts in
      all-weaker (λ a. IsClear a × IsOf h a) (IsPart i) (granted_areas harts h)
      (λ a q. record { inside = q.0.0; apart = q.0.1; own = q.1 })
      (all_both IsClear (IsOf h) (granted_areas harts h) (granted_part IsClear harts h (home_all IsClear plan images i m each-clear at))
      (granted-own harts h))

  pub input-part : (i : ℕ) (m : ModulePlan) (input : InputPlan) → slice_get plan.modules i ≡ Some m → m.input ≡ Some input →
      IsPart i (input_area (home images (i, m)) input)
  input-part i m input at is =
      let h = home images (i, m) in
      let clear : AllByRecursion IsClear (input_areas h) =
      input_part IsClear (length plan.harts) h (home_all IsClear plan images i m each-clear at) in
      let q = (subst (λ o. AllByRecursion IsClear (option_map_or (λ input. input_area h input ∷ []) o [])) is clear).0 in
      record { inside = q.0; apart = q.1; own = refl }

  -- a word of an area of one module: another has no right on it
  no-right : (i j : ℕ) (n : ModulePlan) → slice_get plan.modules j ≡ Some n → i ≢ j → (b : Area) → IsPart i b → (w : ℕ) →
      covers_word w b ≡ true → (x : Access) → allows (at (grants_in j n) w) x ≡ false
  no-right i j n at_j other b part w over x =
      let harts = length plan.harts in
      let h = home images (j, n) in
      let xs = granted_areas harts h in
      let near = granted_part (λ a. (shares_word a b ≡ false) ⊎ (a ≡ b)) harts h
      (home_all (λ a. (shares_word a b ≡ false) ⊎ (a ≡ b)) plan images j n part.apart at_j) in
      let missed = all-weaker (λ a. IsPart j a × ((shares_word a b ≡ false) ⊎ (a ≡ b))) (λ a. covers_word w a ≡ false) xs
      (λ a q. elim (cases_Bool (covers_word w a)) [
        | inl too ↦ absurd (elim q.1 [
          | inl apart ↦ (
              let shares = both_cover size a b w (in_ram size a q.0.inside) (in_ram size b part.inside) too over in
              let r : true ≡ false = sym shares ∙ apart in let k : ⊥ = cc in k)
          | inr same ↦ (
              let domain : a.domain ≡ b.domain = ap (λ (c : Area). c.domain) same in
              let mine = q.0.own in
              let yours = part.own in
              other (omega (arith, domain, mine, yours)))
        ])
        | inr past ↦ past
      ])
      (all_both (IsPart j) (λ a. (shares_word a b ≡ false) ⊎ (a ≡ b)) xs (granted-parts j n at_j) near) in
      ap (λ p. allows p x)
      (uncovered P.None (grants_in j n) w (all_mapped grant (λ (e : Grant). is_over w e ≡ false) xs missed))

  -- a word on which one module has a right: another has none
  pub right-apart : (i j : ℕ) (m n : ModulePlan) → slice_get plan.modules i ≡ Some m → slice_get plan.modules j ≡ Some n → i ≢ j →
      (w : ℕ) (x y : Access) → allows (at (grants_in i m) w) x ≡ true → allows (at (grants_in j n) w) y ≡ false
  right-apart i j m n at_i at_j other w x y may =
      let found = area-over (IsPart i) w (granted_areas (length plan.harts) (home images (i, m))) (granted-parts i m at_i)
      (covered (grants_in i m) w x may) in
      no-right i j n at_j other found.0 found.1 w found.2 y

  -- a word that a module may read isn't in the input area of another
  pub unread : (i j : ℕ) (m n : ModulePlan) (input : InputPlan) → slice_get plan.modules i ≡ Some m →
      slice_get plan.modules j ≡ Some n → i ≢ j → m.input ≡ Some input → (w : ℕ) → allows (at (grants_in j n) w) A.Read ≡ true →
      covers (word_at input.address) input.words w ≡ false
  unread i j m n input at_i at_j other is w may = elim (cases_Bool (covers (word_at input.address) input.words w)) [
    | inl over ↦ absurd (
        let p = no-right i j n at_j other (input_area (home images (i, m)) input) (input-part i m input at_i is) w over A.Read in
        let q : true ≡ false = sym may ∙ p in let k : ⊥ = cc in k)
    | inr past ↦ past
  ]

-- a module's grants at boot
pub grants-at : (plan : Said) (images : List (List ℕ)) (j : ℕ) (n : ModulePlan) → slice_get plan.modules j ≡ Some n →
    get_or (boot_grants plan images) j [] ≡ grants_of (length plan.harts) (home images (j, n))
grants-at plan images j n at_j =
    get_or_from_slice_get (boot_grants plan images) j (grants_of (length plan.harts) (home images (j, n))) []
    (at_mapped (grants_of (length plan.harts)) (homes plan images) j (home images (j, n)) (home_is plan images j n at_j))

-- the grants at a place: a module's, or none
pub data GrantsAre (plan : Said) (images : List (List ℕ)) (j : ℕ) : Type 0 where
  OfModule : (n : ModulePlan) → slice_get plan.modules j ≡ Some n →
      get_or (boot_grants plan images) j [] ≡ grants_of (length plan.harts) (home images (j, n)) → GrantsAre plan images j
  OfNone : get_or (boot_grants plan images) j [] ≡ [] → GrantsAre plan images j

pub grants-are : (plan : Said) (images : List (List ℕ)) (j : ℕ) → GrantsAre plan images j
grants-are plan images j = elim (cases_lt j (length plan.modules)) [
  | inl lt ↦ let found = there plan.modules j lt in OfModule found.0 found.1 (grants-at plan images j found.0 found.1)
  | inr past ↦ (
      let count : length (boot_grants plan images) ≡ length plan.modules =
      length-map (homes plan images) (grants_of (length plan.harts)) ∙ length-homes plan images in
      OfNone (get_or_past (boot_grants plan images) j [] (omega (arith, past, count))))
]

-- no module may write a word that another may read
pub boots-apart : (plan : Said) (images inputs : List (List ℕ)) → first_fault plan images ≡ None →
    AreApart (reads (boot_state plan images inputs))
boots-apart plan images inputs none d e w other may =
    elim (nat_lt w (ram_words plan)) as (λ b. allows (cond b (at (get_or (boot_grants plan images) (d - 1) []) w) P.None) A.Read ≡ true →
    allows (cond b (at (get_or (boot_grants plan images) (e - 1) []) w) P.None) A.Write ≡ false) [
      | true ↦ λ m. by-grants (d - 1) (e - 1) other m (grants-are plan images (d - 1)) (grants-are plan images (e - 1))
      | false ↦ λ m. refl
    ] may
  where
    by-grants : (j i : ℕ) → j ≢ i → allows (at (get_or (boot_grants plan images) j []) w) A.Read ≡ true →
        GrantsAre plan images j → GrantsAre plan images i → allows (at (get_or (boot_grants plan images) i []) w) A.Write ≡ false
    by-grants j i other m (OfNone p) (OfModule l at_i q) = absurd (
        let r : allows P.None A.Read ≡ true = ap (λ gs. allows (at gs w) A.Read) (sym p) ∙ m in let k : ⊥ = cc in k)
    by-grants j i other m p (OfNone q) = ap (λ gs. allows (at gs w) A.Write) q
    by-grants j i other m (OfModule n at_j p) (OfModule l at_i q) =
        ap (λ gs. allows (at gs w) A.Write) q
        ∙ right-apart plan images none j i n l at_j at_i other w A.Read A.Write (ap (λ gs. allows (at gs w) A.Read) (sym p) ∙ m)
