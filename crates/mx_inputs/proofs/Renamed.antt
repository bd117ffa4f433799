-- A boot doesn't read the names of the files of inputs.
use Rattle.std.proofs.Common.{◌≡◌, ℕ, ◌+◌, ◌-◌, ◌++◌, List, [], ◌∷◌, length, map, replicate, fold, slice_get, Option, Some, None, refl, ap}
use Rattle.std.proofs.Common.{◌∙◌}
use Rattle.std.specs.Prelude.{◌*◌, option_map, option_and_then, slice_set, unwrap_or}
use Rattle.std.specs.List.{enumerate_from, flat_map}
use Rattle.std.specs.Option.{option_map_or}
use Rattle.std.proofs.lemmas.Option.{slice_get-map}
use Rattle.mx_words.specs.Caches.{no_cache}
use Rattle.mx_words.specs.FirstRow.{first_row}
use Rattle.mx_words.specs.Newest.{Grant, Give}
use Rattle.mx_model.specs.declared.values.Gate.{Gate}
use Rattle.mx_model.specs.State.{Hart, Module, Running, State}
use Rattle.mx_manifest.specs.declared.parts.HartPlan.{HartPlan}
use Rattle.mx_manifest.specs.declared.parts.InputPlan.{InputPlan}
use Rattle.mx_manifest.specs.declared.parts.ModulePlan.{ModulePlan}
use Rattle.mx_manifest.specs.Plan.{Said}
use Rattle.mx_boot.specs.Areas.{Home, areas, areas_of, all_inputs, contents, heaps, home, homes, input_area, input_content, pieces}
use Rattle.mx_boot.specs.Areas.{placed_input, stacks}
use Rattle.mx_boot.specs.Boot.{boot_gives, boot_grants, boot_of, boot_ram, boot_state, gives_of, grant, give, grants_of, hart_at_boot}
use Rattle.mx_boot.specs.Boot.{limit_of, limited, module_of, owned_pieces, stack_address, unless, with_content}
use Rattle.mx_boot.specs.Entries.{hart_start, requests, requests_of, start_address}
use Rattle.mx_boot.specs.Faults.{areas_rows, at_hart, entry_rows, first_fault, gates_rows, hart_rows, image_rows, ram_words, rows}
use Rattle.mx_boot.specs.Laid.{gate_of}
use Rattle.mx_inputs.specs.Same.{unnamed, unnamed_input, unnamed_module}

-- lists whose elements are changed in what isn't read
flat-same : {X Y : Type 0} (f : X → List Y) (g : X → X) (xs : List X) → ((x : X) → f (g x) ≡ f x) →
    flat_map f (map g xs) ≡ flat_map f xs
flat-same f g [] e = refl
flat-same f g (x ∷ xs) e = ap (λ ys. ys ++ flat_map f (map g xs)) (e x) ∙ ap (λ ys. f x ++ ys) (flat-same f g xs e)

map-same : {X Y : Type 0} (f : X → Y) (g : X → X) (xs : List X) → ((x : X) → f (g x) ≡ f x) → map f (map g xs) ≡ map f xs
map-same f g [] e = refl
map-same f g (x ∷ xs) e = ap (λ y. y ∷ map f (map g xs)) (e x) ∙ ap (λ ys. f x ∷ ys) (map-same f g xs e)

-- and two functions that give the same
map-alike : {X Y : Type 0} (f g : X → Y) (xs : List X) → ((x : X) → f x ≡ g x) → map f xs ≡ map g xs
map-alike f g [] e = refl
map-alike f g (x ∷ xs) e = ap (λ y. y ∷ map f xs) (e x) ∙ ap (λ ys. g x ∷ ys) (map-alike f g xs e)

flat-alike : {X Y : Type 0} (f g : X → List Y) (xs : List X) → ((x : X) → f x ≡ g x) → flat_map f xs ≡ flat_map g xs
flat-alike f g [] e = refl
flat-alike f g (x ∷ xs) e = ap (λ ys. ys ++ flat_map f xs) (e x) ∙ ap (λ ys. g x ++ ys) (flat-alike f g xs e)

-- a module with its domain
abbrev unnamed_home : Home → Home
unnamed_home h = record h { plan = unnamed_module h.plan }

homes-from : (images : List (List ℕ)) (n : ℕ) (ms : List ModulePlan) →
    map (home images) (enumerate_from n (map unnamed_module ms)) ≡ map unnamed_home (map (home images) (enumerate_from n ms))
homes-from images n [] = refl
homes-from images n (m ∷ ms) = ap (λ hs. unnamed_home (home images (n, m)) ∷ hs) (homes-from images (n + 1) ms)

homes-same : (plan : Said) (images : List (List ℕ)) → homes (unnamed plan) images ≡ map unnamed_home (homes plan images)
homes-same plan images = homes-from images 0 plan.modules

-- its input area, and what its input puts there
input-areas : (h : Home) (o : Option InputPlan) →
    option_map_or (λ input. input_area (unnamed_home h) input ∷ []) (option_map unnamed_input o) []
    ≡ option_map_or (λ input. input_area h input ∷ []) o []
input-areas h None = refl
input-areas h (Some input) = refl

input-contents : (bytes : List ℕ) (o : Option InputPlan) →
    option_map_or (λ input. input_content bytes input ∷ []) (option_map unnamed_input o) []
    ≡ option_map_or (λ input. input_content bytes input ∷ []) o []
input-contents bytes None = refl
input-contents bytes (Some input) = refl

inputs-from : (inputs : List (List ℕ)) (n : ℕ) (ms : List ModulePlan) →
    flat_map (placed_input inputs) (enumerate_from n (map unnamed_module ms)) ≡ flat_map (placed_input inputs) (enumerate_from n ms)
inputs-from inputs n [] = refl
inputs-from inputs n (m ∷ ms) =
    let rest = flat_map (placed_input inputs) (enumerate_from (n + 1) (map unnamed_module ms)) in
    let here : placed_input inputs (n, unnamed_module m) ≡ placed_input inputs (n, m) = input-contents _ m.input in
    ap (λ cs. cs ++ rest) here ∙ ap (λ cs. placed_input inputs (n, m) ++ cs) (inputs-from inputs (n + 1) ms)

module _ (plan : Said) (images : List (List ℕ)) where
  abbrev other : Said
  other = unnamed plan

  abbrev harts : ℕ
  harts = length plan.harts

  -- what is read of all modules
  flat-homes : {Y : Type 0} (f : Home → List Y) → ((h : Home) → f (unnamed_home h) ≡ f h) →
      flat_map f (homes other images) ≡ flat_map f (homes plan images)
  flat-homes f e = ap (flat_map f) (homes-same plan images) ∙ flat-same f unnamed_home (homes plan images) e

  areas-same : areas other images ≡ areas plan images
  areas-same = flat-homes (areas_of harts) (λ h. ap (λ xs. pieces h ++ heaps h ++ stacks harts h ++ xs) (input-areas h h.plan.input))

  requests-same : requests other images ≡ requests plan images
  requests-same = flat-homes requests_of (λ h. refl)

  grants-same : boot_grants other images ≡ boot_grants plan images
  grants-same =
      ap (map (grants_of harts)) (homes-same plan images)
      ∙ map-same (grants_of harts) unnamed_home (homes plan images)
      (λ h. ap (λ xs. map grant (pieces h ++ stacks harts h ++ xs)) (input-areas h h.plan.input))

  gives-same : boot_gives other images ≡ boot_gives plan images
  gives-same = flat-homes (gives_of harts)
      (λ h. ap (λ xs. map give (owned_pieces h ++ heaps h ++ stacks harts h ++ xs)) (input-areas h h.plan.input))

  -- where a hart starts
  start-same : (entry : _) (o : Option Home) →
      option_and_then (λ h. start_address h entry) (option_map unnamed_home o) ≡ option_and_then (λ h. start_address h entry) o
  start-same entry None = refl
  start-same entry (Some h) = refl

  starts-same : (hart : HartPlan) → hart_start other images hart ≡ hart_start plan images hart
  starts-same hart =
      ap (λ hs. option_and_then (λ h. start_address h hart.entry) (slice_get hs (hart.module - 1))) (homes-same plan images)
      ∙ ap (option_and_then (λ h. start_address h hart.entry)) (slice_get-map unnamed_home (homes plan images) (hart.module - 1))
      ∙ start-same hart.entry (slice_get (homes plan images) (hart.module - 1))

  stack-same : (h : ℕ) (o : Option ModulePlan) →
      option_map_or (stack_address h) (option_map unnamed_module o) 0 ≡ option_map_or (stack_address h) o 0
  stack-same h None = refl
  stack-same h (Some m) = refl

  abbrev begun : ℕ × HartPlan → ℕ → Option ℕ → Hart
  begun placed stack start = record {
    regs = slice_set (replicate 32 0) 2 stack;
    pc = unwrap_or start 0;
    domain = placed.1.module;
    frames = [];
    status = Running;
  }

  hart-same : (placed : ℕ × HartPlan) → hart_at_boot other images placed ≡ hart_at_boot plan images placed
  hart-same placed =
      let stack =
      ap (λ o. option_map_or (stack_address placed.0) o 0) (slice_get-map unnamed_module plan.modules (placed.1.module - 1))
      ∙ stack-same placed.0 (slice_get plan.modules (placed.1.module - 1)) in
      ap (λ x. begun placed x (hart_start other images placed.1)) stack
      ∙ ap (begun placed (option_map_or (stack_address placed.0) (slice_get plan.modules (placed.1.module - 1)) 0)) (starts-same placed.1)

  -- the first fault
  hart-rows : (placed : ℕ × HartPlan) → hart_rows other images placed ≡ hart_rows plan images placed
  hart-rows placed =
      ap (λ xs. entry_rows xs (at_hart placed.0) placed.1.module (hart_start other images placed.1)) areas-same
      ∙ ap (entry_rows (areas plan images) (at_hart placed.0) placed.1.module) (starts-same placed.1)

  rows-same : rows other images ≡ rows plan images
  rows-same =
      let images_rows = flat-homes image_rows (λ h. refl) in
      let gates = ap (λ xs. gates_rows xs [] (requests other images)) areas-same ∙ ap (gates_rows (areas plan images) []) requests-same in
      let harts_rows = flat-alike (hart_rows other images) (hart_rows plan images) (enumerate_from 1 plan.harts) hart-rows in
      ap (λ xs. xs ++ areas_rows (ram_words plan) [] (areas other images) ++ gates_rows (areas other images) [] (requests other images)
      ++ flat_map (hart_rows other images) (enumerate_from 1 plan.harts)) images_rows
      ∙ ap (λ xs. flat_map image_rows (homes plan images) ++ areas_rows (ram_words plan) [] xs
      ++ gates_rows (areas other images) [] (requests other images) ++ flat_map (hart_rows other images) (enumerate_from 1 plan.harts))
      areas-same
      ∙ ap (λ xs. flat_map image_rows (homes plan images) ++ areas_rows (ram_words plan) [] (areas plan images)
      ++ xs ++ flat_map (hart_rows other images) (enumerate_from 1 plan.harts)) gates
      ∙ ap (λ xs. flat_map image_rows (homes plan images) ++ areas_rows (ram_words plan) [] (areas plan images)
      ++ gates_rows (areas plan images) [] (requests plan images) ++ xs) harts_rows

  fault-same : first_fault other images ≡ first_fault plan images
  unfolding first_fault
  fault-same = ap first_row rows-same

  -- the state
  ram-same : (inputs : List (List ℕ)) → boot_ram other images inputs ≡ boot_ram plan images inputs
  ram-same inputs =
      ap (λ cs. fold with_content (replicate (4 * ram_words plan) 0) (cs ++ all_inputs other inputs)) (flat-homes contents (λ h. refl))
      ∙ ap (λ cs. fold with_content (replicate (4 * ram_words plan) 0) (flat_map contents (homes plan images) ++ cs))
      (inputs-from inputs 0 plan.modules)

  abbrev state_with : List ℕ → List Module → List Gate → List Hart → List (List Grant) → List Give → State
  state_with ram modules gates hs grants gives = record {
    core = record {
      ram = ram;
      modules = modules;
      gates = gates;
      harts = hs;
      caches = replicate harts no_cache;
      turns = 0;
      size = ram_words plan;
      kind = plan.tables;
      limit = limit_of plan;
      buffer = plan.lookaside;
    };
    grants = grants;
    gives = gives;
    console = [];
    notes = [];
  }

  with-same : (ram sram : List ℕ) (ms sms : List Module) (gs sgs : List Gate) (hs shs : List Hart) (rs srs : List (List Grant))
      (vs svs : List Give) → ram ≡ sram → ms ≡ sms → gs ≡ sgs → hs ≡ shs → rs ≡ srs → vs ≡ svs →
      state_with ram ms gs hs rs vs ≡ state_with sram sms sgs shs srs svs
  with-same ram sram ms sms gs sgs hs shs rs srs vs svs a b c d e f = rw (a, b, c, d, e, f) refl

  state-same : (inputs : List (List ℕ)) → boot_state other images inputs ≡ boot_state plan images inputs
  state-same inputs =
      with-same _ _ _ _ _ _ _ _ _ _ _ _ (ram-same inputs) (map-same module_of unnamed_module plan.modules (λ m. refl))
      (ap (map gate_of) requests-same)
      (map-alike (hart_at_boot other images) (hart_at_boot plan images) (enumerate_from 0 plan.harts) hart-same) grants-same gives-same

  pub boot-unnamed : (inputs : List (List ℕ)) → boot_of other images inputs ≡ boot_of plan images inputs
  unfolding boot_of
  boot-unnamed inputs =
      ap (λ o. unless o (limited (boot_state other images inputs))) fault-same
      ∙ ap (λ s. unless (first_fault plan images) (limited s)) (state-same inputs)
