-- What holds of every plan: the ranges of the table of keys, and what the names say.
use Rattle.std.specs.Prelude.{◌≡◌, ◌≢◌, ◌≤◌, ◌⊎◌, ℕ, ◌+◌, ◌%◌, true, false, not, nat_eq, List, length, slice_get, codes, Some, None, IfSome}
use Rattle.std.specs.List.{list_all, starts_with}
use Rattle.std.specs.Option.{is_some}
use Rattle.mx_manifest.specs.declared.parts.EntryPlan.{EntryPlan}
use Rattle.mx_manifest.specs.declared.parts.EntryPlan.TheVariants.{Symbol, Address}
use Rattle.mx_manifest.specs.declared.parts.GatePlan.{GatePlan}
use Rattle.mx_manifest.specs.declared.parts.HartPlan.{HartPlan}
use Rattle.mx_manifest.specs.declared.parts.InputPlan.{InputPlan}
use Rattle.mx_manifest.specs.declared.parts.ModulePlan.{ModulePlan}
use Rattle.mx_words.specs.declared.perm.Perm.TheVariants as perms
use Rattle.mx_words.specs.Limits.{most_modules, most_harts, most_gates, IsBuffer, most_words, least_ram_kib, most_ram_kib, most_upper}
use Rattle.mx_words.specs.Limits.{most_leaf, most_spill, most_quantum, most_inline_words, most_stack_words, most_module_name, most_name}
use Rattle.mx_manifest.specs.Forms.{is_name_byte}
use Rattle.mx_manifest.specs.Plan.{Said}

-- a number from low to high
abbrev pub IsBetween : ℕ → ℕ → ℕ → Type 0
IsBetween low high n = (low ≤ n) × (n ≤ high)

-- an aligned address
abbrev pub IsAligned : ℕ → Type 0
IsAligned address = (address % 4 ≡ 0) × (address ≤ 4294967295)

-- a module's name, and the name of a file
abbrev pub IsName : List ℕ → Type 0
IsName name = IsBetween 1 most_module_name (length name) × (list_all is_name_byte name ≡ true)

abbrev pub IsFileName : List ℕ → Type 0
IsFileName name = IsBetween 1 most_name (length name) × (starts_with nat_eq name (codes "-") ≡ false)

-- a symbol of 1 to 255 bytes, or an address
abbrev pub IsEntry : EntryPlan → Type 0
IsEntry (Symbol text) = IsBetween 1 most_name (length text)
IsEntry (Address address) = address ≤ 4294967295

-- a property of each element, with its number from 1
abbrev pub EachNumbered : {T : Type 0} → (ℕ → T → Type 0) → List T → Type 0
EachNumbered {T} P xs = (i : ℕ) (x : T) → slice_get xs i ≡ Some x → P (i + 1) x

abbrev pub Each : {T : Type 0} → (T → Type 0) → List T → Type 0
Each P xs = EachNumbered (λ n x. P x) xs

-- a gate of module `own` among `count` modules
pub record IsGate (count own : ℕ) (gate : GatePlan) : Type 0 where
  pub entry : IsEntry gate.entry
  pub from_count : IsBetween 1 most_modules (length gate.from)
  pub from : Each (λ domain. IsBetween 1 count domain × (domain ≢ own)) gate.from

-- an input
pub record IsInput (plan : InputPlan) : Type 0 where
  pub file : IsFileName plan.file
  pub address : IsAligned plan.address
  pub words : IsBetween 1 most_words plan.words
  pub perm : (plan.perm ≡ perms.Read) ⊎ (plan.perm ≡ perms.ReadWrite)

-- module `own` among `count` modules
pub record IsModule (count own : ℕ) (plan : ModulePlan) : Type 0 where
  pub name : IsName plan.name
  pub image : IfSome plan.image IsFileName
  pub at_or_image : is_some plan.at ≡ not (is_some plan.image)
  pub perm_or_image : is_some plan.perm ≡ not (is_some plan.image)
  pub words_or_image : is_some plan.words ≡ not (is_some plan.image)
  pub at : IfSome plan.at IsAligned
  pub perm : IfSome plan.perm (λ perm. perm ≢ perms.None)
  pub words : IfSome plan.words (λ words. IsBetween 1 most_inline_words (length words))
  pub wx : IfSome plan.wx (λ perm. (perm ≡ perms.ReadWrite) ⊎ (perm ≡ perms.ExecuteRead))
  pub wx_of_image : is_some plan.wx ≡ true → is_some plan.image ≡ true
  pub heap : IfSome plan.heap IsAligned
  pub heap_words : IfSome plan.heap_words (IsBetween 1 most_words)
  pub heap_whole : is_some plan.heap ≡ is_some plan.heap_words
  pub stack : IfSome plan.stack IsAligned
  pub stack_words : IfSome plan.stack_words (IsBetween 1 most_stack_words)
  pub stack_whole : is_some plan.stack ≡ is_some plan.stack_words
  pub gate_count : length plan.gates ≤ most_gates
  pub gates : Each (IsGate count own) plan.gates
  pub return_count : length plan.returns ≤ most_gates
  pub returns : Each IsEntry plan.returns
  pub input : IfSome plan.input IsInput

-- no two modules have one name
abbrev pub HasNamesApart : List ModulePlan → Type 0
HasNamesApart plans =
    (i j : ℕ) (a b : ModulePlan) → slice_get plans i ≡ Some a → slice_get plans j ≡ Some b →
    a.name ≡ b.name → i ≡ j

-- a hart among `count` modules
pub record IsHart (count : ℕ) (plan : HartPlan) : Type 0 where
  pub domain : IsBetween 1 count plan.module
  pub entry : IfSome plan.entry IsEntry

pub record IsInRange (plan : Said) : Type 0 where
  pub version : IsBetween 1 2 plan.version
  pub ram_kib : IsBetween least_ram_kib most_ram_kib plan.ram_kib
  pub ram_multiple : plan.ram_kib % 4 ≡ 0
  pub upper : plan.upper ≤ most_upper
  pub leaf : plan.leaf ≤ most_leaf
  pub spill : plan.spill ≤ most_spill
  pub lookaside : IsBuffer plan.lookaside
  pub quantum : IsBetween 1 most_quantum plan.quantum
  pub module_count : IsBetween 1 most_modules (length plan.modules)
  pub hart_count : IsBetween 1 most_harts (length plan.harts)
  pub modules : EachNumbered (IsModule (length plan.modules)) plan.modules
  pub names_apart : HasNamesApart plan.modules
  pub inputs_of_two : plan.version ≡ 1 → Each (λ (m : ModulePlan). m.input ≡ None) plan.modules
  pub harts : Each (IsHart (length plan.modules)) plan.harts
