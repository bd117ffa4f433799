-- The plan of a manifest: the values of its keys, with defaults filled in and names turned into domain numbers.
-- The rules: docs/COMMANDS.md, "The manifest".
use Rattle.std.specs.Prelude.{ℕ, false, if◌then◌else◌, List, map, codes, Option, option_map, option_and_then, unwrap_or}
use Rattle.std.specs.Option.{option_map_or}
use Rattle.std.specs.Str.{bytes_eq}
use Rattle.toml.specs.Data.{Data, as_str, as_bool}
use Rattle.mx_words.specs.declared.perm.Perm.{Perm}
use Rattle.mx_words.specs.declared.perm.Perm.TheVariants.{Read, ReadWrite, ExecuteRead}
use Rattle.mx_words.specs.declared.tables.Kind.{Kind}
use Rattle.mx_words.specs.declared.tables.Kind.TheVariants.{Segments, Multilevel, Packed}
use Rattle.mx_manifest.specs.declared.fault.Key.TheVariants as key
use Rattle.mx_manifest.specs.declared.row.Version.{Version}
use Rattle.mx_manifest.specs.declared.row.Version.TheVariants.{One, Two}
use Rattle.mx_manifest.specs.declared.parts.EntryPlan.{EntryPlan}
use Rattle.mx_manifest.specs.declared.parts.EntryPlan.TheVariants.{Symbol, Address}
use Rattle.mx_manifest.specs.declared.parts.GatePlan.{GatePlan}
use Rattle.mx_manifest.specs.declared.parts.HartPlan.{HartPlan}
use Rattle.mx_manifest.specs.declared.parts.InputPlan.{InputPlan}
use Rattle.mx_manifest.specs.declared.parts.ModulePlan.{ModulePlan}
use Rattle.mx_manifest.specs.Reads.{value_at, elements, elements_at, number_of, number_at, text_at}
use Rattle.mx_manifest.specs.Faults.{modules, harts, version_of, module_name, module_names, domain_of, from_texts, hart_domain}

-- all that a manifest says
pub record Said : Type 0 where
  pub version : ℕ
  pub ram_kib : ℕ
  pub tables : Kind
  pub upper : ℕ
  pub leaf : ℕ
  pub spill : ℕ
  pub lookaside : ℕ
  pub quantum : ℕ
  pub modules : List ModulePlan
  pub harts : List HartPlan

-- the kind of tables that a text names
abbrev pub kind_named : List ℕ → Kind
kind_named text =
    if bytes_eq text (codes "segments") then Segments
    else if bytes_eq text (codes "multilevel") then Multilevel
    else Packed

-- the permission that a text names
abbrev pub perm_named : List ℕ → Perm
perm_named text =
    if bytes_eq text (codes "rw") then ReadWrite
    else if bytes_eq text (codes "rx") then ExecuteRead
    else Read

-- a symbol or an address
abbrev pub entry_plan : Data → EntryPlan
entry_plan value = option_map_or Symbol (as_str value) (Address (unwrap_or (number_of value) 0))

abbrev pub gate_plan : List (List ℕ) → Data → GatePlan
gate_plan names gate = record {
  entry = option_map_or entry_plan (value_at key.Entry gate) (Address 0);
  from = map (domain_of names) (from_texts gate);
}

abbrev pub word_list : Data → List ℕ
word_list value = map (λ word. unwrap_or (number_of word) 0) (elements value)

-- a module's input, where a file is named
abbrev pub input_of : Data → List ℕ → InputPlan
input_of m file = record {
  file = file;
  address = unwrap_or (number_at key.InputAt m) 0;
  words = unwrap_or (number_at key.InputWords m) 0;
  perm = unwrap_or (option_map perm_named (text_at key.InputPerm m)) Read;
}

abbrev pub input_plan : Data → Option InputPlan
input_plan m = option_map (input_of m) (text_at key.Input m)

abbrev pub module_plan : List (List ℕ) → Data → ModulePlan
module_plan names m = record {
  name = module_name m;
  image = text_at key.Image m;
  at = number_at key.At m;
  perm = option_map perm_named (text_at key.Perm m);
  words = option_map word_list (value_at key.Words m);
  wx = option_map perm_named (text_at key.Wx m);
  heap = number_at key.Heap m;
  heap_words = number_at key.HeapWords m;
  stack = number_at key.Stack m;
  stack_words = number_at key.StackWords m;
  gates = map (gate_plan names) (elements_at key.Gates m);
  returns = map entry_plan (elements_at key.Returns m);
  kills = option_map_or (bytes_eq (codes "kill")) (text_at key.OnFault m) false;
  seal = unwrap_or (option_and_then as_bool (value_at key.Seal m)) false;
  input = input_plan m;
}

abbrev pub hart_plan : List (List ℕ) → Data → HartPlan
hart_plan names hart = record {
  «module» = hart_domain names hart;
  entry = option_map entry_plan (value_at key.Entry hart);
}

abbrev pub version_number : Version → ℕ
version_number One = 1
version_number Two = 2

-- the plan of a manifest without a fault
abbrev pub plan_of : Data → Said
plan_of top = let names = module_names top in record {
  version = version_number (version_of top);
  ram_kib = unwrap_or (number_at key.RamKib top) 64;
  tables = option_map_or kind_named (text_at key.Tables top) Packed;
  upper = unwrap_or (number_at key.Upper top) 128;
  leaf = unwrap_or (number_at key.Leaf top) 4096;
  spill = unwrap_or (number_at key.Spill top) 4096;
  lookaside = unwrap_or (number_at key.Lookaside top) 32;
  quantum = unwrap_or (number_at key.Quantum top) 1;
  modules = map (module_plan names) (modules top);
  harts = map (hart_plan names) (harts top);
}
