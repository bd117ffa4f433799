-- What is known of a boot in the worked examples: one module, `m`, whose image has no bytes.
use Rattle.std.specs.Prelude.{false, [], ◌∷◌, codes, Some, None}
use Rattle.mx_words.specs.declared.tables.Kind.TheVariants as K
use Rattle.mx_manifest.specs.declared.parts.HartPlan.{HartPlan}
use Rattle.mx_manifest.specs.declared.parts.ModulePlan.{ModulePlan}
use Rattle.mx_manifest.specs.Plan.{Said}
use Rattle.mx_debug_texts.specs.Documents.{Known}

abbrev pub m : ModulePlan
m = record {
  name = codes "m";
  image = Some (codes "m.elf");
  at = None;
  perm = None;
  words = None;
  wx = None;
  heap = None;
  heap_words = None;
  stack = None;
  stack_words = None;
  gates = [];
  returns = [];
  kills = false;
  seal = false;
  input = None;
}

abbrev pub first : HartPlan
first = record { «module» = 1; entry = None }

abbrev pub plan : Said
plan = record {
  version = 1;
  ram_kib = 64;
  tables = K.Packed;
  upper = 128;
  leaf = 4096;
  spill = 4096;
  lookaside = 32;
  quantum = 1;
  modules = m ∷ [];
  harts = first ∷ [];
}

abbrev pub known : Known
known = record { plan = plan; images = [] ∷ [] }
