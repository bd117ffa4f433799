-- What the manifest of `mill` says, and its images: each module is inline.
-- The rules: docs/COMMANDS.md, "The mill".
use Rattle.std.specs.Prelude.{ℕ, ◌+◌, false, List, [], ◌∷◌, map, replicate, Some, None}
use Rattle.std.specs.List.{range_with_len}
use Rattle.mx_words.specs.declared.perm.Perm.TheVariants.{ExecuteRead}
use Rattle.mx_words.specs.declared.tables.Kind.TheVariants.{Packed}
use Rattle.mx_manifest.specs.declared.parts.EntryPlan.TheVariants.{Address}
use Rattle.mx_manifest.specs.declared.parts.GatePlan.{GatePlan}
use Rattle.mx_manifest.specs.declared.parts.HartPlan.{HartPlan}
use Rattle.mx_manifest.specs.declared.parts.ModulePlan.{ModulePlan}
use Rattle.mx_manifest.specs.Plan.{Said}
use Rattle.mx_mill.specs.Draws.{draws}
use Rattle.mx_mill.specs.Table.{name, call_gate, return_gate}
use Rattle.mx_mill.specs.Words.{module_count, hart_count, base, module_before, words_by}

-- the gate of module i
abbrev pub gate_of : ℕ → GatePlan
gate_of i = record { entry = Address (call_gate i); from = module_before i ∷ [] }

-- module i, with its words
abbrev pub module_of : ℕ → List ℕ → ModulePlan
module_of i words = record {
  name = name i;
  image = None;
  at = Some (base i);
  perm = Some ExecuteRead;
  words = Some words;
  wx = None;
  heap = Some (base i + 0x2000);
  heap_words = Some 1024;
  stack = None;
  stack_words = None;
  gates = gate_of i ∷ [];
  returns = Address (return_gate i) ∷ [];
  kills = false;
  seal = false;
  input = None;
}

-- the hart that begins in module i, at its first word
abbrev pub mill_hart : ℕ → HartPlan
mill_hart i = record { «module» = i; entry = None }

-- the plan, with the words of each module
abbrev pub plan_with : (ℕ → List ℕ) → Said
plan_with words = record {
  version = 1;
  ram_kib = 1024;
  tables = Packed;
  upper = 128;
  leaf = 4096;
  spill = 4096;
  lookaside = 32;
  quantum = 1;
  modules = map (λ i. module_of i (words i)) (range_with_len 1 module_count);
  harts = map mill_hart (range_with_len 1 hart_count);
}

-- the plan of `mill k`
unfoldable pub mill_plan : ℕ → Said
mill_plan k = plan_with (words_by (draws k))

-- no module has an image
abbrev pub no_images : List (List ℕ)
no_images = replicate module_count []
