-- The state at boot: what a plan, its images and its inputs give if they have no fault and their maps fit.
-- The rules: docs/MACHINE.md, "Memory, domains, harts".
use Rattle.std.specs.Prelude.{ℕ, ◌+◌, ◌-◌, ◌*◌, false, if◌then◌else◌, List, [], ◌++◌, length, replicate, slice_set, slice_get, fold, map}
use Rattle.std.specs.Prelude.{Option, Some, None, unwrap_or, Result, Ok, Err}
use Rattle.std.specs.List.{enumerate_from, flat_map}
use Rattle.std.specs.Option.{option_map_or}
use Rattle.mx_words.specs.declared.tables.Need.{Need}
use Rattle.mx_words.specs.Caches.{no_cache}
use Rattle.mx_words.specs.FirstFit.{Area}
use Rattle.mx_words.specs.Need.{within}
use Rattle.mx_words.specs.Newest.{Grant, Give}
use Rattle.mx_words.specs.Ranges.{ram_base}
use Rattle.mx_model.specs.State.{Hart, Module, Stack, State, Running, map_need}
use Rattle.mx_manifest.specs.declared.fault.BootFault.{BootFault}
use Rattle.mx_manifest.specs.declared.parts.HartPlan.{HartPlan}
use Rattle.mx_manifest.specs.declared.parts.ModulePlan.{ModulePlan}
use Rattle.mx_manifest.specs.Plan.{Said}
use Rattle.mx_boot.specs.declared.area.Area as area
use Rattle.mx_boot.specs.declared.gates.Request.{Request}
use Rattle.mx_boot.specs.Areas.{Home, homes, Content, contents, all_inputs, pieces, heaps, stacks, input_areas, heap_words, stack_words}
use Rattle.mx_boot.specs.Entries.{requests, hart_start, word_at}
use Rattle.mx_boot.specs.Faults.{first_fault, ram_words}

-- RAM with bytes put into it
abbrev pub with_content : List ℕ → Content → List ℕ
with_content ram c =
    fold (λ ram (p : ℕ × ℕ). slice_set ram p.0 p.1) ram
    (enumerate_from (c.address - ram_base) c.bytes)

-- RAM at boot: zeros but for what the modules put there, and then their inputs
abbrev pub boot_ram : Said → List (List ℕ) → List (List ℕ) → List ℕ
boot_ram plan images inputs =
    fold with_content (replicate (4 * ram_words plan) 0)
    (flat_map contents (homes plan images) ++ all_inputs plan inputs)

-- an area's grant of its permission to its module, and its give to its module
abbrev pub grant : area.Area → Grant
grant a = record { first = word_at a.address; count = a.count; value = a.perm }

abbrev pub give : area.Area → Give
give a = record { first = word_at a.address; count = a.count; value = a.domain }

-- a module's grants: one for each loaded segment or for its inline words, one for its stack area, and one for its input area
abbrev pub grants_of : ℕ → Home → List Grant
grants_of harts h = map grant (pieces h ++ stacks harts h ++ input_areas h)

-- its gives: one for each segment or for its inline words, unless it is sealed, and one for its heap area, its stack area and its
-- input area
abbrev pub owned_pieces : Home → List area.Area
owned_pieces h = if h.plan.seal then [] else pieces h

abbrev pub gives_of : ℕ → Home → List Give
gives_of harts h = map give (owned_pieces h ++ heaps h ++ stacks harts h ++ input_areas h)

-- those of all modules
abbrev pub boot_grants : Said → List (List ℕ) → List (List Grant)
boot_grants plan images = map (grants_of (length plan.harts)) (homes plan images)

abbrev pub boot_gives : Said → List (List ℕ) → List Give
boot_gives plan images = flat_map (gives_of (length plan.harts)) (homes plan images)

-- a module as it stands in the state
abbrev pub heap_of : ModulePlan → Area
heap_of plan =
    option_map_or (λ address. record { first = word_at address; count = heap_words plan }) plan.heap
    (record { first = 0; count = 0 })

abbrev pub stack_of : ModulePlan → Stack
stack_of plan =
    option_map_or (λ address. record { first = word_at address; words = stack_words plan })
    plan.stack
    (record { first = 0; words = 0 })

abbrev pub module_of : ModulePlan → Module
module_of plan =
    record {
      heap = heap_of plan;
      blocks = [];
      stack = stack_of plan;
      kills = plan.kills;
      dead = false;
    }

-- a module's stack address for a hart, which counts from 0: after that hart's words; 0 where the module has no stack
abbrev pub stack_address : ℕ → ModulePlan → ℕ
stack_address h plan =
    option_map_or (λ address. address + 4 * stack_words plan * (h + 1)) plan.stack 0

-- a hart with its number from 0: it is in its module, at its entry, with all registers zero but x2, its stack address
abbrev pub hart_at_boot : Said → List (List ℕ) → ℕ × HartPlan → Hart
hart_at_boot plan images placed =
    let stack =
    option_map_or (stack_address placed.0) (slice_get plan.modules (placed.1.module - 1)) 0 in
    record {
      regs = slice_set (replicate 32 0) 2 stack;
      pc = unwrap_or (hart_start plan images placed.1) 0;
      domain = placed.1.module;
      frames = [];
      status = Running;
    }

abbrev pub limit_of : Said → Need
limit_of plan = record { upper = plan.upper; leaf = plan.leaf; spill = plan.spill }

-- the state at boot of a plan without a fault
abbrev pub boot_state : Said → List (List ℕ) → List (List ℕ) → State
boot_state plan images inputs = record {
  core = record {
    ram = boot_ram plan images inputs;
    modules = map module_of plan.modules;
    gates = map (λ (r : Request). r.gate) (requests plan images);
    harts = map (hart_at_boot plan images) (enumerate_from 0 plan.harts);
    caches = replicate (length plan.harts) no_cache;
    turns = 0;
    size = ram_words plan;
    kind = plan.tables;
    limit = limit_of plan;
    buffer = plan.lookaside;
  };
  grants = boot_grants plan images;
  gives = boot_gives plan images;
  console = [];
  notes = [];
}

-- why there is no boot: the first fault, or tables whose need exceeds the limit
pub data Refusal : Type 0 where
  Faulty : (fault : BootFault) → Refusal
  TooFull : (needed limit : Need) → Refusal

-- a state whose maps fit its limit
abbrev pub limited : State → Result State Refusal
limited s =
    if within (map_need s) s.core.limit then Ok s else Err (TooFull (map_need s) s.core.limit)

abbrev pub unless : Option BootFault → Result State Refusal → Result State Refusal
unless (Some fault) boot = Err (Faulty fault)
unless None boot = boot

-- the first fault, or the need of the maps where it exceeds the limit, or else the state at boot
unfoldable pub boot_of : Said → List (List ℕ) → List (List ℕ) → Result State Refusal
boot_of plan images inputs =
    unless (first_fault plan images) (limited (boot_state plan images inputs))
