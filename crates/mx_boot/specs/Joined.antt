-- The parts from which the machine is joined at boot.
-- The rules: docs/MACHINE.md, "Memory, domains, harts".
use Rattle.std.specs.Prelude.{ℕ, List, [], length}
use Rattle.std.specs.Prelude.{map as list_map}
use Rattle.mx_check.specs.Calls.{new_harts}
use Rattle.mx_heap.specs.HeapState.{HeapState}
use Rattle.mx_manifest.specs.declared.parts.ModulePlan.{ModulePlan}
use Rattle.mx_manifest.specs.Plan.{Said}
use Rattle.mx_supervisor.specs.Parts.{Parts}
use Rattle.mx_words.specs.declared.perm.Perm.{Perm}
use Rattle.mx_words.specs.Newest.{owners, map}
use Rattle.mx_boot.specs.Boot.{boot_ram, boot_grants, boot_gives, heap_of, limit_of}
use Rattle.mx_boot.specs.Entries.{requests}
use Rattle.mx_boot.specs.Faults.{ram_words}
use Rattle.mx_boot.specs.Laid.{gate_of}

-- a module's heap
abbrev pub heap_state : ModulePlan → HeapState
heap_state plan = record { area = heap_of plan; blocks = [] }

-- the maps of all modules, and the owners of all words
abbrev pub boot_maps : Said → List (List ℕ) → List (List Perm)
boot_maps plan images =
    list_map (λ grants. map grants (ram_words plan)) (boot_grants plan images)

abbrev pub boot_owners : Said → List (List ℕ) → List ℕ
boot_owners plan images = owners (boot_gives plan images) (ram_words plan)

-- all parts
abbrev pub boot_parts : Said → List (List ℕ) → List (List ℕ) → Parts
boot_parts plan images inputs = record {
  kind = plan.tables;
  maps = boot_maps plan images;
  size = ram_words plan;
  limit = limit_of plan;
  buffer = plan.lookaside;
  harts = new_harts (length plan.harts);
  ram = boot_ram plan images inputs;
  owners = boot_owners plan images;
  gates = list_map gate_of (requests plan images);
  heaps = list_map heap_state plan.modules;
}
