-- What a supervisor's parts mean, and the flat state that they are with any harts.
use Rattle.std.specs.Prelude.{◌≡◌, ℕ, ◌+◌, ◌*◌, ◌≤◌, List, [], ◌∷◌, length}
use Rattle.std.specs.Prelude.{map as list_map}
use Rattle.mx_words.specs.declared.perm.Perm.{Perm}
use Rattle.mx_words.specs.declared.tables.Kind.{Kind}
use Rattle.mx_words.specs.declared.tables.Need.{Need}
use Rattle.mx_table.specs.declared.tables.PermTables.{Ghosts}
use Rattle.mx_table.specs.Tables.{map_of, most_modules, most_words, IsDomain}
use Rattle.mx_check.specs.Harts.{Kept}
use Rattle.mx_heap.specs.HeapState.{HeapState}
use Rattle.mx_model.specs.declared.values.Gate.{Gate}
use Rattle.mx_model.specs.State.{Core, Flat, Module, module_at}
use Rattle.mx_supervisor.specs.declared.supervisor.Supervisor.{Supervisor}
use Rattle.mx_supervisor.specs.Heaps.{heap_at}

-- the parts: the kind of tables, one map per module, the number of words of RAM, the tables' limit, the size of the lookaside buffers,
-- what the checker keeps for each hart, RAM's bytes, the owner of each word, the gates, and one heap per module
pub record Parts : Type 0 where
  pub kind : Kind
  pub maps : List (List Perm)
  pub size : ℕ
  pub limit : Need
  pub buffer : ℕ
  pub harts : List Kept
  pub ram : List ℕ
  pub owners : List ℕ
  pub gates : List Gate
  pub heaps : List HeapState

-- the parts of a supervisor, by what its tables mean
abbrev pub parts_of : {T : Type 0} {N : ℕ} → Ghosts T → Supervisor T N → Parts
parts_of {T} {N} tables s = record {
  kind = tables.kind;
  maps = tables.maps s.checker.tables;
  size = tables.size s.checker.tables;
  limit = tables.limits s.checker.tables;
  buffer = N;
  harts = s.checker.harts;
  ram = s.ram;
  owners = s.owners;
  gates = s.gates;
  heaps = s.heaps;
}

-- a module with the area and the live blocks of a heap
abbrev pub with_heap : Module → HeapState → Module
with_heap m heap = record m { heap = heap.area; blocks = heap.blocks }

-- the modules from domain d on
abbrev pub modules_from : Core → ℕ → List HeapState → List Module
modules_from rest d [] = []
modules_from rest d (heap ∷ heaps) =
    with_heap (module_at rest d) heap ∷ modules_from rest (d + 1) heaps

-- the state with these parts: its harts, its turns, and the modules' stack areas, killing and dead ones, are those of another
abbrev pub core_of : Core → Parts → Core
core_of rest p = record rest {
  ram = p.ram;
  modules = modules_from rest 1 p.heaps;
  gates = p.gates;
  caches = list_map (λ (k : Kept). k.cache) p.harts;
  size = p.size;
  kind = p.kind;
  limit = p.limit;
  buffer = p.buffer;
}

abbrev pub flat_of : Core → Parts → Flat
flat_of rest p = record { core = core_of rest p; maps = p.maps; owners = p.owners }

-- parts that belong together: RAM and owners have as many words as the tables, and there is one heap per module, whose area lies in RAM
pub record AreJoined (p : Parts) : Type 0 where
  pub ram : length p.ram ≡ 4 * p.size
  pub owners : length p.owners ≡ p.size
  pub heaps : length p.heaps ≡ length p.maps
  pub areas : (d : ℕ) → (heap_at p.heaps d).area.first + (heap_at p.heaps d).area.count ≤ p.size

-- the same, with what the shape of all tables gives: the maps have the one number of words, and both are within the limits
pub record IsSound (p : Parts) : Type 0 where
  pub few_words : p.size ≤ most_words
  pub few_maps : length p.maps ≤ most_modules
  pub maps : (d : ℕ) → IsDomain p.maps d → length (map_of p.maps d) ≡ p.size
  pub ram : length p.ram ≡ 4 * p.size
  pub owners : length p.owners ≡ p.size
  pub heaps : length p.heaps ≡ length p.maps
  pub areas : (d : ℕ) → (heap_at p.heaps d).area.first + (heap_at p.heaps d).area.count ≤ p.size
