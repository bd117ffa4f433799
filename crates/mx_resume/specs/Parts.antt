-- The values of the reader's code, as what is stored, and what is stored as these.
use Rattle.std.specs.Prelude.{◌≡◌, ℕ, List}
use Rattle.std.specs.Prelude.{map as list_map}
use Rattle.mx_words.specs.declared.perm.Perm.{Perm}
use Rattle.mx_words.specs.declared.perm.Span.{Span}
use Rattle.mx_words.specs.Newest.{owners}
use Rattle.mx_words.specs.Runs.{Run}
use Rattle.mx_heap.specs.HeapState.{HeapState}
use Rattle.mx_snapshot.specs.Resumed.{laid_runs}
use Rattle.mx_snapshot.specs.Resuming.{dead_in, flights_from, heap_in, spans_in, stack_in, state_in}
use Rattle.mx_snapshot.specs.Stored.{Head, Stored, StoredHart, StoredModule}
use Rattle.mx_resume.specs.declared.building.Held.{Held}
use Rattle.mx_resume.specs.declared.fields.Fields.{Fields}
use Rattle.mx_resume.specs.declared.fields.Others.{Others}
use Rattle.mx_resume.specs.declared.harts.Hart as code_hart
use Rattle.mx_resume.specs.declared.harts.ResumingHarts.{ResumingHarts}
use Rattle.mx_resume.specs.declared.head.Head as code_head
use Rattle.mx_resume.specs.declared.maps.MapRun.{MapRun}
use Rattle.mx_resume.specs.declared.modules.Module.{Module}
use Rattle.mx_resume.specs.declared.modules.Modules.{Modules}
use Rattle.mx_resume.specs.declared.owners.OwnerRun.{OwnerRun}

-- the head as it is stored
abbrev pub head_seen : code_head.Head → Head
head_seen h = record {
  words = h.words;
  kind = h.kind;
  limit = h.limit;
  lookaside = h.lookaside;
  quantum = h.quantum;
  modules = h.modules;
  harts = h.harts;
  turns = h.turns;
}

-- a run of permission, and one of owner
abbrev pub run_seen : MapRun → Run Perm
run_seen r = record { count = r.count; value = r.perm }

abbrev pub owner_run_seen : OwnerRun → Run ℕ
owner_run_seen r = record { count = r.count; value = r.owner }

-- the row of a map's runs
abbrev pub IsRowOf : List (Run Perm) → List Span → Type 0
IsRowOf rs row = row ≡ spans_in 0 rs

-- a module
abbrev pub module_in_code : StoredModule → Module
module_in_code m = record {
  name = m.name;
  heap = heap_in m;
  stack = stack_in m;
  dead = m.home.dead;
  row = spans_in 0 m.map;
}

abbrev pub IsModuleOf : StoredModule → Module → Type 0
IsModuleOf m x = x ≡ module_in_code m

-- the modules
pub record AreModulesOf (ms : List StoredModule) (x : Modules) : Type 0 where
  pub names : x.names.items ≡ list_map (λ (m : StoredModule). m.name) ms
  pub heaps : x.heaps ≡ list_map heap_in ms
  pub stacks : x.stacks ≡ list_map stack_in ms
  pub dead : x.dead ≡ dead_in ms
  pub rows : x.rows.items ≡ list_map (λ (m : StoredModule). spans_in 0 m.map) ms

-- the owners of a RAM of so many words, by their runs
abbrev pub AreOwnersOf : ℕ → List (Run ℕ) → List ℕ → Type 0
AreOwnersOf words rs os = os ≡ owners (laid_runs 0 rs) words

-- a hart
abbrev pub hart_seen : code_hart.Hart → StoredHart
hart_seen x = record {
  status = x.state.status;
  domain = x.state.domain;
  pc = x.state.pc;
  regs = x.state.regs;
  frames = x.state.frames;
  heard = x.heard;
}

-- the harts, in a RAM of so many words with these heaps
abbrev pub harts_in_code : ℕ → List HeapState → List StoredHart → ResumingHarts
harts_in_code words heaps xs =
    record { states = list_map state_in xs; flights = flights_from words heaps 0 xs }

abbrev pub AreHartsOf : ℕ → List HeapState → List StoredHart → ResumingHarts → Type 0
AreHartsOf words heaps xs x = x ≡ harts_in_code words heaps xs

-- all fields
pub record AreFieldsOf (s : Stored) (x : Fields) : Type 0 where
  pub head : head_seen x.head ≡ s.head
  pub modules : AreModulesOf s.modules x.modules
  pub owners : AreOwnersOf s.head.words s.owners x.owners
  pub gates : x.gates ≡ s.gates
  pub harts : AreHartsOf s.head.words (list_map heap_in s.modules) s.harts x.harts
  pub ram : x.ram ≡ s.ram

-- these modules and the other fields
abbrev pub fields_with : Modules → Others → Fields
fields_with modules others = record {
  head = others.head;
  modules = modules;
  owners = others.owners;
  gates = others.gates;
  harts = others.harts;
  ram = others.ram;
}

-- all of them but the modules' names
pub record AreHeldOf (s : Stored) (x : Held) : Type 0 where
  pub head : head_seen x.head ≡ s.head
  pub rows : x.rows.items ≡ list_map (λ (m : StoredModule). spans_in 0 m.map) s.modules
  pub heaps : x.heaps ≡ list_map heap_in s.modules
  pub stacks : x.stacks ≡ list_map stack_in s.modules
  pub dead : x.dead ≡ dead_in s.modules
  pub owners : AreOwnersOf s.head.words s.owners x.owners
  pub gates : x.gates ≡ s.gates
  pub harts : AreHartsOf s.head.words (list_map heap_in s.modules) s.harts x.harts
  pub ram : x.ram ≡ s.ram
