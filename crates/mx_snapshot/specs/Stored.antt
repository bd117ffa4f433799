-- What a snapshot stores of a machine and its plan: maps and owners as maximal runs, who has heard a call as bits.
-- The rules: docs/COMMANDS.md, "The snapshot".
use Rattle.std.specs.Prelude.{ℕ, ◌+◌, ◌-◌, ◌*◌, Bool, ◌==◌, List, [], ◌∷◌, length, slice_index_or}
use Rattle.std.specs.Prelude.{map as list_map}
use Rattle.std.specs.List.{range_with_len}
use Rattle.mx_words.specs.declared.perm.Perm.{Perm}
use Rattle.mx_words.specs.declared.tables.Kind.{Kind}
use Rattle.mx_words.specs.declared.tables.Need.{Need}
use Rattle.mx_words.specs.Counting.{bit}
use Rattle.mx_words.specs.Rights.{same}
use Rattle.mx_words.specs.Runs.{Run, runs_of}
use Rattle.mx_model.specs.declared.values.Frame.{Frame}
use Rattle.mx_model.specs.declared.values.Gate.{Gate}
use Rattle.mx_model.specs.Reads.{map_in}
use Rattle.mx_model.specs.State.{Hart, Module, Status, Running, Waiting, Halted, Flat, module_at}
use Rattle.mx_machine.specs.declared.views.HartStatus.{HartStatus}
use Rattle.mx_machine.specs.Readings.{status_told}
use Rattle.mx_snapshot.specs.Kept.{KeptPlan}

-- the numbers at the head: words of RAM, kind of tables and their limit, size of a lookaside buffer, quantum, how many modules and
-- harts there are, and how many turns were made
pub record Head : Type 0 where
  pub words : ℕ
  pub kind : Kind
  pub limit : Need
  pub lookaside : ℕ
  pub quantum : ℕ
  pub modules : ℕ
  pub harts : ℕ
  pub turns : ℕ

-- a module: its name, what the state keeps of it, and the maximal runs of its map
pub record StoredModule : Type 0 where
  pub name : List ℕ
  pub home : Module
  pub map : List (Run Perm)

-- a hart: its status without a call and an exit code, and of a call on which it waits who has heard it, bit i being hart i's
pub record StoredHart : Type 0 where
  pub status : HartStatus
  pub domain : ℕ
  pub pc : ℕ
  pub regs : List ℕ
  pub frames : List Frame
  pub heard : ℕ

-- all of it: modules in order, the maximal runs of owner, gates in their list's order, harts from 0 on, and RAM's bytes
pub record Stored : Type 0 where
  pub head : Head
  pub modules : List StoredModule
  pub owners : List (Run ℕ)
  pub gates : List Gate
  pub harts : List StoredHart
  pub ram : List ℕ

-- the number whose bit i is that at place i
abbrev pub bits_of : List Bool → ℕ
bits_of [] = 0
bits_of (b ∷ bs) = bit b + 2 * bits_of bs

-- who has heard the call of a status; nobody where there is none
abbrev pub heard_of : Status → ℕ
heard_of Running = 0
heard_of (Waiting call heard) = bits_of heard
heard_of (Halted code) = 0

abbrev pub stored_hart : Hart → StoredHart
stored_hart hart = record {
  status = status_told hart.status;
  domain = hart.domain;
  pc = hart.pc;
  regs = hart.regs;
  frames = hart.frames;
  heard = heard_of hart.status;
}

-- a run of so many equal values
abbrev pub run_with : {A : Type 0} → ℕ → A → Run A
run_with count value = record { count = count; value = value }

-- the maximal runs of domain d's map, and those of the owners
abbrev pub perm_runs_of : Flat → ℕ → List (Run Perm)
perm_runs_of f d = runs_of same (map_in f.core.size f.maps d)

abbrev pub owner_runs_of : Flat → List (Run ℕ)
owner_runs_of f = runs_of (λ a b. a == b) f.owners

-- module d, under a name
abbrev pub stored_module : List ℕ → Flat → ℕ → StoredModule
stored_module name f d = record {
  name = name;
  home = module_at f.core d;
  map = perm_runs_of f d;
}

abbrev pub head_of : KeptPlan → Flat → Head
head_of kept f = record {
  words = f.core.size;
  kind = f.core.kind;
  limit = f.core.limit;
  lookaside = f.core.buffer;
  quantum = kept.quantum;
  modules = length f.core.modules;
  harts = length f.core.harts;
  turns = f.core.turns;
}

-- each module under the name that is kept of a plan
abbrev pub named_module : List (List ℕ) → Flat → ℕ → StoredModule
named_module names f d = stored_module (slice_index_or names (d - 1) []) f d

-- what a snapshot stores of a flat state: quantum and names are those that are kept of a plan, all else is the state's
abbrev pub stored_of : KeptPlan → Flat → Stored
stored_of kept f = record {
  head = head_of kept f;
  modules = list_map (named_module kept.names f) (range_with_len 1 (length f.core.modules));
  owners = owner_runs_of f;
  gates = f.core.gates;
  harts = list_map stored_hart f.core.harts;
  ram = f.core.ram;
}
