-- The state of the abstract machine, in which a domain holds only a list of grants, and the flat state, in which maps and owners stand in
-- place of the lists of grants and gives.
-- The rules: docs/MACHINE.md, "Memory, domains, harts".
use Rattle.std.specs.Prelude.{ℕ, ◌-◌, Bool, false, ◌&&◌, nat_le, List, [], length, replicate, slice_index_or, slice_set, Option, None}
use Rattle.std.specs.Prelude.{map as list_map}
pub use Rattle.mx_words.specs.Limits.{most_modules}
use Rattle.mx_words.specs.declared.perm.Perm.{Perm}
use Rattle.mx_words.specs.declared.tables.Kind.{Kind}
use Rattle.mx_words.specs.declared.tables.Need.{Need}
use Rattle.mx_words.specs.Need.{need}
use Rattle.mx_words.specs.Newest.{Grant, Give, map, owners}
use Rattle.mx_words.specs.Caches.{Cache, no_cache}
use Rattle.mx_words.specs.FirstFit.{Area}
use Rattle.mx_model.specs.declared.values.Call.{Call}
use Rattle.mx_model.specs.declared.values.Frame.{Frame}
use Rattle.mx_model.specs.declared.values.Gate.{Gate}
use Rattle.mx_model.specs.declared.values.Note.{Note}

-- the words of a module's stack area: the first, and how many each hart has; none are (0, 0)
pub record Stack : Type 0 where
  pub first : ℕ
  pub words : ℕ

-- a module: its heap area, its live blocks by address, its stack area, whether it is killing, and whether it is dead
pub record Module : Type 0 where
  pub heap : Area
  pub blocks : List Area
  pub stack : Stack
  pub kills : Bool
  pub dead : Bool

-- a hart runs, waits on its announced call with the harts that have heard it, or is halted, with or without an exit code
pub data Status : Type 0 where
  Running : Status
  Waiting : (call : Call) → (heard : List Bool) → Status
  Halted : (code : Option ℕ) → Status

-- a hart: 32 registers, pc, domain, its frames from the bottom to the top, and its status
pub record Hart : Type 0 where
  pub regs : List ℕ
  pub pc : ℕ
  pub domain : ℕ
  pub frames : List Frame
  pub status : Status

-- what both kinds of state have: RAM's bytes, modules 1 to M, gates, harts from 0 on and the caches of each, the number of turns made;
-- and what no turn changes: the number of words of RAM, the kind of tables, their limit and the size of the lookaside buffer
pub record Core : Type 0 where
  pub ram : List ℕ
  pub modules : List Module
  pub gates : List Gate
  pub harts : List Hart
  pub caches : List Cache
  pub turns : ℕ
  pub size : ℕ
  pub kind : Kind
  pub limit : Need
  pub buffer : ℕ

-- a state of the abstract machine
pub record State : Type 0 where
  pub core : Core
  pub grants : List (List Grant)
  pub gives : List Give
  pub console : List ℕ
  pub notes : List Note

-- a flat state
pub record Flat : Type 0 where
  pub core : Core
  pub maps : List (List Perm)
  pub owners : List ℕ

-- the flat state of a state: each list of grants replaced by its map, the gives by the owners, no console bytes and no notes
abbrev pub flat : State → Flat
flat s = record {
  core = s.core;
  maps = list_map (λ grants. map grants s.core.size) s.grants;
  owners = owners s.gives s.core.size;
}

-- what the tables of a state's maps need
abbrev pub map_need : State → Need
map_need s = need s.core.kind (flat s).maps

-- what is read of a module above the last one: it has no areas and is not dead
abbrev pub no_module : Module
no_module = record {
  heap = record { first = 0; count = 0 };
  blocks = [];
  stack = record { first = 0; words = 0 };
  kills = false;
  dead = false;
}

-- a hart that isn't there is halted
abbrev pub no_hart : Hart
no_hart = record { regs = replicate 32 0; pc = 0; domain = 0; frames = []; status = Halted None }

-- module d; modules count from 1, and none is asked for by 0, the supervisor's number
abbrev pub module_at : Core → ℕ → Module
module_at c d = slice_index_or c.modules (d - 1) no_module

abbrev pub with_module : ℕ → Module → Core → Core
with_module d m c = record c { modules = slice_set c.modules (d - 1) m }

-- whether a number is a module's
abbrev pub is_module : Core → ℕ → Bool
is_module c d = nat_le 1 d && nat_le d (length c.modules)

-- hart h; harts count from 0
abbrev pub hart_at : Core → ℕ → Hart
hart_at c h = slice_index_or c.harts h no_hart

abbrev pub with_hart : ℕ → Hart → Core → Core
with_hart h hart c = record c { harts = slice_set c.harts h hart }

-- hart h's caches
abbrev pub cache_at : Core → ℕ → Cache
cache_at c h = slice_index_or c.caches h no_cache

abbrev pub with_cache : ℕ → Cache → Core → Core
with_cache h cache c = record c { caches = slice_set c.caches h cache }
