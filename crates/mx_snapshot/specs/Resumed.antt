-- The state and the plan that a snapshot gives back: a grant for each run of permission and a give for each run of owner, a waiting
-- hart's call by its registers, empty caches, no exit codes, no console bytes and no notes.
-- The rules: docs/COMMANDS.md, "The snapshot".
use Rattle.std.specs.Prelude.{ℕ, ◌+◌, List, [], ◌∷◌, None}
use Rattle.std.specs.Prelude.{map as list_map}
use Rattle.std.specs.List.{enumerate_from, range_with_len}
use Rattle.mx_words.specs.Caches.{no_cache}
use Rattle.mx_words.specs.Hearing.{most_harts}
use Rattle.mx_words.specs.Newest.{Laid}
use Rattle.mx_words.specs.Runs.{Run}
use Rattle.mx_model.specs.State.{Core, Hart, Status, Running, Waiting, Halted, State}
use Rattle.mx_model.specs.Turn.{call_of}
use Rattle.mx_machine.specs.declared.views.HartStatus.{HartStatus}
use Rattle.mx_machine.specs.declared.views.HartStatus.TheVariants as V
use Rattle.mx_snapshot.specs.Kept.{KeptPlan}
use Rattle.mx_snapshot.specs.Rules.{has_bit}
use Rattle.mx_snapshot.specs.Stored.{Stored, StoredHart, StoredModule}

-- runs of which the first begins at a word, each laid over its words
abbrev pub laid_runs : {A : Type 0} → ℕ → List (Run A) → List (Laid A)
laid_runs first [] = []
laid_runs first (r ∷ rs) =
    record { first = first; count = r.count; value = r.value } ∷ laid_runs (first + r.count) rs

-- a hart that runs with what is stored
abbrev pub running : StoredHart → Hart
running x = record {
  regs = x.regs;
  pc = x.pc;
  domain = x.domain;
  frames = x.frames;
  status = Running;
}

-- the status of hart h
abbrev pub status_in : ℕ → StoredHart → HartStatus → Status
status_in h x V.Running = Running
status_in h x V.Waiting =
    Waiting (call_of h (running x)) (list_map (has_bit x.heard) (range_with_len 0 most_harts))
status_in h x V.Halted = Halted None

abbrev pub hart_in_state : ℕ × StoredHart → Hart
hart_in_state p = record (running p.1) { status = status_in p.0 p.1 p.1.status }

abbrev pub core_of : Stored → Core
core_of s = record {
  ram = s.ram;
  modules = list_map (λ (m : StoredModule). m.home) s.modules;
  gates = s.gates;
  harts = list_map hart_in_state (enumerate_from 0 s.harts);
  caches = list_map (λ (x : StoredHart). no_cache) s.harts;
  turns = s.head.turns;
  size = s.head.words;
  kind = s.head.kind;
  limit = s.head.limit;
  buffer = s.head.lookaside;
}

abbrev pub state_of : Stored → State
state_of s = record {
  core = core_of s;
  grants = list_map (λ (m : StoredModule). laid_runs 0 m.map) s.modules;
  gives = laid_runs 0 s.owners;
  console = [];
  notes = [];
}

-- what it keeps of a plan
abbrev pub plan_of : Stored → KeptPlan
plan_of s = record {
  kind = s.head.kind;
  limit = s.head.limit;
  lookaside = s.head.lookaside;
  quantum = s.head.quantum;
  names = list_map (λ (m : StoredModule). m.name) s.modules;
}
