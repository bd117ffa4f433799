-- The parts that a snapshot gives to the machine that goes on: rows of tables, heaps, calls in flight, and what is kept of each hart
-- and module beside them.
use Rattle.std.specs.Prelude.{ℕ, ◌+◌, ◌-◌, Bool, false, List, [], ◌∷◌, ◌++◌, length, replicate, if◌then◌else◌}
use Rattle.std.specs.Prelude.{map as list_map}
use Rattle.std.specs.List.{range_with_len}
use Rattle.mx_words.specs.declared.perm.Perm.{Perm}
use Rattle.mx_words.specs.declared.perm.Perm.TheVariants as P
use Rattle.mx_words.specs.declared.perm.Span.{Span}
use Rattle.mx_words.specs.Announced.{announced}
use Rattle.mx_words.specs.Hearing.{most_harts}
use Rattle.mx_words.specs.Newest.{map, owners}
use Rattle.mx_words.specs.Rights.{same}
use Rattle.mx_words.specs.Runs.{Run}
use Rattle.mx_check.specs.declared.flight.Flight.{Flight}
use Rattle.mx_check.specs.Calls.{waiting_harts}
use Rattle.mx_heap.specs.HeapState.{HeapState}
use Rattle.mx_model.specs.declared.values.Call.{Call}
use Rattle.mx_model.specs.Checks.{arg}
use Rattle.mx_model.specs.State.{most_modules}
use Rattle.mx_model.specs.Turn.{call_of}
use Rattle.mx_supervisor.specs.Heaps.{heap_at}
use Rattle.mx_supervisor.specs.Parts.{Parts}
use Rattle.mx_machine.specs.declared.starts.HartState.{HartState}
use Rattle.mx_machine.specs.declared.starts.StackArea.{StackArea}
use Rattle.mx_machine.specs.declared.views.HartStatus.{HartStatus}
use Rattle.mx_machine.specs.declared.views.HartStatus.TheVariants as V
use Rattle.mx_snapshot.specs.Resumed.{laid_runs, running}
use Rattle.mx_snapshot.specs.Rules.{has_bit}
use Rattle.mx_snapshot.specs.Stored.{Stored, StoredHart, StoredModule}

-- the spans of runs of which the first begins at a word; a run without rights is no span
abbrev pub spans_in : ℕ → List (Run Perm) → List Span
spans_in first [] = []
spans_in first (r ∷ rs) =
    if same r.value P.None then spans_in (first + r.count) rs
    else record { first = first; count = r.count; perm = r.value } ∷ spans_in (first + r.count) rs

-- a module's heap, and its stack area
abbrev pub heap_in : StoredModule → HeapState
heap_in m = record { area = m.home.heap; blocks = m.home.blocks }

abbrev pub stack_in : StoredModule → StackArea
stack_in m = record {
  first = m.home.stack.first;
  words = m.home.stack.words;
  kills = m.home.kills;
}

-- by number which domains are dead; 0 is the supervisor's, and domains above the last module aren't there
abbrev pub dead_in : List StoredModule → List Bool
dead_in modules =
    false ∷ list_map (λ (m : StoredModule). m.home.dead) modules
    ++ replicate (most_modules - length modules) false

-- with what a hart resumes
abbrev pub state_in : StoredHart → HartState
state_in x = record {
  status = x.status;
  domain = x.domain;
  pc = x.pc;
  regs = x.regs;
  frames = x.frames;
}

-- the range that a call may change, in a RAM of `words` words with these heaps
abbrev pub range_in : ℕ → List HeapState → Call → ℕ × ℕ
range_in words heaps call =
    let heap = (heap_at heaps call.domain).area in
    announced call.number (arg call 0) (arg call 1) words (heap.first, heap.count)

-- the call that the registers of hart h make, in flight
abbrev pub flight_in : ℕ → List HeapState → ℕ → StoredHart → Flight
flight_in words heaps h x =
    let range = range_in words heaps (call_of h (running x)) in
    record {
      hart = h;
      first = range.0;
      count = range.1;
      heard = list_map (has_bit x.heard) (range_with_len 0 most_harts);
    }

-- the calls in flight of hart h, by its status: one where it waits
abbrev pub own_flights : ℕ → List HeapState → ℕ → StoredHart → HartStatus → List Flight
own_flights words heaps h x V.Running = []
own_flights words heaps h x V.Waiting = flight_in words heaps h x ∷ []
own_flights words heaps h x V.Halted = []

-- those of the harts from hart h on
abbrev pub flights_from : ℕ → List HeapState → ℕ → List StoredHart → List Flight
flights_from words heaps h [] = []
flights_from words heaps h (x ∷ xs) =
    own_flights words heaps h x x.status ++ flights_from words heaps (h + 1) xs

abbrev pub flights_in : Stored → List Flight
flights_in s = flights_from s.head.words (list_map heap_in s.modules) 0 s.harts

-- the supervisor's parts: nothing is kept of a hart yet but the call on which it waits
abbrev pub parts_in : Stored → Parts
parts_in s = record {
  kind = s.head.kind;
  maps = list_map (λ (m : StoredModule). map (laid_runs 0 m.map) s.head.words) s.modules;
  size = s.head.words;
  limit = s.head.limit;
  buffer = s.head.lookaside;
  harts = waiting_harts (flights_in s) (length s.harts);
  ram = s.ram;
  owners = owners (laid_runs 0 s.owners) s.head.words;
  gates = s.gates;
  heaps = list_map heap_in s.modules;
}
