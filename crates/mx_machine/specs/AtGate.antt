-- A hart at a gate.
use Rattle.std.specs.Prelude.{◌≡◌, ℕ, false, slice_index_or, Option, Some, None}
use Rattle.std.specs.Option.{option_map_or}
use Rattle.mx_words.specs.Ranges.{word_of}
use Rattle.mx_model.specs.Gates.{gate_target}
use Rattle.mx_machine.specs.Harts.{hart_among}
use Rattle.mx_machine.specs.Held.{Held}
use Rattle.mx_machine.specs.Ties.{MayRun}

-- the target of the gate that stands for a domain at an address; outside RAM there is none
abbrev pub gate_here : Held → ℕ → ℕ → Option ℕ
gate_here m domain pc =
    option_map_or (gate_target m.parts.gates domain) (word_of pc m.parts.size) None

-- hart h runs in a live domain, and at its pc stands a gate of that domain with a target
pub record IsAtGate (m : Held) (h target : ℕ) : Type 0 where
  pub run : MayRun m h
  pub alive : slice_index_or m.dead (hart_among m.harts h).domain false ≡ false
  pub gate : gate_here m (hart_among m.harts h).domain (hart_among m.harts h).pc ≡ Some target
