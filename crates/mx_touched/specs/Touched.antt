-- What a turn of a hart touches of what agreement reads, by what the turn was and by what stands at its hart before it: words whose bytes
-- or rights it may change, words at which it may change a gate, and whether its hart's domain may die.
-- The rules: docs/MACHINE.md, "One turn", "Faults" and "Supervisor calls".
use Rattle.std.specs.Prelude.{ℕ, ◌+◌, ◌≤◌, Bool, true, false}
use Rattle.std.specs.Option.{option_map_or}
use Rattle.mx_words.specs.FirstFit.{Area}
use Rattle.mx_words.specs.Ranges.{covers, word_of}
use Rattle.mx_isa.specs.declared.inst.Inst.{Inst}
use Rattle.mx_isa.specs.declared.inst.Inst.TheVariants.{Store}
use Rattle.mx_model.specs.declared.values.Call.{Call}
use Rattle.mx_model.specs.declared.values.TurnKind.{TurnKind}
use Rattle.mx_model.specs.declared.values.TurnKind.TheVariants as T
use Rattle.mx_model.specs.Checks.{arg}
use Rattle.mx_model.specs.Effect.{plus, reg}
use Rattle.mx_model.specs.Reads.{Reads}
use Rattle.mx_model.specs.Serve.{Service, Grant, RevokeAll, Alloc, Free, AddGate, RemoveGate, AddReturnGate, Exchange, arg_range, service}
use Rattle.mx_model.specs.State.{Core, Hart, hart_at, module_at}
use Rattle.mx_model.specs.Turn.{call_of}
use Rattle.mx_laws.specs.After.{kind_of}
use Rattle.mx_laws.specs.Standing.{standing_inst}

-- words by what of them may change, and whether the hart's domain may die
pub record Touched : Type 0 where
  pub bytes : Area
  pub rights : Area
  pub gates : Area
  pub death : Bool

-- no words; the words of a range; and the word of RAM that holds an address, none outside RAM
abbrev pub no_words : Area
no_words = record { first = 0; count = 0 }

abbrev pub range_area : ℕ × ℕ → Area
range_area range = record { first = range.0; count = range.1 }

abbrev pub word_area : ℕ → ℕ → Area
word_area address size =
    option_map_or (λ w. record { first = w; count = 1 }) (word_of address size) no_words

-- whether a word is one of an area
abbrev pub is_among : Area → ℕ → Bool
is_among area w = covers area.first area.count w

-- nothing is touched
abbrev pub untouched : Touched
untouched = record { bytes = no_words; rights = no_words; gates = no_words; death = false }

-- an instruction: the word that it stores to
abbrev pub stored_by : Core → Hart → Inst → Area
stored_by c x (Store width rs1 rs2 imm) = word_area (plus (reg x.regs rs1) imm) c.size
stored_by c x inst = no_words

-- the word that the instruction at hart h's pc stores to
abbrev pub stored_at : Reads → Core → ℕ → Area
stored_at r c h = option_map_or (stored_by c (hart_at c h)) (standing_inst r c h) no_words

-- a call of each kind: rights in the range of a0 and a1; bytes and rights in the caller's heap area; rights there; a gate at the word of
-- a0;
-- and the bytes of that word
abbrev pub touched_by : Service → Core → Call → Touched
touched_by Grant c call = record untouched { rights = range_area (arg_range c call) }
touched_by RevokeAll c call = record untouched { rights = range_area (arg_range c call) }
touched_by Alloc c call =
    let heap = (module_at c call.domain).heap in record untouched { bytes = heap; rights = heap }
touched_by Free c call = record untouched { rights = (module_at c call.domain).heap }
touched_by AddGate c call = record untouched { gates = word_area (arg call 0) c.size }
touched_by RemoveGate c call = record untouched { gates = word_area (arg call 0) c.size }
touched_by AddReturnGate c call = record untouched { gates = word_area (arg call 0) c.size }
touched_by Exchange c call = record untouched { bytes = word_area (arg call 0) c.size }
touched_by other c call = untouched

-- the call that hart h's registers name
abbrev pub called_at : Core → ℕ → Touched
called_at c h = touched_by (service (reg (hart_at c h).regs 17)) c (call_of h (hart_at c h))

-- a turn of each kind: a store; the death of the hart's domain; a call, or its announcement; and nothing
abbrev pub touched_in : TurnKind → Area → Touched → Touched
touched_in T.Ran stored called = record untouched { bytes = stored }
touched_in T.Trapped stored called = record untouched { death = true }
touched_in T.Called stored called = called
touched_in kind stored called = untouched

-- what a turn of hart h of that kind touches, and what its next turn does
abbrev pub touched_as : TurnKind → Reads → Core → ℕ → Touched
touched_as kind r c h = touched_in kind (stored_at r c h) (called_at c h)

abbrev pub touched : Reads → Core → ℕ → Touched
touched r c h = touched_as (kind_of r c h) r c h

-- the words touched lie in a RAM of so many words
pub record AreIn (size : ℕ) (t : Touched) : Type 0 where
  pub bytes : t.bytes.first + t.bytes.count ≤ size
  pub rights : t.rights.first + t.rights.count ≤ size
  pub gates : t.gates.first + t.gates.count ≤ size
