-- Two machines side by side in which a hart sees the same, and what one turn of it makes in both.
-- The rules: docs/MACHINE.md, "Agreement".
use Rattle.std.specs.Prelude.{◌≡◌, ℕ, ◌%◌, ◌≤◌, List, length}
use Rattle.mx_words.specs.Bytes.{put_at}
use Rattle.mx_model.specs.Agreement.{Agrees, Nothing, agree, border, flat_agree}
use Rattle.mx_model.specs.Reads.{Reads, reads, flat_reads}
use Rattle.mx_model.specs.Run.{turn, flat_turn}
use Rattle.mx_model.specs.State.{Core, Running, State, Flat, hart_at}
use Rattle.mx_laws.specs.After.{core_after}

-- hart h runs
abbrev pub IsRunning : Core → ℕ → Type 0
IsRunning c h = (hart_at c h).status ≡ Running

-- two states, each with what it answers of rights, of as many words of RAM, that agree for hart h, which is at a multiple of 4
pub record AreTwins (r : Reads) (c : Core) (q : Reads) (e : Core) (h : ℕ) : Type 0 where
  pub words : c.size ≡ e.size
  pub bytes : length c.ram ≡ length e.ram
  pub aligned : (hart_at c h).pc % 4 ≡ 0
  pub agreement : Agrees r c q e h

-- such states in which hart h runs and meets no border
pub record AreFreeTwins (r : Reads) (c : Core) (q : Reads) (e : Core) (h : ℕ) : Type 0 where
  pub twins : AreTwins r c q e h
  pub running : IsRunning c h
  pub free : border r c h ≡ Nothing

-- one store of the low `size` bytes of a value at a place in RAM; of no bytes where nothing is written
pub record Store : Type 0 where
  pub place : ℕ
  pub size : ℕ
  pub value : ℕ

-- RAM after a store
abbrev pub stored : List ℕ → Store → List ℕ
stored ram s = put_at ram s.place s.size s.value

-- a turn of hart h makes one and the same store of at most four bytes in both
pub record MakeOneStore (r : Reads) (c : Core) (q : Reads) (e : Core) (h : ℕ) : Type 0 where
  pub store : Store
  pub few : store.size ≤ 4
  pub first : (core_after r c h).ram ≡ stored c.ram store
  pub second : (core_after q e h).ram ≡ stored e.ram store

-- such twins of states and of flat states, and agreement after a turn of hart h in both
abbrev pub free_twins : State → State → ℕ → Type 0
free_twins s t h = AreFreeTwins (reads s) s.core (reads t) t.core h

abbrev pub flat_free_twins : Flat → Flat → ℕ → Type 0
flat_free_twins s t h = AreFreeTwins (flat_reads s) s.core (flat_reads t) t.core h

abbrev pub agree_after : State → State → ℕ → ℕ → Type 0
agree_after s t h g = agree (turn s h) (turn t h) g

abbrev pub flat_agree_after : Flat → Flat → ℕ → ℕ → Type 0
flat_agree_after s t h g = flat_agree (flat_turn s h) (flat_turn t h) g
