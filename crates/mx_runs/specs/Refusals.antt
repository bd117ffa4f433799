-- Refused calls: the tests of each call with their codes, in order, and what a refused one leaves.
-- The rules: docs/MACHINE.md, "Supervisor calls".
use Rattle.std.specs.Prelude.{◌≡◌, ◌↔◌, ℕ, ◌≤◌, false, List, [], slice_set, if◌then◌else◌, Option, Some, None, is_none}
use Rattle.mx_words.specs.Caches.{Cache}
use Rattle.mx_words.specs.FirstRow.{Row, first_row}
use Rattle.mx_model.specs.declared.values.Call.{Call}
use Rattle.mx_model.specs.declared.values.TurnKind.TheVariants as T
use Rattle.mx_model.specs.Effect.{next, reg}
use Rattle.mx_model.specs.Reads.{Reads}
use Rattle.mx_model.specs.Serve.{Service, code, serve, service}
use Rattle.mx_model.specs.Table.{sight_of, tests}
use Rattle.mx_model.specs.State.{Core, Running, hart_at, with_cache}
use Rattle.mx_model.specs.Turn.{Action, Asks, Serves, counted, decide, heard_first, is_served_now, turned}
use Rattle.mx_laws.specs.After.{hart_after, kind_of}

-- the tests of a call, in order: whether each fails, and the code that it then gives
abbrev pub rows_of : Service → Reads → Core → Call → List (Row ℕ)
rows_of which r c call = tests which (sight_of r c) call

-- the code of the first test that fails
abbrev pub refusal : Reads → Core → Call → Option ℕ
refusal r c call = first_row (rows_of (service call.number) r c call)

-- a refused call answers its code, one of -1 to -15, makes nothing else, and leaves the state but for the caches of
-- its hart
pub record IsRefused (r : Reads) (c : Core) (call : Call) (n : ℕ) : Type 0 where
  pub least : 1 ≤ n
  pub most : n ≤ 15
  pub answer : (serve r c call).a0 ≡ code n
  pub no_second : (serve r c call).a1 ≡ None
  pub runs_on : (serve r c call).stop ≡ false
  pub no_change : (serve r c call).change ≡ None
  pub no_give : (serve r c call).give ≡ None
  pub no_byte : (serve r c call).console ≡ []
  pub cache : Cache
  pub core : (serve r c call).core ≡ with_cache call.hart cache c

-- a number is 2 ^ 32 - 15 or more: of the numbers of a register, one of the codes of -1 to -15
abbrev pub IsCode : ℕ → Type 0
IsCode n = code 15 ≤ n

-- a call that ends no hart answers such a code
pub record AnswersCode (r : Reads) (c : Core) (call : Call) : Type 0 where
  pub runs_on : (serve r c call).stop ≡ false
  pub answer : IsCode (serve r c call).a0

-- that is exactly where one of its tests fails
abbrev pub TellsRefusal : Reads → Core → Call → Type 0
TellsRefusal r c call = AnswersCode r c call ↔ (is_none (refusal r c call) ≡ false)

-- the turn of hart h is a call after which the hart runs, with a code in x10
pub record RunsOnWithCode (r : Reads) (c : Core) (h n : ℕ) : Type 0 where
  pub called : kind_of r c h ≡ T.Called
  pub running : (hart_after r c h).status ≡ Running
  pub x10 : reg (hart_after r c h).regs 10 ≡ n
  pub code : IsCode n

-- the state in which hart h acts in its turn: the turn is counted, and the others' calls are heard
abbrev pub acting : Core → ℕ → Core
acting c h = heard_first (counted c) h

-- that state, but that hart h runs on at pc + 4 with a number in x10, and has other caches
abbrev pub runs_on_with : Core → ℕ → ℕ → Cache → Core
runs_on_with c h n cache =
    let x = hart_at c h in
    record c {
      harts = slice_set c.harts h
          (record x { regs = slice_set x.regs 10 n; pc = next x.pc; status = Running });
      caches = slice_set c.caches h cache;
    }

-- what the turn of a refused call leaves
pub record LeavesRefused (r : Reads) (c : Core) (h n : ℕ) : Type 0 where
  pub cache : Cache
  pub core : (turned r c h).core ≡ runs_on_with (acting c h) h n cache
  pub no_change : (turned r c h).change ≡ None
  pub no_give : (turned r c h).give ≡ None
  pub no_byte : (turned r c h).console ≡ []
  pub no_note : (turned r c h).note ≡ None

-- the call that takes effect where a hart acts so: the one that it waited on, or one that it makes and that waits for
-- no hearing
abbrev pub effective : Core → ℕ → Action → Option Call
effective c h (Serves call) = Some call
effective c h (Asks call) = if is_served_now c h call then Some call else None
effective c h action = None

-- a call takes effect in the turn of hart h and is refused, with that answer
pub record RefusesTurn (r : Reads) (c : Core) (h n : ℕ) : Type 0 where
  pub call : Call
  pub effect : effective (acting c h) h (decide r (acting c h) h).action ≡ Some call
  pub row : ℕ
  pub fails : refusal r (acting c h) call ≡ Some row
  pub answer : n ≡ code row
