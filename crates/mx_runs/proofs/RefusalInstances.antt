-- Refused calls, worked: the turns of refused calls, and answers that look like codes.
use Rattle.std.proofs.Common.{◌≡◌, ℕ, ◌^◌, ◌-◌, false, List, [], ◌∷◌, refl, lit≤, None}
use Rattle.mx_words.specs.declared.perm.Perm.TheVariants as P
use Rattle.mx_words.specs.Bytes.{cleared_at, number_at, put_at}
use Rattle.mx_words.specs.Hearing.{nobody}
use Rattle.mx_isa.specs.Fields.{extended, imm_b, imm_i, imm_j, imm_s, imm_u}
use Rattle.mx_isa.specs.Table.{decoded}
use Rattle.mx_model.specs.declared.values.Call.{Call}
use Rattle.mx_model.specs.Effect.{effect, holds, imm_result, loaded, reg_result}
use Rattle.mx_model.specs.Reads.{reads}
use Rattle.mx_model.specs.Run.{turn}
use Rattle.mx_model.specs.Serve.{code, serve}
use Rattle.mx_model.specs.State.{Halted, Running, State, Status, Waiting, cache_at, hart_at, no_module}
use Rattle.mx_model.specs.Turn.{call_of}
use Rattle.mx_model.proofs.Boots.{regs_with}
use Rattle.mx_model.proofs.Smalls.{call, give, grant, hart_of, small}
use Rattle.mx_runs.specs.Refusals.{IsRefused, LeavesRefused, RefusesTurn, RunsOnWithCode, refusal}

-- module 1 at an ECALL, with these registers; it owns word 16. A second hart is halted.
abbrev asking : List (ℕ × ℕ) → Status → State
asking regs status =
    small ((0, 0x00000073) ∷ []) (no_module ∷ []) ((grant 0 2 P.ExecuteRead ∷ []) ∷ []) (give 16 1 1 ∷ []) []
    (hart_of 1 0x80000000 (regs_with regs) [] status ∷ hart_of 1 0x80000000 (regs_with []) [] (Halted None) ∷ []) 8

-- an ungate of word 16, for which no gate stands, is refused by its fourth test: its hart runs on with -15, and
-- nothing else changes but its caches
abbrev ungate : State
ungate = asking ((17, 9) ∷ (10, 0x80000040) ∷ (11, 1) ∷ []) Running

ungate-runs_on : RunsOnWithCode (reads ungate) ungate.core 0 (code 15)
unfolding decoded effect holds imm_result reg_result loaded number_at put_at cleared_at imm_i imm_s imm_b imm_u imm_j extended
ungate-runs_on = record { called = refl; running = refl; x10 = refl; code = lit≤ tt }

ungate-refused : RefusesTurn (reads ungate) ungate.core 0 (code 15)
unfolding decoded effect holds imm_result reg_result loaded number_at put_at cleared_at imm_i imm_s imm_b imm_u imm_j extended
ungate-refused =
    record { call = call_of 0 (hart_at ungate.core 0); effect = refl; row = 15; fails = refl; answer = refl }

ungate-leaves : LeavesRefused (reads ungate) ungate.core 0 (code 15)
unfolding decoded effect holds imm_result reg_result loaded number_at put_at cleared_at imm_i imm_s imm_b imm_u imm_j extended
ungate-leaves = record {
  cache = cache_at (turn ungate 0).core 0;
  core = refl;
  no_change = refl;
  no_give = refl;
  no_byte = refl;
  no_note = refl;
}

-- a free of an address that is no word, on which its hart has waited, is refused by its first test when it takes effect
abbrev freeing : List (ℕ × ℕ)
freeing = (17, 7) ∷ (10, 0x80000042) ∷ []

abbrev free : State
free = asking freeing (Waiting (call_of 0 (hart_of 1 0x80000000 (regs_with freeing) [] Running)) nobody)

free-runs_on : RunsOnWithCode (reads free) free.core 0 (code 8)
unfolding decoded effect holds imm_result reg_result loaded number_at put_at cleared_at imm_i imm_s imm_b imm_u imm_j extended
free-runs_on = record { called = refl; running = refl; x10 = refl; code = lit≤ tt }

free-leaves : LeavesRefused (reads free) free.core 0 (code 8)
unfolding decoded effect holds imm_result reg_result loaded number_at put_at cleared_at imm_i imm_s imm_b imm_u imm_j extended
free-leaves = record {
  cache = cache_at (turn free 0).core 0;
  core = refl;
  no_change = refl;
  no_give = refl;
  no_byte = refl;
  no_note = refl;
}

-- a write that begins where the caller may read and ends where it may not is refused by its third test, after its looks
abbrev writing : Call
writing = call 2 (0x80000004 ∷ 8 ∷ 0 ∷ 0 ∷ []) 0 1 false

write-refused : IsRefused (reads ungate) ungate.core writing 12
unfolding number_at put_at cleared_at
write-refused = record {
  least = lit≤ tt;
  most = lit≤ tt;
  answer = refl;
  no_second = refl;
  runs_on = refl;
  no_change = refl;
  no_give = refl;
  no_byte = refl;
  cache = cache_at (serve (reads ungate) ungate.core writing).core 0;
  core = refl;
}

write-looks : (cache_at (serve (reads ungate) ungate.core writing).core 0).walks ≡ 2
unfolding number_at put_at cleared_at
write-looks = refl

-- an exit with -1 isn't refused: it ends its hart
exit-answers : (serve (reads ungate) ungate.core (call 1 (0xFFFFFFFF ∷ 0 ∷ 0 ∷ 0 ∷ []) 0 1 false)).a0 ≡ code 1
unfolding number_at put_at cleared_at
exit-answers = refl

exit-unrefused : refusal (reads ungate) ungate.core (call 1 (0xFFFFFFFF ∷ 0 ∷ 0 ∷ 0 ∷ []) 0 1 false) ≡ None
exit-unrefused = refl

-- of a domain with such a number, which no valid state has, an answer that isn't refused is a code
self-answers : (serve (reads ungate) ungate.core (call 12 [] 0 (2 ^ 32 - 1) false)).a0 ≡ code 1
unfolding number_at put_at cleared_at
self-answers = refl

self-unrefused : refusal (reads ungate) ungate.core (call 12 [] 0 (2 ^ 32 - 1) false) ≡ None
self-unrefused = refl
