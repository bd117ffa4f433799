-- Worked examples of states that are the same, and of a run that is taken up, computed.
use Rattle.std.proofs.Common.{◌≡◌, ℕ, zero, suc, [], ◌∷◌, refl, ap, arith, Some, None}
use Rattle.std.proofs.Common.{map as list_map}
use Rattle.mx_words.specs.Bytes.{number_at, put_at, cleared_at}
use Rattle.mx_words.specs.Caches.{Cache, no_cache}
use Rattle.mx_isa.specs.Fields.{imm_i, imm_s, imm_b, imm_u, imm_j, extended}
use Rattle.mx_isa.specs.Table.{decoded}
use Rattle.mx_model.specs.declared.values.Note.TheVariants as N
use Rattle.mx_model.specs.Effect.{holds, imm_result, reg_result, loaded, effect}
use Rattle.mx_model.specs.Run.{ByQuantum, run}
use Rattle.mx_model.specs.State.{State, Flat, Status, Running, Halted, flat, hart_at, with_hart}
use Rattle.mx_model.proofs.Boots.{one_module}
use Rattle.mx_snapshot.specs.Same.{bare, AreSame, TakesUp}

-- three words: a7 = 1, a0 = 5, exit
abbrev three : State
three = one_module (0x00100893 ∷ 0x00500513 ∷ 0x00000073 ∷ [])

-- a state as a snapshot gives it back: no exit codes, empty caches, no console bytes and no notes
abbrev taken_up : State → State
taken_up s = record {
  core = record (bare s.core) { caches = list_map (λ (cache : Cache). no_cache) s.core.caches };
  grants = s.grants;
  gives = s.gives;
  console = [];
  notes = [];
}

-- after one step, and after the exit
one-taken-up : TakesUp (run (ByQuantum 1) 1 three) (taken_up (run (ByQuantum 1) 1 three))
unfolding decoded effect holds imm_result reg_result loaded number_at put_at cleared_at imm_i imm_s imm_b imm_u imm_j extended
one-taken-up = record { same = refl; console = refl; notes = refl }

all-taken-up : TakesUp (run (ByQuantum 1) 10 three) (taken_up (run (ByQuantum 1) 10 three))
unfolding decoded effect holds imm_result reg_result loaded number_at put_at cleared_at imm_i imm_s imm_b imm_u imm_j extended
all-taken-up = record { same = refl; console = refl; notes = refl }

-- the state after the exit was halted by code 5, which isn't kept
abbrev status : State → Status
status s = (hart_at s.core 0).status

exit-code : status (run (ByQuantum 1) 10 three) ≡ Halted (Some 5)
unfolding decoded effect holds imm_result reg_result loaded number_at put_at cleared_at imm_i imm_s imm_b imm_u imm_j extended
exit-code = refl

no-exit-code : status (taken_up (run (ByQuantum 1) 10 three)) ≡ Halted None
unfolding decoded effect holds imm_result reg_result loaded number_at put_at cleared_at imm_i imm_s imm_b imm_u imm_j extended
no-exit-code = refl

-- one step, taken up for nine more, gives the note of the whole run
rest-of-three : (run (ByQuantum 1) 9 (taken_up (run (ByQuantum 1) 1 three))).notes ≡ N.Exit 3 0 1 5 ∷ []
unfolding decoded effect holds imm_result reg_result loaded number_at put_at cleared_at imm_i imm_s imm_b imm_u imm_j extended
rest-of-three = refl

-- states of other numbers of turns aren't the same, nor a running hart and a halted one
abbrev with_turns : ℕ → State
with_turns n = record three { core = record three.core { turns = n } }

one-two : suc zero ≡ suc (suc zero) → ⊥
one-two e = omega (arith, e)

other-turns : AreSame (flat (with_turns 1)) (flat (with_turns 2)) → ⊥
other-turns e = one-two (ap (λ (f : Flat). f.core.turns) e)

abbrev with_status : Status → State
with_status st = record three { core = with_hart 0 (record (hart_at three.core 0) { status = st }) three.core }

running-halted : Running ≡ Halted None → ⊥
running-halted e = let z : ⊥ = cc in z

other-status : AreSame (flat (with_status Running)) (flat (with_status (Halted None))) → ⊥
other-status e = running-halted (ap (λ (f : Flat). (hart_at f.core 0).status) e)
