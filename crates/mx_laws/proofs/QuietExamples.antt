-- Worked examples of quiet turns, computed: one of each quiet kind, what it leaves, and turns that tell.
use Rattle.std.proofs.Common.{◌≡◌, ℕ, true, false, List, [], ◌∷◌, refl}
use Rattle.std.proofs.Common.{map as list_map}
use Rattle.std.specs.Prelude.{None}
use Rattle.mx_words.specs.declared.perm.Perm.TheVariants as P
use Rattle.mx_words.specs.Bytes.{number_at, put_at}
use Rattle.mx_words.specs.Hearing.{nobody}
use Rattle.mx_isa.specs.Fields.{imm_i, imm_s, imm_b, imm_u, imm_j, extended}
use Rattle.mx_isa.specs.Table.{decoded}
use Rattle.mx_model.specs.Effect.{effect, holds, imm_result, loaded, reg_result}
use Rattle.mx_model.specs.Agreement.{Standing, Runs, Waits, Ended}
use Rattle.mx_model.specs.declared.values.TurnKind.TheVariants as T
use Rattle.mx_model.specs.Run.{flat_turn, made_of, turn}
use Rattle.mx_model.specs.State.{State, Halted, Running, Waiting, flat, no_module}
use Rattle.mx_model.proofs.Boots.{regs_with}
use Rattle.mx_model.proofs.Smalls.{call, gate, give, grant, hart_of, kinds, small}
use Rattle.mx_laws.specs.After.{standing_at}
use Rattle.mx_laws.specs.Quiet.{AddedNothing, AddsNothing, AreQuiet, SameEnd, SameRights, may_tell, row}

-- hart 0 goes by ADDI at word 0 and a jump at word 1 to a gate at word 4 into domain 2, whose JALR at word 4 returns;
-- hart 1 waits on a revoke_all of word 8 that hart 0 hears; hart 2 is halted
abbrev quiet : State
quiet = small ((0, 0x00128293) ∷ (1, 0x00C000EF) ∷ (2, 0x00000073) ∷ (4, 0x00008067) ∷ []) (no_module ∷ no_module ∷ [])
    ((grant 0 8 P.ExecuteRead ∷ []) ∷ (grant 4 1 P.ExecuteRead ∷ []) ∷ []) (give 8 1 1 ∷ [])
    (gate 1 4 2 ∷ gate 2 4 2 ∷ [])
    (hart_of 1 0x80000000 (regs_with []) [] Running
    ∷ hart_of 1 0x80000008 (regs_with []) [] (Waiting (call 4 (0x80000020 ∷ 4 ∷ 0 ∷ 0 ∷ []) 1 1 false) nobody)
    ∷ hart_of 1 0x80000000 (regs_with []) [] (Halted None) ∷ []) 8

-- every quiet kind, in this order of harts, before the call takes effect: its caller waits until the running hart has
-- heard it
abbrev order : List ℕ
order = 1 ∷ 0 ∷ 2 ∷ 0 ∷ 0 ∷ 0 ∷ []

every-quiet-kind : kinds order quiet ≡ T.Waited ∷ T.Ran ∷ T.Idle ∷ T.Ran ∷ T.Crossed ∷ T.Returned ∷ []
unfolding decoded effect holds imm_result reg_result loaded number_at put_at imm_i imm_s imm_b imm_u imm_j extended
every-quiet-kind = refl

told-by-kind : list_map may_tell (T.Idle ∷ T.Waited ∷ T.Ran ∷ T.Crossed ∷ T.Returned ∷ T.Trapped ∷ T.Called ∷ [])
    ≡ false ∷ false ∷ false ∷ false ∷ false ∷ true ∷ true ∷ []
told-by-kind = refl

-- the whole row is quiet, and what it leaves
row-is-quiet : AreQuiet order quiet
unfolding decoded effect holds imm_result reg_result loaded number_at put_at imm_i imm_s imm_b imm_u imm_j extended
row-is-quiet = (refl, (refl, (refl, (refl, (refl, (refl, tt))))))

abbrev standings : State → List Standing
standings s = list_map (standing_at s.core) (0 ∷ 1 ∷ 2 ∷ [])

row-leaves : AddedNothing quiet (row order quiet)
unfolding decoded effect holds imm_result reg_result loaded number_at put_at imm_i imm_s imm_b imm_u imm_j extended
row-leaves = record { grants = refl; gives = refl; console = refl; notes = refl }

row-stands : standings (row order quiet) ≡ standings quiet
unfolding decoded effect holds imm_result reg_result loaded number_at put_at imm_i imm_s imm_b imm_u imm_j extended
row-stands = refl

standings-of-quiet : standings quiet ≡ Runs ∷ Waits ∷ Ended ∷ []
standings-of-quiet = refl

row-ends : SameEnd quiet.core (row order quiet).core
unfolding decoded effect holds imm_result reg_result loaded number_at put_at imm_i imm_s imm_b imm_u imm_j extended
row-ends = refl

-- one turn
one-adds : AddsNothing (made_of quiet 0)
unfolding decoded effect holds imm_result reg_result loaded number_at put_at imm_i imm_s imm_b imm_u imm_j extended
one-adds = record { change = refl; give = refl; console = refl; note = refl }

one-state : AddedNothing quiet (turn quiet 0)
unfolding decoded effect holds imm_result reg_result loaded number_at put_at imm_i imm_s imm_b imm_u imm_j extended
one-state = record { grants = refl; gives = refl; console = refl; notes = refl }

one-flat : SameRights (flat quiet) (flat_turn (flat quiet) 0)
unfolding decoded effect holds imm_result reg_result loaded number_at put_at imm_i imm_s imm_b imm_u imm_j extended
one-flat = record { maps = refl; owners = refl }

-- after the row the call takes effect: kind Called, a right changed and its hart awake
call-tells : kinds (1 ∷ []) (row order quiet) ≡ T.Called ∷ []
unfolding decoded effect holds imm_result reg_result loaded number_at put_at imm_i imm_s imm_b imm_u imm_j extended
call-tells = refl

call-wakes : standings (turn (row order quiet) 1) ≡ Runs ∷ Runs ∷ Ended ∷ []
unfolding decoded effect holds imm_result reg_result loaded number_at put_at imm_i imm_s imm_b imm_u imm_j extended
call-wakes = refl
