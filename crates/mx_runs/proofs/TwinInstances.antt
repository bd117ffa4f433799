-- Twin runs, worked: two states that differ in a word that no hart of a set may read go alike up to the turn that loads
-- it.
use Rattle.std.proofs.Common.{◌≡◌, ℕ, zero, suc, ◌%◌, Bool, true, nat_lt, List, [], ◌∷◌, refl, arith}
use Rattle.std.proofs.lemmas.Bool.{ltb-true}
use Rattle.mx_words.specs.declared.perm.Perm.TheVariants as P
use Rattle.mx_words.specs.Bytes.{cleared_at, number_at, put_at}
use Rattle.mx_isa.specs.Fields.{extended, imm_b, imm_i, imm_j, imm_s, imm_u}
use Rattle.mx_isa.specs.Table.{decoded}
use Rattle.mx_model.specs.Agreement.{Border, Trap, agree, border}
use Rattle.mx_model.specs.Effect.{effect, holds, imm_result, loaded, reg_result}
use Rattle.mx_model.specs.Reads.{reads}
use Rattle.mx_model.specs.Run.{ByQuantum, run}
use Rattle.mx_model.specs.State.{Running, State, hart_at, no_module}
use Rattle.mx_model.proofs.Boots.{regs_with}
use Rattle.mx_model.proofs.Smalls.{grant, hart_of, small}
use Rattle.mx_laws.proofs.ComparisonLaws.{agrees-decides, bounded-state}
use Rattle.mx_runs.specs.TwinRuns.{AreFreeTurns, AreTwinStates, GoAlike}
use Rattle.mx_runs.proofs.TwinRunLaws.{twins-run}

-- two harts of one module: each adds 1 to x5, stores it to word 8, and loads word 16, which the module may not read
abbrev sharing : ℕ → State
sharing secret = small ((0, 0x00128293) ∷ (1, 0x00532023) ∷ (2, 0x00042383) ∷ (16, secret) ∷ []) (no_module ∷ [])
    ((grant 0 3 P.ExecuteRead ∷ grant 8 1 P.ReadWrite ∷ []) ∷ []) [] []
    (hart_of 1 0x80000000 (regs_with ((6, 0x80000020) ∷ (8, 0x80000040) ∷ [])) [] Running
    ∷ hart_of 1 0x80000000 (regs_with ((5, 4) ∷ (6, 0x80000020) ∷ (8, 0x80000040) ∷ [])) [] Running ∷ []) 8

-- both harts
abbrev both : ℕ → Bool
both g = nat_lt g 2

agreeing : (g : ℕ) → both g ≡ true → agree (sharing 7) (sharing 8) g
agreeing zero e = (agrees-decides (reads (sharing 7)) (reads (sharing 8)) (sharing 7).core (sharing 8).core 0
    (record { words = refl; first = bounded-state (sharing 7); second = bounded-state (sharing 8) })).0 refl
agreeing (suc zero) e = (agrees-decides (reads (sharing 7)) (reads (sharing 8)) (sharing 7).core (sharing 8).core 1
    (record { words = refl; first = bounded-state (sharing 7); second = bounded-state (sharing 8) })).0 refl
agreeing (suc (suc g)) e = absurd (let l = ltb-true (suc (suc g)) 2 e in let q : ⊥ = omega (arith, l) in q)

straight : (g : ℕ) → both g ≡ true → (hart_at (sharing 7).core g).pc % 4 ≡ 0
straight zero e = refl
straight (suc zero) e = refl
straight (suc (suc g)) e = absurd (let l = ltb-true (suc (suc g)) 2 e in let q : ⊥ = omega (arith, l) in q)

shared : AreTwinStates both (sharing 7) (sharing 8)
shared = record { words = refl; bytes = refl; harts = refl; turns = refl; aligned = straight; agreement = agreeing }

-- four turns, of the two harts in turn, meet no border
free : AreFreeTurns both (ByQuantum 1) (sharing 7) 4
unfolding decoded effect holds imm_result reg_result loaded number_at put_at cleared_at imm_i imm_s imm_b imm_u imm_j extended
free zero l = record { named = refl; inside = refl; running = refl; free = refl }
free (suc zero) l = record { named = refl; inside = refl; running = refl; free = refl }
free (suc (suc zero)) l = record { named = refl; inside = refl; running = refl; free = refl }
free (suc (suc (suc zero))) l = record { named = refl; inside = refl; running = refl; free = refl }
free (suc (suc (suc (suc k)))) l = absurd (let q : ⊥ = omega (arith, l) in q)

abbrev after : ℕ → State
after secret = run (ByQuantum 1) 4 (sharing secret)

alike : GoAlike both (sharing 7) (sharing 8) 4 (after 7) (after 8)
alike = twins-run both (ByQuantum 1) (sharing 7) (sharing 8) 4 shared free

-- then both harts meet the same border in both, and the word that they share is what the later store made it
abbrev borders : State → List Border
borders s = border (reads s) s.core 0 ∷ border (reads s) s.core 1 ∷ []

first-borders : borders (after 7) ≡ Trap 5 0x80000040 ∷ Trap 5 0x80000040 ∷ []
unfolding decoded effect holds imm_result reg_result loaded number_at put_at cleared_at imm_i imm_s imm_b imm_u imm_j extended
first-borders = refl

second-borders : borders (after 8) ≡ Trap 5 0x80000040 ∷ Trap 5 0x80000040 ∷ []
unfolding decoded effect holds imm_result reg_result loaded number_at put_at cleared_at imm_i imm_s imm_b imm_u imm_j extended
second-borders = refl

stored-last : number_at (after 7).core.ram 32 4 ∷ number_at (after 8).core.ram 32 4 ∷ [] ≡ 5 ∷ 5 ∷ []
unfolding decoded effect holds imm_result reg_result loaded number_at put_at cleared_at imm_i imm_s imm_b imm_u imm_j extended
stored-last = refl
