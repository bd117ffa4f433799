-- Worked examples of schedules and runs, and of what states answer, computed.
use Rattle.std.specs.Prelude.{◌≡◌, ℕ, Bool, true, false, List, [], ◌∷◌, replicate, refl, Some, None}
use Rattle.std.specs.Prelude.{map as list_map}
use Rattle.std.specs.List.{range_with_len}
use Rattle.mx_words.specs.declared.perm.Perm.TheVariants as P
use Rattle.mx_words.specs.Bytes.{number_at, put_at, cleared_at}
use Rattle.mx_words.specs.Hearing.{nobody}
use Rattle.mx_isa.specs.Fields.{imm_i, imm_s, imm_b, imm_u, imm_j, extended}
use Rattle.mx_isa.specs.Table.{decoded}
use Rattle.mx_model.specs.Effect.{holds, imm_result, reg_result, loaded, effect}
use Rattle.mx_model.specs.Reads.{reads, flat_reads}
use Rattle.mx_model.specs.Run.{ByQuantum, ByBytes, all_halted, is_over, run}
use Rattle.mx_model.specs.Run.{hart_of as hart_of_turn}
use Rattle.mx_model.specs.State.{State, Status, Running, Waiting, Halted, flat, hart_at, is_module, module_at, no_module}
use Rattle.mx_model.proofs.Boots.{HartEnd, end, hart_end, regs_with}
use Rattle.mx_model.proofs.Smalls.{area, call, give, grant, hart_of, small, span_of, stack}

abbrev end_of : ℕ → List ℕ → HartEnd
end_of pc regs = record { pc = pc; domain = 1; frames = 0; regs = regs }

-- three harts that count in a loop, of which the second is halted
abbrev looping : Status → State
looping second = small ((0, 0x00128293) ∷ (1, 0xFFDFF06F) ∷ []) (no_module ∷ []) ((grant 0 2 P.ExecuteRead ∷ []) ∷ []) [] []
    (hart_of 1 0x80000000 (regs_with []) [] Running ∷ hart_of 1 0x80000000 (regs_with []) [] second
    ∷ hart_of 1 0x80000000 (regs_with []) [] Running ∷ []) 8

-- the harts take their quantum of turns in order
named : list_map (λ n. hart_of_turn (ByQuantum 2) (record (looping Running).core { turns = n })) (range_with_len 0 8) ≡ 0 ∷ 0 ∷ 1 ∷ 1 ∷ 2
    ∷ 2 ∷ 0 ∷ 0 ∷ []
named = refl

named-by-bytes : list_map (λ n. hart_of_turn (ByBytes (2 ∷ 0 ∷ 9 ∷ [])) (record (looping Running).core { turns = n })) (range_with_len 0 3)
    ≡ 2 ∷ 0 ∷ 9 ∷ []
named-by-bytes = refl

over : list_map (is_over (ByBytes (2 ∷ 0 ∷ 9 ∷ []))) (0 ∷ 2 ∷ 3 ∷ 4 ∷ []) ≡ false ∷ false ∷ true ∷ true ∷ []
over = refl

never-over : is_over (ByQuantum 1) 100 ≡ false
never-over = refl

-- all harts are halted, or some runs or waits
abbrev statuses : List Status → Bool
statuses ss = all_halted (small [] [] [] [] [] (list_map (hart_of 1 0 [] []) ss) 8).core

halted : statuses (Halted None ∷ Halted (Some 0) ∷ []) ∷ statuses (Halted None ∷ Running ∷ [])
    ∷ statuses (Waiting (call 3 [] 0 1 false) nobody ∷ Halted None ∷ []) ∷ []
    ≡ true ∷ false ∷ false ∷ []
halted = refl

-- runs: seven turns by a quantum of two, where a halted hart takes its turns too
by-a-quantum-of-two : list_map hart_end (run (ByQuantum 2) 7 (looping Running)).core.harts
    ≡ (end_of 0x80000004 (regs_with ((5, 2) ∷ []))) ∷ (end_of 0x80000000 (regs_with ((5, 1) ∷ [])))
    ∷ (end_of 0x80000000 (regs_with ((5, 1) ∷ []))) ∷ []
unfolding decoded effect holds imm_result reg_result loaded number_at put_at cleared_at imm_i imm_s imm_b imm_u imm_j extended
by-a-quantum-of-two = refl

with-a-halted-hart : end (run (ByQuantum 2) 7 (looping (Halted None)))
    ≡ record {
      notes = [];
      turns = 7;
      harts = (end_of 0x80000004 (regs_with ((5, 2) ∷ []))) ∷ (end_of 0x80000000 (regs_with []))
          ∷ (end_of 0x80000000 (regs_with ((5, 1) ∷ []))) ∷ [];
    }
unfolding decoded effect holds imm_result reg_result loaded number_at put_at cleared_at imm_i imm_s imm_b imm_u imm_j extended
with-a-halted-hart = refl

by-bytes : end (run (ByBytes (2 ∷ 2 ∷ 0 ∷ [])) 9 (looping Running))
    ≡ record {
      notes = [];
      turns = 3;
      harts = (end_of 0x80000004 (regs_with ((5, 1) ∷ []))) ∷ (end_of 0x80000000 (regs_with []))
          ∷ (end_of 0x80000000 (regs_with ((5, 1) ∷ []))) ∷ [];
    }
unfolding decoded effect holds imm_result reg_result loaded number_at put_at cleared_at imm_i imm_s imm_b imm_u imm_j extended
by-bytes = refl

-- what a state answers of words inside RAM and after it, in the two kinds of state
abbrev answering : State
answering = small [] (no_module ∷ no_module ∷ []) ((grant 0 100 P.Read ∷ grant 1 1 P.ReadWrite ∷ []) ∷ (grant 1 1 P.ExecuteRead ∷ []) ∷ [])
    (give 0 100 1 ∷ give 1 1 2 ∷ []) [] [] 8

abbrev asked : List (ℕ × ℕ)
asked = (1, 0) ∷ (1, 1) ∷ (2, 1) ∷ (1, 63) ∷ (1, 64) ∷ (2, 0) ∷ (3, 0) ∷ []

perms : list_map (λ (p : ℕ × ℕ). (reads answering).perm p.0 p.1) asked ≡ P.Read ∷ P.ReadWrite ∷ P.ExecuteRead ∷ P.Read ∷ P.None ∷ P.None
    ∷ P.None ∷ []
perms = refl

flat-perms : list_map (λ (p : ℕ × ℕ). (flat_reads (flat answering)).perm p.0 p.1) asked ≡ P.Read ∷ P.ReadWrite ∷ P.ExecuteRead ∷ P.Read
    ∷ P.None ∷ P.None ∷ P.None ∷ []
flat-perms = refl

owned : list_map (reads answering).owner (0 ∷ 1 ∷ 63 ∷ 64 ∷ []) ≡ 1 ∷ 2 ∷ 1 ∷ 0 ∷ []
owned = refl

flat-owned : list_map (flat_reads (flat answering)).owner (0 ∷ 1 ∷ 63 ∷ 64 ∷ []) ≡ 1 ∷ 2 ∷ 1 ∷ 0 ∷ []
flat-owned = refl

walked : (reads answering).walk 1 1 ∷ (flat_reads (flat answering)).walk 1 1 ∷ [] ≡ span_of 1 1 P.ReadWrite ∷ span_of 1 1 P.ReadWrite ∷ []
walked = refl

-- numbers of modules, and what is read of one that isn't there
modules : list_map (is_module answering.core) (range_with_len 0 4) ≡ false ∷ true ∷ true ∷ false ∷ []
modules = refl

no-module : (module_at answering.core 3) ≡ record { heap = area 0 0; blocks = []; stack = stack 0 0; kills = false; dead = false }
no-module = refl

no-hart : hart_at answering.core 0 ≡ hart_of 0 0 (replicate 32 0) [] (Halted None)
no-hart = refl
