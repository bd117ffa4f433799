-- Worked examples of borders, standings and targets, computed.
use Rattle.std.specs.Prelude.{◌≡◌, ℕ, Bool, true, false, List, [], ◌∷◌, refl, Some, None}
use Rattle.std.specs.Prelude.{map as list_map}
use Rattle.mx_words.specs.declared.perm.Perm.{Perm}
use Rattle.mx_words.specs.declared.perm.Perm.TheVariants as P
use Rattle.mx_words.specs.Bytes.{number_at}
use Rattle.mx_words.specs.Hearing.{nobody}
use Rattle.mx_isa.specs.Fields.{imm_i, imm_s, imm_b, imm_u, imm_j, extended}
use Rattle.mx_isa.specs.Table.{decoded}
use Rattle.mx_model.specs.declared.values.Gate.{Gate}
use Rattle.mx_model.specs.Agreement.{Border, Trap, AtGate, Back, Call, Nothing, Runs, Waits, Ended, border, standing, target_at}
use Rattle.mx_model.specs.Effect.{holds, imm_result, reg_result, loaded, effect}
use Rattle.mx_model.specs.Reads.{reads}
use Rattle.mx_model.specs.State.{Running, Waiting, Halted, no_module}
use Rattle.mx_model.proofs.Boots.{regs_with}
use Rattle.mx_model.proofs.Smalls.{call, gate, grant, hart_of, small}

-- the border of domain 1 at word 4: words 40 may be read and 42 written, x1 is word 2's address and x7 word 40's
abbrev border_of : ℕ → Perm → Bool → List Gate → Border
border_of word p dead gates =
    let s = small ((4, word) ∷ []) (record no_module { dead = dead } ∷ no_module ∷ [])
    ((grant 4 1 p ∷ grant 40 1 P.Read ∷ grant 42 1 P.ReadWrite ∷ []) ∷ [] ∷ []) [] gates
    (hart_of 1 0x80000010 (regs_with ((1, 0x80000008) ∷ (7, 0x800000A0) ∷ (10, 10) ∷ (11, 11) ∷ (12, 12) ∷ (13, 13) ∷ (17, 9) ∷ [])) []
    Running ∷ []) 8 in
    border (reads s) s.core 0

-- a dead domain, before all others
dead-domain : border_of 0x00008067 P.ExecuteRead true (gate 1 4 2 ∷ []) ≡ Trap 20 0x80000010
unfolding decoded effect holds imm_result reg_result loaded number_at imm_i imm_s imm_b imm_u imm_j extended
dead-domain = refl

-- a call gate, whatever the right on its word
call-gate : border_of 0x00100073 P.None false (gate 1 4 2 ∷ []) ≡ AtGate 4 2 0x80000008
unfolding decoded effect holds imm_result reg_result loaded number_at imm_i imm_s imm_b imm_u imm_j extended
call-gate = refl

-- not another domain's, nor one at another word
gate-of-another : border_of 0x00128293 P.ExecuteRead false (gate 2 4 1 ∷ gate 1 5 2 ∷ []) ≡ Nothing
unfolding decoded effect holds imm_result reg_result loaded number_at imm_i imm_s imm_b imm_u imm_j extended
gate-of-another = refl

-- a JAL or JALR at a return gate, and no other instruction
return-by-jalr : border_of 0x00108067 P.ExecuteRead false (gate 1 4 1 ∷ []) ≡ Back 0x80000010 0x80000008
unfolding decoded effect holds imm_result reg_result loaded number_at imm_i imm_s imm_b imm_u imm_j extended
return-by-jalr = refl

return-by-jal : border_of 0x006000EF P.ExecuteRead false (gate 1 4 1 ∷ []) ≡ Back 0x80000010 0x80000016
unfolding decoded effect holds imm_result reg_result loaded number_at imm_i imm_s imm_b imm_u imm_j extended
return-by-jal = refl

addition-at-a-return-gate : border_of 0x00128293 P.ExecuteRead false (gate 1 4 1 ∷ []) ≡ Nothing
unfolding decoded effect holds imm_result reg_result loaded number_at imm_i imm_s imm_b imm_u imm_j extended
addition-at-a-return-gate = refl

-- a denied fetch comes first
return-denied : border_of 0x00008067 P.Read false (gate 1 4 1 ∷ []) ≡ Trap 1 0x80000010
unfolding decoded effect holds imm_result reg_result loaded number_at imm_i imm_s imm_b imm_u imm_j extended
return-denied = refl

jump : border_of 0x00008067 P.ExecuteRead false [] ≡ Nothing
unfolding decoded effect holds imm_result reg_result loaded number_at imm_i imm_s imm_b imm_u imm_j extended
jump = refl

-- a supervisor call
supervisor-call : border_of 115 P.ExecuteRead false (gate 1 4 1 ∷ []) ≡ Call 9 10 11 12 13
unfolding decoded effect holds imm_result reg_result loaded number_at imm_i imm_s imm_b imm_u imm_j extended
supervisor-call = refl

-- the faults of an instruction
misaligned-jump : border_of 0x00208067 P.ExecuteRead false [] ≡ Trap 0 0x8000000A
unfolding decoded effect holds imm_result reg_result loaded number_at imm_i imm_s imm_b imm_u imm_j extended
misaligned-jump = refl

misaligned-branch : border_of 867 P.ExecuteRead false [] ≡ Trap 0 0x80000016
unfolding decoded effect holds imm_result reg_result loaded number_at imm_i imm_s imm_b imm_u imm_j extended
misaligned-branch = refl

branch-not-taken : border_of 0x00001363 P.ExecuteRead false [] ≡ Nothing
unfolding decoded effect holds imm_result reg_result loaded number_at imm_i imm_s imm_b imm_u imm_j extended
branch-not-taken = refl

illegal : border_of 0xFFFFFFFF P.ExecuteRead false [] ≡ Trap 2 0xFFFFFFFF
unfolding decoded effect holds imm_result reg_result loaded number_at imm_i imm_s imm_b imm_u imm_j extended
illegal = refl

breakpoint : border_of 0x00100073 P.ExecuteRead false [] ≡ Trap 3 0x80000010
unfolding decoded effect holds imm_result reg_result loaded number_at imm_i imm_s imm_b imm_u imm_j extended
breakpoint = refl

misaligned-load : border_of 0x00139303 P.ExecuteRead false [] ≡ Trap 4 0x800000A1
unfolding decoded effect holds imm_result reg_result loaded number_at imm_i imm_s imm_b imm_u imm_j extended
misaligned-load = refl

denied-load : border_of 0x00439303 P.ExecuteRead false [] ≡ Trap 5 0x800000A4
unfolding decoded effect holds imm_result reg_result loaded number_at imm_i imm_s imm_b imm_u imm_j extended
denied-load = refl

allowed-load : border_of 0x00239303 P.ExecuteRead false [] ≡ Nothing
unfolding decoded effect holds imm_result reg_result loaded number_at imm_i imm_s imm_b imm_u imm_j extended
allowed-load = refl

misaligned-store : border_of 0x0063A0A3 P.ExecuteRead false [] ≡ Trap 6 0x800000A1
unfolding decoded effect holds imm_result reg_result loaded number_at imm_i imm_s imm_b imm_u imm_j extended
misaligned-store = refl

denied-store : border_of 0x0063A023 P.ExecuteRead false [] ≡ Trap 7 0x800000A0
unfolding decoded effect holds imm_result reg_result loaded number_at imm_i imm_s imm_b imm_u imm_j extended
denied-store = refl

allowed-store : border_of 0x0063A423 P.ExecuteRead false [] ≡ Nothing
unfolding decoded effect holds imm_result reg_result loaded number_at imm_i imm_s imm_b imm_u imm_j extended
allowed-store = refl

-- a standing is a status without the call, the hearing and the exit code
standings : list_map standing (Running ∷ Waiting (call 3 [] 0 1 false) nobody ∷ Halted None ∷ Halted (Some 5) ∷ []) ≡ Runs ∷ Waits ∷ Ended
    ∷ Ended ∷ []
standings = refl

-- the target of the gate of a domain at a word
targets : list_map (λ (p : ℕ × ℕ). target_at (small [] [] [] [] (gate 1 4 2 ∷ gate 2 4 2 ∷ gate 1 5 1 ∷ []) [] 8).core p.0 p.1)
    ((1, 4) ∷ (2, 4) ∷ (1, 5) ∷ (2, 5) ∷ [])
    ≡ Some 2 ∷ Some 2 ∷ Some 1 ∷ None ∷ []
targets = refl
