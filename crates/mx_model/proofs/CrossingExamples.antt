-- Worked examples of crossings, returns, faults and deaths on small states, computed.
use Rattle.std.specs.Prelude.{◌≡◌, ℕ, Bool, true, false, List, [], ◌∷◌, replicate, refl, Some, None}
use Rattle.std.specs.Prelude.{map as list_map}
use Rattle.mx_words.specs.declared.perm.Perm.{Perm}
use Rattle.mx_words.specs.declared.perm.Perm.TheVariants as P
use Rattle.mx_words.specs.Bytes.{number_at, put_at, cleared_at}
use Rattle.mx_isa.specs.Fields.{imm_i, imm_s, imm_b, imm_u, imm_j, extended}
use Rattle.mx_isa.specs.Table.{decoded}
use Rattle.mx_model.specs.declared.values.Frame.{Frame}
use Rattle.mx_model.specs.declared.values.Gate.{Gate}
use Rattle.mx_model.specs.declared.values.TurnKind.TheVariants as T
use Rattle.mx_model.specs.Effect.{holds, imm_result, reg_result, loaded, effect}
use Rattle.mx_model.specs.Gates.{call_gate, is_return}
use Rattle.mx_model.specs.State.{Module, State, Running, Halted, no_module}
use Rattle.mx_model.proofs.Boots.{fault, regs_with}
use Rattle.mx_model.proofs.Smalls.{by, cache, frame, gate, grant, hart_of, kinds, saved_with, small, span_of, stack}

-- two modules that call each other, each with a stack area of its own and lowering x2 at each entry; the second hart runs, and the first is
-- halted. An entry takes x2 from the frame nearest the top whose caller is the entered domain, and else the stack address of this hart.
abbrev nested : State
nested = small ((0, 0xFFC10113) ∷ (1, 0x800002B7) ∷ (2, 0x04028293) ∷ (3, 0x000280E7) ∷ (4, 0x00100073) ∷ (16, 0xFF810113)
    ∷ (17, 0x80000337) ∷ (18, 0x000300E7) ∷ (19, 0x00100073) ∷ [])
    (record no_module { stack = stack 32 4 } ∷ record no_module { stack = stack 48 2 } ∷ [])
    ((grant 0 16 P.ExecuteRead ∷ []) ∷ (grant 16 16 P.ExecuteRead ∷ []) ∷ [])
    []
    (gate 1 16 2 ∷ gate 2 0 1 ∷ [])
    (hart_of 1 0x80000000 (regs_with []) [] (Halted None) ∷ hart_of 1 0x80000000 (regs_with ((2, 0x800000A0) ∷ (8, 5) ∷ [])) [] Running
    ∷ []) 8

first-entry : (by (replicate 5 1) nested).core.harts
    ≡ hart_of 1 0x80000000 (regs_with []) [] (Halted None) ∷ hart_of 2 0x80000040
    (regs_with ((1, 0x80000010) ∷ (2, 0x800000D0) ∷ (5, 0x80000040) ∷ (8, 5) ∷ []))
    (frame 0x80000010 1 (saved_with ((0, 0x8000009C) ∷ (3, 5) ∷ [])) ∷ []) Running ∷ []
unfolding decoded effect holds imm_result reg_result loaded number_at put_at cleared_at imm_i imm_s imm_b imm_u imm_j extended
first-entry = refl

fourth-entry-harts : (by (replicate 18 1) nested).core.harts
    ≡ hart_of 1 0x80000000 (regs_with []) [] (Halted None) ∷ hart_of 1 0x80000000
    (regs_with ((1, 0x8000004C) ∷ (2, 0x80000098) ∷ (5, 0x80000040) ∷ (6, 0x80000000) ∷ (8, 5) ∷ []))
    (frame 0x80000010 1 (saved_with ((0, 0x8000009C) ∷ (3, 5) ∷ [])) ∷ frame 0x8000004C 2 (saved_with ((0, 0x800000C8) ∷ (3, 5) ∷ []))
    ∷ frame 0x80000010 1 (saved_with ((0, 0x80000098) ∷ (3, 5) ∷ [])) ∷ frame 0x8000004C 2 (saved_with ((0, 0x800000C0) ∷ (3, 5) ∷ []))
    ∷ []) Running ∷ []
unfolding decoded effect holds imm_result reg_result loaded number_at put_at cleared_at imm_i imm_s imm_b imm_u imm_j extended
fourth-entry-harts = refl

fourth-entry-caches : (by (replicate 18 1) nested).core.caches
    ≡ (cache [] [] 0 0 0) ∷ (cache [] ((2, span_of 16 16 P.ExecuteRead) ∷ (1, span_of 0 16 P.ExecuteRead) ∷ []) 10 2 2) ∷ []
unfolding decoded effect holds imm_result reg_result loaded number_at put_at cleared_at imm_i imm_s imm_b imm_u imm_j extended
fourth-entry-caches = refl

kinds-of-entries : kinds (replicate 9 1) nested ≡ T.Ran ∷ T.Ran ∷ T.Ran ∷ T.Ran ∷ T.Crossed ∷ T.Ran ∷ T.Ran ∷ T.Ran ∷ T.Crossed ∷ []
unfolding decoded effect holds imm_result reg_result loaded number_at put_at cleared_at imm_i imm_s imm_b imm_u imm_j extended
kinds-of-entries = refl

-- domain 2 at an instruction at word 16, with x1 at word 1
abbrev returning : ℕ → List Frame → Gate → State
returning word frames g = small ((16, word) ∷ []) (no_module ∷ no_module ∷ [])
    ((grant 0 16 P.ExecuteRead ∷ []) ∷ (grant 16 4 P.ExecuteRead ∷ []) ∷ []) [] (g ∷ [])
    (hart_of 2 0x80000040 (regs_with ((1, 0x80000004) ∷ (5, 1) ∷ (8, 7) ∷ (10, 2) ∷ (27, 9) ∷ [])) frames Running ∷ []) 8

-- a return over the top of two frames, by JALR that writes x5, x8 (which is among the fifteen) or x1, and by JAL; bit 0 of the target of
-- JALR is
-- cleared
return-by-jalr-harts : (by (0 ∷ []) (returning 0x000082E7 (frame 0x80000024 2 (saved_with [])
    ∷ frame 0x80000004 1 (saved_with ((0, 256) ∷ (3, 3) ∷ (14, 4) ∷ [])) ∷ []) (gate 2 16 2))).core.harts
    ≡ hart_of 1 0x80000004 (regs_with ((1, 0x80000004) ∷ (2, 256) ∷ (5, 0x80000044) ∷ (8, 3) ∷ (10, 2) ∷ (27, 4) ∷ []))
    (frame 0x80000024 2 (saved_with []) ∷ []) Running ∷ []
unfolding decoded effect holds imm_result reg_result loaded number_at put_at cleared_at imm_i imm_s imm_b imm_u imm_j extended
return-by-jalr-harts = refl

return-by-jalr-kinds : kinds (0 ∷ []) (returning 0x000082E7 (frame 0x80000024 2 (saved_with [])
    ∷ frame 0x80000004 1 (saved_with ((0, 256) ∷ (3, 3) ∷ (14, 4) ∷ [])) ∷ []) (gate 2 16 2))
    ≡ T.Returned ∷ []
unfolding decoded effect holds imm_result reg_result loaded number_at put_at cleared_at imm_i imm_s imm_b imm_u imm_j extended
return-by-jalr-kinds = refl

return-into-x8 : (by (0 ∷ []) (returning 0x00008467 (frame 0x80000024 2 (saved_with [])
    ∷ frame 0x80000004 1 (saved_with ((0, 256) ∷ (3, 3) ∷ (14, 4) ∷ [])) ∷ []) (gate 2 16 2))).core.harts
    ≡ hart_of 1 0x80000004 (regs_with ((1, 0x80000004) ∷ (2, 256) ∷ (5, 1) ∷ (8, 3) ∷ (10, 2) ∷ (27, 4) ∷ []))
    (frame 0x80000024 2 (saved_with []) ∷ []) Running ∷ []
unfolding decoded effect holds imm_result reg_result loaded number_at put_at cleared_at imm_i imm_s imm_b imm_u imm_j extended
return-into-x8 = refl

return-into-x1 : (by (0 ∷ []) (returning 0x000080E7 (frame 0x80000024 2 (saved_with [])
    ∷ frame 0x80000004 1 (saved_with ((0, 256) ∷ (3, 3) ∷ (14, 4) ∷ [])) ∷ []) (gate 2 16 2))).core.harts
    ≡ hart_of 1 0x80000004 (regs_with ((1, 0x80000044) ∷ (2, 256) ∷ (5, 1) ∷ (8, 3) ∷ (10, 2) ∷ (27, 4) ∷ []))
    (frame 0x80000024 2 (saved_with []) ∷ []) Running ∷ []
unfolding decoded effect holds imm_result reg_result loaded number_at put_at cleared_at imm_i imm_s imm_b imm_u imm_j extended
return-into-x1 = refl

return-by-jal : (by (0 ∷ []) (returning 0xFC5FF2EF (frame 0x80000024 2 (saved_with [])
    ∷ frame 0x80000004 1 (saved_with ((0, 256) ∷ (3, 3) ∷ (14, 4) ∷ [])) ∷ []) (gate 2 16 2))).core.harts
    ≡ hart_of 1 0x80000004 (regs_with ((1, 0x80000004) ∷ (2, 256) ∷ (5, 0x80000044) ∷ (8, 3) ∷ (10, 2) ∷ (27, 4) ∷ []))
    (frame 0x80000024 2 (saved_with []) ∷ []) Running ∷ []
unfolding decoded effect holds imm_result reg_result loaded number_at put_at cleared_at imm_i imm_s imm_b imm_u imm_j extended
return-by-jal = refl

return-from-odd : (by (0 ∷ []) (returning 0x00108067 (frame 0x80000024 2 (saved_with [])
    ∷ frame 0x80000004 1 (saved_with ((0, 256) ∷ (3, 3) ∷ (14, 4) ∷ [])) ∷ []) (gate 2 16 2))).core.harts
    ≡ hart_of 1 0x80000004 (regs_with ((1, 0x80000004) ∷ (2, 256) ∷ (5, 1) ∷ (8, 3) ∷ (10, 2) ∷ (27, 4) ∷ []))
    (frame 0x80000024 2 (saved_with []) ∷ []) Running ∷ []
unfolding decoded effect holds imm_result reg_result loaded number_at put_at cleared_at imm_i imm_s imm_b imm_u imm_j extended
return-from-odd = refl

-- a return to another address faults by 17 with the target, and one with no frame by 18; neither writes rd
astray-harts : (by (0 ∷ []) (returning 0x002082E7 (frame 0x80000024 2 (saved_with [])
    ∷ frame 0x80000004 1 (saved_with ((0, 256) ∷ (3, 3) ∷ (14, 4) ∷ [])) ∷ []) (gate 2 16 2))).core.harts
    ≡ hart_of 1 0x80000004 (regs_with ((1, 0x80000004) ∷ (2, 256) ∷ (5, 1) ∷ (8, 3) ∷ (10, 0xFFFFFF11) ∷ (27, 4) ∷ []))
    (frame 0x80000024 2 (saved_with []) ∷ []) Running ∷ []
unfolding decoded effect holds imm_result reg_result loaded number_at put_at cleared_at imm_i imm_s imm_b imm_u imm_j extended
astray-harts = refl

astray-notes : (by (0 ∷ []) (returning 0x002082E7 (frame 0x80000024 2 (saved_with [])
    ∷ frame 0x80000004 1 (saved_with ((0, 256) ∷ (3, 3) ∷ (14, 4) ∷ [])) ∷ []) (gate 2 16 2))).notes
    ≡ fault 1 0 2 0x80000040 17 0x80000006 ∷ []
unfolding decoded effect holds imm_result reg_result loaded number_at put_at cleared_at imm_i imm_s imm_b imm_u imm_j extended
astray-notes = refl

frameless-harts : (by (0 ∷ []) (returning 0x004082E7 [] (gate 2 16 2))).core.harts
    ≡ hart_of 2 0x80000040 (regs_with ((1, 0x80000004) ∷ (5, 1) ∷ (8, 7) ∷ (10, 2) ∷ (27, 9) ∷ [])) [] (Halted None) ∷ []
unfolding decoded effect holds imm_result reg_result loaded number_at put_at cleared_at imm_i imm_s imm_b imm_u imm_j extended
frameless-harts = refl

frameless-notes : (by (0 ∷ []) (returning 0x004082E7 [] (gate 2 16 2))).notes ≡ fault 1 0 2 0x80000040 18 0x80000008 ∷ []
unfolding decoded effect holds imm_result reg_result loaded number_at put_at cleared_at imm_i imm_s imm_b imm_u imm_j extended
frameless-notes = refl

-- another instruction at a return gate acts as usual, and so does a jump where another domain's return gate stands
addition-at-a-return-gate : (by (0 ∷ []) (returning 0x00628293 (frame 0x80000004 1 (saved_with ((0, 256) ∷ (3, 3) ∷ (14, 4) ∷ [])) ∷ [])
    (gate 2 16 2))).core.harts
    ≡ hart_of 2 0x80000044 (regs_with ((1, 0x80000004) ∷ (5, 7) ∷ (8, 7) ∷ (10, 2) ∷ (27, 9) ∷ []))
    (frame 0x80000004 1 (saved_with ((0, 256) ∷ (3, 3) ∷ (14, 4) ∷ [])) ∷ []) Running ∷ []
unfolding decoded effect holds imm_result reg_result loaded number_at put_at cleared_at imm_i imm_s imm_b imm_u imm_j extended
addition-at-a-return-gate = refl

jump-at-another-return-gate : (by (0 ∷ []) (returning 0x03C082E7 (frame 0x80000004 1 (saved_with ((0, 256) ∷ (3, 3) ∷ (14, 4) ∷ [])) ∷ [])
    (gate 1 16 1))).core.harts
    ≡ hart_of 2 0x80000040 (regs_with ((1, 0x80000004) ∷ (5, 0x80000044) ∷ (8, 7) ∷ (10, 2) ∷ (27, 9) ∷ []))
    (frame 0x80000004 1 (saved_with ((0, 256) ∷ (3, 3) ∷ (14, 4) ∷ [])) ∷ []) Running ∷ []
unfolding decoded effect holds imm_result reg_result loaded number_at put_at cleared_at imm_i imm_s imm_b imm_u imm_j extended
jump-at-another-return-gate = refl

-- two domains that may execute the same words: a crossing empties the places, so the entered domain walks for itself
abbrev shared : State
shared = small ((0, 0x00100293) ∷ (1, 0x00100293) ∷ (2, 0x00100293) ∷ (3, 0x00100293) ∷ (4, 0x00100293) ∷ (5, 0x00100293) ∷ (6, 0x00100293)
    ∷ (7, 0x00100293) ∷ [])
    (no_module ∷ no_module ∷ [])
    ((grant 0 8 P.ExecuteRead ∷ []) ∷ (grant 0 8 P.ExecuteRead ∷ []) ∷ [])
    []
    (gate 1 2 2 ∷ gate 2 4 2 ∷ [])
    (hart_of 1 0x80000000 (regs_with ((1, 0x80000018) ∷ (2, 8) ∷ [])) [] Running ∷ []) 8

places-at-a-crossing-caches : (by (replicate 4 0) shared).core.caches
    ≡ (cache ((0, span_of 0 8 P.ExecuteRead) ∷ []) ((2, span_of 0 8 P.ExecuteRead) ∷ (1, span_of 0 8 P.ExecuteRead) ∷ []) 1 0 2) ∷ []
unfolding decoded effect holds imm_result reg_result loaded number_at put_at cleared_at imm_i imm_s imm_b imm_u imm_j extended
places-at-a-crossing-caches = refl

places-at-a-crossing-kinds : kinds (replicate 4 0) shared ≡ T.Ran ∷ T.Ran ∷ T.Crossed ∷ T.Ran ∷ []
unfolding decoded effect holds imm_result reg_result loaded number_at put_at cleared_at imm_i imm_s imm_b imm_u imm_j extended
places-at-a-crossing-kinds = refl

-- a module without a stack area gives x2 the value 0
no-stack-address : (by (0 ∷ 0 ∷ 0 ∷ []) shared).core.harts
    ≡ hart_of 2 0x80000008 (regs_with ((1, 0x80000018) ∷ (5, 1) ∷ [])) (frame 0x80000018 1 (saved_with ((0, 8) ∷ [])) ∷ []) Running ∷ []
unfolding decoded effect holds imm_result reg_result loaded number_at put_at cleared_at imm_i imm_s imm_b imm_u imm_j extended
no-stack-address = refl

-- and so do a return, and a fault that gives up a frame
abbrev coming_back : State
coming_back = small ((0, 0x00100293) ∷ (1, 0x00008067) ∷ (2, 0x00200293) ∷ [])
    (no_module ∷ no_module ∷ [])
    ((grant 0 8 P.ExecuteRead ∷ []) ∷ (grant 0 8 P.ExecuteRead ∷ []) ∷ [])
    []
    (gate 2 1 2 ∷ [])
    (hart_of 2 0x80000000 (regs_with ((1, 0x80000008) ∷ [])) (frame 0x80000008 1 (saved_with []) ∷ []) Running ∷ []) 8

places-at-a-return-caches : (by (0 ∷ 0 ∷ 0 ∷ []) coming_back).core.caches
    ≡ (cache ((0, span_of 0 8 P.ExecuteRead) ∷ []) ((1, span_of 0 8 P.ExecuteRead) ∷ (2, span_of 0 8 P.ExecuteRead) ∷ []) 1 0 2) ∷ []
unfolding decoded effect holds imm_result reg_result loaded number_at put_at cleared_at imm_i imm_s imm_b imm_u imm_j extended
places-at-a-return-caches = refl

places-at-a-return-kinds : kinds (0 ∷ 0 ∷ 0 ∷ []) coming_back ≡ T.Ran ∷ T.Returned ∷ T.Ran ∷ []
unfolding decoded effect holds imm_result reg_result loaded number_at put_at cleared_at imm_i imm_s imm_b imm_u imm_j extended
places-at-a-return-kinds = refl

abbrev falling_back : State
falling_back = small ((0, 0x00100293) ∷ (1, 0x00100073) ∷ (2, 0x00200293) ∷ [])
    (no_module ∷ no_module ∷ [])
    ((grant 0 8 P.ExecuteRead ∷ []) ∷ (grant 0 8 P.ExecuteRead ∷ []) ∷ [])
    []
    []
    (hart_of 2 0x80000000 (regs_with ((1, 0x80000010) ∷ (5, 6) ∷ (8, 7) ∷ (10, 8) ∷ (18, 9) ∷ []))
    (frame 0x80000008 1 (saved_with ((0, 512) ∷ (3, 3) ∷ [])) ∷ []) Running ∷ []) 8

registers-after-a-fault-harts : (by (0 ∷ 0 ∷ []) falling_back).core.harts
    ≡ hart_of 1 0x80000008 (regs_with ((1, 0x80000010) ∷ (2, 512) ∷ (5, 1) ∷ (8, 3) ∷ (10, 0xFFFFFF03) ∷ [])) [] Running ∷ []
unfolding decoded effect holds imm_result reg_result loaded number_at put_at cleared_at imm_i imm_s imm_b imm_u imm_j extended
registers-after-a-fault-harts = refl

registers-after-a-fault-notes : (by (0 ∷ 0 ∷ []) falling_back).notes ≡ fault 2 0 2 0x80000004 3 0x80000004 ∷ []
unfolding decoded effect holds imm_result reg_result loaded number_at put_at cleared_at imm_i imm_s imm_b imm_u imm_j extended
registers-after-a-fault-notes = refl

places-at-a-fault-caches : (by (0 ∷ 0 ∷ 0 ∷ []) falling_back).core.caches
    ≡ (cache ((0, span_of 0 8 P.ExecuteRead) ∷ []) ((1, span_of 0 8 P.ExecuteRead) ∷ (2, span_of 0 8 P.ExecuteRead) ∷ []) 1 0 2) ∷ []
unfolding decoded effect holds imm_result reg_result loaded number_at put_at cleared_at imm_i imm_s imm_b imm_u imm_j extended
places-at-a-fault-caches = refl

places-at-a-fault-kinds : kinds (0 ∷ 0 ∷ 0 ∷ []) falling_back ≡ T.Ran ∷ T.Trapped ∷ T.Ran ∷ []
unfolding decoded effect holds imm_result reg_result loaded number_at put_at cleared_at imm_i imm_s imm_b imm_u imm_j extended
places-at-a-fault-kinds = refl

-- with no frame the hart is halted, and its registers, pc and places stay
abbrev ending : State
ending = small ((0, 0x00100293) ∷ (1, 0x00100073) ∷ (2, 0x00200293) ∷ [])
    (no_module ∷ [])
    ((grant 0 8 P.ExecuteRead ∷ []) ∷ [])
    []
    []
    (hart_of 1 0x80000000 (regs_with ((1, 0x80000010) ∷ (8, 7) ∷ (10, 8) ∷ [])) [] Running ∷ []) 8

end-of-a-hart-harts : (by (0 ∷ 0 ∷ 0 ∷ []) ending).core.harts
    ≡ hart_of 1 0x80000004 (regs_with ((1, 0x80000010) ∷ (5, 1) ∷ (8, 7) ∷ (10, 8) ∷ [])) [] (Halted None) ∷ []
unfolding decoded effect holds imm_result reg_result loaded number_at put_at cleared_at imm_i imm_s imm_b imm_u imm_j extended
end-of-a-hart-harts = refl

end-of-a-hart-caches : (by (0 ∷ 0 ∷ 0 ∷ []) ending).core.caches
    ≡ (cache ((0, span_of 0 8 P.ExecuteRead) ∷ []) ((1, span_of 0 8 P.ExecuteRead) ∷ []) 1 0 1) ∷ []
unfolding decoded effect holds imm_result reg_result loaded number_at put_at cleared_at imm_i imm_s imm_b imm_u imm_j extended
end-of-a-hart-caches = refl

end-of-a-hart-kinds : kinds (0 ∷ 0 ∷ 0 ∷ []) ending ≡ T.Ran ∷ T.Trapped ∷ T.Idle ∷ []
unfolding decoded effect holds imm_result reg_result loaded number_at put_at cleared_at imm_i imm_s imm_b imm_u imm_j extended
end-of-a-hart-kinds = refl

-- domain 1 at an instruction before a call gate at word 1, whose target is dead or alive
abbrev calling : ℕ → Bool → List Frame → State
calling x1 dead frames = small ((0, 0x00100293) ∷ []) (no_module ∷ record no_module { dead = dead } ∷ [])
    ((grant 0 4 P.ExecuteRead ∷ []) ∷ [] ∷ []) [] (gate 1 1 2 ∷ [])
    (hart_of 1 0x80000000 (regs_with ((1, x1) ∷ (10, 5) ∷ [])) frames Running ∷ []) 8

-- at a call gate x1 is tested first, then whether the target is dead, and then the frames; a dead target changes x10 and pc alone
crooked-before-dead-harts : (by (0 ∷ 0 ∷ []) (calling 6 true (replicate 64 (frame 0x80000024 2 (saved_with ((0, 1) ∷ [])))))).core.harts
    ≡ hart_of 2 0x80000024 (regs_with ((1, 6) ∷ (2, 1) ∷ (5, 1) ∷ (10, 0xFFFFFF13) ∷ []))
    (replicate 63 (frame 0x80000024 2 (saved_with ((0, 1) ∷ [])))) Running ∷ []
unfolding decoded effect holds imm_result reg_result loaded number_at put_at cleared_at imm_i imm_s imm_b imm_u imm_j extended
crooked-before-dead-harts = refl

crooked-before-dead-notes : (by (0 ∷ 0 ∷ []) (calling 6 true (replicate 64 (frame 0x80000024 2 (saved_with ((0, 1) ∷ [])))))).notes
    ≡ fault 2 0 1 0x80000004 19 6 ∷ []
unfolding decoded effect holds imm_result reg_result loaded number_at put_at cleared_at imm_i imm_s imm_b imm_u imm_j extended
crooked-before-dead-notes = refl

dead-before-full-harts : (by (0 ∷ 0 ∷ []) (calling 0x8000000C true
    (replicate 64 (frame 0x80000024 2 (saved_with ((0, 1) ∷ [])))))).core.harts
    ≡ hart_of 1 0x8000000C (regs_with ((1, 0x8000000C) ∷ (5, 1) ∷ (10, 0xFFFFFF14) ∷ []))
    (replicate 64 (frame 0x80000024 2 (saved_with ((0, 1) ∷ [])))) Running ∷ []
unfolding decoded effect holds imm_result reg_result loaded number_at put_at cleared_at imm_i imm_s imm_b imm_u imm_j extended
dead-before-full-harts = refl

dead-before-full-caches : (by (0 ∷ 0 ∷ []) (calling 0x8000000C true
    (replicate 64 (frame 0x80000024 2 (saved_with ((0, 1) ∷ [])))))).core.caches
    ≡ (cache ((0, span_of 0 4 P.ExecuteRead) ∷ []) ((1, span_of 0 4 P.ExecuteRead) ∷ []) 0 0 1) ∷ []
unfolding decoded effect holds imm_result reg_result loaded number_at put_at cleared_at imm_i imm_s imm_b imm_u imm_j extended
dead-before-full-caches = refl

dead-before-full-kinds : kinds (0 ∷ 0 ∷ []) (calling 0x8000000C true (replicate 64 (frame 0x80000024 2 (saved_with ((0, 1) ∷ [])))))
    ≡ T.Ran ∷ T.Returned ∷ []
unfolding decoded effect holds imm_result reg_result loaded number_at put_at cleared_at imm_i imm_s imm_b imm_u imm_j extended
dead-before-full-kinds = refl

dead-before-full-notes : (by (0 ∷ 0 ∷ []) (calling 0x8000000C true (replicate 64 (frame 0x80000024 2 (saved_with ((0, 1) ∷ [])))))).notes
    ≡ []
unfolding decoded effect holds imm_result reg_result loaded number_at put_at cleared_at imm_i imm_s imm_b imm_u imm_j extended
dead-before-full-notes = refl

full-harts : (by (0 ∷ 0 ∷ []) (calling 0x8000000C false (replicate 64 (frame 0x80000024 2 (saved_with ((0, 1) ∷ [])))))).core.harts
    ≡ hart_of 2 0x80000024 (regs_with ((1, 0x8000000C) ∷ (2, 1) ∷ (5, 1) ∷ (10, 0xFFFFFF10) ∷ []))
    (replicate 63 (frame 0x80000024 2 (saved_with ((0, 1) ∷ [])))) Running ∷ []
unfolding decoded effect holds imm_result reg_result loaded number_at put_at cleared_at imm_i imm_s imm_b imm_u imm_j extended
full-harts = refl

full-notes : (by (0 ∷ 0 ∷ []) (calling 0x8000000C false (replicate 64 (frame 0x80000024 2 (saved_with ((0, 1) ∷ [])))))).notes
    ≡ fault 2 0 1 0x80000004 16 0x80000004 ∷ []
unfolding decoded effect holds imm_result reg_result loaded number_at put_at cleared_at imm_i imm_s imm_b imm_u imm_j extended
full-notes = refl

room-for-one-frame-kinds : kinds (0 ∷ 0 ∷ []) (calling 0x8000000C false (replicate 63 (frame 0x80000024 2 (saved_with ((0, 1) ∷ [])))))
    ≡ T.Ran ∷ T.Crossed ∷ []
unfolding decoded effect holds imm_result reg_result loaded number_at put_at cleared_at imm_i imm_s imm_b imm_u imm_j extended
room-for-one-frame-kinds = refl

room-for-one-frame-harts : (by (0 ∷ 0 ∷ []) (calling 0x8000000C false
    (replicate 63 (frame 0x80000024 2 (saved_with ((0, 1) ∷ [])))))).core.harts
    ≡ hart_of 2 0x80000004 (regs_with ((1, 0x8000000C) ∷ (2, 1) ∷ (5, 1) ∷ (10, 5) ∷ []))
    (frame 0x80000024 2 (saved_with ((0, 1) ∷ [])) ∷ frame 0x80000024 2 (saved_with ((0, 1) ∷ []))
    ∷ frame 0x80000024 2 (saved_with ((0, 1) ∷ [])) ∷ frame 0x80000024 2 (saved_with ((0, 1) ∷ []))
    ∷ frame 0x80000024 2 (saved_with ((0, 1) ∷ [])) ∷ frame 0x80000024 2 (saved_with ((0, 1) ∷ []))
    ∷ frame 0x80000024 2 (saved_with ((0, 1) ∷ [])) ∷ frame 0x80000024 2 (saved_with ((0, 1) ∷ []))
    ∷ frame 0x80000024 2 (saved_with ((0, 1) ∷ [])) ∷ frame 0x80000024 2 (saved_with ((0, 1) ∷ []))
    ∷ frame 0x80000024 2 (saved_with ((0, 1) ∷ [])) ∷ frame 0x80000024 2 (saved_with ((0, 1) ∷ []))
    ∷ frame 0x80000024 2 (saved_with ((0, 1) ∷ [])) ∷ frame 0x80000024 2 (saved_with ((0, 1) ∷ []))
    ∷ frame 0x80000024 2 (saved_with ((0, 1) ∷ [])) ∷ frame 0x80000024 2 (saved_with ((0, 1) ∷ []))
    ∷ frame 0x80000024 2 (saved_with ((0, 1) ∷ [])) ∷ frame 0x80000024 2 (saved_with ((0, 1) ∷ []))
    ∷ frame 0x80000024 2 (saved_with ((0, 1) ∷ [])) ∷ frame 0x80000024 2 (saved_with ((0, 1) ∷ []))
    ∷ frame 0x80000024 2 (saved_with ((0, 1) ∷ [])) ∷ frame 0x80000024 2 (saved_with ((0, 1) ∷ []))
    ∷ frame 0x80000024 2 (saved_with ((0, 1) ∷ [])) ∷ frame 0x80000024 2 (saved_with ((0, 1) ∷ []))
    ∷ frame 0x80000024 2 (saved_with ((0, 1) ∷ [])) ∷ frame 0x80000024 2 (saved_with ((0, 1) ∷ []))
    ∷ frame 0x80000024 2 (saved_with ((0, 1) ∷ [])) ∷ frame 0x80000024 2 (saved_with ((0, 1) ∷ []))
    ∷ frame 0x80000024 2 (saved_with ((0, 1) ∷ [])) ∷ frame 0x80000024 2 (saved_with ((0, 1) ∷ []))
    ∷ frame 0x80000024 2 (saved_with ((0, 1) ∷ [])) ∷ frame 0x80000024 2 (saved_with ((0, 1) ∷ []))
    ∷ frame 0x80000024 2 (saved_with ((0, 1) ∷ [])) ∷ frame 0x80000024 2 (saved_with ((0, 1) ∷ []))
    ∷ frame 0x80000024 2 (saved_with ((0, 1) ∷ [])) ∷ frame 0x80000024 2 (saved_with ((0, 1) ∷ []))
    ∷ frame 0x80000024 2 (saved_with ((0, 1) ∷ [])) ∷ frame 0x80000024 2 (saved_with ((0, 1) ∷ []))
    ∷ frame 0x80000024 2 (saved_with ((0, 1) ∷ [])) ∷ frame 0x80000024 2 (saved_with ((0, 1) ∷ []))
    ∷ frame 0x80000024 2 (saved_with ((0, 1) ∷ [])) ∷ frame 0x80000024 2 (saved_with ((0, 1) ∷ []))
    ∷ frame 0x80000024 2 (saved_with ((0, 1) ∷ [])) ∷ frame 0x80000024 2 (saved_with ((0, 1) ∷ []))
    ∷ frame 0x80000024 2 (saved_with ((0, 1) ∷ [])) ∷ frame 0x80000024 2 (saved_with ((0, 1) ∷ []))
    ∷ frame 0x80000024 2 (saved_with ((0, 1) ∷ [])) ∷ frame 0x80000024 2 (saved_with ((0, 1) ∷ []))
    ∷ frame 0x80000024 2 (saved_with ((0, 1) ∷ [])) ∷ frame 0x80000024 2 (saved_with ((0, 1) ∷ []))
    ∷ frame 0x80000024 2 (saved_with ((0, 1) ∷ [])) ∷ frame 0x80000024 2 (saved_with ((0, 1) ∷ []))
    ∷ frame 0x80000024 2 (saved_with ((0, 1) ∷ [])) ∷ frame 0x80000024 2 (saved_with ((0, 1) ∷ []))
    ∷ frame 0x80000024 2 (saved_with ((0, 1) ∷ [])) ∷ frame 0x80000024 2 (saved_with ((0, 1) ∷ []))
    ∷ frame 0x80000024 2 (saved_with ((0, 1) ∷ [])) ∷ frame 0x80000024 2 (saved_with ((0, 1) ∷ []))
    ∷ frame 0x80000024 2 (saved_with ((0, 1) ∷ [])) ∷ frame 0x80000024 2 (saved_with ((0, 1) ∷ []))
    ∷ frame 0x80000024 2 (saved_with ((0, 1) ∷ [])) ∷ frame 0x80000024 2 (saved_with ((0, 1) ∷ []))
    ∷ frame 0x80000024 2 (saved_with ((0, 1) ∷ [])) ∷ frame 0x8000000C 1 (saved_with []) ∷ []) Running ∷ []
unfolding decoded effect holds imm_result reg_result loaded number_at put_at cleared_at imm_i imm_s imm_b imm_u imm_j extended
room-for-one-frame-harts = refl

-- x2 comes from the frame of the entered domain nearest the top, not from the top itself
x2-from-under-the-top : (by (0 ∷ 0 ∷ []) (calling 0x8000000C false
    (frame 0x80000024 2 (saved_with ((0, 5) ∷ [])) ∷ frame 0x80000024 2 (saved_with ((0, 6) ∷ []))
    ∷ frame 0x80000024 1 (saved_with ((0, 7) ∷ [])) ∷ []))).core.harts
    ≡ hart_of 2 0x80000004 (regs_with ((1, 0x8000000C) ∷ (2, 6) ∷ (5, 1) ∷ (10, 5) ∷ []))
    (frame 0x80000024 2 (saved_with ((0, 5) ∷ [])) ∷ frame 0x80000024 2 (saved_with ((0, 6) ∷ []))
    ∷ frame 0x80000024 1 (saved_with ((0, 7) ∷ [])) ∷ frame 0x8000000C 1 (saved_with []) ∷ []) Running ∷ []
unfolding decoded effect holds imm_result reg_result loaded number_at put_at cleared_at imm_i imm_s imm_b imm_u imm_j extended
x2-from-under-the-top = refl

x2-from-no-frame : (by (0 ∷ 0 ∷ []) (calling 0x8000000C false (frame 0x80000024 1 (saved_with ((0, 7) ∷ [])) ∷ []))).core.harts
    ≡ hart_of 2 0x80000004 (regs_with ((1, 0x8000000C) ∷ (5, 1) ∷ (10, 5) ∷ []))
    (frame 0x80000024 1 (saved_with ((0, 7) ∷ [])) ∷ frame 0x8000000C 1 (saved_with []) ∷ []) Running ∷ []
unfolding decoded effect holds imm_result reg_result loaded number_at put_at cleared_at imm_i imm_s imm_b imm_u imm_j extended
x2-from-no-frame = refl

-- what stands for a domain at a word
abbrev gates : List Gate
gates = gate 1 4 2 ∷ gate 2 4 2 ∷ gate 1 5 1 ∷ []

abbrev asked : List (ℕ × ℕ)
asked = (1, 4) ∷ (2, 4) ∷ (1, 5) ∷ (2, 5) ∷ []

call-gates : list_map (λ (p : ℕ × ℕ). call_gate gates p.0 p.1) asked ≡ Some 2 ∷ None ∷ None ∷ None ∷ []
call-gates = refl

return-gates : list_map (λ (p : ℕ × ℕ). is_return gates p.0 p.1) asked ≡ false ∷ true ∷ true ∷ false ∷ []
return-gates = refl

-- domain d at an instruction, with or without the frame of a call from domain 1; each domain is killing or not, dead or not
abbrev dying : ℕ → ℕ → List Frame → Module → Module → State
dying word d frames m n = small ((0, word) ∷ []) (m ∷ n ∷ []) ((grant 0 4 P.ExecuteRead ∷ []) ∷ (grant 0 4 P.ExecuteRead ∷ []) ∷ []) []
    (gate 2 0 2 ∷ [])
    (hart_of d 0x80000000 (regs_with ((1, 0x80000004) ∷ [])) frames Running ∷ []) 8

-- a fault makes the domain in which it happens dead, where that is killing, and not the caller
killing-callee-dead : list_map (λ (m : Module). m.dead) (by (0 ∷ [])
    (dying 0x00100073 2 (frame 0x80000004 1 (saved_with []) ∷ []) (record no_module { kills = true })
    (record no_module { kills = true }))).core.modules
    ≡ false ∷ true ∷ []
unfolding decoded effect holds imm_result reg_result loaded number_at put_at cleared_at imm_i imm_s imm_b imm_u imm_j extended
killing-callee-dead = refl

killing-callee-harts : (by (0 ∷ []) (dying 0x00100073 2 (frame 0x80000004 1 (saved_with []) ∷ []) (record no_module { kills = true })
    (record no_module { kills = true }))).core.harts
    ≡ hart_of 1 0x80000004 (regs_with ((1, 0x80000004) ∷ (10, 0xFFFFFF03) ∷ [])) [] Running ∷ []
unfolding decoded effect holds imm_result reg_result loaded number_at put_at cleared_at imm_i imm_s imm_b imm_u imm_j extended
killing-callee-harts = refl

-- a domain that isn't killing stays alive; the value of an illegal instruction is its word
mild-callee-dead : list_map (λ (m : Module). m.dead) (by (0 ∷ [])
    (dying 0xFFFFFFFF 2 (frame 0x80000004 1 (saved_with []) ∷ []) (record no_module { kills = true }) no_module)).core.modules
    ≡ false ∷ false ∷ []
unfolding decoded effect holds imm_result reg_result loaded number_at put_at cleared_at imm_i imm_s imm_b imm_u imm_j extended
mild-callee-dead = refl

mild-callee-notes : (by (0 ∷ []) (dying 0xFFFFFFFF 2 (frame 0x80000004 1 (saved_with []) ∷ []) (record no_module { kills = true })
    no_module)).notes
    ≡ fault 1 0 2 0x80000000 2 0xFFFFFFFF ∷ []
unfolding decoded effect holds imm_result reg_result loaded number_at put_at cleared_at imm_i imm_s imm_b imm_u imm_j extended
mild-callee-notes = refl

-- a fault at a return gate kills too
killed-by-no-return-dead : list_map (λ (m : Module). m.dead) (by (0 ∷ [])
    (dying 0x00408067 2 (frame 0x80000004 1 (saved_with []) ∷ []) (record no_module { kills = true })
    (record no_module { kills = true }))).core.modules
    ≡ false ∷ true ∷ []
unfolding decoded effect holds imm_result reg_result loaded number_at put_at cleared_at imm_i imm_s imm_b imm_u imm_j extended
killed-by-no-return-dead = refl

killed-by-no-return-notes : (by (0 ∷ []) (dying 0x00408067 2 (frame 0x80000004 1 (saved_with []) ∷ []) (record no_module { kills = true })
    (record no_module { kills = true }))).notes
    ≡ fault 1 0 2 0x80000000 17 0x80000008 ∷ []
unfolding decoded effect holds imm_result reg_result loaded number_at put_at cleared_at imm_i imm_s imm_b imm_u imm_j extended
killed-by-no-return-notes = refl

-- a hart in a dead domain faults by 20, inside a call and outside
dead-callee-harts : (by (0 ∷ []) (dying 0x00100073 2 (frame 0x80000004 1 (saved_with []) ∷ []) no_module
    (record no_module { kills = true; dead = true }))).core.harts
    ≡ hart_of 1 0x80000004 (regs_with ((1, 0x80000004) ∷ (10, 0xFFFFFF14) ∷ [])) [] Running ∷ []
unfolding decoded effect holds imm_result reg_result loaded number_at put_at cleared_at imm_i imm_s imm_b imm_u imm_j extended
dead-callee-harts = refl

dead-callee-notes : (by (0 ∷ []) (dying 0x00100073 2 (frame 0x80000004 1 (saved_with []) ∷ []) no_module
    (record no_module { kills = true; dead = true }))).notes
    ≡ fault 1 0 2 0x80000000 20 0x80000000 ∷ []
unfolding decoded effect holds imm_result reg_result loaded number_at put_at cleared_at imm_i imm_s imm_b imm_u imm_j extended
dead-callee-notes = refl

dead-alone-harts : (by (0 ∷ []) (dying 0x00100073 1 [] (record no_module { kills = true; dead = true }) no_module)).core.harts
    ≡ hart_of 1 0x80000000 (regs_with ((1, 0x80000004) ∷ [])) [] (Halted None) ∷ []
unfolding decoded effect holds imm_result reg_result loaded number_at put_at cleared_at imm_i imm_s imm_b imm_u imm_j extended
dead-alone-harts = refl

dead-alone-notes : (by (0 ∷ []) (dying 0x00100073 1 [] (record no_module { kills = true; dead = true }) no_module)).notes
    ≡ fault 1 0 1 0x80000000 20 0x80000000 ∷ []
unfolding decoded effect holds imm_result reg_result loaded number_at put_at cleared_at imm_i imm_s imm_b imm_u imm_j extended
dead-alone-notes = refl

-- a return into a dead domain is made as usual
return-into-a-dead-domain-kinds : kinds (0 ∷ 0 ∷ []) (dying 0x00008067 2 (frame 0x80000004 1 (saved_with []) ∷ [])
    (record no_module { kills = true; dead = true }) no_module)
    ≡ T.Returned ∷ T.Trapped ∷ []
unfolding decoded effect holds imm_result reg_result loaded number_at put_at cleared_at imm_i imm_s imm_b imm_u imm_j extended
return-into-a-dead-domain-kinds = refl

return-into-a-dead-domain-notes : (by (0 ∷ 0 ∷ []) (dying 0x00008067 2 (frame 0x80000004 1 (saved_with []) ∷ [])
    (record no_module { kills = true; dead = true }) no_module)).notes
    ≡ fault 2 0 1 0x80000004 20 0x80000004 ∷ []
unfolding decoded effect holds imm_result reg_result loaded number_at put_at cleared_at imm_i imm_s imm_b imm_u imm_j extended
return-into-a-dead-domain-notes = refl

-- domain 1 at a word on which it has a permission, and at which domain 2 has a call gate
abbrev fetching : Perm → ℕ → State
fetching p word = small ((0, word) ∷ []) (no_module ∷ no_module ∷ []) ((grant 0 1 p ∷ []) ∷ [] ∷ []) [] (gate 2 0 1 ∷ [])
    (hart_of 1 0x80000000 (regs_with []) [] Running ∷ []) 8

-- a fetch needs execute-read, and the gate of another domain at the word isn't this one's
fetch-of-code : kinds (0 ∷ []) (fetching P.ExecuteRead 0x00100293) ≡ T.Ran ∷ []
unfolding decoded effect holds imm_result reg_result loaded number_at put_at cleared_at imm_i imm_s imm_b imm_u imm_j extended
fetch-of-code = refl

fetch-of-data-kinds : kinds (0 ∷ []) (fetching P.ReadWrite 0x00100293) ≡ T.Trapped ∷ []
unfolding decoded effect holds imm_result reg_result loaded number_at put_at cleared_at imm_i imm_s imm_b imm_u imm_j extended
fetch-of-data-kinds = refl

fetch-of-data-notes : (by (0 ∷ []) (fetching P.ReadWrite 0x00100293)).notes ≡ fault 1 0 1 0x80000000 1 0x80000000 ∷ []
unfolding decoded effect holds imm_result reg_result loaded number_at put_at cleared_at imm_i imm_s imm_b imm_u imm_j extended
fetch-of-data-notes = refl

fetch-of-nothing : (by (0 ∷ []) (fetching P.None 0x00100293)).notes ≡ fault 1 0 1 0x80000000 1 0x80000000 ∷ []
unfolding decoded effect holds imm_result reg_result loaded number_at put_at cleared_at imm_i imm_s imm_b imm_u imm_j extended
fetch-of-nothing = refl
