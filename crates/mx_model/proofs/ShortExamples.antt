-- Worked examples of runs of one module, computed.
use Rattle.std.specs.Prelude.{◌≡◌, [], ◌∷◌, refl}
use Rattle.mx_words.specs.Bytes.{number_at, put_at, cleared_at}
use Rattle.mx_isa.specs.Fields.{imm_i, imm_s, imm_b, imm_u, imm_j, extended}
use Rattle.mx_isa.specs.Table.{decoded}
use Rattle.mx_model.specs.declared.values.Note.TheVariants as N
use Rattle.mx_model.specs.Effect.{holds, imm_result, reg_result, loaded, effect}
use Rattle.mx_model.specs.Run.{ByQuantum, ByBytes, run}
use Rattle.mx_model.proofs.Boots.{end, one_end, fault, one_module}

-- three words: a7 = 1, a0 = 5, exit
three-words : end (run (ByQuantum 1) 10 (one_module (0x00100893 ∷ 0x00500513 ∷ 0x00000073 ∷ [])))
    ≡ one_end (N.Exit 3 0 1 5 ∷ []) 3 0x80000008 1 0 ((10, 5) ∷ (17, 1) ∷ [])
unfolding decoded effect holds imm_result reg_result loaded number_at put_at cleared_at imm_i imm_s imm_b imm_u imm_j extended
three-words = refl

-- the same with no step
three-words-no-step : end (run (ByQuantum 1) 0 (one_module (0x00100893 ∷ 0x00500513 ∷ 0x00000073 ∷ [])))
    ≡ one_end [] 0 0x80000000 1 0 []
unfolding decoded effect holds imm_result reg_result loaded number_at put_at cleared_at imm_i imm_s imm_b imm_u imm_j extended
three-words-no-step = refl

-- the same by the schedule bytes 1, 0, 0, of which the first names no hart
schedule-of-three-bytes : end (run (ByBytes (1 ∷ 0 ∷ 0 ∷ [])) 10 (one_module (0x00100893 ∷ 0x00500513 ∷ 0x00000073 ∷ [])))
    ≡ one_end [] 3 0x80000008 1 0 ((10, 5) ∷ (17, 1) ∷ [])
unfolding decoded effect holds imm_result reg_result loaded number_at put_at cleared_at imm_i imm_s imm_b imm_u imm_j extended
schedule-of-three-bytes = refl

-- and by an empty schedule
empty-schedule : end (run (ByBytes []) 10 (one_module (0x00100893 ∷ 0x00500513 ∷ 0x00000073 ∷ [])))
    ≡ one_end [] 0 0x80000000 1 0 []
unfolding decoded effect holds imm_result reg_result loaded number_at put_at cleared_at imm_i imm_s imm_b imm_u imm_j extended
empty-schedule = refl

-- store into code: x1 = pc, then a store at x1
store-into-code : end (run (ByQuantum 1) 5 (one_module (0x00000097 ∷ 0x0000A023 ∷ [])))
    ≡ one_end (fault 2 0 1 0x80000004 7 0x80000000 ∷ []) 2 0x80000004 1 0 ((1, 0x80000000) ∷ [])
unfolding decoded effect holds imm_result reg_result loaded number_at put_at cleared_at imm_i imm_s imm_b imm_u imm_j extended
store-into-code = refl

-- division corners: -2^31 / -1, and by zero
division-corners : end (run (ByQuantum 1) 5 (one_module (0x800002B7 ∷ 0xFFF00313 ∷ 0x0262C3B3 ∷ 0x0202CE33 ∷ 0x0202EEB3 ∷ [])))
    ≡ one_end [] 5 0x80000014 1 0 ((5, 0x80000000) ∷ (6, 0xffffffff) ∷ (7, 0x80000000) ∷ (28, 0xffffffff) ∷ (29, 0x80000000) ∷ [])
unfolding decoded effect holds imm_result reg_result loaded number_at put_at cleared_at imm_i imm_s imm_b imm_u imm_j extended
division-corners = refl

-- misaligned branch target: not taken at step 1, taken at step 4
misaligned-branch-target : end (run (ByQuantum 1) 10 (one_module (0x00029363 ∷ 0x00128293 ∷ 0xFF9FF06F ∷ [])))
    ≡ one_end (fault 4 0 1 0x80000000 0 0x80000006 ∷ []) 4 0x80000000 1 0 ((5, 1) ∷ [])
unfolding decoded effect holds imm_result reg_result loaded number_at put_at cleared_at imm_i imm_s imm_b imm_u imm_j extended
misaligned-branch-target = refl

-- misaligned load: the alignment comes before the right
misaligned-load : end (run (ByQuantum 1) 5 (one_module (0x00101303 ∷ [])))
    ≡ one_end (fault 1 0 1 0x80000000 4 1 ∷ []) 1 0x80000000 1 0 []
unfolding decoded effect holds imm_result reg_result loaded number_at put_at cleared_at imm_i imm_s imm_b imm_u imm_j extended
misaligned-load = refl

-- remainder: 7 modulo 3
remainder : end (run (ByQuantum 1) 9 (one_module (0x00700293 ∷ 0x00300313 ∷ 0x0262E3B3 ∷ 0x00100073 ∷ [])))
    ≡ one_end (fault 4 0 1 0x8000000c 3 0x8000000c ∷ []) 4 0x8000000c 1 0 ((5, 7) ∷ (6, 3) ∷ (7, 1) ∷ [])
unfolding decoded effect holds imm_result reg_result loaded number_at put_at cleared_at imm_i imm_s imm_b imm_u imm_j extended
remainder = refl
