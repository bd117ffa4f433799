-- Worked examples of the lines of a trace, computed.
use Rattle.std.specs.Prelude.{◌≡◌, true, false, [], ◌∷◌, ◌++◌, codes, refl}
use Rattle.std.specs.Fmt.{digits}
use Rattle.mx_words.specs.declared.perm.Perm.TheVariants as P
use Rattle.mx_words.specs.Bytes.{number_at, put_at, cleared_at}
use Rattle.mx_isa.specs.Fields.{imm_i, imm_s, imm_b, imm_u, imm_j, extended}
use Rattle.mx_isa.specs.Table.{decoded}
use Rattle.mx_model.specs.Effect.{holds, imm_result, reg_result, loaded, effect}
use Rattle.mx_model.specs.Run.{Schedule, ByBytes}
use Rattle.mx_model.specs.State.{State, Running, no_module}
use Rattle.mx_model.proofs.Boots.{regs_with}
use Rattle.mx_model.proofs.Smalls.{grant, hart_of, small}
use Rattle.mx_trace.specs.Did.{changes_text, fields}
use Rattle.mx_trace.specs.Lines.{turn_line}
use Rattle.mx_trace.specs.Text.{indexed_text, inst_text, pair_text}
use Rattle.mx_turns.specs.Tracing.{trace}

-- a hart that stores a word, and then makes call 3 for no range; another that loads a byte of that word
abbrev two : State
two = small ((0, 0x00700293) ∷ (1, 0x00532023) ∷ (2, 0x00000073) ∷ (3, 0x00030383) ∷ []) (no_module ∷ [])
    ((grant 32 4 P.ReadWrite ∷ grant 0 16 P.ExecuteRead ∷ []) ∷ []) [] []
    (hart_of 1 0x80000000 (regs_with ((6, 0x80000080) ∷ (10, 1) ∷ (17, 3) ∷ [])) [] Running
    ∷ hart_of 1 0x8000000C (regs_with ((6, 0x80000080) ∷ [])) [] Running ∷ []) 8

-- the third hart of the schedule isn't there
abbrev order : Schedule
order = ByBytes (0 ∷ 0 ∷ 0 ∷ 1 ∷ 0 ∷ 2 ∷ [])

-- what a turn did is told by the hart before it and after it; the call waits for the other hart
effects-of-two : trace order (record { from = 0; effects = true }) 6 two
    ≡ codes "turn 1 0 1 0x80000000 ran addi x5, x0, 7\ndid x5=0x00000007\n"
    ++ (codes "turn 2 0 1 0x80000004 ran sw x5, 0(x6)\ndid store=0x80000080/4/0x00000007\n"
    ++ (codes "turn 3 0 1 0x80000008 called ecall\ndid asks=3\n"
    ++ (codes "turn 4 1 1 0x8000000c ran lb x7, 0(x6)\ndid load=0x80000080/1 x7=0x00000007\n"
    ++ (codes "turn 5 0 1 0x80000008 called ecall\ndid call=3 x10=0xffffffff\n"
    ++ codes "turn 6 2 - - idle -\n"))))
unfolding turn_line inst_text indexed_text pair_text fields changes_text digits decoded effect holds imm_result reg_result loaded number_at
    put_at cleared_at imm_i imm_s imm_b imm_u imm_j extended
effects-of-two = refl

-- a turn below the step has neither line
effects-from-five : trace order (record { from = 5; effects = true }) 6 two
    ≡ codes "turn 5 0 1 0x80000008 called ecall\ndid call=3 x10=0xffffffff\nturn 6 2 - - idle -\n"
unfolding turn_line inst_text indexed_text pair_text fields changes_text digits decoded effect holds imm_result reg_result loaded number_at
    put_at cleared_at imm_i imm_s imm_b imm_u imm_j extended
effects-from-five = refl

-- where it isn't asked, the first line stands alone
plain-from-four : trace order (record { from = 4; effects = false }) 6 two
    ≡ codes "turn 4 1 1 0x8000000c ran lb x7, 0(x6)\nturn 5 0 1 0x80000008 called ecall\nturn 6 2 - - idle -\n"
unfolding turn_line inst_text indexed_text pair_text fields changes_text digits decoded effect holds imm_result reg_result loaded number_at
    put_at cleared_at imm_i imm_s imm_b imm_u imm_j extended
plain-from-four = refl
