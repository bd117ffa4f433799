-- Why each premise of a law is asked: for each a state, or two, that lack it alone, and what the law would say of them is false. Computed.
use Rattle.std.proofs.Common.{◌≡◌, ℕ, ◌==◌, Bool, true, false, [], ◌∷◌, length, take, replicate, refl, if◌then◌else◌, None}
use Rattle.std.proofs.Common.{map as list_map}
use Rattle.mx_words.specs.declared.perm.Perm.TheVariants as P
use Rattle.mx_words.specs.Bytes.{cleared_at, number_at, put_at}
use Rattle.mx_words.specs.Hearing.{nobody}
use Rattle.mx_isa.specs.Fields.{extended, imm_b, imm_i, imm_j, imm_s, imm_u}
use Rattle.mx_isa.specs.Table.{decoded}
use Rattle.mx_model.specs.declared.values.TurnKind.TheVariants as T
use Rattle.mx_model.specs.Agreement.{AtGate, Border, Call, Ended, Nothing, Trap, border}
use Rattle.mx_model.specs.Effect.{effect, holds, imm_result, loaded, reg, reg_result}
use Rattle.mx_model.specs.Reads.{Reads, reads}
use Rattle.mx_model.specs.Run.{kind, turn}
use Rattle.mx_model.specs.State.{Running, State, Status, Waiting, hart_at, no_module}
use Rattle.mx_model.proofs.Boots.{regs_with}
use Rattle.mx_model.proofs.Smalls.{area, call, frame, gate, give, grant, hart_of, small}
use Rattle.mx_laws.specs.After.{standing_at}
use Rattle.mx_laws.specs.Comparison.{agrees}

-- whether two states agree for hart 0, and its border in them
abbrev agree_in : State → State → Bool
agree_in s t = agrees (reads s) s.core (reads t) t.core 0

abbrev border_in : State → Border
border_in s = border (reads s) s.core 0

-- twins: pc is a multiple of 4. At two bytes more an instruction begins in word 4, which domain 1 may execute, and ends in word 5, which it
-- may not read: the states agree, and one has an ECALL there, the other an EBREAK
abbrev crooked : ℕ → State
crooked secret = small ((4, 0x00730000) ∷ (5, secret) ∷ []) (no_module ∷ []) ((grant 4 1 P.ExecuteRead ∷ []) ∷ []) [] []
    (hart_of 1 0x80000012 (regs_with []) [] Running ∷ []) 8

crooked-agree : agree_in (crooked 0) (crooked 0x10) ≡ true
unfolding number_at
crooked-agree = refl

crooked-borders : list_map border_in (crooked 0 ∷ crooked 0x10 ∷ []) ≡ Call 0 0 0 0 0 ∷ Trap 3 0x80000012 ∷ []
unfolding decoded effect holds imm_result reg_result loaded number_at put_at cleared_at imm_i imm_s imm_b imm_u imm_j extended
crooked-borders = refl

-- as many words of RAM: a gate at word 40 stands for both, and only in the larger RAM there is such a word
abbrev sized : ℕ → State
sized words =
    let s = small [] (no_module ∷ no_module ∷ []) ([] ∷ [] ∷ []) [] (gate 1 40 2 ∷ [])
    (hart_of 1 0x800000A0 (regs_with []) [] Running ∷ []) 8 in record s { core = record s.core { size = words } }

sized-agree : agree_in (sized 64) (sized 32) ≡ true
sized-agree = refl

sized-borders : list_map border_in (sized 64 ∷ sized 32 ∷ []) ≡ AtGate 40 2 0 ∷ Trap 1 0x800000A0 ∷ []
sized-borders = refl

-- and as many bytes: a store to word 8 is lost where there are bytes of four words alone
abbrev storing : ℕ → State
storing bytes =
    let s = small ((0, 0x00532023) ∷ []) (no_module ∷ []) ((grant 0 1 P.ExecuteRead ∷ grant 8 1 P.ReadWrite ∷ []) ∷ []) [] []
    (hart_of 1 0x80000000 (regs_with ((5, 7) ∷ (6, 0x80000020) ∷ [])) [] Running ∷ []) 8 in
    record s { core = record s.core { ram = take bytes s.core.ram } }

bytes-agree : agree_in (storing 256) (storing 16) ≡ true
unfolding number_at
bytes-agree = refl

bytes-apart : agree_in (turn (storing 256) 0) (turn (storing 16) 0) ≡ false
unfolding decoded effect holds imm_result reg_result loaded number_at put_at cleared_at imm_i imm_s imm_b imm_u imm_j extended
bytes-apart = refl

-- the hart runs: one that waits has the border of the instruction at its pc, which is nothing, and its turn is that of its call
abbrev adding : Status → State
adding status = small ((0, 0x00128293) ∷ []) (no_module ∷ []) ((grant 0 1 P.ExecuteRead ∷ []) ∷ []) [] []
    (hart_of 1 0x80000000 (regs_with []) [] status ∷ []) 8

waits-at-nothing : border_in (adding (Waiting (call 12 [] 0 1 false) nobody)) ≡ Nothing
unfolding decoded effect holds imm_result reg_result loaded number_at put_at cleared_at imm_i imm_s imm_b imm_u imm_j extended
waits-at-nothing = refl

waits-and-calls : list_map (λ s. kind s 0) (adding Running ∷ adding (Waiting (call 12 [] 0 1 false) nobody) ∷ []) ≡ T.Ran ∷ T.Called ∷ []
unfolding decoded effect holds imm_result reg_result loaded number_at put_at cleared_at imm_i imm_s imm_b imm_u imm_j extended
waits-and-calls = refl

-- the test of agreement: no right outside RAM, in which it looks alone, and as many words
abbrev outside : Reads
outside = record (reads (adding Running)) { perm = λ d w. if w == 64 then P.Read else (reads (adding Running)).perm d w }

right-outside : (agrees (reads (adding Running)) (adding Running).core outside (adding Running).core 0 ≡ true)
    × ((reads (adding Running)).perm 1 64 ≡ P.None) × (outside.perm 1 64 ≡ P.Read)
unfolding number_at
right-outside = (refl, refl, refl)

abbrev wide : ℕ → State
wide words =
    let s = small [] (no_module ∷ []) ((grant 40 1 P.Read ∷ []) ∷ []) [] [] (hart_of 1 0x80000000 (regs_with []) [] Running ∷ []) 8 in
    record s { core = record s.core { size = words } }

right-behind : (agree_in (wide 32) (wide 64) ≡ true) × ((reads (wide 32)).perm 1 40 ≡ P.None) × ((reads (wide 64)).perm 1 40 ≡ P.Read)
unfolding number_at
right-behind = (refl, refl, refl)

-- foreign words: the state is valid. A hart of domain 1 waits on an alloc of domain 2, as none does in a valid state, and its turn clears
-- word 20, which its domain may not write and which isn't in its heap area
abbrev pub proxy : State
proxy = small ((20, 0x12345678) ∷ []) (no_module ∷ record no_module { heap = area 20 1 } ∷ []) ([] ∷ [] ∷ []) (give 20 1 2 ∷ []) []
    (hart_of 1 0x80000000 (regs_with []) [] (Waiting (call 6 (1 ∷ 0 ∷ 0 ∷ 0 ∷ []) 0 2 false) nobody) ∷ []) 8

cleared-for-another : ((reads proxy).perm 1 20 ≡ P.None) × (number_at proxy.core.ram 80 4 ≡ 0x12345678)
    × (number_at (turn proxy 0).core.ram 80 4 ≡ 0)
unfolding decoded effect holds imm_result reg_result loaded number_at put_at cleared_at imm_i imm_s imm_b imm_u imm_j extended
cleared-for-another = (refl, refl, refl)

-- saved registers: the state is valid. A frame of fourteen registers gives back no fifteenth
abbrev pub short : State
short = small ((4, 0x00008067) ∷ []) (no_module ∷ []) ((grant 4 1 P.ExecuteRead ∷ []) ∷ []) [] (gate 1 4 1 ∷ [])
    (hart_of 1 0x80000010 (regs_with ((1, 0x80000014) ∷ (27, 7) ∷ [])) (frame 0x80000014 1 (replicate 14 0) ∷ []) Running ∷ []) 8

fifteenth-stays : (kind short 0 ≡ T.Returned) × (reg (hart_at (turn short 0).core 0).regs 27 ≡ 7)
unfolding decoded effect holds imm_result reg_result loaded number_at put_at cleared_at imm_i imm_s imm_b imm_u imm_j extended
fifteenth-stays = (refl, refl)

-- quiet turns: of no fault. One ends its hart and adds a note
abbrev breaking : State
breaking = small ((0, 0x00100073) ∷ []) (no_module ∷ []) ((grant 0 1 P.ExecuteRead ∷ []) ∷ []) [] []
    (hart_of 1 0x80000000 (regs_with []) [] Running ∷ []) 8

fault-tells : (kind breaking 0 ≡ T.Trapped) × (standing_at (turn breaking 0).core 0 ≡ Ended) × (length (turn breaking 0).notes ≡ 1)
unfolding decoded effect holds imm_result reg_result loaded number_at put_at cleared_at imm_i imm_s imm_b imm_u imm_j extended
fault-tells = (refl, refl, refl)
