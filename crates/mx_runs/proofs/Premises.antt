-- Why each premise of a law is asked: for each a state that lacks it alone, and what the law would say of it is false. Computed.
use Rattle.std.proofs.Common.{◌≡◌, ℕ, ◌^◌, ◌-◌, Bool, true, false, List, [], ◌∷◌, refl, Option, Some, None}
use Rattle.std.proofs.Common.{map as list_map}
use Rattle.mx_words.specs.declared.perm.Access.TheVariants as A
use Rattle.mx_words.specs.declared.perm.Perm.{Perm}
use Rattle.mx_words.specs.declared.perm.Perm.TheVariants as P
use Rattle.mx_words.specs.Bytes.{cleared_at, number_at, put_at}
use Rattle.mx_words.specs.Hearing.{nobody}
use Rattle.mx_words.specs.Rights.{allows}
use Rattle.mx_isa.specs.Fields.{extended, imm_b, imm_i, imm_j, imm_s, imm_u}
use Rattle.mx_isa.specs.Table.{decoded}
use Rattle.mx_model.specs.declared.values.Gate.{Gate}
use Rattle.mx_model.specs.declared.values.Note.{Note}
use Rattle.mx_model.specs.declared.values.Note.TheVariants as N
use Rattle.mx_model.specs.declared.values.TurnKind.{TurnKind}
use Rattle.mx_model.specs.declared.values.TurnKind.TheVariants as T
use Rattle.mx_model.specs.Agreement.{AtGate, Back, Trap, border}
use Rattle.mx_model.specs.Effect.{effect, holds, imm_result, loaded, reg, reg_result}
use Rattle.mx_model.specs.Reads.{reads}
use Rattle.mx_model.specs.Run.{ByQuantum, hart_of, kind, made_of, turn}
use Rattle.mx_model.specs.Serve.{code}
use Rattle.mx_model.specs.State.{Flat, Halted, Hart, Running, State, Status, Waiting, flat, hart_at, no_module}
use Rattle.mx_model.specs.Turn.{is_denied}
use Rattle.mx_model.proofs.Boots.{boot, inline, regs_with}
use Rattle.mx_model.proofs.Smalls.{call, gate, grant, small}
use Rattle.mx_model.proofs.Smalls.{hart_of as hart}
use Rattle.mx_laws.proofs.Premises.{proxy, short}
use Rattle.mx_runs.specs.FlatStates.{state_of}
use Rattle.mx_runs.specs.GateCalls.{depth, hart_then}

-- domain 1 at word 4, with an instruction, a permission there, registers, gates for it, a status, and dead or not; it may read word 40,
-- and of its two grants on word 41 the newer one is read-write
abbrev standing : ℕ → Perm → List (ℕ × ℕ) → List Gate → Status → Bool → State
standing word p regs gates status dead =
    small ((4, word) ∷ []) (record no_module { dead = dead } ∷ no_module ∷ [])
    ((grant 4 1 p ∷ grant 40 2 P.Read ∷ grant 41 1 P.ReadWrite ∷ []) ∷ [] ∷ []) [] gates
    (hart 1 0x80000010 (regs_with regs) [] status ∷ []) 8

-- whether the fetch of hart 0 is denied, and an access of it at an address
abbrev fetch_denied : State → Bool
fetch_denied s = is_denied (reads s) s.core 1 0x80000010 A.Execute

abbrev reads_denied : State → ℕ → Bool
reads_denied s address = is_denied (reads s) s.core 1 address A.Read

-- what the turn of hart 0 is, the cause of its fault or 0, and x10 after it
abbrev cause_of : Option Note → ℕ
cause_of None = 0
cause_of (Some (N.Fault t h d pc fault)) = fault.cause
cause_of (Some (N.Exit t h d c)) = 0

abbrev sort : State → TurnKind × ℕ
sort s = (kind s 0, cause_of (made_of s 0).note)

abbrev ten_after : State → ℕ
ten_after s = reg (hart_at (turn s 0).core 0).regs 10

-- denied exactly, of a fetch: the hart runs, in a live domain, at no call gate
waits-on : (fetch_denied (standing 115 P.Read [] [] (Waiting (call 12 [] 0 1 false) nobody) false) ≡ true)
    × (sort (standing 115 P.Read [] [] (Waiting (call 12 [] 0 1 false) nobody) false) ≡ (T.Called, 0))
unfolding decoded effect holds imm_result reg_result loaded number_at put_at cleared_at imm_i imm_s imm_b imm_u imm_j extended
waits-on = (refl, refl)

is-dead : (fetch_denied (standing 115 P.Read [] [] Running true) ≡ true) × (sort (standing 115 P.Read [] [] Running true) ≡ (T.Trapped, 20))
unfolding decoded effect holds imm_result reg_result loaded number_at put_at cleared_at imm_i imm_s imm_b imm_u imm_j extended
is-dead = (refl, refl)

stands-at-a-gate : (fetch_denied (standing 115 P.Read [] (gate 1 4 2 ∷ []) Running false) ≡ true)
    × (sort (standing 115 P.Read [] (gate 1 4 2 ∷ []) Running false) ≡ (T.Crossed, 0))
unfolding decoded effect holds imm_result reg_result loaded number_at put_at cleared_at imm_i imm_s imm_b imm_u imm_j extended
stands-at-a-gate = (refl, refl)

-- of a load: its fetch isn't denied (lw x5, 0(x7), with an address outside RAM)
fetch-comes-first : (reads_denied (standing 0x0003A283 P.Read ((7, 0x80000100) ∷ []) [] Running false) 0x80000100 ≡ true)
    × (sort (standing 0x0003A283 P.Read ((7, 0x80000100) ∷ []) [] Running false) ≡ (T.Trapped, 1))
unfolding decoded effect holds imm_result reg_result loaded number_at put_at cleared_at imm_i imm_s imm_b imm_u imm_j extended
fetch-comes-first = (refl, refl)

-- the newest grant that covers a word decides alone: an older one denies a write to word 41
older-denies : (allows P.Read A.Write ≡ false)
    × (is_denied (reads (standing 115 P.Read [] [] Running false)) (standing 115 P.Read [] [] Running false).core 1 0x800000A4 A.Write
    ≡ false)
older-denies = (refl, refl)

-- of call 2: at most 4096 bytes, all in RAM; of call 13: a word, in RAM. Each is denied, and another test comes first
abbrev asking : ℕ → ℕ → ℕ → State
asking number a0 a1 = standing 115 P.ExecuteRead ((10, a0) ∷ (11, a1) ∷ (17, number) ∷ []) [] Running false

too-many-bytes : (reads_denied (asking 2 0x80000020 4097) 0x80000020 ≡ true) × (ten_after (asking 2 0x80000020 4097) ≡ code 11)
unfolding decoded effect holds imm_result reg_result loaded number_at put_at cleared_at imm_i imm_s imm_b imm_u imm_j extended
too-many-bytes = (refl, refl)

bytes-outside : (reads_denied (asking 2 0x800000FE 4) 0x800000FE ≡ true) × (ten_after (asking 2 0x800000FE 4) ≡ code 1)
unfolding decoded effect holds imm_result reg_result loaded number_at put_at cleared_at imm_i imm_s imm_b imm_u imm_j extended
bytes-outside = (refl, refl)

no-word : (is_denied (reads (asking 13 0x800000A2 0)) (asking 13 0x800000A2 0).core 1 0x800000A2 A.Write ≡ true)
    × (ten_after (asking 13 0x800000A2 0) ≡ code 1)
unfolding decoded effect holds imm_result reg_result loaded number_at put_at cleared_at imm_i imm_s imm_b imm_u imm_j extended
no-word = (refl, refl)

word-outside : (is_denied (reads (asking 13 0x80000100 0)) (asking 13 0x80000100 0).core 1 0x80000100 A.Write ≡ true)
    × (ten_after (asking 13 0x80000100 0) ≡ code 1)
unfolding decoded effect holds imm_result reg_result loaded number_at put_at cleared_at imm_i imm_s imm_b imm_u imm_j extended
word-outside = (refl, refl)

-- borders: the hart runs. A waiting one has the border of its fetch, and its turn is that of its call
waits-at-a-border : (border (reads (standing 115 P.Read [] [] (Waiting (call 12 [] 0 1 false) nobody) false))
    (standing 115 P.Read [] [] (Waiting (call 12 [] 0 1 false) nobody) false).core 0 ≡ Trap 1 0x80000010)
    × (kind (standing 115 P.Read [] [] (Waiting (call 12 [] 0 1 false) nobody) false) 0 ≡ T.Called)
unfolding decoded effect holds imm_result reg_result loaded number_at put_at cleared_at imm_i imm_s imm_b imm_u imm_j extended
waits-at-a-border = (refl, refl)

-- a fault by one of the causes of gates is no trap: one at a call gate and one at a return gate
abbrev misaligned : State
misaligned = standing 115 P.ExecuteRead ((1, 0x80000006) ∷ []) (gate 1 4 2 ∷ []) Running false

gate-fault : (sort misaligned ≡ (T.Trapped, 19)) × (border (reads misaligned) misaligned.core 0 ≡ AtGate 4 2 0x80000006)
unfolding decoded effect holds imm_result reg_result loaded number_at put_at cleared_at imm_i imm_s imm_b imm_u imm_j extended
gate-fault = (refl, refl)

abbrev frameless : State
frameless = standing 0x00008067 P.ExecuteRead ((1, 0x80000008) ∷ []) (gate 1 4 1 ∷ []) Running false

return-fault : (sort frameless ≡ (T.Trapped, 18)) × (border (reads frameless) frameless.core 0 ≡ Back 0x80000010 0x80000008)
unfolding decoded effect holds imm_result reg_result loaded number_at put_at cleared_at imm_i imm_s imm_b imm_u imm_j extended
return-fault = (refl, refl)

-- refused calls: the turn is a call, the hart runs on, and the number is a code. An instruction leaves -1 in x10, an exit with -1 ends its
-- hart, and a call that is done answers another number
not-called : (kind (standing 0xFFF00513 P.ExecuteRead [] [] Running false) 0 ≡ T.Ran)
    × (ten_after (standing 0xFFF00513 P.ExecuteRead [] [] Running false) ≡ code 1)
unfolding decoded effect holds imm_result reg_result loaded number_at put_at cleared_at imm_i imm_s imm_b imm_u imm_j extended
not-called = (refl, refl)

not-running : (kind (asking 1 (2 ^ 32 - 1) 0) 0 ≡ T.Called) × ((hart_at (turn (asking 1 (2 ^ 32 - 1) 0) 0).core 0).status
    ≡ Halted (Some (2 ^ 32 - 1)))
    × (ten_after (asking 1 (2 ^ 32 - 1) 0) ≡ code 1)
unfolding decoded effect holds imm_result reg_result loaded number_at put_at cleared_at imm_i imm_s imm_b imm_u imm_j extended
not-running = (refl, refl, refl)

no-code : (kind (asking 12 0 0) 0 ≡ T.Called) × (ten_after (asking 12 0 0) ≡ 1)
unfolding decoded effect holds imm_result reg_result loaded number_at put_at cleared_at imm_i imm_s imm_b imm_u imm_j extended
no-code = (refl, refl)

-- foreign words: the state is valid, and the word may not be written after the turn either. In the invalid state of mx_laws in which a hart
-- waits on another domain's alloc, domain 1 may write word 20 neither before nor after, and it is cleared
cleared-for-another : (allows ((reads proxy).perm 1 20) A.Write ≡ false) × (allows ((reads (turn proxy 0)).perm 1 20) A.Write ≡ false)
    × (number_at proxy.core.ram 80 4 ≡ 0x12345678) × (number_at (turn proxy 0).core.ram 80 4 ≡ 0)
unfolding decoded effect holds imm_result reg_result loaded number_at put_at cleared_at imm_i imm_s imm_b imm_u imm_j extended
cleared-for-another = (refl, refl, refl, refl)

-- twins: the numbers of turns and of harts are the same. By one quantum after another other harts are next
abbrev idle : ℕ → List Hart → State
idle turns harts =
    let s = small [] (no_module ∷ []) ([] ∷ []) [] [] harts 8 in record s { core = record s.core { turns = turns } }

abbrev resting : Hart
resting = hart 1 0x80000000 (regs_with []) [] Running

other-turns : (hart_of (ByQuantum 1) (idle 0 (resting ∷ resting ∷ [])).core ≡ 0)
    × (hart_of (ByQuantum 1) (idle 1 (resting ∷ resting ∷ [])).core ≡ 1)
other-turns = (refl, refl)

other-harts : (hart_of (ByQuantum 1) (idle 2 (resting ∷ resting ∷ [])).core ≡ 0)
    × (hart_of (ByQuantum 1) (idle 2 (resting ∷ resting ∷ resting ∷ [])).core ≡ 2)
other-harts = (refl, refl)

-- and each turn meets no border: a crossing leaves the harts in a domain whose rights may differ
abbrev entering : Perm → State
entering p = small [] (no_module ∷ no_module ∷ []) ([] ∷ (grant 8 1 p ∷ []) ∷ []) [] (gate 1 4 2 ∷ [])
    (hart 1 0x80000010 (regs_with ((1, 0x80000014) ∷ [])) [] Running ∷ []) 8

crossed-apart : list_map (λ (p : Perm). border (reads (entering p)) (entering p).core 0) (P.Read ∷ P.None ∷ [])
    ≡ AtGate 4 2 0x80000014 ∷ AtGate 4 2 0x80000014 ∷ []
unfolding decoded effect holds imm_result reg_result loaded number_at put_at cleared_at imm_i imm_s imm_b imm_u imm_j extended
crossed-apart = refl

rights-apart : list_map (λ (p : Perm). (reads (turn (entering p) 0)).perm (hart_at (turn (entering p) 0).core 0).domain 8)
    (P.Read ∷ P.None ∷ [])
    ≡ P.Read ∷ P.None ∷ []
unfolding decoded effect holds imm_result reg_result loaded number_at put_at cleared_at imm_i imm_s imm_b imm_u imm_j extended
rights-apart = refl

-- gate calls: a call ends at the first moment with no more frames. Module 1 calls, and after the return adds 1 to x8: at moment 6 there are
-- no frames again, and pc isn't x1 of moment 2, which is that of moment 5
abbrev calling : State
calling = boot (inline 0 P.ExecuteRead (0x800012B7 ∷ 0x000280E7 ∷ 0x00140413 ∷ 0x00100073 ∷ [])
    ∷ inline 1024 P.ExecuteRead (0x00700113 ∷ 0x00008067 ∷ []) ∷ [])
    (record { domain = 1; word = 1024; target = 2 } ∷ record { domain = 2; word = 1025; target = 2 } ∷ []) ((1, 0x80000000) ∷ [])

after-the-end : list_map {B = ℕ × ℕ} (λ (n : ℕ). (depth (ByQuantum 1) calling 0 n, (hart_then (ByQuantum 1) calling 0 n).pc))
    (2 ∷ 3 ∷ 5 ∷ 6 ∷ [])
    ≡ (0, 0x80001000) ∷ (1, 0x80001000) ∷ (0, 0x80000008) ∷ (0, 0x8000000C) ∷ []
unfolding decoded effect holds imm_result reg_result loaded number_at put_at cleared_at imm_i imm_s imm_b imm_u imm_j extended
after-the-end = refl

-- and the state is valid: mx_laws has a state in which the top frame holds fourteen registers, and gives back no fifteenth
fifteenth-stays : list_map {B = ℕ × ℕ} (λ (n : ℕ). (depth (ByQuantum 1) short 0 n, reg (hart_then (ByQuantum 1) short 0 n).regs 27))
    (0 ∷ 1 ∷ []) ≡ (1, 7) ∷ (0, 7) ∷ []
unfolding decoded effect holds imm_result reg_result loaded number_at put_at cleared_at imm_i imm_s imm_b imm_u imm_j extended
fifteenth-stays = refl

-- flat states: each map has as many words as RAM, and there is an owner for each word
abbrev thin : List Perm → List ℕ → Flat
thin m owners = record { core = record (small [] [] [] [] [] [] 8).core { size = 2 }; maps = m ∷ []; owners = owners }

short-map : (flat (state_of (thin (P.Read ∷ []) (1 ∷ 1 ∷ [])))).maps ≡ (P.Read ∷ P.None ∷ []) ∷ []
short-map = refl

short-owners : (flat (state_of (thin (P.Read ∷ P.None ∷ []) (1 ∷ [])))).owners ≡ 1 ∷ 0 ∷ []
short-owners = refl
