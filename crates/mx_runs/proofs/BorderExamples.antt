-- Worked examples of borders and the sorts of turns, computed: each way of each row, with the border that stands there.
use Rattle.std.proofs.Common.{◌≡◌, ℕ, Bool, true, false, List, [], ◌∷◌, replicate, refl, arith, lit≤}
use Rattle.mx_words.specs.declared.perm.Perm.{Perm}
use Rattle.mx_words.specs.declared.perm.Perm.TheVariants as P
use Rattle.mx_words.specs.Bytes.{number_at, put_at}
use Rattle.mx_isa.specs.Fields.{imm_i, imm_s, imm_b, imm_u, imm_j, extended}
use Rattle.mx_isa.specs.Table.{decoded}
use Rattle.mx_model.specs.declared.values.Frame.{Frame}
use Rattle.mx_model.specs.declared.values.Gate.{Gate}
use Rattle.mx_model.specs.Agreement.{Border, Trap, AtGate, Back, Call, Nothing, border}
use Rattle.mx_model.specs.Effect.{effect, holds, imm_result, loaded, reg_result}
use Rattle.mx_model.specs.Reads.{reads}
use Rattle.mx_model.specs.State.{Running, State, no_module}
use Rattle.mx_model.proofs.Boots.{regs_with}
use Rattle.mx_model.proofs.Smalls.{frame, gate, grant, hart_of, small}
use Rattle.mx_runs.specs.Borders.{Crooked, Crosses, Elsewhere, Full, IsOfRow, NoFrame, OverFrame, SentBack}
use Rattle.mx_runs.proofs.BorderLaws.{border-tells}

-- domain 1 at word 4, with an instruction, a permission, an address in x1, gates and frames; domains 1 and 2 are dead
-- as said
abbrev standing_at : ℕ → Perm → ℕ → List Gate → List Frame → Bool → Bool → State
standing_at word p x1 gates frames own other =
    small ((4, word) ∷ []) (record no_module { dead = own } ∷ record no_module { dead = other } ∷ [])
    ((grant 4 1 p ∷ grant 40 1 P.Read ∷ []) ∷ [] ∷ []) [] gates
    (hart_of 1 0x80000010
    (regs_with ((1, x1) ∷ (7, 0x800000A0) ∷ (10, 10) ∷ (11, 11) ∷ (12, 12) ∷ (13, 13) ∷ (17, 12) ∷ [])) frames
    Running ∷ []) 8

-- the border of a state, and that its turn is of that row
abbrev is_of : State → Border → Type 0
is_of s b = (border (reads s) s.core 0 ≡ b) × IsOfRow (reads s) s.core 0 b

-- faults: a dead domain, a denied fetch, no instruction, EBREAK, and a denied store
dead-domain : is_of (standing_at 115 P.ExecuteRead 0 [] [] true false) (Trap 20 0x80000010)
unfolding decoded effect holds imm_result reg_result loaded number_at put_at imm_i imm_s imm_b imm_u imm_j extended
dead-domain = (refl, (record { kind = refl; note = refl }, λ g. (let l = g.1 in let z : ⊥ = omega (arith, l) in z)))

denied-fetch : is_of (standing_at 115 P.Read 0 [] [] false false) (Trap 1 0x80000010)
unfolding decoded effect holds imm_result reg_result loaded number_at put_at imm_i imm_s imm_b imm_u imm_j extended
denied-fetch = (refl, (record { kind = refl; note = refl }, λ g. (let l = g.0 in let z : ⊥ = omega (arith, l) in z)))

no-instruction : is_of (standing_at 0xFFFFFFFF P.ExecuteRead 0 [] [] false false) (Trap 2 0xFFFFFFFF)
unfolding decoded effect holds imm_result reg_result loaded number_at put_at imm_i imm_s imm_b imm_u imm_j extended
no-instruction = (refl, (record { kind = refl; note = refl }, λ g. (let l = g.0 in let z : ⊥ = omega (arith, l) in z)))

breakpoint : is_of (standing_at 0x00100073 P.ExecuteRead 0 [] [] false false) (Trap 3 0x80000010)
unfolding decoded effect holds imm_result reg_result loaded number_at put_at imm_i imm_s imm_b imm_u imm_j extended
breakpoint = (refl, (record { kind = refl; note = refl }, λ g. (let l = g.0 in let z : ⊥ = omega (arith, l) in z)))

denied-store : is_of (standing_at 0x0063A023 P.ExecuteRead 0 [] [] false false) (Trap 7 0x800000A0)
unfolding decoded effect holds imm_result reg_result loaded number_at put_at imm_i imm_s imm_b imm_u imm_j extended
denied-store = (refl, (record { kind = refl; note = refl }, λ g. (let l = g.0 in let z : ⊥ = omega (arith, l) in z)))

-- a call gate: the hart crosses, x1 is misaligned, a dead target sends it back, or 64 frames stand
crosses : is_of (standing_at 115 P.ExecuteRead 0x80000008 (gate 1 4 2 ∷ []) [] false false) (AtGate 4 2 0x80000008)
unfolding decoded effect holds imm_result reg_result loaded number_at put_at imm_i imm_s imm_b imm_u imm_j extended
crosses = (refl, record { place = refl; leads = refl; address = refl; passes = Crosses refl refl })

crooked : is_of (standing_at 115 P.ExecuteRead 0x80000006 (gate 1 4 2 ∷ []) [] false false) (AtGate 4 2 0x80000006)
unfolding decoded effect holds imm_result reg_result loaded number_at put_at imm_i imm_s imm_b imm_u imm_j extended
crooked = (
  refl,
  record {
    place = refl;
    leads = refl;
    address = refl;
    passes =
        Crooked (λ e. (let q : ⊥ = omega (arith, e) in q)) (record { kind = refl; note = refl });
  },
)

sent-back : is_of (standing_at 115 P.ExecuteRead 0x80000008 (gate 1 4 2 ∷ []) [] false true) (AtGate 4 2 0x80000008)
unfolding decoded effect holds imm_result reg_result loaded number_at put_at imm_i imm_s imm_b imm_u imm_j extended
sent-back = (refl, record { place = refl; leads = refl; address = refl; passes = SentBack refl refl refl })

full : is_of
    (standing_at 115 P.ExecuteRead 0x80000008 (gate 1 4 2 ∷ [])
    (replicate 64 (frame 0x80000000 2 (replicate 15 0))) false false) (AtGate 4 2 0x80000008)
unfolding decoded effect holds imm_result reg_result loaded number_at put_at imm_i imm_s imm_b imm_u imm_j extended
full = (
  refl,
  record {
    place = refl;
    leads = refl;
    address = refl;
    passes =
        Full (lit≤ tt) (record { kind = refl; note = refl });
  },
)

-- a return gate: there is no frame, the top one leads elsewhere, or it is given up
no-frame : is_of (standing_at 0x00008067 P.ExecuteRead 0x80000008 (gate 1 4 1 ∷ []) [] false false)
    (Back 0x80000010 0x80000008)
unfolding decoded effect holds imm_result reg_result loaded number_at put_at imm_i imm_s imm_b imm_u imm_j extended
no-frame = (refl, (refl, NoFrame refl (record { kind = refl; note = refl })))

elsewhere : is_of
    (standing_at 0x00008067 P.ExecuteRead 0x80000008 (gate 1 4 1 ∷ [])
    (frame 0x80000000 1 (replicate 15 0) ∷ frame 0x80000004 2 (replicate 15 0) ∷ []) false false)
    (Back 0x80000010 0x80000008)
unfolding decoded effect holds imm_result reg_result loaded number_at put_at imm_i imm_s imm_b imm_u imm_j extended
elsewhere = (
  refl,
  (
    refl,
    Elsewhere (frame 0x80000000 1 (replicate 15 0) ∷ []) (frame 0x80000004 2 (replicate 15 0)) refl
        (λ e. (let q : ⊥ = omega (arith, e) in q)) (record { kind = refl; note = refl }),
  ),
)

over-frame : is_of
    (standing_at 0x00008067 P.ExecuteRead 0x80000008 (gate 1 4 1 ∷ [])
    (frame 0x80000000 1 (replicate 15 0) ∷ frame 0x80000008 2 (replicate 15 0) ∷ []) false false)
    (Back 0x80000010 0x80000008)
unfolding decoded effect holds imm_result reg_result loaded number_at put_at imm_i imm_s imm_b imm_u imm_j extended
over-frame = (refl, (refl, OverFrame (frame 0x80000008 2 (replicate 15 0)) refl refl refl))

-- a call, and an instruction
calls : is_of (standing_at 115 P.ExecuteRead 0 [] [] false false) (Call 12 10 11 12 13)
unfolding decoded effect holds imm_result reg_result loaded number_at put_at imm_i imm_s imm_b imm_u imm_j extended
calls = (refl, record { x17 = refl; x10 = refl; x11 = refl; x12 = refl; x13 = refl; kind = refl })

adds : is_of (standing_at 0x00128293 P.ExecuteRead 0 [] [] false false) (Nothing)
unfolding decoded effect holds imm_result reg_result loaded number_at put_at imm_i imm_s imm_b imm_u imm_j extended
adds = (refl, refl)

-- by the law: a turn that crosses is one at that gate, and no other border is told by it
abbrev crossing : State
crossing = standing_at 115 P.ExecuteRead 0x80000008 (gate 1 4 2 ∷ []) [] false false

told : border (reads crossing) crossing.core 0 ≡ AtGate 4 2 0x80000008
told = (border-tells (reads crossing) crossing.core 0 refl (AtGate 4 2 0x80000008)).1 crosses.1

not-nothing : IsOfRow (reads crossing) crossing.core 0 Nothing → ⊥
unfolding decoded effect holds imm_result reg_result loaded number_at put_at imm_i imm_s imm_b imm_u imm_j extended
not-nothing e = cc
