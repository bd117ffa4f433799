-- Gate calls of a run, computed: one that returns and one that faults; and the entries of a list.
use Rattle.std.proofs.Common.{◌≡◌, ℕ, zero, suc, ◌<◌, [], ◌∷◌, refl, arith}
use Rattle.std.specs.Prelude.{map as list_map}
use Rattle.std.specs.List.{range_with_len}
use Rattle.mx_words.specs.declared.perm.Perm.TheVariants as P
use Rattle.mx_words.specs.Bytes.{number_at, put_at, cleared_at}
use Rattle.mx_isa.specs.Fields.{imm_i, imm_s, imm_b, imm_u, imm_j, extended}
use Rattle.mx_isa.specs.Table.{decoded}
use Rattle.mx_model.specs.declared.values.Gate.{Gate}
use Rattle.mx_model.specs.declared.values.TurnKind.TheVariants as T
use Rattle.mx_model.specs.Effect.{effect, holds, imm_result, loaded, reg, reg_result}
use Rattle.mx_model.specs.Run.{ByQuantum, Schedule, kind, run}
use Rattle.mx_model.specs.State.{State}
use Rattle.mx_model.proofs.Boots.{boot, inline}
use Rattle.mx_runs.specs.FlatStates.{by_words}
use Rattle.mx_runs.specs.GateCalls.{GivesBack, IsGateCall, depth, hart_then}

abbrev gate : ℕ → ℕ → ℕ → Gate
gate domain word target = record { domain = domain; word = word; target = target }

-- module 1 calls through the gate at word 1024 into module 2, which sets x2 and then has this word, at a return gate
abbrev calling : ℕ → State
calling last =
    boot (inline 0 P.ExecuteRead (0x800012B7 ∷ 0x000280E7 ∷ 0x00100073 ∷ [])
    ∷ inline 1024 P.ExecuteRead (0x00700113 ∷ last ∷ []) ∷ [])
    (gate 1 1024 2 ∷ gate 2 1025 2 ∷ []) ((1, 0x80000000) ∷ [])

abbrev one_each : Schedule
one_each = ByQuantum 1

-- JALR to x1, and EBREAK
abbrev returning : State
returning = calling 0x00008067

abbrev breaking : State
breaking = calling 0x00100073

-- how deep the hart is at moments 0 to 5
depths-of-a-return : list_map (depth one_each returning 0) (range_with_len 0 6) ≡ 0 ∷ 0 ∷ 0 ∷ 1 ∷ 1 ∷ 0 ∷ []
unfolding decoded effect holds imm_result reg_result loaded number_at put_at cleared_at
    imm_i imm_s imm_b imm_u imm_j extended
depths-of-a-return = refl

depths-of-a-fault : list_map (depth one_each breaking 0) (range_with_len 0 6) ≡ 0 ∷ 0 ∷ 0 ∷ 1 ∷ 1 ∷ 0 ∷ []
unfolding decoded effect holds imm_result reg_result loaded number_at put_at cleared_at
    imm_i imm_s imm_b imm_u imm_j extended
depths-of-a-fault = refl

-- depths at moments 2 to 5 of a call with one moment between
record AreDepths (s : State) : Type 0 where
  two : depth one_each s 0 2 ≡ 0
  three : depth one_each s 0 3 ≡ 1
  four : depth one_each s 0 4 ≡ 1
  five : depth one_each s 0 5 ≡ 0

inside : (s : State) → AreDepths s → (k : ℕ) → 2 < k → k < 5 → depth one_each s 0 2 < depth one_each s 0 k
inside s d zero l u = absurd (omega (arith, l))
inside s d (suc zero) l u = absurd (omega (arith, l))
inside s d (suc (suc zero)) l u = absurd (omega (arith, l))
inside s d (suc (suc (suc zero))) l u = let a = d.two in let b = d.three in omega (arith, a, b)
inside s d (suc (suc (suc (suc zero)))) l u = let a = d.two in let b = d.four in omega (arith, a, b)
inside s d (suc (suc (suc (suc (suc k))))) l u = absurd (omega (arith, u))

gate-call : (s : State) → AreDepths s → IsGateCall one_each s 0 2 5
gate-call s d = record {
  begins = let a = d.two in let b = d.three in omega (arith, a, b);
  later = omega arith;
  inside = inside s d;
  ends = let a = d.two in let b = d.five in omega (arith, a, b);
}

return-call : IsGateCall one_each returning 0 2 5
unfolding decoded effect holds imm_result reg_result loaded number_at put_at cleared_at
    imm_i imm_s imm_b imm_u imm_j extended
return-call = gate-call returning (record { two = refl; three = refl; four = refl; five = refl })

fault-call : IsGateCall one_each breaking 0 2 5
unfolding decoded effect holds imm_result reg_result loaded number_at put_at cleared_at
    imm_i imm_s imm_b imm_u imm_j extended
fault-call = gate-call breaking (record { two = refl; three = refl; four = refl; five = refl })

-- each gives back, and leaves by a return or by a fault, after which x10 tells the cause
return-back : GivesBack one_each returning 0 2 5
unfolding decoded effect holds imm_result reg_result loaded number_at put_at cleared_at
    imm_i imm_s imm_b imm_u imm_j extended
return-back = record { frames = refl; pc = refl; domain = refl; registers = refl }

fault-back : GivesBack one_each breaking 0 2 5
unfolding decoded effect holds imm_result reg_result loaded number_at put_at cleared_at
    imm_i imm_s imm_b imm_u imm_j extended
fault-back = record { frames = refl; pc = refl; domain = refl; registers = refl }

left-by-a-return : kind (run one_each 4 returning) 0 ≡ T.Returned
unfolding decoded effect holds imm_result reg_result loaded number_at put_at cleared_at
    imm_i imm_s imm_b imm_u imm_j extended
left-by-a-return = refl

left-by-a-fault : kind (run one_each 4 breaking) 0 ≡ T.Trapped
unfolding decoded effect holds imm_result reg_result loaded number_at put_at cleared_at
    imm_i imm_s imm_b imm_u imm_j extended
left-by-a-fault = refl

cause-of-the-fault : reg (hart_then one_each breaking 0 5).regs 10 ≡ 0xFFFFFF03
unfolding decoded effect holds imm_result reg_result loaded number_at put_at cleared_at
    imm_i imm_s imm_b imm_u imm_j extended
cause-of-the-fault = refl

-- a list by words
two-words : by_words (P.Read ∷ P.None ∷ [])
    ≡ record { first = 0; count = 1; value = P.Read } ∷ record { first = 1; count = 1; value = P.None } ∷ []
two-words = refl
