-- Why coherence asks for a valid state: one in which a hart waits on a call in another's name, which no valid state has. Computed.
use Rattle.std.proofs.Common.{◌≡◌, false, [], ◌∷◌, refl, None}
use Rattle.mx_words.specs.declared.perm.Perm.TheVariants as P
use Rattle.mx_words.specs.Bytes.{cleared_at, number_at, put_at}
use Rattle.mx_words.specs.Hearing.{nobody}
use Rattle.mx_isa.specs.Fields.{extended, imm_b, imm_i, imm_j, imm_s, imm_u}
use Rattle.mx_isa.specs.Table.{decoded}
use Rattle.mx_model.specs.declared.values.TurnKind.TheVariants as T
use Rattle.mx_model.specs.Effect.{effect, holds, imm_result, loaded, reg_result}
use Rattle.mx_model.specs.Reads.{reads}
use Rattle.mx_model.specs.Run.{kind, turn}
use Rattle.mx_model.specs.State.{Halted, State, Waiting, cache_at, no_module, with_cache}
use Rattle.mx_model.proofs.Boots.{regs_with}
use Rattle.mx_model.proofs.Smalls.{cache, call, give, grant, hart_of, small, span_of}

-- hart 0 waits on a revoke_all of word 8, which its domain owns, in the name of hart 1; it keeps a span of domain 2, which may write word 8
abbrev misnamed : State
misnamed =
    let s = small [] (no_module ∷ no_module ∷ []) ([] ∷ (grant 8 1 P.ReadWrite ∷ []) ∷ []) (give 8 1 1 ∷ []) []
    (hart_of 1 0x80000000 (regs_with []) [] (Waiting (call 4 (0x80000020 ∷ 4 ∷ 0 ∷ 0 ∷ []) 1 1 false) nobody)
    ∷ hart_of 1 0x80000000 (regs_with []) [] (Halted None) ∷ []) 8 in
    record s { core = with_cache 0 (cache [] ((2, span_of 8 1 P.ReadWrite) ∷ []) 0 0 0) s.core }

-- the call takes effect, and drops no span of hart 0: the entry that was current is stale
entry-was-current : (reads misnamed).perm 2 8 ≡ P.ReadWrite
entry-was-current = refl

entry-is-stale : (kind misnamed 0 ≡ T.Called) × ((reads (turn misnamed 0)).perm 2 8 ≡ P.None)
    × ((cache_at (turn misnamed 0).core 0).kept ≡ (2, span_of 8 1 P.ReadWrite) ∷ [])
unfolding decoded effect holds imm_result reg_result loaded number_at put_at cleared_at imm_i imm_s imm_b imm_u imm_j extended
entry-is-stale = (refl, refl, refl)
