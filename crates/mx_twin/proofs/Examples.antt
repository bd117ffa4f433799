-- Worked examples, computed: two machines that differ in a word, watched for either domain, and the lines of the answers.
use Rattle.std.specs.Prelude.{◌≡◌, ℕ, [], ◌∷◌, codes, refl}
use Rattle.std.specs.Fmt.{digits}
use Rattle.mx_words.specs.declared.perm.Perm.TheVariants as P
use Rattle.mx_words.specs.Bytes.{number_at, put_at}
use Rattle.mx_isa.specs.Fields.{imm_i, imm_s, imm_b, imm_u, imm_j, extended}
use Rattle.mx_isa.specs.Table.{decoded}
use Rattle.mx_model.specs.declared.values.TurnKind.TheVariants as T
use Rattle.mx_model.specs.Effect.{effect, holds, imm_result, loaded, reg_result}
use Rattle.mx_model.specs.State.{Flat, Running, flat, no_module}
use Rattle.mx_model.proofs.Boots.{regs_with}
use Rattle.mx_model.proofs.Smalls.{grant, hart_of, small}
use Rattle.mx_twin.specs.declared.twin.TwinEnd.TheVariants as E
use Rattle.mx_twin.specs.Lines.{twin_line}
use Rattle.mx_twin.specs.Twins.{twins}

-- domain 1 adds, and may read word 32. Domain 2 loads word 48, which it alone may read and in which this secret stands, and stores it
-- into word 32
abbrev with_secret : ℕ → Flat
with_secret secret = flat (small
    ((0, 0x00700293) ∷ (1, 0x00700293) ∷ (2, 0x00700293) ∷ (8, 0x00032383) ∷ (9, 0x00742023) ∷ (48, secret) ∷ [])
    (no_module ∷ no_module ∷ [])
    ((grant 32 1 P.Read ∷ grant 0 8 P.ExecuteRead ∷ [])
    ∷ (grant 48 1 P.Read ∷ grant 32 1 P.ReadWrite ∷ grant 8 8 P.ExecuteRead ∷ []) ∷ [])
    [] []
    (hart_of 1 0x80000000 (regs_with []) [] Running
    ∷ hart_of 2 0x80000020 (regs_with ((6, 0x800000C0) ∷ (8, 0x80000080) ∷ [])) [] Running ∷ []) 8)

-- the fourth turn shows the secret to domain 1; the load before it changes nothing that domain 1 sees
shown-by-a-store : twins 1 1 4 (with_secret 5) (with_secret 6) ≡ E.Ended 4 1 T.Ran
unfolding decoded effect holds imm_result reg_result loaded number_at put_at imm_i imm_s imm_b imm_u imm_j extended
shown-by-a-store = refl

agreed-before : twins 1 1 3 (with_secret 5) (with_secret 6) ≡ E.Agreed
unfolding decoded effect holds imm_result reg_result loaded number_at put_at imm_i imm_s imm_b imm_u imm_j extended
agreed-before = refl

-- with three turns in a row hart 1 stores in the fifth turn
shown-in-a-row : twins 1 3 5 (with_secret 5) (with_secret 6) ≡ E.Ended 5 1 T.Ran
unfolding decoded effect holds imm_result reg_result loaded number_at put_at imm_i imm_s imm_b imm_u imm_j extended
shown-in-a-row = refl

-- domain 2 sees the secret from the start
seen-at-once : twins 2 1 4 (with_secret 5) (with_secret 6) ≡ E.Ended 0 0 T.Idle
seen-at-once = refl

-- the same secret
agreed : twins 1 1 4 (with_secret 5) (with_secret 5) ≡ E.Agreed
unfolding decoded effect holds imm_result reg_result loaded number_at put_at imm_i imm_s imm_b imm_u imm_j extended
agreed = refl

-- the lines
line-ended : twin_line 10 (E.Ended 4 1 T.Ran) ≡ codes "twin ended step=4 hart=1 kind=ran\n"
unfolding twin_line digits
line-ended = refl

line-agreed : twin_line 10 E.Agreed ≡ codes "twin agreed steps=10\n"
unfolding twin_line digits
line-agreed = refl
