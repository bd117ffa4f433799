-- Worked examples of supervisor calls on small states, computed: each effect, each test at its bounds, and which test is the earlier.
use Rattle.std.specs.Prelude.{◌≡◌, ℕ, ◌+◌, ◌%◌, ◌==◌, false, List, [], ◌∷◌, ◌++◌, flat_map, fold, replicate, slice_set, zip, refl}
use Rattle.std.specs.Prelude.{map as list_map}
use Rattle.std.specs.List.{range_with_len}
use Rattle.mx_words.specs.declared.perm.Perm.TheVariants as P
use Rattle.mx_words.specs.Bytes.{number_at, put_at, cleared_at}
use Rattle.mx_words.specs.FirstFit.{Area}
use Rattle.mx_words.specs.Newest.{map, owners}
use Rattle.mx_words.specs.Rights.{same}
use Rattle.mx_words.specs.Runs.{runs_of}
use Rattle.mx_isa.specs.Fields.{imm_i, imm_s, imm_b, imm_u, imm_j, extended}
use Rattle.mx_isa.specs.Table.{decoded}
use Rattle.mx_model.specs.declared.values.Gate.{Gate}
use Rattle.mx_model.specs.Effect.{holds, imm_result, reg_result, loaded, effect, reg}
use Rattle.mx_model.specs.Reads.{flat_reads}
use Rattle.mx_model.specs.Serve.{serve}
use Rattle.mx_model.specs.State.{Flat, Module, State, Running, hart_at, no_module}
use Rattle.mx_model.proofs.Boots.{bytes_of, regs_with}
use Rattle.mx_model.proofs.Smalls.{area, by, call, gate, give, grant, hart_of, run_of, small, words_with}

-- x17 and x10 to x13
abbrev regs_of : List ℕ → List ℕ
regs_of args = fold (λ regs (p : ℕ × ℕ). slice_set regs p.0 p.1) (replicate 32 0) (zip (17 ∷ 10 ∷ 11 ∷ 12 ∷ 13 ∷ []) args)

-- three modules. The first makes a call at word 0; it owns words 0, 1, 16 to 27 and its heap area, words 32 to 39, in which two words are
-- live. The
-- second owns words 28 to 31, and the third 40 to 47.
abbrev serving_with : List Gate → List Area → List ℕ → State
serving_with gates blocks args = small ((0, 115) ∷ (16, 7) ∷ (17, 7) ∷ (18, 7) ∷ (19, 7) ∷ (20, 7) ∷ (21, 7) ∷ (22, 7) ∷ (23, 7) ∷ (24, 7)
    ∷ (25, 7) ∷ (26, 7) ∷ (27, 7) ∷ (32, 9) ∷ (33, 9) ∷ (34, 9) ∷ (35, 9) ∷ (36, 9) ∷ (37, 9) ∷ (38, 9) ∷ (39, 9) ∷ [])
    (record no_module { heap = area 32 8; blocks = blocks } ∷ no_module ∷ no_module ∷ [])
    ((grant 0 2 P.ExecuteRead ∷ grant 16 8 P.ReadWrite ∷ grant 24 1 P.Read ∷ grant 34 2 P.ReadWrite ∷ [])
    ∷ (grant 16 16 P.Read ∷ grant 34 1 P.ReadWrite ∷ []) ∷ (grant 16 2 P.ExecuteRead ∷ grant 36 1 P.ReadWrite ∷ []) ∷ [])
    (give 0 2 1 ∷ give 16 12 1 ∷ give 32 8 1 ∷ give 28 4 2 ∷ give 40 8 3 ∷ [])
    gates (hart_of 1 0x80000000 (regs_of args) [] Running ∷ []) 8

abbrev standing : List Gate
standing = gate 2 16 3 ∷ gate 3 16 1 ∷ gate 1 18 1 ∷ gate 2 17 1 ∷ []

abbrev serving : List ℕ → State
serving args = serving_with standing (area 34 2 ∷ []) args

-- the effects: a grant to its one domain, also of nothing and to the caller itself
grant-two-words : list_map (λ gs. runs_of same (map gs 64)) (by (0 ∷ []) (serving (3 ∷ 0x80000040 ∷ 5 ∷ 3 ∷ 2 ∷ []))).grants
    ≡ (run_of 2 P.ExecuteRead ∷ run_of 14 P.None ∷ run_of 8 P.ReadWrite ∷ run_of 1 P.Read ∷ run_of 9 P.None ∷ run_of 2 P.ReadWrite
    ∷ run_of 28 P.None ∷ []) ∷ (run_of 16 P.None ∷ run_of 16 P.Read ∷ run_of 2 P.None ∷ run_of 1 P.ReadWrite ∷ run_of 29 P.None ∷ [])
    ∷ (run_of 16 P.None ∷ run_of 2 P.ReadWrite ∷ run_of 18 P.None ∷ run_of 1 P.ReadWrite ∷ run_of 27 P.None ∷ []) ∷ []
unfolding decoded effect holds imm_result reg_result loaded number_at put_at cleared_at imm_i imm_s imm_b imm_u imm_j extended
grant-two-words = refl

grant-nothing-maps : list_map (λ gs. runs_of same (map gs 64)) (by (0 ∷ []) (serving (3 ∷ 0x80000040 ∷ 4 ∷ 2 ∷ 0 ∷ []))).grants
    ≡ (run_of 2 P.ExecuteRead ∷ run_of 14 P.None ∷ run_of 8 P.ReadWrite ∷ run_of 1 P.Read ∷ run_of 9 P.None ∷ run_of 2 P.ReadWrite
    ∷ run_of 28 P.None ∷ []) ∷ (run_of 17 P.None ∷ run_of 15 P.Read ∷ run_of 2 P.None ∷ run_of 1 P.ReadWrite ∷ run_of 29 P.None ∷ [])
    ∷ (run_of 16 P.None ∷ run_of 2 P.ExecuteRead ∷ run_of 18 P.None ∷ run_of 1 P.ReadWrite ∷ run_of 27 P.None ∷ []) ∷ []
unfolding decoded effect holds imm_result reg_result loaded number_at put_at cleared_at imm_i imm_s imm_b imm_u imm_j extended
grant-nothing-maps = refl

grant-nothing-owners : runs_of (λ a b. a == b) (owners (by (0 ∷ []) (serving (3 ∷ 0x80000040 ∷ 4 ∷ 2 ∷ 0 ∷ []))).gives 64)
    ≡ run_of 2 1 ∷ run_of 14 0 ∷ run_of 12 1 ∷ run_of 4 2 ∷ run_of 8 1 ∷ run_of 8 3 ∷ run_of 16 0 ∷ []
unfolding decoded effect holds imm_result reg_result loaded number_at put_at cleared_at imm_i imm_s imm_b imm_u imm_j extended
grant-nothing-owners = refl

grant-to-itself : list_map (λ gs. runs_of same (map gs 64)) (by (0 ∷ []) (serving (3 ∷ 0x8000006C ∷ 4 ∷ 1 ∷ 3 ∷ []))).grants
    ≡ (run_of 2 P.ExecuteRead ∷ run_of 14 P.None ∷ run_of 8 P.ReadWrite ∷ run_of 1 P.Read ∷ run_of 2 P.None ∷ run_of 1 P.ExecuteRead
    ∷ run_of 6 P.None ∷ run_of 2 P.ReadWrite ∷ run_of 28 P.None ∷ [])
    ∷ (run_of 16 P.None ∷ run_of 16 P.Read ∷ run_of 2 P.None ∷ run_of 1 P.ReadWrite ∷ run_of 29 P.None ∷ [])
    ∷ (run_of 16 P.None ∷ run_of 2 P.ExecuteRead ∷ run_of 18 P.None ∷ run_of 1 P.ReadWrite ∷ run_of 27 P.None ∷ []) ∷ []
unfolding decoded effect holds imm_result reg_result loaded number_at put_at cleared_at imm_i imm_s imm_b imm_u imm_j extended
grant-to-itself = refl

-- revoke_all takes the range from every domain but the caller
revoke-all-of-two-maps : list_map (λ gs. runs_of same (map gs 64)) (by (0 ∷ []) (serving (4 ∷ 0x80000040 ∷ 8 ∷ []))).grants
    ≡ (run_of 2 P.ExecuteRead ∷ run_of 14 P.None ∷ run_of 8 P.ReadWrite ∷ run_of 1 P.Read ∷ run_of 9 P.None ∷ run_of 2 P.ReadWrite
    ∷ run_of 28 P.None ∷ []) ∷ (run_of 18 P.None ∷ run_of 14 P.Read ∷ run_of 2 P.None ∷ run_of 1 P.ReadWrite ∷ run_of 29 P.None ∷ [])
    ∷ (run_of 36 P.None ∷ run_of 1 P.ReadWrite ∷ run_of 27 P.None ∷ []) ∷ []
unfolding decoded effect holds imm_result reg_result loaded number_at put_at cleared_at imm_i imm_s imm_b imm_u imm_j extended
revoke-all-of-two-maps = refl

revoke-all-of-two-harts : (by (0 ∷ []) (serving (4 ∷ 0x80000040 ∷ 8 ∷ []))).core.harts
    ≡ hart_of 1 0x80000004 (regs_with ((11, 8) ∷ (17, 4) ∷ [])) [] Running ∷ []
unfolding decoded effect holds imm_result reg_result loaded number_at put_at cleared_at imm_i imm_s imm_b imm_u imm_j extended
revoke-all-of-two-harts = refl

-- a transfer changes owners alone, also to the supervisor
transfer-to-another-owners : runs_of (λ a b. a == b) (owners (by (0 ∷ []) (serving (5 ∷ 0x80000044 ∷ 5 ∷ 3 ∷ []))).gives 64)
    ≡ run_of 2 1 ∷ run_of 14 0 ∷ run_of 1 1 ∷ run_of 2 3 ∷ run_of 9 1 ∷ run_of 4 2 ∷ run_of 8 1 ∷ run_of 8 3 ∷ run_of 16 0 ∷ []
unfolding decoded effect holds imm_result reg_result loaded number_at put_at cleared_at imm_i imm_s imm_b imm_u imm_j extended
transfer-to-another-owners = refl

transfer-to-another-maps : list_map (λ gs. runs_of same (map gs 64)) (by (0 ∷ []) (serving (5 ∷ 0x80000044 ∷ 5 ∷ 3 ∷ []))).grants
    ≡ (run_of 2 P.ExecuteRead ∷ run_of 14 P.None ∷ run_of 8 P.ReadWrite ∷ run_of 1 P.Read ∷ run_of 9 P.None ∷ run_of 2 P.ReadWrite
    ∷ run_of 28 P.None ∷ []) ∷ (run_of 16 P.None ∷ run_of 16 P.Read ∷ run_of 2 P.None ∷ run_of 1 P.ReadWrite ∷ run_of 29 P.None ∷ [])
    ∷ (run_of 16 P.None ∷ run_of 2 P.ExecuteRead ∷ run_of 18 P.None ∷ run_of 1 P.ReadWrite ∷ run_of 27 P.None ∷ []) ∷ []
unfolding decoded effect holds imm_result reg_result loaded number_at put_at cleared_at imm_i imm_s imm_b imm_u imm_j extended
transfer-to-another-maps = refl

transfer-to-supervisor : runs_of (λ a b. a == b) (owners (by (0 ∷ []) (serving (5 ∷ 0x8000006C ∷ 4 ∷ 0 ∷ []))).gives 64)
    ≡ run_of 2 1 ∷ run_of 14 0 ∷ run_of 11 1 ∷ run_of 1 0 ∷ run_of 4 2 ∷ run_of 8 1 ∷ run_of 8 3 ∷ run_of 16 0 ∷ []
unfolding decoded effect holds imm_result reg_result loaded number_at put_at cleared_at imm_i imm_s imm_b imm_u imm_j extended
transfer-to-supervisor = refl

-- alloc at the lowest place: zeroed, read-write for the caller and nothing for the others; and after a block
alloc-one-maps : list_map (λ gs. runs_of same (map gs 64)) (by (0 ∷ []) (serving (6 ∷ 1 ∷ []))).grants
    ≡ (run_of 2 P.ExecuteRead ∷ run_of 14 P.None ∷ run_of 8 P.ReadWrite ∷ run_of 1 P.Read ∷ run_of 7 P.None ∷ run_of 1 P.ReadWrite
    ∷ run_of 1 P.None ∷ run_of 2 P.ReadWrite ∷ run_of 28 P.None ∷ [])
    ∷ (run_of 16 P.None ∷ run_of 16 P.Read ∷ run_of 2 P.None ∷ run_of 1 P.ReadWrite ∷ run_of 29 P.None ∷ [])
    ∷ (run_of 16 P.None ∷ run_of 2 P.ExecuteRead ∷ run_of 18 P.None ∷ run_of 1 P.ReadWrite ∷ run_of 27 P.None ∷ []) ∷ []
unfolding decoded effect holds imm_result reg_result loaded number_at put_at cleared_at imm_i imm_s imm_b imm_u imm_j extended
alloc-one-maps = refl

alloc-one-blocks : list_map (λ (m : Module). m.blocks) (by (0 ∷ []) (serving (6 ∷ 1 ∷ []))).core.modules
    ≡ (area 32 1 ∷ area 34 2 ∷ []) ∷ [] ∷ [] ∷ []
unfolding decoded effect holds imm_result reg_result loaded number_at put_at cleared_at imm_i imm_s imm_b imm_u imm_j extended
alloc-one-blocks = refl

alloc-one-ram : (by (0 ∷ []) (serving (6 ∷ 1 ∷ []))).core.ram
    ≡ flat_map bytes_of (words_with ((0, 115) ∷ (16, 7) ∷ (17, 7) ∷ (18, 7) ∷ (19, 7) ∷ (20, 7) ∷ (21, 7) ∷ (22, 7) ∷ (23, 7) ∷ (24, 7)
    ∷ (25, 7) ∷ (26, 7) ∷ (27, 7) ∷ (33, 9) ∷ (34, 9) ∷ (35, 9) ∷ (36, 9) ∷ (37, 9) ∷ (38, 9) ∷ (39, 9) ∷ []))
unfolding decoded effect holds imm_result reg_result loaded number_at put_at cleared_at imm_i imm_s imm_b imm_u imm_j extended
alloc-one-ram = refl

alloc-one-harts : (by (0 ∷ []) (serving (6 ∷ 1 ∷ []))).core.harts
    ≡ hart_of 1 0x80000004 (regs_with ((10, 0x80000080) ∷ (17, 6) ∷ [])) [] Running ∷ []
unfolding decoded effect holds imm_result reg_result loaded number_at put_at cleared_at imm_i imm_s imm_b imm_u imm_j extended
alloc-one-harts = refl

alloc-three-maps : list_map (λ gs. runs_of same (map gs 64)) (by (0 ∷ []) (serving (6 ∷ 3 ∷ []))).grants
    ≡ (run_of 2 P.ExecuteRead ∷ run_of 14 P.None ∷ run_of 8 P.ReadWrite ∷ run_of 1 P.Read ∷ run_of 9 P.None ∷ run_of 5 P.ReadWrite
    ∷ run_of 25 P.None ∷ []) ∷ (run_of 16 P.None ∷ run_of 16 P.Read ∷ run_of 2 P.None ∷ run_of 1 P.ReadWrite ∷ run_of 29 P.None ∷ [])
    ∷ (run_of 16 P.None ∷ run_of 2 P.ExecuteRead ∷ run_of 46 P.None ∷ []) ∷ []
unfolding decoded effect holds imm_result reg_result loaded number_at put_at cleared_at imm_i imm_s imm_b imm_u imm_j extended
alloc-three-maps = refl

alloc-three-blocks : list_map (λ (m : Module). m.blocks) (by (0 ∷ []) (serving (6 ∷ 3 ∷ []))).core.modules
    ≡ (area 34 2 ∷ area 36 3 ∷ []) ∷ [] ∷ [] ∷ []
unfolding decoded effect holds imm_result reg_result loaded number_at put_at cleared_at imm_i imm_s imm_b imm_u imm_j extended
alloc-three-blocks = refl

alloc-three-harts : (by (0 ∷ []) (serving (6 ∷ 3 ∷ []))).core.harts
    ≡ hart_of 1 0x80000004 (regs_with ((10, 0x80000090) ∷ (17, 6) ∷ [])) [] Running ∷ []
unfolding decoded effect holds imm_result reg_result loaded number_at put_at cleared_at imm_i imm_s imm_b imm_u imm_j extended
alloc-three-harts = refl

-- free takes the block's words from every domain
free-two-maps : list_map (λ gs. runs_of same (map gs 64)) (by (0 ∷ []) (serving (7 ∷ 0x80000088 ∷ []))).grants
    ≡ (run_of 2 P.ExecuteRead ∷ run_of 14 P.None ∷ run_of 8 P.ReadWrite ∷ run_of 1 P.Read ∷ run_of 39 P.None ∷ [])
    ∷ (run_of 16 P.None ∷ run_of 16 P.Read ∷ run_of 32 P.None ∷ [])
    ∷ (run_of 16 P.None ∷ run_of 2 P.ExecuteRead ∷ run_of 18 P.None ∷ run_of 1 P.ReadWrite ∷ run_of 27 P.None ∷ []) ∷ []
unfolding decoded effect holds imm_result reg_result loaded number_at put_at cleared_at imm_i imm_s imm_b imm_u imm_j extended
free-two-maps = refl

free-two-blocks : list_map (λ (m : Module). m.blocks) (by (0 ∷ []) (serving (7 ∷ 0x80000088 ∷ []))).core.modules ≡ [] ∷ [] ∷ [] ∷ []
unfolding decoded effect holds imm_result reg_result loaded number_at put_at cleared_at imm_i imm_s imm_b imm_u imm_j extended
free-two-blocks = refl

free-two-harts : (by (0 ∷ []) (serving (7 ∷ 0x80000088 ∷ []))).core.harts ≡ hart_of 1 0x80000004 (regs_with ((17, 7) ∷ [])) [] Running ∷ []
unfolding decoded effect holds imm_result reg_result loaded number_at put_at cleared_at imm_i imm_s imm_b imm_u imm_j extended
free-two-harts = refl

-- a gate stands after the others, and takes the place of one for its domain and word; it leads into the caller
gate-added-gates : (by (0 ∷ []) (serving (8 ∷ 0x8000004C ∷ 2 ∷ []))).core.gates
    ≡ gate 2 16 3 ∷ gate 3 16 1 ∷ gate 1 18 1 ∷ gate 2 17 1 ∷ gate 2 19 1 ∷ []
unfolding decoded effect holds imm_result reg_result loaded number_at put_at cleared_at imm_i imm_s imm_b imm_u imm_j extended
gate-added-gates = refl

gate-added-harts : (by (0 ∷ []) (serving (8 ∷ 0x8000004C ∷ 2 ∷ []))).core.harts
    ≡ hart_of 1 0x80000004 (regs_with ((11, 2) ∷ (17, 8) ∷ [])) [] Running ∷ []
unfolding decoded effect holds imm_result reg_result loaded number_at put_at cleared_at imm_i imm_s imm_b imm_u imm_j extended
gate-added-harts = refl

gate-replaced : (by (0 ∷ []) (serving (8 ∷ 0x80000040 ∷ 2 ∷ []))).core.gates ≡ gate 3 16 1 ∷ gate 1 18 1 ∷ gate 2 17 1 ∷ gate 2 16 1 ∷ []
unfolding decoded effect holds imm_result reg_result loaded number_at put_at cleared_at imm_i imm_s imm_b imm_u imm_j extended
gate-replaced = refl

-- and is removed
gate-removed : (by (0 ∷ []) (serving (9 ∷ 0x80000040 ∷ 2 ∷ []))).core.gates ≡ gate 3 16 1 ∷ gate 1 18 1 ∷ gate 2 17 1 ∷ []
unfolding decoded effect holds imm_result reg_result loaded number_at put_at cleared_at imm_i imm_s imm_b imm_u imm_j extended
gate-removed = refl

-- a return gate leads into its own domain
return-gate-added : (by (0 ∷ []) (serving (10 ∷ 0x80000040 ∷ []))).core.gates
    ≡ gate 2 16 3 ∷ gate 3 16 1 ∷ gate 1 18 1 ∷ gate 2 17 1 ∷ gate 1 16 1 ∷ []
unfolding decoded effect holds imm_result reg_result loaded number_at put_at cleared_at imm_i imm_s imm_b imm_u imm_j extended
return-gate-added = refl

return-gate-replaced : (by (0 ∷ []) (serving (10 ∷ 0x80000048 ∷ []))).core.gates ≡ gate 2 16 3 ∷ gate 3 16 1 ∷ gate 2 17 1 ∷ gate 1 18 1
    ∷ []
unfolding decoded effect holds imm_result reg_result loaded number_at put_at cleared_at imm_i imm_s imm_b imm_u imm_j extended
return-gate-replaced = refl

-- what calls answer
abbrev answers : List (List ℕ) → List ℕ
answers calls = list_map (λ args. reg (hart_at (by (0 ∷ []) (serving args)).core 0).regs 10) calls

-- where no table fits
abbrev tight : State → State
tight s = record s { core = record s.core { limit = record { upper = 1; leaf = 1; spill = 0 } } }

abbrev tight_answers : List (List ℕ) → List ℕ
tight_answers calls = list_map (λ args. reg (hart_at (by (0 ∷ []) (tight (serving args))).core 0).regs 10) calls

-- at the bounds, and where two tests fail: the earlier decides
-- 1 write
bounds-of-a-write : answers ((2 ∷ 0x80000040 ∷ 0x00001001 ∷ []) ∷ (2 ∷ 0x80000040 ∷ 0x00001000 ∷ []) ∷ (2 ∷ 0x800000FC ∷ 5 ∷ [])
    ∷ (2 ∷ 0x800000FC ∷ 4 ∷ []) ∷ (2 ∷ 0x7FFFFFFF ∷ 2 ∷ []) ∷ (2 ∷ 0 ∷ 0 ∷ []) ∷ (2 ∷ 0x8000006C ∷ 4 ∷ []) ∷ [])
    ≡ 0xFFFFFFF5 ∷ 0xFFFFFFFF ∷ 0xFFFFFFFF ∷ 0xFFFFFFF4 ∷ 0xFFFFFFFF ∷ 0 ∷ 0xFFFFFFF4 ∷ []
unfolding decoded effect holds imm_result reg_result loaded number_at put_at cleared_at imm_i imm_s imm_b imm_u imm_j extended
bounds-of-a-write = refl

-- 3 grant
bounds-of-a-grant : answers ((3 ∷ 0x80000042 ∷ 4 ∷ 4 ∷ 4 ∷ []) ∷ (3 ∷ 0x80000040 ∷ 0 ∷ 2 ∷ 1 ∷ []) ∷ (3 ∷ 0x800000FC ∷ 8 ∷ 2 ∷ 1 ∷ [])
    ∷ (3 ∷ 0x80000040 ∷ 4 ∷ 4 ∷ 4 ∷ []) ∷ (3 ∷ 0x80000070 ∷ 4 ∷ 0 ∷ 1 ∷ []) ∷ (3 ∷ 0x80000040 ∷ 4 ∷ 3 ∷ 3 ∷ [])
    ∷ (3 ∷ 0x80000070 ∷ 4 ∷ 2 ∷ 4 ∷ []) ∷ (3 ∷ 0x8000006C ∷ 4 ∷ 2 ∷ 3 ∷ []) ∷ (3 ∷ 0x8000006C ∷ 8 ∷ 2 ∷ 1 ∷ []) ∷ [])
    ≡ 0xFFFFFFFF ∷ 0xFFFFFFFF ∷ 0xFFFFFFFF ∷ 0xFFFFFFFD ∷ 0xFFFFFFFD ∷ 0 ∷ 0xFFFFFFFC ∷ 0 ∷ 0xFFFFFFFE ∷ []
unfolding decoded effect holds imm_result reg_result loaded number_at put_at cleared_at imm_i imm_s imm_b imm_u imm_j extended
bounds-of-a-grant = refl

-- 4 revoke_all
bounds-of-a-revoke : answers ((4 ∷ 0x80000041 ∷ 4 ∷ []) ∷ (4 ∷ 0x8000006C ∷ 8 ∷ []) ∷ (4 ∷ 0x80000068 ∷ 8 ∷ []) ∷ [])
    ≡ 0xFFFFFFFF ∷ 0xFFFFFFFE ∷ 0 ∷ []
unfolding decoded effect holds imm_result reg_result loaded number_at put_at cleared_at imm_i imm_s imm_b imm_u imm_j extended
bounds-of-a-revoke = refl

-- 5 transfer
bounds-of-a-transfer : answers ((5 ∷ 0x8000009C ∷ 4 ∷ 9 ∷ []) ∷ (5 ∷ 0x80000072 ∷ 4 ∷ 9 ∷ []) ∷ (5 ∷ 0x80000070 ∷ 4 ∷ 4 ∷ [])
    ∷ (5 ∷ 0x80000070 ∷ 4 ∷ 3 ∷ []) ∷ (5 ∷ 0x80000040 ∷ 4 ∷ 3 ∷ []) ∷ (5 ∷ 0x8000009C ∷ 4 ∷ 2 ∷ []) ∷ (5 ∷ 0x800000A0 ∷ 4 ∷ 2 ∷ []) ∷ [])
    ≡ 0xFFFFFFFF ∷ 0xFFFFFFFF ∷ 0xFFFFFFFD ∷ 0xFFFFFFFE ∷ 0 ∷ 0xFFFFFFFF ∷ 0xFFFFFFFE ∷ []
unfolding decoded effect holds imm_result reg_result loaded number_at put_at cleared_at imm_i imm_s imm_b imm_u imm_j extended
bounds-of-a-transfer = refl

-- 6 alloc
bounds-of-an-alloc : answers ((6 ∷ 0 ∷ []) ∷ (6 ∷ 5 ∷ []) ∷ (6 ∷ 4 ∷ []) ∷ (6 ∷ 2 ∷ []) ∷ [])
    ≡ 0xFFFFFFFF ∷ 0xFFFFFFFA ∷ 0x80000090 ∷ 0x80000080 ∷ []
unfolding decoded effect holds imm_result reg_result loaded number_at put_at cleared_at imm_i imm_s imm_b imm_u imm_j extended
bounds-of-an-alloc = refl

-- 7 free
bounds-of-a-free : answers ((7 ∷ 0x8000008C ∷ []) ∷ (7 ∷ 0x80000089 ∷ []) ∷ (7 ∷ 0x80000080 ∷ []) ∷ (7 ∷ 0x80000100 ∷ []) ∷ [])
    ≡ 0xFFFFFFF8 ∷ 0xFFFFFFF8 ∷ 0xFFFFFFF8 ∷ 0xFFFFFFF8 ∷ []
unfolding decoded effect holds imm_result reg_result loaded number_at put_at cleared_at imm_i imm_s imm_b imm_u imm_j extended
bounds-of-a-free = refl

-- 8 gate
bounds-of-a-gate : answers ((8 ∷ 0x80000041 ∷ 4 ∷ []) ∷ (8 ∷ 0x80000100 ∷ 2 ∷ []) ∷ (8 ∷ 0x80000070 ∷ 4 ∷ []) ∷ (8 ∷ 0x80000070 ∷ 1 ∷ [])
    ∷ (8 ∷ 0x80000070 ∷ 0 ∷ []) ∷ (8 ∷ 0x80000070 ∷ 2 ∷ []) ∷ (8 ∷ 0x8000006C ∷ 3 ∷ []) ∷ [])
    ≡ 0xFFFFFFFF ∷ 0xFFFFFFFF ∷ 0xFFFFFFFD ∷ 0xFFFFFFFD ∷ 0xFFFFFFFD ∷ 0xFFFFFFFE ∷ 0 ∷ []
unfolding decoded effect holds imm_result reg_result loaded number_at put_at cleared_at imm_i imm_s imm_b imm_u imm_j extended
bounds-of-a-gate = refl

-- 9 ungate, also of a return gate
bounds-of-an-ungate : answers ((9 ∷ 0x80000041 ∷ 4 ∷ []) ∷ (9 ∷ 0x80000070 ∷ 4 ∷ []) ∷ (9 ∷ 0x80000070 ∷ 0 ∷ []) ∷ (9 ∷ 0x80000070 ∷ 2 ∷ [])
    ∷ (9 ∷ 0x80000048 ∷ 2 ∷ []) ∷ (9 ∷ 0x80000048 ∷ 1 ∷ []) ∷ [])
    ≡ 0xFFFFFFFF ∷ 0xFFFFFFFD ∷ 0xFFFFFFFD ∷ 0xFFFFFFFE ∷ 0xFFFFFFF1 ∷ 0 ∷ []
unfolding decoded effect holds imm_result reg_result loaded number_at put_at cleared_at imm_i imm_s imm_b imm_u imm_j extended
bounds-of-an-ungate = refl

-- 10 return_gate
bounds-of-a-return-gate : answers ((10 ∷ 0x80000042 ∷ []) ∷ (10 ∷ 0x80000100 ∷ []) ∷ (10 ∷ 0x80000070 ∷ []) ∷ (10 ∷ 0x8000006C ∷ []) ∷ [])
    ≡ 0xFFFFFFFF ∷ 0xFFFFFFFF ∷ 0xFFFFFFFE ∷ 0 ∷ []
unfolding decoded effect holds imm_result reg_result loaded number_at put_at cleared_at imm_i imm_s imm_b imm_u imm_j extended
bounds-of-a-return-gate = refl

-- 11 query
bounds-of-a-query : answers ((11 ∷ 0x80000071 ∷ 4 ∷ []) ∷ (11 ∷ 0x80000070 ∷ 4 ∷ []) ∷ (11 ∷ 0x80000070 ∷ 0 ∷ [])
    ∷ (11 ∷ 0x80000070 ∷ 2 ∷ []) ∷ (11 ∷ 0x80000070 ∷ 1 ∷ []) ∷ (11 ∷ 0x80000040 ∷ 1 ∷ []) ∷ (11 ∷ 0x80000040 ∷ 2 ∷ [])
    ∷ (11 ∷ 0x80000040 ∷ 3 ∷ []) ∷ (11 ∷ 0x80000050 ∷ 3 ∷ []) ∷ [])
    ≡ 0xFFFFFFFF ∷ 0xFFFFFFFD ∷ 0xFFFFFFFD ∷ 0xFFFFFFFE ∷ 0 ∷ 2 ∷ 1 ∷ 3 ∷ 0 ∷ []
unfolding decoded effect holds imm_result reg_result loaded number_at put_at cleared_at imm_i imm_s imm_b imm_u imm_j extended
bounds-of-a-query = refl

-- 13 exchange
bounds-of-an-exchange : answers ((13 ∷ 0x80000042 ∷ 5 ∷ []) ∷ (13 ∷ 0x80000100 ∷ 5 ∷ []) ∷ (13 ∷ 0x80000060 ∷ 5 ∷ [])
    ∷ (13 ∷ 0x8000005C ∷ 5 ∷ []) ∷ [])
    ≡ 0xFFFFFFFF ∷ 0xFFFFFFFF ∷ 0xFFFFFFF4 ∷ 0 ∷ []
unfolding decoded effect holds imm_result reg_result loaded number_at put_at cleared_at imm_i imm_s imm_b imm_u imm_j extended
bounds-of-an-exchange = refl

-- no such call
unknown-calls : answers ((0 ∷ []) ∷ (14 ∷ []) ∷ (259 ∷ []) ∷ []) ≡ 0xFFFFFFF3 ∷ 0xFFFFFFF3 ∷ 0xFFFFFFF3 ∷ []
unfolding decoded effect holds imm_result reg_result loaded number_at put_at cleared_at imm_i imm_s imm_b imm_u imm_j extended
unknown-calls = refl

-- the want of tables is tested last
where-tables-are-full : tight_answers ((3 ∷ 0x80000040 ∷ 4 ∷ 4 ∷ 1 ∷ []) ∷ (3 ∷ 0x80000040 ∷ 4 ∷ 2 ∷ 4 ∷ [])
    ∷ (3 ∷ 0x80000070 ∷ 4 ∷ 2 ∷ 1 ∷ []) ∷ (3 ∷ 0x80000040 ∷ 4 ∷ 2 ∷ 1 ∷ []) ∷ (4 ∷ 0x80000070 ∷ 4 ∷ []) ∷ (4 ∷ 0x80000040 ∷ 4 ∷ [])
    ∷ (6 ∷ 0 ∷ []) ∷ (6 ∷ 5 ∷ []) ∷ (6 ∷ 1 ∷ []) ∷ (7 ∷ 0x8000008C ∷ []) ∷ (7 ∷ 0x80000088 ∷ []) ∷ [])
    ≡ 0xFFFFFFFD ∷ 0xFFFFFFFC ∷ 0xFFFFFFFE ∷ 0xFFFFFFFB ∷ 0xFFFFFFFE ∷ 0xFFFFFFFB ∷ 0xFFFFFFFF ∷ 0xFFFFFFFA ∷ 0xFFFFFFFB ∷ 0xFFFFFFF8
    ∷ 0xFFFFFFFB ∷ []
unfolding decoded effect holds imm_result reg_result loaded number_at put_at cleared_at imm_i imm_s imm_b imm_u imm_j extended
where-tables-are-full = refl

-- 256 gates, 255 gates, and 1024 or 1023 blocks elsewhere
abbrev with_gates : ℕ → List ℕ → ℕ
with_gates count args =
    reg (hart_at (by (0 ∷ []) (serving_with (list_map (λ i. gate 2 (20 + i) 1) (range_with_len 0 count)) [] args)).core 0).regs 10

abbrev with_blocks : ℕ → List ℕ → ℕ
with_blocks count args =
    reg (hart_at (by (0 ∷ []) (serving_with [] (list_map (λ i. area (1000 + i) 1) (range_with_len 0 count)) args)).core 0).regs 10

abbrev tight_with_blocks : ℕ → List ℕ → ℕ
tight_with_blocks count args =
    reg (hart_at (by (0 ∷ []) (tight (serving_with [] (list_map (λ i. area (1000 + i) 1) (range_with_len 0 count)) args))).core 0).regs 10

gates-at-most : with_gates 255 (8 ∷ 0x8000004C ∷ 2 ∷ []) ∷ with_gates 256 (8 ∷ 0x8000004C ∷ 2 ∷ [])
    ∷ with_gates 256 (8 ∷ 0x80000050 ∷ 2 ∷ []) ∷ with_gates 256 (8 ∷ 0x80000020 ∷ 2 ∷ []) ∷ with_gates 255 (10 ∷ 0x8000004C ∷ [])
    ∷ with_gates 256 (10 ∷ 0x8000004C ∷ []) ∷ with_gates 256 (10 ∷ 0x80000070 ∷ []) ∷ []
    ≡ 0 ∷ 0xFFFFFFF7 ∷ 0 ∷ 0xFFFFFFFE ∷ 0 ∷ 0xFFFFFFF7 ∷ 0xFFFFFFFE ∷ []
unfolding decoded effect holds imm_result reg_result loaded number_at put_at cleared_at imm_i imm_s imm_b imm_u imm_j extended
gates-at-most = refl

blocks-at-most : with_blocks 1023 (6 ∷ 1 ∷ []) ∷ with_blocks 1024 (6 ∷ 1 ∷ []) ∷ with_blocks 1024 (6 ∷ 0 ∷ [])
    ∷ with_blocks 1024 (6 ∷ 9 ∷ []) ∷ []
    ≡ 0x80000080 ∷ 0xFFFFFFF9 ∷ 0xFFFFFFFF ∷ 0xFFFFFFFA ∷ []
unfolding decoded effect holds imm_result reg_result loaded number_at put_at cleared_at imm_i imm_s imm_b imm_u imm_j extended
blocks-at-most = refl

blocks-before-tables : tight_with_blocks 1024 (6 ∷ 1 ∷ []) ∷ tight_with_blocks 1023 (6 ∷ 1 ∷ []) ∷ [] ≡ 0xFFFFFFF9 ∷ 0xFFFFFFFB ∷ []
unfolding decoded effect holds imm_result reg_result loaded number_at put_at cleared_at imm_i imm_s imm_b imm_u imm_j extended
blocks-before-tables = refl

-- the owners of words 0 to 4093, the supervisor and module 1 in turn, and then three words of module 1 and three of the supervisor: 4095
-- runs
abbrev alternating : Flat
alternating = record {
  core = record (serving []).core { size = 4100; modules = no_module ∷ no_module ∷ [] };
  maps = [] ∷ [] ∷ [];
  owners = list_map (λ i. i % 2) (range_with_len 0 4094) ++ 1 ∷ 1 ∷ 1 ∷ 0 ∷ 0 ∷ 0 ∷ [];
}

abbrev transferred : List ℕ → ℕ
transferred args = (serve (flat_reads alternating) alternating.core (call 5 args 0 1 false)).a0

owner-runs-at-most : transferred (0x80004000 ∷ 4 ∷ 2 ∷ 0 ∷ []) ∷ transferred (0x80003FFC ∷ 4 ∷ 2 ∷ 0 ∷ [])
    ∷ transferred (0x80003FFC ∷ 4 ∷ 3 ∷ 0 ∷ []) ∷ transferred (0x80004008 ∷ 4 ∷ 2 ∷ 0 ∷ []) ∷ []
    ≡ 0 ∷ 0xFFFFFFF2 ∷ 0xFFFFFFFD ∷ 0xFFFFFFFE ∷ []
unfolding decoded effect holds imm_result reg_result loaded number_at put_at cleared_at imm_i imm_s imm_b imm_u imm_j extended
owner-runs-at-most = refl
