-- Worked examples of turns of several harts and of announced calls on small states, computed.
use Rattle.std.specs.Prelude.{◌≡◌, true, false, [], ◌∷◌, refl, None}
use Rattle.std.specs.Prelude.{map as list_map}
use Rattle.mx_words.specs.declared.perm.Perm.TheVariants as P
use Rattle.mx_words.specs.Bytes.{number_at, put_at, cleared_at}
use Rattle.mx_words.specs.Newest.{map}
use Rattle.mx_words.specs.Rights.{same}
use Rattle.mx_words.specs.Runs.{runs_of}
use Rattle.mx_isa.specs.Fields.{imm_i, imm_s, imm_b, imm_u, imm_j, extended}
use Rattle.mx_isa.specs.Table.{decoded}
use Rattle.mx_model.specs.declared.values.TurnKind.TheVariants as T
use Rattle.mx_model.specs.Checks.{heard_ranges, looked_all, unheard_ranges}
use Rattle.mx_model.specs.Effect.{holds, imm_result, reg_result, loaded, effect}
use Rattle.mx_model.specs.Reads.{reads}
use Rattle.mx_model.specs.State.{Module, State, Running, Waiting, Halted, cache_at, no_module}
use Rattle.mx_model.proofs.Boots.{fault, regs_with}
use Rattle.mx_model.proofs.Smalls.{area, by, cache, call, give, grant, hart_of, kinds, run_of, small, span_of}

-- the first hart takes words 40 to 43 from domain 2 by a grant of nothing, while the second, in that domain, loads word 40 again and again:
-- the
-- grant is announced, heard (the span that meets it is dropped, and the next walk keeps nothing), and served
abbrev granting : State
granting = small ((0, 115) ∷ (1, 0x00100073) ∷ (16, 0x0002A303) ∷ (17, 0x0002A303) ∷ (18, 0x0002A303) ∷ (19, 0x0002A303) ∷ [])
    (no_module ∷ no_module ∷ [])
    ((grant 0 4 P.ExecuteRead ∷ []) ∷ (grant 16 8 P.ExecuteRead ∷ grant 40 4 P.Read ∷ grant 44 4 P.ReadWrite ∷ []) ∷ [])
    (give 40 4 1 ∷ [])
    []
    (hart_of 1 0x80000000 (regs_with ((10, 0x800000A0) ∷ (11, 16) ∷ (12, 2) ∷ (17, 3) ∷ [])) [] Running
    ∷ hart_of 2 0x80000040 (regs_with ((5, 0x800000A0) ∷ [])) [] Running ∷ []) 8

announced-harts : (by (1 ∷ 0 ∷ []) granting).core.harts
    ≡ hart_of 1 0x80000000 (regs_with ((10, 0x800000A0) ∷ (11, 16) ∷ (12, 2) ∷ (17, 3) ∷ [])) []
    (Waiting (call 3 (0x800000A0 ∷ 16 ∷ 2 ∷ 0 ∷ []) 0 1 false) (false ∷ false ∷ false ∷ false ∷ []))
    ∷ hart_of 2 0x80000044 (regs_with ((5, 0x800000A0) ∷ [])) [] Running ∷ []
unfolding decoded effect holds imm_result reg_result loaded number_at put_at cleared_at imm_i imm_s imm_b imm_u imm_j extended
announced-harts = refl

announced-caches : (by (1 ∷ 0 ∷ []) granting).core.caches
    ≡ (cache ((0, span_of 0 4 P.ExecuteRead) ∷ []) ((1, span_of 0 4 P.ExecuteRead) ∷ []) 0 0 1)
    ∷ (cache ((0, span_of 16 8 P.ExecuteRead) ∷ (5, span_of 40 4 P.Read) ∷ [])
    ((2, span_of 40 4 P.Read) ∷ (2, span_of 16 8 P.ExecuteRead) ∷ []) 0 0 2) ∷ []
unfolding decoded effect holds imm_result reg_result loaded number_at put_at cleared_at imm_i imm_s imm_b imm_u imm_j extended
announced-caches = refl

announced-kinds : kinds (1 ∷ 0 ∷ []) granting ≡ T.Ran ∷ T.Called ∷ []
unfolding decoded effect holds imm_result reg_result loaded number_at put_at cleared_at imm_i imm_s imm_b imm_u imm_j extended
announced-kinds = refl

-- a call that a hart hasn't heard keeps it from nothing
look-before-hearing : cache_at (looked_all (reads (by (0 ∷ []) granting)) 1 (record { place = 5; domain = 2; word = 40 } ∷ [])
    (by (0 ∷ []) granting).core) 1
    ≡ cache ((5, span_of 40 4 P.Read) ∷ []) ((2, span_of 40 4 P.Read) ∷ []) 0 0 1
unfolding decoded effect holds imm_result reg_result loaded number_at put_at cleared_at imm_i imm_s imm_b imm_u imm_j extended
look-before-hearing = refl

heard-harts : (by (1 ∷ 0 ∷ 0 ∷ 1 ∷ []) granting).core.harts
    ≡ hart_of 1 0x80000000 (regs_with ((10, 0x800000A0) ∷ (11, 16) ∷ (12, 2) ∷ (17, 3) ∷ [])) []
    (Waiting (call 3 (0x800000A0 ∷ 16 ∷ 2 ∷ 0 ∷ []) 0 1 false) (false ∷ true ∷ false ∷ false ∷ []))
    ∷ hart_of 2 0x80000048 (regs_with ((5, 0x800000A0) ∷ [])) [] Running ∷ []
unfolding decoded effect holds imm_result reg_result loaded number_at put_at cleared_at imm_i imm_s imm_b imm_u imm_j extended
heard-harts = refl

heard-caches : (by (1 ∷ 0 ∷ 0 ∷ 1 ∷ []) granting).core.caches
    ≡ (cache ((0, span_of 0 4 P.ExecuteRead) ∷ []) ((1, span_of 0 4 P.ExecuteRead) ∷ []) 0 0 1)
    ∷ (cache ((0, span_of 16 8 P.ExecuteRead) ∷ []) ((2, span_of 16 8 P.ExecuteRead) ∷ []) 1 0 3) ∷ []
unfolding decoded effect holds imm_result reg_result loaded number_at put_at cleared_at imm_i imm_s imm_b imm_u imm_j extended
heard-caches = refl

heard-kinds : kinds (1 ∷ 0 ∷ 0 ∷ 1 ∷ []) granting ≡ T.Ran ∷ T.Called ∷ T.Waited ∷ T.Ran ∷ []
unfolding decoded effect holds imm_result reg_result loaded number_at put_at cleared_at imm_i imm_s imm_b imm_u imm_j extended
heard-kinds = refl

served-harts : (by (1 ∷ 0 ∷ 1 ∷ 0 ∷ 1 ∷ []) granting).core.harts
    ≡ hart_of 1 0x80000004 (regs_with ((11, 16) ∷ (12, 2) ∷ (17, 3) ∷ [])) [] Running
    ∷ hart_of 2 0x80000048 (regs_with ((5, 0x800000A0) ∷ [])) [] (Halted None) ∷ []
unfolding decoded effect holds imm_result reg_result loaded number_at put_at cleared_at imm_i imm_s imm_b imm_u imm_j extended
served-harts = refl

served-caches : (by (1 ∷ 0 ∷ 1 ∷ 0 ∷ 1 ∷ []) granting).core.caches
    ≡ (cache ((0, span_of 0 4 P.ExecuteRead) ∷ []) ((1, span_of 0 4 P.ExecuteRead) ∷ []) 0 0 1)
    ∷ (cache ((0, span_of 16 8 P.ExecuteRead) ∷ (5, span_of 24 20 P.None) ∷ [])
    ((2, span_of 24 20 P.None) ∷ (2, span_of 16 8 P.ExecuteRead) ∷ []) 2 0 4) ∷ []
unfolding decoded effect holds imm_result reg_result loaded number_at put_at cleared_at imm_i imm_s imm_b imm_u imm_j extended
served-caches = refl

served-kinds : kinds (1 ∷ 0 ∷ 1 ∷ 0 ∷ 1 ∷ []) granting ≡ T.Ran ∷ T.Called ∷ T.Ran ∷ T.Called ∷ T.Trapped ∷ []
unfolding decoded effect holds imm_result reg_result loaded number_at put_at cleared_at imm_i imm_s imm_b imm_u imm_j extended
served-kinds = refl

served-notes : (by (1 ∷ 0 ∷ 1 ∷ 0 ∷ 1 ∷ []) granting).notes ≡ fault 5 1 2 0x80000048 5 0x800000A0 ∷ []
unfolding decoded effect holds imm_result reg_result loaded number_at put_at cleared_at imm_i imm_s imm_b imm_u imm_j extended
served-notes = refl

heard-twice-caches : (by (1 ∷ 0 ∷ 1 ∷ 1 ∷ 0 ∷ []) granting).core.caches
    ≡ (cache ((0, span_of 0 4 P.ExecuteRead) ∷ []) ((1, span_of 0 4 P.ExecuteRead) ∷ []) 0 0 1)
    ∷ (cache ((0, span_of 16 8 P.ExecuteRead) ∷ []) ((2, span_of 16 8 P.ExecuteRead) ∷ []) 2 0 4) ∷ []
unfolding decoded effect holds imm_result reg_result loaded number_at put_at cleared_at imm_i imm_s imm_b imm_u imm_j extended
heard-twice-caches = refl

heard-twice-kinds : kinds (1 ∷ 0 ∷ 1 ∷ 1 ∷ 0 ∷ []) granting ≡ T.Ran ∷ T.Called ∷ T.Ran ∷ T.Ran ∷ T.Called ∷ []
unfolding decoded effect holds imm_result reg_result loaded number_at put_at cleared_at imm_i imm_s imm_b imm_u imm_j extended
heard-twice-kinds = refl

-- each waits for the other: a hart that waits hears too
abbrev waiting : State
waiting = small ((0, 115) ∷ (1, 0x00100073) ∷ (16, 115) ∷ (17, 0x00100073) ∷ (18, 0x0002A303) ∷ (19, 0x0002A303) ∷ [])
    (no_module ∷ no_module ∷ [])
    ((grant 0 4 P.ExecuteRead ∷ []) ∷ (grant 16 8 P.ExecuteRead ∷ []) ∷ [])
    (give 40 4 1 ∷ give 48 4 2 ∷ [])
    []
    (hart_of 1 0x80000000 (regs_with ((10, 0x800000A0) ∷ (11, 4) ∷ (12, 2) ∷ (17, 3) ∷ [])) [] Running
    ∷ hart_of 2 0x80000040 (regs_with ((10, 0x800000C0) ∷ (11, 4) ∷ (17, 4) ∷ [])) [] Running ∷ []) 8

both-served-harts : (by (0 ∷ 1 ∷ 1 ∷ 0 ∷ 1 ∷ []) waiting).core.harts
    ≡ hart_of 1 0x80000004 (regs_with ((11, 4) ∷ (12, 2) ∷ (17, 3) ∷ [])) [] Running
    ∷ hart_of 2 0x80000044 (regs_with ((11, 4) ∷ (17, 4) ∷ [])) [] Running ∷ []
unfolding decoded effect holds imm_result reg_result loaded number_at put_at cleared_at imm_i imm_s imm_b imm_u imm_j extended
both-served-harts = refl

both-served-kinds : kinds (0 ∷ 1 ∷ 1 ∷ 0 ∷ 1 ∷ []) waiting ≡ T.Called ∷ T.Called ∷ T.Waited ∷ T.Called ∷ T.Called ∷ []
unfolding decoded effect holds imm_result reg_result loaded number_at put_at cleared_at imm_i imm_s imm_b imm_u imm_j extended
both-served-kinds = refl

both-served-maps : list_map (λ gs. runs_of same (map gs 64)) (by (0 ∷ 1 ∷ 1 ∷ 0 ∷ 1 ∷ []) waiting).grants
    ≡ (run_of 4 P.ExecuteRead ∷ run_of 60 P.None ∷ []) ∷ (run_of 16 P.None ∷ run_of 8 P.ExecuteRead ∷ run_of 40 P.None ∷ []) ∷ []
unfolding decoded effect holds imm_result reg_result loaded number_at put_at cleared_at imm_i imm_s imm_b imm_u imm_j extended
both-served-maps = refl

-- a halted hart holds up nobody and hears nothing; where all others are halted, a call is served at once
abbrev halting : State
halting = small ((0, 115) ∷ (1, 0x00100073) ∷ (16, 0x0002A303) ∷ (17, 0x0002A303) ∷ (18, 0x0002A303) ∷ (19, 0x0002A303) ∷ [])
    (no_module ∷ no_module ∷ [])
    ((grant 0 4 P.ExecuteRead ∷ []) ∷ (grant 16 8 P.ExecuteRead ∷ grant 40 4 P.Read ∷ grant 44 4 P.ReadWrite ∷ []) ∷ [])
    (give 40 4 1 ∷ [])
    []
    (hart_of 1 0x80000000 (regs_with ((10, 0x800000A0) ∷ (11, 4) ∷ (12, 2) ∷ (13, 3) ∷ (17, 3) ∷ [])) [] Running
    ∷ hart_of 2 0x80000040 (regs_with ((5, 0x800000A0) ∷ [])) [] Running ∷ hart_of 1 0x80000000 (regs_with []) [] (Halted None) ∷ []) 8

halted-hears-nothing : (by (0 ∷ 2 ∷ []) halting).core.harts
    ≡ hart_of 1 0x80000000 (regs_with ((10, 0x800000A0) ∷ (11, 4) ∷ (12, 2) ∷ (13, 3) ∷ (17, 3) ∷ [])) []
    (Waiting (call 3 (0x800000A0 ∷ 4 ∷ 2 ∷ 3 ∷ []) 0 1 false) (false ∷ false ∷ false ∷ false ∷ []))
    ∷ hart_of 2 0x80000040 (regs_with ((5, 0x800000A0) ∷ [])) [] Running ∷ hart_of 1 0x80000000 (regs_with []) [] (Halted None) ∷ []
unfolding decoded effect holds imm_result reg_result loaded number_at put_at cleared_at imm_i imm_s imm_b imm_u imm_j extended
halted-hears-nothing = refl

one-halted-harts : (by (0 ∷ 2 ∷ 0 ∷ 1 ∷ 0 ∷ []) halting).core.harts
    ≡ hart_of 1 0x80000004 (regs_with ((11, 4) ∷ (12, 2) ∷ (13, 3) ∷ (17, 3) ∷ [])) [] Running
    ∷ hart_of 2 0x80000044 (regs_with ((5, 0x800000A0) ∷ [])) [] Running ∷ hart_of 1 0x80000000 (regs_with []) [] (Halted None) ∷ []
unfolding decoded effect holds imm_result reg_result loaded number_at put_at cleared_at imm_i imm_s imm_b imm_u imm_j extended
one-halted-harts = refl

one-halted-kinds : kinds (0 ∷ 2 ∷ 0 ∷ 1 ∷ 0 ∷ []) halting ≡ T.Called ∷ T.Idle ∷ T.Waited ∷ T.Ran ∷ T.Called ∷ []
unfolding decoded effect holds imm_result reg_result loaded number_at put_at cleared_at imm_i imm_s imm_b imm_u imm_j extended
one-halted-kinds = refl

abbrev lonely : State
lonely = small ((0, 115) ∷ (1, 0x00100073) ∷ (16, 0x0002A303) ∷ (17, 0x0002A303) ∷ (18, 0x0002A303) ∷ (19, 0x0002A303) ∷ [])
    (no_module ∷ no_module ∷ [])
    ((grant 0 4 P.ExecuteRead ∷ []) ∷ (grant 16 8 P.ExecuteRead ∷ grant 40 4 P.Read ∷ grant 44 4 P.ReadWrite ∷ []) ∷ [])
    (give 40 4 1 ∷ [])
    []
    (hart_of 1 0x80000000 (regs_with ((10, 0x800000A0) ∷ (11, 4) ∷ (12, 2) ∷ (13, 3) ∷ (17, 3) ∷ [])) [] Running
    ∷ hart_of 2 0x80000040 (regs_with []) [] (Halted None) ∷ []) 8

all-others-halted-harts : (by (1 ∷ 0 ∷ 7 ∷ []) lonely).core.harts
    ≡ hart_of 1 0x80000004 (regs_with ((11, 4) ∷ (12, 2) ∷ (13, 3) ∷ (17, 3) ∷ [])) [] Running
    ∷ hart_of 2 0x80000040 (regs_with []) [] (Halted None) ∷ []
unfolding decoded effect holds imm_result reg_result loaded number_at put_at cleared_at imm_i imm_s imm_b imm_u imm_j extended
all-others-halted-harts = refl

all-others-halted-kinds : kinds (1 ∷ 0 ∷ 7 ∷ []) lonely ≡ T.Idle ∷ T.Called ∷ T.Idle ∷ []
unfolding decoded effect holds imm_result reg_result loaded number_at put_at cleared_at imm_i imm_s imm_b imm_u imm_j extended
all-others-halted-kinds = refl

all-others-halted-maps : list_map (λ gs. runs_of same (map gs 64)) (by (1 ∷ 0 ∷ 7 ∷ []) lonely).grants
    ≡ (run_of 4 P.ExecuteRead ∷ run_of 60 P.None ∷ []) ∷ (run_of 16 P.None ∷ run_of 8 P.ExecuteRead ∷ run_of 16 P.None
    ∷ run_of 1 P.ExecuteRead ∷ run_of 3 P.Read ∷ run_of 4 P.ReadWrite ∷ run_of 16 P.None ∷ []) ∷ []
unfolding decoded effect holds imm_result reg_result loaded number_at put_at cleared_at imm_i imm_s imm_b imm_u imm_j extended
all-others-halted-maps = refl

-- an alloc announces the whole heap area, also the words that no block has: the second hart looks at word 35 in it and at word 40 after it
abbrev allocating : State
allocating = small ((0, 115) ∷ (1, 0x00100073) ∷ (16, 0x0002A303) ∷ (17, 0x0003A303) ∷ (18, 0x0002A303) ∷ (19, 0x0003A303)
    ∷ (20, 0x0002A303) ∷ (21, 0x0003A303) ∷ [])
    (record no_module { heap = area 32 8; blocks = area 34 2 ∷ [] } ∷ no_module ∷ [])
    ((grant 0 4 P.ExecuteRead ∷ grant 34 2 P.ReadWrite ∷ grant 40 4 P.Read ∷ [])
    ∷ (grant 16 8 P.ExecuteRead ∷ grant 34 2 P.Read ∷ grant 40 4 P.Read ∷ []) ∷ [])
    (give 32 8 1 ∷ [])
    []
    (hart_of 1 0x80000000 (regs_with ((10, 1) ∷ (17, 6) ∷ [])) [] Running
    ∷ hart_of 2 0x80000040 (regs_with ((5, 0x8000008C) ∷ (7, 0x800000A0) ∷ [])) [] Running ∷ []) 8

alloc-announced-harts : (by (1 ∷ 1 ∷ 0 ∷ []) allocating).core.harts
    ≡ hart_of 1 0x80000000 (regs_with ((10, 1) ∷ (17, 6) ∷ [])) []
    (Waiting (call 6 (1 ∷ 0 ∷ 0 ∷ 0 ∷ []) 0 1 false) (false ∷ false ∷ false ∷ false ∷ []))
    ∷ hart_of 2 0x80000048 (regs_with ((5, 0x8000008C) ∷ (7, 0x800000A0) ∷ [])) [] Running ∷ []
unfolding decoded effect holds imm_result reg_result loaded number_at put_at cleared_at imm_i imm_s imm_b imm_u imm_j extended
alloc-announced-harts = refl

alloc-announced-caches : (by (1 ∷ 1 ∷ 0 ∷ []) allocating).core.caches
    ≡ (cache ((0, span_of 0 4 P.ExecuteRead) ∷ []) ((1, span_of 0 4 P.ExecuteRead) ∷ []) 0 0 1)
    ∷ (cache ((0, span_of 16 8 P.ExecuteRead) ∷ (5, span_of 34 2 P.Read) ∷ (7, span_of 40 4 P.Read) ∷ [])
    ((2, span_of 40 4 P.Read) ∷ (2, span_of 34 2 P.Read) ∷ (2, span_of 16 8 P.ExecuteRead) ∷ []) 1 0 3) ∷ []
unfolding decoded effect holds imm_result reg_result loaded number_at put_at cleared_at imm_i imm_s imm_b imm_u imm_j extended
alloc-announced-caches = refl

alloc-heard : (by (1 ∷ 1 ∷ 0 ∷ 1 ∷ 1 ∷ []) allocating).core.caches
    ≡ (cache ((0, span_of 0 4 P.ExecuteRead) ∷ []) ((1, span_of 0 4 P.ExecuteRead) ∷ []) 0 0 1)
    ∷ (cache ((0, span_of 16 8 P.ExecuteRead) ∷ (7, span_of 40 4 P.Read) ∷ [])
    ((2, span_of 40 4 P.Read) ∷ (2, span_of 16 8 P.ExecuteRead) ∷ []) 4 0 4) ∷ []
unfolding decoded effect holds imm_result reg_result loaded number_at put_at cleared_at imm_i imm_s imm_b imm_u imm_j extended
alloc-heard = refl

alloc-served-harts : (by (1 ∷ 1 ∷ 0 ∷ 1 ∷ 1 ∷ 0 ∷ []) allocating).core.harts
    ≡ hart_of 1 0x80000004 (regs_with ((10, 0x80000080) ∷ (17, 6) ∷ [])) [] Running
    ∷ hart_of 2 0x80000050 (regs_with ((5, 0x8000008C) ∷ (7, 0x800000A0) ∷ [])) [] Running ∷ []
unfolding decoded effect holds imm_result reg_result loaded number_at put_at cleared_at imm_i imm_s imm_b imm_u imm_j extended
alloc-served-harts = refl

alloc-served-maps : list_map (λ gs. runs_of same (map gs 64)) (by (1 ∷ 1 ∷ 0 ∷ 1 ∷ 1 ∷ 0 ∷ []) allocating).grants
    ≡ (run_of 4 P.ExecuteRead ∷ run_of 28 P.None ∷ run_of 1 P.ReadWrite ∷ run_of 1 P.None ∷ run_of 2 P.ReadWrite ∷ run_of 4 P.None
    ∷ run_of 4 P.Read ∷ run_of 20 P.None ∷ []) ∷ (run_of 16 P.None ∷ run_of 8 P.ExecuteRead ∷ run_of 10 P.None ∷ run_of 2 P.Read
    ∷ run_of 4 P.None ∷ run_of 4 P.Read ∷ run_of 20 P.None ∷ []) ∷ []
unfolding decoded effect holds imm_result reg_result loaded number_at put_at cleared_at imm_i imm_s imm_b imm_u imm_j extended
alloc-served-maps = refl

alloc-served-blocks : list_map (λ (m : Module). m.blocks) (by (1 ∷ 1 ∷ 0 ∷ 1 ∷ 1 ∷ 0 ∷ []) allocating).core.modules
    ≡ (area 32 1 ∷ area 34 2 ∷ []) ∷ [] ∷ []
unfolding decoded effect holds imm_result reg_result loaded number_at put_at cleared_at imm_i imm_s imm_b imm_u imm_j extended
alloc-served-blocks = refl

-- and so does a free
abbrev freeing : State
freeing = small ((0, 115) ∷ (1, 0x00100073) ∷ (16, 0x0002A303) ∷ (17, 0x0003A303) ∷ (18, 0x0002A303) ∷ (19, 0x0003A303) ∷ (20, 0x0002A303)
    ∷ (21, 0x0003A303) ∷ [])
    (record no_module { heap = area 32 8; blocks = area 34 2 ∷ [] } ∷ no_module ∷ [])
    ((grant 0 4 P.ExecuteRead ∷ grant 34 2 P.ReadWrite ∷ grant 40 4 P.Read ∷ [])
    ∷ (grant 16 8 P.ExecuteRead ∷ grant 34 2 P.Read ∷ grant 40 4 P.Read ∷ []) ∷ [])
    (give 32 8 1 ∷ [])
    []
    (hart_of 1 0x80000000 (regs_with ((10, 0x80000088) ∷ (17, 7) ∷ [])) [] Running
    ∷ hart_of 2 0x80000040 (regs_with ((5, 0x8000008C) ∷ (7, 0x800000A0) ∷ [])) [] Running ∷ []) 8

free-heard : (by (1 ∷ 1 ∷ 0 ∷ 1 ∷ 1 ∷ []) freeing).core.caches
    ≡ (cache ((0, span_of 0 4 P.ExecuteRead) ∷ []) ((1, span_of 0 4 P.ExecuteRead) ∷ []) 0 0 1)
    ∷ (cache ((0, span_of 16 8 P.ExecuteRead) ∷ (7, span_of 40 4 P.Read) ∷ [])
    ((2, span_of 40 4 P.Read) ∷ (2, span_of 16 8 P.ExecuteRead) ∷ []) 4 0 4) ∷ []
unfolding decoded effect holds imm_result reg_result loaded number_at put_at cleared_at imm_i imm_s imm_b imm_u imm_j extended
free-heard = refl

free-served-harts : (by (1 ∷ 1 ∷ 0 ∷ 1 ∷ 1 ∷ 0 ∷ 1 ∷ []) freeing).core.harts
    ≡ hart_of 1 0x80000004 (regs_with ((17, 7) ∷ [])) [] Running
    ∷ hart_of 2 0x80000050 (regs_with ((5, 0x8000008C) ∷ (7, 0x800000A0) ∷ [])) [] (Halted None) ∷ []
unfolding decoded effect holds imm_result reg_result loaded number_at put_at cleared_at imm_i imm_s imm_b imm_u imm_j extended
free-served-harts = refl

free-served-maps : list_map (λ gs. runs_of same (map gs 64)) (by (1 ∷ 1 ∷ 0 ∷ 1 ∷ 1 ∷ 0 ∷ 1 ∷ []) freeing).grants
    ≡ (run_of 4 P.ExecuteRead ∷ run_of 36 P.None ∷ run_of 4 P.Read ∷ run_of 20 P.None ∷ [])
    ∷ (run_of 16 P.None ∷ run_of 8 P.ExecuteRead ∷ run_of 16 P.None ∷ run_of 4 P.Read ∷ run_of 20 P.None ∷ []) ∷ []
unfolding decoded effect holds imm_result reg_result loaded number_at put_at cleared_at imm_i imm_s imm_b imm_u imm_j extended
free-served-maps = refl

free-served-blocks : list_map (λ (m : Module). m.blocks) (by (1 ∷ 1 ∷ 0 ∷ 1 ∷ 1 ∷ 0 ∷ 1 ∷ []) freeing).core.modules ≡ [] ∷ [] ∷ []
unfolding decoded effect holds imm_result reg_result loaded number_at put_at cleared_at imm_i imm_s imm_b imm_u imm_j extended
free-served-blocks = refl

-- a grant of no range announces nothing, and so does an alloc without a heap area: they wait, and no span is dropped
abbrev rangeless : State
rangeless = small ((0, 115) ∷ (1, 0x00100073) ∷ (16, 0x0002A303) ∷ (17, 0x0002A303) ∷ (18, 0x0002A303) ∷ (19, 0x0002A303) ∷ [])
    (no_module ∷ no_module ∷ [])
    ((grant 0 4 P.ExecuteRead ∷ []) ∷ (grant 16 8 P.ExecuteRead ∷ grant 40 4 P.Read ∷ grant 44 4 P.ReadWrite ∷ []) ∷ [])
    (give 40 4 1 ∷ [])
    []
    (hart_of 1 0x80000000 (regs_with ((10, 0x800000A2) ∷ (11, 4) ∷ (12, 2) ∷ (17, 3) ∷ [])) [] Running
    ∷ hart_of 2 0x80000040 (regs_with ((5, 0x800000A0) ∷ [])) [] Running ∷ []) 8

rangeless-grant-harts : (by (1 ∷ 0 ∷ 1 ∷ 0 ∷ []) rangeless).core.harts
    ≡ hart_of 1 0x80000004 (regs_with ((10, 0xFFFFFFFF) ∷ (11, 4) ∷ (12, 2) ∷ (17, 3) ∷ [])) [] Running
    ∷ hart_of 2 0x80000048 (regs_with ((5, 0x800000A0) ∷ [])) [] Running ∷ []
unfolding decoded effect holds imm_result reg_result loaded number_at put_at cleared_at imm_i imm_s imm_b imm_u imm_j extended
rangeless-grant-harts = refl

rangeless-grant-caches : (by (1 ∷ 0 ∷ 1 ∷ 0 ∷ []) rangeless).core.caches
    ≡ (cache ((0, span_of 0 4 P.ExecuteRead) ∷ []) ((1, span_of 0 4 P.ExecuteRead) ∷ []) 0 0 1)
    ∷ (cache ((0, span_of 16 8 P.ExecuteRead) ∷ (5, span_of 40 4 P.Read) ∷ [])
    ((2, span_of 40 4 P.Read) ∷ (2, span_of 16 8 P.ExecuteRead) ∷ []) 2 0 2) ∷ []
unfolding decoded effect holds imm_result reg_result loaded number_at put_at cleared_at imm_i imm_s imm_b imm_u imm_j extended
rangeless-grant-caches = refl

rangeless-grant-kinds : kinds (1 ∷ 0 ∷ 1 ∷ 0 ∷ []) rangeless ≡ T.Ran ∷ T.Called ∷ T.Ran ∷ T.Called ∷ []
unfolding decoded effect holds imm_result reg_result loaded number_at put_at cleared_at imm_i imm_s imm_b imm_u imm_j extended
rangeless-grant-kinds = refl

abbrev heapless : State
heapless = small ((0, 115) ∷ (1, 0x00100073) ∷ (16, 0x0002A303) ∷ (17, 0x0002A303) ∷ (18, 0x0002A303) ∷ (19, 0x0002A303) ∷ [])
    (no_module ∷ no_module ∷ [])
    ((grant 0 4 P.ExecuteRead ∷ []) ∷ (grant 16 8 P.ExecuteRead ∷ grant 40 4 P.Read ∷ grant 44 4 P.ReadWrite ∷ []) ∷ [])
    (give 40 4 1 ∷ [])
    []
    (hart_of 1 0x80000000 (regs_with ((10, 1) ∷ (17, 6) ∷ [])) [] Running
    ∷ hart_of 2 0x80000040 (regs_with ((5, 0x800000A0) ∷ [])) [] Running ∷ []) 8

heapless-alloc-harts : (by (1 ∷ 0 ∷ 1 ∷ 0 ∷ []) heapless).core.harts
    ≡ hart_of 1 0x80000004 (regs_with ((10, 0xFFFFFFFA) ∷ (17, 6) ∷ [])) [] Running
    ∷ hart_of 2 0x80000048 (regs_with ((5, 0x800000A0) ∷ [])) [] Running ∷ []
unfolding decoded effect holds imm_result reg_result loaded number_at put_at cleared_at imm_i imm_s imm_b imm_u imm_j extended
heapless-alloc-harts = refl

heapless-alloc-caches : (by (1 ∷ 0 ∷ 1 ∷ 0 ∷ []) heapless).core.caches
    ≡ (cache ((0, span_of 0 4 P.ExecuteRead) ∷ []) ((1, span_of 0 4 P.ExecuteRead) ∷ []) 0 0 1)
    ∷ (cache ((0, span_of 16 8 P.ExecuteRead) ∷ (5, span_of 40 4 P.Read) ∷ [])
    ((2, span_of 40 4 P.Read) ∷ (2, span_of 16 8 P.ExecuteRead) ∷ []) 2 0 2) ∷ []
unfolding decoded effect holds imm_result reg_result loaded number_at put_at cleared_at imm_i imm_s imm_b imm_u imm_j extended
heapless-alloc-caches = refl

-- two calls in flight, of the first and the third hart, of which each other hart has heard some
abbrev flights : State
flights = small ((0, 115) ∷ (1, 0x00100073) ∷ (16, 0x0002A303) ∷ (17, 0x0002A303) ∷ (18, 0x0002A303) ∷ (19, 0x0002A303) ∷ (24, 115)
    ∷ (25, 0x00100073) ∷ [])
    (no_module ∷ no_module ∷ [])
    ((grant 0 4 P.ExecuteRead ∷ []) ∷ (grant 16 16 P.ExecuteRead ∷ []) ∷ [])
    (give 40 4 1 ∷ give 48 4 2 ∷ [])
    []
    (hart_of 1 0x80000000 (regs_with ((10, 0x800000A0) ∷ (11, 8) ∷ (12, 2) ∷ (17, 3) ∷ [])) [] Running
    ∷ hart_of 2 0x80000040 (regs_with ((5, 0x800000A0) ∷ [])) [] Running
    ∷ hart_of 2 0x80000060 (regs_with ((10, 0x800000C4) ∷ (11, 8) ∷ (17, 4) ∷ [])) [] Running ∷ []) 8

heard-by-0 : heard_ranges (by (0 ∷ 1 ∷ 2 ∷ []) flights).core 0 ≡ []
unfolding decoded effect holds imm_result reg_result loaded number_at put_at cleared_at imm_i imm_s imm_b imm_u imm_j extended
heard-by-0 = refl

unheard-by-0 : unheard_ranges (by (0 ∷ 1 ∷ 2 ∷ []) flights).core 0 ≡ (49, 2) ∷ []
unfolding decoded effect holds imm_result reg_result loaded number_at put_at cleared_at imm_i imm_s imm_b imm_u imm_j extended
unheard-by-0 = refl

heard-by-1 : heard_ranges (by (0 ∷ 1 ∷ 2 ∷ []) flights).core 1 ≡ (40, 2) ∷ []
unfolding decoded effect holds imm_result reg_result loaded number_at put_at cleared_at imm_i imm_s imm_b imm_u imm_j extended
heard-by-1 = refl

unheard-by-1 : unheard_ranges (by (0 ∷ 1 ∷ 2 ∷ []) flights).core 1 ≡ (49, 2) ∷ []
unfolding decoded effect holds imm_result reg_result loaded number_at put_at cleared_at imm_i imm_s imm_b imm_u imm_j extended
unheard-by-1 = refl

heard-by-2 : heard_ranges (by (0 ∷ 1 ∷ 2 ∷ []) flights).core 2 ≡ (40, 2) ∷ []
unfolding decoded effect holds imm_result reg_result loaded number_at put_at cleared_at imm_i imm_s imm_b imm_u imm_j extended
heard-by-2 = refl

unheard-by-2 : unheard_ranges (by (0 ∷ 1 ∷ 2 ∷ []) flights).core 2 ≡ []
unfolding decoded effect holds imm_result reg_result loaded number_at put_at cleared_at imm_i imm_s imm_b imm_u imm_j extended
unheard-by-2 = refl
