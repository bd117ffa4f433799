-- Worked examples of looks, of loads and stores, and of what a caller drops on small states, computed.
use Rattle.std.specs.Prelude.{◌≡◌, ℕ, true, false, [], ◌∷◌, flat_map, replicate, refl, Some, None}
use Rattle.mx_words.specs.declared.perm.Perm.TheVariants as P
use Rattle.mx_words.specs.Bytes.{number_at, put_at, cleared_at}
use Rattle.mx_isa.specs.Fields.{imm_i, imm_s, imm_b, imm_u, imm_j, extended}
use Rattle.mx_isa.specs.Table.{decoded}
use Rattle.mx_model.specs.declared.values.Note.TheVariants as N
use Rattle.mx_model.specs.declared.values.TurnKind.TheVariants as T
use Rattle.mx_model.specs.Effect.{holds, imm_result, reg_result, loaded, effect}
use Rattle.mx_model.specs.State.{State, Running, Waiting, Halted, no_module}
use Rattle.mx_model.proofs.Boots.{bytes_of, fault, regs_with}
use Rattle.mx_model.proofs.Smalls.{area, by, cache, call, frame, give, grant, hart_of, kinds, saved_with, small, span_of, words_with}

-- the caller drops its own spans on the range at the moment of effect, refused or not
abbrev refused : State
refused = small ((0, 115) ∷ (1, 0x00128293) ∷ (2, 0x00100073) ∷ [])
    (record no_module { heap = area 32 4 } ∷ no_module ∷ [])
    ((grant 0 4 P.ExecuteRead ∷ []) ∷ [] ∷ [])
    (give 0 2 1 ∷ [])
    []
    (hart_of 1 0x80000000 (regs_with ((10, 0x80000000) ∷ (11, 4) ∷ (12, 9) ∷ (17, 3) ∷ [])) [] Running ∷ []) 8

dropped-though-refused-caches : (by (0 ∷ 0 ∷ []) refused).core.caches
    ≡ (cache ((0, span_of 0 4 P.ExecuteRead) ∷ []) ((1, span_of 0 4 P.ExecuteRead) ∷ []) 0 0 2) ∷ []
unfolding decoded effect holds imm_result reg_result loaded number_at put_at cleared_at imm_i imm_s imm_b imm_u imm_j extended
dropped-though-refused-caches = refl

dropped-though-refused-harts : (by (0 ∷ 0 ∷ []) refused).core.harts
    ≡ hart_of 1 0x80000008 (regs_with ((5, 1) ∷ (10, 0xFFFFFFFD) ∷ (11, 4) ∷ (12, 9) ∷ (17, 3) ∷ [])) [] Running ∷ []
unfolding decoded effect holds imm_result reg_result loaded number_at put_at cleared_at imm_i imm_s imm_b imm_u imm_j extended
dropped-though-refused-harts = refl

abbrev done : State
done = small ((0, 115) ∷ (1, 0x00128293) ∷ (2, 0x00100073) ∷ [])
    (record no_module { heap = area 32 4 } ∷ no_module ∷ [])
    ((grant 0 4 P.ExecuteRead ∷ []) ∷ [] ∷ [])
    (give 0 2 1 ∷ [])
    []
    (hart_of 1 0x80000000 (regs_with ((10, 0x80000000) ∷ (11, 4) ∷ (17, 4) ∷ [])) [] Running ∷ []) 8

dropped-as-done : (by (0 ∷ 0 ∷ []) done).core.caches ≡ (cache ((0, span_of 0 4 P.ExecuteRead) ∷ []) ((1, span_of 0 4 P.ExecuteRead) ∷ []) 0
    0 2) ∷ []
unfolding decoded effect holds imm_result reg_result loaded number_at put_at cleared_at imm_i imm_s imm_b imm_u imm_j extended
dropped-as-done = refl

abbrev elsewhere : State
elsewhere = small ((0, 115) ∷ (1, 0x00128293) ∷ (2, 0x00100073) ∷ [])
    (record no_module { heap = area 32 4 } ∷ no_module ∷ [])
    ((grant 0 4 P.ExecuteRead ∷ []) ∷ [] ∷ [])
    (give 0 2 1 ∷ [])
    []
    (hart_of 1 0x80000000 (regs_with ((10, 1) ∷ (17, 6) ∷ [])) [] Running ∷ []) 8

own-heap-dropped-caches : (by (0 ∷ 0 ∷ []) elsewhere).core.caches
    ≡ (cache ((0, span_of 0 4 P.ExecuteRead) ∷ []) ((1, span_of 0 4 P.ExecuteRead) ∷ []) 1 0 1) ∷ []
unfolding decoded effect holds imm_result reg_result loaded number_at put_at cleared_at imm_i imm_s imm_b imm_u imm_j extended
own-heap-dropped-caches = refl

own-heap-dropped-harts : (by (0 ∷ 0 ∷ []) elsewhere).core.harts
    ≡ hart_of 1 0x80000008 (regs_with ((5, 1) ∷ (10, 0x80000080) ∷ (17, 6) ∷ [])) [] Running ∷ []
unfolding decoded effect holds imm_result reg_result loaded number_at put_at cleared_at imm_i imm_s imm_b imm_u imm_j extended
own-heap-dropped-harts = refl

abbrev unannounced : State
unannounced = small ((0, 115) ∷ (1, 0x00128293) ∷ (2, 0x00100073) ∷ [])
    (record no_module { heap = area 32 4 } ∷ no_module ∷ [])
    ((grant 0 4 P.ExecuteRead ∷ []) ∷ [] ∷ [])
    (give 0 2 1 ∷ [])
    []
    (hart_of 1 0x80000000 (regs_with ((10, 0x80000000) ∷ (11, 4) ∷ (12, 2) ∷ (17, 5) ∷ [])) [] Running ∷ []) 8

nothing-dropped-by-a-transfer-caches : (by (0 ∷ 0 ∷ []) unannounced).core.caches
    ≡ (cache ((0, span_of 0 4 P.ExecuteRead) ∷ []) ((1, span_of 0 4 P.ExecuteRead) ∷ []) 1 0 1) ∷ []
unfolding decoded effect holds imm_result reg_result loaded number_at put_at cleared_at imm_i imm_s imm_b imm_u imm_j extended
nothing-dropped-by-a-transfer-caches = refl

nothing-dropped-by-a-transfer-harts : (by (0 ∷ 0 ∷ []) unannounced).core.harts
    ≡ hart_of 1 0x80000008 (regs_with ((5, 1) ∷ (11, 4) ∷ (12, 2) ∷ (17, 5) ∷ [])) [] Running ∷ []
unfolding decoded effect holds imm_result reg_result loaded number_at put_at cleared_at imm_i imm_s imm_b imm_u imm_j extended
nothing-dropped-by-a-transfer-harts = refl

-- call 2 looks at its words from the lowest up to the first that the caller may not read, at place 10
abbrev writing : State
writing = small ((0, 115) ∷ (1, 0x00128293) ∷ (2, 0x00100073) ∷ [])
    (no_module ∷ no_module ∷ [])
    ((grant 0 4 P.ExecuteRead ∷ grant 40 1 P.Read ∷ grant 41 1 P.ReadWrite ∷ grant 43 1 P.Read ∷ grant 44 4 P.ReadWrite ∷ [])
    ∷ (grant 40 8 P.ExecuteRead ∷ []) ∷ [])
    (give 40 8 1 ∷ [])
    []
    (hart_of 1 0x80000000 (regs_with ((10, 0x800000A2) ∷ (11, 14) ∷ (17, 2) ∷ [])) [] Running ∷ []) 8

write-denied-caches : (by (0 ∷ []) writing).core.caches
    ≡ (cache ((0, span_of 0 4 P.ExecuteRead) ∷ (10, span_of 42 1 P.None) ∷ [])
    ((1, span_of 42 1 P.None) ∷ (1, span_of 41 1 P.ReadWrite) ∷ (1, span_of 40 1 P.Read) ∷ (1, span_of 0 4 P.ExecuteRead) ∷ []) 0 0 4)
    ∷ []
unfolding decoded effect holds imm_result reg_result loaded number_at put_at cleared_at imm_i imm_s imm_b imm_u imm_j extended
write-denied-caches = refl

write-denied-harts : (by (0 ∷ []) writing).core.harts ≡ hart_of 1 0x80000004 (regs_with ((10, 0xFFFFFFF4) ∷ (11, 14) ∷ (17, 2) ∷ [])) []
    Running ∷ []
unfolding decoded effect holds imm_result reg_result loaded number_at put_at cleared_at imm_i imm_s imm_b imm_u imm_j extended
write-denied-harts = refl

write-denied-console : (by (0 ∷ []) writing).console ≡ []
unfolding decoded effect holds imm_result reg_result loaded number_at put_at cleared_at imm_i imm_s imm_b imm_u imm_j extended
write-denied-console = refl

abbrev telling : State
telling = small ((0, 115) ∷ (40, 0x44332211) ∷ (41, 0x88776655) ∷ [])
    (no_module ∷ no_module ∷ [])
    ((grant 0 4 P.ExecuteRead ∷ grant 40 1 P.Read ∷ grant 41 1 P.ReadWrite ∷ grant 43 1 P.Read ∷ grant 44 4 P.ReadWrite ∷ [])
    ∷ (grant 40 8 P.ExecuteRead ∷ []) ∷ [])
    (give 40 8 1 ∷ [])
    []
    (hart_of 1 0x80000000 (regs_with ((10, 0x800000A3) ∷ (11, 3) ∷ (17, 2) ∷ [])) [] Running ∷ []) 8

write-allowed-caches : (by (0 ∷ []) telling).core.caches
    ≡ (cache ((0, span_of 0 4 P.ExecuteRead) ∷ (10, span_of 41 1 P.ReadWrite) ∷ [])
    ((1, span_of 41 1 P.ReadWrite) ∷ (1, span_of 40 1 P.Read) ∷ (1, span_of 0 4 P.ExecuteRead) ∷ []) 0 0 3) ∷ []
unfolding decoded effect holds imm_result reg_result loaded number_at put_at cleared_at imm_i imm_s imm_b imm_u imm_j extended
write-allowed-caches = refl

write-allowed-harts : (by (0 ∷ []) telling).core.harts ≡ hart_of 1 0x80000004 (regs_with ((10, 3) ∷ (11, 3) ∷ (17, 2) ∷ [])) [] Running ∷ []
unfolding decoded effect holds imm_result reg_result loaded number_at put_at cleared_at imm_i imm_s imm_b imm_u imm_j extended
write-allowed-harts = refl

write-allowed-console : (by (0 ∷ []) telling).console ≡ 68 ∷ 85 ∷ 102 ∷ []
unfolding decoded effect holds imm_result reg_result loaded number_at put_at cleared_at imm_i imm_s imm_b imm_u imm_j extended
write-allowed-console = refl

console-goes-on : (by (0 ∷ []) (record telling { console = 1 ∷ 2 ∷ [] })).console ≡ 1 ∷ 2 ∷ 68 ∷ 85 ∷ 102 ∷ []
unfolding decoded effect holds imm_result reg_result loaded number_at put_at cleared_at imm_i imm_s imm_b imm_u imm_j extended
console-goes-on = refl

-- call 13 looks at its word at place 10; the old word goes to a1
abbrev exchanging : State
exchanging = small ((0, 115) ∷ (44, 9) ∷ [])
    (no_module ∷ no_module ∷ [])
    ((grant 0 4 P.ExecuteRead ∷ grant 40 1 P.Read ∷ grant 41 1 P.ReadWrite ∷ grant 43 1 P.Read ∷ grant 44 4 P.ReadWrite ∷ [])
    ∷ (grant 40 8 P.ExecuteRead ∷ []) ∷ [])
    (give 40 8 1 ∷ [])
    []
    (hart_of 1 0x80000000 (regs_with ((10, 0x800000B0) ∷ (11, 7) ∷ (17, 13) ∷ [])) [] Running ∷ []) 8

exchanged-caches : (by (0 ∷ []) exchanging).core.caches
    ≡ (cache ((0, span_of 0 4 P.ExecuteRead) ∷ (10, span_of 44 4 P.ReadWrite) ∷ [])
    ((1, span_of 44 4 P.ReadWrite) ∷ (1, span_of 0 4 P.ExecuteRead) ∷ []) 0 0 2) ∷ []
unfolding decoded effect holds imm_result reg_result loaded number_at put_at cleared_at imm_i imm_s imm_b imm_u imm_j extended
exchanged-caches = refl

exchanged-harts : (by (0 ∷ []) exchanging).core.harts ≡ hart_of 1 0x80000004 (regs_with ((11, 9) ∷ (17, 13) ∷ [])) [] Running ∷ []
unfolding decoded effect holds imm_result reg_result loaded number_at put_at cleared_at imm_i imm_s imm_b imm_u imm_j extended
exchanged-harts = refl

exchanged-ram : (by (0 ∷ []) exchanging).core.ram ≡ flat_map bytes_of (words_with ((0, 115) ∷ (44, 7) ∷ []))
unfolding decoded effect holds imm_result reg_result loaded number_at put_at cleared_at imm_i imm_s imm_b imm_u imm_j extended
exchanged-ram = refl

abbrev not_exchanging : State
not_exchanging = small ((0, 115) ∷ (1, 0x00128293) ∷ (2, 0x00100073) ∷ [])
    (no_module ∷ no_module ∷ [])
    ((grant 0 4 P.ExecuteRead ∷ grant 40 1 P.Read ∷ grant 41 1 P.ReadWrite ∷ grant 43 1 P.Read ∷ grant 44 4 P.ReadWrite ∷ [])
    ∷ (grant 40 8 P.ExecuteRead ∷ []) ∷ [])
    (give 40 8 1 ∷ [])
    []
    (hart_of 1 0x80000000 (regs_with ((10, 0x800000A0) ∷ (11, 7) ∷ (17, 13) ∷ [])) [] Running ∷ []) 8

exchange-denied-caches : (by (0 ∷ []) not_exchanging).core.caches
    ≡ (cache ((0, span_of 0 4 P.ExecuteRead) ∷ (10, span_of 40 1 P.Read) ∷ [])
    ((1, span_of 40 1 P.Read) ∷ (1, span_of 0 4 P.ExecuteRead) ∷ []) 0 0 2) ∷ []
unfolding decoded effect holds imm_result reg_result loaded number_at put_at cleared_at imm_i imm_s imm_b imm_u imm_j extended
exchange-denied-caches = refl

exchange-denied-harts : (by (0 ∷ []) not_exchanging).core.harts
    ≡ hart_of 1 0x80000004 (regs_with ((10, 0xFFFFFFF4) ∷ (11, 7) ∷ (17, 13) ∷ [])) [] Running ∷ []
unfolding decoded effect holds imm_result reg_result loaded number_at put_at cleared_at imm_i imm_s imm_b imm_u imm_j extended
exchange-denied-harts = refl

abbrev no_exchange : State
no_exchange = small ((0, 115) ∷ (1, 0x00128293) ∷ (2, 0x00100073) ∷ [])
    (no_module ∷ no_module ∷ [])
    ((grant 0 4 P.ExecuteRead ∷ grant 40 1 P.Read ∷ grant 41 1 P.ReadWrite ∷ grant 43 1 P.Read ∷ grant 44 4 P.ReadWrite ∷ [])
    ∷ (grant 40 8 P.ExecuteRead ∷ []) ∷ [])
    (give 40 8 1 ∷ [])
    []
    (hart_of 1 0x80000000 (regs_with ((10, 0x800000B2) ∷ (11, 7) ∷ (17, 13) ∷ [])) [] Running ∷ []) 8

exchange-of-no-word-caches : (by (0 ∷ []) no_exchange).core.caches
    ≡ (cache ((0, span_of 0 4 P.ExecuteRead) ∷ []) ((1, span_of 0 4 P.ExecuteRead) ∷ []) 0 0 1) ∷ []
unfolding decoded effect holds imm_result reg_result loaded number_at put_at cleared_at imm_i imm_s imm_b imm_u imm_j extended
exchange-of-no-word-caches = refl

exchange-of-no-word-harts : (by (0 ∷ []) no_exchange).core.harts
    ≡ hart_of 1 0x80000004 (regs_with ((10, 0xFFFFFFFF) ∷ (11, 7) ∷ (17, 13) ∷ [])) [] Running ∷ []
unfolding decoded effect holds imm_result reg_result loaded number_at put_at cleared_at imm_i imm_s imm_b imm_u imm_j extended
exchange-of-no-word-harts = refl

-- call 11 looks at nothing
abbrev asking : State
asking = small ((0, 115) ∷ (1, 0x00128293) ∷ (2, 0x00100073) ∷ [])
    (no_module ∷ no_module ∷ [])
    ((grant 0 4 P.ExecuteRead ∷ grant 40 1 P.Read ∷ grant 41 1 P.ReadWrite ∷ grant 43 1 P.Read ∷ grant 44 4 P.ReadWrite ∷ [])
    ∷ (grant 40 8 P.ExecuteRead ∷ []) ∷ [])
    (give 40 8 1 ∷ [])
    []
    (hart_of 1 0x80000000 (regs_with ((10, 0x800000B0) ∷ (11, 2) ∷ (17, 11) ∷ [])) [] Running ∷ []) 8

query-looks-nowhere-caches : (by (0 ∷ []) asking).core.caches
    ≡ (cache ((0, span_of 0 4 P.ExecuteRead) ∷ []) ((1, span_of 0 4 P.ExecuteRead) ∷ []) 0 0 1) ∷ []
unfolding decoded effect holds imm_result reg_result loaded number_at put_at cleared_at imm_i imm_s imm_b imm_u imm_j extended
query-looks-nowhere-caches = refl

query-looks-nowhere-harts : (by (0 ∷ []) asking).core.harts ≡ hart_of 1 0x80000004 (regs_with ((10, 3) ∷ (11, 2) ∷ (17, 11) ∷ [])) []
    Running ∷ []
unfolding decoded effect holds imm_result reg_result loaded number_at put_at cleared_at imm_i imm_s imm_b imm_u imm_j extended
query-looks-nowhere-harts = refl

-- call 12 tells hart and domain
abbrev selves : State
selves = small ((0, 115) ∷ (1, 0x00100073) ∷ (16, 115) ∷ (17, 0x00100073) ∷ (18, 0x0002A303) ∷ (19, 0x0002A303) ∷ [])
    (no_module ∷ no_module ∷ [])
    ((grant 0 4 P.ExecuteRead ∷ []) ∷ (grant 16 8 P.ExecuteRead ∷ grant 40 4 P.Read ∷ grant 44 4 P.ReadWrite ∷ []) ∷ [])
    (give 40 4 1 ∷ [])
    []
    (hart_of 1 0x80000000 (regs_with ((17, 12) ∷ [])) [] Running ∷ hart_of 2 0x80000040 (regs_with ((17, 12) ∷ [])) [] Running ∷ []) 8

self-of-each : (by (0 ∷ 1 ∷ []) selves).core.harts
    ≡ hart_of 1 0x80000004 (regs_with ((10, 1) ∷ (17, 12) ∷ [])) [] Running
    ∷ hart_of 2 0x80000044 (regs_with ((10, 258) ∷ (17, 12) ∷ [])) [] Running ∷ []
unfolding decoded effect holds imm_result reg_result loaded number_at put_at cleared_at imm_i imm_s imm_b imm_u imm_j extended
self-of-each = refl

-- one access by an instruction at word 0 through x7: word 40 may be read, 41 read and written, 42 nothing, 43 read
abbrev accessing : ℕ → ℕ → State
accessing word x7 = small ((0, word) ∷ (40, 0x8899AABB) ∷ (41, 0x01020304) ∷ (43, 0xF1F2F3F4) ∷ []) (no_module ∷ [])
    ((grant 0 8 P.ExecuteRead ∷ grant 40 1 P.Read ∷ grant 41 1 P.ReadWrite ∷ grant 43 1 P.ExecuteRead ∷ []) ∷ []) [] []
    (hart_of 1 0x80000000 (regs_with ((6, 0x11223385) ∷ (7, x7) ∷ [])) [] Running ∷ []) 8

-- loads: signed and unsigned bytes and halves, words, and a load into x0
load-byte : (by (0 ∷ []) (accessing 0x00138283 0x800000A0)).core.harts
    ≡ hart_of 1 0x80000004 (regs_with ((5, 0xFFFFFFAA) ∷ (6, 0x11223385) ∷ (7, 0x800000A0) ∷ [])) [] Running ∷ []
unfolding decoded effect holds imm_result reg_result loaded number_at put_at cleared_at imm_i imm_s imm_b imm_u imm_j extended
load-byte = refl

load-byte-unsigned : (by (0 ∷ []) (accessing 0xFFF3C283 0x800000A2)).core.harts
    ≡ hart_of 1 0x80000004 (regs_with ((5, 170) ∷ (6, 0x11223385) ∷ (7, 0x800000A2) ∷ [])) [] Running ∷ []
unfolding decoded effect holds imm_result reg_result loaded number_at put_at cleared_at imm_i imm_s imm_b imm_u imm_j extended
load-byte-unsigned = refl

load-half-harts : (by (0 ∷ []) (accessing 0x00239283 0x800000A0)).core.harts
    ≡ hart_of 1 0x80000004 (regs_with ((5, 0xFFFF8899) ∷ (6, 0x11223385) ∷ (7, 0x800000A0) ∷ [])) [] Running ∷ []
unfolding decoded effect holds imm_result reg_result loaded number_at put_at cleared_at imm_i imm_s imm_b imm_u imm_j extended
load-half-harts = refl

load-half-caches : (by (0 ∷ []) (accessing 0x00239283 0x800000A0)).core.caches
    ≡ (cache ((0, span_of 0 8 P.ExecuteRead) ∷ (7, span_of 40 1 P.Read) ∷ [])
    ((1, span_of 40 1 P.Read) ∷ (1, span_of 0 8 P.ExecuteRead) ∷ []) 0 0 2) ∷ []
unfolding decoded effect holds imm_result reg_result loaded number_at put_at cleared_at imm_i imm_s imm_b imm_u imm_j extended
load-half-caches = refl

load-half-unsigned : (by (0 ∷ []) (accessing 0x0023D283 0x800000A0)).core.harts
    ≡ hart_of 1 0x80000004 (regs_with ((5, 0x00008899) ∷ (6, 0x11223385) ∷ (7, 0x800000A0) ∷ [])) [] Running ∷ []
unfolding decoded effect holds imm_result reg_result loaded number_at put_at cleared_at imm_i imm_s imm_b imm_u imm_j extended
load-half-unsigned = refl

load-word : (by (0 ∷ []) (accessing 0x0003A283 0x800000AC)).core.harts
    ≡ hart_of 1 0x80000004 (regs_with ((5, 0xF1F2F3F4) ∷ (6, 0x11223385) ∷ (7, 0x800000AC) ∷ [])) [] Running ∷ []
unfolding decoded effect holds imm_result reg_result loaded number_at put_at cleared_at imm_i imm_s imm_b imm_u imm_j extended
load-word = refl

load-into-x0-harts : (by (0 ∷ []) (accessing 0x0003A003 0x800000AC)).core.harts
    ≡ hart_of 1 0x80000004 (regs_with ((6, 0x11223385) ∷ (7, 0x800000AC) ∷ [])) [] Running ∷ []
unfolding decoded effect holds imm_result reg_result loaded number_at put_at cleared_at imm_i imm_s imm_b imm_u imm_j extended
load-into-x0-harts = refl

load-into-x0-caches : (by (0 ∷ []) (accessing 0x0003A003 0x800000AC)).core.caches
    ≡ (cache ((0, span_of 0 8 P.ExecuteRead) ∷ (7, span_of 43 1 P.ExecuteRead) ∷ [])
    ((1, span_of 43 1 P.ExecuteRead) ∷ (1, span_of 0 8 P.ExecuteRead) ∷ []) 0 0 2) ∷ []
unfolding decoded effect holds imm_result reg_result loaded number_at put_at cleared_at imm_i imm_s imm_b imm_u imm_j extended
load-into-x0-caches = refl

-- stores: the low bytes, and no other
store-byte-ram : (by (0 ∷ []) (accessing 0x00638123 0x800000A4)).core.ram
    ≡ flat_map bytes_of (words_with ((0, 0x00638123) ∷ (40, 0x8899AABB) ∷ (41, 0x01850304) ∷ (43, 0xF1F2F3F4) ∷ []))
unfolding decoded effect holds imm_result reg_result loaded number_at put_at cleared_at imm_i imm_s imm_b imm_u imm_j extended
store-byte-ram = refl

store-byte-caches : (by (0 ∷ []) (accessing 0x00638123 0x800000A4)).core.caches
    ≡ (cache ((0, span_of 0 8 P.ExecuteRead) ∷ (7, span_of 41 1 P.ReadWrite) ∷ [])
    ((1, span_of 41 1 P.ReadWrite) ∷ (1, span_of 0 8 P.ExecuteRead) ∷ []) 0 0 2) ∷ []
unfolding decoded effect holds imm_result reg_result loaded number_at put_at cleared_at imm_i imm_s imm_b imm_u imm_j extended
store-byte-caches = refl

store-half : (by (0 ∷ []) (accessing 0xFE639F23 0x800000A8)).core.ram
    ≡ flat_map bytes_of (words_with ((0, 0xFE639F23) ∷ (40, 0x8899AABB) ∷ (41, 0x33850304) ∷ (43, 0xF1F2F3F4) ∷ []))
unfolding decoded effect holds imm_result reg_result loaded number_at put_at cleared_at imm_i imm_s imm_b imm_u imm_j extended
store-half = refl

store-word-ram : (by (0 ∷ []) (accessing 0x0063A023 0x800000A4)).core.ram
    ≡ flat_map bytes_of (words_with ((0, 0x0063A023) ∷ (40, 0x8899AABB) ∷ (41, 0x11223385) ∷ (43, 0xF1F2F3F4) ∷ []))
unfolding decoded effect holds imm_result reg_result loaded number_at put_at cleared_at imm_i imm_s imm_b imm_u imm_j extended
store-word-ram = refl

store-word-kinds : kinds (0 ∷ []) (accessing 0x0063A023 0x800000A4) ≡ T.Ran ∷ []
unfolding decoded effect holds imm_result reg_result loaded number_at put_at cleared_at imm_i imm_s imm_b imm_u imm_j extended
store-word-kinds = refl

-- denied accesses: the look is made, and nothing changes; outside RAM there is no look, and a misaligned one comes first
load-denied-harts : (by (0 ∷ []) (accessing 0x00038283 0x800000A8)).core.harts
    ≡ hart_of 1 0x80000000 (regs_with ((6, 0x11223385) ∷ (7, 0x800000A8) ∷ [])) [] (Halted None) ∷ []
unfolding decoded effect holds imm_result reg_result loaded number_at put_at cleared_at imm_i imm_s imm_b imm_u imm_j extended
load-denied-harts = refl

load-denied-caches : (by (0 ∷ []) (accessing 0x00038283 0x800000A8)).core.caches
    ≡ (cache ((0, span_of 0 8 P.ExecuteRead) ∷ (7, span_of 42 1 P.None) ∷ [])
    ((1, span_of 42 1 P.None) ∷ (1, span_of 0 8 P.ExecuteRead) ∷ []) 0 0 2) ∷ []
unfolding decoded effect holds imm_result reg_result loaded number_at put_at cleared_at imm_i imm_s imm_b imm_u imm_j extended
load-denied-caches = refl

load-denied-notes : (by (0 ∷ []) (accessing 0x00038283 0x800000A8)).notes ≡ fault 1 0 1 0x80000000 5 0x800000A8 ∷ []
unfolding decoded effect holds imm_result reg_result loaded number_at put_at cleared_at imm_i imm_s imm_b imm_u imm_j extended
load-denied-notes = refl

store-denied-notes : (by (0 ∷ []) (accessing 0x00638023 0x800000AF)).notes ≡ fault 1 0 1 0x80000000 7 0x800000AF ∷ []
unfolding decoded effect holds imm_result reg_result loaded number_at put_at cleared_at imm_i imm_s imm_b imm_u imm_j extended
store-denied-notes = refl

store-denied-ram : (by (0 ∷ []) (accessing 0x00638023 0x800000AF)).core.ram
    ≡ flat_map bytes_of (words_with ((0, 0x00638023) ∷ (40, 0x8899AABB) ∷ (41, 0x01020304) ∷ (43, 0xF1F2F3F4) ∷ []))
unfolding decoded effect holds imm_result reg_result loaded number_at put_at cleared_at imm_i imm_s imm_b imm_u imm_j extended
store-denied-ram = refl

load-outside-caches : (by (0 ∷ []) (accessing 0x0003A283 0x80000100)).core.caches
    ≡ (cache ((0, span_of 0 8 P.ExecuteRead) ∷ []) ((1, span_of 0 8 P.ExecuteRead) ∷ []) 0 0 1) ∷ []
unfolding decoded effect holds imm_result reg_result loaded number_at put_at cleared_at imm_i imm_s imm_b imm_u imm_j extended
load-outside-caches = refl

load-outside-notes : (by (0 ∷ []) (accessing 0x0003A283 0x80000100)).notes ≡ fault 1 0 1 0x80000000 5 0x80000100 ∷ []
unfolding decoded effect holds imm_result reg_result loaded number_at put_at cleared_at imm_i imm_s imm_b imm_u imm_j extended
load-outside-notes = refl

store-below-caches : (by (0 ∷ []) (accessing 0xFE63AE23 0x80000000)).core.caches
    ≡ (cache ((0, span_of 0 8 P.ExecuteRead) ∷ []) ((1, span_of 0 8 P.ExecuteRead) ∷ []) 0 0 1) ∷ []
unfolding decoded effect holds imm_result reg_result loaded number_at put_at cleared_at imm_i imm_s imm_b imm_u imm_j extended
store-below-caches = refl

store-below-notes : (by (0 ∷ []) (accessing 0xFE63AE23 0x80000000)).notes ≡ fault 1 0 1 0x80000000 7 0x7FFFFFFC ∷ []
unfolding decoded effect holds imm_result reg_result loaded number_at put_at cleared_at imm_i imm_s imm_b imm_u imm_j extended
store-below-notes = refl

load-misaligned-caches : (by (0 ∷ []) (accessing 0x00139283 0x800000A8)).core.caches
    ≡ (cache ((0, span_of 0 8 P.ExecuteRead) ∷ []) ((1, span_of 0 8 P.ExecuteRead) ∷ []) 0 0 1) ∷ []
unfolding decoded effect holds imm_result reg_result loaded number_at put_at cleared_at imm_i imm_s imm_b imm_u imm_j extended
load-misaligned-caches = refl

load-misaligned-notes : (by (0 ∷ []) (accessing 0x00139283 0x800000A8)).notes ≡ fault 1 0 1 0x80000000 4 0x800000A9 ∷ []
unfolding decoded effect holds imm_result reg_result loaded number_at put_at cleared_at imm_i imm_s imm_b imm_u imm_j extended
load-misaligned-notes = refl

store-misaligned-caches : (by (0 ∷ []) (accessing 0x0063A123 0x800000A8)).core.caches
    ≡ (cache ((0, span_of 0 8 P.ExecuteRead) ∷ []) ((1, span_of 0 8 P.ExecuteRead) ∷ []) 0 0 1) ∷ []
unfolding decoded effect holds imm_result reg_result loaded number_at put_at cleared_at imm_i imm_s imm_b imm_u imm_j extended
store-misaligned-caches = refl

store-misaligned-notes : (by (0 ∷ []) (accessing 0x0063A123 0x800000A8)).notes ≡ fault 1 0 1 0x80000000 6 0x800000AA ∷ []
unfolding decoded effect holds imm_result reg_result loaded number_at put_at cleared_at imm_i imm_s imm_b imm_u imm_j extended
store-misaligned-notes = refl

-- an address is a sum modulo 2^32
load-wraps : (by (0 ∷ []) (accessing 0x7FC3A283 0x7FFFF8A4)).core.harts
    ≡ hart_of 1 0x80000004 (regs_with ((5, 0x8899AABB) ∷ (6, 0x11223385) ∷ (7, 0x7FFFF8A4) ∷ [])) [] Running ∷ []
unfolding decoded effect holds imm_result reg_result loaded number_at put_at cleared_at imm_i imm_s imm_b imm_u imm_j extended
load-wraps = refl

-- a lookaside buffer of two spans
abbrev full_buffer : State
full_buffer = small ((0, 0x0002A303) ∷ (1, 0x0402A303) ∷ (2, 0x0802A303) ∷ (3, 0x0002A303) ∷ [])
    (no_module ∷ [])
    ((grant 0 4 P.ExecuteRead ∷ grant 16 1 P.Read ∷ grant 32 1 P.Read ∷ grant 48 1 P.Read ∷ []) ∷ [])
    []
    []
    (hart_of 1 0x80000000 (regs_with ((5, 0x80000040) ∷ [])) [] Running ∷ []) 2

buffer-of-two : (by (replicate 4 0) full_buffer).core.caches
    ≡ (cache ((0, span_of 0 4 P.ExecuteRead) ∷ (5, span_of 16 1 P.Read) ∷ []) ((1, span_of 16 1 P.Read) ∷ (1, span_of 48 1 P.Read) ∷ []) 3 0
    5) ∷ []
unfolding decoded effect holds imm_result reg_result loaded number_at put_at cleared_at imm_i imm_s imm_b imm_u imm_j extended
buffer-of-two = refl

-- inside a call an exit is refused; a waiting call tells that it is nested
abbrev staying : State
staying = small ((0, 115) ∷ (1, 0x00128293) ∷ (2, 0x00100073) ∷ [])
    (record no_module { heap = area 32 4 } ∷ no_module ∷ [])
    ((grant 0 4 P.ExecuteRead ∷ []) ∷ [] ∷ [])
    (give 0 2 1 ∷ [])
    []
    (hart_of 1 0x80000000 (regs_with ((10, 6) ∷ (17, 1) ∷ [])) (frame 0x80000024 2 (saved_with []) ∷ []) Running
    ∷ hart_of 2 0x80000020 (regs_with []) [] Running ∷ []) 8

no-exit-harts : (by (0 ∷ []) staying).core.harts
    ≡ hart_of 1 0x80000004 (regs_with ((10, 0xFFFFFFF6) ∷ (17, 1) ∷ [])) (frame 0x80000024 2 (saved_with []) ∷ []) Running
    ∷ hart_of 2 0x80000020 (regs_with []) [] Running ∷ []
unfolding decoded effect holds imm_result reg_result loaded number_at put_at cleared_at imm_i imm_s imm_b imm_u imm_j extended
no-exit-harts = refl

no-exit-notes : (by (0 ∷ []) staying).notes ≡ []
unfolding decoded effect holds imm_result reg_result loaded number_at put_at cleared_at imm_i imm_s imm_b imm_u imm_j extended
no-exit-notes = refl

abbrev nesting : State
nesting = small ((0, 115) ∷ (1, 0x00128293) ∷ (2, 0x00100073) ∷ [])
    (record no_module { heap = area 32 4 } ∷ no_module ∷ [])
    ((grant 0 4 P.ExecuteRead ∷ []) ∷ [] ∷ [])
    (give 0 2 1 ∷ [])
    []
    (hart_of 1 0x80000000 (regs_with ((10, 1) ∷ (17, 6) ∷ [])) (frame 0x80000024 2 (saved_with []) ∷ []) Running
    ∷ hart_of 2 0x80000020 (regs_with []) [] Running ∷ []) 8

nested-alloc : (by (0 ∷ []) nesting).core.harts
    ≡ hart_of 1 0x80000000 (regs_with ((10, 1) ∷ (17, 6) ∷ [])) (frame 0x80000024 2 (saved_with []) ∷ [])
    (Waiting (call 6 (1 ∷ 0 ∷ 0 ∷ 0 ∷ []) 0 1 true) (false ∷ false ∷ false ∷ false ∷ []))
    ∷ hart_of 2 0x80000020 (regs_with []) [] Running ∷ []
unfolding decoded effect holds imm_result reg_result loaded number_at put_at cleared_at imm_i imm_s imm_b imm_u imm_j extended
nested-alloc = refl

-- an exit halts the hart with its code; a0 and pc stay, and its next turn is idle
abbrev leaving : State
leaving = small ((0, 115) ∷ (1, 0x00128293) ∷ (2, 0x00100073) ∷ [])
    (record no_module { heap = area 32 4 } ∷ no_module ∷ [])
    ((grant 0 4 P.ExecuteRead ∷ []) ∷ [] ∷ [])
    (give 0 2 1 ∷ [])
    []
    (hart_of 1 0x80000000 (regs_with ((10, 6) ∷ (17, 1) ∷ [])) [] Running ∷ []) 8

exit-harts : (by (0 ∷ 0 ∷ []) leaving).core.harts ≡ hart_of 1 0x80000000 (regs_with ((10, 6) ∷ (17, 1) ∷ [])) [] (Halted (Some 6)) ∷ []
unfolding decoded effect holds imm_result reg_result loaded number_at put_at cleared_at imm_i imm_s imm_b imm_u imm_j extended
exit-harts = refl

exit-notes : (by (0 ∷ 0 ∷ []) leaving).notes ≡ N.Exit 1 0 1 6 ∷ []
unfolding decoded effect holds imm_result reg_result loaded number_at put_at cleared_at imm_i imm_s imm_b imm_u imm_j extended
exit-notes = refl

exit-kinds : kinds (0 ∷ 0 ∷ []) leaving ≡ T.Called ∷ T.Idle ∷ []
unfolding decoded effect holds imm_result reg_result loaded number_at put_at cleared_at imm_i imm_s imm_b imm_u imm_j extended
exit-kinds = refl
