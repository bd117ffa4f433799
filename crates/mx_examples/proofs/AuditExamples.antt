-- Worked examples of audits, computed.
use Rattle.std.specs.Prelude.{◌≡◌, ℕ, ◌*◌, true, false, List, [], ◌∷◌, take, drop, replicate, filter, codes, refl}
use Rattle.std.specs.Fmt.{digits}
use Rattle.std.specs.List.{range_with_len}
use Rattle.mx_words.specs.declared.perm.Perm.TheVariants as P
use Rattle.mx_words.specs.Bytes.{number_at, put_at, cleared_at}
use Rattle.mx_words.specs.declared.perm.Span.{Span}
use Rattle.mx_words.specs.Hearing.{nobody}
use Rattle.mx_isa.specs.Fields.{imm_i, imm_s, imm_b, imm_u, imm_j, extended}
use Rattle.mx_isa.specs.Table.{decoded}
use Rattle.mx_model.specs.declared.values.Call.{Call}
use Rattle.mx_model.specs.declared.values.Frame.{Frame}
use Rattle.mx_model.specs.Effect.{holds, imm_result, reg_result, loaded, effect}
use Rattle.mx_model.specs.Reads.{reads}
use Rattle.mx_model.specs.Run.{ByQuantum, run}
use Rattle.mx_model.specs.State.{State, Waiting, hart_at, with_hart}
use Rattle.mx_model.proofs.Boots.{Inline, inline, boot, one_module}
use Rattle.mx_model.proofs.Smalls.{gate}
use Rattle.mx_audit.specs.Live.{is_live}
use Rattle.mx_audit.specs.Lines.{live_line, live_lines, report, sealed_line, words_line}
use Rattle.mx_audit.specs.Sealed.{is_sealed}
use Rattle.mx_audit.specs.SealedRuns.{sealed_runs, words_from}

-- the live domains by their numbers
abbrev live_domains : State → List ℕ
live_domains s = filter (is_live s.core) (range_with_len 0 64)

-- the maximal runs of sealed words
abbrev audit : State → List Span
audit s = sealed_runs (reads s) s.core

-- audit of three words: the module's own words may change, since it owns them
abbrev three : State
three = one_module (0x00100893 ∷ 0x00500513 ∷ 0x00000073 ∷ [])

three-live : live_domains three ≡ 1 ∷ []
three-live = refl

three-sealed : audit three ≡ words_from 3 16381 ∷ []
three-sealed = refl

-- its report
three-text : report (codes "m" ∷ []) (is_live three.core) (words_from 3 16381 ∷ [])
    ≡ codes "live 1 m\nsealed 0x8000000c 0x80010000\nsealed words=16381\n"
unfolding report live_lines live_line sealed_line words_line digits
three-text = refl

-- of the same module where the supervisor owns its words
sealed-three-live : live_domains (record three { gives = [] }) ≡ 1 ∷ []
sealed-three-live = refl

sealed-three : audit (record three { gives = [] }) ≡ words_from 0 16384 ∷ []
sealed-three = refl

-- audit of gates in a circle: each domain has a gate into the other
abbrev circle : State
circle =
    boot (inline 0 P.ExecuteRead (0x800012B7 ∷ 0x000280E7 ∷ 0x00100073 ∷ [])
    ∷ inline 1024 P.ExecuteRead (0x800002B7 ∷ 0x000280E7 ∷ 0x00100073 ∷ []) ∷ [])
    (gate 2 0 1 ∷ gate 1 1024 2 ∷ []) ((1, 0x80000000) ∷ [])

circle-live : live_domains circle ≡ 1 ∷ 2 ∷ []
circle-live = refl

circle-sealed : audit circle ≡ words_from 3 1021 ∷ words_from 1027 15357 ∷ []
circle-sealed = refl

circle-text : report (codes "a" ∷ codes "b" ∷ []) (is_live circle.core) (words_from 3 1021 ∷ words_from 1027 15357 ∷ [])
    ≡ codes "live 1 a\nlive 2 b\nsealed 0x8000000c 0x80001000\nsealed 0x8000100c 0x80010000\nsealed words=16378\n"
unfolding report live_lines live_line sealed_line words_line digits
circle-text = refl

-- gates passed in a later round, though they stand first, and gates of a domain that isn't live
abbrev chain : State
chain = boot (replicate 5 (inline 0 P.None [])) (gate 2 7 3 ∷ gate 4 7 5 ∷ gate 1 7 2 ∷ []) ((1, 0x80000000) ∷ [])

chain-live : live_domains chain ≡ 1 ∷ 2 ∷ 3 ∷ []
chain-live = refl

-- a domain that isn't live has no line
chain-lines : live_lines (codes "a" ∷ codes "b" ∷ codes "c" ∷ codes "d" ∷ []) (is_live chain.core) ≡ codes "live 1 a\nlive 2 b\nlive 3 c\n"
unfolding live_lines live_line digits
chain-lines = refl

-- Why each part of "sealed" is asked: without it a word would count as sealed that a run changes. The word of the first two is 2048.
abbrev word_at : ℕ → State → List ℕ
word_at w s = take 4 (drop (4 * w) s.core.ram)

-- a module at word 0 that has read-write on word 2048, which is its stack area
abbrev writer : List ℕ → Inline
writer text = record (inline 0 P.ExecuteRead text) { stack = record { first = 2048; words = 1 } }

-- the caller of a frame: a hart in domain 2 faults and goes on in domain 1, which stores x10 in its own word
abbrev called : State
called =
    let s = boot (writer (0x800022B7 ∷ 0x00A2A023 ∷ []) ∷ inline 1024 P.ExecuteRead (0x00100073 ∷ []) ∷ []) [] ((2, 0x80001000) ∷ []) in
    let frame : Frame = record { back = 0x80000000; caller = 1; kept = replicate 15 0 } in
    record s { core = with_hart 0 (record (hart_at s.core 0) { frames = frame ∷ [] }) s.core }

called-live : live_domains called ≡ 1 ∷ 2 ∷ []
called-live = refl

called-not-sealed : is_sealed (reads called) called.core 2048 ≡ false
called-not-sealed = refl

called-changes : word_at 2048 (run (ByQuantum 1) 3 called) ≡ 0x03 ∷ 0xff ∷ 0xff ∷ 0xff ∷ []
unfolding decoded effect holds imm_result reg_result loaded number_at put_at cleared_at imm_i imm_s imm_b imm_u imm_j extended
called-changes = refl

-- the target of a gate: a hart in domain 2 jumps to a gate into domain 1, which stores x1 in its own word
abbrev crossing : State
crossing = boot (writer (0x800022B7 ∷ 0x0012A023 ∷ []) ∷ inline 1024 P.ExecuteRead (0x800002B7 ∷ 0x000280E7 ∷ []) ∷ []) (gate 2 0 1 ∷ [])
    ((2, 0x80001000) ∷ [])

crossing-not-sealed : is_sealed (reads crossing) crossing.core 2048 ≡ false
crossing-not-sealed = refl

crossing-changes : word_at 2048 (run (ByQuantum 1) 5 crossing) ≡ 0x08 ∷ 0x10 ∷ 0x00 ∷ 0x80 ∷ []
unfolding decoded effect holds imm_result reg_result loaded number_at put_at cleared_at imm_i imm_s imm_b imm_u imm_j extended
crossing-changes = refl

-- the owner: a module gives its own word 0, which it may not write, to domain 2
abbrev giving : State
giving =
    boot (inline 0 P.ExecuteRead (0x00500893 ∷ 0x80000537 ∷ 0x00400593 ∷ 0x00200613 ∷ 0x00000073 ∷ []) ∷ inline 1024 P.ExecuteRead [] ∷ [])
    []
    ((1, 0x80000000) ∷ [])

giving-not-sealed : is_sealed (reads giving) giving.core 0 ≡ false
giving-not-sealed = refl

giving-changes : (reads (run (ByQuantum 1) 5 giving)).owner 0 ≡ 2
unfolding decoded effect holds imm_result reg_result loaded number_at put_at cleared_at imm_i imm_s imm_b imm_u imm_j extended
giving-changes = refl

-- read-write: a module stores x5 in a word that it doesn't own
abbrev storing : State
storing = record (boot (writer (0x800022B7 ∷ 0x0052A023 ∷ []) ∷ []) [] ((1, 0x80000000) ∷ [])) { gives = [] }

storing-not-sealed : is_sealed (reads storing) storing.core 2048 ≡ false
storing-not-sealed = refl

storing-changes : word_at 2048 (run (ByQuantum 1) 2 storing) ≡ 0x00 ∷ 0x20 ∷ 0x00 ∷ 0x80 ∷ []
unfolding decoded effect holds imm_result reg_result loaded number_at put_at cleared_at imm_i imm_s imm_b imm_u imm_j extended
storing-changes = refl

-- and why each heap area is to belong to its module: alloc gives a module rights on a sealed word of its heap area that it doesn't own
abbrev allocating : State
allocating =
    let s = boot (record (inline 0 P.ExecuteRead (0x00600893 ∷ 0x00100513 ∷ 0x00000073 ∷ [])) { heap = record { first = 2048; count = 1 } }
    ∷ []) [] ((1, 0x80000000) ∷ []) in
    record s { gives = [] }

allocating-sealed : is_sealed (reads allocating) allocating.core 2048 ≡ true
allocating-sealed = refl

allocating-changes : (reads (run (ByQuantum 1) 3 allocating)).perm 1 2048 ≡ P.ReadWrite
unfolding decoded effect holds imm_result reg_result loaded number_at put_at cleared_at imm_i imm_s imm_b imm_u imm_j extended
allocating-changes = refl

-- why the state is to be valid: a hart of domain 1 waits on a grant in the name of domain 2, as none does in a valid state, and gets
-- read-write on a sealed word of that domain
abbrev naming : State
naming =
    let s = boot (inline 0 P.ExecuteRead [] ∷ inline 2048 P.ExecuteRead (0 ∷ []) ∷ []) [] ((1, 0x80000000) ∷ []) in
    let grant : Call = record { number = 3; args = 0x80002000 ∷ 4 ∷ 1 ∷ 2 ∷ []; hart = 0; domain = 2; nested = false } in
    record s { core = with_hart 0 (record (hart_at s.core 0) { status = Waiting grant nobody }) s.core }

naming-sealed : is_sealed (reads naming) naming.core 2048 ≡ true
naming-sealed = refl

naming-changes : (reads (run (ByQuantum 1) 1 naming)).perm 1 2048 ≡ P.ReadWrite
unfolding decoded effect holds imm_result reg_result loaded number_at put_at cleared_at imm_i imm_s imm_b imm_u imm_j extended
naming-changes = refl
