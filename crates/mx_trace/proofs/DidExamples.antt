-- Worked examples of the line of what a turn did, computed.
use Rattle.std.specs.Prelude.{◌≡◌, ℕ, true, false, List, [], ◌∷◌, codes, replicate, slice_set, fold, refl, Option, Some, None}
use Rattle.std.specs.Fmt.{digits}
use Rattle.mx_isa.specs.declared.inst.Inst.{Inst}
use Rattle.mx_isa.specs.declared.inst.Inst.TheVariants as I
use Rattle.mx_isa.specs.declared.inst.Cond.TheVariants as C
use Rattle.mx_isa.specs.declared.inst.LoadWidth.{LoadWidth}
use Rattle.mx_isa.specs.declared.inst.LoadWidth.TheVariants as L
use Rattle.mx_isa.specs.declared.inst.StoreWidth.{StoreWidth}
use Rattle.mx_isa.specs.declared.inst.StoreWidth.TheVariants as S
use Rattle.mx_model.specs.declared.values.Note.{Note}
use Rattle.mx_model.specs.declared.values.Note.TheVariants as N
use Rattle.mx_model.specs.declared.values.TurnKind.{TurnKind}
use Rattle.mx_model.specs.declared.values.TurnKind.TheVariants as T
use Rattle.mx_trace.specs.declared.did.Held.{Held}
use Rattle.mx_trace.specs.Did.{Deed, changes_text, did_line, fields}

-- registers that are zero but for these
abbrev regs : List (ℕ × ℕ) → List ℕ
regs set = fold (λ all (r : ℕ × ℕ). slice_set all r.0 r.1) (replicate 32 0) set

-- a hart of a domain that doesn't wait, and one of domain 1 that does
abbrev goes : ℕ → List (ℕ × ℕ) → Held
goes domain set = record { domain = domain; waits = false; regs = regs set }

abbrev waits : List (ℕ × ℕ) → Held
waits set = record { domain = 1; waits = true; regs = regs set }

abbrev deed : TurnKind → Option Note → Option Inst → Held → Held → Deed
deed kind note inst before after = record { kind = kind; note = note; inst = inst; before = before; after = after }

-- the line of a fault or an exit: of what it says, cause, value and code are told
abbrev fault : ℕ → ℕ → Option Note
fault cause value = Some (N.Fault 9 3 2 0x80000010 (record { cause = cause; value = value }))

abbrev exit : ℕ → Option Note
exit code = Some (N.Exit 9 3 2 code)

-- a turn without a field has no line: of a halted hart, of one that waits, and a branch
idle : did_line (deed T.Idle None None (goes 1 ((10, 5) ∷ [])) (goes 1 ((10, 5) ∷ []))) ≡ []
unfolding fields changes_text
idle = refl

waited : did_line (deed T.Waited None (Some I.Ecall) (waits ((17, 4) ∷ [])) (waits ((17, 4) ∷ []))) ≡ []
unfolding fields changes_text
waited = refl

branched : did_line (deed T.Ran None (Some (I.Branch C.Beq 1 2 8)) (goes 1 ((1, 7) ∷ [])) (goes 1 ((1, 7) ∷ []))) ≡ []
unfolding fields changes_text
branched = refl

-- a register that isn't as before, with its value after the turn; also where that is 0
ran : did_line (deed T.Ran None (Some (I.Lui 11 0xABCDE000)) (goes 1 ((11, 7) ∷ [])) (goes 1 ((11, 0xABCDE000) ∷ [])))
    ≡ codes "did x11=0xabcde000\n"
unfolding fields changes_text digits
ran = refl

-- the registers go up, from the first that may change to the last
ascending : did_line (deed T.Crossed None None (goes 1 ((1, 5) ∷ (9, 9) ∷ (31, 6) ∷ [])) (goes 1 ((1, 0) ∷ (9, 9) ∷ (31, 1) ∷ [])))
    ≡ codes "did x1=0x00000000 x31=0x00000001\n"
unfolding fields changes_text digits
ascending = refl

-- a fault: a denied store stores nothing, and a denied load loads nothing
denied-store : did_line (deed T.Trapped (fault 7 0x80000104) (Some (I.Store S.Sw 5 6 4)) (goes 1 ((5, 0x80000100) ∷ (6, 1) ∷ []))
    (goes 1 ((5, 0x80000100) ∷ (6, 1) ∷ [])))
    ≡ codes "did fault=7/0x80000104\n"
unfolding fields changes_text digits
denied-store = refl

denied-load : did_line (deed T.Trapped (fault 5 0x80000104) (Some (I.Load L.Lw 6 5 4)) (goes 1 ((5, 0x80000100) ∷ []))
    (goes 1 ((5, 0x80000100) ∷ [])))
    ≡ codes "did fault=5/0x80000104\n"
unfolding fields changes_text digits
denied-load = refl

-- an EBREAK inside a call sends the hart back to its caller, where the saved x8 and the code are
sent-back : did_line (deed T.Trapped (fault 3 0x80000010) (Some I.Ebreak) (goes 2 ((8, 4) ∷ (10, 1) ∷ []))
    (goes 12 ((8, 6) ∷ (10, 0xFFFFFF03) ∷ [])))
    ≡ codes "did fault=3/0x80000010 domain=12 x8=0x00000006 x10=0xffffff03\n"
unfolding fields changes_text digits
sent-back = refl

-- call 1 ends the hart
exited : did_line (deed T.Called (exit 4000000000) (Some I.Ecall) (goes 1 ((10, 4000000000) ∷ (17, 1) ∷ []))
    (goes 1 ((10, 4000000000) ∷ (17, 1) ∷ [])))
    ≡ codes "did exit=4000000000 call=1\n"
unfolding fields changes_text digits
exited = refl

-- a call is announced and its hart waits, and then it takes effect; its number stands in x17 before the turn
announced : did_line (deed T.Called None (Some I.Ecall) (goes 1 ((10, 7) ∷ (17, 4) ∷ [])) (waits ((10, 7) ∷ (17, 4) ∷ [])))
    ≡ codes "did asks=4\n"
unfolding fields changes_text digits
announced = refl

served : did_line (deed T.Called None (Some I.Ecall) (waits ((10, 7) ∷ (17, 4) ∷ [])) (goes 1 ((10, 0) ∷ (17, 4) ∷ [])))
    ≡ codes "did call=4 x10=0x00000000\n"
unfolding fields changes_text digits
served = refl

-- a number that no call has is told too
refused : did_line (deed T.Called None (Some I.Ecall) (goes 1 ((10, 7) ∷ (17, 4294967295) ∷ []))
    (goes 1 ((10, 0xFFFFFFF3) ∷ (17, 4294967295) ∷ [])))
    ≡ codes "did call=4294967295 x10=0xfffffff3\n"
unfolding fields changes_text digits
refused = refl

-- loads of one, two and four bytes: the address is that of the base register before the turn, also where rd is that register
abbrev loads : LoadWidth → Deed
loads width =
    deed T.Ran None (Some (I.Load width 5 5 0xFFFFFFFC)) (goes 1 ((5, 0x80000108) ∷ [])) (goes 1 ((5, 0x55) ∷ []))

load-byte : did_line (loads L.Lb) ≡ codes "did load=0x80000104/1 x5=0x00000055\n"
unfolding fields changes_text digits
load-byte = refl

load-half : did_line (loads L.Lh) ≡ codes "did load=0x80000104/2 x5=0x00000055\n"
unfolding fields changes_text digits
load-half = refl

load-word : did_line (loads L.Lw) ≡ codes "did load=0x80000104/4 x5=0x00000055\n"
unfolding fields changes_text digits
load-word = refl

load-byte-unsigned : did_line (loads L.Lbu) ≡ codes "did load=0x80000104/1 x5=0x00000055\n"
unfolding fields changes_text digits
load-byte-unsigned = refl

load-half-unsigned : did_line (loads L.Lhu) ≡ codes "did load=0x80000104/2 x5=0x00000055\n"
unfolding fields changes_text digits
load-half-unsigned = refl

-- stores of one, two and four bytes of a register: those bytes alone
abbrev stores : StoreWidth → Deed
stores width =
    let hart = goes 1 ((5, 0x80000100) ∷ (6, 0x89ABCDEF) ∷ []) in
    deed T.Ran None (Some (I.Store width 5 6 4)) hart hart

store-byte : did_line (stores S.Sb) ≡ codes "did store=0x80000104/1/0x000000ef\n"
unfolding fields changes_text digits
store-byte = refl

store-half : did_line (stores S.Sh) ≡ codes "did store=0x80000104/2/0x0000cdef\n"
unfolding fields changes_text digits
store-half = refl

store-word : did_line (stores S.Sw) ≡ codes "did store=0x80000104/4/0x89abcdef\n"
unfolding fields changes_text digits
store-word = refl

-- at a gate the instruction that stands there doesn't run: it loads or stores nothing, whether the hart crosses or a dead target sends it
-- back
crossed : did_line (deed T.Crossed None (Some (I.Load L.Lw 6 5 0)) (goes 1 ((2, 0x80004000) ∷ [])) (goes 2 ((2, 0x80005000) ∷ [])))
    ≡ codes "did domain=2 x2=0x80005000\n"
unfolding fields changes_text digits
crossed = refl

bounced : did_line (deed T.Returned None (Some (I.Store S.Sw 5 6 0)) (goes 1 ((5, 0x80000100) ∷ []))
    (goes 1 ((5, 0x80000100) ∷ (10, 0xFFFFFF14) ∷ []))) ≡ codes "did x10=0xffffff14\n"
unfolding fields changes_text digits
bounced = refl

-- a return to a caller of another domain
returned : did_line (deed T.Returned None (Some (I.Jalr 0 1 0)) (goes 2 ((9, 4) ∷ [])) (goes 1 ((9, 6) ∷ [])))
    ≡ codes "did domain=1 x9=0x00000006\n"
unfolding fields changes_text digits
returned = refl

-- what is told of registers is told of those before the turn, and the fields stand in this order; no turn has all of these
before-the-call : did_line (deed T.Called None (Some I.Ecall) (goes 1 ((17, 13) ∷ [])) (goes 1 ((17, 4) ∷ [])))
    ≡ codes "did call=13 x17=0x00000004\n"
unfolding fields changes_text digits
before-the-call = refl

in-order : did_line (deed T.Ran (fault 2 0) (Some (I.Store S.Sw 5 6 0)) (goes 1 ((5, 0x80000100) ∷ (6, 8) ∷ []))
    (goes 2 ((5, 0x80000200) ∷ (6, 9) ∷ [])))
    ≡ codes "did fault=2/0x00000000 store=0x80000100/4/0x00000008 domain=2 x5=0x80000200 x6=0x00000009\n"
unfolding fields changes_text digits
in-order = refl
