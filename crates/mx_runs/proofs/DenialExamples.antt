-- Worked examples of denied accesses, computed: by each of the four ways in which an access is denied, and by none.
use Rattle.std.proofs.Common.{◌≡◌, ℕ, Bool, true, false, List, [], ◌∷◌, refl, arith}
use Rattle.std.proofs.Common.{map as list_map}
use Rattle.mx_words.specs.declared.perm.Access.TheVariants as A
use Rattle.mx_words.specs.declared.perm.Perm.TheVariants as P
use Rattle.mx_words.specs.Bytes.{number_at, put_at}
use Rattle.mx_words.specs.Newest.{Grant}
use Rattle.mx_isa.specs.Fields.{imm_i, imm_s, imm_b, imm_u, imm_j, extended}
use Rattle.mx_isa.specs.Table.{decoded}
use Rattle.mx_isa.specs.declared.inst.Inst.TheVariants.{Load, Store}
use Rattle.mx_isa.specs.declared.inst.LoadWidth.TheVariants.{Lw}
use Rattle.mx_isa.specs.declared.inst.StoreWidth.TheVariants.{Sw}
use Rattle.mx_model.specs.declared.values.TurnKind.TheVariants as T
use Rattle.mx_model.specs.Effect.{effect, holds, imm_result, loaded, reg_result}
use Rattle.mx_model.specs.Reads.{reads}
use Rattle.mx_model.specs.Run.{kind}
use Rattle.mx_model.specs.State.{Running, State, no_module}
use Rattle.mx_model.specs.Turn.{is_denied}
use Rattle.mx_model.proofs.Boots.{regs_with}
use Rattle.mx_model.proofs.Smalls.{grant, hart_of, small}
use Rattle.mx_runs.specs.Denials.{Above, Below, ByNewest, Executes, Fetches, IsDenied, MakesCall, SomeDenied, Uncovered, answers_no_right}
use Rattle.mx_runs.specs.Denials.{traps_with}
use Rattle.mx_runs.proofs.CallDenials.{write-exactly}
use Rattle.mx_runs.proofs.DenialLaws.{denied-test}
use Rattle.mx_runs.proofs.TrapLaws.{fetch-exactly, load-exactly, store-exactly}

-- domain 1 at word 4 of 64, with an instruction there; of the data words the newest grant says read for 40 and
-- read-write for 41; 42 has none
abbrev rights : List Grant
rights = grant 4 1 P.ExecuteRead ∷ grant 40 2 P.ReadWrite ∷ grant 40 1 P.Read ∷ []

abbrev with_grants : ℕ → List Grant → List (ℕ × ℕ) → State
with_grants word grants regs =
    small ((4, word) ∷ []) (no_module ∷ []) (grants ∷ []) [] []
    (hart_of 1 0x80000010 (regs_with regs) [] Running ∷ []) 8

abbrev at_word : ℕ → List (ℕ × ℕ) → State
at_word word regs = with_grants word rights regs

-- lw x5, 0(x7), sw x5, 0(x7) and lw x5, 2(x7) with an address in x7
abbrev loads : ℕ → State
loads address = at_word 0x0003A283 ((7, address) ∷ [])

abbrev stores : ℕ → State
stores address = at_word 0x0053A023 ((7, address) ∷ [])

abbrev crooked : ℕ → State
crooked address = at_word 0x0023A283 ((7, address) ∷ [])

-- each way in which an access is denied
below : IsDenied (loads 0x7FFFFFFC) 1 0x7FFFFFFC A.Read
below = Below (omega arith)

above : IsDenied (loads 0x80000100) 1 0x80000100 A.Read
above = Above (omega arith)

uncovered : IsDenied (loads 0x800000A8) 1 0x800000A8 A.Read
uncovered = Uncovered (
  λ k. (let l = k.below in let z : ⊥ = omega (arith, l) in z),
  (
    λ k. (let l = k.below in let z : ⊥ = omega (arith, l) in z),
    (λ k. (let l = k.below in let z : ⊥ = omega (arith, l) in z), tt),
  ),
)

by-newest : IsDenied (stores 0x800000A0) 1 0x800000A0 A.Write
by-newest =
    ByNewest (grant 4 1 P.ExecuteRead ∷ grant 40 2 P.ReadWrite ∷ []) (grant 40 1 P.Read) [] refl (record {
      from =
          omega arith;
      below = omega arith;
    }) tt refl

-- the turn traps there, by 5 and 7 with the address
below-traps : traps_with (loads 0x7FFFFFFC) 0 5 0x7FFFFFFC
unfolding decoded effect holds imm_result reg_result loaded number_at put_at imm_i imm_s imm_b imm_u imm_j extended
below-traps = record { kind = refl; note = refl }

above-traps : traps_with (loads 0x80000100) 0 5 0x80000100
unfolding decoded effect holds imm_result reg_result loaded number_at put_at imm_i imm_s imm_b imm_u imm_j extended
above-traps = record { kind = refl; note = refl }

uncovered-traps : traps_with (loads 0x800000A8) 0 5 0x800000A8
unfolding decoded effect holds imm_result reg_result loaded number_at put_at imm_i imm_s imm_b imm_u imm_j extended
uncovered-traps = record { kind = refl; note = refl }

by-newest-traps : traps_with (stores 0x800000A0) 0 7 0x800000A0
unfolding decoded effect holds imm_result reg_result loaded number_at put_at imm_i imm_s imm_b imm_u imm_j extended
by-newest-traps = record { kind = refl; note = refl }

-- and by 4 where the load is misaligned, denied or not
crooked-traps : traps_with (crooked 0x800000A0) 0 4 0x800000A2
unfolding decoded effect holds imm_result reg_result loaded number_at put_at imm_i imm_s imm_b imm_u imm_j extended
crooked-traps = record { kind = refl; note = refl }

crooked-outside-traps : traps_with (crooked 0x80000100) 0 4 0x80000102
unfolding decoded effect holds imm_result reg_result loaded number_at put_at imm_i imm_s imm_b imm_u imm_j extended
crooked-outside-traps = record { kind = refl; note = refl }

-- sw x5, 2(x7)
crooked-store-traps : traps_with (at_word 0x0053A123 ((7, 0x800000A0) ∷ [])) 0 6 0x800000A2
unfolding decoded effect holds imm_result reg_result loaded number_at put_at imm_i imm_s imm_b imm_u imm_j extended
crooked-store-traps = record { kind = refl; note = refl }

-- the test itself
abbrev denied_write : ℕ → Bool
denied_write address = is_denied (reads (stores 0)) (stores 0).core 1 address A.Write

tests : list_map denied_write
    (0x7FFFFFFF ∷ 0x80000010 ∷ 0x800000A0 ∷ 0x800000A3 ∷ 0x800000A4 ∷ 0x800000A8 ∷ 0x80000100 ∷ [])
    ≡ true ∷ true ∷ true ∷ true ∷ false ∷ true ∷ true ∷ []
tests = refl

-- nowhere else: a load of word 40, whose newest grant allows it, and a store to word 41, whose newest covering grant is
-- not the last
allowed-run : list_map (λ (s : State). kind s 0) (loads 0x800000A0 ∷ stores 0x800000A4 ∷ []) ≡ T.Ran ∷ T.Ran ∷ []
unfolding decoded effect holds imm_result reg_result loaded number_at put_at imm_i imm_s imm_b imm_u imm_j extended
allowed-run = refl

not-denied : (b : Bool) → b ≡ false → b ≡ true → ⊥
not-denied b e f = cc

allowed : IsDenied (stores 0x800000A4) 1 0x800000A4 A.Write → ⊥
allowed k = not-denied (is_denied (reads (stores 0x800000A4)) (stores 0x800000A4).core 1 0x800000A4 A.Write) refl
    ((denied-test (stores 0x800000A4) 1 0x800000A4 A.Write).1 k)

-- the premises of the law, and the law at these states
fetching : (word : ℕ) (regs : List (ℕ × ℕ)) → Fetches (at_word word regs) 0
fetching word regs = record { running = refl; live = refl; no_gate = refl }

fetch-allowed : (word : ℕ) (regs : List (ℕ × ℕ)) → IsDenied (at_word word regs) 1 0x80000010 A.Execute → ⊥
fetch-allowed word regs k =
    not-denied (is_denied (reads (at_word word regs)) (at_word word regs).core 1 0x80000010 A.Execute) refl
    ((denied-test (at_word word regs) 1 0x80000010 A.Execute).1 k)

executing-load : Executes (loads 0x800000A8) 0 (Load Lw 5 7 0)
unfolding decoded number_at imm_i imm_s imm_b imm_u imm_j extended
executing-load =
    record {
      fetches = fetching 0x0003A283 ((7, 0x800000A8) ∷ []);
      allowed =
          fetch-allowed 0x0003A283 ((7, 0x800000A8) ∷ []);
      word = refl;
    }

executing-store : Executes (stores 0x800000A0) 0 (Store Sw 7 5 0)
unfolding decoded number_at imm_i imm_s imm_b imm_u imm_j extended
executing-store =
    record {
      fetches = fetching 0x0053A023 ((7, 0x800000A0) ∷ []);
      allowed =
          fetch-allowed 0x0053A023 ((7, 0x800000A0) ∷ []);
      word = refl;
    }

load-by-law : traps_with (loads 0x800000A8) 0 5 0x800000A8
load-by-law = ((load-exactly (loads 0x800000A8) 0 5 7 0 Lw executing-load).aligned refl).1 uncovered

store-by-law : IsDenied (stores 0x800000A0) 1 0x800000A0 A.Write
store-by-law = ((store-exactly (stores 0x800000A0) 0 7 5 0 Sw executing-store).aligned refl).0 by-newest-traps

-- a fetch at a word that may only be read
abbrev unfetched : State
unfetched = with_grants 115 (grant 4 1 P.ExecuteRead ∷ grant 0 8 P.Read ∷ []) []

fetch-traps : traps_with unfetched 0 1 0x80000010
unfolding decoded effect holds imm_result reg_result loaded number_at put_at imm_i imm_s imm_b imm_u imm_j extended
fetch-traps = record { kind = refl; note = refl }

fetch-denied : IsDenied unfetched 1 0x80000010 A.Execute
fetch-denied = (fetch-exactly unfetched 0 (record { running = refl; live = refl; no_gate = refl })).0 fetch-traps

-- call 2 of eight bytes that begin in word 41 and end in word 43, of which word 42 may not be read; and of four that
-- may
abbrev writes : ℕ → State
writes count = at_word 115 ((10, 0x800000A6) ∷ (11, count) ∷ (17, 2) ∷ [])

write-denied : answers_no_right (writes 8) 0
unfolding decoded effect holds imm_result reg_result loaded number_at put_at imm_i imm_s imm_b imm_u imm_j extended
write-denied = refl

write-done : kind (writes 2) 0 ≡ T.Called
unfolding decoded effect holds imm_result reg_result loaded number_at put_at imm_i imm_s imm_b imm_u imm_j extended
write-done = refl

asking : MakesCall (writes 8) 0 2
unfolding decoded number_at imm_i imm_s imm_b imm_u imm_j extended
asking = record {
  executes = record {
    fetches = fetching 115 ((10, 0x800000A6) ∷ (11, 8) ∷ (17, 2) ∷ []);
    allowed = fetch-allowed 115 ((10, 0x800000A6) ∷ (11, 8) ∷ (17, 2) ∷ []);
    word = refl;
  };
  asked = refl;
}

some-denied : SomeDenied (writes 8) 1 0x800000A6 8 A.Read
some-denied =
    (write-exactly (writes 8) 0 asking (omega arith) (λ k l. (omega (arith, l), omega (arith, l)))).0 write-denied

-- call 13 at word 40, which may only be read, and at word 41
abbrev swaps : ℕ → State
swaps address = at_word 115 ((10, address) ∷ (11, 7) ∷ (17, 13) ∷ [])

swap-denied : answers_no_right (swaps 0x800000A0) 0
unfolding decoded effect holds imm_result reg_result loaded number_at put_at imm_i imm_s imm_b imm_u imm_j extended
swap-denied = refl

swap-done : kind (swaps 0x800000A4) 0 ≡ T.Called
unfolding decoded effect holds imm_result reg_result loaded number_at put_at imm_i imm_s imm_b imm_u imm_j extended
swap-done = refl
