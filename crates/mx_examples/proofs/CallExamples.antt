-- Worked examples of supervisor calls, computed.
use Rattle.std.specs.Prelude.{◌≡◌, ℕ, List, [], ◌∷◌, refl, ◌==◌}
use Rattle.std.specs.Prelude.{map as list_map}
use Rattle.mx_words.specs.declared.perm.Perm.{Perm}
use Rattle.mx_words.specs.declared.perm.Perm.TheVariants as P
use Rattle.mx_words.specs.Bytes.{number_at, put_at, cleared_at}
use Rattle.mx_words.specs.Newest.{map, owners}
use Rattle.mx_words.specs.Rights.{same}
use Rattle.mx_words.specs.Runs.{Run, runs_of}
use Rattle.mx_isa.specs.Fields.{imm_i, imm_s, imm_b, imm_u, imm_j, extended}
use Rattle.mx_isa.specs.Table.{decoded}
use Rattle.mx_model.specs.declared.values.Note.{Note}
use Rattle.mx_model.specs.declared.values.Note.TheVariants as N
use Rattle.mx_model.specs.Effect.{holds, imm_result, reg_result, loaded, effect}
use Rattle.mx_model.specs.Run.{ByQuantum, run}
use Rattle.mx_model.specs.State.{State, cache_at}
use Rattle.mx_model.specs.Reads.{grants_of}
use Rattle.mx_model.proofs.Boots.{End, end, fault, one_module, inline, boot, regs_with}

-- What one run shows is one fact, so that the run is made once.

-- runs of one permission or owner, as their lengths and values
abbrev run_of : {A : Type 0} → ℕ → A → Run A
run_of count value = record { count = count; value = value }

abbrev map_runs : State → ℕ → List (Run Perm)
map_runs s d = runs_of same (map (grants_of s.grants d) 16384)

abbrev owner_runs : State → List (Run ℕ)
owner_runs s = runs_of (λ a b. a == b) (owners s.gives 16384)

-- three counts of a hart's caches
record Counts : Type 0 where
  sidecar : ℕ
  lookaside : ℕ
  walks : ℕ

abbrev counts : State → ℕ → Counts
counts s h = record { sidecar = (cache_at s.core h).sidecar; lookaside = (cache_at s.core h).lookaside; walks = (cache_at s.core h).walks }

-- two harts, a transfer under a waiting grant: the grant is announced at step 11, the word is given away at step 12, and at step 13 the
-- grant answers -2
abbrev waiting : State
waiting =
    boot (record (inline 0 P.ExecuteRead (0x80001537 ∷ 0x00400593 ∷ 0x00200613 ∷ 0x00100693 ∷ 0x00300893 ∷ 0x00000073 ∷ 0x00100073
    ∷ 0x80001537 ∷ 0x00400593 ∷ 0x00200613 ∷ 0x00500893 ∷ 0x00000013 ∷ 0x00000073 ∷ 0x00100073 ∷ [])) {
      stack =
          record { first = 1024; words = 4 };
    }
    ∷ inline 2048 P.Read (0 ∷ []) ∷ []) [] ((1, 0x80000000) ∷ (1, 0x8000001C) ∷ [])

-- how it ends, and the owners
record Transferred : Type 0 where
  ending : End
  owners : List (Run ℕ)

abbrev transferred : State → Transferred
transferred s = record { ending = end s; owners = owner_runs s }

transfer-under-a-waiting-grant : transferred (run (ByQuantum 1) 20 waiting) ≡ record {
  ending = record {
    notes = fault 14 1 1 0x80000034 3 0x80000034 ∷ fault 15 0 1 0x80000018 3 0x80000018 ∷ [];
    turns = 15;
    harts =
        record {
          pc = 0x80000018;
          domain = 1;
          frames = 0;
          regs =
              regs_with ((2, 0x80001010) ∷ (10, 0xfffffffe) ∷ (11, 0x4) ∷ (12, 0x2) ∷ (13, 0x1) ∷ (17, 0x3) ∷ []);
        }
        ∷ record { pc = 0x80000034; domain = 1; frames = 0; regs = regs_with ((2, 0x80001020) ∷ (11, 0x4) ∷ (12, 0x2) ∷ (17, 0x5) ∷ []) }
        ∷ [];
  };
  owners = run_of 14 1 ∷ run_of 1010 0 ∷ run_of 1 2 ∷ run_of 7 1 ∷ run_of 1016 0 ∷ run_of 1 2 ∷ run_of 14335 0 ∷ [];
}
unfolding decoded effect holds imm_result reg_result loaded number_at put_at cleared_at imm_i imm_s imm_b imm_u imm_j extended
transfer-under-a-waiting-grant = refl

-- grant with one hart: it takes effect at its own turn
abbrev granting : State
granting = boot (inline 0 P.ExecuteRead (0x80000537 ∷ 0x00400593 ∷ 0x00200613 ∷ 0x00100693 ∷ 0x00300893 ∷ 0x00000073 ∷ 0x00100073 ∷ [])
    ∷ inline 2048 P.Read (0 ∷ []) ∷ []) [] ((1, 0x80000000) ∷ [])

-- how it ends, and the maps of domains 1 and 2
record Granted : Type 0 where
  ending : End
  maps : List (List (Run Perm))

abbrev granted : State → Granted
granted s = record { ending = end s; maps = list_map (map_runs s) (1 ∷ 2 ∷ []) }

grant-with-one-hart : granted (run (ByQuantum 1) 10 granting) ≡ record {
  ending = record {
    notes = fault 7 0 1 0x80000018 3 0x80000018 ∷ [];
    turns = 7;
    harts =
        record { pc = 0x80000018; domain = 1; frames = 0; regs = regs_with ((11, 0x4) ∷ (12, 0x2) ∷ (13, 0x1) ∷ (17, 0x3) ∷ []) } ∷ [];
  };
  maps = (run_of 7 P.ExecuteRead ∷ run_of 16377 P.None ∷ [])
      ∷ (run_of 1 P.Read ∷ run_of 2047 P.None ∷ run_of 1 P.Read ∷ run_of 14335 P.None ∷ [])
      ∷ [];
}
unfolding decoded effect holds imm_result reg_result loaded number_at put_at cleared_at imm_i imm_s imm_b imm_u imm_j extended
grant-with-one-hart = refl

-- alloc, store, free, store: the freed block is denied
abbrev allocating : State
allocating =
    boot (record (inline 0 P.ExecuteRead (0x00200513 ∷ 0x00600893 ∷ 0x00000073 ∷ 0x00050293 ∷ 0x0112A023 ∷ 0x00700893 ∷ 0x00000073
    ∷ 0x0112A023 ∷ [])) { heap = record { first = 1024; count = 8 } } ∷ [])
    [] ((1, 0x80000000) ∷ [])

-- how it ends, the map of domain 1, the word that was stored, and the owners
record Freed : Type 0 where
  ending : End
  map : List (Run Perm)
  word : ℕ
  owners : List (Run ℕ)

abbrev freed : State → Freed
freed s = record { ending = end s; map = map_runs s 1; word = number_at s.core.ram 4096 4; owners = owner_runs s }

alloc-store-free : freed (run (ByQuantum 1) 10 allocating) ≡ record {
  ending = record {
    notes = fault 8 0 1 0x8000001c 7 0x80001000 ∷ [];
    turns = 8;
    harts =
        record { pc = 0x8000001c; domain = 1; frames = 0; regs = regs_with ((5, 0x80001000) ∷ (17, 0x7) ∷ []) } ∷ [];
  };
  map = run_of 8 P.ExecuteRead ∷ run_of 16376 P.None ∷ [];
  word = 6;
  owners = run_of 8 1 ∷ run_of 1016 0 ∷ run_of 8 1 ∷ run_of 15352 0 ∷ [];
}
unfolding decoded effect holds imm_result reg_result loaded number_at put_at cleared_at imm_i imm_s imm_b imm_u imm_j extended
alloc-store-free = refl

-- hi on the console
abbrev greeting : State
greeting = one_module (0x80000537 ∷ 0x01C50513 ∷ 0x00300593 ∷ 0x00200893 ∷ 0x00000073 ∷ 0x00100893 ∷ 0x00000073 ∷ 0x000A6968 ∷ [])

-- the console, the notes, and the counts of hart 0
record Greeted : Type 0 where
  console : List ℕ
  notes : List Note
  hart : Counts

abbrev greeted : State → Greeted
greeted s = record { console = s.console; notes = s.notes; hart = counts s 0 }

hi-on-the-console : greeted (run (ByQuantum 1) 9 greeting) ≡ record {
  console = 104 ∷ 105 ∷ 10 ∷ [];
  notes = N.Exit 7 0 1 3 ∷ [];
  hart = record { sidecar = 6; lookaside = 1; walks = 1 };
}
unfolding decoded effect holds imm_result reg_result loaded number_at put_at cleared_at imm_i imm_s imm_b imm_u imm_j extended
hi-on-the-console = refl

-- three words, with the counts
three-words-counts : counts (run (ByQuantum 1) 10 (one_module (0x00100893 ∷ 0x00500513 ∷ 0x00000073 ∷ []))) 0
    ≡ record { sidecar = 2; lookaside = 0; walks = 1 }
unfolding decoded effect holds imm_result reg_result loaded number_at put_at cleared_at imm_i imm_s imm_b imm_u imm_j extended
three-words-counts = refl
