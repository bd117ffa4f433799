-- Worked examples of the plain machine, computed.
use Rattle.std.specs.Prelude.{◌≡◌, ℕ, List, [], ◌∷◌, replicate, refl, Option, Some, None}
use Rattle.std.specs.List.{last_or}
use Rattle.std.specs.Prelude.{map as list_map}
use Rattle.mx_words.specs.declared.perm.Perm.{Perm}
use Rattle.mx_words.specs.declared.perm.Perm.TheVariants as P
use Rattle.mx_words.specs.Bytes.{number_at, put_at, cleared_at}
use Rattle.mx_words.specs.Caches.{no_cache}
use Rattle.mx_words.specs.Newest.{Grant, Give}
use Rattle.mx_isa.specs.Fields.{imm_i, imm_s, imm_b, imm_u, imm_j, extended}
use Rattle.mx_isa.specs.Table.{decoded}
use Rattle.mx_model.specs.declared.values.Gate.{Gate}
use Rattle.mx_model.specs.declared.values.Note.{Note}
use Rattle.mx_model.specs.declared.values.Note.TheVariants as N
use Rattle.mx_model.specs.Effect.{holds, imm_result, reg_result, loaded, effect}
use Rattle.mx_model.specs.Run.{ByQuantum, ByBytes, run}
use Rattle.mx_model.specs.State.{State}
use Rattle.mx_model.proofs.Boots.{End, boot, end, fault, hart_end, inline, one_end, one_module, regs_with}
use Rattle.mx_uncached.specs.Plain.{Plain}
use Rattle.mx_uncached.specs.Turn.{plain_run}
use Rattle.mx_uncached.specs.Forgetting.{plain}

-- What one run shows is one fact, so that the run is made once.

-- the state after at most n turns, one for each hart in order
abbrev after : ℕ → State → Plain
after n s = plain_run (ByQuantum 1) n (plain s)

-- what an example tells of it: the notes, the number of turns and the harts
abbrev told : Plain → End
told p = record { notes = p.notes; turns = p.turns; harts = list_map hart_end p.harts }

abbrev grant : ℕ → ℕ → Perm → Grant
grant first count p = record { first = first; count = count; value = p }

abbrev gate : ℕ → ℕ → ℕ → Gate
gate domain word target = record { domain = domain; word = word; target = target }

abbrev last_give : List Give → Option Give
last_give gives = last_or None gives

-- three bytes on the console, and an exit
abbrev greeting : State
greeting = one_module (0x80000537 ∷ 0x01C50513 ∷ 0x00300593 ∷ 0x00200893 ∷ 0x00000073 ∷ 0x00100893 ∷ 0x00000073
    ∷ 0x000A6968 ∷ [])

-- the console and the notes
record Greeted : Type 0 where
  console : List ℕ
  notes : List Note

abbrev greeted : Plain → Greeted
greeted p = record { console = p.console; notes = p.notes }

greeting-three-bytes : greeted (after 9 greeting) ≡ record { console = 104 ∷ 105 ∷ 10 ∷ []; notes = N.Exit 7 0 1 3 ∷ [] }
unfolding decoded effect holds imm_result reg_result loaded number_at put_at cleared_at
    imm_i imm_s imm_b imm_u imm_j extended
greeting-three-bytes = refl

-- a grant is one more grant in its domain's list, the newest
abbrev granting : State
granting =
    boot (inline 0 P.ExecuteRead (0x80000537 ∷ 0x00400593 ∷ 0x00200613 ∷ 0x00100693 ∷ 0x00300893 ∷ 0x00000073
    ∷ 0x00100073 ∷ [])
    ∷ inline 2048 P.Read (0 ∷ []) ∷ []) [] ((1, 0x80000000) ∷ [])

-- what is told, and the lists of grants
record Granted : Type 0 where
  ending : End
  grants : List (List Grant)

abbrev granted : Plain → Granted
granted p = record { ending = told p; grants = p.grants }

granting-a-word : granted (after 10 granting) ≡ record {
  ending = one_end (fault 7 0 1 0x80000018 3 0x80000018 ∷ []) 7 0x80000018 1 0 ((11, 4) ∷ (12, 2) ∷ (13, 1) ∷ (17, 3) ∷ []);
  grants = (grant 0 7 P.ExecuteRead ∷ grant 0 0 P.ReadWrite ∷ [])
      ∷ (grant 2048 1 P.Read ∷ grant 0 0 P.ReadWrite ∷ grant 0 1 P.Read ∷ []) ∷ [];
}
unfolding decoded effect holds imm_result reg_result loaded number_at put_at cleared_at
    imm_i imm_s imm_b imm_u imm_j extended
granting-a-word = refl

-- an alloc, a store to the block, a free, and a store that is denied
abbrev allocating : State
allocating =
    boot (record (inline 0 P.ExecuteRead (0x00200513 ∷ 0x00600893 ∷ 0x00000073 ∷ 0x00050293 ∷ 0x0112A023 ∷ 0x00700893
    ∷ 0x00000073 ∷ 0x0112A023 ∷ []))
    { heap = record { first = 1024; count = 8 } } ∷ []) [] ((1, 0x80000000) ∷ [])

allocated : told (after 10 allocating)
    ≡ one_end (fault 8 0 1 0x8000001C 7 0x80001000 ∷ []) 8 0x8000001C 1 0 ((5, 0x80001000) ∷ (17, 7) ∷ [])
unfolding decoded effect holds imm_result reg_result loaded number_at put_at cleared_at
    imm_i imm_s imm_b imm_u imm_j extended
allocated = refl

-- a crossing and a return: to the saved address, and to another, which faults inside the call
abbrev returning : ℕ → State
returning last =
    boot (inline 0 P.ExecuteRead (0x800012B7 ∷ 0x000280E7 ∷ 0x00100073 ∷ 0x00100073 ∷ [])
    ∷ inline 1024 P.ExecuteRead (0x00700113 ∷ 0x00900413 ∷ last ∷ []) ∷ [])
    (gate 1 1024 2 ∷ gate 2 1026 2 ∷ []) ((1, 0x80000000) ∷ [])

returned : told (after 10 (returning 0x00008067))
    ≡ one_end (fault 7 0 1 0x80000008 3 0x80000008 ∷ []) 7 0x80000008 1 0 ((1, 0x80000008) ∷ (5, 0x80001000) ∷ [])
unfolding decoded effect holds imm_result reg_result loaded number_at put_at cleared_at
    imm_i imm_s imm_b imm_u imm_j extended
returned = refl

misled : told (after 10 (returning 0x00408067))
    ≡ one_end (fault 6 0 2 0x80001008 17 0x8000000C ∷ fault 7 0 1 0x80000008 3 0x80000008
    ∷ []) 7 0x80000008 1 0 ((1, 0x80000008) ∷ (5, 0x80001000) ∷ (10, 0xFFFFFF11) ∷ [])
unfolding decoded effect holds imm_result reg_result loaded number_at put_at cleared_at
    imm_i imm_s imm_b imm_u imm_j extended
misled = refl

-- two harts: a grant that waits for the other hart finds its word given away, and is refused
abbrev waiting : State
waiting =
    boot (record (inline 0 P.ExecuteRead (0x80001537 ∷ 0x00400593 ∷ 0x00200613 ∷ 0x00100693 ∷ 0x00300893 ∷ 0x00000073
    ∷ 0x00100073
    ∷ 0x80001537 ∷ 0x00400593 ∷ 0x00200613 ∷ 0x00500893 ∷ 0x00000013 ∷ 0x00000073 ∷ 0x00100073 ∷ []))
    { stack = record { first = 1024; words = 4 } } ∷ inline 2048 P.Read (0 ∷ []) ∷ []) [] ((1, 0x80000000)
    ∷ (1, 0x8000001C) ∷ [])

-- what is told, and the newest give
record Refused : Type 0 where
  ending : End
  newest : Option Give

abbrev refused : Plain → Refused
refused p = record { ending = told p; newest = last_give p.gives }

refused-after-waiting : refused (after 20 waiting) ≡ record {
  ending = record {
    notes = fault 14 1 1 0x80000034 3 0x80000034 ∷ fault 15 0 1 0x80000018 3 0x80000018 ∷ [];
    turns = 15;
    harts = record {
      pc = 0x80000018;
      domain = 1;
      frames = 0;
      regs = regs_with ((2, 0x80001010) ∷ (10, 0xFFFFFFFE)
          ∷ (11, 4) ∷ (12, 2) ∷ (13, 1) ∷ (17, 3) ∷ []);
    }
        ∷ record {
          pc = 0x80000034;
          domain = 1;
          frames = 0;
          regs = regs_with ((2, 0x80001020) ∷ (11, 4) ∷ (12, 2)
              ∷ (17, 5) ∷ []);
        } ∷ [];
  };
  newest = Some (record { first = 1024; count = 1; value = 2 });
}
unfolding decoded effect holds imm_result reg_result loaded number_at put_at cleared_at
    imm_i imm_s imm_b imm_u imm_j extended
refused-after-waiting = refl

-- bytes name the harts: hart 1 makes two turns, then hart 0 makes one, and then there is no further byte
by-bytes : list_map hart_end (plain_run (ByBytes (1 ∷ 1 ∷ 0 ∷ [])) 9 (plain waiting)).harts
    ≡ record { pc = 0x80000004; domain = 1; frames = 0; regs = regs_with ((2, 0x80001010) ∷ (10, 0x80001000) ∷ []) }
    ∷ record {
      pc = 0x80000024;
      domain = 1;
      frames = 0;
      regs = regs_with ((2, 0x80001020) ∷ (10, 0x80001000)
          ∷ (11, 4) ∷ []);
    } ∷ []
unfolding decoded effect holds imm_result reg_result loaded number_at put_at cleared_at
    imm_i imm_s imm_b imm_u imm_j extended
by-bytes = refl

-- caches that hold a lie, read-write on every word, decide nothing: the denied store is denied
abbrev lying : State → State
lying s = record s {
  core = record s.core {
    caches = record no_cache {
      places = replicate 32 (Some
          (record { first = 0; count = 16384; perm = P.ReadWrite }));
    } ∷ [];
    buffer = 8;
  };
}

forgotten : plain (lying allocating) ≡ plain allocating
forgotten = refl

undeceived : end (run (ByQuantum 1) 10 (lying allocating))
    ≡ one_end (fault 8 0 1 0x8000001C 7 0x80001000 ∷ []) 8 0x8000001C 1 0 ((5, 0x80001000) ∷ (17, 7) ∷ [])
unfolding decoded effect holds imm_result reg_result loaded number_at put_at cleared_at
    imm_i imm_s imm_b imm_u imm_j extended
undeceived = refl
