-- Worked examples of the fields of a snapshot: each rule at its edge, with the place and number of its fault, computed.
use Rattle.std.proofs.Common.{◌≡◌, ℕ, true, false, List, [], ◌∷◌, ◌++◌, replicate, refl}
use Rattle.std.specs.Prelude.{slice_set}
use Rattle.mx_words.specs.declared.perm.Perm.{Perm}
use Rattle.mx_words.specs.declared.perm.Perm.TheVariants as P
use Rattle.mx_words.specs.declared.tables.Kind.TheVariants as K
use Rattle.mx_words.specs.Bytes.{number_at}
use Rattle.mx_words.specs.FirstFit.{Area}
use Rattle.mx_words.specs.Runs.{Run}
use Rattle.mx_model.specs.declared.values.Frame.{Frame}
use Rattle.mx_model.specs.declared.values.Gate.{Gate}
use Rattle.mx_machine.specs.declared.views.HartStatus.TheVariants as V
use Rattle.mx_snapshot.specs.Stored.{Head, StoredHart, StoredModule, bits_of}
use Rattle.mx_snapshot.specs.Spelling.{numbers, sign}
use Rattle.mx_snapshot.specs.Reader.{Taken, Took, Fails}
use Rattle.mx_snapshot.specs.Fields.{block_in, frame_in, gate_in, hart_in, head_in, map_run_in, module_in, owner_run_in}

-- a RAM of 64 KiB, two modules and two harts
abbrev head : Head
head = record {
  words = 16384;
  kind = K.Multilevel;
  limit = record { upper = 4096; leaf = 262144; spill = 1048576 };
  lookaside = 64;
  quantum = 1000000;
  modules = 2;
  harts = 2;
  turns = 0x0807060504030201;
}

abbrev turned : List ℕ
turned = 1 ∷ 2 ∷ 3 ∷ 4 ∷ 5 ∷ 6 ∷ 7 ∷ 8 ∷ []

abbrev fields : List ℕ
fields = 16384 ∷ 1 ∷ 4096 ∷ 262144 ∷ 1048576 ∷ 64 ∷ 1000000 ∷ 2 ∷ 2 ∷ []

-- the head with another number in one of its nine fields of 4 bytes
abbrev head_with : ℕ → ℕ → Taken Head
head_with place n = head_in (sign ++ numbers (slice_set fields place n) ++ turned) 0

head-read : head_in (sign ++ numbers fields ++ turned) 0 ≡ Took head 52
unfolding head_in number_at
head-read = refl

head-ram : head_with 0 16383 ≡ Fails 8 4
unfolding head_in number_at
head-ram = refl

head-ram-small : head_with 0 15360 ≡ Fails 8 4
unfolding head_in number_at
head-ram-small = refl

head-ram-large : head_with 0 16778240 ≡ Fails 8 4
unfolding head_in number_at
head-ram-large = refl

head-kind : head_with 1 3 ≡ Fails 12 4
unfolding head_in number_at
head-kind = refl

head-upper : head_with 2 4097 ≡ Fails 16 4
unfolding head_in number_at
head-upper = refl

head-leaf : head_with 3 262145 ≡ Fails 20 4
unfolding head_in number_at
head-leaf = refl

head-spill : head_with 4 1048577 ≡ Fails 24 4
unfolding head_in number_at
head-spill = refl

head-buffer : head_with 5 16 ≡ Fails 28 4
unfolding head_in number_at
head-buffer = refl

head-no-quantum : head_with 6 0 ≡ Fails 32 4
unfolding head_in number_at
head-no-quantum = refl

head-quantum : head_with 6 1000001 ≡ Fails 32 4
unfolding head_in number_at
head-quantum = refl

head-modules : head_with 7 64 ≡ Fails 36 4
unfolding head_in number_at
head-modules = refl

head-no-harts : head_with 8 0 ≡ Fails 40 4
unfolding head_in number_at
head-no-harts = refl

head-harts : head_with 8 5 ≡ Fails 40 4
unfolding head_in number_at
head-harts = refl

head-turns : head_in (sign ++ numbers fields ++ slice_set turned 7 128) 0 ≡ Fails 44 4
unfolding head_in number_at
head-turns = refl

head-cut : head_in (sign ++ numbers fields ++ 0 ∷ []) 0 ≡ Fails 44 2
unfolding head_in number_at
head-cut = refl

-- blocks of a heap of ten words from word 10 on, the second behind one of words 10 to 14
abbrev block_after : List Area → ℕ → ℕ → Taken Area
block_after before first count =
    block_in (record { first = 10; count = 10 }) before (numbers (first ∷ count ∷ [])) 0

abbrev five : Area
five = record { first = 10; count = 5 }

block-read : block_after (five ∷ []) 15 5 ≡ Took (record { first = 15; count = 5 }) 8
unfolding block_in number_at
block-read = refl

block-before-heap : block_after [] 9 5 ≡ Fails 4 4
unfolding block_in number_at
block-before-heap = refl

block-past-heap : block_after [] 15 6 ≡ Fails 4 4
unfolding block_in number_at
block-past-heap = refl

block-empty : block_after [] 10 0 ≡ Fails 4 4
unfolding block_in number_at
block-empty = refl

block-in-another : block_after (five ∷ []) 14 1 ≡ Fails 4 4
unfolding block_in number_at
block-in-another = refl

-- runs of permission, the second of two behind three words
abbrev run_after : List (Run Perm) → ℕ → Taken (Run Perm)
run_after before n = map_run_in head 2 before (numbers (n ∷ [])) 0

abbrev three_words : Run Perm
three_words = record { count = 3; value = P.ExecuteRead }

run-read : run_after (three_words ∷ []) 65526 ≡ Took (record { count = 16381; value = P.ReadWrite }) 4
unfolding map_run_in number_at
run-read = refl

run-short : run_after (three_words ∷ []) 65522 ≡ Fails 0 4
unfolding map_run_in number_at
run-short = refl

run-past-ram : run_after [] 65542 ≡ Fails 0 4
unfolding map_run_in number_at
run-past-ram = refl

run-empty : run_after [] 3 ≡ Fails 0 4
unfolding map_run_in number_at
run-empty = refl

run-not-maximal : run_after (three_words ∷ []) 65527 ≡ Fails 0 4
unfolding map_run_in number_at
run-not-maximal = refl

-- runs of owner, likewise
abbrev owner_after : List (Run ℕ) → ℕ → ℕ → Taken (Run ℕ)
owner_after before count owner = owner_run_in head 2 before (numbers (count ∷ owner ∷ [])) 0

abbrev three_owned : Run ℕ
three_owned = record { count = 3; value = 2 }

owner-read : owner_after (three_owned ∷ []) 16381 0 ≡ Took (record { count = 16381; value = 0 }) 8
unfolding owner_run_in number_at
owner-read = refl

owner-short : owner_after (three_owned ∷ []) 16380 0 ≡ Fails 0 4
unfolding owner_run_in number_at
owner-short = refl

owner-past-ram : owner_after [] 16385 0 ≡ Fails 0 4
unfolding owner_run_in number_at
owner-past-ram = refl

owner-empty : owner_after [] 0 0 ≡ Fails 0 4
unfolding owner_run_in number_at
owner-empty = refl

owner-not-maximal : owner_after (three_owned ∷ []) 16381 2 ≡ Fails 4 4
unfolding owner_run_in number_at
owner-not-maximal = refl

owner-no-module : owner_after [] 5 3 ≡ Fails 4 4
unfolding owner_run_in number_at
owner-no-module = refl

-- gates, behind one of domain 2 at word 7
abbrev gate_after : ℕ → ℕ → ℕ → Taken Gate
gate_after domain word target =
    gate_in head (record { domain = 2; word = 7; target = 1 } ∷ []) (numbers (domain ∷ word ∷ target ∷ [])) 0

gate-read : gate_after 1 7 2 ≡ Took (record { domain = 1; word = 7; target = 2 }) 12
unfolding gate_in number_at
gate-read = refl

gate-no-domain : gate_after 0 7 2 ≡ Fails 0 4
unfolding gate_in number_at
gate-no-domain = refl

gate-past-ram : gate_after 1 16384 2 ≡ Fails 4 4
unfolding gate_in number_at
gate-past-ram = refl

gate-twice : gate_after 2 7 2 ≡ Fails 4 4
unfolding gate_in number_at
gate-twice = refl

gate-no-target : gate_after 1 7 3 ≡ Fails 8 4
unfolding gate_in number_at
gate-no-target = refl

-- frames
abbrev frame_with : ℕ → ℕ → Taken Frame
frame_with back caller = frame_in head [] (numbers (back ∷ caller ∷ replicate 15 9)) 0

frame-read : frame_with 0xFFFFFFFC 2 ≡ Took (record { back = 0xFFFFFFFC; caller = 2; kept = replicate 15 9 }) 68
unfolding frame_in number_at
frame-read = refl

frame-back : frame_with 2 2 ≡ Fails 0 4
unfolding frame_in number_at
frame-back = refl

frame-caller : frame_with 4 0 ≡ Fails 4 4
unfolding frame_in number_at
frame-caller = refl

-- hart 1 of two: its status, domain and pc, registers of which some aren't zero, no frames, and who has heard its call
abbrev regs_with : ℕ → ℕ → List ℕ
regs_with register value = slice_set (replicate 32 0) register value

abbrev before : List StoredHart
before = record { status = V.Halted; domain = 1; pc = 0; regs = replicate 32 0; frames = []; heard = 0 } ∷ []

abbrev hart_with : ℕ → ℕ → ℕ → List ℕ → ℕ → ℕ → Taken StoredHart
hart_with status domain pc regs frames heard =
    hart_in head before (numbers (status ∷ domain ∷ pc ∷ regs) ++ numbers (frames ∷ heard ∷ [])) 0

hart-read : hart_with 1 2 0x80000008 (regs_with 17 6) 0 1
    ≡ Took (record { status = V.Waiting; domain = 2; pc = 0x80000008; regs = regs_with 17 6; frames = []; heard = 1 }) 148
unfolding hart_in number_at
hart-read = refl

hart-halted : hart_with 2 1 4 (regs_with 31 0xFFFFFFFF) 0 0
    ≡ Took (record { status = V.Halted; domain = 1; pc = 4; regs = regs_with 31 0xFFFFFFFF; frames = []; heard = 0 }) 148
unfolding hart_in number_at
hart-halted = refl

hart-status : hart_with 3 1 4 (replicate 32 0) 0 0 ≡ Fails 0 4
unfolding hart_in number_at
hart-status = refl

hart-domain : hart_with 0 3 4 (replicate 32 0) 0 0 ≡ Fails 4 4
unfolding hart_in number_at
hart-domain = refl

hart-pc : hart_with 0 1 6 (replicate 32 0) 0 0 ≡ Fails 8 4
unfolding hart_in number_at
hart-pc = refl

hart-x0 : hart_with 0 1 4 (regs_with 0 1) 0 0 ≡ Fails 12 4
unfolding hart_in number_at
hart-x0 = refl

-- a hart waits on an announced call alone
hart-x17 : hart_with 1 1 4 (regs_with 17 5) 0 0 ≡ Fails 80 4
unfolding hart_in number_at
hart-x17 = refl

hart-frames : hart_with 0 1 4 (replicate 32 0) 65 0 ≡ Fails 140 4
unfolding hart_in number_at
hart-frames = refl

-- one that doesn't wait has no call that others could hear; no hart hears its own; and a third hart isn't there
hart-heard-none : hart_with 0 1 4 (regs_with 17 6) 0 1 ≡ Fails 144 4
unfolding hart_in number_at
hart-heard-none = refl

hart-heard-own : hart_with 1 1 4 (regs_with 17 6) 0 2 ≡ Fails 144 4
unfolding hart_in number_at
hart-heard-own = refl

hart-heard-third : hart_with 1 1 4 (regs_with 17 6) 0 4 ≡ Fails 144 4
unfolding hart_in number_at
hart-heard-third = refl

-- bit i is hart i's
heard-bits : bits_of (false ∷ true ∷ false ∷ true ∷ []) ≡ 10
heard-bits = refl

-- a second module behind one named `a`: its name, areas, both flags, no blocks, and one run of no permission
abbrev named_a : StoredModule
named_a = record {
  name = 97 ∷ [];
  home = record {
    heap = record { first = 0; count = 0 };
    blocks = [];
    stack = record { first = 0; words = 0 };
    kills = false;
    dead = false;
  };
  map = record { count = 16384; value = P.None } ∷ [];
}

abbrev module_with : ℕ → List ℕ → Taken StoredModule
module_with name rest = module_in head (named_a ∷ []) (numbers (1 ∷ []) ++ name ∷ [] ++ numbers rest) 0

abbrev rest_with : ℕ → ℕ → List ℕ
rest_with place n = slice_set (8 ∷ 4 ∷ 16380 ∷ 2 ∷ 1 ∷ 0 ∷ 0 ∷ 1 ∷ 65536 ∷ []) place n

module-read : module_with 98 (rest_with 0 8)
    ≡ Took (record {
      name = 98 ∷ [];
      home = record {
        heap = record { first = 8; count = 4 };
        blocks = [];
        stack = record { first = 16380; words = 2 };
        kills = true;
        dead = false;
      };
      map = record { count = 16384; value = P.None } ∷ [];
    }) 41
unfolding module_in block_in map_run_in number_at
module-read = refl

-- a capital letter, and a name that stands before
module-name : module_with 65 (rest_with 0 8) ≡ Fails 4 4
unfolding module_in block_in map_run_in number_at
module-name = refl

module-name-twice : module_with 97 (rest_with 0 8) ≡ Fails 4 4
unfolding module_in block_in map_run_in number_at
module-name-twice = refl

-- areas past RAM's end, the stack for both harts, and of no words elsewhere than at word 0
module-heap : module_with 98 (rest_with 0 16381) ≡ Fails 9 4
unfolding module_in block_in map_run_in number_at
module-heap = refl

module-no-heap : module_with 98 (rest_with 1 0) ≡ Fails 9 4
unfolding module_in block_in map_run_in number_at
module-no-heap = refl

module-stack : module_with 98 (rest_with 3 3) ≡ Fails 17 4
unfolding module_in block_in map_run_in number_at
module-stack = refl

module-no-stack : module_with 98 (rest_with 3 0) ≡ Fails 17 4
unfolding module_in block_in map_run_in number_at
module-no-stack = refl

module-kills : module_with 98 (rest_with 4 2) ≡ Fails 21 4
unfolding module_in block_in map_run_in number_at
module-kills = refl

module-dead : module_with 98 (rest_with 5 2) ≡ Fails 25 4
unfolding module_in block_in map_run_in number_at
module-dead = refl

module-blocks : module_with 98 (rest_with 6 1025) ≡ Fails 29 4
unfolding module_in block_in map_run_in number_at
module-blocks = refl

module-no-runs : module_with 98 (rest_with 7 0) ≡ Fails 33 4
unfolding module_in block_in map_run_in number_at
module-no-runs = refl
