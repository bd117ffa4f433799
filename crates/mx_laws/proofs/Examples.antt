-- Worked examples in a RAM of four words with one module and one hart in it: which states agree, and what a turn then makes of them.
use Rattle.std.proofs.Common.{◌≡◌, ℕ, ◌+◌, Bool, true, false, List, [], ◌∷◌, ◌++◌, replicate, refl}
use Rattle.std.specs.Prelude.{Some, None, slice_set}
use Rattle.std.specs.Prelude.{map as list_map}
use Rattle.mx_words.specs.declared.perm.Perm.TheVariants as P
use Rattle.mx_words.specs.declared.tables.Kind.TheVariants as K
use Rattle.mx_words.specs.Bytes.{number_at, put_at}
use Rattle.mx_words.specs.Caches.{no_cache}
use Rattle.mx_words.specs.Newest.{Grant}
use Rattle.mx_words.specs.Ranges.{ram_base}
use Rattle.mx_isa.specs.Fields.{imm_i, imm_s, imm_b, imm_u, imm_j, extended}
use Rattle.mx_isa.specs.Table.{decoded}
use Rattle.mx_model.specs.Agreement.{agree}
use Rattle.mx_model.specs.Effect.{effect, holds, imm_result, loaded, reg_result}
use Rattle.mx_model.specs.Reads.{reads}
use Rattle.mx_model.specs.Run.{turn}
use Rattle.mx_model.specs.State.{Core, Halted, Hart, Module, Running, State}
use Rattle.mx_laws.specs.Comparison.{agrees}
use Rattle.mx_laws.specs.Twins.{free_twins}
use Rattle.mx_laws.proofs.AfterLaws.{agree-after}
use Rattle.mx_laws.proofs.ComparisonLaws.{agrees-decides, bounded-state}

-- a state: RAM's bytes, what the module is granted, and x2 and x31 of the hart, which is at the first word
abbrev pub state : List ℕ → List Grant → ℕ → ℕ → State
state ram grants x2 x31 = record {
  core = record {
    ram = ram;
    modules = record {
      heap = record { first = 0; count = 0 };
      blocks = [];
      stack = record { first = 0; words = 0 };
      kills = false;
      dead =
          false;
    } ∷ [];
    gates = [];
    harts = record { regs = slice_set (slice_set (replicate 32 0) 2 x2) 31 x31; pc = ram_base; domain = 1; frames = []; status = Running }
        ∷ [];
    caches = no_cache ∷ [];
    turns = 0;
    size = 4;
    kind = K.Packed;
    limit = record { upper = 128; leaf = 128; spill = 128 };
    buffer = 0;
  };
  grants = grants ∷ [];
  gives = [];
  console = [];
  notes = [];
}

-- execute-read on the first word, read-write on the third, and nothing on the others
abbrev pub closed : List Grant
closed = record { first = 0; count = 1; value = P.ExecuteRead } ∷ record { first = 2; count = 1; value = P.ReadWrite } ∷ []

-- read on the second word as well
abbrev pub open_to : List Grant
open_to = closed ++ record { first = 1; count = 1; value = P.Read } ∷ []

-- whether two states agree for the hart
abbrev agreeing : State → State → Bool
agreeing s t = agrees (reads s) s.core (reads t) t.core 0

-- addi x1, x1, 1 before a secret byte
abbrev pub secret : ℕ → List ℕ
secret s = 0x93 ∷ 0x80 ∷ 0x10 ∷ 0x00 ∷ s ∷ 0 ∷ 0 ∷ 0 ∷ replicate 8 0

-- two states that differ in a byte that the module may not read agree, and where it may read it they don't
unread : agreeing (state (secret 7) closed 0 0) (state (secret 8) closed 0 0) ≡ true
unread = refl

read : agreeing (state (secret 7) open_to 0 0) (state (secret 8) open_to 0 0) ≡ false
read = refl

-- a state with other parts, or with another hart
abbrev pub plain : State
plain = state (secret 7) closed 0 0

abbrev pub changed : (Core → Core) → State
changed f = record plain { core = f plain.core }

abbrev pub with_hart : (Hart → Hart) → State
with_hart f = changed (λ c. record c { harts = list_map f c.harts })

-- each other part that differs ends the agreement
other-standing : agreeing plain (with_hart (λ x. record x { status = Halted None })) ≡ false
other-standing = refl

other-pc : agreeing plain (with_hart (λ x. record x { pc = ram_base + 4 })) ≡ false
other-pc = refl

other-register : agreeing plain (state (secret 7) closed 0 1) ≡ false
other-register = refl

other-domain : agreeing plain (with_hart (λ x. record x { domain = 2 })) ≡ false
other-domain = refl

other-right : agreeing plain (state (secret 7) open_to 0 0) ≡ false
other-right = refl

other-death : agreeing plain (changed (λ c. record c { modules = list_map (λ (m : Module). record m { dead = true }) c.modules })) ≡ false
other-death = refl

abbrev gated : ℕ → State
gated d = changed (λ c. record c { gates = record { domain = d; word = 3; target = 1 } ∷ [] })

other-gate : agreeing plain (gated 1) ≡ false
other-gate = refl

-- frames, the code of a halt and gates for another domain are no part of it
other-frames : agreeing plain (with_hart (λ x. record x { frames = record { back = ram_base; caller = 1; kept = replicate 15 0 } ∷ [] }))
    ≡ true
other-frames = refl

other-code : agreeing (with_hart (λ x. record x { status = Halted None })) (with_hart (λ x. record x { status = Halted (Some 3) })) ≡ true
other-code = refl

other-domains-gate : agreeing plain (gated 2) ≡ true
other-domains-gate = refl

-- the first two are twins that meet no border, so they agree after the turn
unread-agree : agree (state (secret 7) closed 0 0) (state (secret 8) closed 0 0) 0
unread-agree =
    let s = state (secret 7) closed 0 0 in
    let t = state (secret 8) closed 0 0 in
    (agrees-decides (reads s) (reads t) s.core t.core 0 (record { words = refl; first = bounded-state s; second = bounded-state t })).0
    unread

unread-free : free_twins (state (secret 7) closed 0 0) (state (secret 8) closed 0 0) 0
unfolding decoded effect holds imm_result reg_result loaded number_at put_at imm_i imm_s imm_b imm_u imm_j extended
unread-free = record {
  twins = record { words = refl; bytes = refl; aligned = refl; agreement = unread-agree };
  running = refl;
  free = refl;
}

unread-after : agree (turn (state (secret 7) closed 0 0) 0) (turn (state (secret 8) closed 0 0) 0) 0
unread-after = agree-after (state (secret 7) closed 0 0) (state (secret 8) closed 0 0) 0 0 unread-free unread-agree
