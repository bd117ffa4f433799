-- A small flat state that is valid: 17 words; two modules with stack areas, of which the first has a heap area with a live block; a call
-- gate and a
-- return gate; and two harts, of which the first waits on a grant that the second has heard, and the second is inside a call.
use Rattle.std.proofs.Common.{◌≡◌, ◌≢◌, ℕ, zero, suc, ◌<◌, true, false, nat_lt, ◌&&◌, List, [], ◌∷◌, ◌++◌, get_or, replicate, refl, arith}
use Rattle.std.proofs.Common.{lit<, lit≤}
use Rattle.std.specs.List.{list_all}
use Rattle.std.proofs.lemmas.Bool.{ltb-true}
use Rattle.mx_words.specs.declared.perm.Perm.TheVariants as P
use Rattle.mx_words.specs.declared.tables.Kind.TheVariants as K
use Rattle.mx_words.specs.Caches.{no_cache}
use Rattle.mx_words.specs.Hearing.{is_in}
use Rattle.mx_model.specs.declared.values.Frame.{Frame}
use Rattle.mx_model.specs.declared.values.Gate.{Gate}
use Rattle.mx_model.specs.Gates.{AreSingle}
use Rattle.mx_model.specs.State.{Core, Flat, Hart, Module, Running, Waiting, hart_at}
use Rattle.mx_model.specs.Turn.{call_of}
use Rattle.mx_model.specs.Valid.{IsHart, IsValid, IsFlat}
use Rattle.mx_model.proofs.ValidCaches.{cache-none}

-- numbers below a bound, by computation
below-at : (bound : ℕ) (xs : List ℕ) → 0 < bound → list_all (λ x. nat_lt x bound) xs ≡ true → (i : ℕ) → get_or xs i 0 < bound
below-at bound [] p e i = p
below-at bound (x ∷ xs) p e i = elim (nat_lt x bound) as (λ b. nat_lt x bound ≡ b → (b && list_all (λ y. nat_lt y bound) xs) ≡ true
    → get_or (x ∷ xs) i 0 < bound) [
      | true ↦ λ t f. elim i as (λ j. get_or (x ∷ xs) j 0 < bound) [ zero ↦ ltb-true x bound t | suc j ↦ below-at bound xs p f j ]
      | false ↦ λ t f. absurd (let q : ⊥ = cc in q)
    ] refl e

abbrev first : Module
first = record {
  heap = record { first = 4; count = 4 };
  blocks = record { first = 5; count = 2 } ∷ [];
  stack = record { first = 8; words = 2 };
  kills = false;
  dead = false;
}

abbrev second : Module
second = record {
  heap = record { first = 0; count = 0 };
  blocks = [];
  stack = record { first = 12; words = 1 };
  kills = true;
  dead = false;
}

-- grant the words 0 to 1 read-only to domain 2, by x10 to x13 and x17
abbrev granting_regs : List ℕ
granting_regs = replicate 10 0 ++ 0x80000000 ∷ 8 ∷ 2 ∷ 1 ∷ [] ++ replicate 3 0 ++ 3 ∷ [] ++ replicate 14 0

abbrev granting : Hart
granting = record { regs = granting_regs; pc = 0x80000008; domain = 1; frames = []; status = Running }

abbrev frame : Frame
frame = record { back = 0x80000040; caller = 2; kept = replicate 15 7 }

abbrev called : Hart
called = record { regs = replicate 32 0; pc = 0x80000004; domain = 1; frames = frame ∷ []; status = Running }

abbrev call_gate_2 : Gate
call_gate_2 = record { domain = 2; word = 0; target = 1 }

abbrev return_gate_1 : Gate
return_gate_1 = record { domain = 1; word = 3; target = 1 }

abbrev pub core : Core
core = record {
  ram = 0x13 ∷ replicate 66 0 ++ 255 ∷ [];
  modules = first ∷ second ∷ [];
  gates = call_gate_2 ∷ return_gate_1 ∷ [];
  harts = record granting { status = Waiting (call_of 0 granting) (false ∷ true ∷ false ∷ false ∷ []) } ∷ called ∷ [];
  caches = no_cache ∷ no_cache ∷ [];
  turns = 0;
  size = 17;
  kind = K.Packed;
  limit = record { upper = 8; leaf = 8; spill = 8 };
  buffer = 8;
}

abbrev pub small : Flat
small = record {
  core = core;
  maps = (replicate 4 P.ExecuteRead ++ replicate 1 P.None ++ replicate 2 P.ReadWrite ++ replicate 1 P.None ++ replicate 4 P.ReadWrite
      ++ replicate 5 P.None)
      ∷ (replicate 12 P.None ++ replicate 2 P.ReadWrite ++ replicate 2 P.None ++ replicate 1 P.ExecuteRead) ∷ [];
  owners = replicate 12 1 ++ replicate 2 2 ++ replicate 2 0 ++ 2 ∷ [];
}

heard-others : (i : ℕ) → is_in (false ∷ true ∷ false ∷ false ∷ []) i ≡ true → (i < 2) × (i ≢ 0)
heard-others x e = grind arith

small-harts : (h : ℕ) → h < 2 → IsHart 2 2 h (hart_at core h)
small-harts x l = search (arith, small, below-at, granting_regs, first, heard-others)

small-gates : AreSingle (call_gate_2 ∷ return_gate_1 ∷ [])
small-gates = search (arith, return_gate_1)

pub small-core : IsValid core
small-core = record {
  some_words = lit≤ tt;
  few_words = lit≤ tt;
  ram_count = refl;
  ram_bytes = below-at 256 core.ram (lit< tt) refl;
  some_modules = lit≤ tt;
  few_modules = lit≤ tt;
  modules = search arith;
  some_harts = lit≤ tt;
  few_harts = lit≤ tt;
  harts = small-harts;
  caches = refl;
  few_gates = lit≤ tt;
  gates = search (arith, first);
  one_gate = small-gates;
}

pub small-flat : IsFlat small
small-flat = search (arith, small-core, below-at, small.owners, cache-none)
