-- Each call's success and each of its refusals, one line each, on small states.
use Rattle.std.specs.Prelude.{◌≡◌, ℕ, ◌+◌, ◌-◌, ◌%◌, ◌^◌, Bool, true, false, List, [], ◌∷◌, ◌++◌, refl, replicate, Some}
use Rattle.std.specs.Prelude.{map as list_map}
use Rattle.std.specs.List.{range_with_len}
use Rattle.mx_words.specs.declared.perm.Perm.{Perm}
use Rattle.mx_words.specs.declared.perm.Perm.TheVariants as P
use Rattle.mx_words.specs.declared.tables.Kind.TheVariants as K
use Rattle.mx_words.specs.declared.tables.Need.{Need}
use Rattle.mx_words.specs.Bytes.{number_at, put_at, cleared_at}
use Rattle.mx_words.specs.Caches.{no_cache}
use Rattle.mx_words.specs.FirstFit.{Area}
use Rattle.mx_words.specs.Newest.{Grant, Give}
use Rattle.mx_model.specs.declared.values.Call.{Call}
use Rattle.mx_model.specs.declared.values.Gate.{Gate}
use Rattle.mx_model.specs.Reads.{reads, flat_reads}
use Rattle.mx_model.specs.Serve.{serve}
use Rattle.mx_model.specs.State.{State, Flat, Core, no_hart, no_module}

-- 64 words and two modules. Module 1 owns words 16 to 25 and its heap area, words 32 to 39, in which two words are live; its line of the
-- heap has
-- four runs. Module 2 may read its line of words 16 to 31 but for word 17. A gate stands for module 2 at word 16.
abbrev heap : Area
heap = record { first = 32; count = 8 }

abbrev live : Area
live = record { first = 34; count = 2 }

abbrev grant_on : ℕ → ℕ → Perm → Grant
grant_on first count p = record { first = first; count = count; value = p }

abbrev give_on : ℕ → ℕ → ℕ → Give
give_on first count d = record { first = first; count = count; value = d }

abbrev gate_on : ℕ → ℕ → ℕ → Gate
gate_on domain word target = record { domain = domain; word = word; target = target }

abbrev limit : ℕ → Need
limit spill = record { upper = 128; leaf = 128; spill = spill }

abbrev core : List Area → List Gate → ℕ → Core
core blocks gates spill = record {
  ram = replicate 64 0 ++ 120 ∷ 86 ∷ 52 ∷ 18 ∷ [] ++ replicate 188 0;
  modules = record no_module { heap = heap; blocks = blocks } ∷ no_module ∷ [];
  gates = gates;
  harts = no_hart ∷ [];
  caches = no_cache ∷ [];
  turns = 0;
  size = 64;
  kind = K.Packed;
  limit = limit spill;
  buffer = 8;
}

abbrev state : List Area → List Gate → ℕ → State
state blocks gates spill = record {
  core = core blocks gates spill;
  grants = (grant_on 16 8 P.ReadWrite ∷ grant_on 32 2 P.Read ∷ grant_on 34 4 P.ReadWrite ∷ grant_on 38 1 P.Read ∷ [])
      ∷ (grant_on 16 16 P.Read ∷ grant_on 17 1 P.None ∷ []) ∷ [];
  gives = give_on 16 10 1 ∷ give_on 32 8 1 ∷ give_on 26 1 2 ∷ [];
  console = [];
  notes = [];
}

abbrev call_in : ℕ → Bool → ℕ → ℕ → ℕ → ℕ → Call
call_in number nested a0 a1 a2 a3 = record { number = number; args = a0 ∷ a1 ∷ a2 ∷ a3 ∷ []; hart = 0; domain = 1; nested = nested }

-- the answer of module 1's call with room for a spill word, and with none
abbrev answer : ℕ → ℕ → ℕ → ℕ → ℕ → ℕ
answer number a0 a1 a2 a3 =
    let s = state (live ∷ []) (gate_on 2 16 1 ∷ []) 4 in (serve (reads s) s.core (call_in number false a0 a1 a2 a3)).a0

abbrev tight : ℕ → ℕ → ℕ → ℕ → ℕ → ℕ
tight number a0 a1 a2 a3 =
    let s = state (live ∷ []) (gate_on 2 16 1 ∷ []) 0 in (serve (reads s) s.core (call_in number false a0 a1 a2 a3)).a0

-- the same with 256 gates of module 2 after the first, and with 1024 live blocks elsewhere
abbrev crowded : ℕ → ℕ → ℕ → ℕ
crowded number a0 a1 =
    let s = state (live ∷ []) (list_map (λ i. gate_on 2 (1000 + i) 1) (range_with_len 0 256)) 4 in
    (serve (reads s) s.core (call_in number false a0 a1 0 0)).a0

abbrev blocked : ℕ → ℕ
blocked a0 =
    let blocks = list_map (λ i. let b : Area = record { first = 1000 + i; count = 1 } in b) (range_with_len 0 1024) in
    let s = state blocks [] 4 in (serve (reads s) s.core (call_in 6 false a0 0 0 0)).a0

-- owners in 4096 runs: words of 0 and 1 in turn, and then three words of module 1
abbrev alternating : Flat
alternating = record {
  core = record (core [] [] 4) { size = 4098 };
  maps = [] ∷ [] ∷ [];
  owners = list_map (λ i. i % 2) (range_with_len 0 4095) ++ 1 ∷ 1 ∷ 1 ∷ [];
}

-- the code -n
abbrev minus : ℕ → ℕ
minus n = 2 ^ 32 - n

exit : ◌≡◌ {A = ℕ} (answer 1 5 0 0 0) (5)
unfolding number_at put_at cleared_at
exit = refl

write : ◌≡◌ {A = ℕ} (answer 2 0x80000040 4 0 0) (4)
unfolding number_at put_at cleared_at
write = refl

write-nothing : ◌≡◌ {A = ℕ} (answer 2 0 0 0 0) (0)
unfolding number_at put_at cleared_at
write-nothing = refl

write-too-long : ◌≡◌ {A = ℕ} (answer 2 0x80000040 4097 0 0) (minus 11)
unfolding number_at put_at cleared_at
write-too-long = refl

write-outside : ◌≡◌ {A = ℕ} (answer 2 0x800000fc 5 0 0) (minus 1)
unfolding number_at put_at cleared_at
write-outside = refl

write-denied : ◌≡◌ {A = ℕ} (answer 2 0x8000005c 5 0 0) (minus 12)
unfolding number_at put_at cleared_at
write-denied = refl

grant : ◌≡◌ {A = ℕ} (answer 3 0x80000040 8 2 2) (0)
unfolding number_at put_at cleared_at
grant = refl

grant-no-range : ◌≡◌ {A = ℕ} (answer 3 0x80000042 4 2 1) (minus 1)
unfolding number_at put_at cleared_at
grant-no-range = refl

grant-no-domain : ◌≡◌ {A = ℕ} (answer 3 0x80000040 4 3 4) (minus 3)
unfolding number_at put_at cleared_at
grant-no-domain = refl

grant-no-permission : ◌≡◌ {A = ℕ} (answer 3 0x80000040 4 2 4) (minus 4)
unfolding number_at put_at cleared_at
grant-no-permission = refl

grant-not-owned : ◌≡◌ {A = ℕ} (answer 3 0x80000064 8 2 1) (minus 2)
unfolding number_at put_at cleared_at
grant-not-owned = refl

grant-full : ◌≡◌ {A = ℕ} (tight 3 0x80000050 4 2 2) (minus 5)
unfolding number_at put_at cleared_at
grant-full = refl

revoke-all : ◌≡◌ {A = ℕ} (answer 4 0x80000050 4 0 0) (0)
unfolding number_at put_at cleared_at
revoke-all = refl

revoke-all-no-range : ◌≡◌ {A = ℕ} (answer 4 0x80000040 0 0 0) (minus 1)
unfolding number_at put_at cleared_at
revoke-all-no-range = refl

revoke-all-not-owned : ◌≡◌ {A = ℕ} (answer 4 0x80000068 4 0 0) (minus 2)
unfolding number_at put_at cleared_at
revoke-all-not-owned = refl

revoke-all-full : ◌≡◌ {A = ℕ} (tight 4 0x80000050 4 0 0) (minus 5)
unfolding number_at put_at cleared_at
revoke-all-full = refl

transfer : ◌≡◌ {A = ℕ} (answer 5 0x80000040 4 2 0) (0)
unfolding number_at put_at cleared_at
transfer = refl

transfer-no-range : ◌≡◌ {A = ℕ} (answer 5 0x80000100 4 2 0) (minus 1)
unfolding number_at put_at cleared_at
transfer-no-range = refl

transfer-of-heap : ◌≡◌ {A = ℕ} (answer 5 0x8000009c 4 2 0) (minus 1)
unfolding number_at put_at cleared_at
transfer-of-heap = refl

transfer-no-domain : ◌≡◌ {A = ℕ} (answer 5 0x80000040 4 3 0) (minus 3)
unfolding number_at put_at cleared_at
transfer-no-domain = refl

transfer-not-owned : ◌≡◌ {A = ℕ} (answer 5 0x80000068 4 2 0) (minus 2)
unfolding number_at put_at cleared_at
transfer-not-owned = refl

transfer-many-runs : ◌≡◌ {A = ℕ} ((serve (flat_reads alternating) alternating.core (call_in 5 false 0x80004000 4 2 0)).a0) (minus 14)
unfolding number_at put_at cleared_at
transfer-many-runs = refl

alloc : ◌≡◌ {A = ℕ} (answer 6 2 0 0 0) (0x80000080)
unfolding number_at put_at cleared_at
alloc = refl

alloc-behind : ◌≡◌ {A = ℕ} (answer 6 3 0 0 0) (0x80000090)
unfolding number_at put_at cleared_at
alloc-behind = refl

alloc-nothing : ◌≡◌ {A = ℕ} (answer 6 0 0 0 0) (minus 1)
unfolding number_at put_at cleared_at
alloc-nothing = refl

alloc-no-room : ◌≡◌ {A = ℕ} (answer 6 5 0 0 0) (minus 6)
unfolding number_at put_at cleared_at
alloc-no-room = refl

alloc-many-blocks : ◌≡◌ {A = ℕ} (blocked 1) (minus 7)
unfolding number_at put_at cleared_at
alloc-many-blocks = refl

alloc-full : ◌≡◌ {A = ℕ} (tight 6 1 0 0 0) (minus 5)
unfolding number_at put_at cleared_at
alloc-full = refl

free : ◌≡◌ {A = ℕ} (answer 7 0x80000088 0 0 0) (0)
unfolding number_at put_at cleared_at
free = refl

free-no-block : ◌≡◌ {A = ℕ} (answer 7 0x8000008c 0 0 0) (minus 8)
unfolding number_at put_at cleared_at
free-no-block = refl

free-no-word : ◌≡◌ {A = ℕ} (answer 7 0x80000089 0 0 0) (minus 8)
unfolding number_at put_at cleared_at
free-no-word = refl

free-full : ◌≡◌ {A = ℕ} (tight 7 0x80000088 0 0 0) (minus 5)
unfolding number_at put_at cleared_at
free-full = refl

gate : ◌≡◌ {A = ℕ} (answer 8 0x80000048 2 0 0) (0)
unfolding number_at put_at cleared_at
gate = refl

gate-no-word : ◌≡◌ {A = ℕ} (answer 8 0x80000041 2 0 0) (minus 1)
unfolding number_at put_at cleared_at
gate-no-word = refl

gate-for-itself : ◌≡◌ {A = ℕ} (answer 8 0x80000048 1 0 0) (minus 3)
unfolding number_at put_at cleared_at
gate-for-itself = refl

gate-no-domain : ◌≡◌ {A = ℕ} (answer 8 0x80000048 3 0 0) (minus 3)
unfolding number_at put_at cleared_at
gate-no-domain = refl

gate-not-owned : ◌≡◌ {A = ℕ} (answer 8 0x80000068 2 0 0) (minus 2)
unfolding number_at put_at cleared_at
gate-not-owned = refl

gate-many : ◌≡◌ {A = ℕ} (crowded 8 0x80000048 2) (minus 9)
unfolding number_at put_at cleared_at
gate-many = refl

ungate : ◌≡◌ {A = ℕ} (answer 9 0x80000040 2 0 0) (0)
unfolding number_at put_at cleared_at
ungate = refl

ungate-no-word : ◌≡◌ {A = ℕ} (answer 9 0x80000100 2 0 0) (minus 1)
unfolding number_at put_at cleared_at
ungate-no-word = refl

ungate-no-domain : ◌≡◌ {A = ℕ} (answer 9 0x80000040 0 0 0) (minus 3)
unfolding number_at put_at cleared_at
ungate-no-domain = refl

ungate-not-owned : ◌≡◌ {A = ℕ} (answer 9 0x80000068 2 0 0) (minus 2)
unfolding number_at put_at cleared_at
ungate-not-owned = refl

ungate-no-gate : ◌≡◌ {A = ℕ} (answer 9 0x80000048 2 0 0) (minus 15)
unfolding number_at put_at cleared_at
ungate-no-gate = refl

return-gate : ◌≡◌ {A = ℕ} (answer 10 0x80000048 0 0 0) (0)
unfolding number_at put_at cleared_at
return-gate = refl

return-gate-no-word : ◌≡◌ {A = ℕ} (answer 10 0 0 0 0) (minus 1)
unfolding number_at put_at cleared_at
return-gate-no-word = refl

return-gate-not-owned : ◌≡◌ {A = ℕ} (answer 10 0x80000068 0 0 0) (minus 2)
unfolding number_at put_at cleared_at
return-gate-not-owned = refl

return-gate-many : ◌≡◌ {A = ℕ} (crowded 10 0x80000048 0) (minus 9)
unfolding number_at put_at cleared_at
return-gate-many = refl

query : ◌≡◌ {A = ℕ} (answer 11 0x80000040 2 0 0) (1)
unfolding number_at put_at cleared_at
query = refl

query-own : ◌≡◌ {A = ℕ} (answer 11 0x80000040 1 0 0) (2)
unfolding number_at put_at cleared_at
query-own = refl

query-no-word : ◌≡◌ {A = ℕ} (answer 11 0x80000100 2 0 0) (minus 1)
unfolding number_at put_at cleared_at
query-no-word = refl

query-no-domain : ◌≡◌ {A = ℕ} (answer 11 0x80000040 3 0 0) (minus 3)
unfolding number_at put_at cleared_at
query-no-domain = refl

query-not-owned : ◌≡◌ {A = ℕ} (answer 11 0x80000068 2 0 0) (minus 2)
unfolding number_at put_at cleared_at
query-not-owned = refl

query-own-not-owned : ◌≡◌ {A = ℕ} (answer 11 0x80000068 1 0 0) (0)
unfolding number_at put_at cleared_at
query-own-not-owned = refl

self : ◌≡◌ {A = ℕ} (answer 12 0 0 0 0) (1)
unfolding number_at put_at cleared_at
self = refl

exchange : ◌≡◌ {A = ℕ} (answer 13 0x80000040 7 0 0) (0)
unfolding number_at put_at cleared_at
exchange = refl

exchange-no-word : ◌≡◌ {A = ℕ} (answer 13 0x80000100 7 0 0) (minus 1)
unfolding number_at put_at cleared_at
exchange-no-word = refl

exchange-denied : ◌≡◌ {A = ℕ} (answer 13 0x80000080 7 0 0) (minus 12)
unfolding number_at put_at cleared_at
exchange-denied = refl

unknown : ◌≡◌ {A = ℕ} (answer 14 0 0 0 0) (minus 13)
unfolding number_at put_at cleared_at
unknown = refl

unknown-zero : ◌≡◌ {A = ℕ} (answer 0 0 0 0 0) (minus 13)
unfolding number_at put_at cleared_at
unknown-zero = refl

exit-inside-a-call : ◌≡◌ {A = ℕ} ((let s = state (live ∷ []) [] 4 in (serve (reads s) s.core (call_in 1 true 5 0 0 0)).a0)) (minus 10)
unfolding number_at put_at cleared_at
exit-inside-a-call = refl

-- an exchange answers the old word in a1, and writes the new one
exchanged-word : (let s = state (live ∷ []) [] 4 in (serve (reads s) s.core (call_in 13 false 0x80000040 7 0 0)).a1) ≡ Some 0x12345678
unfolding number_at put_at cleared_at
exchanged-word = refl

-- a write gives the bytes of the console
written-bytes : (let s = state (live ∷ []) [] 4 in (serve (reads s) s.core (call_in 2 false 0x80000041 3 0 0)).console) ≡ 86 ∷ 52 ∷ 18 ∷ []
unfolding number_at put_at cleared_at
written-bytes = refl

-- the grant refusals of two modules, of which the first owns the words at 0x80001000 to 0x8000100F, in a RAM of 64 KiB
abbrev owning : State
owning = record {
  core = record (core [] [] 4096) { size = 16384; modules = no_module ∷ no_module ∷ [] };
  grants = [] ∷ [] ∷ [];
  gives = give_on 1024 4 1 ∷ [];
  console = [];
  notes = [];
}

abbrev granted : ℕ → ℕ → ℕ → ℕ → ℕ
granted a0 a1 a2 a3 = (serve (reads owning) owning.core (call_in 3 false a0 a1 a2 a3)).a0

granted-1 : ◌≡◌ {A = ℕ} (granted 0xFFFFFFFC 8 2 1) (minus 1)
unfolding number_at put_at cleared_at
granted-1 = refl

granted-2 : ◌≡◌ {A = ℕ} (granted 0x80001000 0 2 1) (minus 1)
unfolding number_at put_at cleared_at
granted-2 = refl

granted-3 : ◌≡◌ {A = ℕ} (granted 0x80001002 4 2 1) (minus 1)
unfolding number_at put_at cleared_at
granted-3 = refl

granted-4 : ◌≡◌ {A = ℕ} (granted 0x80001000 4 9 4) (minus 3)
unfolding number_at put_at cleared_at
granted-4 = refl

granted-5 : ◌≡◌ {A = ℕ} (granted 0x80001000 4 2 4) (minus 4)
unfolding number_at put_at cleared_at
granted-5 = refl

granted-6 : ◌≡◌ {A = ℕ} (granted 0x80002000 4 2 1) (minus 2)
unfolding number_at put_at cleared_at
granted-6 = refl

granted-7 : ◌≡◌ {A = ℕ} (granted 0x80001000 1 2 1) (0)
unfolding number_at put_at cleared_at
granted-7 = refl
