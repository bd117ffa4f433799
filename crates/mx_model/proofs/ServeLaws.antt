-- A served call leaves a valid state valid, and answers numbers of 32 bits.
use Rattle.std.proofs.Common.{◌≡◌, ◌∙◌, ℕ, ◌+◌, ◌*◌, ◌^◌, ◌<◌, ◌≤◌, Bool, true, false, not, nat_lt, nat_le, ◌==◌, ◌&&◌, ◌||◌, List, [], ◌∷◌}
use Rattle.std.proofs.Common.{◌++◌, length, refl, sym, arith, lit<, if◌then◌else◌, Option, Some, None, unwrap_or, is_none}
use Rattle.std.specs.Prelude.{IfSome}
use Rattle.std.specs.List.{AllByRecursion, list_any, range_with_len}
use Rattle.std.proofs.lemmas.Bool.{eqb-false, ltb-true, leb-true, leb-false, and_parts, or_parts, not-false, not-true}
use Rattle.std.proofs.lemmas.List.{length-append}
use Rattle.std.proofs.Math.Bool.{and-true}
use Rattle.mx_words.specs.declared.perm.Perm.{Perm}
use Rattle.mx_words.specs.declared.perm.Access.TheVariants as A
use Rattle.mx_words.specs.Bytes.{number_at, put_at, cleared_at}
use Rattle.mx_words.specs.FirstFit.{AreApart, Area, has_room, with_block, without_block, most_blocks}
use Rattle.mx_words.specs.Ranges.{overlaps}
use Rattle.mx_words.specs.Rights.{number, allows}
use Rattle.mx_words.specs.FirstRow.{first_row, Row}
use Rattle.mx_model.specs.declared.values.Call.{Call}
use Rattle.mx_model.specs.declared.values.Gate.{Gate}
use Rattle.mx_model.specs.Checks.{Look, arg, looked, looked_all}
use Rattle.mx_model.specs.Gates.{is_at, without_gate, has_gate, no_gate_fits, most_gates}
use Rattle.mx_model.specs.Reads.{Reads}
use Rattle.mx_model.specs.State.{Core, Module, module_at, is_module}
use Rattle.mx_model.proofs.ApartLaws.{apart-with, apart-without, single-append, single-filter, single-others}
use Rattle.mx_model.specs.Valid.{IsModule, IsCall, IsGate, IsHome, IsValid}
use Rattle.mx_model.proofs.ListLaws.{all-append, all-filter, found-passes, length-filter-le, length-filter-lt, length-with_block}
use Rattle.mx_model.proofs.ListLaws.{length-put_at, bytes-put_at, length-cleared_at, bytes-cleared_at, number-four}
use Rattle.mx_model.specs.Serve.{Served, Service, Exit, Write, Grant, RevokeAll, Transfer, Alloc, Free, AddGate, RemoveGate, AddReturnGate}
use Rattle.mx_model.specs.Serve.{Query, Self, Exchange, Unknown, judged, answers, code, serve, served_by, service, ended, write_from}
use Rattle.mx_model.specs.Serve.{written_out, exchange_from, exchanged, look_of, arg_word, no_word, foreign_word, with_blocks, alloc_place}
use Rattle.mx_model.specs.Serve.{alloc_change, allocated, alloc_from, adds, serve_alloc, serve_free, freed_count, free_change, changes}
use Rattle.mx_model.specs.Serve.{serve_gate, serve_ungate, serve_return_gate, write_outside, no_range, owns, arg_range, revoke_change}
use Rattle.mx_model.specs.Serve.{meets_heap, give_of}
use Rattle.mx_model.proofs.ValidParts.{valid-ram, valid-module, valid-gates, valid-cache, valid-looked_all, home-at}

-- a valid outcome: the state is valid, and the answers are numbers of 32 bits
pub record IsServed (s : Served) : Type 0 where
  pub core : IsValid s.core
  pub a0 : s.a0 < 2 ^ 32
  pub a1 : IfSome s.a1 (λ n. n < 2 ^ 32)

-- a test passed
test-head : (t : Row ℕ) (ts : List (Row ℕ)) → first_row (t ∷ ts) ≡ None → (t.0 ≡ false) × (first_row ts ≡ None)
test-head t ts e = elim t.0 as (λ b. (if b then Some t.1 else first_row ts) ≡ None → (b ≡ false) × (first_row ts ≡ None)) [
  | true ↦ λ f. absurd (let q : ⊥ = cc in q)
  | false ↦ λ f. (refl, f)
] e

code-small : (n : ℕ) → 0 < n → code n < 2 ^ 32
code-small n p = omega arith

-- the codes of a list of tests aren't zero
abbrev AreCodes : List (Row ℕ) → Type 0
AreCodes tests = AllByRecursion (λ (t : Row ℕ). 0 < t.1) tests

codes-failed : (tests : List (Row ℕ)) → AreCodes tests → IfSome (first_row tests) (λ n. 0 < n)
codes-failed [] p = tt
codes-failed (t ∷ ts) p = elim t.0 as (λ b. IfSome (if b then Some t.1 else first_row ts) (λ n. 0 < n)) [
  | true ↦ p.0
  | false ↦
      codes-failed ts p.1
]

served-answers : (c : Core) (a0 : ℕ) → IsValid c → a0 < 2 ^ 32 → IsServed (answers c a0)
served-answers c a0 v p = record { core = v; a0 = p; a1 = tt }

served-judged : (c : Core) (o : Option ℕ) (s : Served) → IsValid c → IfSome o (λ n. 0 < n) → (o ≡ None → IsServed s)
    → IsServed (judged c o s)
served-judged c None s v p q = q refl
served-judged c (Some n) s v p q = served-answers c (code n) v (code-small n p)

-- calls that change nothing of what is valid
served-same : (c : Core) (tests : List (Row ℕ)) (s : Served) → IsValid c → AreCodes tests → IsServed s
    → IsServed (judged c (first_row tests) s)
served-same c tests s v p q = served-judged c (first_row tests) s v (codes-failed tests p) (λ e. q)

-- write and exchange
served-written_out : (r : Reads) (c : Core) (h : ℕ) (call : Call) → IsValid c → IsCall (length c.modules) h call
    → IsServed (written_out r c call)
served-written_out r c h call v p = search (arith, valid-looked_all, call.hart, served-judged, codes-failed, p.small)

served-write_from : (r : Reads) (c : Core) (h : ℕ) (call : Call) (o : Option ℕ) → IsValid c → IsCall (length c.modules) h call
    → IfSome o (λ n. 0 < n) →
    IsServed (write_from r c call o)
served-write_from r c h call (Some n) v p q = served-answers c (code n) v (code-small n q)
served-write_from r c h call None v p q = served-written_out r c h call v p

pub same-ram-looked_all : (r : Reads) (h : ℕ) (looks : List Look) (c : Core) → (looked_all r h looks c).ram ≡ c.ram
same-ram-looked_all r h [] c = refl
same-ram-looked_all r h (l ∷ ls) c = same-ram-looked_all r h ls (looked r h c l)

served-exchanged : (r : Reads) (c : Core) (h : ℕ) (call : Call) → IsValid c → IsCall (length c.modules) h call
    → IsServed (exchanged r c call)
served-exchanged r c h call v p =
    let looks = look_of call.domain (arg_word call) ∷ [] in
    let seen = looked_all r call.hart looks c in
    let w = valid-looked_all r call.hart looks c v in
    let ram = put_at c.ram (4 * arg_word call) 4 (arg call 1) in
    let old = number_at c.ram (4 * arg_word call) 4 in
    served-judged seen (first_row ((not (allows (r.perm call.domain (arg_word call)) A.Write), 12) ∷ []))
    (record (answers (record seen { ram = ram }) 0) { a1 = Some old }) w
    (codes-failed ((not (allows (r.perm call.domain (arg_word call)) A.Write), 12) ∷ []) (lit< tt, tt)) (λ e. record {
      core = valid-ram seen ram w (length-put_at 4 c.ram (4 * arg_word call) (arg call 1))
          (bytes-put_at 4 c.ram (4 * arg_word call) (arg call 1) v.ram_bytes);
      a0 = lit< tt;
      a1 = number-four c.ram (4 * arg_word call) v.ram_bytes;
    })

served-exchange_from : (r : Reads) (c : Core) (h : ℕ) (call : Call) (o : Option ℕ) → IsValid c → IsCall (length c.modules) h call
    → IfSome o (λ n. 0 < n) →
    IsServed (exchange_from r c call o)
served-exchange_from r c h call (Some n) v p q = served-answers c (code n) v (code-small n q)
served-exchange_from r c h call None v p q = served-exchanged r c h call v p

-- a module with other blocks
home-blocks : (size harts : ℕ) (m : Module) (blocks : List Area) → IsHome size harts m → length blocks ≤ most_blocks →
    AreApart m.heap.first (m.heap.first + m.heap.count) blocks → IsHome size harts (record m { blocks = blocks })
home-blocks size harts m blocks p q a =
    record { heap = p.heap; blocks = a; stack = p.stack; few_blocks = q; no_heap = p.no_heap; no_stack = p.no_stack }

-- the heap area of the caller
abbrev heap_of : Core → Call → Area
heap_of c call = (module_at c call.domain).heap

abbrev AreIn : Core → Call → List Area → Type 0
AreIn c call blocks = AreApart (heap_of c call).first ((heap_of c call).first + (heap_of c call).count) blocks

valid-blocks : (c : Core) (call : Call) (blocks : List Area) → IsValid c → length blocks ≤ most_blocks → AreIn c call blocks
    → IsValid (with_blocks call blocks c)
valid-blocks c call blocks v q a =
    valid-module c call.domain _ v (home-blocks c.size (length c.harts) (module_at c call.domain) blocks (home-at c call.domain v) q a)

-- what room is: the words lie in the area and meet no block
record HasRoom (area : Area) (blocks : List Area) (n a : ℕ) : Type 0 where
  low : area.first ≤ a
  high : a + n ≤ area.first + area.count
  free : list_any (λ (b : Area). overlaps b.first b.count a n) blocks ≡ false

room-is : (area : Area) (blocks : List Area) (n a : ℕ) → has_room area blocks n a ≡ true → HasRoom area blocks n a
room-is area blocks n a e =
    let fits : Bool = nat_le (a + n) (area.first + area.count) in
    let met : Bool = list_any (λ (b : Area). overlaps b.first b.count a n) blocks in
    let t = and_parts (nat_le area.first a && fits) (not met) e in
    let u = and_parts (nat_le area.first a) fits t.0 in
    record { low = leb-true area.first a u.0; high = leb-true (a + n) (area.first + area.count) u.1; free = not-true met t.1 }

-- alloc: the place has room in the heap area, which lies in RAM
found-room : (o : Option ℕ) (P : ℕ → Type 0) → IfSome o P → is_none o ≡ false → P (unwrap_or o 0)
found-room None P p e = absurd (let q : ⊥ = cc in q)
found-room (Some a) P p e = p

served-allocated : (c : Core) (h : ℕ) (call : Call) (first : ℕ) → IsValid c → first + arg call 0 ≤ c.size
    → length (module_at c call.domain).blocks < most_blocks →
    HasRoom (heap_of c call) (module_at c call.domain).blocks (arg call 0) first → 0 < arg call 0 → IsServed (allocated c call first)
served-allocated c h call first v p q room some =
    let b : Area = record { first = first; count = arg call 0 } in
    let inside : 4 * first + 4 * arg call 0 ≤ length c.ram = let e = v.ram_count in omega (arith, e, p) in
    let cleared = record c { ram = cleared_at c.ram (4 * first) (4 * arg call 0) } in
    let w : IsValid cleared = valid-ram c (cleared_at c.ram (4 * first) (4 * arg call 0)) v
    (length-cleared_at c.ram (4 * first) (4 * arg call 0) inside)
    (bytes-cleared_at c.ram (4 * first) (4 * arg call 0) v.ram_bytes) in
    let few : length (with_block b (module_at c call.domain).blocks) ≤ most_blocks = let e =
    length-with_block b (module_at c call.domain).blocks in omega (arith, e, q) in
    record {
      core = valid-blocks cleared call (with_block b (module_at c call.domain).blocks) w few
          (apart-with b (heap_of c call).first ((heap_of c call).first + (heap_of c call).count) (module_at c call.domain).blocks room.low
          room.high some room.free (home-at c call.domain v).blocks);
      a0 = let s = v.few_words in omega (arith, s, p);
      a1 = tt;
    }

-- the word of a0 lies in RAM
word-inside : (c : Core) (call : Call) → no_word c call ≡ false → arg_word call < c.size
word-inside c call e = search (arith, not-false, and_parts, c.size, ltb-true)

-- a gate added, where one fits
gates-fit : (gates : List Gate) (domain word : ℕ) (g : Gate) → length gates ≤ most_gates → no_gate_fits gates domain word ≡ false →
    length (without_gate domain word gates ++ g ∷ []) ≤ most_gates
gates-fit gates domain word g p e =
    let l = length-append (without_gate domain word gates) (g ∷ []) in
    elim (has_gate gates domain word) as (λ b. has_gate gates domain word ≡ b → nat_le most_gates (length gates) && not b ≡ false →
    length (without_gate domain word gates ++ g ∷ []) ≤ most_gates) [
      | true ↦ λ t f. let q = length-filter-lt (is_at domain word) gates t in omega (arith, l, q, p)
      | false ↦ λ t f. let q = length-filter-le (λ x. not (is_at domain word x)) gates in
          let few : length gates < most_gates = leb-false most_gates (length gates) (sym (and-true (nat_le most_gates (length gates))) ∙ f)
          in omega (arith, l, q, few)
    ] refl e

served-adds : (c : Core) (g : Gate) → IsValid c → IsGate (length c.modules) c.size g → no_gate_fits c.gates g.domain g.word ≡ false
    → IsServed (adds c g)
served-adds c g v p e =
    search (
      arith,
      served-answers,
      valid-gates,
      gates-fit,
      c.gates,
      g.domain,
      g.word,
      v.few_gates,
      all-append,
      all-filter,
      single-append,
      single-others,
      single-filter,
    )

module-is : (c : Core) (d : ℕ) → not (is_module c d) ≡ false → IsModule (length c.modules) d
module-is c d e = search (arith, and_parts, not-false, leb-true)

-- each test of a list that no test fails
tests-two : (s t : Row ℕ) → first_row (s ∷ t ∷ []) ≡ None → (s.0 ≡ false) × (t.0 ≡ false)
tests-two s t e = let p = test-head s (t ∷ []) e in (p.0, (test-head t [] p.1).0)

tests-three : (s t u : Row ℕ) → first_row (s ∷ t ∷ u ∷ []) ≡ None → (s.0 ≡ false) × (t.0 ≡ false) × (u.0 ≡ false)
tests-three s t u e = let p = test-head s (t ∷ u ∷ []) e in let q = tests-two t u p.1 in (p.0, q.0, q.1)

pub tests-four : (s t u w : Row ℕ) → first_row (s ∷ t ∷ u ∷ w ∷ []) ≡ None → (s.0 ≡ false) × (t.0 ≡ false) × (u.0 ≡ false) × (w.0 ≡ false)
tests-four s t u w e = let p = test-head s (t ∷ u ∷ w ∷ []) e in let q = tests-three t u w p.1 in (p.0, q.0, q.1, q.2)

served-alloc_from : (c : Core) (call : Call) (first : ℕ) (o : Option ℕ) → IsValid c → IfSome o (λ n. 0 < n)
    → (o ≡ None → IsServed (allocated c call first)) →
    IsServed (alloc_from c call first o)
served-alloc_from c call first (Some n) v p q = served-answers c (code n) v (code-small n p)
served-alloc_from c call first None v p q = q refl

served-alloc : (r : Reads) (c : Core) (h : ℕ) (call : Call) → IsValid c → IsServed (serve_alloc r c call)
served-alloc r c h call v =
    let m = module_at c call.domain in
    let first = unwrap_or (alloc_place c call) 0 in
    let t1 : Row ℕ = (arg call 0 == 0, 1) in
    let t2 : Row ℕ = (is_none (alloc_place c call), 6) in
    let t3 : Row ℕ = (nat_le most_blocks (length m.blocks), 7) in
    let t4 : Row ℕ = (not (r.fits (alloc_change first call)), 5) in
    served-alloc_from c call first (first_row (t1 ∷ t2 ∷ t3 ∷ t4 ∷ [])) v
    (codes-failed (t1 ∷ t2 ∷ t3 ∷ t4 ∷ []) (lit< tt, (lit< tt, (lit< tt, (lit< tt, tt))))) (λ e.
    let q = tests-four t1 t2 t3 t4 e in
    let room : has_room m.heap m.blocks (arg call 0) first ≡ true =
    found-room (alloc_place c call) (λ a. has_room m.heap m.blocks (arg call 0) a ≡ true)
    (found-passes (has_room m.heap m.blocks (arg call 0)) (range_with_len m.heap.first m.heap.count)) q.1 in
    let has = room-is m.heap m.blocks (arg call 0) first room in
    let inside = has.high in
    let home = (home-at c call.domain v).heap in
    served-allocated c h call first v (omega (arith, inside, home)) (leb-false most_blocks (length m.blocks) q.2) has
    (let z = eqb-false (arg call 0) 0 q.0 in omega (arith, z)))

served-free : (r : Reads) (c : Core) (call : Call) → IsValid c → IsServed (serve_free r c call)
served-free r c call v =
    let m = module_at c call.domain in
    let few : length (without_block (arg_word call) m.blocks) ≤ most_blocks =
    let l = length-filter-le (λ (b : Area). not (b.first == arg_word call)) m.blocks in let k = (home-at c call.domain v).few_blocks in
    omega (arith, l, k) in
    served-same c ((is_none (freed_count c call), 8) ∷ (not (r.fits (free_change c call)), 5) ∷ [])
    (changes (with_blocks call (without_block (arg_word call) m.blocks) c) (free_change c call)) v (lit< tt, (lit< tt, tt))
    (record {
      core = valid-blocks c call (without_block (arg_word call) m.blocks) v few
          (apart-without (arg_word call) m.heap.first (m.heap.first + m.heap.count) m.blocks (home-at c call.domain v).blocks);
      a0 = lit< tt;
      a1 = tt;
    })

served-gate : (r : Reads) (c : Core) (h : ℕ) (call : Call) → IsValid c → IsCall (length c.modules) h call → IsServed (serve_gate r c call)
served-gate r c h call v p =
    let t1 : Row ℕ = (no_word c call, 1) in
    let t2 : Row ℕ = (not (is_module c (arg call 1)) || (arg call 1 == call.domain), 3) in
    let t3 : Row ℕ = (foreign_word r call, 2) in
    let t4 : Row ℕ = (no_gate_fits c.gates (arg call 1) (arg_word call), 9) in
    let g : Gate = record { domain = arg call 1; word = arg_word call; target = call.domain } in
    served-judged c (first_row (t1 ∷ t2 ∷ t3 ∷ t4 ∷ [])) (adds c g) v
    (codes-failed (t1 ∷ t2 ∷ t3 ∷ t4 ∷ []) (lit< tt, (lit< tt, (lit< tt, (lit< tt, tt))))) (λ e.
    let q = tests-four t1 t2 t3 t4 e in
    served-adds c g v (search (arith, module-is, or_parts, word-inside)) q.3)

served-return_gate : (r : Reads) (c : Core) (h : ℕ) (call : Call) → IsValid c → IsCall (length c.modules) h call
    → IsServed (serve_return_gate r c call)
served-return_gate r c h call v p =
    let t1 : Row ℕ = (no_word c call, 1) in
    let t2 : Row ℕ = (foreign_word r call, 2) in
    let t3 : Row ℕ = (no_gate_fits c.gates call.domain (arg_word call), 9) in
    let g : Gate = record { domain = call.domain; word = arg_word call; target = call.domain } in
    served-judged c (first_row (t1 ∷ t2 ∷ t3 ∷ [])) (adds c g) v
    (codes-failed (t1 ∷ t2 ∷ t3 ∷ []) (lit< tt, (lit< tt, (lit< tt, tt)))) (λ e.
    let q = tests-three t1 t2 t3 e in
    served-adds c g v (record { domain = p.domain; target = p.domain; word = word-inside c call q.0 }) q.2)

served-ungate : (r : Reads) (c : Core) (call : Call) → IsValid c → IsServed (serve_ungate r c call)
served-ungate r c call v =
    search (arith, length-filter-le, served-same, served-answers, valid-gates, all-filter, single-filter)

small-number : (p : Perm) → number p < 2 ^ 32
small-number x = grind arith

small-self : (c : Core) (h : ℕ) (call : Call) → IsValid c → IsCall (length c.modules) h call → h < length c.harts
    → 256 * call.hart + call.domain < 2 ^ 32
small-self c h call v p l = search arith

-- a call of each kind
served-by : (k : Service) (r : Reads) (c : Core) (h : ℕ) (call : Call) → IsValid c → IsCall (length c.modules) h call → h < length c.harts →
    IsServed (served_by k r c call)
served-by Exit r c h call v p l = served-same c ((call.nested, 10) ∷ []) _ v (lit< tt, tt) (record { core = v; a0 = p.small 0; a1 = tt })
served-by Write r c h call v p l =
    served-write_from r c h call _ v p (codes-failed ((nat_lt 4096 (arg call 1), 11) ∷ (write_outside c call, 1) ∷ [])
    (lit< tt, (lit< tt, tt)))
served-by Grant r c h call v p l = search (arith, served-same, r.fits)
served-by RevokeAll r c h call v p l = served-same c
    ((no_range c call, 1) ∷ (not (owns r call (arg_range c call)), 2) ∷ (not (r.fits (revoke_change c call)), 5) ∷ []) _ v
    (lit< tt, (lit< tt, (lit< tt, tt)))
    (record { core = v; a0 = lit< tt; a1 = tt })
served-by Transfer r c h call v p l = served-same c
    ((no_range c call || meets_heap c call, 1) ∷ (nat_lt (length c.modules) (arg call 2), 3) ∷ (not (owns r call (arg_range c call)), 2)
    ∷ (not (r.few_runs (give_of c call)), 14) ∷ []) _ v (lit< tt, (lit< tt, (lit< tt, (lit< tt, tt))))
    (record { core = v; a0 = lit< tt; a1 = tt })
served-by Alloc r c h call v p l = served-alloc r c h call v
served-by Free r c h call v p l = served-free r c call v
served-by AddGate r c h call v p l = served-gate r c h call v p
served-by RemoveGate r c h call v p l = served-ungate r c call v
served-by AddReturnGate r c h call v p l = served-return_gate r c h call v p
served-by Query r c h call v p l = served-same c
    ((no_word c call, 1) ∷ (not (is_module c (arg call 1)), 3) ∷ (not (arg call 1 == call.domain) && foreign_word r call, 2) ∷ []) _ v
    (lit< tt, (lit< tt, (lit< tt, tt))) (served-answers c _ v (small-number (r.perm (arg call 1) (arg_word call))))
served-by Self r c h call v p l = served-answers c (256 * call.hart + call.domain) v (small-self c h call v p l)
served-by Exchange r c h call v p l = served-exchange_from r c h call _ v p (codes-failed ((no_word c call, 1) ∷ []) (lit< tt, tt))
served-by Unknown r c h call v p l = served-answers c (code 13) v (lit< tt)

served-ended : (c : Core) (call : Call) (s : Served) → IsServed s → IsServed (ended c call s)
served-ended c call s p = search (arith, call.hart, valid-cache, s.core)

pub served-serve : (r : Reads) (c : Core) (h : ℕ) (call : Call) → IsValid c → IsCall (length c.modules) h call → h < length c.harts
    → IsServed (serve r c call)
served-serve r c h call v p l = served-ended c call (served_by (service call.number) r c call)
    (served-by (service call.number) r c h call v p l)
