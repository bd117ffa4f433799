-- A served call of a domain of a closed set spares a word that no domain of the set owns or may write: its bytes stay, and no change of
-- rights and
-- no give covers it. And no give covers a word of a heap area.
use Rattle.std.proofs.Common.{◌≡◌, ◌≢◌, inl, inr, ⊎_elim, ℕ, ◌+◌, ◌-◌, ◌*◌, ◌<◌, ◌≤◌, Bool, true, false, not, cond, nat_lt, nat_le, ◌==◌}
use Rattle.std.proofs.Common.{◌&&◌, ◌||◌, List, [], ◌∷◌, length, refl, sym, ◌∙◌, ap, subst, arith, eqb-true, IsTrue, Option, Some, None}
use Rattle.std.proofs.Common.{unwrap_or, is_none}
use Rattle.std.specs.Prelude.{IfSome, slice_index, slice_index_or}
use Rattle.std.specs.List.{AllByRecursion, range_with_len}
use Rattle.std.proofs.lemmas.Bool.{ltb-true, ltb-false, lt-ltb, leb-true, not-false, and_parts, or_parts}
use Rattle.mx_words.specs.declared.perm.Perm.{Perm}
use Rattle.mx_words.specs.declared.perm.Perm.TheVariants as P
use Rattle.mx_words.specs.declared.perm.Access.TheVariants as A
use Rattle.mx_words.specs.Announced.{is_announced}
use Rattle.mx_words.specs.FirstFit.{Area, has_room, block_words, most_blocks}
use Rattle.mx_words.specs.FirstRow.{first_row, Row}
use Rattle.mx_words.specs.Newest.{Give}
use Rattle.mx_words.specs.Ranges.{covers, overlaps}
use Rattle.mx_words.specs.Rights.{allows}
use Rattle.mx_words.proofs.OverlayLaws.{covers_in, covers_from}
use Rattle.mx_words.proofs.RangeTests.{each_passes}
use Rattle.mx_model.specs.declared.values.Call.{Call}
use Rattle.mx_model.specs.declared.values.Gate.{Gate}
use Rattle.mx_model.specs.Checks.{Look, arg, call_range, drops, looked_all}
use Rattle.mx_model.specs.Gates.{is_at, with_gate, without_gate}
use Rattle.mx_model.specs.Reads.{Reads, Change}
use Rattle.mx_model.specs.Serve.{Served, Service, Exit, Write, Grant, RevokeAll, Transfer, Alloc, Free, AddGate, RemoveGate, AddReturnGate}
use Rattle.mx_model.specs.Serve.{Query, Self, Exchange, Unknown, judged, serve, served_by, service, ended, arg_range, no_range, meets_heap}
use Rattle.mx_model.specs.Serve.{owns, give_of, grant_change, revoke_change, write_from, written_out, write_looks, exchange_from, exchanged}
use Rattle.mx_model.specs.Serve.{look_of, arg_word, is_word, alloc_place, alloc_change, allocated, alloc_from, freed_count, free_change}
use Rattle.mx_model.specs.State.{Core, Module, no_module, module_at, is_module}
use Rattle.mx_model.specs.Valid.{IsModule, IsValid}
use Rattle.mx_model.proofs.SetLaws.{part-set}
use Rattle.mx_model.proofs.TestLaws.{first-passes, found-some}
use Rattle.mx_model.proofs.ListLaws.{all-append, all-filter, found-passes}
use Rattle.mx_model.proofs.ValidParts.{home-at}
use Rattle.mx_model.proofs.TurnCases.{looked_all-caches}
use Rattle.mx_laws.specs.OwnHeaps.{OwnHeaps}
use Rattle.mx_laws.proofs.BlockLaws.{block-in}
use Rattle.mx_audit.proofs.ByteLaws.{IsOutside, put-outside, cleared-outside}
use Rattle.mx_audit.proofs.LiveLaws.{IsClosed, Leads}

-- a state whose live domains lie in a set
pub record Stands (L : ℕ → Type 0) (r : Reads) (c : Core) : Type 0 where
  pub valid : IsValid c
  pub heaps : OwnHeaps r c
  pub closed : IsClosed L c
  pub modules : (d : ℕ) → L d → IsModule (length c.modules) d

-- a word that no domain of the set owns, or may write
pub record IsSpared (L : ℕ → Type 0) (r : Reads) (w : ℕ) : Type 0 where
  pub owner : L (r.owner w) → ⊥
  pub rights : (d : ℕ) → L d → r.perm d w ≢ P.ReadWrite

-- a word that a change of rights, or a give, doesn't cover
abbrev pub SparesChange : ℕ → Option Change → Type 0
SparesChange w None = Unit {0}
SparesChange w (Some c) = covers c.first c.count w ≡ false

abbrev pub SparesGive : ℕ → Option Give → Type 0
SparesGive w None = Unit {0}
SparesGive w (Some g) = covers g.first g.count w ≡ false

-- the heap area of a module
abbrev pub heap_in : List Module → ℕ → Area
heap_in modules d = (slice_index_or modules (d - 1) no_module).heap

-- what is kept from a state with some RAM and modules to a core, by a change of rights and a give
pub record Keeps (L : ℕ → Type 0) (w : ℕ) (ram : List ℕ) (modules : List Module) (e : Core) (change : Option Change) (give : Option Give) :
    Type 0 where
  pub closed : IsClosed L e
  pub bytes : (k : ℕ) → k < 4 → slice_index e.ram (4 * w + k) ≡ slice_index ram (4 * w + k)
  pub heaps : (d : ℕ) → heap_in e.modules d ≡ heap_in modules d
  pub rights : SparesChange w change
  pub owner : SparesGive w give
  pub owners : (d v : ℕ) → IsModule (length modules) d → IsTrue (covers (heap_in modules d).first (heap_in modules d).count v)
      → SparesGive v give

abbrev KeepsServed : (ℕ → Type 0) → ℕ → Core → Served → Type 0
KeepsServed L w c s = Keeps L w c.ram c.modules s.core s.change s.give

-- a core with the same RAM and modules
pub keeps-core : (L : ℕ → Type 0) (w : ℕ) (e : Core) → IsClosed L e → Keeps L w e.ram e.modules e None None
keeps-core L w e p = record { closed = p; bytes = λ k l. refl; heaps = λ d. refl; rights = tt; owner = tt; owners = λ d v m h. tt }

keeps-looked : (L : ℕ → Type 0) (w : ℕ) (r : Reads) (h : ℕ) (looks : List Look) (c : Core) → IsClosed L c
    → Keeps L w c.ram c.modules (looked_all r h looks c) None None
keeps-looked L w r h looks c p =
    subst (λ (x : Core). Keeps L w c.ram c.modules x None None) (sym (looked_all-caches r h looks c))
    (keeps-core L w (record c { caches = (looked_all r h looks c).caches }) (record { harts = p.harts; gates = p.gates }))

-- rows of which none applies
rows-pass : {A : Type 0} (rows : List (Row A)) → first_row rows ≡ None → AllByRecursion (λ (t : Row A). t.0 ≡ false) rows
rows-pass [] e = tt
rows-pass (t ∷ ts) e = let p = first-passes t ts e in (p.0, rows-pass ts p.1)

keeps-judged : (L : ℕ → Type 0) (w : ℕ) (ram : List ℕ) (modules : List Module) (e : Core) (rows : List (Row ℕ)) (s : Served)
    → Keeps L w ram modules e None None →
    (AllByRecursion (λ (t : Row ℕ). t.0 ≡ false) rows → Keeps L w ram modules s.core s.change s.give) →
    Keeps L w ram modules (judged e (first_row rows) s).core (judged e (first_row rows) s).change (judged e (first_row rows) s).give
keeps-judged L w ram modules e rows s p q = elim (first_row rows) as
    (λ o. first_row rows ≡ o → Keeps L w ram modules (judged e o s).core (judged e o s).change (judged e o s).give) [
      | None ↦ λ f. q (rows-pass rows f)
      | Some n ↦ λ f. p
    ] refl

-- refused or not, nothing but caches is changed
keeps-either : (L : ℕ → Type 0) (w : ℕ) (ram : List ℕ) (modules : List Module) (e : Core) (o : Option ℕ) (s : Served)
    → Keeps L w ram modules e None None →
    Keeps L w ram modules s.core s.change s.give →
    Keeps L w ram modules (judged e o s).core (judged e o s).change (judged e o s).give
keeps-either L w ram modules e None s p q = q
keeps-either L w ram modules e (Some n) s p q = p

-- each word of a range whose words the caller owns is the caller's
owned-by : (r : Reads) (call : Call) (range : ℕ × ℕ) (v : ℕ) → owns r call range ≡ true → covers range.0 range.1 v ≡ true
    → r.owner v ≡ call.domain
owned-by r call range v e p =
    let q = covers_from range.0 range.1 v p in
    eqb-true (r.owner v) call.domain (each_passes (λ w. r.owner w == call.domain) range.0 range.1 e v q.0 q.1)

-- a word with an owner outside the set isn't covered where all covered words are of an owner in the set
spared-by : (L : ℕ → Type 0) (r : Reads) (w d first count : ℕ) → IsSpared L r w → L d → (covers first count w ≡ true → r.owner w ≡ d)
    → covers first count w ≡ false
spared-by L r w d first count s p q = elim (covers first count w) as (λ b. covers first count w ≡ b → b ≡ false) [
  | true ↦ λ e. absurd (s.owner (subst L (sym (q e)) p))
  | false ↦ λ e. refl
] refl

spared-range : (L : ℕ → Type 0) (r : Reads) (w : ℕ) (call : Call) (range : ℕ × ℕ) → IsSpared L r w → L call.domain
    → not (owns r call range) ≡ false →
    covers range.0 range.1 w ≡ false
spared-range L r w call range s p e = spared-by L r w call.domain range.0 range.1 s p
    (owned-by r call range w (not-false (owns r call range) e))

-- a range inside a heap area
in-heap : (a : Area) (first count v : ℕ) → a.first ≤ first → first + count ≤ a.first + a.count → covers first count v ≡ true
    → covers a.first a.count v ≡ true
in-heap a first count v l u e =
    let q = covers_from first count v e in let x = q.0 in let y = q.1 in
    covers_in a.first a.count v (omega (arith, l, x)) (omega (arith, u, y))

spared-heap : (L : ℕ → Type 0) (r : Reads) (c : Core) (w d first count : ℕ) → Stands L r c → IsSpared L r w → L d →
    (module_at c d).heap.first ≤ first → first + count ≤ (module_at c d).heap.first + (module_at c d).heap.count
    → covers first count w ≡ false
spared-heap L r c w d first count s sp p l u =
    spared-by L r w d first count sp p (λ e. s.heaps d w (s.modules d p) (in-heap (module_at c d).heap first count w l u e))

-- outside a range
outside-range : (first count w : ℕ) → covers first count w ≡ false → IsOutside first count w
outside-range first count w e = elim (nat_lt w first) as (λ b. nat_lt w first ≡ b → IsOutside first count w) [
  | true ↦ λ t. inl (ltb-true w first t)
  | false ↦ λ t. elim (nat_lt w (first + count)) as (λ b. nat_lt w (first + count) ≡ b → IsOutside first count w) [
    | true ↦ λ u. let p = covers_in first count w (ltb-false w first t) (ltb-true w (first + count) u) in absurd (let q : ⊥ = cc in q)
    | false ↦ λ u. inr (ltb-false w (first + count) u)
  ] refl
] refl

outside-bytes : (first count w k : ℕ) → IsOutside first count w → k < 4 → IsOutside (4 * first) (4 * count) (4 * w + k)
outside-bytes first count w k p l =
    ⊎_elim (λ e. let q : 4 * w + k < 4 * first = omega (arith, e, l) in inl q) (λ e. let q : 4 * first + 4 * count ≤ 4 * w + k =
    omega (arith, e, l) in inr q) p

-- a call that changes rights on a range alone
keeps-change : (L : ℕ → Type 0) (w : ℕ) (c : Core) (change : Change) → IsClosed L c → covers change.first change.count w ≡ false →
    Keeps L w c.ram c.modules c (Some change) None
keeps-change L w c change p q = record {
  closed = p;
  bytes = λ k l. refl;
  heaps = λ d. refl;
  rights = q;
  owner = tt;
  owners = λ d v m h.
      tt;
}

-- alloc
room-low : (a : Area) (blocks : List Area) (n first : ℕ) → has_room a blocks n first ≡ true
    → (a.first ≤ first) × (first + n ≤ a.first + a.count)
room-low a blocks n first e =
    let p = and_parts (nat_le a.first first && nat_le (first + n) (a.first + a.count)) _ e in
    let q = and_parts (nat_le a.first first) (nat_le (first + n) (a.first + a.count)) p.0 in
    (leb-true a.first first q.0, leb-true (first + n) (a.first + a.count) q.1)

keeps-allocated : (L : ℕ → Type 0) (w : ℕ) (r : Reads) (c : Core) (call : Call) (first : ℕ) → Stands L r c → IsSpared L r w
    → L call.domain →
    has_room (module_at c call.domain).heap (module_at c call.domain).blocks (arg call 0) first ≡ true
    → KeepsServed L w c (allocated c call first)
keeps-allocated L w r c call first s sp p e =
    let q = room-low (module_at c call.domain).heap (module_at c call.domain).blocks (arg call 0) first e in
    let free = spared-heap L r c w call.domain first (arg call 0) s sp p q.0 q.1 in
    let home = (home-at c call.domain s.valid).heap in
    let count = s.valid.ram_count in
    let high = q.1 in
    let inside : 4 * first + 4 * arg call 0 ≤ length c.ram = omega (arith, home, count, high) in
    record {
      closed = record { harts = s.closed.harts; gates = s.closed.gates };
      bytes = λ k l. cleared-outside c.ram (4 * first) (4 * arg call 0) (4 * w + k) inside
          (outside-bytes first (arg call 0) w k (outside-range first (arg call 0) w free) l);
      heaps = λ d. part-set (λ (m : Module). m.heap) c.modules (call.domain - 1) (d - 1) _ no_module refl;
      rights = free;
      owner = tt;
      owners = λ d v m h. tt;
    }

keeps-alloc_from : (L : ℕ → Type 0) (w : ℕ) (r : Reads) (c : Core) (call : Call) (first : ℕ) (rows : List (Row ℕ)) → Stands L r c →
    (AllByRecursion (λ (t : Row ℕ). t.0 ≡ false) rows → KeepsServed L w c (allocated c call first))
    → KeepsServed L w c (alloc_from c call first (first_row rows))
keeps-alloc_from L w r c call first rows s q = elim (first_row rows) as (λ o. first_row rows ≡ o
    → KeepsServed L w c (alloc_from c call first o)) [
      | None ↦ λ f. q (rows-pass rows f)
      | Some n ↦ λ f. keeps-core L w c s.closed
    ] refl

keeps-alloc : (L : ℕ → Type 0) (w : ℕ) (r : Reads) (c : Core) (call : Call) → Stands L r c → IsSpared L r w → L call.domain
    → KeepsServed L w c (served_by Alloc r c call)
keeps-alloc L w r c call s sp p =
    let m = module_at c call.domain in
    let first = unwrap_or (alloc_place c call) 0 in
    keeps-alloc_from L w r c call first ((arg call 0 == 0, 1) ∷ (is_none (alloc_place c call), 6)
    ∷ (nat_le most_blocks (length m.blocks), 7)
    ∷ (not (r.fits (alloc_change first call)), 5) ∷ []) s (λ t.
    keeps-allocated L w r c call first s sp p (found-some (alloc_place c call) (λ a. has_room m.heap m.blocks (arg call 0) a ≡ true)
    (found-passes (has_room m.heap m.blocks (arg call 0)) (range_with_len m.heap.first m.heap.count)) t.1.0))

-- free: a live block lies in its heap area
freed-in : (c : Core) (call : Call) → IsValid c →
    IfSome (freed_count c call) (λ n. ((module_at c call.domain).heap.first ≤ arg_word call)
    × (arg_word call + n ≤ (module_at c call.domain).heap.first + (module_at c call.domain).heap.count))
freed-in c call v =
    let a = (module_at c call.domain).heap in
    elim (is_word c (arg call 0)) as
    (λ b. IfSome (cond b (block_words (module_at c call.domain).blocks (arg_word call)) None) (λ n.
    (a.first ≤ arg_word call) × (arg_word call + n ≤ a.first + a.count))) [
      | true ↦ block-in a.first (a.first + a.count) (arg_word call) (module_at c call.domain).blocks (home-at c call.domain v).blocks
      | false ↦ tt
    ]

keeps-free : (L : ℕ → Type 0) (w : ℕ) (r : Reads) (c : Core) (call : Call) → Stands L r c → IsSpared L r w → L call.domain
    → KeepsServed L w c (served_by Free r c call)
keeps-free L w r c call s sp p =
    let a = (module_at c call.domain).heap in
    keeps-judged L w c.ram c.modules c ((is_none (freed_count c call), 8) ∷ (not (r.fits (free_change c call)), 5) ∷ []) _
    (keeps-core L w c s.closed) (λ t.
    let q = found-some (freed_count c call) (λ n. (a.first ≤ arg_word call) × (arg_word call + n ≤ a.first + a.count))
    (freed-in c call s.valid) t.0 in
    record {
      closed = record { harts = s.closed.harts; gates = s.closed.gates };
      bytes = λ k l. refl;
      heaps = λ d. part-set (λ (m : Module). m.heap) c.modules (call.domain - 1) (d - 1) _ no_module refl;
      rights = spared-heap L r c w call.domain (arg_word call) (unwrap_or (freed_count c call) 0) s sp p q.0 q.1;
      owner = tt;
      owners = λ d v m h. tt;
    })

-- transfer: the range meets no heap area, since each heap area is its module's own and the caller's is refused
meets-both : (a n b m v : ℕ) → covers a n v ≡ true → covers b m v ≡ true → overlaps a n b m ≡ true
meets-both a n b m v p q =
    let x = covers_from a n v p in let y = covers_from b m v q in
    let x0 = x.0 in let x1 = x.1 in let y0 = y.0 in let y1 = y.1 in
    three (nat_lt 0 n) (nat_lt 0 m) _ (lt-ltb 0 n (omega (arith, x0, x1))) (lt-ltb 0 m (omega (arith, y0, y1)))
    (elim (nat_lt a b) as (λ t. nat_lt a b ≡ t → cond t (nat_lt (b - a) n) (nat_lt (a - b) m) ≡ true) [
      | true ↦ λ t. lt-ltb (b - a) n (omega (arith, x0, x1, y0))
      | false ↦ λ t. let l = ltb-false a b t in lt-ltb (a - b) m (omega (arith, l, x0, y0, y1))
    ] refl)
  where
    three : (f g h : Bool) → f ≡ true → g ≡ true → h ≡ true → (f && g && h) ≡ true
    three true true h p q r = r
    three true false h p q r = absurd (let z : ⊥ = cc in z)
    three false g h p q r = absurd (let z : ⊥ = cc in z)

heap-apart : (L : ℕ → Type 0) (r : Reads) (c : Core) (call : Call) (d v : ℕ) → Stands L r c → owns r call (arg_range c call) ≡ true
    → meets_heap c call ≡ false →
    IsModule (length c.modules) d → IsTrue (covers (module_at c d).heap.first (module_at c d).heap.count v)
    → covers (arg_range c call).0 (arg_range c call).1 v ≡ false
heap-apart L r c call d v s o n m h = elim (covers (arg_range c call).0 (arg_range c call).1 v) as (λ b.
    covers (arg_range c call).0 (arg_range c call).1 v ≡ b → b ≡ false) [
      | true ↦ λ e.
          let own : d ≡ call.domain = sym (s.heaps d v m h) ∙ owned-by r call (arg_range c call) v o e in
          let heap : IsTrue (covers (module_at c call.domain).heap.first (module_at c call.domain).heap.count v) =
          subst (λ (x : ℕ). IsTrue (covers (module_at c x).heap.first (module_at c x).heap.count v)) own h in
          let meet : meets_heap c call ≡ true =
          meets-both (module_at c call.domain).heap.first (module_at c call.domain).heap.count (arg_range c call).0
          (arg_range c call).1 v heap e in
          absurd (let z : ⊥ = cc in z)
      | false ↦ λ e. refl
    ] refl

keeps-transfer : (L : ℕ → Type 0) (w : ℕ) (r : Reads) (c : Core) (call : Call) → Stands L r c → IsSpared L r w → L call.domain
    → KeepsServed L w c (served_by Transfer r c call)
keeps-transfer L w r c call s sp p =
    keeps-judged L w c.ram c.modules c ((no_range c call || meets_heap c call, 1) ∷ (nat_lt (length c.modules) (arg call 2), 3)
    ∷ (not (owns r call (arg_range c call)), 2)
    ∷ (not (r.few_runs (give_of c call)), 14) ∷ []) _ (keeps-core L w c s.closed) (λ t. record {
      closed = s.closed;
      bytes = λ k l. refl;
      heaps = λ d. refl;
      rights = tt;
      owner = spared-range L r w call (arg_range c call) sp p t.1.1.0;
      owners = λ d v m h. heap-apart L r c call d v s (not-false (owns r call (arg_range c call)) t.1.1.0)
          (or_parts (no_range c call) (meets_heap c call) t.0).1 m h;
    })

-- gates
keeps-gates : (L : ℕ → Type 0) (w : ℕ) (c : Core) (gates : List Gate) → IsClosed L c → AllByRecursion (Leads L) gates →
    Keeps L w c.ram c.modules (record c { gates = gates }) None None
keeps-gates L w c gates p q = keeps-core L w (record c { gates = gates }) (record { harts = p.harts; gates = q })

leads-with : (L : ℕ → Type 0) (g : Gate) (gates : List Gate) → AllByRecursion (Leads L) gates → L g.target
    → AllByRecursion (Leads L) (with_gate g gates)
leads-with L g gates p q =
    all-append (Leads L) (without_gate g.domain g.word gates) g (all-filter (Leads L) (λ x. not (is_at g.domain g.word x)) gates p) (λ l. q)

-- write and exchange
keeps-written_out : (L : ℕ → Type 0) (w : ℕ) (r : Reads) (c : Core) (call : Call) → IsClosed L c → KeepsServed L w c (written_out r c call)
keeps-written_out L w r c call p =
    let q = keeps-looked L w r call.hart (write_looks r call) c p in
    keeps-either L w c.ram c.modules (looked_all r call.hart (write_looks r call) c) _ _ q q

keeps-write_from : (L : ℕ → Type 0) (w : ℕ) (r : Reads) (c : Core) (call : Call) (o : Option ℕ) → IsClosed L c
    → KeepsServed L w c (write_from r c call o)
keeps-write_from L w r c call (Some n) p = keeps-core L w c p
keeps-write_from L w r c call None p = keeps-written_out L w r c call p

pub writable-is : (p : Perm) → allows p A.Write ≡ true → p ≡ P.ReadWrite
writable-is P.None e = absurd (let q : ⊥ = cc in q)
writable-is P.Read e = absurd (let q : ⊥ = cc in q)
writable-is P.ReadWrite e = refl
writable-is P.ExecuteRead e = absurd (let q : ⊥ = cc in q)

-- another word than one that a domain of the set may write
pub other-word : (L : ℕ → Type 0) (r : Reads) (w d v : ℕ) → IsSpared L r w → L d → allows (r.perm d v) A.Write ≡ true → w ≢ v
other-word L r w d v s p e q = s.rights d p (ap (r.perm d) q ∙ writable-is (r.perm d v) e)

outside-word : (w v : ℕ) → w ≢ v → IsOutside v 1 w
outside-word w v n = elim (nat_lt w v) as (λ b. nat_lt w v ≡ b → IsOutside v 1 w) [
  | true ↦ λ t. inl (ltb-true w v t)
  | false ↦ λ t. let l = ltb-false w v t in let q : v + 1 ≤ w = omega (arith, l, n) in inr q
] refl

keeps-exchanged : (L : ℕ → Type 0) (w : ℕ) (r : Reads) (c : Core) (call : Call) → IsClosed L c → IsSpared L r w → L call.domain
    → KeepsServed L w c (exchanged r c call)
keeps-exchanged L w r c call p sp l =
    let looks = look_of call.domain (arg_word call) ∷ [] in
    let q = keeps-looked L w r call.hart looks c p in
    keeps-judged L w c.ram c.modules (looked_all r call.hart looks c) ((not (allows (r.perm call.domain (arg_word call)) A.Write), 12) ∷ [])
    _ q (λ t.
    let other = other-word L r w call.domain (arg_word call) sp l (not-false (allows (r.perm call.domain (arg_word call)) A.Write) t.0) in
    record {
      closed = record { harts = p.harts; gates = p.gates };
      bytes = λ k b. put-outside 4 c.ram (4 * arg_word call) (arg call 1) (4 * w + k)
          (outside-bytes (arg_word call) 1 w k (outside-word w (arg_word call) other) b);
      heaps = λ d. refl;
      rights = tt;
      owner = tt;
      owners = λ d v m h. tt;
    })

keeps-exchange_from : (L : ℕ → Type 0) (w : ℕ) (r : Reads) (c : Core) (call : Call) (o : Option ℕ) → IsClosed L c → IsSpared L r w
    → L call.domain →
    KeepsServed L w c (exchange_from r c call o)
keeps-exchange_from L w r c call (Some n) p sp l = keeps-core L w c p
keeps-exchange_from L w r c call None p sp l = keeps-exchanged L w r c call p sp l

-- a call of each kind
keeps-by : (L : ℕ → Type 0) (w : ℕ) (k : Service) (r : Reads) (c : Core) (call : Call) → Stands L r c → IsSpared L r w → L call.domain →
    KeepsServed L w c (served_by k r c call)
keeps-by L w Exit r c call s sp p = keeps-either L w c.ram c.modules c _ _ (keeps-core L w c s.closed) (keeps-core L w c s.closed)
keeps-by L w Write r c call s sp p = keeps-write_from L w r c call _ s.closed
keeps-by L w Grant r c call s sp p =
    keeps-judged L w c.ram c.modules c ((no_range c call, 1) ∷ (not (is_module c (arg call 2)), 3) ∷ (nat_lt 3 (arg call 3), 4)
    ∷ (not (owns r call (arg_range c call)), 2)
    ∷ (not (r.fits (grant_change c call)), 5) ∷ []) _ (keeps-core L w c s.closed)
    (λ t. keeps-change L w c (grant_change c call) s.closed (spared-range L r w call (arg_range c call) sp p t.1.1.1.0))
keeps-by L w RevokeAll r c call s sp p =
    keeps-judged L w c.ram c.modules c ((no_range c call, 1) ∷ (not (owns r call (arg_range c call)), 2)
    ∷ (not (r.fits (revoke_change c call)), 5) ∷ []) _ (keeps-core L w c s.closed)
    (λ t. keeps-change L w c (revoke_change c call) s.closed (spared-range L r w call (arg_range c call) sp p t.1.0))
keeps-by L w Transfer r c call s sp p = keeps-transfer L w r c call s sp p
keeps-by L w Alloc r c call s sp p = keeps-alloc L w r c call s sp p
keeps-by L w Free r c call s sp p = keeps-free L w r c call s sp p
keeps-by L w AddGate r c call s sp p =
    keeps-either L w c.ram c.modules c _ _ (keeps-core L w c s.closed)
    (keeps-gates L w c _ s.closed (leads-with L (record { domain = arg call 1; word = arg_word call; target = call.domain }) c.gates
    s.closed.gates p))
keeps-by L w RemoveGate r c call s sp p =
    keeps-either L w c.ram c.modules c _ _ (keeps-core L w c s.closed)
    (keeps-gates L w c _ s.closed (all-filter (Leads L) (λ x. not (is_at (arg call 1) (arg_word call) x)) c.gates s.closed.gates))
keeps-by L w AddReturnGate r c call s sp p =
    keeps-either L w c.ram c.modules c _ _ (keeps-core L w c s.closed)
    (keeps-gates L w c _ s.closed (leads-with L (record { domain = call.domain; word = arg_word call; target = call.domain }) c.gates
    s.closed.gates p))
keeps-by L w Query r c call s sp p = keeps-either L w c.ram c.modules c _ _ (keeps-core L w c s.closed) (keeps-core L w c s.closed)
keeps-by L w Self r c call s sp p = keeps-core L w c s.closed
keeps-by L w Exchange r c call s sp p = keeps-exchange_from L w r c call _ s.closed sp p
keeps-by L w Unknown r c call s sp p = keeps-core L w c s.closed

keeps-ended : (L : ℕ → Type 0) (w : ℕ) (c : Core) (call : Call) (s : Served) → KeepsServed L w c s → KeepsServed L w c (ended c call s)
keeps-ended L w c call s p = elim (is_announced call.number) as (λ b.
    KeepsServed L w c (cond b (record s { core = drops call.hart (call_range c call) s.core }) s)) [
      | true ↦ record {
        closed = record { harts = p.closed.harts; gates = p.closed.gates };
        bytes = p.bytes;
        heaps = p.heaps;
        rights = p.rights;
        owner = p.owner;
        owners = p.owners;
      }
      | false ↦ p
    ]

pub keeps-serve : (L : ℕ → Type 0) (w : ℕ) (r : Reads) (c : Core) (call : Call) → Stands L r c → IsSpared L r w → L call.domain →
    Keeps L w c.ram c.modules (serve r c call).core (serve r c call).change (serve r c call).give
keeps-serve L w r c call s sp p = keeps-ended L w c call (served_by (service call.number) r c call)
    (keeps-by L w (service call.number) r c call s sp p)
