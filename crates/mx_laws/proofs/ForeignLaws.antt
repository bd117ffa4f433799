-- A turn leaves each word that its hart's domain may not write, but for the block of an alloc.
use Rattle.std.proofs.Common.{◌≡◌, ◌≢◌, ℕ, zero, suc, ◌+◌, ◌-◌, ◌*◌, ◌/◌, ◌%◌, ◌<◌, ◌≤◌, ◌⊎◌, Bool, true, false, not, cond, ◌==◌, ◌&&◌}
use Rattle.std.proofs.Common.{nat_lt, nat_le, List, length, get_or, set, refl, sym, ◌∙◌, ap, subst, arith, Option, Some, None, ⊎_elim, inl}
use Rattle.std.proofs.Common.{inr}
use Rattle.std.proofs.lemmas.Bool.{and_parts, ltb-true, ltb-false, leb-true, leb-false}
use Rattle.std.proofs.lemmas.List.{get_or-set_same, get_or-set_other}
use Rattle.std.proofs.lemmas.Grind.{common_steps}
use Rattle.mx_words.specs.declared.perm.Access.TheVariants as A
use Rattle.mx_words.specs.Bytes.{put_at, cleared_at, IsSize}
use Rattle.mx_words.specs.Caches.{Cache}
use Rattle.mx_words.specs.FirstFit.{Area, has_room}
use Rattle.mx_words.specs.Ranges.{covers, ram_base}
use Rattle.mx_words.specs.Rights.{allows}
use Rattle.mx_words.proofs.OverlayLaws.{covers_from}
use Rattle.mx_model.specs.declared.values.Call.{Call}
use Rattle.mx_model.specs.declared.values.Frame.{Frame}
use Rattle.mx_model.specs.declared.values.TurnKind.TheVariants as T
use Rattle.mx_model.specs.Agreement.{Ended, standing}
use Rattle.mx_model.specs.Checks.{arg}
use Rattle.mx_model.specs.Effect.{next}
use Rattle.mx_model.specs.Gates.{top}
use Rattle.mx_model.specs.Reads.{Reads}
use Rattle.mx_model.specs.Serve.{Served, Alloc, service, serve, allocated, arg_word, with_blocks}
use Rattle.mx_model.specs.State.{Core, Hart, Module, hart_at, module_at, with_module, no_module}
use Rattle.mx_model.specs.Turn.{Action, Rests, Waits, Serves, Asks, Traps, Bounces, Crosses, Returns, Runs, Writes, Made, acted, answered}
use Rattle.mx_model.specs.Turn.{asked, by_status, call_of, done, given_up, halted, is_denied, is_served_now, killed, served, trapped}
use Rattle.mx_model.specs.Turn.{turned, with_regs}
use Rattle.mx_model.specs.Valid.{IsValid}
use Rattle.mx_model.proofs.AlignedLaws.{in-word}
use Rattle.mx_model.proofs.ValidParts.{home-at}
use Rattle.mx_laws.specs.After.{domain_at}
use Rattle.mx_laws.specs.Foreign.{heap_of, IsForeign, IsKept, ForeignAfter, AllKept, AllButBlock}
use Rattle.mx_laws.proofs.ReadLaws.{allowed-if}
use Rattle.mx_laws.proofs.CallWalk.{CallLeaves, served-walk}
use Rattle.mx_laws.proofs.Lawful.{IsLawful, OwnCall, lawful-turn, present}
use Rattle.mx_laws.proofs.TurnParts.{apart, by-action}
use Rattle.mx_laws.proofs.TwinLaws.{ended-rests, kind-asked}

-- a byte beside a store
pub put-beside : (size : ℕ) (xs : List ℕ) (k n j : ℕ) → (j < k) ⊎ (k + size ≤ j) → get_or (put_at xs k size n) j 0 ≡ get_or xs j 0
unfolding put_at
put-beside zero xs k n j p = refl
put-beside (suc size) xs k n j p =
    put-beside size (set xs k (n % 256)) (k + 1) (n / 256) j (⊎_elim (λ l. inl (omega (arith, l))) (λ l. inr (omega (arith, l))) p)
    ∙ get_or-set_other xs k j (n % 256) 0 (λ e. ⊎_elim (λ l. let q : ⊥ = omega (arith, l, e) in q) (λ l. let q : ⊥ = omega (arith, l, e) in
    q) p)

-- a byte beside the cleared ones, and one of them
pub cleared-beside : (xs : List ℕ) (k n j : ℕ) → k + n ≤ length xs → (j < k) ⊎ (k + n ≤ j) → get_or (cleared_at xs k n) j 0 ≡ get_or xs j 0
unfolding cleared_at
cleared-beside xs k n j p s = grind (arith, common_steps)

cleared-inside : (xs : List ℕ) (k n j : ℕ) → k + n ≤ length xs → k ≤ j → j < k + n → get_or (cleared_at xs k n) j 0 ≡ 0
unfolding cleared_at
cleared-inside xs k n j p a b = grind (arith, common_steps)

-- the same RAM keeps each word
pub kept-ram : (c e : Core) (w : ℕ) → e.ram ≡ c.ram → IsKept c e w
kept-ram c e w n k l = ap (λ (xs : List ℕ). get_or xs (4 * w + k) 0) n

-- a word outside a range lies before or behind it
pub uncovered : (first count w : ℕ) → covers first count w ≡ false → (w < first) ⊎ (first + count ≤ w)
uncovered first count w e = elim (nat_le first w) as (λ b. nat_le first w ≡ b → b && nat_lt (w - first) count ≡ false
    → (w < first) ⊎ (first + count ≤ w)) [
      | true ↦ λ t f. let a = leb-true first w t in let b = ltb-false (w - first) count f in inr (omega (arith, a, b))
      | false ↦ λ t f. inl (leb-false first w t)
    ] refl e

-- a state with the same RAM and modules
foreign-moved : (r : Reads) (c : Core) (h : ℕ) (e f : Core) → f.ram ≡ e.ram → f.modules ≡ e.modules → ForeignAfter r c h e
    → ForeignAfter r c h f
foreign-moved r c h e f n m (AllKept p) = AllKept (λ w g k l. ap (λ (xs : List ℕ). get_or xs (4 * w + k) 0) n ∙ p w g k l)
foreign-moved r c h e f n m (AllButBlock p) = AllButBlock (record {
  call = p.call;
  block = p.block;
  count = p.count;
  taken = ap (λ (ms : List Module). (get_or ms (domain_at c h - 1) no_module).blocks) m ∙ p.taken;
  low = p.low;
  high = p.high;
  zero = λ w g k l. ap (λ (xs : List ℕ). get_or xs (4 * w + k) 0) n ∙ p.zero w g k l;
  others = λ w g i k l. ap (λ (xs : List ℕ). get_or xs (4 * w + k) 0) n ∙ p.others w g i k l;
})

foreign-ram : (r : Reads) (c : Core) (h : ℕ) (e : Core) → e.ram ≡ c.ram → ForeignAfter r c h e
foreign-ram r c h e n = AllKept (λ w g k l. ap (λ (xs : List ℕ). get_or xs (4 * w + k) 0) n)

-- a store to a word that the domain may write
module _ (r : Reads) (c : Core) (h : ℕ) where
  other-word : (w v : ℕ) → IsForeign r c h w → allows (r.perm (domain_at c h) v) A.Write ≡ true → w ≢ v
  other-word w v f a e =
      let k : true ≡ false = sym a ∙ sym (ap (λ (i : ℕ). allows (r.perm (domain_at c h) i) A.Write) e) ∙ f in
      let q : ⊥ = cc in q

  kept-store : (e : Core) (v offset size n : ℕ) → offset + size ≤ 4 → allows (r.perm (domain_at c h) v) A.Write ≡ true →
      e.ram ≡ put_at c.ram (4 * v + offset) size n → ForeignAfter r c h e
  kept-store e v offset size n s a i = AllKept (λ w f k l.
      let apart : w ≢ v = other-word w v f a in
      ap (λ (xs : List ℕ). get_or xs (4 * w + k) 0) i ∙ put-beside size c.ram (4 * v + offset) n (4 * w + k)
      (beside w v k offset size s l apart))
    where
      beside : (w v k offset size : ℕ) → offset + size ≤ 4 → k < 4 → w ≢ v
          → (4 * w + k < 4 * v + offset) ⊎ (4 * v + offset + size ≤ 4 * w + k)
      beside w v k offset size s l n = elim (nat_lt w v) as (λ b. nat_lt w v ≡ b
          → (4 * w + k < 4 * v + offset) ⊎ (4 * v + offset + size ≤ 4 * w + k)) [
            | true ↦ λ t. let q = ltb-true w v t in inl (omega (arith, q, l))
            | false ↦ λ t. let q = ltb-false w v t in let d : v < w = omega (arith, q, n) in inr (omega (arith, d, s))
          ] refl

  kept-write : (e : Core) (address size value : ℕ) → IsSize size → address % size ≡ 0
      → is_denied r c (domain_at c h) address A.Write ≡ false →
      e.ram ≡ put_at c.ram (address - ram_base) size value → ForeignAfter r c h e
  kept-write e address size value s a n i =
      let may = allowed-if r c (domain_at c h) address A.Write n in
      let offset = (address - ram_base) % 4 in
      let place : 4 * ((address - ram_base) / 4) + offset ≡ address - ram_base = omega arith in
      kept-store e ((address - ram_base) / 4) offset size value (in-word size address s a may.low) may.right
      (i ∙ ap (λ (k : ℕ). put_at c.ram k size value) (sym place))

-- room for a block
record HasRoom (area : Area) (n first : ℕ) : Type 0 where
  low : area.first ≤ first
  high : first + n ≤ area.first + area.count

room-is : (area : Area) (blocks : List Area) (n first : ℕ) → has_room area blocks n first ≡ true → HasRoom area n first
room-is area blocks n first e =
    let outer = and_parts (nat_le area.first first && nat_le (first + n) (area.first + area.count)) _ e in
    let inner = and_parts (nat_le area.first first) (nat_le (first + n) (area.first + area.count)) outer.0 in
    record { low = leb-true area.first first inner.0; high = leb-true (first + n) (area.first + area.count) inner.1 }

-- a call of hart h, served in a state with other harts and caches
module _ (r : Reads) (c : Core) (h : ℕ) (v : IsValid c) (l : h < length c.harts) (turns : ℕ) (harts : List Hart) (caches : List Cache) where
  abbrev seen : Core
  seen = apart c turns harts caches

  abbrev call : Call
  call = call_of h (hart_at c h)

  abbrev domain : ℕ
  domain = domain_at c h

  blocks-after : (cleared : Core) (blocks : List Area) → cleared.modules ≡ c.modules →
      (module_at (with_blocks call blocks cleared) domain).blocks ≡ blocks
  blocks-after cleared blocks e =
      let m : Module = record (module_at cleared domain) { blocks = blocks } in
      let d = (v.harts h l).domain in
      let low = d.first in
      let high = d.last in
      let inside : domain - 1 < length cleared.modules = subst (λ (ms : List Module). domain - 1 < length ms) (sym e)
      (omega (arith, low, high)) in
      ap (λ (x : Module). x.blocks) (get_or-set_same cleared.modules (domain - 1) m no_module inside)

  alloc-after : service call.number ≡ Alloc → (first : ℕ) → HasRoom (heap_of c h) (arg call 0) first
      → ForeignAfter r c h (allocated seen call first).core
  alloc-after s first room =
      let n = arg call 0 in
      let high = room.high in
      let home = (home-at c domain v).heap in
      let count = v.ram_count in
      let inside : 4 * first + 4 * n ≤ length c.ram = omega (arith, high, home, count) in
      AllButBlock (record {
        call = s;
        block = record { first = first; count = n };
        count = refl;
        taken = blocks-after (record seen { ram = cleared_at c.ram (4 * first) (4 * n) }) _ refl;
        low = room.low;
        high = room.high;
        zero = λ w g k l.
            let in_block = covers_from first n w g in
            let a = in_block.0 in
            let b = in_block.1 in
            cleared-inside c.ram (4 * first) (4 * n) (4 * w + k) inside (omega (arith, a)) (omega (arith, b, l));
        others = λ w g f k l.
            cleared-beside c.ram (4 * first) (4 * n) (4 * w + k) inside
            (⊎_elim (λ a. inl (omega (arith, a, l))) (λ a. inr (omega (arith, a))) (uncovered first n w g));
      })

  call-leaves : CallLeaves r seen call (ForeignAfter r c h)
  call-leaves = record {
    caches = λ e caches p. foreign-moved r c h e (record e { caches = caches }) refl refl p;
    none = foreign-ram r c h seen refl;
    modules = λ modules. foreign-ram r c h (record seen { modules = modules }) refl;
    gates = λ gates. foreign-ram r c h (record seen { gates = gates }) refl;
    exchange = λ a. let place : 4 * arg_word call + 0 ≡ 4 * arg_word call = omega arith in
        kept-store r c h (record seen { ram = put_at c.ram (4 * arg_word call) 4 (arg call 1) }) (arg_word call) 0 4 (arg call 1)
        (omega arith) a
        (ap (λ (k : ℕ). put_at c.ram k 4 (arg call 1)) (sym place));
    alloc = λ s first e. alloc-after s first (room-is (heap_of c h) (module_at c domain).blocks (arg call 0) first e);
  }

  foreign-done : (x : Hart) (s : Served) → ForeignAfter r c h s.core → ForeignAfter r c h (done h x s).core
  foreign-done x s p = elim s.stop as (λ b. ForeignAfter r c h
      (cond b (halted h x (Some s.a0) s.core) (with_regs h x (answered x s.a0 s.a1) (next x.pc) s.core))) [
        | true ↦ foreign-moved r c h s.core (halted h x (Some s.a0) s.core) refl refl p
        | false ↦ foreign-moved r c h s.core (with_regs h x (answered x s.a0 s.a1) (next x.pc) s.core) refl refl p
      ]

  pub foreign-served : (asked : Call) → asked ≡ call → ForeignAfter r c h (served r seen h (hart_at c h) asked).core
  foreign-served asked e = subst (λ (k : Call). ForeignAfter r c h (served r seen h (hart_at c h) k).core) (sym e)
      (foreign-done (hart_at c h) (serve r seen call) (served-walk r seen call (ForeignAfter r c h) call-leaves))

  pub foreign-asked : (k : Call) (b : Bool) → k ≡ call → ForeignAfter r c h (asked r seen h (hart_at c h) k b).core
  foreign-asked k true e = foreign-served k e
  foreign-asked k false e = foreign-ram r c h (asked r seen h (hart_at c h) k false).core refl

-- a fault writes nothing
pub ram-killed : (d cause : ℕ) (c : Core) → (killed d cause c).ram ≡ c.ram
ram-killed d cause c = elim ((module_at c d).kills && not (cause == 20)) as (λ b.
    (cond b (with_module d (record (module_at c d) { dead = true }) c) c).ram ≡ c.ram) [
      | true ↦ refl
      | false ↦ refl
    ]

pub ram-given_up : (c : Core) (h : ℕ) (x : Hart) (cause : ℕ) (o : Option Frame) → (given_up c h x cause o).ram ≡ c.ram
ram-given_up c h x cause None = refl
ram-given_up c h x cause (Some frame) = refl

ram-trapped : (c : Core) (h : ℕ) (x : Hart) (cause value : ℕ) → (trapped c h x cause value).core.ram ≡ c.ram
ram-trapped c h x cause value = ram-given_up (killed x.domain cause c) h x cause (top x.frames) ∙ ram-killed x.domain cause c

-- an action
foreign-acted : (r : Reads) (c : Core) (h turns : ℕ) (harts : List Hart) (caches : List Cache) (a : Action) → IsValid c
    → h < length c.harts →
    IsLawful (OwnCall h (hart_at c h)) r c h (hart_at c h) a → ForeignAfter r c h
    (acted r (apart c turns harts caches) h (hart_at c h) a).core
foreign-acted r c h turns harts caches Rests v l p = foreign-ram r c h _ refl
foreign-acted r c h turns harts caches Waits v l p = foreign-ram r c h _ refl
foreign-acted r c h turns harts caches (Serves call) v l p = foreign-served r c h v l turns harts caches call p
foreign-acted r c h turns harts caches (Asks call) v l p =
    foreign-asked r c h v l turns harts caches call (is_served_now (apart c turns harts caches) h call) p
foreign-acted r c h turns harts caches (Traps cause value) v l p =
    foreign-ram r c h _ (ram-trapped (apart c turns harts caches) h (hart_at c h) cause value)
foreign-acted r c h turns harts caches Bounces v l p = foreign-ram r c h _ refl
foreign-acted r c h turns harts caches (Crosses target) v l p = foreign-ram r c h _ refl
foreign-acted r c h turns harts caches (Returns rd frame) v l p = foreign-ram r c h _ refl
foreign-acted r c h turns harts caches (Runs regs pc) v l p = foreign-ram r c h _ refl
foreign-acted r c h turns harts caches (Writes address size value) v l p = kept-write r c h _ address size value p.0 p.1 p.2 refl

-- a turn
pub foreign-turned : (r : Reads) (c : Core) (h : ℕ) → IsValid c → ForeignAfter r c h (turned r c h).core
foreign-turned r c h v =
    let t = by-action r c h in
    let x = hart_at c h in
    let a = (by_status r (apart c t.turns t.harts t.before) h x x.status).action in
    let after = apart c t.turns t.harts t.after in
    subst (λ (m : Made). ForeignAfter r c h m.core) (sym t.is)
    (⊎_elim (λ e. subst (λ (b : Action). ForeignAfter r c h (acted r after h x b).core) (sym e) (foreign-ram r c h after refl))
    (λ l. foreign-acted r c h t.turns t.harts t.after a v l (lawful-turn r c h t.turns t.harts t.before v))
    (present r c h t.turns t.harts t.before))

-- a turn of a hart that is halted or waits on
pub ram-halted : (r : Reads) (c : Core) (h : ℕ) → standing (hart_at c h).status ≡ Ended → (turned r c h).core.ram ≡ c.ram
ram-halted r c h e =
    let t = by-action r c h in
    let x = hart_at c h in
    let before = apart c t.turns t.harts t.before in
    ap (λ (m : Made). m.core.ram) t.is
    ∙ ap (λ (a : Action). (acted r (apart c t.turns t.harts t.after) h x a).core.ram) (ended-rests r before h x x.status e)

ram-waited : (r : Reads) (c : Core) (h : ℕ) (x : Hart) (a : Action) → (acted r c h x a).kind ≡ T.Waited → (acted r c h x a).core.ram ≡ c.ram
ram-waited r c h x Rests e = refl
ram-waited r c h x Waits e = refl
ram-waited r c h x (Serves call) e = absurd (let q : ⊥ = cc in q)
ram-waited r c h x (Asks call) e = absurd (let k = kind-asked r c h x call (is_served_now c h call) in let q : ⊥ = cc in q)
ram-waited r c h x (Traps cause value) e = ram-trapped c h x cause value
ram-waited r c h x Bounces e = refl
ram-waited r c h x (Crosses target) e = refl
ram-waited r c h x (Returns rd frame) e = refl
ram-waited r c h x (Runs regs pc) e = refl
ram-waited r c h x (Writes address size value) e = absurd (let q : ⊥ = cc in q)

pub ram-waiting : (r : Reads) (c : Core) (h : ℕ) → (turned r c h).kind ≡ T.Waited → (turned r c h).core.ram ≡ c.ram
ram-waiting r c h e =
    let t = by-action r c h in
    let x = hart_at c h in
    ap (λ (m : Made). m.core.ram) t.is
    ∙ ram-waited r (apart c t.turns t.harts t.after) h x (by_status r (apart c t.turns t.harts t.before) h x x.status).action
    (sym (ap (λ (m : Made). m.kind) t.is) ∙ e)
