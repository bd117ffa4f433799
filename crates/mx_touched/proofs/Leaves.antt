-- What a turn touches: each action, then the turn, in states and in flat states.
use Rattle.std.proofs.Common.{◌≡◌, ◌≢◌, ℕ, ◌+◌, ◌-◌, ◌*◌, ◌/◌, ◌%◌, ◌<◌, ◌≤◌, ◌⊎◌, Bool, true, false, not, cond, ◌==◌, ◌&&◌, nat_lt, nat_le}
use Rattle.std.proofs.Common.{List, [], ◌∷◌, length, get_or, set, refl, sym, ◌∙◌, ap, subst, arith, eqb-true, Option, Some, None, unwrap_or}
use Rattle.std.proofs.Common.{⊎_elim}
use Rattle.std.specs.Option.{option_map_or}
use Rattle.std.proofs.lemmas.Bool.{and_parts, leb-true, ltb-true}
use Rattle.std.proofs.lemmas.List.{get_or-set_other}
use Rattle.mx_words.specs.declared.perm.Perm.{Perm}
use Rattle.mx_words.specs.declared.perm.Perm.TheVariants as P
use Rattle.mx_words.specs.declared.perm.Access.TheVariants as A
use Rattle.mx_words.specs.Bytes.{IsSize, put_at}
use Rattle.mx_words.specs.Caches.{Cache}
use Rattle.mx_words.specs.Newest.{map}
use Rattle.mx_words.specs.Ranges.{in_ram, is_range, ram_base, range_words}
use Rattle.mx_words.specs.Rights.{perm_at}
use Rattle.mx_words.proofs.ChangeLaws.{outside, beside-from}
use Rattle.mx_isa.specs.declared.inst.Inst.{Inst}
use Rattle.mx_isa.specs.declared.inst.Inst.TheVariants.{Store}
use Rattle.mx_model.specs.declared.values.Call.{Call}
use Rattle.mx_model.specs.declared.values.Frame.{Frame}
use Rattle.mx_model.specs.declared.values.TurnKind.{TurnKind}
use Rattle.mx_model.specs.declared.values.TurnKind.TheVariants as T
use Rattle.mx_model.specs.Checks.{arg}
use Rattle.mx_model.specs.Effect.{next, plus, reg}
use Rattle.mx_model.specs.Gates.{top}
use Rattle.mx_model.specs.Reads.{Change, Reads, flat_reads, map_in, reads}
use Rattle.mx_model.specs.Run.{flat_made, flat_turn, maps_after, turn}
use Rattle.mx_model.specs.Serve.{Served, Service, Grant, RevokeAll, Alloc, Free, AddGate, RemoveGate, AddReturnGate, Exchange, serve}
use Rattle.mx_model.specs.Serve.{service}
use Rattle.mx_model.specs.State.{Core, Flat, Hart, Module, State, flat, hart_at, module_at, no_hart, no_module, with_module}
use Rattle.mx_model.specs.Turn.{Action, Rests, Waits, Serves, Asks, Traps, Bounces, Crosses, Returns, Runs, Writes, Made, acted, answered}
use Rattle.mx_model.specs.Turn.{asked, by_status, call_of, done, given_up, halted, is_denied, is_served_now, killed, served, turned}
use Rattle.mx_model.specs.Turn.{with_regs}
use Rattle.mx_model.specs.Valid.{IsValid}
use Rattle.mx_model.proofs.AlignedLaws.{in-word}
use Rattle.mx_model.proofs.FlatLaws.{flat-turn, reads-flat}
use Rattle.mx_model.proofs.KeepLaws.{size-turned}
use Rattle.mx_model.proofs.ValidParts.{home-at}
use Rattle.mx_laws.specs.After.{core_after, domain_at}
use Rattle.mx_laws.proofs.CallWalk.{served-walk}
use Rattle.mx_laws.proofs.Lawful.{IsLawful, OwnCall, lawful-turn, present}
use Rattle.mx_laws.proofs.ReadLaws.{allowed-if}
use Rattle.mx_laws.proofs.TurnParts.{IsAlike, apart, by-action}
use Rattle.mx_touched.specs.Touched.{AreIn, Touched, called_at, is_among, no_words, stored_at, stored_by, touched, touched_as, touched_by}
use Rattle.mx_touched.specs.Touched.{touched_in, untouched, word_area}
use Rattle.mx_touched.specs.Rest.{AreSameHarts, LeavesRest, LeavesRights, flat_leaves_all, leaves_all}
use Rattle.mx_touched.proofs.Stores.{StoresIn, stores-decided}
use Rattle.mx_touched.proofs.Fine.{IsBeside, IsFine, area-word, area_by, fine-moved, fine-none, kept-store, not-word}
use Rattle.mx_touched.proofs.Calls.{fine-serve}
use Rattle.mx_laws.proofs.FrameLaws.{harts-killed, harts-leaves}

-- the other harts, after an action of hart h
module _ (c : Core) (h g : ℕ) (n : g ≢ h) where
  other-set : (old : List Hart) (y : Hart) → old ≡ c.harts → get_or (set old h y) g no_hart ≡ hart_at c g
  other-set old y e = get_or-set_other old h g y no_hart n ∙ ap (λ (hs : List Hart). get_or hs g no_hart) e

  other-done : (x : Hart) (s : Served) → s.core.harts ≡ c.harts → hart_at (done h x s).core g ≡ hart_at c g
  other-done x s e =
      elim s.stop as
      (λ b. hart_at (cond b (halted h x (Some s.a0) s.core) (with_regs h x (answered x s.a0 s.a1) (next x.pc) s.core)) g ≡ hart_at c g) [
        | true ↦ other-set s.core.harts _ e
        | false ↦ other-set s.core.harts _ e
      ]

  other-served : (r : Reads) (x : Hart) (call : Call) → hart_at (served r c h x call).core g ≡ hart_at c g
  other-served r x call = other-done x (serve r c call)
      (served-walk r c call (λ (e : Core). e.harts ≡ c.harts) (harts-leaves r c call))

  other-asked : (r : Reads) (x : Hart) (call : Call) (b : Bool) → hart_at (asked r c h x call b).core g ≡ hart_at c g
  other-asked r x call true = other-served r x call
  other-asked r x call false = other-set c.harts _ refl

  other-given_up : (e : Core) (x : Hart) (cause : ℕ) (o : Option Frame) → e.harts ≡ c.harts →
      hart_at (given_up e h x cause o) g ≡ hart_at c g
  other-given_up e x cause None k = other-set e.harts _ k
  other-given_up e x cause (Some frame) k = other-set e.harts _ k

  other-acted : (r : Reads) (x : Hart) (a : Action) → hart_at (acted r c h x a).core g ≡ hart_at c g
  other-acted r x Rests = refl
  other-acted r x Waits = refl
  other-acted r x (Serves call) = other-served r x call
  other-acted r x (Asks call) = other-asked r x call (is_served_now c h call)
  other-acted r x (Traps cause value) =
      other-given_up (killed x.domain cause c) x cause (top x.frames) (harts-killed x.domain cause c)
  other-acted r x Bounces = other-set c.harts _ refl
  other-acted r x (Crosses target) = other-set c.harts _ refl
  other-acted r x (Returns rd frame) = other-set c.harts _ refl
  other-acted r x (Runs regs pc) = other-set c.harts _ refl
  other-acted r x (Writes address size value) = other-set c.harts _ refl

-- harts, caches and the number of turns don't decide what a call touches
touched-apart : (k : Service) (c : Core) (turns : ℕ) (harts : List Hart) (caches : List Cache) (call : Call) →
    touched_by k (apart c turns harts caches) call ≡ touched_by k c call
touched-apart Grant c turns harts caches call = refl
touched-apart RevokeAll c turns harts caches call = refl
touched-apart Alloc c turns harts caches call = refl
touched-apart Free c turns harts caches call = refl
touched-apart AddGate c turns harts caches call = refl
touched-apart RemoveGate c turns harts caches call = refl
touched-apart AddReturnGate c turns harts caches call = refl
touched-apart Exchange c turns harts caches call = refl
touched-apart other c turns harts caches call = refl

-- an action of hart h in a valid state, done in a state with other harts, caches and another number of turns
module _ (r : Reads) (c : Core) (h : ℕ) (v : IsValid c) (l : h < length c.harts) (turns : ℕ) (harts : List Hart) (caches : List Cache) where
  abbrev seen : Core
  seen = apart c turns harts caches

  abbrev own : Hart
  own = hart_at c h

  abbrev call : Call
  call = call_of h own

  abbrev IsFineMade : Touched → Made → Type 0
  IsFineMade t m = IsFine t c m.core own.domain m.change

  fine-done : (t : Touched) (s : Served) → IsFine t c s.core own.domain s.change → IsFineMade t (done h own s)
  fine-done t s p =
      elim s.stop as
      (λ b. IsFine t c (cond b (halted h own (Some s.a0) s.core) (with_regs h own (answered own s.a0 s.a1) (next own.pc) s.core))
      own.domain s.change) [
        | true ↦ fine-moved t c s.core (halted h own (Some s.a0) s.core) own.domain s.change refl refl refl p
        | false ↦ fine-moved t c s.core (with_regs h own (answered own s.a0 s.a1) (next own.pc) s.core) own.domain s.change refl refl refl p
      ]

  fine-call : IsFineMade (called_at c h) (served r seen h own call)
  fine-call =
      let s = serve r seen call in
      let p = subst (λ (t : Touched). IsFine t seen s.core own.domain s.change)
      (touched-apart (service call.number) c turns harts caches call)
      (fine-serve r seen call (length c.harts) v.ram_count (home-at c own.domain v)) in
      fine-done (called_at c h) s
      (record { bytes = p.bytes; gates = p.gates; death = p.death; deaths = p.deaths; change = p.change })

  fine-served : (mine : Call) → mine ≡ call → IsFineMade (called_at c h) (served r seen h own mine)
  fine-served mine e =
      subst (λ (k : Call). IsFineMade (called_at c h) (served r seen h own k)) (sym e) fine-call

  abbrev told : Made → Touched
  told m = touched_in m.kind (stored_at r c h) (called_at c h)

  fine-asked : (mine : Call) (b : Bool) → mine ≡ call →
      IsFineMade (told (asked r seen h own mine b)) (asked r seen h own mine b)
  fine-asked mine true e = fine-served mine e
  fine-asked mine false e = fine-none (called_at c h) c (asked r seen h own mine false).core own.domain refl refl refl

  abbrev dying : Touched
  dying = record untouched { death = true }

  fine-killed : (cause : ℕ) → IsFine dying c (killed own.domain cause seen) own.domain None
  fine-killed cause =
      elim ((module_at c own.domain).kills && not (cause == 20)) as
      (λ b. IsFine dying c
      (cond b (with_module own.domain (record (module_at seen own.domain) { dead = true }) seen) seen) own.domain None) [
        | true ↦ record {
          bytes = λ w p k i. refl;
          gates = λ g w p. refl;
          death = λ p. absurd (let q : ⊥ = cc in q);
          deaths = λ g i n.
              let first = (v.harts h l).domain.first in
              let apart : (g - 1) ≢ (own.domain - 1) = λ e. n (omega (arith, e, i, first)) in
              ap (λ (m : Module). m.dead)
              (get_or-set_other c.modules (own.domain - 1) (g - 1) (record (module_at c own.domain) { dead = true }) no_module apart);
          change = λ w p. tt;
        }
        | false ↦ fine-none dying c seen own.domain refl refl refl
      ]

  fine-given_up : (e : Core) (cause : ℕ) (o : Option Frame) → IsFine dying c e own.domain None →
      IsFine dying c (given_up e h own cause o) own.domain None
  fine-given_up e cause None p = fine-moved dying c e (given_up e h own cause None) own.domain None refl refl refl p
  fine-given_up e cause (Some frame) p =
      fine-moved dying c e (given_up e h own cause (Some frame)) own.domain None refl refl refl p

  -- a store at the word that is told
  fine-written : (address size value : ℕ) → IsSize size → address % size ≡ 0 → is_denied r c own.domain address A.Write ≡ false →
      stored_at r c h ≡ word_area address c.size →
      (let m = acted r seen h own (Writes address size value) in IsFineMade (told m) m)
  fine-written address size value s a n e =
      let may = allowed-if r c own.domain address A.Write n in
      let word = (address - ram_base) / 4 in
      let offset = (address - ram_base) % 4 in
      let place : 4 * word + offset ≡ address - ram_base = omega arith in
      let area : stored_at r c h ≡ record { first = word; count = 1 } = e ∙ area-word address c.size may.low may.high in
      let after = (acted r seen h own (Writes address size value)).core in
      record {
        bytes = λ w p.
            kept-store c after word offset size value w (in-word size address s a may.low)
            (ap (λ (k : ℕ). put_at c.ram k size value) (sym place)) (not-word (stored_at r c h) word w area p);
        gates = λ g w p. refl;
        death = λ p g. refl;
        deaths = λ g i p. refl;
        change = λ w p. tt;
      }

  fine-acted : (a : Action) → IsLawful (OwnCall h own) r c h own a → StoresIn (stored_at r c h) c.size a →
      IsFineMade (told (acted r seen h own a)) (acted r seen h own a)
  fine-acted Rests p s = fine-none untouched c seen own.domain refl refl refl
  fine-acted Waits p s = fine-none untouched c seen own.domain refl refl refl
  fine-acted (Serves mine) p s = fine-served mine p
  fine-acted (Asks mine) p s = fine-asked mine (is_served_now seen h mine) p
  fine-acted (Traps cause value) p s = fine-given_up (killed own.domain cause seen) cause (top own.frames) (fine-killed cause)
  fine-acted Bounces p s = fine-none untouched c (acted r seen h own Bounces).core own.domain refl refl refl
  fine-acted (Crosses target) p s =
      fine-none untouched c (acted r seen h own (Crosses target)).core own.domain refl refl refl
  fine-acted (Returns rd frame) p s =
      fine-none untouched c (acted r seen h own (Returns rd frame)).core own.domain refl refl refl
  fine-acted (Runs regs pc) p s =
      fine-none (told (acted r seen h own (Runs regs pc))) c (acted r seen h own (Runs regs pc)).core own.domain refl refl refl
  fine-acted (Writes address size value) p s = fine-written address size value p.0 p.1 p.2 s

-- what a turn of hart h makes: what it touches, and the other harts
record IsLeft (r : Reads) (c : Core) (h : ℕ) (m : Made) : Type 0 where
  fine : IsFine (touched_in m.kind (stored_at r c h) (called_at c h)) c m.core (domain_at c h) m.change
  others : (g : ℕ) → g ≢ h → AreSameHarts (hart_at c g) (hart_at m.core g)

same-alike : (x y : Hart) → IsAlike x y → AreSameHarts x y
same-alike x y a = record { standing = a.standing; pc = a.pc; regs = a.regs; domain = a.domain }

left-turned : (r : Reads) (c : Core) (h : ℕ) → IsValid c → IsLeft r c h (turned r c h)
left-turned r c h v =
    let t = by-action r c h in
    let x = hart_at c h in
    let a = (by_status r (apart c t.turns t.harts t.before) h x x.status).action in
    let after = apart c t.turns t.harts t.after in
    subst (IsLeft r c h) (sym t.is) (record {
      fine = ⊎_elim
          (λ e. subst (λ (b : Action). IsFine (touched_in (acted r after h x b).kind (stored_at r c h) (called_at c h)) c
          (acted r after h x b).core (domain_at c h) (acted r after h x b).change) (sym e)
          (fine-none untouched c after (domain_at c h) refl refl refl))
          (λ l. fine-acted r c h v l t.turns t.harts t.after a (lawful-turn r c h t.turns t.harts t.before v)
          (stores-decided r c h t.turns t.harts t.before))
          (present r c h t.turns t.harts t.before);
      others = λ g n.
          subst (AreSameHarts (hart_at c g)) (sym (other-acted after h g n r x a))
          (same-alike (hart_at c g) (hart_at after g) (t.heard.others g));
    })

pub leaves-rest : (r : Reads) (c : Core) (h : ℕ) → IsValid c → LeavesRest (touched r c h) c (core_after r c h) h
leaves-rest r c h v =
    let p = left-turned r c h v in
    record {
      bytes = p.fine.bytes;
      gates = p.fine.gates;
      death = p.fine.death;
      deaths = p.fine.deaths;
      harts = p.others;
    }

-- maps beside a change
beside-maps : (size : ℕ) (maps : List (List Perm)) (o : Option Change) (d w : ℕ) → IsBeside o w →
    perm_at (map_in size (maps_after maps o) d) w ≡ perm_at (map_in size maps d) w
beside-maps size maps None d w p = refl
beside-maps size maps (Some change) d w p =
    beside-from change.first change.count change.given 1 (d - 1) maps (map [] size) w (outside change.first change.count w p)

rights-flat : (f : Flat) (h : ℕ) → IsValid f.core →
    LeavesRights (touched (flat_reads f) f.core h) (flat_reads f) (flat_reads (flat_turn f h))
rights-flat f h v = record {
  rights = λ d w p.
      let m = flat_made f h in
      ap (λ (n : ℕ). perm_at (map_in n (maps_after f.maps m.change) d) w) (size-turned (flat_reads f) f.core h)
      ∙ beside-maps f.core.size f.maps m.change d w ((left-turned (flat_reads f) f.core h v).fine.change w p);
}

pub leaves-flat : (f : Flat) (h : ℕ) → IsValid f.core → flat_leaves_all f h
leaves-flat f h v = record { rest = leaves-rest (flat_reads f) f.core h v; rights = rights-flat f h v }

-- a state answers as its flat state does
pub leaves-state : (s : State) (h : ℕ) → IsValid s.core → leaves_all s h
leaves-state s h v = record {
  rest = leaves-rest (reads s) s.core h v;
  rights = record {
    rights = λ d w p.
        ap (λ (r : Reads). r.perm d w) (reads-flat (turn s h))
        ∙ ap (λ (f : Flat). (flat_reads f).perm d w) (flat-turn s h)
        ∙ (rights-flat (flat s) h v).rights d w
        (subst (λ (r : Reads). is_among (touched r s.core h).rights w ≡ false) (reads-flat s) p)
        ∙ sym (ap (λ (r : Reads). r.perm d w) (reads-flat s));
  };
}

-- what is touched lies in RAM
word-inside : (address size : ℕ) → (word_area address size).first + (word_area address size).count ≤ size
word-inside address size =
    elim (in_ram address size) as
    (λ b. in_ram address size ≡ b → (area_by (cond {A = Option ℕ} b (Some ((address - ram_base) / 4)) None)).first
    + (area_by (cond {A = Option ℕ} b (Some ((address - ram_base) / 4)) None)).count ≤ size) [
      | true ↦ λ e.
          let high = ltb-true (address - ram_base) (4 * size)
          (and_parts (nat_le ram_base address) (nat_lt (address - ram_base) (4 * size)) e).1 in
          omega (arith, high)
      | false ↦ λ e. omega arith
    ] refl

aligned-base : (address : ℕ) → ram_base ≤ address → (address % 4 == 0) ≡ true → (address - ram_base) % 4 ≡ 0
aligned-base address low e = let a : address % 4 ≡ 0 = eqb-true (address % 4) 0 e in omega (arith, a, low)

range-fits : (first bytes size : ℕ) → first + bytes ≤ 4 * size → first % 4 ≡ 0 → first / 4 + (bytes + 3) / 4 ≤ size
range-fits first bytes size l a = omega (arith, l, a)

abbrev words_by : ℕ → ℕ → Bool → ℕ × ℕ
words_by address bytes b =
    unwrap_or (cond {A = Option (ℕ × ℕ)} b (Some ((address - ram_base) / 4, (bytes + 3) / 4)) None) (0, 0)

range-inside : (address bytes size : ℕ) →
    (range_words address bytes size).0 + (range_words address bytes size).1 ≤ size
range-inside address bytes size =
    elim (is_range address bytes size) as
    (λ b. is_range address bytes size ≡ b → (words_by address bytes b).0 + (words_by address bytes b).1 ≤ size) [
      | true ↦ λ e.
          let all = and_parts (nat_lt 0 bytes && (address % 4 == 0) && nat_le ram_base address)
          (nat_le (address + bytes) (ram_base + 4 * size)) e in
          let some = and_parts (nat_lt 0 bytes && (address % 4 == 0)) (nat_le ram_base address) all.0 in
          let low = leb-true ram_base address some.1 in
          let high = leb-true (address + bytes) (ram_base + 4 * size) all.1 in
          range-fits (address - ram_base) bytes size (omega (arith, low, high))
          (aligned-base address low (and_parts (nat_lt 0 bytes) (address % 4 == 0) some.0).1)
      | false ↦ λ e. omega arith
    ] refl

stored-inside : (c : Core) (x : Hart) (o : Option Inst) →
    (option_map_or (stored_by c x) o no_words).first + (option_map_or (stored_by c x) o no_words).count ≤ c.size
stored-inside c x None = omega arith
stored-inside c x (Some (Store width rs1 rs2 imm)) = word-inside (plus (reg x.regs rs1) imm) c.size
stored-inside c x (Some inst) = omega arith

heap-inside : (c : Core) (d : ℕ) → IsValid c → (module_at c d).heap.first + (module_at c d).heap.count ≤ c.size
heap-inside c d v = (home-at c d v).heap

called-inside : (k : Service) (c : Core) (call : Call) → IsValid c → AreIn c.size (touched_by k c call)
called-inside Grant c call v =
    record { bytes = omega arith; rights = range-inside (arg call 0) (arg call 1) c.size; gates = omega arith }
called-inside RevokeAll c call v =
    record { bytes = omega arith; rights = range-inside (arg call 0) (arg call 1) c.size; gates = omega arith }
called-inside Alloc c call v =
    record { bytes = heap-inside c call.domain v; rights = heap-inside c call.domain v; gates = omega arith }
called-inside Free c call v = record { bytes = omega arith; rights = heap-inside c call.domain v; gates = omega arith }
called-inside AddGate c call v =
    record { bytes = omega arith; rights = omega arith; gates = word-inside (arg call 0) c.size }
called-inside RemoveGate c call v =
    record { bytes = omega arith; rights = omega arith; gates = word-inside (arg call 0) c.size }
called-inside AddReturnGate c call v =
    record { bytes = omega arith; rights = omega arith; gates = word-inside (arg call 0) c.size }
called-inside Exchange c call v =
    record { bytes = word-inside (arg call 0) c.size; rights = omega arith; gates = omega arith }
called-inside other c call v = record { bytes = omega arith; rights = omega arith; gates = omega arith }

none-inside : (size : ℕ) (b : Bool) → AreIn size (record untouched { death = b })
none-inside size b = record { bytes = omega arith; rights = omega arith; gates = omega arith }

pub touched-inside : (kind : TurnKind) (r : Reads) (c : Core) (h : ℕ) → IsValid c → AreIn c.size (touched_as kind r c h)
touched-inside T.Ran r c h v =
    record { bytes = stored-inside c (hart_at c h) _; rights = omega arith; gates = omega arith }
touched-inside T.Trapped r c h v = none-inside c.size true
touched-inside T.Called r c h v = called-inside (service (reg (hart_at c h).regs 17)) c (call_of h (hart_at c h)) v
touched-inside kind r c h v = none-inside c.size false
