-- A turn keeps inside a closed set of domains, and spares a word that no domain of the set owns or may write.
use Rattle.std.proofs.Common.{◌≡◌, ℕ, ◌+◌, ◌-◌, ◌*◌, ◌/◌, ◌<◌, ◌≤◌, Bool, true, false, not, cond, nat_lt, nat_le, ◌==◌, ◌&&◌, List, [], ◌∷◌}
use Rattle.std.proofs.Common.{length, refl, sym, subst, if◌then◌else◌, Option, Some, None}
use Rattle.std.proofs.Common.{map as list_map}
use Rattle.std.proofs.Math.ListN.{get_or-eq_default}
use Rattle.std.specs.Prelude.{IfSome, slice_set}
use Rattle.std.specs.Option.{option_map_or}
use Rattle.std.specs.List.{AllByRecursion, enumerate_from}
use Rattle.std.proofs.lemmas.Bool.{ltb-true, ltb-false, leb-true, and_parts}
use Rattle.mx_words.specs.declared.perm.Perm.TheVariants as P
use Rattle.mx_words.specs.declared.perm.Access.TheVariants as A
use Rattle.mx_words.specs.Bytes.{put_at}
use Rattle.mx_words.specs.Caches.{Cache}
use Rattle.mx_words.specs.Newest.{Give}
use Rattle.mx_words.specs.Ranges.{ram_base, in_ram}
use Rattle.mx_words.specs.Rights.{allows}
use Rattle.mx_model.specs.declared.values.Call.{Call}
use Rattle.mx_model.specs.declared.values.Frame.{Frame}
use Rattle.mx_model.specs.Checks.{hears, heard_by, is_halted, looked_all}
use Rattle.mx_model.specs.Effect.{written, next}
use Rattle.mx_model.specs.Gates.{top}
use Rattle.mx_model.specs.Reads.{Reads, Change}
use Rattle.mx_model.specs.Serve.{Served, serve}
use Rattle.mx_model.specs.State.{Core, Hart, Module, no_hart, no_module, hart_at, with_hart, with_cache, with_module, module_at}
use Rattle.mx_model.specs.Turn.{Action, Rests, Waits, Serves, Asks, Traps, Bounces, Crosses, Returns, Runs, Writes, Decided, Made}
use Rattle.mx_model.specs.Turn.{is_denied, acted, asked, served, done, trapped, given_up, killed, over_frame, enacted, decide, by_status}
use Rattle.mx_model.specs.Turn.{counted, turned, is_served_now, fault_answer}
use Rattle.mx_model.specs.Valid.{IsValid}
use Rattle.mx_model.proofs.SetLaws.{part-set}
use Rattle.mx_model.proofs.ListLaws.{all-append, all-in, all-last, all-set, all-take}
use Rattle.mx_model.proofs.TurnLaws.{valid-heard_first}
use Rattle.mx_model.proofs.ValidParts.{valid-turns, valid-looked_all, hearing}
use Rattle.mx_model.proofs.TurnCases.{looked_all-caches}
use Rattle.mx_audit.proofs.ActionLaws.{IsInside, IsStore, inside-decide}
use Rattle.mx_audit.proofs.ByteLaws.{put-outside, store-outside}
use Rattle.mx_audit.proofs.CallLaws.{Stands, IsSpared, Keeps, keeps-core, keeps-serve, other-word}
use Rattle.mx_audit.proofs.LiveLaws.{IsHome, IsClosed}

-- a core with one hart, or one hart's caches changed
keeps-hart : (L : ℕ → Type 0) (w : ℕ) (ram : List ℕ) (modules : List Module) (e : Core) (change : Option Change) (give : Option Give)
    (h : ℕ) (hart : Hart) →
    Keeps L w ram modules e change give → IsHome L hart → Keeps L w ram modules (with_hart h hart e) change give
keeps-hart L w ram modules e change give h hart p q = record {
  closed = record { harts = all-set (IsHome L) e.harts h hart p.closed.harts q; gates = p.closed.gates };
  bytes = p.bytes;
  heaps = p.heaps;
  rights = p.rights;
  owner = p.owner;
  owners = p.owners;
}

keeps-cache : (L : ℕ → Type 0) (w : ℕ) (ram : List ℕ) (modules : List Module) (e : Core) (h : ℕ) (cache : Cache) →
    Keeps L w ram modules e None None → Keeps L w ram modules (with_cache h cache e) None None
keeps-cache L w ram modules e h cache p = record {
  closed = record { harts = p.closed.harts; gates = p.closed.gates };
  bytes = p.bytes;
  heaps = p.heaps;
  rights = tt;
  owner = tt;
  owners = λ d v m k. tt;
}

-- a served call, in its hart
keeps-done : (L : ℕ → Type 0) (w : ℕ) (ram : List ℕ) (modules : List Module) (h : ℕ) (hart : Hart) (s : Served)
    → Keeps L w ram modules s.core s.change s.give → IsHome L hart →
    Keeps L w ram modules (done h hart s).core s.change s.give
keeps-done L w ram modules h hart s p q = elim s.stop as (λ b.
    Keeps L w ram modules (done h hart (record s { stop = b })).core s.change s.give) [
      | true ↦ keeps-hart L w ram modules s.core s.change s.give h _ p q
      | false ↦ keeps-hart L w ram modules s.core s.change s.give h _ p q
    ]

abbrev KeepsMade : (ℕ → Type 0) → ℕ → Core → Made → Type 0
KeepsMade L w c m = Keeps L w c.ram c.modules m.core m.change m.give

keeps-served : (L : ℕ → Type 0) (w : ℕ) (r : Reads) (c : Core) (h : ℕ) (hart : Hart) (call : Call) → Stands L r c → IsSpared L r w
    → IsHome L hart → L call.domain →
    KeepsMade L w c (served r c h hart call)
keeps-served L w r c h hart call s sp p l = keeps-done L w c.ram c.modules h hart (serve r c call) (keeps-serve L w r c call s sp l) p

keeps-asked : (L : ℕ → Type 0) (w : ℕ) (r : Reads) (c : Core) (h : ℕ) (hart : Hart) (call : Call) (b : Bool) → Stands L r c → IsSpared L r w
    → IsHome L hart → L call.domain →
    KeepsMade L w c (asked r c h hart call b)
keeps-asked L w r c h hart call true s sp p l = keeps-served L w r c h hart call s sp p l
keeps-asked L w r c h hart call false s sp p l = keeps-hart L w c.ram c.modules c None None h _ (keeps-core L w c s.closed) p

-- the top frame given up
keeps-over : (L : ℕ → Type 0) (w : ℕ) (ram : List ℕ) (modules : List Module) (e : Core) (h : ℕ) (hart : Hart) (frame : Frame)
    (regs : List ℕ) →
    Keeps L w ram modules e None None → IsHome L hart → L frame.caller → Keeps L w ram modules (over_frame e h hart frame regs) None None
keeps-over L w ram modules e h hart frame regs p q l =
    keeps-cache L w ram modules _ h _ (keeps-hart L w ram modules e None None h _ p
    (l, all-take (λ (f : Frame). L f.caller) (length hart.frames - 1) hart.frames q.1))

-- a fault
keeps-killed : (L : ℕ → Type 0) (w d cause : ℕ) (c : Core) → IsClosed L c → Keeps L w c.ram c.modules (killed d cause c) None None
keeps-killed L w d cause c p = elim ((module_at c d).kills && not (cause == 20)) as
    (λ b. Keeps L w c.ram c.modules (cond b (with_module d (record (module_at c d) { dead = true }) c) c) None None) [
      | true ↦ record {
        closed = record { harts = p.harts; gates = p.gates };
        bytes = λ k l. refl;
        heaps = λ e. part-set (λ (m : Module). m.heap) c.modules (d - 1) (e - 1) _ no_module refl;
        rights = tt;
        owner = tt;
        owners = λ e v m k. tt;
      }
      | false ↦ keeps-core L w c p
    ]

keeps-given_up : (L : ℕ → Type 0) (w : ℕ) (ram : List ℕ) (modules : List Module) (e : Core) (h : ℕ) (hart : Hart) (cause : ℕ)
    (o : Option Frame) →
    Keeps L w ram modules e None None → IsHome L hart → IfSome o (λ f. L f.caller)
    → Keeps L w ram modules (given_up e h hart cause o) None None
keeps-given_up L w ram modules e h hart cause None p q l = keeps-hart L w ram modules e None None h _ p q
keeps-given_up L w ram modules e h hart cause (Some frame) p q l =
    keeps-over L w ram modules e h hart frame (slice_set hart.regs 10 (fault_answer cause)) p q l

keeps-trapped : (L : ℕ → Type 0) (w : ℕ) (c : Core) (h : ℕ) (hart : Hart) (cause value : ℕ) → IsClosed L c → IsHome L hart
    → KeepsMade L w c (trapped c h hart cause value)
keeps-trapped L w c h hart cause value p q =
    keeps-given_up L w c.ram c.modules (killed hart.domain cause c) h hart cause (top hart.frames) (keeps-killed L w hart.domain cause c p)
    q
    (all-last (λ (f : Frame). L f.caller) hart.frames None q.1 tt)

-- a store that isn't denied is to a word of RAM with read-write
store-word : (r : Reads) (c : Core) (d address : ℕ) → is_denied r c d address A.Write ≡ false →
    (ram_base ≤ address) × (allows (r.perm d ((address - ram_base) / 4)) A.Write ≡ true)
store-word r c d address e = elim (in_ram address c.size) as
    (λ b. in_ram address c.size ≡ b → not (allows (option_map_or (r.perm d) (if b then Some ((address - ram_base) / 4) else None) P.None)
    A.Write) ≡ false →
    (ram_base ≤ address) × (allows (r.perm d ((address - ram_base) / 4)) A.Write ≡ true)) [
      | true ↦ λ t f. (
        leb-true ram_base address (and_parts (nat_le ram_base address) (nat_lt (address - ram_base) (4 * c.size)) t).0,
        not-false _ f,
      )
      | false ↦ λ t f. absurd (let q : ⊥ = cc in q)
    ] refl e
  where
    not-false : (b : Bool) → not b ≡ false → b ≡ true
    not-false true p = refl
    not-false false p = sym p

keeps-store : (L : ℕ → Type 0) (w : ℕ) (r : Reads) (c : Core) (d address size value : ℕ) → IsClosed L c → IsSpared L r w → L d
    → IsStore r c d address size →
    Keeps L w c.ram c.modules (record c { ram = put_at c.ram (address - ram_base) size value }) None None
keeps-store L w r c d address size value p sp l st =
    let q = store-word r c d address st.0 in
    let other = other-word L r w d ((address - ram_base) / 4) sp l q.1 in
    record {
      closed = record { harts = p.harts; gates = p.gates };
      bytes = λ k b. put-outside size c.ram (address - ram_base) value (4 * w + k) (store-outside size address w k st.1 st.2 q.0 other b);
      heaps = λ e. refl;
      rights = tt;
      owner = tt;
      owners = λ e v m k. tt;
    }

-- an action
keeps-acted : (L : ℕ → Type 0) (w : ℕ) (r : Reads) (c : Core) (h : ℕ) (hart : Hart) (action : Action) → Stands L r c → IsSpared L r w
    → IsHome L hart →
    IsInside L r c hart action → KeepsMade L w c (acted r c h hart action)
keeps-acted L w r c h hart Rests s sp p i = keeps-core L w c s.closed
keeps-acted L w r c h hart Waits s sp p i = keeps-core L w c s.closed
keeps-acted L w r c h hart (Serves call) s sp p i = keeps-served L w r c h hart call s sp p i
keeps-acted L w r c h hart (Asks call) s sp p i = keeps-asked L w r c h hart call (is_served_now c h call) s sp p i
keeps-acted L w r c h hart (Traps cause value) s sp p i = keeps-trapped L w c h hart cause value s.closed p
keeps-acted L w r c h hart Bounces s sp p i = keeps-hart L w c.ram c.modules c None None h _ (keeps-core L w c s.closed) p
keeps-acted L w r c h hart (Crosses target) s sp p i =
    keeps-cache L w c.ram c.modules _ h _ (keeps-hart L w c.ram c.modules c None None h _ (keeps-core L w c s.closed)
    (i, all-append (λ (f : Frame). L f.caller) hart.frames _ p.1 p.0))
keeps-acted L w r c h hart (Returns rd frame) s sp p i =
    keeps-over L w c.ram c.modules c h hart frame (written hart.regs rd (next hart.pc)) (keeps-core L w c s.closed) p i
keeps-acted L w r c h hart (Runs regs pc) s sp p i = keeps-hart L w c.ram c.modules c None None h _ (keeps-core L w c s.closed) p
keeps-acted L w r c h hart (Writes address size value) s sp p i =
    keeps-hart L w c.ram c.modules _ None None h _ (keeps-store L w r c hart.domain address size value s.closed sp p.0 i) p

-- after its looks
keeps-behind : (L : ℕ → Type 0) (w : ℕ) (r : Reads) (c : Core) (h : ℕ) (hart : Hart) (d : Decided) → Stands L r c → IsSpared L r w
    → IsHome L hart →
    IsInside L r c hart d.action → KeepsMade L w c (acted r (looked_all r h d.looks c) h hart d.action)
keeps-behind L w r c h hart d s sp p i =
    let seen = record c { caches = (looked_all r h d.looks c).caches } in
    let e = looked_all-caches r h d.looks c in
    let t : Stands L r seen = record {
      valid = subst IsValid e (valid-looked_all r h d.looks c s.valid);
      heaps = s.heaps;
      closed = record { harts = s.closed.harts; gates = s.closed.gates };
      modules = s.modules;
    } in
    subst (λ (x : Core). KeepsMade L w c (acted r x h hart d.action)) (sym e) (keeps-acted L w r seen h hart d.action t sp p i)

-- a hart that there is, and one that isn't
abbrev enacted_by : Reads → Core → ℕ → Hart → Made
enacted_by r c h hart = let d = by_status r c h hart hart.status in acted r (looked_all r h d.looks c) h hart d.action

keeps-there : (L : ℕ → Type 0) (w : ℕ) (r : Reads) (c : Core) (h : ℕ) → Stands L r c → IsSpared L r w → h < length c.harts
    → KeepsMade L w c (enacted r c h (decide r c h))
keeps-there L w r c h s sp l =
    let p = all-in (IsHome L) c.harts no_hart s.closed.harts h l in
    keeps-behind L w r c h (hart_at c h) (decide r c h) s sp p (inside-decide L r c h p s.closed.gates (s.valid.harts h l).status)

keeps-nobody : (L : ℕ → Type 0) (w : ℕ) (r : Reads) (c : Core) (h : ℕ) (hart : Hart) → hart ≡ no_hart → IsClosed L c
    → KeepsMade L w c (enacted_by r c h hart)
keeps-nobody L w r c h hart e p = subst (λ (x : Hart). KeepsMade L w c (enacted_by r c h x)) (sym e) (keeps-core L w c p)

keeps-enacted : (L : ℕ → Type 0) (w : ℕ) (r : Reads) (c : Core) (h : ℕ) → Stands L r c → IsSpared L r w
    → KeepsMade L w c (enacted r c h (decide r c h))
keeps-enacted L w r c h s sp = elim (nat_lt h (length c.harts)) as (λ b. nat_lt h (length c.harts) ≡ b
    → KeepsMade L w c (enacted r c h (decide r c h))) [
      | true ↦ λ e. keeps-there L w r c h s sp (ltb-true h (length c.harts) e)
      | false ↦ λ e. keeps-nobody L w r c h (hart_at c h) (get_or-eq_default c.harts no_hart (ltb-false h (length c.harts) e)) s.closed
    ] refl

-- hearing
home-hearing : (L : ℕ → Type 0) (i h : ℕ) (hart : Hart) → IsHome L hart → IsHome L (hearing h (i, hart))
home-hearing L i h hart p = elim (i == h) as (λ b. IsHome L (cond b hart (record hart { status = heard_by h hart.status }))) [
  | true ↦ p
  | false ↦ p
]

homes-hearing : (L : ℕ → Type 0) (i h : ℕ) (hs : List Hart) → AllByRecursion (IsHome L) hs
    → AllByRecursion (IsHome L) (list_map (hearing h) (enumerate_from i hs))
homes-hearing L i h [] p = tt
homes-hearing L i h (x ∷ xs) p = (home-hearing L i h x p.0, homes-hearing L (i + 1) h xs p.1)

stands-hears : (L : ℕ → Type 0) (r : Reads) (h : ℕ) (c : Core) → Stands L r c → IsValid (hears h c) → Stands L r (hears h c)
stands-hears L r h c s v = record {
  valid = v;
  heaps = s.heaps;
  closed = record { harts = homes-hearing L 0 h c.harts s.closed.harts; gates = s.closed.gates };
  modules = s.modules;
}

stands-counted : (L : ℕ → Type 0) (r : Reads) (c : Core) → Stands L r c → Stands L r (counted c)
stands-counted L r c s = record {
  valid = valid-turns c (c.turns + 1) s.valid;
  heaps = s.heaps;
  closed = record { harts = s.closed.harts; gates = s.closed.gates };
  modules = s.modules;
}

-- a turn
pub keeps-turned : (L : ℕ → Type 0) (w : ℕ) (r : Reads) (c : Core) (h : ℕ) → Stands L r c → IsSpared L r w →
    Keeps L w c.ram c.modules (turned r c h).core (turned r c h).change (turned r c h).give
keeps-turned L w r c h s sp =
    let t = stands-counted L r c s in
    elim (is_halted (hart_at (counted c) h).status) as
    (λ b. IsValid (if b then counted c else hears h (counted c)) →
    KeepsMade L w c (let ready = (if b then counted c else hears h (counted c)) in enacted r ready h (decide r ready h))) [
      | true ↦ λ v. keeps-enacted L w r (counted c) h t sp
      | false ↦ λ v. keeps-enacted L w r (hears h (counted c)) h (stands-hears L r h (counted c) t v) sp
    ] (valid-heard_first (counted c) h t.valid)
