-- A turn keeps each word that its hart's domain may write neither before it nor after it.
use Rattle.std.proofs.Common.{◌≡◌, ℕ, ◌+◌, ◌*◌, ◌<◌, ◌≤◌, ◌⊎◌, Bool, true, false, not, ◌==◌, ◌&&◌, nat_le, List, [], ◌∷◌, length, get_or}
use Rattle.std.proofs.Common.{refl, sym, ◌∙◌, ap, subst, arith, Option, Some, None, unwrap_or, is_none, ⊎_elim, inl, inr}
use Rattle.std.specs.List.{range_with_len}
use Rattle.std.proofs.lemmas.Bool.{and_parts, leb-true, ltb-false, ltb-true}
use Rattle.std.proofs.Math.ListN.{get_or-eq_default}
use Rattle.mx_words.specs.Caches.{Cache}
use Rattle.mx_words.specs.FirstFit.{Area, has_room, most_blocks, with_block}
use Rattle.mx_words.specs.FirstRow.{Row, first_row}
use Rattle.mx_words.specs.Ranges.{covers}
use Rattle.mx_words.proofs.OverlayLaws.{covers_from}
use Rattle.mx_model.specs.declared.values.Call.{Call}
use Rattle.mx_model.specs.Checks.{arg}
use Rattle.mx_model.specs.Gates.{top}
use Rattle.mx_model.specs.Reads.{Reads, Change}
use Rattle.mx_model.specs.Serve.{Alloc, Served, Service, alloc_change, alloc_from, alloc_place, allocated, change_of, ended, own_alone}
use Rattle.mx_model.specs.Serve.{serve, serve_alloc, served_by, service}
use Rattle.mx_model.specs.State.{Core, Hart, hart_at, module_at}
use Rattle.mx_model.specs.Turn.{Action, Rests, Waits, Serves, Asks, Traps, Bounces, Crosses, Returns, Runs, Writes, acted, asked, call_of}
use Rattle.mx_model.specs.Turn.{done, is_served_now, killed, served, trapped, turned}
use Rattle.mx_model.specs.Valid.{IsModule, IsValid}
use Rattle.mx_model.proofs.ListLaws.{found-passes, length-with_block}
use Rattle.mx_model.proofs.TestLaws.{first-passes, found-some}
use Rattle.mx_model.proofs.ValidParts.{home-at}
use Rattle.mx_laws.specs.After.{domain_at}
use Rattle.mx_laws.specs.Foreign.{AllButBlock, AllKept, ForeignAfter, IsForeign, IsKept, TakesBlock, heap_of}
use Rattle.mx_laws.proofs.ForeignLaws.{cleared-beside, foreign-turned, kept-ram, ram-given_up, ram-killed, uncovered}
use Rattle.mx_laws.proofs.Lawful.{IsLawful, OwnCall, lawful-turn}
use Rattle.mx_laws.proofs.TurnParts.{apart, by-action}

-- a change gives a domain read-write on a word of RAM
pub record IsGiven (c : Core) (d w : ℕ) (o : Option Change) : Type 0 where
  pub first : ℕ
  pub count : ℕ
  pub change : o ≡ Some (change_of (first, count) (own_alone d))
  pub low : first ≤ w
  pub high : w < first + count
  pub inside : first + count ≤ c.size

-- a word is kept, or given
abbrev pub IsKeptOrGiven : Core → ℕ → ℕ → Core → Option Change → Type 0
IsKeptOrGiven c d w e o = (IsKept c e w) ⊎ IsGiven c d w o

moved : (c : Core) (d w : ℕ) (e f : Core) (o : Option Change) → f.ram ≡ e.ram → IsKeptOrGiven c d w e o →
    IsKeptOrGiven c d w f o
moved c d w e f o n p =
    ⊎_elim (λ q. inl (λ k l. ap (λ (xs : List ℕ). get_or xs (4 * w + k) 0) n ∙ q k l)) (λ q. inr q) p

-- an alloc of hart h, served in a state with other harts and caches
module _ (r : Reads) (c : Core) (h w : ℕ) (v : IsValid c) (turns : ℕ) (harts : List Hart) (caches : List Cache) where
  abbrev seen : Core
  seen = apart c turns harts caches

  abbrev call : Call
  call = call_of h (hart_at c h)

  abbrev domain : ℕ
  domain = domain_at c h

  allocated-word : (first : ℕ) → has_room (heap_of c h) (module_at c domain).blocks (arg call 0) first ≡ true →
      IsKeptOrGiven c domain w (allocated seen call first).core (allocated seen call first).change
  allocated-word first room =
      let n = arg call 0 in
      let area = heap_of c h in
      let outer = and_parts (nat_le area.first first && nat_le (first + n) (area.first + area.count)) _ room in
      let inner = and_parts (nat_le area.first first) (nat_le (first + n) (area.first + area.count)) outer.0 in
      let high : first + n ≤ area.first + area.count = leb-true _ _ inner.1 in
      let home = (home-at c domain v).heap in
      let count = v.ram_count in
      let inside : 4 * first + 4 * n ≤ length c.ram = omega (arith, high, home, count) in
      elim (covers first n w) as (λ b. covers first n w ≡ b →
      IsKeptOrGiven c domain w (allocated seen call first).core (allocated seen call first).change) [
        | true ↦ search (arith, covers_from)
        | false ↦ λ t. inl (search (arith, cleared-beside, c.ram, uncovered))
      ] refl

  alloc-word : (first : ℕ) (o : Option ℕ) →
      (o ≡ None → has_room (heap_of c h) (module_at c domain).blocks (arg call 0) first ≡ true) →
      IsKeptOrGiven c domain w (alloc_from seen call first o).core (alloc_from seen call first o).change
  alloc-word first (Some n) p = inl (kept-ram c seen w refl)
  alloc-word first None p = allocated-word first (p refl)

  serve_alloc-word : IsKeptOrGiven c domain w (serve_alloc r seen call).core (serve_alloc r seen call).change
  serve_alloc-word =
      let m = module_at c domain in
      let first = unwrap_or (alloc_place seen call) 0 in
      let t1 : Row ℕ = (arg call 0 == 0, 1) in
      let t2 : Row ℕ = (is_none (alloc_place seen call), 6) in
      let t3 : Row ℕ = (nat_le most_blocks (length m.blocks), 7) in
      let t4 : Row ℕ = (not (r.fits (alloc_change first call)), 5) in
      alloc-word first (first_row (t1 ∷ t2 ∷ t3 ∷ t4 ∷ [])) (λ e.
      let n : is_none (alloc_place seen call) ≡ false =
      (first-passes t2 (t3 ∷ t4 ∷ []) (first-passes t1 (t2 ∷ t3 ∷ t4 ∷ []) e).1).0 in
      found-some (alloc_place seen call) (λ a. has_room m.heap m.blocks (arg call 0) a ≡ true)
      (found-passes (has_room m.heap m.blocks (arg call 0)) (range_with_len m.heap.first m.heap.count)) n)

  ended-word : (s : Served) → IsKeptOrGiven c domain w s.core s.change →
      IsKeptOrGiven c domain w (ended seen call s).core (ended seen call s).change
  ended-word s p = search (arith, call.hart, seen, call, IsKeptOrGiven, domain, moved, s.core, s.change)

  serve-word : service call.number ≡ Alloc →
      IsKeptOrGiven c domain w (serve r seen call).core (serve r seen call).change
  serve-word e =
      subst
      (λ (k : Service). IsKeptOrGiven c domain w (ended seen call (served_by k r seen call)).core
      (ended seen call (served_by k r seen call)).change) (sym e)
      (ended-word (serve_alloc r seen call) serve_alloc-word)

  done-word : (x : Hart) (s : Served) → IsKeptOrGiven c domain w s.core s.change →
      IsKeptOrGiven c domain w (done h x s).core (done h x s).change
  done-word x s p = search (arith, s.stop, IsKeptOrGiven, domain, s.a0, moved, s.core, s.change)

  served-word : (mine : Call) → mine ≡ call → service call.number ≡ Alloc →
      IsKeptOrGiven c domain w (served r seen h (hart_at c h) mine).core (served r seen h (hart_at c h) mine).change
  served-word mine e s =
      subst
      (λ (k : Call). IsKeptOrGiven c domain w (served r seen h (hart_at c h) k).core
      (served r seen h (hart_at c h) k).change) (sym e)
      (done-word (hart_at c h) (serve r seen call) (serve-word s))

  asked-word : (mine : Call) (b : Bool) → mine ≡ call → service call.number ≡ Alloc →
      IsKeptOrGiven c domain w (asked r seen h (hart_at c h) mine b).core (asked r seen h (hart_at c h) mine b).change
  asked-word mine x e s = grind (arith, served-word, kept-ram, seen)

-- an action in a turn after which the domain may have one block more
acted-word : (r : Reads) (c : Core) (h w turns : ℕ) (harts : List Hart) (caches : List Cache) (a : Action) → IsValid c →
    IsLawful (OwnCall h (hart_at c h)) r c h (hart_at c h) a →
    (let m = acted r (apart c turns harts caches) h (hart_at c h) a in
    TakesBlock r c h m.core → IsKeptOrGiven c (domain_at c h) w m.core m.change)
acted-word r c h w turns harts caches Rests v p t = inl (λ k l. refl)
acted-word r c h w turns harts caches Waits v p t = inl (λ k l. refl)
acted-word r c h w turns harts caches (Serves call) v p t = served-word r c h w v turns harts caches call p t.call
acted-word r c h w turns harts caches (Asks call) v p t =
    asked-word r c h w v turns harts caches call (is_served_now (apart c turns harts caches) h call) p t.call
acted-word r c h w turns harts caches (Traps cause value) v p t =
    let x = hart_at c h in
    let e = apart c turns harts caches in
    inl (kept-ram c (trapped e h x cause value).core w (ram-given_up (killed x.domain cause e) h x cause (top x.frames)
    ∙ ram-killed x.domain cause e))
acted-word r c h w turns harts caches Bounces v p t = inl (λ k l. refl)
acted-word r c h w turns harts caches (Crosses target) v p t = inl (λ k l. refl)
acted-word r c h w turns harts caches (Returns rd frame) v p t = inl (λ k l. refl)
acted-word r c h w turns harts caches (Runs regs pc) v p t = inl (λ k l. refl)
acted-word r c h w turns harts caches (Writes address size value) v p t =
    let same : (module_at c (domain_at c h)).blocks ≡ with_block t.block (module_at c (domain_at c h)).blocks =
    t.taken in
    let n = ap (λ (xs : List Area). length xs) same in
    let m = length-with_block t.block (module_at c (domain_at c h)).blocks in
    absurd (let q : ⊥ = omega (arith, n, m) in q)

turned-block : (r : Reads) (c : Core) (h w : ℕ) → IsValid c → TakesBlock r c h (turned r c h).core →
    IsKeptOrGiven c (domain_at c h) w (turned r c h).core (turned r c h).change
turned-block r c h w v t =
    let b = by-action r c h in
    grind (arith, IsKeptOrGiven, acted-word, b.turns, b.harts, b.after, lawful-turn, b.before, b.is)

-- a hart that takes a block is there
block-there : (r : Reads) (c : Core) (h : ℕ) (e : Core) → TakesBlock r c h e → h < length c.harts
block-there r c h e t = search (arith, ltb-true, get_or-eq_default, c.harts, ltb-false)

-- a turn keeps a word that its hart's domain may not write, or gives it to that domain
turned-by : (r : Reads) (c : Core) (h w : ℕ) → IsValid c → IsForeign r c h w → ForeignAfter r c h (turned r c h).core →
    (IsKept c (turned r c h).core w) ⊎ (IsGiven c (domain_at c h) w (turned r c h).change × IsModule (length c.modules)
    (domain_at c h))
turned-by r c h w v f (AllKept p) = inl (p w f)
turned-by r c h w v f (AllButBlock p) =
    ⊎_elim (λ k. inl k) (λ g. inr (g, (v.harts h (block-there r c h (turned r c h).core p)).domain))
    (turned-block r c h w v p)

pub turned-word : (r : Reads) (c : Core) (h w : ℕ) → IsValid c → IsForeign r c h w →
    (IsKept c (turned r c h).core w) ⊎ (IsGiven c (domain_at c h) w (turned r c h).change × IsModule (length c.modules)
    (domain_at c h))
turned-word r c h w v f = turned-by r c h w v f (foreign-turned r c h v)
