-- Announced calls: the change lies in the announced range, of which the caller drops its own spans.
use Rattle.std.proofs.Common.{◌≡◌, ◌≢◌, ℕ, ◌+◌, ◌*◌, ◌<◌, ◌≤◌, ◌⊎◌, inl, inr, Bool, true, false, not, cond, ◌==◌, ◌&&◌, nat_le, List, []}
use Rattle.std.proofs.Common.{◌∷◌, length, refl, sym, ap, subst, ◌∙◌, arith, Option, Some, None, unwrap_or, is_none}
use Rattle.std.specs.Prelude.{IfSome}
use Rattle.std.specs.List.{list_any, range_with_len}
use Rattle.std.proofs.lemmas.Bool.{and_parts, cases_eq, leb-true, ne_eqb}
use Rattle.mx_words.specs.declared.perm.Perm.{Perm}
use Rattle.mx_words.specs.Announced.{is_announced, names_range}
use Rattle.mx_words.specs.Bytes.{cleared_at}
use Rattle.mx_words.specs.Caches.{Cache, without_range}
use Rattle.mx_words.specs.FirstFit.{Area, block_words, has_room, most_blocks, with_block, without_block}
use Rattle.mx_words.specs.FirstRow.{Row, first_row}
use Rattle.mx_words.specs.Ranges.{covers, overlaps, range_words}
use Rattle.mx_words.proofs.OverlayLaws.{covers_from, covers_in}
use Rattle.mx_model.specs.declared.values.Call.{Call}
use Rattle.mx_model.specs.Checks.{arg, call_range, drops}
use Rattle.mx_model.specs.Reads.{Reads}
use Rattle.mx_model.specs.Serve.{Served, Service, Grant, RevokeAll, Alloc, Free, alloc_change, alloc_from, alloc_place, allocated, answers}
use Rattle.mx_model.specs.Serve.{arg_word, arg_range, change_of, changes, code, free_change, freed_count, grant_change, is_word, judged}
use Rattle.mx_model.specs.Serve.{revoke_change, serve, serve_alloc, serve_free, served_by, service, with_blocks}
use Rattle.mx_model.specs.State.{Core, Hart, cache_at, hart_at, module_at}
use Rattle.mx_model.specs.Turn.{call_of}
use Rattle.mx_model.specs.Valid.{IsValid}
use Rattle.mx_model.proofs.ListLaws.{found-passes}
use Rattle.mx_model.proofs.TestLaws.{first-passes, found-some}
use Rattle.mx_model.proofs.ValidParts.{home-at}
use Rattle.mx_laws.proofs.BlockLaws.{block-in}
use Rattle.mx_coherence.proofs.FollowLaws.{IsInside}
use Rattle.mx_coherence.proofs.QuietLaws.{IsQuiet}
use Rattle.mx_coherence.proofs.StepLaws.{Moved, moved-cache, moved-module, moved-ram, moved-twice}

-- which calls are announced, and which of them name their range
pub data Tells (n : ℕ) : Type 0 where
  Named : (s : Service) → (service n ≡ s) → (s ≡ Grant) ⊎ (s ≡ RevokeAll) → is_announced n ≡ true → names_range n ≡ true → Tells n
  OnHeap : (s : Service) → (service n ≡ s) → (s ≡ Alloc) ⊎ (s ≡ Free) → is_announced n ≡ true → names_range n ≡ false → Tells n
  Plain : IsQuiet (service n) → is_announced n ≡ false → Tells n

quiet-if : (b : Bool) (s t : Service) → IsQuiet s → IsQuiet t → IsQuiet (cond b s t)
quiet-if true s t p q = p
quiet-if false s t p q = q

pub tells : (n : ℕ) → Tells n
tells n = by (cases_eq n 3) (cases_eq n 4) (cases_eq n 6) (cases_eq n 7)
  where
    by : (n ≡ 3) ⊎ (n ≢ 3) → (n ≡ 4) ⊎ (n ≢ 4) → (n ≡ 6) ⊎ (n ≢ 6) → (n ≡ 7) ⊎ (n ≢ 7) → Tells n
    by (inl e) b c d = Named Grant (ap service e) (inl refl) (ap is_announced e) (ap names_range e)
    by (inr a) (inl e) c d = Named RevokeAll (ap service e) (inr refl) (ap is_announced e) (ap names_range e)
    by (inr a) (inr b) (inl e) d = OnHeap Alloc (ap service e) (inl refl) (ap is_announced e) (ap names_range e)
    by (inr a) (inr b) (inr c) (inl e) = OnHeap Free (ap service e) (inr refl) (ap is_announced e) (ap names_range e)
    by (inr a) (inr b) (inr c) (inr d) =
        let e3 : (n == 3) ≡ false = ne_eqb n 3 a in
        let e4 : (n == 4) ≡ false = ne_eqb n 4 b in
        let e6 : (n == 6) ≡ false = ne_eqb n 6 c in
        let e7 : (n == 7) ≡ false = ne_eqb n 7 d in
        Plain (rw (e3, e4, e6, e7) (
        quiet-if (n == 1) _ _ tt (quiet-if (n == 2) _ _ tt (quiet-if (n == 5) _ _ tt (quiet-if (n == 8) _ _ tt (quiet-if (n == 9) _ _ tt (
        quiet-if (n == 10) _ _ tt (quiet-if (n == 11) _ _ tt (quiet-if (n == 12) _ _ tt (quiet-if (n == 13) _ _ tt tt))))))))))
        (rw (e3, e4, e6, e7) refl)

-- a part of a range is inside it
inside-part : (a n first count : ℕ) (given : ℕ → Option Perm) → first ≤ a → a + n ≤ first + count
    → IsInside (first, count) (change_of (a, n) given)
inside-part a n first count given low high w hit =
    let p = covers_from a n w hit in
    let x = p.0 in
    let y = p.1 in
    covers_in first count w (omega (arith, x)) (omega (arith, y))

-- what an announced call comes to, before the caller's spans are dropped
pub record Announced (c : Core) (h : ℕ) (range : ℕ × ℕ) (s : Served) : Type 0 where
  pub core : Moved c s.core h (hart_at c h) (cache_at c h)
  pub change : IfSome s.change (IsInside range)

pub moved-self : (c : Core) (h : ℕ) → Moved c c h (hart_at c h) (cache_at c h)
moved-self c h = record { hart = refl; cache = refl; harts = λ g apart. refl; caches = λ g apart. refl; ranges = λ call. refl }

announced-answers : (c : Core) (h : ℕ) (range : ℕ × ℕ) (a0 : ℕ) → Announced c h range (answers c a0)
announced-answers c h range a0 = record { core = moved-self c h; change = tt }

announced-judged : (c : Core) (h : ℕ) (range : ℕ × ℕ) (o : Option ℕ) (s : Served) → (o ≡ None → Announced c h range s)
    → Announced c h range (judged c o s)
announced-judged c h range None s q = q refl
announced-judged c h range (Some n) s q = announced-answers c h range (code n)

-- and after: the caller keeps no span that meets the range
pub record Drops (c : Core) (h : ℕ) (s : Served) : Type 0 where
  pub core : Moved c s.core h (hart_at c h) (without_range (call_range c (call_of h (hart_at c h))).0
      (call_range c (call_of h (hart_at c h))).1 (cache_at c h))
  pub change : IfSome s.change (IsInside (call_range c (call_of h (hart_at c h))))

module _ (r : Reads) (c : Core) (h : ℕ) (v : IsValid c) where
  abbrev call : Call
  call = call_of h (hart_at c h)

  abbrev heap : Area
  heap = (module_at c call.domain).heap

  -- grant and revoke_all announce the range that they change
  named-range : names_range call.number ≡ true → call_range c call ≡ arg_range c call
  named-range e = ap (λ (b : Bool). cond b (range_words (arg call 0) (arg call 1) c.size) (heap.first, heap.count)) e

  inside-named : names_range call.number ≡ true → (given : ℕ → Option Perm)
      → IsInside (call_range c call) (change_of (arg_range c call) given)
  inside-named e given w hit = subst (λ (range : ℕ × ℕ). covers range.0 range.1 w ≡ true) (sym (named-range e)) hit

  pub announced-named : (s : Service) → (s ≡ Grant) ⊎ (s ≡ RevokeAll) → names_range call.number ≡ true →
      Announced c h (call_range c call) (served_by s r c call)
  announced-named s (inl e) named =
      subst (λ (k : Service). Announced c h (call_range c call) (served_by k r c call)) (sym e)
      (announced-judged c h (call_range c call) _ (changes c (grant_change c call))
      (λ f. record { core = moved-self c h; change = inside-named named (grant_change c call).given }))
  announced-named s (inr e) named =
      subst (λ (k : Service). Announced c h (call_range c call) (served_by k r c call)) (sym e)
      (announced-judged c h (call_range c call) _ (changes c (revoke_change c call))
      (λ f. record { core = moved-self c h; change = inside-named named (revoke_change c call).given }))

  -- alloc and free announce the caller's heap area
  heap-range : names_range call.number ≡ false → call_range c call ≡ (heap.first, heap.count)
  heap-range e = ap (λ (b : Bool). cond b (range_words (arg call 0) (arg call 1) c.size) (heap.first, heap.count)) e

  inside-heap : names_range call.number ≡ false → (a n : ℕ) (given : ℕ → Option Perm) → heap.first ≤ a → a + n ≤ heap.first + heap.count →
      IsInside (call_range c call) (change_of (a, n) given)
  inside-heap e a n given low high =
      subst (λ (range : ℕ × ℕ). IsInside range (change_of (a, n) given)) (sym (heap-range e))
      (inside-part a n heap.first heap.count given low high)

  -- the caller's blocks changed
  moved-blocks : (bs : List Area) (ram : List ℕ) → Moved c (with_blocks call bs (record c { ram = ram })) h (hart_at c h) (cache_at c h)
  moved-blocks bs ram =
      let e = record c { ram = ram } in
      moved-twice c e (with_blocks call bs e) h (hart_at c h) (hart_at c h) (cache_at c h) (cache_at c h)
      (moved-ram c h ram) (moved-module e h call.domain (record (module_at e call.domain) { blocks = bs }) refl)

  announced-alloc : names_range call.number ≡ false → Announced c h (call_range c call) (serve_alloc r c call)
  announced-alloc named =
      let bs = (module_at c call.domain).blocks in
      let t1 : Row ℕ = (arg call 0 == 0, 1) in
      let t2 : Row ℕ = (is_none (alloc_place c call), 6) in
      let t3 : Row ℕ = (nat_le most_blocks (length bs), 7) in
      let t4 : Row ℕ = (not (r.fits (alloc_change (unwrap_or (alloc_place c call) 0) call)), 5) in
      by (first_row (t1 ∷ t2 ∷ t3 ∷ t4 ∷ [])) (λ e.
      let n : is_none (alloc_place c call) ≡ false = (first-passes t2 (t3 ∷ t4 ∷ []) (first-passes t1 (t2 ∷ t3 ∷ t4 ∷ []) e).1).0 in
      found-some (alloc_place c call) (λ a. has_room heap bs (arg call 0) a ≡ true)
      (found-passes (has_room heap bs (arg call 0)) (range_with_len heap.first heap.count)) n)
    where
      done : (first : ℕ) → has_room heap (module_at c call.domain).blocks (arg call 0) first ≡ true
          → Announced c h (call_range c call) (allocated c call first)
      done first room =
          let n = arg call 0 in
          let p = and_parts (nat_le heap.first first && nat_le (first + n) (heap.first + heap.count))
          (not (list_any (λ (b : Area). overlaps b.first b.count first n) (module_at c call.domain).blocks)) room in
          let q = and_parts (nat_le heap.first first) (nat_le (first + n) (heap.first + heap.count)) p.0 in
          record {
            core = moved-blocks (with_block (record { first = first; count = n }) (module_at c call.domain).blocks)
                (cleared_at c.ram (4 * first) (4 * n));
            change = inside-heap named first n (alloc_change first call).given (leb-true heap.first first q.0)
                (leb-true (first + n) (heap.first + heap.count) q.1);
          }

      by : (o : Option ℕ) → (o ≡ None → has_room heap (module_at c call.domain).blocks (arg call 0) (unwrap_or (alloc_place c call) 0)
          ≡ true) →
          Announced c h (call_range c call) (alloc_from c call (unwrap_or (alloc_place c call) 0) o)
      by (Some n) q = announced-answers c h (call_range c call) (code n)
      by None q = done (unwrap_or (alloc_place c call) 0) (q refl)

  freed-in : IfSome (freed_count c call) (λ n. (heap.first ≤ arg_word call) × (arg_word call + n ≤ heap.first + heap.count))
  freed-in = elim (is_word c (arg call 0)) as
      (λ b. IfSome (cond b (block_words (module_at c call.domain).blocks (arg_word call)) None)
      (λ n. (heap.first ≤ arg_word call) × (arg_word call + n ≤ heap.first + heap.count))) [
        | true ↦ block-in heap.first (heap.first + heap.count) (arg_word call) (module_at c call.domain).blocks
            (home-at c call.domain v).blocks
        | false ↦ tt
      ]

  announced-free : names_range call.number ≡ false → Announced c h (call_range c call) (serve_free r c call)
  announced-free named =
      let t1 : Row ℕ = (is_none (freed_count c call), 8) in
      let t2 : Row ℕ = (not (r.fits (free_change c call)), 5) in
      announced-judged c h (call_range c call) (first_row (t1 ∷ t2 ∷ []))
      (changes (with_blocks call (without_block (arg_word call) (module_at c call.domain).blocks) c) (free_change c call)) (λ e.
      let p = found-some (freed_count c call) (λ n. (heap.first ≤ arg_word call) × (arg_word call + n ≤ heap.first + heap.count)) freed-in
      (first-passes t1 (t2 ∷ []) e).0 in
      record {
        core = moved-blocks (without_block (arg_word call) (module_at c call.domain).blocks) c.ram;
        change = inside-heap named (arg_word call) (unwrap_or (freed_count c call) 0) (free_change c call).given p.0 p.1;
      })

  pub announced-heap : (s : Service) → (s ≡ Alloc) ⊎ (s ≡ Free) → names_range call.number ≡ false
      → Announced c h (call_range c call) (served_by s r c call)
  announced-heap s (inl e) named = subst (λ (k : Service). Announced c h (call_range c call) (served_by k r c call)) (sym e)
      (announced-alloc named)
  announced-heap s (inr e) named = subst (λ (k : Service). Announced c h (call_range c call) (served_by k r c call)) (sym e)
      (announced-free named)

  -- the caller drops its own spans on the range
  pub serve-drops : (s : Service) → service call.number ≡ s → is_announced call.number ≡ true → h < length c.caches →
      length (served_by s r c call).core.caches ≡ length c.caches →
      Announced c h (call_range c call) (served_by s r c call) → Drops c h (serve r c call)
  serve-drops s e f there same p =
      let m = served_by s r c call in
      let range = call_range c call in
      let d = drops h range m.core in
      let is : serve r c call ≡ record m { core = d } =
      ap (λ (k : Service). cond (is_announced call.number) (record (served_by k r c call) {
        core =
            drops h range (served_by k r c call).core;
      })
      (served_by k r c call)) e
      ∙ ap (λ (b : Bool). cond b (record m { core = d }) m) f in
      let here : Moved m.core d h (hart_at m.core h) (without_range range.0 range.1 (cache_at m.core h)) =
      moved-cache m.core h (without_range range.0 range.1 (cache_at m.core h)) (omega (arith, there, same)) in
      let after : Moved m.core d h (hart_at c h) (without_range range.0 range.1 (cache_at c h)) =
      subst (λ (x : Hart). Moved m.core d h x (without_range range.0 range.1 (cache_at c h))) p.core.hart
      (subst (λ (k : Cache). Moved m.core d h (hart_at m.core h) (without_range range.0 range.1 k)) p.core.cache here) in
      subst (λ (s : Served). Drops c h s) (sym is)
      (record { core = moved-twice c m.core d h (hart_at c h) (hart_at c h) (cache_at c h) _ p.core after; change = p.change })
