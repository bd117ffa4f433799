-- What a served call touches: a proof for each call, by its tests where it needs them.
use Rattle.std.proofs.Common.{◌≡◌, ◌≢◌, ℕ, ◌+◌, ◌-◌, ◌*◌, ◌%◌, ◌<◌, ◌≤◌, ◌⊎◌, Bool, true, false, not, cond, ◌==◌, ◌&&◌, ◌||◌}
use Rattle.std.proofs.Common.{nat_le, List, [], ◌∷◌, ◌++◌, length, refl, sym, ◌∙◌, ap, arith, eqb-true, Option, Some, None, unwrap_or}
use Rattle.std.proofs.Common.{is_none, slice_index_or, ⊎_elim, inl, inr}
use Rattle.std.specs.Prelude.{IfSome, find}
use Rattle.std.specs.List.{list_all, list_any, range_with_len}
use Rattle.std.specs.Option.{option_map}
use Rattle.std.proofs.lemmas.Bool.{and_parts, leb-true, not-false}
use Rattle.mx_words.specs.declared.perm.Access.TheVariants as A
use Rattle.mx_words.specs.Announced.{is_announced}
use Rattle.mx_words.specs.Bytes.{cleared_at, number_at, put_at}
use Rattle.mx_words.specs.FirstFit.{Area, AreApart, block_words, has_room, most_blocks, with_block, without_block}
use Rattle.mx_words.specs.FirstRow.{Row, first_row}
use Rattle.mx_words.specs.Ranges.{covers, in_ram, overlaps}
use Rattle.mx_words.specs.Rights.{allows}
use Rattle.mx_words.proofs.AreaLaws.{apart_ordered}
use Rattle.mx_words.proofs.OverlayLaws.{covers_behind, covers_below}
use Rattle.mx_model.specs.declared.values.Call.{Call}
use Rattle.mx_model.specs.declared.values.Gate.{Gate}
use Rattle.mx_model.specs.Checks.{Look, arg, call_range, drops, looked_all}
use Rattle.mx_model.specs.Gates.{gate_at, has_gate, is_at, no_gate_fits, with_gate, without_gate}
use Rattle.mx_model.specs.Reads.{Change, Reads}
use Rattle.mx_model.specs.Serve.{Served, Service, Exit, Write, Grant, RevokeAll, Transfer, Alloc, Free, AddGate, RemoveGate, AddReturnGate}
use Rattle.mx_model.specs.Serve.{Query, Self, Exchange, Unknown, adds, alloc_change, alloc_from, alloc_place, allocated, answers, arg_word}
use Rattle.mx_model.specs.Serve.{bytes_at, changes, ended, exchange_from, exchanged, foreign_word, free_change, freed_count, give_of}
use Rattle.mx_model.specs.Serve.{grant_change, is_word, judged, look_of, may_read, no_word, revoke_change, serve, serve_alloc, serve_free}
use Rattle.mx_model.specs.Serve.{served_by, service, with_blocks, write_from, write_looks, write_words, written_out}
use Rattle.mx_model.specs.State.{Core, Module, is_module, module_at, no_module}
use Rattle.mx_model.specs.Valid.{IsHome}
use Rattle.mx_model.proofs.ListLaws.{found-passes}
use Rattle.mx_model.proofs.ServeLaws.{same-ram-looked_all}
use Rattle.mx_model.proofs.SetLaws.{part-set}
use Rattle.mx_model.proofs.TestLaws.{first-passes, found-some}
use Rattle.mx_model.proofs.TurnCases.{looked_all-caches}
use Rattle.mx_model.proofs.ValidParts.{same-modules-looked_all}
use Rattle.mx_touched.specs.Touched.{Touched, is_among, touched_by, word_area}
use Rattle.mx_touched.proofs.Fine.{IsFine, SameDeaths, area-in, fine-alive, fine-moved, fine-none, kept-store, not-word}
use Rattle.mx_laws.proofs.ForeignLaws.{cleared-beside, uncovered}

-- a word outside a range lies outside each part of it
part-uncovered : (first count a n w : ℕ) → first ≤ a → a + n ≤ first + count → covers first count w ≡ false →
    covers a n w ≡ false
part-uncovered first count a n w low high e =
    ⊎_elim (λ l. covers_below a n w (omega (arith, l, low))) (λ l. covers_behind a n w (omega (arith, l, high)))
    (uncovered first count w e)

-- the gate at a word beside that of a gate added or removed
gone-at : (d w e v : ℕ) (g : Gate) → w ≢ v → is_at e v g ≡ true → is_at d w g ≡ false
gone-at d w e v g n t = by (is_at d w g) refl
  where
    by : (b : Bool) → is_at d w g ≡ b → is_at d w g ≡ false
    by false p = p
    by true p =
        let here = eqb-true g.word v (and_parts (g.domain == e) (g.word == v) t).1 in
        let there = eqb-true g.word w (and_parts (g.domain == d) (g.word == w) p).1 in
        absurd (n (sym there ∙ here))

found-without : (d w e v : ℕ) (gs : List Gate) → w ≢ v → gate_at (without_gate e v gs) d w ≡ gate_at gs d w
found-without d w e v [] n = refl
found-without d w e v (g ∷ gs) n = by (found-without d w e v gs n) (is_at e v g) refl
  where
    by : gate_at (without_gate e v gs) d w ≡ gate_at gs d w → (b : Bool) → is_at e v g ≡ b →
        find (is_at d w) (cond (not b) (g ∷ without_gate e v gs) (without_gate e v gs)) ≡ gate_at (g ∷ gs) d w
    by rest false p = ap (λ (o : Option Gate). cond (is_at d w g) (Some g) o) rest
    by rest true p = rest ∙ sym (ap (λ (b : Bool). cond b (Some g) (gate_at gs d w)) (gone-at d w e v g n p))

found-behind : (d w : ℕ) (g : Gate) (gs : List Gate) → is_at d w g ≡ false → gate_at (gs ++ g ∷ []) d w ≡ gate_at gs d w
found-behind d w g [] e = ap (λ (b : Bool). cond {A = Option Gate} b (Some g) None) e
found-behind d w g (x ∷ xs) e = ap (λ (o : Option Gate). cond (is_at d w x) (Some x) o) (found-behind d w g xs e)

at-word : (d w : ℕ) (g : Gate) → w ≢ g.word → is_at d w g ≡ false
at-word d w g n = by (is_at d w g) refl
  where
    by : (b : Bool) → is_at d w g ≡ b → is_at d w g ≡ false
    by false p = p
    by true p = absurd (n (sym (eqb-true g.word w (and_parts (g.domain == d) (g.word == w) p).1)))

found-with : (d w : ℕ) (g : Gate) (gs : List Gate) → w ≢ g.word → gate_at (with_gate g gs) d w ≡ gate_at gs d w
found-with d w g gs n =
    found-behind d w g (without_gate g.domain g.word gs) (at-word d w g n)
    ∙ found-without d w g.domain g.word gs n

-- a live block lies in its heap area
block-in : (low high first : ℕ) (bs : List Area) → AreApart low high bs →
    IfSome (block_words bs first) (λ n. (low ≤ first) × (first + n ≤ high))
block-in low high first [] p = tt
block-in low high first (b ∷ bs) p = elim (b.first == first) as
    (λ t. (b.first == first) ≡ t →
    IfSome (option_map (λ (x : Area). x.count) (cond t (Some b) (find (λ (x : Area). x.first == first) bs)))
    (λ n. (low ≤ first) × (first + n ≤ high))) [
      | true ↦ λ t.
          let e = eqb-true b.first first t in
          let l = p.0 in
          let k = apart_ordered (b.first + b.count) high bs p.2 in
          (omega (arith, e, l), omega (arith, e, k))
      | false ↦ λ t. lower (block_words bs first) (block-in (b.first + b.count) high first bs p.2)
    ] refl
  where
    lower : (o : Option ℕ) → IfSome o (λ n. (b.first + b.count ≤ first) × (first + n ≤ high)) →
        IfSome o (λ n. (low ≤ first) × (first + n ≤ high))
    lower None q = tt
    lower (Some n) q = let l = p.0 in let m = q.0 in (omega (arith, l, m), q.1)

-- a call in a state whose RAM is whole and in which the caller's areas are valid
module _ (r : Reads) (c : Core) (call : Call) (harts : ℕ) (count : length c.ram ≡ 4 * c.size)
    (home : IsHome c.size harts (module_at c call.domain)) where
  abbrev domain : ℕ
  domain = call.domain

  abbrev heap : Area
  heap = (module_at c call.domain).heap

  abbrev IsFineCall : Touched → Served → Type 0
  IsFineCall t s = IsFine t c s.core call.domain s.change

  fine-self : (t : Touched) → IsFine t c c call.domain None
  fine-self t = fine-none t c c call.domain refl refl refl

  fine-looked : (t : Touched) (h : ℕ) (looks : List Look) → IsFine t c (looked_all r h looks c) call.domain None
  fine-looked t h looks =
      fine-none t c (looked_all r h looks c) call.domain (same-ram-looked_all r h looks c)
      (ap (λ (e : Core). e.gates) (looked_all-caches r h looks c)) (same-modules-looked_all r h looks c)

  fine-judged : (t : Touched) (e : Core) (o : Option ℕ) (s : Served) → IsFine t c e call.domain None →
      (o ≡ None → IsFineCall t s) → IsFineCall t (judged e o s)
  fine-judged t e None s p q = q refl
  fine-judged t e (Some n) s p q = p

  -- a change of rights among those that are told
  fine-rights : (t : Touched) (e : Core) (change : Change) → IsFine t c e call.domain None →
      ((w : ℕ) → is_among t.rights w ≡ false → covers change.first change.count w ≡ false) →
      IsFine t c e call.domain (Some change)
  fine-rights t e change p q =
      record { bytes = p.bytes; gates = p.gates; death = p.death; deaths = p.deaths; change = q }

  -- the caller's blocks changed, in a state with the same modules
  blocks-live : (bs : List Area) (e : Core) → e.modules ≡ c.modules → SameDeaths c (with_blocks call bs e)
  blocks-live bs e n g =
      let m : Module = record (module_at e call.domain) { blocks = bs } in
      part-set (λ (x : Module). x.dead) e.modules (call.domain - 1) (g - 1) m no_module refl
      ∙ ap (λ (ms : List Module). (slice_index_or ms (g - 1) no_module).dead) n

  fine-written : (t : Touched) → IsFineCall t (written_out r c call)
  fine-written t =
      let seen = looked_all r call.hart (write_looks r call) c in
      let p = fine-looked t call.hart (write_looks r call) in
      fine-judged t seen (first_row ((not (list_all (may_read r call.domain) (write_words call)), 12) ∷ []))
      (record (answers seen (arg call 1)) { console = bytes_at c (arg call 0) (arg call 1) }) p (λ e. p)

  fine-write : (t : Touched) (o : Option ℕ) → IsFineCall t (write_from r c call o)
  fine-write t (Some n) = fine-self t
  fine-write t None = fine-written t

  -- a block of the heap area
  fine-allocated : (first : ℕ) → has_room heap (module_at c call.domain).blocks (arg call 0) first ≡ true →
      IsFineCall (touched_by Alloc c call) (allocated c call first)
  fine-allocated first room =
      let n = arg call 0 in
      let outer = and_parts (nat_le heap.first first && nat_le (first + n) (heap.first + heap.count))
      (not (list_any (λ (b : Area). overlaps b.first b.count first n) (module_at c call.domain).blocks)) room in
      let inner = and_parts (nat_le heap.first first) (nat_le (first + n) (heap.first + heap.count)) outer.0 in
      let low = leb-true heap.first first inner.0 in
      let high = leb-true (first + n) (heap.first + heap.count) inner.1 in
      let end = home.heap in
      let inside : 4 * first + 4 * n ≤ length c.ram = omega (arith, high, end, count) in
      let cleared = record c { ram = cleared_at c.ram (4 * first) (4 * n) } in
      let bs = with_block (record { first = first; count = n }) (module_at c call.domain).blocks in
      let live = blocks-live bs cleared refl in
      record {
        bytes = λ w e k l.
            cleared-beside c.ram (4 * first) (4 * n) (4 * w + k) inside
            (⊎_elim (λ a. inl (omega (arith, a, l, low))) (λ a. inr (omega (arith, a, high)))
            (uncovered heap.first heap.count w e));
        gates = λ g w e. refl;
        death = λ e. live;
        deaths = λ g l e. live g;
        change = λ w e. part-uncovered heap.first heap.count first n w low high e;
      }

  fine-alloc_from : (first : ℕ) (o : Option ℕ) →
      (o ≡ None → has_room heap (module_at c call.domain).blocks (arg call 0) first ≡ true) →
      IsFineCall (touched_by Alloc c call) (alloc_from c call first o)
  fine-alloc_from first (Some n) p = fine-self (touched_by Alloc c call)
  fine-alloc_from first None p = fine-allocated first (p refl)

  fine-alloc : IsFineCall (touched_by Alloc c call) (serve_alloc r c call)
  fine-alloc =
      let m = module_at c call.domain in
      let first = unwrap_or (alloc_place c call) 0 in
      let t1 : Row ℕ = (arg call 0 == 0, 1) in
      let t2 : Row ℕ = (is_none (alloc_place c call), 6) in
      let t3 : Row ℕ = (nat_le most_blocks (length m.blocks), 7) in
      let t4 : Row ℕ = (not (r.fits (alloc_change first call)), 5) in
      fine-alloc_from first (first_row (t1 ∷ t2 ∷ t3 ∷ t4 ∷ [])) (λ e.
      let n : is_none (alloc_place c call) ≡ false =
      (first-passes t2 (t3 ∷ t4 ∷ []) (first-passes t1 (t2 ∷ t3 ∷ t4 ∷ []) e).1).0 in
      found-some (alloc_place c call) (λ a. has_room m.heap m.blocks (arg call 0) a ≡ true)
      (found-passes (has_room m.heap m.blocks (arg call 0)) (range_with_len m.heap.first m.heap.count)) n)

  freed-in : IfSome (freed_count c call)
      (λ n. (heap.first ≤ arg_word call) × (arg_word call + n ≤ heap.first + heap.count))
  freed-in = elim (is_word c (arg call 0)) as
      (λ b. IfSome (cond b (block_words (module_at c call.domain).blocks (arg_word call)) None)
      (λ n. (heap.first ≤ arg_word call) × (arg_word call + n ≤ heap.first + heap.count))) [
        | true ↦ block-in heap.first (heap.first + heap.count) (arg_word call) (module_at c call.domain).blocks home.blocks
        | false ↦ tt
      ]

  fine-free : IsFineCall (touched_by Free c call) (serve_free r c call)
  fine-free =
      let t = touched_by Free c call in
      let t1 : Row ℕ = (is_none (freed_count c call), 8) in
      let t2 : Row ℕ = (not (r.fits (free_change c call)), 5) in
      let bs = without_block (arg_word call) (module_at c call.domain).blocks in
      let n = unwrap_or (freed_count c call) 0 in
      fine-judged t c (first_row (t1 ∷ t2 ∷ [])) (changes (with_blocks call bs c) (free_change c call)) (fine-self t) (λ e.
      let p = found-some (freed_count c call)
      (λ n. (heap.first ≤ arg_word call) × (arg_word call + n ≤ heap.first + heap.count)) freed-in
      (first-passes t1 (t2 ∷ []) e).0 in
      fine-rights t (with_blocks call bs c) (free_change c call)
      (fine-alive t c (with_blocks call bs c) call.domain refl refl (blocks-live bs c refl))
      (λ w f. part-uncovered heap.first heap.count (arg_word call) n w p.0 p.1 f))

  -- the word of a0, where it is one
  named-word : no_word c call ≡ false → word_area (arg call 0) c.size ≡ record { first = arg_word call; count = 1 }
  named-word e =
      area-in (arg call 0) c.size
      (and_parts (arg call 0 % 4 == 0) (in_ram (arg call 0) c.size) (not-false (is_word c (arg call 0)) e)).1

  fine-gates : (gates : List Gate) → ((d w : ℕ) → w ≢ arg_word call → gate_at gates d w ≡ gate_at c.gates d w) →
      no_word c call ≡ false → (t : Touched) → t.gates ≡ word_area (arg call 0) c.size →
      IsFine t c (record c { gates = gates }) call.domain None
  fine-gates gates k e t n = record {
    bytes = λ w f i l. refl;
    gates = λ d w f.
        ap (λ (o : Option Gate). option_map (λ (g : Gate). g.target) o)
        (k d w (not-word t.gates (arg_word call) w (n ∙ named-word e) f));
    death = λ f g. refl;
    deaths = λ g l f. refl;
    change = λ w f. tt;
  }

  fine-added : (t : Touched) (g : Gate) → g.word ≡ arg_word call → t.gates ≡ word_area (arg call 0) c.size →
      no_word c call ≡ false → IsFineCall t (adds c g)
  fine-added t g n m e =
      fine-gates (with_gate g c.gates)
      (λ d w f. found-with d w g c.gates (λ (i : w ≡ g.word). f (i ∙ n))) e t m

  fine-gate : (k : Service) (rows : List (Row ℕ)) (g : Gate) → g.word ≡ arg_word call →
      (touched_by k c call).gates ≡ word_area (arg call 0) c.size →
      IsFineCall (touched_by k c call) (judged c (first_row ((no_word c call, 1) ∷ rows)) (adds c g))
  fine-gate k rows g n m =
      let t = touched_by k c call in
      fine-judged t c (first_row ((no_word c call, 1) ∷ rows)) (adds c g) (fine-self t)
      (λ e. fine-added t g n m (first-passes (no_word c call, 1) rows e).0)

  fine-exchanged : no_word c call ≡ false → IsFineCall (touched_by Exchange c call) (exchanged r c call)
  fine-exchanged e =
      let t = touched_by Exchange c call in
      let looks : List Look = look_of call.domain (arg_word call) ∷ [] in
      let seen = looked_all r call.hart looks c in
      let ram = put_at c.ram (4 * arg_word call) 4 (arg call 1) in
      let after = record seen { ram = ram } in
      let p = fine-looked t call.hart looks in
      let place : 4 * arg_word call + 0 ≡ 4 * arg_word call = omega arith in
      fine-judged t seen (first_row ((not (allows (r.perm call.domain (arg_word call)) A.Write), 12) ∷ []))
      (record (answers after 0) { a1 = Some (number_at c.ram (4 * arg_word call) 4) }) p (λ f. record {
        bytes = λ w g.
            kept-store c after (arg_word call) 0 4 (arg call 1) w (omega arith)
            (ap (λ (k : ℕ). put_at c.ram k 4 (arg call 1)) (sym place))
            (not-word (word_area (arg call 0) c.size) (arg_word call) w (named-word e) g);
        gates = p.gates;
        death = p.death;
        deaths = p.deaths;
        change = p.change;
      })

  fine-exchange : (o : Option ℕ) → (o ≡ None → no_word c call ≡ false) →
      IsFineCall (touched_by Exchange c call) (exchange_from r c call o)
  fine-exchange (Some n) p = fine-self (touched_by Exchange c call)
  fine-exchange None p = fine-exchanged (p refl)

  -- the calls
  fine-by : (k : Service) → IsFineCall (touched_by k c call) (served_by k r c call)
  fine-by Exit =
      let t = touched_by Exit c call in
      fine-judged t c (first_row ((call.nested, 10) ∷ [])) (record (answers c (arg call 0)) { stop = true }) (fine-self t)
      (λ e. fine-self t)
  fine-by Write = fine-write (touched_by Write c call) _
  fine-by Grant =
      let t = touched_by Grant c call in
      fine-judged t c _ (changes c (grant_change c call)) (fine-self t)
      (λ e. fine-rights t c (grant_change c call) (fine-self t) (λ w f. f))
  fine-by RevokeAll =
      let t = touched_by RevokeAll c call in
      fine-judged t c _ (changes c (revoke_change c call)) (fine-self t)
      (λ e. fine-rights t c (revoke_change c call) (fine-self t) (λ w f. f))
  fine-by Transfer =
      let t = touched_by Transfer c call in
      fine-judged t c _ (record (answers c 0) { give = Some (give_of c call) }) (fine-self t) (λ e. fine-self t)
  fine-by Alloc = fine-alloc
  fine-by Free = fine-free
  fine-by AddGate = fine-gate AddGate
      ((not (is_module c (arg call 1)) || (arg call 1 == call.domain), 3) ∷ (foreign_word r call, 2)
      ∷ (no_gate_fits c.gates (arg call 1) (arg_word call), 9) ∷ [])
      (record { domain = arg call 1; word = arg_word call; target = call.domain }) refl refl
  fine-by RemoveGate =
      let t = touched_by RemoveGate c call in
      let gates = without_gate (arg call 1) (arg_word call) c.gates in
      let rows : List (Row ℕ) =
      (not (is_module c (arg call 1)), 3) ∷ (foreign_word r call, 2)
      ∷ (not (has_gate c.gates (arg call 1) (arg_word call)), 15) ∷ [] in
      fine-judged t c (first_row ((no_word c call, 1) ∷ rows)) (answers (record c { gates = gates }) 0) (fine-self t)
      (λ e. fine-gates gates (λ d w n. found-without d w (arg call 1) (arg_word call) c.gates n)
      (first-passes (no_word c call, 1) rows e).0 t refl)
  fine-by AddReturnGate = fine-gate AddReturnGate
      ((foreign_word r call, 2) ∷ (no_gate_fits c.gates call.domain (arg_word call), 9) ∷ [])
      (record { domain = call.domain; word = arg_word call; target = call.domain }) refl refl
  fine-by Query =
      let t = touched_by Query c call in
      fine-judged t c _ (answers c _) (fine-self t) (λ e. fine-self t)
  fine-by Self = fine-self (touched_by Self c call)
  fine-by Exchange = fine-exchange _ (λ e. (first-passes (no_word c call, 1) [] e).0)
  fine-by Unknown = fine-self (touched_by Unknown c call)

  -- a call served, with the caller's own spans dropped
  fine-ended : (t : Touched) (s : Served) → IsFineCall t s → IsFineCall t (ended c call s)
  fine-ended t s p =
      elim (is_announced call.number) as
      (λ b. let e : Served = cond b (record s { core = drops call.hart (call_range c call) s.core }) s in IsFineCall t e) [
        | true ↦ fine-moved t c s.core (drops call.hart (call_range c call) s.core) call.domain s.change refl refl refl p
        | false ↦ p
      ]

  pub fine-serve : IsFineCall (touched_by (service call.number) c call) (serve r c call)
  fine-serve = fine-ended (touched_by (service call.number) c call) (served_by (service call.number) r c call)
      (fine-by (service call.number))
