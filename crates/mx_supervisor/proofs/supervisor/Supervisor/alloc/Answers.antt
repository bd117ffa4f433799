use Rattle.std.proofs.Common.{◌≡◌, ℕ, ◌+◌, ◌*◌, ◌<◌, ◌≤◌, ◌==◌, true, false, ap, arith, length, ◌∙◌, sym, eq-eqb, le_trans, Some, Result}
use Rattle.std.proofs.Common.{Ok, Err}
use Rattle.mx_heap.specs.declared.block.HeapError.{HeapError}
use Rattle.mx_model.specs.Reads.{flat_reads}
use Rattle.std.proofs.lemmas.Bool.{ne_eqb, le-leb, lt-leb}
use Rattle.mx_words.specs.Announced.{names_range}
use Rattle.mx_words.specs.FirstFit.{place, with_block, most_blocks}
use Rattle.mx_words.specs.Bytes.{cleared_at}
use Rattle.mx_words.proofs.OptionLaws.{some_of}
use Rattle.mx_model.specs.Checks.{arg}
use Rattle.mx_model.specs.Serve.{serve_alloc, own_alone}
use Rattle.mx_supervisor.specs.Heaps.{heap_at, room_in, with_blocks_at}
use Rattle.mx_supervisor.specs.Parts.{Parts, parts_of, core_of, flat_of}
use Rattle.mx_supervisor.proofs.Answering.{refuses, refuses-after}
use Rattle.mx_supervisor.proofs.Blocks.{alloc-done, alloc-none, alloc-full, alloc-unfit, alloc-fit, place-in, blocks-in, none-of, not-full}
use Rattle.mx_supervisor.proofs.Changes.{lawful-of, in-of, range-heap, gives-in}
use Rattle.mx_supervisor.proofs.Slots.{found-live}
use Rattle.mx_supervisor.proofs.supervisor.Supervisor.alloc.Goals as goal

pub returns-then-words-eq0 : goal.returns-then-words-eq0
returns-then-words-eq0 g c = refuses serve_alloc c.args.call.now _ 1 _ c.requires.sound c.refused.ensures
    (λ rest. let zero : (arg c.args.call.now 0 == 0) ≡ true = eq-eqb _ _ c.if-words-eq0.true in rw zero)

abbrev err : HeapError → Result ℕ HeapError
err e = Err e

not-err : {e : HeapError} (n : ℕ) → Ok n ≡ err e → ⊥
not-err n h = let q : ⊥ = cc in q

positive : (n : ℕ) → (n ≡ 0 → ⊥) → 0 < n
positive n h = omega (arith, h)

full-at : (a b m : ℕ) → a ≡ b → b ≡ m → m ≤ a
full-at a b m e f = omega (arith, e, f)

room-at : (a b m : ℕ) → a ≡ b → b < m → a < m
room-at a b m e h = omega (arith, e, h)

there-at : (d a b m : ℕ) → a ≡ b → b ≡ m → d ≤ m → d ≤ a
there-at d a b m e f h = omega (arith, e, f, h)

words-in : (a n r b s : ℕ) → r ≡ b → b ≡ 4 * s → a + n ≤ s → 4 * a + 4 * n ≤ r
words-in a n r b s e f h = omega (arith, e, f, h)

low-at : (a n s m : ℕ) → a + n ≤ s → s ≤ m → a ≤ m
low-at a n s m h w = omega (arith, h, w)

pub returns-in-Err-NoRoom : goal.returns-in-Err-NoRoom
returns-in-Err-NoRoom g c =
    let p = parts_of g.T.PermTables c.args.self.now in
    let none = none-of _ (c.in-Err-NoRoom.ensures.no_room.0 (ap err c.in-Err-NoRoom.field-0-is)) in
    refuses serve_alloc c.args.call.now _ 6 _ c.requires.sound c.refused-in-Err-NoRoom.ensures
    (λ rest. alloc-none (flat_reads (flat_of rest p)) (core_of rest p) c.args.call.now (ne_eqb _ _ c.if-words-eq0.false)
    (place-in rest p c.args.call.now ∙ none))

pub returns-in-Err-BlocksFull : goal.returns-in-Err-BlocksFull
returns-in-Err-BlocksFull g c =
    let p = parts_of g.T.PermTables c.args.self.now in
    let full = c.in-Err-BlocksFull.ensures.full.0 (ap err c.in-Err-BlocksFull.field-0-is) in
    let some = some_of _ full.0 in
    refuses serve_alloc c.args.call.now _ 7 _ c.requires.sound c.refused-in-Err-BlocksFull.ensures
    (λ rest. alloc-full (flat_reads (flat_of rest p)) (core_of rest p) c.args.call.now some.0 (ne_eqb _ _ c.if-words-eq0.false)
    (place-in rest p c.args.call.now ∙ some.1)
    (le-leb _ _ (full-at _ _ _ (blocks-in rest p c.args.call.now) full.1)))

pub try_change-requires : goal.try_change-requires
try_change-requires g c =
    let p = parts_of g.T.PermTables c.args.self.now in
    let gives = gives-in _ _ _ _ _ _ c.modules.ensures c.own_alone-change.ensures in
    let named : names_range c.args.call.now.number ≡ false = ap names_range c.requires.number in
    let range = range-heap p c.args.call.now named in
    let low = c.in-Ok.ensures.inside.0 in
    let high = c.in-Ok.ensures.inside.1 in
    let area = c.requires.sound.areas c.args.call.now.domain in (
      assumption c,
      (
        c.requires.announced,
        (
          lawful-of _ _ _ _ _ _ gives (positive _ c.if-words-eq0.false) (le_trans high area),
          rw range (in-of _ _ _ _ _ (
            (heap_at p.heaps c.args.call.now.domain).area.first,
            (heap_at p.heaps c.args.call.now.domain).area.count,
          ) gives low high),
        ),
      ),
    )

pub returns-then-not-try_change : goal.returns-then-not-try_change
returns-then-not-try_change g c =
    let p = parts_of g.T.PermTables c.args.self.now in
    let gives = gives-in _ _ _ _ _ _ c.modules.ensures c.own_alone-change.ensures in
    let below = not-full _ _ c.in-Ok.first c.in-Ok.ensures.few c.in-Ok.ensures.ok (λ h. not-err _ (c.in-Ok.ensures.full.1 h)) in
    refuses-after serve_alloc c.args.call.now _ _ 5 _ c.requires.sound (c.try_change.ensures.kept c.if-not-try_change.true)
    c.refused-then-not-try_change.ensures
    (λ rest. alloc-unfit (flat_reads (flat_of rest p)) (core_of rest p) c.args.call.now c.in-Ok.first (ne_eqb _ _ c.if-words-eq0.false)
    (place-in rest p c.args.call.now ∙ c.in-Ok.ensures.ok)
    (lt-leb _ _ (room-at _ _ _ (blocks-in rest p c.args.call.now) below))
    (c.try_change.ensures.fits _ _ _ gives ∙ c.if-not-try_change.true))

pub alloc-requires-clause-there : goal.alloc-requires-clause-there
alloc-requires-clause-there g c =
    let q = c.try_change.ensures.done _ _ _ (gives-in _ _ _ _ _ _ c.modules.ensures c.own_alone-change.ensures) c.if-not-try_change.false in
    there-at _ _ _ _ (ap (λ (x : Parts). length x.heaps) q) c.requires.sound.heaps c.requires.domain.last

pub clear_words-requires : goal.clear_words-requires
clear_words-requires g c =
    let q = c.try_change.ensures.done _ _ _ (gives-in _ _ _ _ _ _ c.modules.ensures c.own_alone-change.ensures) c.if-not-try_change.false in
    words-in _ _ _ _ _ (ap (λ (x : Parts). length x.ram) q) c.requires.sound.ram
    (le_trans c.in-Ok.ensures.inside.1 (c.requires.sound.areas c.args.call.now.domain))

pub returns : goal.returns
returns g c =
    let p = parts_of g.T.PermTables c.args.self.now in
    let q = parts_of g.T.PermTables c.try_change.new.self in
    let gives = gives-in _ _ _ _ _ _ c.modules.ensures c.own_alone-change.ensures in
    let made = c.try_change.ensures.done _ _ _ gives c.if-not-try_change.false in
    let below = not-full _ _ c.in-Ok.first c.in-Ok.ensures.few c.in-Ok.ensures.ok (λ h. not-err _ (c.in-Ok.ensures.full.1 h)) in
    let same = ap (λ (x : Parts). x.heaps) made in
    let few : length (heap_at q.heaps c.args.call.now.domain).blocks < most_blocks = rw same below in
    let found : room_in (heap_at q.heaps c.args.call.now.domain) (arg c.args.call.now 0) ≡ Some c.in-Ok.first =
    ap (λ hs. place (heap_at hs c.args.call.now.domain).area (heap_at hs c.args.call.now.domain).blocks (arg c.args.call.now 0)) same
    ∙ c.in-Ok.ensures.ok in
    let some : 0 < arg c.args.call.now 0 = positive _ c.if-words-eq0.false in
    let may = found-live (heap_at q.heaps c.args.call.now.domain) (arg c.args.call.now 0) c.in-Ok.first some found few in
    alloc-done c.args.call.now p q (record q { heaps = c.alloc.new.self; ram = c.clear_words.new.self }) c.in-Ok.first
    (own_alone c.args.call.now.domain) c.done.result c.requires.sound
    (low-at _ _ _ _ (le_trans c.in-Ok.ensures.inside.1 (c.requires.sound.areas c.args.call.now.domain)) c.requires.sound.few_words)
    (let ram = ap (λ (x : Parts). x.ram) made in sym (ap (λ bs. length (cleared_at bs (4 * c.in-Ok.first) (4 * arg c.args.call.now 0))) ram)
    ∙ sym (ap length c.clear_words.ensures.bytes) ∙ c.clear_words.ensures.size ∙ ap length ram)
    made
    (ap (λ hs. record q { heaps = hs; ram = c.clear_words.new.self }) (c.alloc.ensures may) ∙ ap (λ bs. record q {
      heaps = with_blocks_at c.args.call.now.domain (with_block (record { first = c.in-Ok.first; count = arg c.args.call.now 0 })
          (heap_at q.heaps c.args.call.now.domain).blocks) q.heaps;
      ram = bs;
    }) c.clear_words.ensures.bytes)
    c.done.ensures
    (λ rest. alloc-fit (flat_reads (flat_of rest p)) (core_of rest p) c.args.call.now c.in-Ok.first (ne_eqb _ _ c.if-words-eq0.false)
    (place-in rest p c.args.call.now ∙ c.in-Ok.ensures.ok)
    (lt-leb _ _ (room-at _ _ _ (blocks-in rest p c.args.call.now) below))
    (c.try_change.ensures.fits _ _ _ gives ∙ c.if-not-try_change.false))

pub overflow_mul-first : goal.overflow_mul-first
overflow_mul-first g c =
    let area = c.requires.sound.areas c.args.call.now.domain in
    omega (arith, c.in-Ok.ensures.inside.1, area, c.requires.sound.few_words)

pub overflow_add-first : goal.overflow_add-first
overflow_add-first g c =
    let area = c.requires.sound.areas c.args.call.now.domain in
    omega (arith, c.in-Ok.ensures.inside.1, area, c.requires.sound.few_words)
