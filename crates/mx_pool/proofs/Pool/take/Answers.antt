use Rattle.std.proofs.Common.{◌≡◌, ◌+◌, ◌*◌, ◌-◌, ◌<◌, ◌≤◌, ℕ, List, get_or, length, true, false, refl, sym, ◌∙◌, ap, arith, length-set}
use Rattle.std.proofs.Common.{get_or-set_other}
use Rattle.std.specs.Vec.{with_items}
use Rattle.std.proofs.lemmas.List.{get_or_read, with_items_is}
use Rattle.mx_pool.proofs.StoredFrames.{SameOutside, frame_fits}
use Rattle.mx_pool.proofs.FreeList.{spare_most, top_within, pool_taken}
use Rattle.mx_pool.proofs.Changes.{elsewhere, total, free_now, was_free, taken_here, taken_free, taken_within}
use Rattle.mx_pool.proofs.Pool.take.Goals as goal

pub returns-then-self-eq0-clause-none : goal.returns-then-self-eq0-clause-none
returns-then-self-eq0-clause-none g c =
    (λ _. free_now g.row.WORDS _ _ _ _ c.self.invariant _ c.self.view_is ∙ c.if-self-eq0.true, λ _. refl)

pub index_mut-requires : goal.index_mut-requires
index_mut-requires g c =
    let some : 0 < c.self.inside.spare = omega arith in
    let top : c.index-frame.result.now ≡ get_or c.self.inside.free.items (c.self.inside.spare - 1) 0 =
    get_or_read c.self.inside.free.items (c.self.inside.spare - 1) c.index-frame.result.now
    (omega (arith, spare_most g.row.WORDS _ _ _ _ c.self.invariant)) c.index-frame.ensures 0 in
    omega (arith, top_within g.row.WORDS _ _ _ _ c.self.invariant c.index-frame.result.now top some)

pub overflow_mul-frame : goal.overflow_mul-frame
overflow_mul-frame g c =
    let some : 0 < c.self.inside.spare = omega arith in
    let top : c.index-frame.result.now ≡ get_or c.self.inside.free.items (c.self.inside.spare - 1) 0 =
    get_or_read c.self.inside.free.items (c.self.inside.spare - 1) c.index-frame.result.now
    (omega (arith, spare_most g.row.WORDS _ _ _ _ c.self.invariant)) c.index-frame.ensures 0 in
    omega (
      arith,
      frame_fits g.row.WORDS _ _ c.index-frame.result.now c.self.invariant.room
          (top_within g.row.WORDS _ _ _ _ c.self.invariant c.index-frame.result.now top some),
    )

pub fill_words-requires : goal.fill_words-requires
fill_words-requires g c =
    let some : 0 < c.self.inside.spare = omega arith in
    let top : c.index-frame.result.now ≡ get_or c.self.inside.free.items (c.self.inside.spare - 1) 0 =
    get_or_read c.self.inside.free.items (c.self.inside.spare - 1) c.index-frame.result.now
    (omega (arith, spare_most g.row.WORDS _ _ _ _ c.self.invariant)) c.index-frame.ensures 0 in
    rw c.deref_mut.ensures.value
    (frame_fits g.row.WORDS _ _ c.index-frame.result.now c.self.invariant.room
    (top_within g.row.WORDS _ _ _ _ c.self.invariant c.index-frame.result.now top some))

pub invariant_of-self : goal.invariant_of-self
invariant_of-self g c =
    let some : 0 < c.self.inside.spare = omega arith in
    let top : c.index-frame.result.now ≡ get_or c.self.inside.free.items (c.self.inside.spare - 1) 0 =
    get_or_read c.self.inside.free.items (c.self.inside.spare - 1) c.index-frame.result.now
    (omega (arith, spare_most g.row.WORDS _ _ _ _ c.self.invariant)) c.index-frame.ensures 0 in
    let long : length c.fill_words.new.words ≡ length c.self.inside.words.items = c.fill_words.ensures.total
    ∙ ap (λ (xs : List ℕ). length xs) c.deref_mut.ensures.value in
    let same : (with_items c.self.inside.words c.fill_words.new.words).items ≡ c.fill_words.new.words =
    with_items_is c.self.inside.words c.fill_words.new.words (omega arith) in
    pool_taken g.row.WORDS _ _ _ _ c.self.invariant c.index-frame.result.now _ top some (ap (λ (xs : List ℕ). length xs) same ∙ long)

pub returns : goal.returns
returns g c =
    let some : 0 < c.self.inside.spare = omega arith in
    let top : c.index-frame.result.now ≡ get_or c.self.inside.free.items (c.self.inside.spare - 1) 0 =
    get_or_read c.self.inside.free.items (c.self.inside.spare - 1) c.index-frame.result.now
    (omega (arith, spare_most g.row.WORDS _ _ _ _ c.self.invariant)) c.index-frame.ensures 0 in
    let long : length c.fill_words.new.words ≡ length c.self.inside.words.items = c.fill_words.ensures.total
    ∙ ap (λ (xs : List ℕ). length xs) c.deref_mut.ensures.value in
    let same : (with_items c.self.inside.words c.fill_words.new.words).items ≡ c.fill_words.new.words =
    with_items_is c.self.inside.words c.fill_words.new.words (omega arith) in
    let len : length (with_items c.self.inside.words c.fill_words.new.words).items ≡ length c.self.inside.words.items =
    ap (λ (xs : List ℕ). length xs) same ∙ long in
    let below : (i : ℕ) → i < c.index-frame.result.now * g.row.WORDS
    → get_or (with_items c.self.inside.words c.fill_words.new.words).items i 0 ≡ get_or c.self.inside.words.items i 0 =
    λ i h. ap (λ (xs : List ℕ). get_or xs i 0) same ∙ c.fill_words.ensures.below i h
    ∙ ap (λ (xs : List ℕ). get_or xs i 0) c.deref_mut.ensures.value in
    let behind : (i : ℕ) → c.index-frame.result.now * g.row.WORDS + g.row.WORDS ≤ i
    → get_or (with_items c.self.inside.words c.fill_words.new.words).items i 0 ≡ get_or c.self.inside.words.items i 0 =
    λ i h. ap (λ (xs : List ℕ). get_or xs i 0) same ∙ c.fill_words.ensures.behind i h
    ∙ ap (λ (xs : List ℕ). get_or xs i 0) c.deref_mut.ensures.value in
    let outside : SameOutside g.row.WORDS c.index-frame.result.now c.self.inside.words.items
    (with_items c.self.inside.words c.fill_words.new.words).items =
    record { total = len; below = below; behind = behind } in
    record {
      none = (
        (λ e. absurd (cc)),
        λ e. let no : 0 ≡ c.self.inside.spare = sym e
            ∙ free_now g.row.WORDS _ _ _ _ c.self.invariant _ c.self.view_is in absurd (omega arith),
      );
      unchanged = tt;
      was_free = was_free g.row.WORDS _ _ _ _ c.self.invariant _ c.self.view_is c.index-frame.result.now top some;
      here = taken_here g.row.WORDS _ _ _ _ c.self.invariant _ c.self.view_is c.index-frame.result.now _ top some len
          (λ i h k. ap (λ (xs : List ℕ). get_or xs i 0) same ∙ c.fill_words.ensures.inside i h k);
      elsewhere = λ f ne. elsewhere g.row.WORDS _ _ _ _ c.self.invariant _ c.self.view_is c.index-frame.result.now f _ _ outside ne
          (get_or-set_other c.self.inside.taken.items c.index-frame.result.now f true false ne);
      fewer = taken_free g.row.WORDS _ _ _ _ c.self.invariant _ c.self.view_is c.index-frame.result.now _ top some;
      total = total g.row.WORDS _ _ _ _ c.self.invariant _ c.self.view_is _ _
          (length-set c.self.inside.taken.items c.index-frame.result.now true);
      within = taken_within g.row.WORDS _ _ _ _ c.self.invariant _ c.self.view_is c.index-frame.result.now top some;
      small = omega (arith, top_within g.row.WORDS _ _ _ _ c.self.invariant c.index-frame.result.now top some, c.self.invariant.small);
    }
