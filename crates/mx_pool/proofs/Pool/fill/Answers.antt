use Rattle.std.proofs.Common.{◌≡◌, ℕ, List, get_or, length, refl, ◌∙◌, ap, arith}
use Rattle.std.specs.Vec.{with_items}
use Rattle.std.proofs.lemmas.List.{with_items_is}
use Rattle.mx_pool.proofs.FreeList.{frame_room, pool_written}
use Rattle.mx_pool.proofs.Changes.{elsewhere, total, written_free, IsFilled, filled_taken, filled_outside, filled_here, filled_below}
use Rattle.mx_pool.proofs.Changes.{filled_behind}
use Rattle.mx_pool.proofs.Pool.fill.Given.{Over}
use Rattle.mx_pool.proofs.Pool.fill.Goals as goal

pub overflow_mul-frame : goal.overflow_mul-frame
overflow_mul-frame g c = omega (arith, frame_room g.row.WORDS _ _ _ _ c.self.invariant _ c.self.view_is c.args.frame c.requires.taken)

pub overflow_add-frame : goal.overflow_add-frame
overflow_add-frame g c = omega (arith, frame_room g.row.WORDS _ _ _ _ c.self.invariant _ c.self.view_is c.args.frame c.requires.taken)

pub fill_words-requires : goal.fill_words-requires
fill_words-requires g c =
    rw c.deref_mut.ensures.value (omega (
      arith,
      frame_room g.row.WORDS _ _ _ _ c.self.invariant _ c.self.view_is c.args.frame
          c.requires.taken,
    ))

long : (g : Over) (c : goal.After-self-1 g) → length c.fill_words.new.words ≡ length c.self.inside.words.items
long g c = c.fill_words.ensures.total ∙ ap (λ (xs : List ℕ). length xs) c.deref_mut.ensures.value

items : (g : Over) (c : goal.After-self-1 g) → (with_items c.self.inside.words c.fill_words.new.words).items ≡ c.fill_words.new.words
items g c = with_items_is c.self.inside.words c.fill_words.new.words (omega (arith, long g c))

filled : (g : Over) (c : goal.After-self-1 g) →
    IsFilled g.row.WORDS c.self.inside.words.items (with_items c.self.inside.words c.fill_words.new.words).items c.args.frame c.args.from
    c.args.count c.args.value
filled g c = record {
  total = ap (λ (xs : List ℕ). length xs) (items g c) ∙ long g c;
  inside = λ k least most. ap (λ (xs : List ℕ). get_or xs k 0) (items g c) ∙ c.fill_words.ensures.inside k least most;
  below = λ k h. ap (λ (xs : List ℕ). get_or xs k 0) (items g c) ∙ c.fill_words.ensures.below k h
      ∙ ap (λ (xs : List ℕ). get_or xs k 0) c.deref_mut.ensures.value;
  behind = λ k h. ap (λ (xs : List ℕ). get_or xs k 0) (items g c) ∙ c.fill_words.ensures.behind k h
      ∙ ap (λ (xs : List ℕ). get_or xs k 0) c.deref_mut.ensures.value;
}

pub invariant_of-self : goal.invariant_of-self
invariant_of-self g c = pool_written g.row.WORDS _ _ _ _ c.self.invariant _ ((filled g c).total)

pub returns : goal.returns
returns g c = record {
  filled = filled_here g.row.WORDS _ _ _ _ c.self.invariant _ c.self.view_is _ c.args.frame c.args.from c.args.count c.args.value
      c.requires.taken c.requires.within (filled g c);
  below = filled_below g.row.WORDS _ _ _ _ c.self.invariant _ c.self.view_is _ c.args.frame c.args.from c.args.count c.args.value
      c.requires.taken c.requires.within (filled g c);
  behind = filled_behind g.row.WORDS _ _ _ _ c.self.invariant _ c.self.view_is _ c.args.frame c.args.from c.args.count c.args.value
      c.requires.taken c.requires.within (filled g c);
  taken = filled_taken g.row.WORDS _ _ _ _ c.self.invariant _ c.self.view_is _ c.args.frame c.args.from c.args.count c.args.value
      c.requires.taken c.requires.within (filled g c);
  elsewhere = λ f ne. elsewhere g.row.WORDS _ _ _ _ c.self.invariant _ c.self.view_is c.args.frame f _ _
      (filled_outside g.row.WORDS _ _ _ _ c.self.invariant _ c.self.view_is _ c.args.frame c.args.from c.args.count c.args.value
      c.requires.taken c.requires.within (filled g c)) ne refl;
  free = written_free g.row.WORDS _ _ _ _ c.self.invariant _ c.self.view_is _;
  total = total g.row.WORDS _ _ _ _ c.self.invariant _ c.self.view_is _ _ refl;
}
