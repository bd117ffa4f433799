use Rattle.std.proofs.Common.{◌≡◌, ◌+◌, ◌*◌, ℕ, List, get_or, length, refl, ◌∙◌, ap, arith}
use Rattle.std.specs.Vec.{with_items}
use Rattle.std.proofs.lemmas.List.{with_items_is}
use Rattle.mx_pool.proofs.FreeList.{frame_room, pool_written}
use Rattle.mx_pool.proofs.Changes.{elsewhere, total, written_free, IsCopied, copied_taken, copied_outside, copied_here, copied_below}
use Rattle.mx_pool.proofs.Changes.{copied_behind}
use Rattle.mx_pool.proofs.Pool.copy.Given.{Over}
use Rattle.mx_pool.proofs.Pool.copy.Goals as goal

pub overflow_mul-source : goal.overflow_mul-source
overflow_mul-source g c = omega (arith, frame_room g.row.WORDS _ _ _ _ c.self.invariant _ c.self.view_is c.args.source c.requires.source)

pub overflow_add-source : goal.overflow_add-source
overflow_add-source g c = omega (arith, frame_room g.row.WORDS _ _ _ _ c.self.invariant _ c.self.view_is c.args.source c.requires.source)

pub overflow_mul-target : goal.overflow_mul-target
overflow_mul-target g c = omega (arith, frame_room g.row.WORDS _ _ _ _ c.self.invariant _ c.self.view_is c.args.target c.requires.target)

pub overflow_add-target : goal.overflow_add-target
overflow_add-target g c = omega (arith, frame_room g.row.WORDS _ _ _ _ c.self.invariant _ c.self.view_is c.args.target c.requires.target)

pub copy_words-requires-clause-from : goal.copy_words-requires-clause-from
copy_words-requires-clause-from g c =
    rw c.deref_mut.ensures.value (omega (
      arith,
      frame_room g.row.WORDS _ _ _ _ c.self.invariant _ c.self.view_is c.args.source
          c.requires.source,
    ))

pub copy_words-requires-clause-to : goal.copy_words-requires-clause-to
copy_words-requires-clause-to g c =
    rw c.deref_mut.ensures.value (omega (
      arith,
      frame_room g.row.WORDS _ _ _ _ c.self.invariant _ c.self.view_is c.args.target
          c.requires.target,
    ))

long : (g : Over) (c : goal.After-self-1 g) → length c.copy_words.new.words ≡ length c.self.inside.words.items
long g c = c.copy_words.ensures.total ∙ ap (λ (xs : List ℕ). length xs) c.deref_mut.ensures.value

items : (g : Over) (c : goal.After-self-1 g) → (with_items c.self.inside.words c.copy_words.new.words).items ≡ c.copy_words.new.words
items g c = with_items_is c.self.inside.words c.copy_words.new.words (omega (arith, long g c))

copied : (g : Over) (c : goal.After-self-1 g) →
    IsCopied g.row.WORDS c.self.inside.words.items (with_items c.self.inside.words c.copy_words.new.words).items c.args.source c.args.from
    c.args.target c.args.to c.args.count
copied g c = record {
  total = ap (λ (xs : List ℕ). length xs) (items g c) ∙ long g c;
  copied = λ k h. ap (λ (xs : List ℕ). get_or xs (c.args.target * g.row.WORDS + c.args.to + k) 0) (items g c)
      ∙ c.copy_words.ensures.copied k h
      ∙ ap (λ (xs : List ℕ). get_or xs (c.args.source * g.row.WORDS + c.args.from + k) 0) c.deref_mut.ensures.value;
  below = λ k h. ap (λ (xs : List ℕ). get_or xs k 0) (items g c) ∙ c.copy_words.ensures.below k h
      ∙ ap (λ (xs : List ℕ). get_or xs k 0) c.deref_mut.ensures.value;
  behind = λ k h. ap (λ (xs : List ℕ). get_or xs k 0) (items g c) ∙ c.copy_words.ensures.behind k h
      ∙ ap (λ (xs : List ℕ). get_or xs k 0) c.deref_mut.ensures.value;
}

pub invariant_of-self : goal.invariant_of-self
invariant_of-self g c = pool_written g.row.WORDS _ _ _ _ c.self.invariant _ ((copied g c).total)

pub returns : goal.returns
returns g c = record {
  copied = copied_here g.row.WORDS _ _ _ _ c.self.invariant _ c.self.view_is _ c.args.source c.args.from c.args.target c.args.to
      c.args.count c.requires.source c.requires.target c.requires.from c.requires.to (copied g c);
  below = copied_below g.row.WORDS _ _ _ _ c.self.invariant _ c.self.view_is _ c.args.source c.args.from c.args.target c.args.to
      c.args.count c.requires.source c.requires.target c.requires.from c.requires.to (copied g c);
  behind = copied_behind g.row.WORDS _ _ _ _ c.self.invariant _ c.self.view_is _ c.args.source c.args.from c.args.target c.args.to
      c.args.count c.requires.source c.requires.target c.requires.from c.requires.to (copied g c);
  taken = copied_taken g.row.WORDS _ _ _ _ c.self.invariant _ c.self.view_is _ c.args.source c.args.from c.args.target c.args.to
      c.args.count c.requires.source c.requires.target c.requires.from c.requires.to (copied g c);
  elsewhere = λ f ne. elsewhere g.row.WORDS _ _ _ _ c.self.invariant _ c.self.view_is c.args.target f _ _
      (copied_outside g.row.WORDS _ _ _ _ c.self.invariant _ c.self.view_is _ c.args.source c.args.from c.args.target c.args.to c.args.count
      c.requires.source c.requires.target c.requires.from c.requires.to (copied g c)) ne refl;
  free = written_free g.row.WORDS _ _ _ _ c.self.invariant _ c.self.view_is _;
  total = total g.row.WORDS _ _ _ _ c.self.invariant _ c.self.view_is _ _ refl;
}
