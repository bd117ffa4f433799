use Rattle.std.proofs.Common.{◌≡◌, ℕ, ◌+◌, ◌-◌, ◌*◌, ◌<◌, List, get_or, ap, sym, ◌∙◌, arith}
use Rattle.mx_pool.specs.Frames.{word_at}
use Rattle.mx_pool.proofs.FreeList.{frame_room}
use Rattle.mx_pool.proofs.Changes.{word-now}
use Rattle.mx_pool.proofs.Pool.is_alike.Given.{Over}
use Rattle.mx_pool.proofs.Pool.is_alike.Goals as goal

pub overflow_mul-frame : goal.overflow_mul-frame
overflow_mul-frame g c = omega (arith, frame_room g.row.WORDS _ _ _ _ c.self.invariant _ c.self.view_is c.args.frame c.requires.taken)

pub overflow_add-frame : goal.overflow_add-frame
overflow_add-frame g c = omega (arith, frame_room g.row.WORDS _ _ _ _ c.self.invariant _ c.self.view_is c.args.frame c.requires.taken)

pub are_alike-requires : goal.are_alike-requires
are_alike-requires g c = record {
  inside = rw c.deref.ensures.value (omega (
    arith,
    frame_room g.row.WORDS _ _ _ _ c.self.invariant _ c.self.view_is c.args.frame
        c.requires.taken,
  ));
  some = c.requires.some;
}

-- a word of the frame stands in the store
word : (g : Over) (c : goal.After-are_alike g) (k : ℕ) → k < c.args.count →
    word_at c.args.self.now c.args.frame (c.args.from + k) ≡ get_or c.deref.result.now (c.args.frame * g.row.WORDS + c.args.from + k) 0
word g c k h =
    let at : c.args.frame * g.row.WORDS + (c.args.from + k) ≡ c.args.frame * g.row.WORDS + c.args.from + k = omega arith in
    word-now g.row.WORDS _ _ _ _ c.self.invariant _ c.self.view_is c.args.frame (c.args.from + k) c.requires.taken
    (omega (arith, c.requires.within))
    ∙ ap (λ n. get_or c.self.inside.words.items n 0) at
    ∙ sym (ap (λ (xs : List ℕ). get_or xs (c.args.frame * g.row.WORDS + c.args.from + k) 0) c.deref.ensures.value)

first : (g : Over) (c : goal.After-are_alike g) → word_at c.args.self.now c.args.frame c.args.from
    ≡ get_or c.deref.result.now (c.args.frame * g.row.WORDS + c.args.from) 0
first g c =
    let none : c.args.from ≡ c.args.from + 0 = omega arith in
    let same : c.args.frame * g.row.WORDS + c.args.from + 0 ≡ c.args.frame * g.row.WORDS + c.args.from = omega arith in
    ap (word_at c.args.self.now c.args.frame) none ∙ word g c 0 c.requires.some ∙ ap (λ n. get_or c.deref.result.now n 0) same

pub returns : goal.returns
returns g c = record {
  yes = λ e k h. word g c k h ∙ c.are_alike.ensures.yes e (c.args.frame * g.row.WORDS + c.args.from + k) (omega arith) (omega arith)
      ∙ sym (first g c);
  no = λ same. c.are_alike.ensures.no (λ i least most.
      let k : ℕ = i - (c.args.frame * g.row.WORDS + c.args.from) in
      let at : c.args.frame * g.row.WORDS + c.args.from + k ≡ i = omega arith in
      ap (λ n. get_or c.deref.result.now n 0) (sym at) ∙ sym (word g c k (omega arith)) ∙ same k (omega arith) ∙ first g c);
}
