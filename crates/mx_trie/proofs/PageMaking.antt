-- A leaf table that is filled line by line, for a page that has a vector.
use Rattle.std.proofs.Common.{◌≡◌, ℕ, ◌+◌, ◌*◌, inl, inr, List, length, None, ◌∙◌, arith}
use Rattle.mx_words.specs.declared.perm.Perm.{Perm}
use Rattle.mx_words.specs.declared.tables.Kind.{Kind}
use Rattle.mx_words.specs.Blocks.{IsEven}
use Rattle.mx_words.specs.Reach.{vector}
use Rattle.mx_words.specs.Runs.{page_words}
use Rattle.mx_words.proofs.CountingLaws.{cases_below}
use Rattle.mx_trie.specs.declared.laying.Outer.{Outer}
use Rattle.mx_trie.specs.Leaf.{spill_number}
use Rattle.mx_trie.specs.Walk.{Frames}
use Rattle.mx_trie.specs.Shown.{IsLine}
use Rattle.mx_trie.specs.Laying.{IsOuter}
use Rattle.mx_trie.specs.Steps.{IsPageMade, IsPlaceWritten}

pub making-more : (kind : Kind) (words : ℕ) (leaf leaf' leaf'' : Frames) (outer : Outer) (y e frame next entry : ℕ) →
    IsPageMade kind words leaf leaf' outer y e frame next →
    IsPlaceWritten leaf' leaf'' frame next entry → spill_number kind entry ≡ None →
    ((m : List Perm) (spill : Frames) → length m ≡ words → IsOuter kind m y outer → IsEven m (y * page_words) 128 →
    e ≡ vector page_words m (y * page_words) → IsLine kind spill m (y * 64 + next) entry) →
    IsPageMade kind words leaf leaf'' outer y e frame (next + 1)
making-more kind words leaf leaf' leaf'' outer y e frame next entry made written plain stands = record {
  was_free = made.was_free;
  taken = written.taken;
  elsewhere = search (arith, written.elsewhere, made.elsewhere);
  free = omega arith;
  total = written.total ∙ made.total;
  none = λ k lt. grind (arith, cases_below, written.others, made.none);
  lines = λ k lt m spill long o even is. elim (cases_below k next (omega arith)) [
    | inl h ↦ rw (written.others k (λ f. omega arith)) (made.lines k h m spill long o even is)
    | inr h ↦ rw (h, written.here) (stands m spill long o even is)
  ];
}
