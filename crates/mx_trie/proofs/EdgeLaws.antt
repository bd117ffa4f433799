-- Blocks that aren't eighth-uniform, told by two neighbours, or by one of their pages; and those that a range covers.
use Rattle.std.proofs.Common.{◌≡◌, ◌≢◌, ℕ, ◌-◌, ◌*◌, ◌/◌, ◌%◌, ◌<◌, true, false, List, refl, sym, arith}
use Rattle.mx_words.specs.declared.perm.Perm.{Perm}
use Rattle.mx_words.specs.declared.perm.Span.{Span}
use Rattle.mx_words.specs.declared.tables.Kind.{Kind}
use Rattle.mx_words.specs.Runs.{page_words, region_words}
use Rattle.mx_words.specs.Reach.{line_at}
use Rattle.mx_words.specs.Blocks.{is_broken}
use Rattle.mx_words.proofs.BlockLaws.{even_is, whole-even}
use Rattle.mx_words.proofs.BrokenLaws.{block-below, block-above}
use Rattle.mx_trie.specs.declared.laying.Laying.{Laying}
use Rattle.mx_trie.specs.Leaf.{needs_spill}
use Rattle.mx_trie.specs.Laying.{IsLaid}
use Rattle.mx_trie.specs.Views.{IsRound}
use Rattle.mx_trie.proofs.Scans.{round-perm}
use Rattle.std.proofs.lemmas.Bool.{true_from_ne_false}
use Rattle.mx_trie.proofs.EvenTables.{even-of, uniform-from}
use Rattle.mx_trie.proofs.FlatLaws.{flat-needs, region-page-even}
use Rattle.mx_trie.proofs.LineCuts.{line-is}
use Rattle.mx_trie.specs.Filled.{flat_line}
use Rattle.std.proofs.lemmas.List.{get_or-replicate, length-replicate}

-- a page of a region that isn't broken isn't either
pub even-page : (m : List Perm) (x y : ℕ) → y / 1024 ≡ x → is_broken region_words m x ≡ false →
    is_broken page_words m y ≡ false
even-page m x y at whole =
    search (
      arith,
      even_is 1024 128 m y refl refl (omega arith),
      region-page-even m x y at,
      even-of 1048576 131072 m x refl refl
          (omega arith) whole,
    )

pub broken_region : (m : List Perm) (x at : ℕ) → at / 1048576 ≡ x → is_broken page_words m (at / 1024) ≡ true →
    true ≡ is_broken region_words m x
broken_region m x at inside broken =
    sym (true_from_ne_false _ (λ e. cc (broken, even-page m x (at / 1024) (omega arith) e)))

-- a page in which two neighbours of one eighth differ
pub edge_page : (m : List Perm) (at : ℕ) (before here : Span) → at % 128 ≢ 0 → IsRound m (at - 1) before →
    IsRound m at here →
    here.perm ≢ before.perm → is_broken page_words m (at / 1024) ≡ true
edge_page m at before here within last first other = true_from_ne_false _ (λ e. let part =
    (even-of 1024 128 m (at / 1024) refl refl (omega arith) e).parts (at % 1024 / 128) (omega arith) in
    grind (arith, part.alike (at % 128), part.alike (at % 128 - 1), round-perm m at here first, round-perm m (at - 1) before last))

-- blocks of which all words lie in a range that has one permission
module _ (m : List Perm) (lay : Laying) (is : IsLaid m lay) (b : ℕ) where
  -- between the blocks of its two ends
  pub inner-whole : (size part : ℕ) → size / 8 ≡ part → size ≡ 8 * part → 0 < part → lay.first / size < b →
      b < (lay.end - 1) / size → is_broken size m b ≡ false
  inner-whole size part eighth eight some above below =
      search (arith, block-above, lay.first, block-below, lay.end, whole-even, uniform-from, lay.perm, is.laid)

  pub inner-needs : (kind : Kind) → lay.first / 16 < b → b < (lay.end - 1) / 16 →
      needs_spill kind (line_at m (b * 16)) ≡ false
  inner-needs kind above below =
      search (arith, flat-needs kind lay.perm, line-is m b (flat_line lay.perm) (length-replicate 16 lay.perm), is.laid, get_or-replicate)
