-- The tables of a domain, page by page.
use Rattle.std.proofs.Common.{◌≡◌, ℕ, ◌/◌, ◌%◌, ◌<◌, ◌&&◌, true, false, List, refl, sym, ◌∙◌, arith}
use Rattle.std.proofs.lemmas.Bool.{and_parts}
use Rattle.mx_words.specs.declared.perm.Perm.{Perm}
use Rattle.mx_words.specs.declared.tables.Kind.{Kind}
use Rattle.mx_words.specs.Runs.{page_words}
use Rattle.mx_words.specs.Blocks.{is_broken}
use Rattle.mx_pool.specs.Frames.{IsTaken, word_at}
use Rattle.mx_trie.specs.Walk.{Frames, most_pages, is_pointer, root_word, mid_word, has_mid, has_leaf}
use Rattle.mx_trie.specs.Owned.{IsRootTable}
use Rattle.mx_trie.specs.Shown.{AreLines, IsPage, IsDomain}
use Rattle.mx_trie.specs.After.{IsPathTaken}
use Rattle.mx_trie.proofs.EdgeLaws.{even-page}

module _ (kind : Kind) (upper leaf spill : Frames) (root y : ℕ) (below : y < most_pages) where
  -- the tables on the way to a page's entry, and its lines
  module _ (table : IsRootTable kind upper leaf spill root) where
    pub path-taken : IsPathTaken upper root y
    path-taken = search (arith, table.tables)

    pub leaf-taken : (e f : ℕ) → e ≡ root_word upper root (y / 1024) → f ≡ word_at upper (e / 4) (y % 1024) →
        has_leaf upper root y ≡ true → IsTaken leaf (f / 4)
    leaf-taken e f entry frame leafed = search (arith, table.tables, and_parts)

  module _ (m : List Perm) (shown : IsDomain kind upper leaf spill m root) where
    page : has_mid upper root (y / 1024) ≡ true → IsPage kind leaf spill m y (mid_word upper root y)
    page opened = search (arith, (shown (y / 1024) (omega arith)).pages opened (y % 1024) (omega arith))

    -- a page has a leaf table just where it is broken
    pub leaf-broken : has_leaf upper root y ≡ is_broken page_words m y
    leaf-broken = elim (has_mid upper root (y / 1024)) as (λ b. has_mid upper root (y / 1024) ≡ b
        → (b && is_pointer (mid_word upper root y)) ≡ is_broken page_words m y) [
          | true ↦ λ e. (page e).broken
          | false ↦ λ e. sym (even-page m (y / 1024) y refl (sym (shown (y / 1024) (omega arith)).broken ∙ e))
        ] refl

    pub leaf-lines : (e f : ℕ) → e ≡ root_word upper root (y / 1024) → f ≡ word_at upper (e / 4) (y % 1024) →
        has_leaf upper root y ≡ true → AreLines kind leaf spill m y (f / 4)
    leaf-lines e f entry frame leafed = search (arith, page, and_parts)
