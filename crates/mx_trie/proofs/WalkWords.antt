-- The words on the way of a walk to some word: each stands for a block of the map, and the tables that they name are taken.
use Rattle.std.proofs.Common.{◌≡◌, ◌≢◌, ℕ, ◌/◌, ◌%◌, ◌<◌, ◌≤◌, true, false, List, [], length, Some, refl, sym, arith, subst, eq-eqb}
use Rattle.std.proofs.lemmas.Bool.{ne_eqb}
use Rattle.mx_words.specs.declared.perm.Perm.{Perm}
use Rattle.mx_words.specs.declared.tables.Kind.{Kind}
use Rattle.mx_table.specs.Tables.{most_words}
use Rattle.mx_pool.specs.Frames.{IsTaken, word_at}
use Rattle.mx_trie.specs.Leaf.{spill_number}
use Rattle.mx_trie.specs.Walk.{Frames, is_pointer, target, root_word}
use Rattle.mx_trie.specs.Owned.{IsLeafTable, IsMidTable}
use Rattle.mx_trie.specs.Read.{read_map}
use Rattle.mx_trie.specs.Shape.{length-read_map}
use Rattle.mx_trie.specs.Shown.{IsLine, IsSomeLine, IsPage, IsRegion, IsDomain}
use Rattle.mx_trie.specs.Standing.{IsRead}

-- whether an entry is a pointer, told by its lowest bits
pub is-open : (e : ℕ) → e % 4 ≡ 0 → is_pointer e ≡ true
is-open e hit = eq-eqb (e % 4) 0 hit

pub is-closed : (e : ℕ) → e % 4 ≢ 0 → is_pointer e ≡ false
is-closed e miss = ne_eqb (e % 4) 0 miss

-- the entries for the region, the page and the line of word i
module _ (kind : Kind) (upper leaf spill : Frames) (m : List Perm) (i : ℕ) (below : i < most_words) where
  pub walk-region : (root a : ℕ) → IsDomain kind upper leaf spill m root → a ≡ root_word upper root (i / 1048576) →
      IsRegion kind upper leaf spill m (i / 1048576) a
  walk-region root a shown e =
      subst (λ (n : ℕ). IsRegion kind upper leaf spill m (i / 1048576) n) (sym e) (shown (i / 1048576) (omega arith))

  pub walk-page : (a b : ℕ) → IsRegion kind upper leaf spill m (i / 1048576) a → is_pointer a ≡ true →
      b ≡ word_at upper (target a) (i / 1024 % 1024) → IsPage kind leaf spill m (i / 1024) b
  walk-page a b region opened e = search (arith, region.pages)

  pub walk-line : (b l : ℕ) → IsPage kind leaf spill m (i / 1024) b → is_pointer b ≡ true →
      l ≡ word_at leaf (target b) (i / 16 % 64) → IsLine kind spill m (i / 16) l
  walk-line b l page opened e = search (arith, page.lines)

-- all of them for the map that is read
module _ (kind : Kind) (upper leaf spill : Frames) (words root : ℕ) (read : IsRead kind words upper leaf spill root)
    (i : ℕ) (below : i < most_words) where
  pub way-few : length (read_map kind upper leaf spill words root) ≤ most_words
  way-few = omega (arith, length-read_map kind upper leaf spill words [] root)

  module _ (a : ℕ) (e : a ≡ root_word upper root (i / 1048576)) where
    pub way-region : IsRegion kind upper leaf spill (read_map kind upper leaf spill words root) (i / 1048576) a
    way-region =
        walk-region kind upper leaf spill (read_map kind upper leaf spill words root) i below root a read.shown e

    module _ (hit : a % 4 ≡ 0) where
      pub way-mid : IsMidTable kind upper leaf spill (a / 4)
      way-mid = search (arith, read.table.tables, is-open)

      module _ (b : ℕ) (f : b ≡ word_at upper (a / 4) (i / 1024 % 1024)) where
        pub way-page : IsPage kind leaf spill (read_map kind upper leaf spill words root) (i / 1024) b
        way-page =
            walk-page kind upper leaf spill (read_map kind upper leaf spill words root) i below a b way-region (is-open a hit) f

        module _ (also : b % 4 ≡ 0) where
          module _ (l : ℕ) (h : l ≡ word_at leaf (b / 4) (i / 16 % 64)) where
            pub way-line : IsLine kind spill (read_map kind upper leaf spill words root) (i / 16) l
            way-line =
                walk-line kind upper leaf spill (read_map kind upper leaf spill words root) i below b l way-page (is-open b also) h

            pub way-spill : (g : ℕ) → spill_number kind l ≡ Some g → IsTaken spill g
            way-spill g named =
                (let t : IsLeafTable kind leaf spill (b / 4) = search (arith, way-mid.tables, is-open) in
                t.parts.taken (i / 16 % 64) 2 g (omega arith) (refl, (cc)))

            pub way-some : IsSomeLine kind spill (i / 16) l
            way-some =
                record { map = read_map kind upper leaf spill words root; few = way-few; line = way-line; taken = way-spill }
