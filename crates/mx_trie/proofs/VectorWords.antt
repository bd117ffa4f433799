-- The words of a page and of a region that have a vector, by the vector's digits.
use Rattle.std.proofs.Common.{◌≡◌, ℕ, ◌/◌, ◌%◌, false, List, refl, arith}
use Rattle.mx_words.specs.declared.perm.Perm.{Perm}
use Rattle.mx_words.specs.declared.tables.Kind.{Kind}
use Rattle.mx_words.specs.Rights.{number, perm_at}
use Rattle.mx_trie.specs.Digits.{digit}
use Rattle.mx_trie.specs.Walk.{Frames, is_pointer}
use Rattle.mx_trie.specs.Shown.{IsPage, IsRegion}
use Rattle.mx_trie.proofs.FlatLaws.{vector-part}
use Rattle.mx_trie.proofs.EvenTables.{even-of}

module _ (kind : Kind) (upper leaf spill : Frames) (m : List Perm) (b entry : ℕ) (closed : is_pointer entry ≡ false)
  where
    pub page-word : IsPage kind leaf spill m b entry → (i : ℕ) → i / 1024 ≡ b →
        digit (entry / 4) (i / 128 % 8) ≡ number (perm_at m i)
    page-word page i at =
        search (
          arith,
          vector-part 1024 128 m b (i / 128 % 8) (i % 128) entry,
          page.vector_is closed,
          page.broken,
          even-of 1024 128 m b refl
              refl,
        )

    pub region-word : IsRegion kind upper leaf spill m b entry → (i : ℕ) → i / 1048576 ≡ b →
        digit (entry / 4) (i / 131072 % 8) ≡ number (perm_at m i)
    region-word region i at =
        search (
          arith,
          vector-part 1048576 131072 m b (i / 131072 % 8) (i % 131072) entry,
          region.vector_is closed,
          region.broken,
          even-of
              1048576 131072 m b refl refl,
        )
