-- Whether the words of a line, and of an eighth of a page, have one permission, told by leaf entries.
use Rattle.std.proofs.Common.{◌≡◌, ℕ, ◌+◌, ◌-◌, ◌*◌, ◌/◌, ◌%◌, ◌<◌, ◌≤◌, true, false, List, length, Option, Some, None, is_some, ap, ◌∙◌}
use Rattle.std.proofs.Common.{arith}
use Rattle.std.proofs.lemmas.List.{get_or-replicate}
use Rattle.mx_words.specs.declared.perm.Perm.{Perm}
use Rattle.mx_words.specs.declared.perm.Span.{Span}
use Rattle.mx_words.specs.declared.tables.Kind.{Kind}
use Rattle.mx_words.specs.Rights.{perm_at}
use Rattle.mx_words.specs.Reach.{line_at}
use Rattle.mx_table.specs.Tables.{most_words}
use Rattle.mx_trie.specs.Filled.{flat_line}
use Rattle.mx_trie.specs.Leaf.{IsTrieKind, spill_number, entry_run, IsStored}
use Rattle.mx_trie.specs.Walk.{Frames, most_lines}
use Rattle.mx_trie.specs.Shown.{IsLine}
use Rattle.mx_trie.specs.Steps.{IsPermOf}
use Rattle.mx_trie.proofs.EntryLaws.{some-named}
use Rattle.mx_trie.proofs.EntryCuts.{IsCut, entry-cut}
use Rattle.mx_trie.proofs.FlatLaws.{flat-needs}
use Rattle.mx_trie.proofs.LeafSpans.{line-at}
use Rattle.mx_trie.proofs.LineCuts.{line-is}
use Rattle.mx_trie.proofs.LineReads.{stored-plain}
use Rattle.mx_trie.proofs.Stored.{line-named}

module _ (kind : Kind) (k : IsTrieKind kind) (spill : Frames) (m : List Perm) (z e : ℕ) (few : length m ≤ most_words)
    (below : z < most_lines) (line : IsLine kind spill m z e) where
  module _ (alike : (i : ℕ) → i < 16 → perm_at m (z * 16 + i) ≡ perm_at m (z * 16)) where
    flat : line_at m (z * 16) ≡ flat_line (perm_at m (z * 16))
    flat = search (arith, line-is, get_or-replicate)

    -- an entry with a spill word has more permissions than one
    pub mixed-crowded : is_some (spill_number kind e) ≡ true → ⊥
    mixed-crowded some = search (arith, some-named, line-named, flat, flat-needs)

    -- and so has one whose first run ends before the line
    pub mixed-short : (run : Span) → spill_number kind e ≡ None →
        ((perms : List Perm) (l r n : ℕ) → IsStored kind perms l r n (z * 16) e 0 →
        run ≡ entry_run kind perms l r (z * 16) (z * 16)) →
        run.first + run.count < z * 16 + 16 → ⊥
    mixed-short run none made short =
        let stored = stored-plain kind k spill m z e few below line none in
        let zero_is : z * 16 - z * 16 ≡ 0 = omega arith in
        let told = rw (flat, zero_is, flat-needs kind (perm_at m (z * 16))) at (made _ _ _ _ stored) in grind arith

  module _ (run : Span) (none : spill_number kind e ≡ None)
      (made : (perms : List Perm) (l r n : ℕ) → IsStored kind perms l r n (z * 16) e 0 →
      run ≡ entry_run kind perms l r (z * 16) (z * 16)) where
    cut-of : IsCut (line_at m (z * 16)) (z * 16) (z * 16) run
    cut-of =
        (let stored = stored-plain kind k spill m z e few below line none in
        entry-cut kind _ _ _ _ (z * 16) e 0 (z * 16) run stored (omega arith) (omega arith) (made _ _ _ _ stored))

    -- the first run of an entry without spill word stays below 2^24
    pub run-whole : run.first + run.count ≤ most_words
    run-whole = cut-of.whole

    -- a run that ends behind the line has one permission on the line
    pub alike-run : z * 16 + 16 ≤ run.first + run.count → (i : ℕ) → i < 16 → perm_at m (z * 16 + i) ≡ run.perm
    alike-run long i inside = (let cut = cut-of in search (arith, line-at, cut.alike))

-- nothing is there
pub some-none : (o : Option ℕ) → is_some o ≡ false → o ≡ None
some-none o e = grind arith

-- nothing is told where words differ, and a permission where they don't
pub perm-none : (m : List Perm) (first count : ℕ) →
    (((k : ℕ) → k < count → perm_at m (first + k) ≡ perm_at m first) → ⊥) → IsPermOf m first count None
perm-none m first count mixed = search (arith, mixed)

pub perm-some : (m : List Perm) (first count : ℕ) (q : Perm) → ((k : ℕ) → k < count → perm_at m (first + k) ≡ q) →
    IsPermOf m first count (Some q)
perm-some m first count q alike = search (arith, alike)

-- the words of an eighth of a page, line by line
module _ (m : List Perm) (y part : ℕ) (below : part < 8) where
  -- its first line has more permissions than one
  pub eighth-first : IsPermOf m ((y * 64 + 8 * part) * 16) 16 None → IsPermOf m (y * 1024 + part * 128) 128 None
  eighth-first t =
      (let first : (y * 64 + 8 * part) * 16 ≡ y * 1024 + part * 128 = omega arith in search (arith, perm-none, t.mixed, first))

  -- another line hasn't the first one's permission
  pub eighth-other : (p : Perm) (j : ℕ) → j < 8 → perm_at m ((y * 64 + 8 * part) * 16 + 0) ≡ p →
      (((i : ℕ) → i < 16 → perm_at m ((y * 64 + 8 * part + j) * 16 + i) ≡ p) → ⊥) →
      IsPermOf m (y * 1024 + part * 128) 128 None
  eighth-other p j inside is other =
      perm-none m (y * 1024 + part * 128) 128 (λ alike. other (λ i low. (let h = alike (j * 16 + i) (omega arith) in grind arith)))

  -- all lines have it
  pub eighth-all : (p : Perm) → ((j : ℕ) → j < 8 → (i : ℕ) → i < 16 →
      perm_at m ((y * 64 + 8 * part + j) * 16 + i) ≡ p) → IsPermOf m (y * 1024 + part * 128) 128 (Some p)
  eighth-all p alike =
      perm-some m (y * 1024 + part * 128) 128 p (λ k inside. ap (perm_at m) (omega arith)
      ∙ alike (k / 16) (omega arith) (k % 16) (omega arith))
