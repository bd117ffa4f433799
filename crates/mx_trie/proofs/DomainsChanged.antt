-- The tables of all domains where one of them is changed.
use Rattle.std.proofs.Common.{◌≡◌, ◌≢◌, ℕ, ◌<◌, inl, inr, List, length, sym, ◌∙◌, arith}
use Rattle.std.proofs.lemmas.Bool.{cases_eq}
use Rattle.mx_words.specs.declared.perm.Perm.{Perm}
use Rattle.mx_words.specs.declared.tables.Kind.{Kind}
use Rattle.mx_words.proofs.CountingLaws.{sum_below_changed}
use Rattle.mx_trie.specs.declared.laying.Laying.{Laying}
use Rattle.mx_trie.specs.Leaf.{IsTrieKind}
use Rattle.mx_trie.specs.Walk.{Frames, most_regions}
use Rattle.mx_trie.specs.Owned.{DomainOwns, IsForest}
use Rattle.mx_trie.specs.Shown.{IsDomain}
use Rattle.mx_trie.specs.Laying.{laid_by}
use Rattle.mx_trie.specs.Changed.{IsDomainChanged}
use Rattle.mx_trie.specs.Standing.{root_at, map_at, IsTables}
use Rattle.mx_trie.specs.Shape.{length-read_map}
use Rattle.mx_trie.proofs.HeapLaws.{family-put}
use Rattle.mx_trie.proofs.NodeLaws.{node-taken}
use Rattle.mx_trie.proofs.EntryPuts.{IsKept}
use Rattle.mx_trie.proofs.DomainFrames.{domain-owns-same, domain-table-kept, domain-kept, domain_mids-same, domain_leaves-same}
use Rattle.mx_trie.proofs.DomainFrames.{domain_spills-same}
use Rattle.mx_trie.proofs.RangeLaws.{length-with_range}
use Rattle.mx_trie.proofs.MapsRead.{read_map-is}

module _ (kind : Kind) (k : IsTrieKind kind) (words : ℕ) (upper leaf spill upper' leaf' spill' : Frames)
    (roots : List ℕ) (tables : IsTables kind words upper leaf spill roots) (d : ℕ) (below : d < length roots)
    (lay : Laying) (same : lay.words ≡ words) (root : ℕ) (at : root ≡ root_at roots d)
    (moved : IsDomainChanged kind upper leaf spill upper' leaf' spill' (λ m. length m ≡ lay.words) lay root) where
  changed : IsDomainChanged kind upper leaf spill upper' leaf' spill' (λ m. length m ≡ lay.words) lay (root_at roots d)
  changed = rw at at moved

  abbrev pub map_old : ℕ → List Perm
  map_old = map_at kind words upper leaf spill roots

  others-kept : (e : ℕ) → e < length roots → e ≢ d →
      IsKept (DomainOwns kind) upper leaf spill upper' leaf' spill' (root_at roots e)
  others-kept e inside ne a g own =
      search (arith, changed.move.stays, tables.forest.family.taken, tables.forest.family.apart)

  pub forest-changed : IsForest kind upper' leaf' spill' roots
  forest-changed = record {
    family = family-put _ _ _ _ _ d below tables.forest.family (λ e a g inside ne own.
        domain-owns-same kind upper leaf spill upper' leaf' spill' (root_at roots e) (others-kept e inside ne) a g own)
        (λ e a g inside ne own. others-kept e inside ne a g own) changed.move.none (λ a g own.
        node-taken _ 0 (root_at roots d) most_regions _ changed.table.node a g own);
    tables = λ e inside. elim (cases_eq e d) [
      | inl h ↦ rw h changed.table
      | inr h ↦
          search (arith, domain-table-kept, others-kept, tables.forest.tables)
    ];
  }

  pub map-changed : map_at kind words upper' leaf' spill' roots d ≡ laid_by lay (map_old d)
  map-changed = search (arith, length-with_range, length-read_map, read_map-is, changed.shown, same, tables.shown)

  pub map-others : (e : ℕ) → e < length roots → e ≢ d → map_at kind words upper' leaf' spill' roots e ≡ map_old e
  map-others e inside ne =
      search (
        arith,
        read_map-is,
        length-read_map,
        domain-kept kind upper leaf spill upper' leaf' spill' _ (others-kept e inside ne) k _
            (tables.shown e inside),
      )

  pub tables-changed : IsTables kind words upper' leaf' spill' roots
  tables-changed =
      let ups = sum_below_changed (length roots) d _ _ below (λ e inside ne.
      domain_mids-same kind upper leaf spill upper' leaf' spill' (root_at roots e) (others-kept e inside ne)) in
      let leaves = sum_below_changed (length roots) d _ _ below (λ e inside ne.
      domain_leaves-same kind upper leaf spill upper' leaf' spill' (root_at roots e) (others-kept e inside ne)) in
      let spills = sum_below_changed (length roots) d _ _ below (λ e inside ne.
      domain_spills-same kind upper leaf spill upper' leaf' spill' (root_at roots e) (others-kept e inside ne)) in
      let shown : (e : ℕ) → e < length roots → IsDomain kind upper' leaf' spill' (map_at kind words upper' leaf' spill' roots e)
      (root_at roots e) = λ e inside. elim (cases_eq e d) [
        | inl h ↦ rw (h, map-changed) (changed.shown _ (length-read_map kind upper leaf spill words roots _ ∙ sym same)
            (tables.shown d below))
        | inr h ↦ rw (map-others e inside h) (domain-kept kind upper leaf spill upper' leaf' spill' _ (others-kept e inside h) k _
            (tables.shown e inside))
      ] in
      search (arith, forest-changed, shown, ups, leaves, spills, changed)
