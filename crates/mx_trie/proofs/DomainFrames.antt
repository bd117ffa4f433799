-- The frame law of a domain: where its frames stay, it owns the same, and stands for the same maps.
use Rattle.std.proofs.Common.{◌≡◌, ℕ, ◌<◌, inl, inr, List, refl, arith}
use Rattle.mx_words.specs.declared.perm.Perm.{Perm}
use Rattle.mx_words.specs.declared.tables.Kind.{Kind}
use Rattle.mx_words.proofs.CountingLaws.{count_below_agree, sum_below_agree}
use Rattle.mx_trie.specs.Leaf.{IsTrieKind}
use Rattle.mx_trie.specs.Walk.{Frames, most_regions, root_place, root_word}
use Rattle.mx_trie.specs.Owned.{RegionOwns, RegionsOwn, DomainOwns, IsRootTable, domain_mids, domain_leaves, domain_spills}
use Rattle.mx_trie.specs.Shown.{IsDomain}
use Rattle.mx_trie.proofs.EntryPuts.{IsKept}
use Rattle.mx_trie.proofs.NodeLaws.{node-kept}
use Rattle.mx_trie.proofs.PageLines.{word-kept}
use Rattle.mx_trie.proofs.RegionFrames.{region-owns-same, region-table-kept, region-kept, region_leaves-same, region_spills-same}

module _ (kind : Kind) (upper leaf spill upper' leaf' spill' : Frames) (root : ℕ)
    (kept : IsKept (DomainOwns kind) upper leaf spill upper' leaf' spill' root) where
  root-word : (x : ℕ) → root_word upper' root x ≡ root_word upper root x
  root-word x = word-kept upper upper' root (root_place x) (kept 0 root (inl (refl, refl)))

  regions-stay : (x : ℕ) → x < most_regions →
      IsKept (RegionOwns kind) upper leaf spill upper' leaf' spill' (root_word upper root x)
  regions-stay x below a g own = kept a g (inr (x, (below, own)))

  regions-owned : (x a g : ℕ) → x < most_regions → RegionsOwn kind upper' leaf' root x a g →
      RegionsOwn kind upper leaf root x a g
  regions-owned x a g below own =
      region-owns-same kind upper leaf spill upper' leaf' spill' (root_word upper root x) (regions-stay x below) a g (rw root-word at own)

  pub domain-owns-same : (a g : ℕ) → DomainOwns kind upper' leaf' root a g → DomainOwns kind upper leaf root a g
  domain-owns-same a g own = elim own [ inl h ↦ inl h | inr h ↦ inr (h.0, (h.1.0, regions-owned h.0 a g h.1.0 h.1.1)) ]

  pub domain-table-kept : IsRootTable kind upper leaf spill root → IsRootTable kind upper' leaf' spill' root
  domain-table-kept table = record {
    node = node-kept _ _ 0 root most_regions _ _ table.node kept regions-owned;
    tables = λ x below.
        rw (root-word x) (region-table-kept kind upper leaf spill upper' leaf' spill' _ (regions-stay x below) (table.tables x below));
  }

  pub domain-kept : IsTrieKind kind → (m : List Perm) → IsDomain kind upper leaf spill m root →
      IsDomain kind upper' leaf' spill' m root
  domain-kept k m domain x below =
      rw root-word (region-kept kind upper leaf spill upper' leaf' spill' _ (regions-stay x below) k m x (domain x below))

  pub domain_mids-same : domain_mids upper root ≡ domain_mids upper' root
  domain_mids-same = search (arith, count_below_agree, root-word)

  pub domain_leaves-same : domain_leaves upper root ≡ domain_leaves upper' root
  domain_leaves-same =
      sum_below_agree _ _ _ (λ x below. cc (
        root-word x,
        region_leaves-same kind upper leaf spill upper' leaf' spill' _
            (regions-stay x below),
      ))

  pub domain_spills-same : domain_spills kind upper leaf root ≡ domain_spills kind upper' leaf' root
  domain_spills-same =
      search (arith, sum_below_agree, root-word, region_spills-same kind upper leaf spill upper' leaf' spill', regions-stay)
