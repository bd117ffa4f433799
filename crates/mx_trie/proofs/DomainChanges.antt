-- A change of one domain, for each map that its tables stand for.
use Rattle.std.proofs.Common.{◌≡◌, ℕ, ◌<◌, ◌≤◌, List, length, arith}
use Rattle.std.proofs.lemmas.List.{ext_get_or}
use Rattle.mx_words.specs.declared.perm.Perm.{Perm}
use Rattle.mx_words.specs.declared.perm.Perm.TheVariants as P
use Rattle.mx_words.specs.declared.tables.Kind.{Kind}
use Rattle.mx_words.specs.Rights.{perm_at}
use Rattle.mx_trie.specs.declared.laying.Laying.{Laying}
use Rattle.mx_trie.specs.declared.laying.Beside.{Beside}
use Rattle.mx_trie.specs.Leaf.{IsTrieKind}
use Rattle.mx_trie.specs.Walk.{Frames}
use Rattle.mx_trie.specs.Read.{read_map}
use Rattle.mx_trie.specs.Shown.{IsDomain}
use Rattle.mx_trie.specs.Laying.{laid_by, IsBeside}
use Rattle.mx_trie.specs.Changed.{IsDomainChanged}
use Rattle.mx_trie.specs.Standing.{IsRead}
use Rattle.mx_trie.proofs.HeapLaws.{move-none}
use Rattle.mx_trie.proofs.MapsRead.{read_map-is}
use Rattle.mx_trie.proofs.RangeLaws.{with_range-below, with_range-in, with_range-behind, length-with_range}

-- a map that has the permission already stays as it is
pub laid-already : (lay : Laying) (m : List Perm) → lay.end ≤ length m →
    ((i : ℕ) → lay.first ≤ i → i < lay.end → perm_at m i ≡ lay.perm) → laid_by lay m ≡ m
laid-already lay m inside has = ext_get_or P.None (laid_by lay m) m (length-with_range lay.first lay.end lay.perm m) (λ i below.
    grind (
      arith,
      with_range-below lay.first lay.end lay.perm m i,
      with_range-in lay.first lay.end lay.perm m i inside,
      with_range-behind
          lay.first lay.end lay.perm m i,
      has i,
    ))

module _ (kind : Kind) (k : IsTrieKind kind) (upper leaf spill : Frames) (lay : Laying) (root : ℕ)
    (read : IsRead kind lay.words upper leaf spill root) where
  -- nothing is written where the domain has the permission
  pub domain-has : ((i : ℕ) → lay.first ≤ i → i < lay.end →
      perm_at (read_map kind upper leaf spill lay.words root) i ≡ lay.perm) →
      IsDomainChanged kind upper leaf spill upper leaf spill (λ m. length m ≡ lay.words) lay root
  domain-has has = search (arith, move-none, read_map-is, laid-already)

  -- what is known of the map that is read holds of each map for which the tables stand
  pub domain-known : (beside : Beside) (upper' leaf' spill' : Frames) →
      IsBeside kind (read_map kind upper leaf spill lay.words root) lay beside →
      IsDomainChanged kind upper leaf spill upper' leaf' spill' (λ m. IsBeside kind m lay beside) lay root →
      IsDomainChanged kind upper leaf spill upper' leaf' spill' (λ m. length m ≡ lay.words) lay root
  domain-known beside upper' leaf' spill' known told =
      let is = λ (m : List Perm) (long : length m ≡ lay.words) (d : IsDomain kind upper leaf spill m root).
      rw (read_map-is kind k upper leaf spill m (omega arith) root lay.words d long) at known in
      search (arith, told.shown, is)
