-- What tables that stand take, and what they need after a change.
use Rattle.std.proofs.Common.{◌≡◌, ℕ, ◌+◌, ◌*◌, ◌<◌, ◌≤◌, true, List, [], length, get_or, IsTrue, refl, arith}
use Rattle.std.proofs.lemmas.Bool.{cases_lt}
use Rattle.std.proofs.lemmas.List.{get_or-map}
use Rattle.mx_words.specs.declared.perm.Perm.{Perm}
use Rattle.mx_words.specs.declared.tables.Kind.{Kind}
use Rattle.mx_words.specs.declared.tables.Need.{Need}
use Rattle.mx_words.specs.Changes.{changed_map, grant_of}
use Rattle.mx_words.specs.Newest.{laid}
use Rattle.mx_words.specs.Counting.{sum_below}
use Rattle.mx_words.specs.Need.{need, fits}
use Rattle.mx_words.specs.Runs.{broken_blocks, page_words, region_words}
use Rattle.mx_words.proofs.BrokenLaws.{broken_blocks-after}
use Rattle.mx_words.proofs.CountingLaws.{sum_below_agree, sum_below_at_most}
use Rattle.mx_words.proofs.MapLaws.{length-changed_map}
use Rattle.mx_table.specs.declared.change.Change.{Change}
use Rattle.mx_table.specs.Change.{given, changed}
use Rattle.mx_table.specs.Tables.{most_words}
use Rattle.mx_table.proofs.ChangedMaps.{length-changed, changed-at}
use Rattle.mx_table.proofs.WithinLaws.{within-parts, within-whole}
use Rattle.mx_pool.specs.Frames.{free_in}
use Rattle.mx_trie.specs.Leaf.{IsTrieKind, form_reach}
use Rattle.mx_trie.specs.Walk.{Frames}
use Rattle.mx_trie.specs.Read.{read_map, read_maps}
use Rattle.mx_trie.specs.Owned.{domain_mids, domain_leaves, domain_spills}
use Rattle.mx_trie.specs.Laying.{spill_lines}
use Rattle.mx_trie.specs.After.{IsNeedOf, maps_after}
use Rattle.mx_trie.specs.Standing.{root_at, map_at, IsTables, IsStanding}
use Rattle.mx_trie.specs.Shape.{length-read_map, length-read_maps}
use Rattle.mx_trie.proofs.ListedMaps.{read-as}
use Rattle.mx_trie.proofs.NeedLaws.{spill-two, sum_below-each, need-listed}
use Rattle.mx_trie.proofs.ShownCounts.{mids-shown, leaves-shown, spills-shown}

module _ (kind : Kind) (upper leaf spill : Frames) (words : ℕ) (roots : List ℕ) where
  pub map-read : (d : ℕ) → d < length roots →
      get_or (read_maps kind upper leaf spill words roots) d [] ≡ map_at kind words upper leaf spill roots d
  unfolding read_maps
  map-read d below = get_or-map (read_map kind upper leaf spill words) roots d 0 [] below

  pub long : (d : ℕ) → length (map_at kind words upper leaf spill roots d) ≡ words
  long d = length-read_map kind upper leaf spill words roots (root_at roots d)

  module _ (k : IsTrieKind kind) (few : words ≤ most_words) where
    pub need-read : IsNeedOf kind (length roots) (map_at kind words upper leaf spill roots)
        (need kind (read_maps kind upper leaf spill words roots))
    need-read = search (arith, need-listed, length-read_maps, map-read, long)

    pub need-changed : (change : Change) →
        IsNeedOf kind (length roots) (maps_after change (map_at kind words upper leaf spill roots))
        (need kind (changed change (read_maps kind upper leaf spill words roots)))
    need-changed change =
        search (arith, need-listed, length-changed, length-read_maps, changed-at, map-read, long, length-changed_map)

-- the frames that are free, and those that the maps need, are all frames; and two for each domain are free
pub record IsCounted (n : ℕ) (upper leaf spill : Frames) (limit needed : Need) : Type 0 where
  pub upper_free : free_in upper + needed.upper ≡ limit.upper + 2 * n
  pub leaf_free : free_in leaf + needed.leaf ≡ limit.leaf + 2 * n
  pub spill_free : free_in spill + needed.spill ≡ limit.spill + 2 * n
  pub upper_room : 2 * n ≤ free_in upper
  pub leaf_room : 2 * n ≤ free_in leaf
  pub spill_room : 2 * n ≤ free_in spill

module _ (kind : Kind) (k : IsTrieKind kind) (upper leaf spill : Frames) (words : ℕ) (roots : List ℕ) (limit : Need)
    (stands : IsStanding kind upper leaf spill roots words limit) where
  abbrev maps : ℕ → List Perm
  maps = map_at kind words upper leaf spill roots

  pub frames-counted : IsCounted (length roots) upper leaf spill limit (need kind (read_maps kind upper leaf spill words roots))
  frames-counted =
      let is = need-read kind upper leaf spill words roots k stands.tables.few_words in
      let most = within-parts (need kind (read_maps kind upper leaf spill words roots)) limit stands.fit in
      let t = stands.tables in let n : ℕ = length roots in
      let short : (d : ℕ) → length (maps d) ≤ most_words =
      λ d. omega (arith, t.few_words, long kind upper leaf spill words roots d) in
      let u = sum_below_agree n (λ d. domain_mids upper (root_at roots d)) (λ d. broken_blocks region_words (maps d)) (λ d b.
      mids-shown kind k upper leaf spill _ (short d) _ (t.shown d b)) in
      let l = sum_below_agree n (λ d. domain_leaves upper (root_at roots d)) (λ d. broken_blocks page_words (maps d)) (λ d b.
      leaves-shown kind k upper leaf spill _ (short d) _ (t.shown d b)) in
      let s = sum_below_agree n (λ d. domain_spills kind upper leaf (root_at roots d)) (λ d. spill_lines kind (maps d)) (λ d b.
      spills-shown kind k upper leaf spill _ (short d) _ (t.shown d b)) in
      search arith

  -- a change takes at most two more frames of each sort for each domain, so it fits where there are as many beside the spare ones
  module _ (change : Change) (inside : change.first + change.count ≤ words) where
    sum-two : (f : List Perm → ℕ) → ((d : ℕ) (p : Perm) →
        f (laid (grant_of change.first change.count p) (maps d)) ≤ f (maps d) + 2) →
        sum_below (length roots)
        (λ d. f (changed_map change.first change.count (given change (d + 1)) (maps d))) ≤ sum_below (length roots)
        (λ d. f (maps d)) + 2 * length roots
    sum-two f more =
        let le = sum_below_at_most (length roots) (λ d. f (changed_map change.first change.count (given change (d + 1)) (maps d))) (λ d.
        2 + f (maps d)) (λ d below. grind (arith, more)) in
        omega (arith, le, sum_below-each (length roots) 2 (λ d. f (maps d)))

    pub spacious-fits : 4 * length roots ≤ free_in upper → 4 * length roots ≤ free_in leaf →
        (0 < form_reach kind → 4 * length roots ≤ free_in spill) →
        fits kind limit (changed change (read_maps kind upper leaf spill words roots)) ≡ true
    spacious-fits upper_room leaf_room spill_room =
        let few = stands.tables.few_words in
        let all = frames-counted in let len = long kind upper leaf spill words roots in
        let is = need-read kind upper leaf spill words roots k few in
        let new = need-changed kind upper leaf spill words roots k few change in
        let u = sum-two (broken_blocks region_words) (λ d p. broken_blocks-after (maps d) _ _ p (omega (arith, len d)) region_words 131072
        16 refl refl (omega arith) (omega (arith, len d))) in
        let l = sum-two (broken_blocks page_words) (λ d p. broken_blocks-after (maps d) _ _ p (omega (arith, len d)) page_words 128 16384
        refl refl (omega arith) (omega (arith, len d))) in
        let s = sum-two (spill_lines kind) (λ d p. spill-two kind k (maps d) change.first change.count p (omega (arith, len d))
        (omega (arith, len d))) in
        search (arith, within-whole, cases_lt 0 (form_reach kind), spill_room)

  -- tables that stand for the changed maps are read as these, and stand where they fit
  module _ (change : Change) (upper' leaf' spill' : Frames)
      (each : (d : ℕ) → d < length roots →
      map_at kind words upper' leaf' spill' roots d ≡ changed_map change.first change.count (given change (d + 1))
      (map_at kind words upper leaf spill roots d)) where
    pub maps-changed : read_maps kind upper' leaf' spill' words roots ≡ changed change (read_maps kind upper leaf spill words roots)
    maps-changed =
        search (arith, read-as, length-changed, length-read_maps, changed-at, map-read, change.first, change.count)

    pub standing-changed : IsTables kind words upper' leaf' spill' roots → length upper' ≡ length upper →
        length leaf' ≡ length leaf → length spill' ≡ length spill →
        IsTrue (fits kind limit (changed change (read_maps kind upper leaf spill words roots))) →
        IsStanding kind upper' leaf' spill' roots words limit
    standing-changed tables upper_same leaf_same spill_same fit = search (arith, maps-changed)
