-- The maps of tables have the shape that the trait promises.
use Rattle.std.proofs.Common.{◌≡◌, ℕ, ◌-◌, ◌≤◌, List, [], length, ap, ◌∙◌, arith}
use Rattle.std.proofs.lemmas.List.{get_or-map, length-map}
use Rattle.mx_words.specs.declared.perm.Perm.{Perm}
use Rattle.mx_words.specs.declared.tables.Kind.{Kind}
use Rattle.mx_words.specs.declared.tables.Need.{Need}
use Rattle.mx_words.proofs.CountingLaws.{length-list_below}
use Rattle.mx_table.specs.Tables.{map_of, IsShaped}
use Rattle.mx_trie.specs.Walk.{Frames}
use Rattle.mx_trie.specs.Read.{read_at, read_map, read_maps}
use Rattle.mx_trie.specs.Standing.{root_of, IsStanding}

module _ (kind : Kind) (upper leaf spill : Frames) (words : ℕ) (roots : List ℕ) where
  pub length-read_maps : length (read_maps kind upper leaf spill words roots) ≡ length roots
  unfolding read_maps
  length-read_maps = length-map roots (read_map kind upper leaf spill words)

  pub length-read_map : (root : ℕ) → length (read_map kind upper leaf spill words root) ≡ words
  unfolding read_map
  length-read_map root = length-list_below words (read_at kind upper leaf spill root)

  pub map_of-read : (d : ℕ) → 1 ≤ d → d ≤ length roots →
      map_of (read_maps kind upper leaf spill words roots) d
      ≡ read_map kind upper leaf spill words (root_of roots d)
  unfolding read_maps
  map_of-read d first last = get_or-map (read_map kind upper leaf spill words) roots (d - 1) 0 [] (omega arith)

pub length-map_of : (kind : Kind) (upper leaf spill : Frames) (words : ℕ) (roots : List ℕ) (d : ℕ) → 1 ≤ d →
    d ≤ length roots → length (map_of (read_maps kind upper leaf spill words roots) d) ≡ words
length-map_of kind upper leaf spill words roots d first last =
    ap (λ (m : List Perm). length m)
    (map_of-read kind upper leaf spill words roots d first last) ∙ length-read_map kind upper leaf spill
    words roots (root_of roots d)

-- tables that stand have maps of the shape that the trait promises
pub shaped_of : (kind : Kind) (upper leaf spill : Frames) (roots : List ℕ) (words : ℕ) (limit : Need) →
    IsStanding kind upper leaf spill roots words limit →
    IsShaped kind words limit (read_maps kind upper leaf spill words roots)
shaped_of kind upper leaf spill roots words limit stands =
    let same : length (read_maps kind upper leaf spill words roots)
    ≡ length roots = length-read_maps kind upper leaf spill words roots in
    let some = stands.some_domains in
    let few = stands.few_domains in
    record {
      some_words = stands.some_words;
      few_words = stands.tables.few_words;
      some_maps = omega (arith, same, some);
      few_maps = omega (arith, same, few);
      each = λ d domain.
          (let first = domain.first in
          let last = domain.last in
          length-map_of kind upper leaf spill words roots d (omega (arith, first)) (omega (arith, last, same)));
      limited = stands.limited;
      fit = stands.fit;
    }
