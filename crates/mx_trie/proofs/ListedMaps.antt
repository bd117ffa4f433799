-- Tables of which each domain is read as a map of a list.
use Rattle.std.proofs.Common.{◌≡◌, ℕ, ◌<◌, List, [], length, get_or, arith}
use Rattle.std.proofs.lemmas.List.{get_or-map}
use Rattle.std.proofs.lemmas.List.{ext_get_or}
use Rattle.mx_words.specs.declared.perm.Perm.{Perm}
use Rattle.mx_words.specs.declared.tables.Kind.{Kind}
use Rattle.mx_trie.specs.Walk.{Frames}
use Rattle.mx_trie.specs.Read.{read_map, read_maps}
use Rattle.mx_trie.specs.Standing.{map_at}
use Rattle.mx_trie.specs.Shape.{length-read_maps}

pub read-as : (kind : Kind) (words : ℕ) (upper leaf spill : Frames) (roots : List ℕ) (list : List (List Perm)) →
    length list ≡ length roots →
    ((d : ℕ) → d < length roots → map_at kind words upper leaf spill roots d ≡ get_or list d []) →
    read_maps kind upper leaf spill words roots ≡ list
unfolding read_maps
read-as kind words upper leaf spill roots list long each =
    search (arith, ext_get_or {A = List Perm} [], length-read_maps, get_or-map (read_map kind upper leaf spill words) roots, each)
