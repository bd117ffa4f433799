-- The reaches of a line, read from the runs that its entry gives.
use Rattle.std.proofs.Common.{◌≡◌, ℕ, ◌+◌, ◌-◌, ◌*◌, ◌<◌, ◌≤◌, List, length, None, arith}
use Rattle.mx_words.specs.declared.perm.Perm.{Perm}
use Rattle.mx_words.specs.declared.perm.Span.{Span}
use Rattle.mx_words.specs.declared.tables.Kind.{Kind}
use Rattle.mx_words.specs.Reach.{line_at}
use Rattle.mx_words.proofs.ReachLaws.{within_round, within_high}
use Rattle.mx_table.specs.Tables.{most_words}
use Rattle.mx_trie.specs.Leaf.{IsTrieKind, spill_number, entry_run, IsStored, IsEntry}
use Rattle.mx_trie.specs.Walk.{Frames, most_lines, line_number, map_left, map_right}
use Rattle.mx_trie.specs.Shown.{IsLine, IsLineOfSome}
use Rattle.mx_trie.proofs.Stored.{line-stored, line-named}

module _ (kind : Kind) (k : IsTrieKind kind) (spill : Frames) (m : List Perm) (z e : ℕ) (few : length m ≤ most_words)
    (below : z < most_lines) (line : IsLine kind spill m z e) (none : spill_number kind e ≡ None) where
  pub stored-plain : IsStored kind (line_at m (z * 16)) (map_left kind m z) (map_right kind m z) (line_number kind e)
      (z * 16) e 0
  stored-plain = search (arith, none, line-stored kind k spill m z e few below line)

  module _ (run : Span) where
    -- the run of the line's first word
    pub first-run : ((perms : List Perm) (l r n : ℕ) → IsStored kind perms l r n (z * 16) e 0 →
        run ≡ entry_run kind perms l r (z * 16) (z * 16)) → run.first + map_left kind m z ≡ z * 16
    first-run made =
        grind (arith, made _ _ _ _ stored-plain, none, line-named kind k spill m z e line, stored-plain.before)

    -- the run of its last word
    pub last-run : ((perms : List Perm) (l r n : ℕ) → IsStored kind perms l r n (z * 16) e 0 →
        run ≡ entry_run kind perms l r (z * 16) (z * 16 + 16 - 1)) →
        run.first + run.count ≡ z * 16 + 16 + map_right kind m z
    last-run made =
        grind (
          arith,
          made _ _ _ _ stored-plain,
          none,
          line-named kind k spill m z e line,
          stored-plain,
          within_high (line_at m (z * 16)) 0
              16,
          within_round (line_at m (z * 16)) 0 16,
        )

-- an entry without spill word is one that the form's calls take
pub entry-plain : (kind : Kind) → IsTrieKind kind → (spill : Frames) (z e : ℕ) → z < most_lines →
    spill_number kind e ≡ None → IsLineOfSome kind spill z e → IsEntry kind (z * 16) e 0
entry-plain kind k spill z e below none some = search (arith, some.map, stored-plain, some.few, some.line)
