-- The span of a word inside its line, by the run in the whole line, cut at RAM's end.
use Rattle.std.proofs.Common.{◌≡◌, ℕ, ◌+◌, ◌-◌, ◌*◌, ◌/◌, ◌<◌, ◌≤◌, min, List, ◌++◌, length, replicate, arith, length-take, length-drop}
use Rattle.std.proofs.Common.{length-append}
use Rattle.std.specs.List.{slice_range}
use Rattle.std.proofs.lemmas.List.{get_or-take, get_or-drop, get_or_past, get_or-replicate, get_or_append_left, get_or-append_right}
use Rattle.std.proofs.lemmas.List.{ext_get_or, length-replicate}
use Rattle.mx_words.specs.declared.perm.Perm.{Perm}
use Rattle.mx_words.specs.declared.perm.Perm.TheVariants as P
use Rattle.mx_words.specs.Rights.{perm_at}
use Rattle.mx_words.specs.Runs.{line_words}
use Rattle.mx_words.specs.Reach.{span_within, line_at}
use Rattle.mx_words.proofs.RunLaws.{same_eq, same_from}
use Rattle.mx_trie.specs.Laying.{back, ahead}
use Rattle.mx_trie.proofs.Backs.{is-back, is-ahead}
use Rattle.mx_trie.proofs.RunBounds.{IsRunIn, span_within-is}

-- every word has a run: its first word, and the word behind it
pub record Run (m : List Perm) (low high i : ℕ) : Type 0 where
  pub first : ℕ
  pub last : ℕ
  pub run : IsRunIn m low high i first last

pub run_of : (m : List Perm) (low high i : ℕ) → low ≤ i → i < high → high ≤ length m → Run m low high i
run_of m low high i above below within = record {
  first = i - back (i - low) (perm_at m i) m i;
  last = i + 1 + ahead (high - (i + 1)) (perm_at m i) m (i + 1);
  run = search (arith, is-back, is-ahead, same_from, same_eq);
}

-- a line's words
pub length-line : (m : List Perm) (b : ℕ) → length (line_at m (b * line_words)) ≡ line_words
length-line m b = omega (arith, length-take {A = Perm}, length-append {A = Perm}, length-replicate {A = Perm})

-- none behind a list's end, however it is made longer with none
padded-at : (xs : List Perm) (n k : ℕ) → perm_at (xs ++ replicate n P.None) k ≡ perm_at xs k
padded-at xs n k =
    grind (arith, get_or-replicate, get_or_past, get_or_append_left, get_or-append_right, length-replicate)

pub line-at : (m : List Perm) (b k : ℕ) → k < line_words →
    perm_at (line_at m (b * line_words)) k ≡ perm_at m (b * line_words + k)
line-at m b k below =
    let at : b * 16 / 16 * 16 ≡ b * 16 = omega arith in search (arith, padded-at, get_or-take, get_or-drop, at)

-- a run in a whole line is a run in RAM, cut at RAM's end
cut-run : (m xs : List Perm) (a k f l : ℕ) → ((j : ℕ) → j < 16 → perm_at xs j ≡ perm_at m (a + j)) → a + k < length m →
    IsRunIn xs 0 16 k f l → IsRunIn m a (min (a + 16) (length m)) (a + k) (a + f) (min (a + l) (length m))
cut-run m xs a k f l at inside r =
    let there : (j : ℕ) → a ≤ j → j < a + 16 → perm_at m j ≡ perm_at xs (j - a) = search (arith, at) in
    search (arith, there, r.inside, r.before, r.behind)

-- a range that goes beyond RAM is cut
range-cut : (m : List Perm) (i high : ℕ) → i < length m → slice_range m i high ≡ slice_range m i (min high (length m))
range-cut m i high inside = search (arith, ext_get_or P.None, length-take, length-drop, get_or-take)

-- the run of a word within its line, by its run in the whole line
pub line_span-is : (m : List Perm) (b k f l : ℕ) → b * line_words + k < length m →
    IsRunIn (line_at m (b * line_words)) 0 line_words k f l →
    span_within m (b * line_words) (b * line_words + line_words) (b * line_words + k)
    ≡ record {
      first = b * line_words + f;
      count = min (b * line_words + l) (length m) - (b * line_words + f);
      perm =
          perm_at m (b * line_words + k);
    }
line_span-is m b k f l inside r =
    search (arith, range-cut, span_within-is, cut-run m (line_at m (b * 16)) (b * 16) k f l (line-at m b) inside r)
