-- A line's permissions, written place by place.
use Rattle.std.proofs.Common.{◌≡◌, ℕ, ◌+◌, ◌*◌, ◌<◌, ◌≤◌, List, length, set, arith, get_or-set_other, get_or-set_same, below_more}
use Rattle.std.proofs.Math.ListN.{length-set}
use Rattle.std.proofs.lemmas.List.{ext_get_or}
use Rattle.mx_words.specs.declared.perm.Perm.{Perm}
use Rattle.mx_words.specs.declared.perm.Perm.TheVariants as P
use Rattle.mx_words.specs.declared.perm.Span.{Span}
use Rattle.mx_words.specs.Rights.{perm_at}
use Rattle.mx_words.specs.Reach.{line_at}
use Rattle.mx_table.specs.Tables.{most_words}
use Rattle.mx_trie.specs.Views.{IsRound}
use Rattle.mx_trie.proofs.LeafSpans.{length-line, line-at}

-- the first permissions of line z are told
pub record IsLineTold (m : List Perm) (z place : ℕ) (perms : List Perm) : Type 0 where
  pub long : length perms ≡ 16
  pub told : (k : ℕ) → k < place → perm_at perms k ≡ perm_at m (z * 16 + k)

pub told-more : (m : List Perm) (z place : ℕ) (perms : List Perm) (p : Perm) → place < 16 →
    IsLineTold m z place perms → perm_at m (z * 16 + place) ≡ p →
    IsLineTold m z (place + 1) (set perms place p)
told-more m z place perms p below t e =
    search (arith, below_more, length-set, get_or-set_other, get_or-set_same, t.told)

pub told-all : (m : List Perm) (z place : ℕ) (perms : List Perm) → 16 ≤ place → IsLineTold m z place perms →
    perms ≡ line_at m (z * 16)
told-all m z place perms all t = search (arith, ext_get_or P.None, length-line, line-at, t.told)

-- a span that begins at a word or before it, on which the map has one permission
pub record IsAlong (m : List Perm) (word : ℕ) (s : Span) : Type 0 where
  pub from : s.first ≤ word
  pub whole : s.first + s.count ≤ most_words
  pub alike : (k : ℕ) → s.first ≤ k → k < s.first + s.count → perm_at m k ≡ s.perm

pub along-round : (m : List Perm) (at word : ℕ) (s : Span) → IsRound m at s → at ≤ word → IsAlong m word s
along-round m at word s r le = search (arith, r.alike)

pub round-along : (m : List Perm) (word : ℕ) (s : Span) → IsAlong m word s → word < s.first + s.count → IsRound m word s
round-along m word s a below = search (arith, a.alike)
