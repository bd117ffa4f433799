-- A line's permissions and reaches after a change: covered by the range, cut by it, or beside it.
use Rattle.std.proofs.Common.{◌≡◌, ℕ, ◌+◌, ◌-◌, ◌*◌, ◌<◌, ◌≤◌, min, max, List, length, ◌∙◌, arith}
use Rattle.std.proofs.lemmas.Bool.{cases_lt}
use Rattle.std.proofs.lemmas.List.{ext_get_or, get_or-replicate, length-replicate}
use Rattle.mx_words.specs.declared.perm.Perm.{Perm}
use Rattle.mx_words.specs.declared.perm.Perm.TheVariants as P
use Rattle.mx_words.specs.declared.tables.Kind.{Kind}
use Rattle.mx_words.specs.Rights.{perm_at}
use Rattle.mx_words.specs.Reach.{line_at}
use Rattle.mx_trie.specs.declared.laying.Laying.{Laying}
use Rattle.mx_trie.specs.declared.laying.Beside.{Beside}
use Rattle.mx_trie.specs.Filled.{flat_line}
use Rattle.mx_trie.specs.Leaf.{form_reach}
use Rattle.mx_trie.specs.Ranges.{IsApart}
use Rattle.mx_trie.specs.Walk.{most_lines, map_left, map_right}
use Rattle.mx_trie.specs.Laying.{laid_by, IsBeside, IsLaidOver}
use Rattle.mx_trie.proofs.LeafSpans.{length-line, line-at}
use Rattle.mx_trie.proofs.RangeLaws.{with_range-below, with_range-in, with_range-behind}
use Rattle.mx_trie.proofs.LineReaches.{left-before, left-in, right-behind, right-in}
use Rattle.mx_trie.proofs.Stored.{reaches-fit}

-- a line that has these permissions word by word
pub line-is : (m : List Perm) (z : ℕ) (ps : List Perm) → length ps ≡ 16 →
    ((k : ℕ) → k < 16 → perm_at m (z * 16 + k) ≡ perm_at ps k) → line_at m (z * 16) ≡ ps
line-is m z ps long told = search (arith, ext_get_or P.None, length-line, line-at, told)

module _ (kind : Kind) (m : List Perm) (lay : Laying) (b : Beside) (known : IsBeside kind m lay b) (z : ℕ)
    (below : z < most_lines) where
  -- a line of which all words lie in the range
  pub cover-perms : lay.first ≤ z * 16 → z * 16 + 16 ≤ lay.end → line_at (laid_by lay m) (z * 16) ≡ flat_line lay.perm
  cover-perms from to =
      search (arith, line-is (laid_by lay m) z (flat_line lay.perm) (length-replicate 16 lay.perm), with_range-in, get_or-replicate)

  -- a line of which none does
  pub apart-perms : IsApart lay.first lay.end (z * 16) (z * 16 + 16) →
      line_at (laid_by lay m) (z * 16) ≡ line_at m (z * 16)
  apart-perms apart =
      search (arith, line-is, length-line, line-at, lay.first, lay.end, with_range-below, lay.perm, with_range-behind)

  -- a line of which some do
  module _ (before : lay.first < z * 16 + 16) (behind : z * 16 < lay.end) where
    pub cut-perms : (old new : List Perm) (from to : ℕ) → old ≡ line_at m (z * 16) →
        from ≡ max lay.first (z * 16) - z * 16 → to ≡ min lay.end (z * 16 + 16) - z * 16 →
        IsLaidOver old new from to lay.perm → line_at (laid_by lay m) (z * 16) ≡ new
    cut-perms old new from to was from_is to_is over = line-is (laid_by lay m) z new over.whole (λ k inside.
        grind (
          arith,
          cases_lt k from,
          cases_lt k to,
          over.before,
          over.inside,
          over.behind,
          line-at,
          with_range-below,
          with_range-in,
          with_range-behind,
        ))

    pub cut-left-kept : z * 16 < lay.first → map_left kind (laid_by lay m) z ≡ min b.left (form_reach kind)
    cut-left-kept lt =
        grind (arith, left-before kind m lay b known z, known.left, reaches-fit kind m z (omega arith) below)

    pub cut-right-kept : lay.end < z * 16 + 16 → map_right kind (laid_by lay m) z ≡ min b.right (form_reach kind)
    cut-right-kept lt =
        grind (arith, right-behind kind m lay b known z, known.right, reaches-fit kind m z (omega arith) below)

    pub cut-left-new : lay.first ≤ z * 16 →
        map_left kind (laid_by lay m) z ≡ min (z * 16 - lay.first + b.before) (form_reach kind)
    cut-left-new le = search (arith, left-in kind m lay b known z le behind)

    pub cut-right-new : z * 16 + 16 ≤ lay.end →
        map_right kind (laid_by lay m) z ≡ min (lay.end - (z * 16 + 16) + b.behind) (form_reach kind)
    cut-right-new le = right-in kind m lay b known z (omega arith) le ∙ (omega arith)

  -- a line beside the range keeps one of its reaches
  pub beside-left : z * 16 + 16 ≤ lay.first → map_left kind (laid_by lay m) z ≡ map_left kind m z
  beside-left le = left-before kind m lay b known z (omega arith) (omega arith)

  pub beside-right : lay.end ≤ z * 16 → map_right kind (laid_by lay m) z ≡ map_right kind m z
  beside-right le = right-behind kind m lay b known z (omega arith)
