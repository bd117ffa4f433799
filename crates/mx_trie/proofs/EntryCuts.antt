-- The run that an entry gives, cut to its line, is a span of the map.
use Rattle.std.proofs.Common.{◌≡◌, ℕ, ◌+◌, ◌-◌, ◌*◌, ◌<◌, ◌≤◌, ◌⊎◌, ◌==◌, Bool, min, max, List, length, if◌then◌else◌, arith}
use Rattle.std.proofs.lemmas.Bool.Decides.{eqb_tells}
use Rattle.mx_words.specs.declared.perm.Perm.{Perm}
use Rattle.mx_words.specs.declared.perm.Span.{Span}
use Rattle.mx_words.specs.declared.tables.Kind.{Kind}
use Rattle.mx_words.specs.Reach.{line_at}
use Rattle.mx_words.proofs.ReachLaws.{within_round, within_high}
use Rattle.mx_table.specs.Tables.{most_words}
use Rattle.mx_words.specs.Rights.{perm_at}
use Rattle.mx_trie.specs.Leaf.{IsTrieKind, needs_spill, entry_run, IsStored, IsEntry}
use Rattle.mx_trie.specs.Views.{IsRound}
use Rattle.mx_trie.specs.Walk.{Frames, spilled_word, most_lines}
use Rattle.mx_trie.specs.Shown.{IsLine, IsSomeLine}
use Rattle.mx_trie.proofs.LeafSpans.{line-at}
use Rattle.mx_trie.proofs.Stored.{line-stored}

-- a run that can be cut to its word's line
pub record IsCut (perms : List Perm) (line word : ℕ) (run : Span) : Type 0 where
  pub from : run.first ≤ word
  pub to : word < run.first + run.count
  pub whole : run.first + run.count ≤ most_words
  pub alike : (k : ℕ) → run.first ≤ line + k → line + k < run.first + run.count → k < 16 → perm_at perms k ≡ run.perm

-- where a run begins or ends that a reach lengthens
side : (spilled : Bool) (f c reach : ℕ) →
    ((if spilled then 0 else if f == c then reach else 0) ≡ 0) ⊎ ((f ≡ c) × ((if spilled then 0 else if f == c then reach else 0) ≡ reach))
side spilled f c reach = grind (arith, eqb_tells)

-- the run that an entry gives can be cut to the line
pub entry-cut : (kind : Kind) (perms : List Perm) (left right spill line entry spilled word : ℕ) (run : Span) →
    IsStored kind perms left right spill line entry spilled →
    line ≤ word → word < line + 16 → run ≡ entry_run kind perms left right line word → IsCut perms line word run
entry-cut kind perms left right spill line entry spilled word run s from to e =
    let long = s.whole in let u = within_round perms 0 16 (word - line) (omega arith) (omega arith) (omega arith) in
    search (arith, u.alike, within_high perms 0 16 (word - line) (omega arith), side (needs_spill kind perms))

-- the cut run is a span of the map
pub cut-round : (m : List Perm) (z word : ℕ) (run s : Span) → z < most_lines → z * 16 ≤ word → word < z * 16 + 16 →
    IsCut (line_at m (z * 16)) (z * 16) word run →
    s.first ≡ max run.first (z * 16) → s.first + s.count ≡ min (run.first + run.count) (z * 16 + 16) →
    s.perm ≡ run.perm → IsRound m word s
cut-round m z word run s below begin stop c first end perm =
    let alike : (k : ℕ) → s.first ≤ k → k < s.first + s.count → perm_at m k ≡ s.perm =
    λ k lo hi. grind (arith, line-at m z (k - z * 16), c.alike (k - z * 16)) in search (arith, alike)

-- the run that a line's entry gives can be cut to the line
pub line-cut : (kind : Kind) → IsTrieKind kind →
    (spill : Frames) (m : List Perm) (z word entry spilled : ℕ) (run : Span) → length m ≤ most_words →
    z < most_lines →
    z * 16 ≤ word → word < z * 16 + 16 → IsLine kind spill m z entry → spilled ≡ spilled_word kind spill entry →
    ((perms : List Perm) (l r n : ℕ) → IsStored kind perms l r n (z * 16) entry spilled →
    run ≡ entry_run kind perms l r (z * 16) word) →
    IsCut (line_at m (z * 16)) (z * 16) word run
line-cut kind k spill m z word entry spilled run few below begin stop line e made =
    let stored = line-stored kind k spill m z entry few below line in
    entry-cut _ _ _ _ _ _ _ _ word run stored begin stop ((rw e at made) _ _ _ _ stored)

-- an entry of some line is one that the form's calls take
pub entry-of : (kind : Kind) → IsTrieKind kind → (spill : Frames) (z e spilled : ℕ) → z < most_lines →
    IsSomeLine kind spill z e → spilled ≡ spilled_word kind spill e → IsEntry kind (z * 16) e spilled
entry-of kind k spill z e spilled below some is = search (arith, some.map, line-stored, some.few)
