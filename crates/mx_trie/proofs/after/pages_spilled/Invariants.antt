use Rattle.std.proofs.Common.{◌≡◌, ◌+◌, ◌-◌, ◌*◌, ◌/◌, ◌≤◌, min, List}
use Rattle.mx_words.specs.declared.perm.Perm.{Perm}
use Rattle.mx_words.specs.Reach.{line_at}
use Rattle.mx_trie.specs.Leaf.{needs_spill}
use Rattle.mx_trie.specs.Walk.{Frames}
use Rattle.mx_trie.specs.Shown.{IsDomain}
use Rattle.mx_trie.specs.After.{count_from}
use Rattle.mx_trie.proofs.after.pages_spilled.Given as goal

-- the lines of the pages so far are counted
abbrev pub invariant-loop-page : goal.invariant-loop-page
invariant-loop-page g l = record {
  counted : (spill : Frames) (m : List Perm) → IsDomain g.L.LeafForm.kind l.upper l.leaf spill m l.root →
      l.count ≡ count_from (l.lay.first / 16) (min ((l.lay.end - 1) / 16 + 1) (l.page * 64)) (λ z.
      needs_spill g.L.LeafForm.kind (line_at m (z * 16)));
  few : l.count ≤ l.page * 64;
}
