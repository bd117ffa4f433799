use Rattle.std.proofs.Common.{◌≡◌, ◌≤◌, drop}
use Rattle.mx_trie.specs.Codes.{value_code, start_code}
use Rattle.mx_packed.proofs.mini.codes.Given as goal

abbrev pub invariant-loop-place : goal.invariant-loop-place
invariant-loop-place l = (l.place ≤ 15) × (l.values ≡ value_code (drop l.place l.perms))
    × (l.starts ≡ start_code l.place (drop l.place l.perms))

abbrev pub decreases-loop-place : goal.decreases-loop-place
decreases-loop-place l = l.place
