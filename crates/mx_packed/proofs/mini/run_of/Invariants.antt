use Rattle.std.proofs.Common.{◌≡◌, length, List}
use Rattle.mx_words.specs.declared.perm.Perm.{Perm}
use Rattle.mx_trie.specs.Codes.{value_code, start_code}
use Rattle.mx_packed.proofs.CodedRuns.{IsBegun}
use Rattle.mx_packed.proofs.mini.run_of.Given as goal

-- the runs that end before the place are passed over
abbrev pub invariant-loop-starts_left : goal.invariant-loop-starts_left
invariant-loop-starts_left l =
    (perms : List Perm) → length perms ≡ 16 → l.values ≡ value_code perms → l.starts ≡ start_code 0 perms
    → IsBegun perms l.place l.first l.values_left l.starts_left

abbrev pub decreases-loop-starts_left : goal.decreases-loop-starts_left
decreases-loop-starts_left l = l.starts_left
