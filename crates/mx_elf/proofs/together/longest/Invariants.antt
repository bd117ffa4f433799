use Rattle.std.proofs.Common.{◌≡◌, ◌≤◌, true, List, ℕ, length, take, bytes_eq}
use Rattle.std.specs.List.{list_any}
use Rattle.mx_elf.proofs.together.longest.Given as goal

abbrev pub invariant-names : goal.invariant-names
invariant-names l = (name : List ℕ) → list_any (λ n. bytes_eq name n.now) (take l.name-index l.names) ≡ true → length name ≤ l.most
