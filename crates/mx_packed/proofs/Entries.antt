-- What a packed entry is packed from.
use Rattle.std.proofs.Common.{◌≡◌, ℕ, ◌≤◌, true, false, nat_lt, List, length, Some, None, if◌then◌else◌, refl, arith}
use Rattle.std.proofs.lemmas.Bool.{ltb-true, ltb-false}
use Rattle.mx_words.specs.declared.perm.Perm.{Perm}
use Rattle.mx_words.specs.Rights.{same}
use Rattle.mx_words.specs.Runs.{runs, runs_of}
use Rattle.mx_words.specs.Reach.{mini_entry, most_reach}
use Rattle.mx_trie.proofs.MiniEntries.{IsMade, mini-made}
use Rattle.mx_packed.specs.Pack.{pack_of}

-- a line is packed exactly where it has at most four runs
pub pack_of-few : (perms : List Perm) (left right : ℕ) → runs perms ≤ 4
    → pack_of perms left right ≡ Some (mini_entry (runs_of same perms) left right)
pack_of-few perms left right few =
    elim (nat_lt 4 (runs perms)) as (λ b. nat_lt 4 (runs perms) ≡ b
    → (if b then None else Some (mini_entry (runs_of same perms) left right)) ≡ Some (mini_entry (runs_of same perms) left right)) [
      | true ↦ λ yes. absurd (omega (arith, ltb-true 4 (runs perms) yes))
      | false ↦ λ no. refl
    ] refl

pub pack_of-made : (perms : List Perm) (left right entry : ℕ) → length perms ≤ 16 → left ≤ most_reach → right ≤ most_reach →
    pack_of perms left right ≡ Some entry → IsMade perms left right entry
pack_of-made perms left right entry short l r =
    elim (nat_lt 4 (runs perms)) as (λ b. nat_lt 4 (runs perms) ≡ b
    → (if b then None else Some (mini_entry (runs_of same perms) left right)) ≡ Some entry → IsMade perms left right entry) [
      | true ↦ λ yes e. cc
      | false ↦ λ no e. (let few : runs perms ≤ 4 = omega (arith, ltb-false 4 (runs perms) no) in
          let is : entry ≡ mini_entry (runs_of same perms) left right = cc in
          mini-made perms left right entry short l r few is)
    ] refl
