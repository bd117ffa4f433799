-- A need is within a limit where each of its parts is.
use Rattle.std.proofs.Common.{◌≡◌, ◌≤◌, true, nat_le, ◌&&◌, ap, ◌∙◌, arith}
use Rattle.std.proofs.lemmas.Bool.{and_parts}
use Rattle.std.proofs.lemmas.Bool.Decides.{nat_tests}
use Rattle.mx_words.specs.declared.tables.Need.{Need}
use Rattle.mx_words.specs.Need.{within}

pub record IsWithin (n limit : Need) : Type 0 where
  pub upper : n.upper ≤ limit.upper
  pub leaf : n.leaf ≤ limit.leaf
  pub spill : n.spill ≤ limit.spill

pub within-parts : (n limit : Need) → within n limit ≡ true → IsWithin n limit
within-parts n limit e =
    let outer = and_parts (nat_le n.upper limit.upper && nat_le n.leaf limit.leaf) (nat_le n.spill limit.spill) e in
    let inner = and_parts (nat_le n.upper limit.upper) (nat_le n.leaf limit.leaf) outer.0 in
    let a : nat_le n.upper limit.upper ≡ true = inner.0 in
    let b : nat_le n.leaf limit.leaf ≡ true = inner.1 in
    let c : nat_le n.spill limit.spill ≡ true = outer.1 in
    record { upper = grind (arith, nat_tests); leaf = grind (arith, nat_tests); spill = grind (arith, nat_tests) }

pub within-whole : (n limit : Need) → IsWithin n limit → within n limit ≡ true
within-whole n limit parts =
    let u = parts.upper in
    let l = parts.leaf in
    let s = parts.spill in
    let a : nat_le n.upper limit.upper ≡ true = grind (arith, nat_tests) in
    let b : nat_le n.leaf limit.leaf ≡ true = grind (arith, nat_tests) in
    let c : nat_le n.spill limit.spill ≡ true = grind (arith, nat_tests) in
    ap (λ x. x && nat_le n.leaf limit.leaf && nat_le n.spill limit.spill) a
    ∙ ap (λ x. true && x && nat_le n.spill limit.spill) b
    ∙ ap (λ x. true && true && x) c
