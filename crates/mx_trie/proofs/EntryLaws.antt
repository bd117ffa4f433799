-- The entry that is made of a line's permissions, and the spill word that it names.
use Rattle.std.proofs.Common.{◌≡◌, ℕ, Bool, true, List, if◌then◌else◌, Option, Some, None, is_some, unwrap_or, arith}
use Rattle.mx_words.specs.declared.perm.Perm.{Perm}
use Rattle.mx_words.specs.declared.tables.Kind.{Kind}
use Rattle.mx_words.specs.Rights.{same}
use Rattle.mx_trie.specs.Leaf.{IsTrieKind, needs_spill, leaf_entry, spill_number, named_spill}

-- an entry names the spill word that it was made with, where the line needs one
pub named-by : (kind : Kind) → IsTrieKind kind → (perms : List Perm) (left right number entry : ℕ) →
    entry ≡ leaf_entry kind perms left right number →
    spill_number kind entry ≡ named_spill kind perms number
named-by kind k perms left right number entry is = grind arith

-- what is named is known by the need alone
pub some-named : (b : Bool) (o : Option ℕ) (number : ℕ) → o ≡ (if b then Some number else None) → is_some o ≡ b
some-named b o number e = grind arith

pub number-named : (b : Bool) (o : Option ℕ) (number : ℕ) → o ≡ (if b then Some number else None) →
    unwrap_or o 0 ≡ (if b then number else 0)
number-named b o number e = grind arith

-- where a line needs no spill word, any number may stand
pub entry-renumbered : (kind : Kind) → IsTrieKind kind → (perms : List Perm) (left right m n : ℕ) →
    (needs_spill kind perms ≡ true → m ≡ n) → leaf_entry kind perms left right m ≡ leaf_entry kind perms left right n
entry-renumbered kind k perms left right m n same = grind arith
