-- What tables that stand say of one domain.
use Rattle.std.proofs.Common.{◌≡◌, ℕ, ◌≤◌, List, length, arith}
use Rattle.mx_words.specs.declared.perm.Perm.{Perm}
use Rattle.mx_words.specs.declared.tables.Kind.{Kind}
use Rattle.mx_words.specs.Rights.{perm_at}
use Rattle.mx_words.specs.Reach.{span}
use Rattle.mx_table.specs.Tables.{IsDomain}
use Rattle.mx_trie.specs.Walk.{Frames}
use Rattle.mx_trie.specs.Read.{read_maps}
use Rattle.mx_trie.specs.Shape.{length-read_maps}

-- a domain of the maps has a root table
pub domain-from : (kind : Kind) (upper leaf spill : Frames) (words : ℕ) (roots : List ℕ) (d : ℕ) →
    IsDomain (read_maps kind upper leaf spill words roots) d → d ≤ length roots
domain-from kind upper leaf spill words roots d is = omega (arith, is.last, length-read_maps)

-- a span has the permission of its word
pub span-perm : (kind : Kind) (m : List Perm) (i : ℕ) → (span kind m i).perm ≡ perm_at m i
span-perm x m i = grind arith
