-- A map with a permission laid over a range, word by word.
use Rattle.std.proofs.Common.{◌≡◌, ℕ, ◌-◌, ◌<◌, ◌≤◌, List, length, arith}
use Rattle.mx_words.specs.declared.perm.Perm.{Perm}
use Rattle.mx_words.specs.declared.perm.Perm.TheVariants as P
use Rattle.mx_words.specs.Rights.{perm_at}
use Rattle.mx_words.specs.Changes.{grant_of}
use Rattle.mx_words.proofs.OverlayLaws.{laid_in, laid_below, laid_behind, length-laid}
use Rattle.mx_trie.specs.Laying.{with_range}

pub with_range-below : (first end : ℕ) (p : Perm) (m : List Perm) (i : ℕ) → i < first →
    perm_at (with_range first end p m) i ≡ perm_at m i
with_range-below first end p m i lt = laid_below (grant_of first (end - first) p) m i P.None lt

pub with_range-in : (first end : ℕ) (p : Perm) (m : List Perm) (i : ℕ) → end ≤ length m → first ≤ i → i < end →
    perm_at (with_range first end p m) i ≡ p
with_range-in first end p m i inside from to =
    laid_in (grant_of first (end - first) p) m i P.None (omega arith) from (omega arith)

pub with_range-behind : (first end : ℕ) (p : Perm) (m : List Perm) (i : ℕ) → first ≤ end → end ≤ i →
    perm_at (with_range first end p m) i ≡ perm_at m i
with_range-behind first end p m i order le = laid_behind (grant_of first (end - first) p) m i P.None (omega arith)

pub length-with_range : (first end : ℕ) (p : Perm) (m : List Perm) → length (with_range first end p m) ≡ length m
length-with_range first end p m = length-laid (grant_of first (end - first) p) m
