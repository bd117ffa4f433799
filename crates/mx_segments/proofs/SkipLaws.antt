-- A range whose words have a permission already.
use Rattle.std.proofs.Common.{◌≡◌, ℕ, ◌+◌, ◌<◌, ◌≤◌, List, length, arith, subst, sym}
use Rattle.mx_words.specs.declared.perm.Perm.{Perm}
use Rattle.mx_words.specs.declared.perm.Span.{Span}
use Rattle.mx_words.specs.declared.tables.Kind.TheVariants as K
use Rattle.mx_words.specs.Newest.{laid}
use Rattle.mx_words.specs.Changes.{grant_of}
use Rattle.mx_words.specs.Reach.{span}
use Rattle.mx_words.proofs.ReachLaws.{IsUniformRound, within_round}
use Rattle.mx_table.proofs.ChangeLaws.{laid_already}
use Rattle.std.proofs.Common.{◌∙◌}

-- the run that is found for a word
pub run_round : (m : List Perm) (i : ℕ) (run : Span) → i < length m → run ≡ span K.Segments m i → IsUniformRound m i run
run_round m i run inside is =
    let R : Span → Type 0 = λ s. IsUniformRound m i s in
    subst R (sym is) (within_round m 0 (length m) i (omega arith) inside inside)

-- where the first word's run has the permission and ends after the range, the range has it
pub run_has : (m : List Perm) (first count : ℕ) (p : Perm) (run : Span) → first < length m → run ≡ span K.Segments m first →
    run.perm ≡ p → first + count ≤ run.first + run.count → laid (grant_of first count p) m ≡ m
run_has m first count p run inside is same far =
    let r : IsUniformRound m first run = run_round m first run inside is in
    laid_already m first count p (λ k from to. r.alike k (omega (arith, r.left)) (omega arith) ∙ same)
