use Rattle.std.proofs.Common.{◌≡◌, ℕ, ◌+◌, ◌-◌, ◌*◌, ◌/◌, ◌%◌, inl, inr, refl, sym, ap, ◌∙◌, subst, arith}
use Rattle.std.proofs.lemmas.Bool.{cases_lt}
use Rattle.mx_words.specs.Rights.{perm_at}
use Rattle.mx_words.specs.Blocks.{IsUniform}
use Rattle.mx_words.proofs.NumberLaws.{number-small}
use Rattle.mx_trie.proofs.Vectors.{part-more, part-whole}
use Rattle.mx_trie.proofs.EvenTables.{uniform-from, broken-by, entry-none, whole-by, entry-some}
use Rattle.mx_trie.proofs.WideBlocks.{digits-more}
use Rattle.mx_trie.proofs.even.region_entry.Goals as goal

pub returns-in_err-wide_perm : goal.returns-in_err-wide_perm
returns-in_err-wide_perm c = λ kind leaf spill m x pages.
    let broken = broken-by 1048576 131072 m x refl refl (omega arith) (c.args.near / 131072 % 8) c.wide_perm.result (omega arith)
    (c.wide_perm.ensures kind leaf spill m x pages) c.in_err-wide_perm.was in
    entry-none 1048576 131072 m x refl refl (omega arith) c.from_residual.result broken c.from_residual.ensures

pub returns-in_err-perm : goal.returns-in_err-perm
returns-in_err-perm c = λ kind leaf spill m x pages.
    let broken = broken-by 1048576 131072 m x refl refl (omega arith) (7 - c.loop-e.e) c.wide_perm-in-loop-e.result (omega arith)
    (c.wide_perm-in-loop-e.ensures kind leaf spill m x pages) c.in_err-perm.was in
    entry-none 1048576 131072 m x refl refl (omega arith) c.from_residual-in_err-perm.result broken c.from_residual-in_err-perm.ensures

pub loop-e-preserved : goal.loop-e-preserved
loop-e-preserved c = (
  omega (arith, c.loop-e-test.true),
  (
    digits-more c.loop-e.e c.loop-e.entry c.number.result c.loop-e.invariant.1.0
        (omega (arith, c.number.ensures, number-small c.in_ok-perm.perm)),
    λ kind leaf spill m x pages.
        let was = c.loop-e.invariant.1.1 kind leaf spill m x pages in
        let below = c.loop-e-test.true in
        let zero_more : x * 1048576 + (7 - c.loop-e.e) * 131072 + 0 ≡ x * 1048576 + (7 - c.loop-e.e) * 131072 =
        omega arith in
        let alike = (c.wide_perm-in-loop-e.ensures kind leaf spill m x pages).alike c.in_ok-perm.perm c.in_ok-perm.was in
        let more = part-more m (x * 1048576) 131072 c.loop-e.e c.loop-e.entry c.in_ok-perm.perm below was.0 (ap (perm_at m) (sym zero_more)
        ∙ alike 0 (omega arith)) in (
          record { entry_is = ap (λ n. n + 4 * c.loop-e.entry) c.number.ensures ∙ more.entry_is },
          λ j le lt. elim (cases_lt (j + c.loop-e.e) 8) [
            | inl h ↦
                (let at : 7 - c.loop-e.e ≡ j = omega arith in
                subst (λ (n : ℕ). IsUniform m (x * 1048576 + n * 131072) 131072) at
                (uniform-from m (x * 1048576 + (7 - c.loop-e.e) * 131072) 131072 c.in_ok-perm.perm (omega arith) alike))
            | inr h ↦ was.1 j h lt
          ],
        ),
  ),
)

pub returns : goal.returns
returns c = λ kind leaf spill m x pages.
    let was = c.loop-e.invariant.1.1 kind leaf spill m x pages in
    entry-some 1048576 131072 m x refl refl (omega arith) _ (1 + 4 * c.loop-e.entry)
    (whole-by 1048576 131072 m x refl refl (omega arith) (λ e below. was.1 e (omega arith) below))
    (part-whole m (x * 1048576) 131072 c.loop-e.e c.loop-e.entry c.loop-e-test.false was.0) refl
