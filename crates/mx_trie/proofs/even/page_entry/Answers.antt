use Rattle.std.proofs.Common.{◌≡◌, ℕ, ◌+◌, ◌-◌, ◌*◌, ◌/◌, ◌%◌, inl, inr, refl, sym, ap, ◌∙◌, subst, arith}
use Rattle.std.proofs.lemmas.Bool.{cases_lt}
use Rattle.mx_words.specs.Rights.{perm_at}
use Rattle.mx_words.specs.Blocks.{IsUniform}
use Rattle.mx_words.proofs.NumberLaws.{number-small}
use Rattle.mx_trie.proofs.Vectors.{part-more, part-small, part-whole}
use Rattle.mx_trie.proofs.EvenTables.{uniform-from, broken-by, entry-none, whole-by, entry-some}
use Rattle.mx_trie.proofs.even.page_entry.Goals as goal

pub returns-in_err-eighth_perm : goal.returns-in_err-eighth_perm
returns-in_err-eighth_perm g c = λ spill m few lines.
    let broken = broken-by 1024 128 m c.args.page refl refl (omega arith) (c.args.near / 128 % 8) c.eighth_perm.result (omega arith)
    (c.eighth_perm.ensures spill m few lines) c.in_err-eighth_perm.was in
    entry-none 1024 128 m c.args.page refl refl (omega arith) c.from_residual.result broken c.from_residual.ensures

pub returns-in_err-perm : goal.returns-in_err-perm
returns-in_err-perm g c = λ spill m few lines.
    let broken = broken-by 1024 128 m c.args.page refl refl (omega arith) (7 - c.loop-e.e) c.eighth_perm-in-loop-e.result (omega arith)
    (c.eighth_perm-in-loop-e.ensures spill m few lines) c.in_err-perm.was in
    entry-none 1024 128 m c.args.page refl refl (omega arith) c.from_residual-in_err-perm.result broken c.from_residual-in_err-perm.ensures

pub overflow_mul-entry : goal.overflow_mul-entry
overflow_mul-entry g c =
    let some = c.requires.stands.1 in
    let v = (c.loop-e.invariant c.requires.stands.0 some.map some.few some.lines).0 in
    let small = part-small some.map (c.args.page * 1024) 128 c.loop-e.e c.loop-e.entry v in
    record { fits = omega (arith, small) }

pub overflow_add-entry : goal.overflow_add-entry
overflow_add-entry g c =
    let some = c.requires.stands.1 in
    let v = (c.loop-e.invariant c.requires.stands.0 some.map some.few some.lines).0 in
    let small = part-small some.map (c.args.page * 1024) 128 c.loop-e.e c.loop-e.entry v in
    record { fits = omega (arith, small, c.number.ensures, number-small c.in_ok-perm.perm) }

pub loop-e-preserved : goal.loop-e-preserved
loop-e-preserved g c = λ spill m few lines.
    let was = c.loop-e.invariant spill m few lines in
    let below = c.loop-e-test.true in
    let zero_more : c.args.page * 1024 + (7 - c.loop-e.e) * 128 + 0 ≡ c.args.page * 1024 + (7 - c.loop-e.e) * 128 =
    omega arith in
    let alike = (c.eighth_perm-in-loop-e.ensures spill m few lines).alike c.in_ok-perm.perm c.in_ok-perm.was in
    let more = part-more m (c.args.page * 1024) 128 c.loop-e.e c.loop-e.entry c.in_ok-perm.perm below was.0 (ap (perm_at m) (sym zero_more)
    ∙ alike 0 (omega arith)) in (
      record { entry_is = ap (λ n. n + 4 * c.loop-e.entry) c.number.ensures ∙ more.entry_is },
      λ j le lt. elim (cases_lt (j + c.loop-e.e) 8) [
        | inl h ↦
            (let at : 7 - c.loop-e.e ≡ j = omega arith in
            subst (λ (n : ℕ). IsUniform m (c.args.page * 1024 + n * 128) 128) at
            (uniform-from m (c.args.page * 1024 + (7 - c.loop-e.e) * 128) 128 c.in_ok-perm.perm (omega arith) alike))
        | inr h ↦ was.1 j h lt
      ],
    )

pub overflow_mul-result : goal.overflow_mul-result
overflow_mul-result g c =
    let some = c.requires.stands.1 in
    let v = (c.loop-e.invariant c.requires.stands.0 some.map some.few some.lines).0 in
    let small = part-small some.map (c.args.page * 1024) 128 c.loop-e.e c.loop-e.entry v in
    record { fits = omega (arith, small) }

pub overflow_add-result : goal.overflow_add-result
overflow_add-result g c =
    let some = c.requires.stands.1 in
    let v = (c.loop-e.invariant c.requires.stands.0 some.map some.few some.lines).0 in
    let small = part-small some.map (c.args.page * 1024) 128 c.loop-e.e c.loop-e.entry v in
    record { fits = omega (arith, small) }

pub returns : goal.returns
returns g c = λ spill m few lines.
    let was = c.loop-e.invariant spill m few lines in
    let all = c.loop-e-test.false in
    entry-some 1024 128 m c.args.page refl refl (omega arith) _ (1 + 4 * c.loop-e.entry)
    (whole-by 1024 128 m c.args.page refl refl (omega arith) (λ e below. was.1 e (omega arith) below))
    (part-whole m (c.args.page * 1024) 128 c.loop-e.e c.loop-e.entry all was.0) refl
