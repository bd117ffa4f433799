use Rattle.std.proofs.Common.{◌≡◌, ◌+◌, ◌-◌, sym, ap, ◌∙◌, arith, rules}
use denote.Enum.Bare.{differs_true, differs_false}
use Rattle.mx_words.specs.Rights.{number}
use Rattle.mx_words.specs.contracts.perm.Perm.{the_type}
use Rattle.mx_words.proofs.NumberLaws.{number-one_to_one}
use Rattle.mx_trie.proofs.RunCodes.{runs-other, runs-same, runs-last}
use Rattle.mx_packed.proofs.mini.run_count.Goals as goal

pub loop-place-init : goal.loop-place-init
loop-place-init c = (omega arith, omega arith, sym (runs-last c.args.perms.now 15 (omega arith)))

pub loop-place-preserved-then-ne : goal.loop-place-preserved-then-ne
loop-place-preserved-then-ne c =
    let back : c.loop-place.place - 1 + 1 ≡ c.loop-place.place = omega arith in
    let ne = differs_true the_type _ _ (rw back at (sym c.if-ne.ensures)) in (
      omega arith,
      omega arith,
      ap (λ n. n + 1) c.loop-place.invariant.2
          ∙ sym (runs-other _ _ _ back (omega arith) (λ e. ne (number-one_to_one _ _ e))),
    )

pub loop-place-preserved : goal.loop-place-preserved
loop-place-preserved c =
    let back : c.loop-place.place - 1 + 1 ≡ c.loop-place.place = omega arith in
    let same = differs_false the_type (search rules) _ _ (rw back at (sym c.if-ne.ensures)) in
    (omega arith, omega arith, c.loop-place.invariant.2 ∙ sym (runs-same _ _ _ back (omega arith) (ap number same)))
