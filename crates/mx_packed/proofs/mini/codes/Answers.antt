use Rattle.std.proofs.Common.{◌≡◌, ◌+◌, ◌-◌, ◌*◌, ◌^◌, ◌<◌, length, drop, sym, ap, ◌∙◌, arith, rules, length-drop}
use denote.Enum.Bare.{differs_true, differs_false}
use Rattle.mx_words.specs.Rights.{number}
use Rattle.mx_words.specs.contracts.perm.Perm.{the_type}
use Rattle.mx_words.proofs.NumberLaws.{number-small, number-one_to_one}
use Rattle.mx_trie.specs.Codes.{value_code, start_code}
use Rattle.mx_trie.proofs.RunCodes.{value_code-same, value_code-other, value_code-last, value_code-below, start_code-same, start_code-other}
use Rattle.mx_trie.proofs.RunCodes.{start_code-last, start_code-below, runs-drop}
use Rattle.mx_packed.proofs.mini.codes.Goals as goal

pub loop-place-init : goal.loop-place-init
loop-place-init c = (
  omega arith,
  c.number-values.ensures ∙ sym (value_code-last c.args.perms.now 15 (omega arith)),
  sym
      (start_code-last c.args.perms.now 15 (omega arith)),
)

pub overflow_mul-values : goal.overflow_mul-values
overflow_mul-values c =
    let few : value_code (drop c.loop-place.place c.args.perms.now) < 4 ^ 4 =
    value_code-below (drop c.loop-place.place c.args.perms.now) 4 (omega (arith, runs-drop c.loop-place.place c.args.perms.now)) in
    omega arith

pub overflow_add-values : goal.overflow_add-values
overflow_add-values c =
    let few : value_code (drop c.loop-place.place c.args.perms.now) < 4 ^ 4 =
    value_code-below (drop c.loop-place.place c.args.perms.now) 4 (omega (arith, runs-drop c.loop-place.place c.args.perms.now)) in
    let small : c.number.result < 4 = rw c.number.ensures (number-small _) in
    omega arith

pub overflow_mul-starts : goal.overflow_mul-starts
overflow_mul-starts c =
    let few : start_code c.loop-place.place (drop c.loop-place.place c.args.perms.now) < 16 ^ 3 =
    start_code-below c.loop-place.place (drop c.loop-place.place c.args.perms.now) 3
    (omega (arith, length-drop c.loop-place.place c.args.perms.now)) (omega (arith, runs-drop c.loop-place.place c.args.perms.now)) in
    omega arith

pub overflow_add-starts-then-ne : goal.overflow_add-starts-then-ne
overflow_add-starts-then-ne c =
    let few : start_code c.loop-place.place (drop c.loop-place.place c.args.perms.now) < 16 ^ 3 =
    start_code-below c.loop-place.place (drop c.loop-place.place c.args.perms.now) 3
    (omega (arith, length-drop c.loop-place.place c.args.perms.now)) (omega (arith, runs-drop c.loop-place.place c.args.perms.now)) in
    omega arith

pub loop-place-preserved-then-ne : goal.loop-place-preserved-then-ne
loop-place-preserved-then-ne c =
    let back : c.loop-place.place - 1 + 1 ≡ c.loop-place.place = omega arith in
    let below : c.loop-place.place < length c.args.perms.now = omega arith in
    let ne = differs_true the_type _ _ (rw back at (sym c.if-ne.ensures)) in
    let v = value_code-other _ _ _ back below (λ e. ne (number-one_to_one _ _ e)) in
    let s = start_code-other _ _ _ back below (λ e. ne (number-one_to_one _ _ e)) in
    (omega arith, cc, rw back (ap (λ n. c.loop-place.place + 16 * n) c.loop-place.invariant.2 ∙ sym s))

pub loop-place-preserved : goal.loop-place-preserved
loop-place-preserved c =
    let back : c.loop-place.place - 1 + 1 ≡ c.loop-place.place = omega arith in
    let below : c.loop-place.place < length c.args.perms.now = omega arith in
    let same = differs_false the_type (search rules) _ _ (rw back at (sym c.if-ne.ensures)) in (
      omega arith,
      c.loop-place.invariant.1 ∙ sym (value_code-same _ _ _ back below (ap number same)),
      c.loop-place.invariant.2 ∙ sym (start_code-same _ _ _ back below (ap number same)),
    )

pub returns-clause-values_below : goal.returns-clause-values_below
returns-clause-values_below c =
    let few : value_code (drop c.loop-place.place c.args.perms.now) < 4 ^ 4 =
    value_code-below (drop c.loop-place.place c.args.perms.now) 4 (omega (arith, runs-drop c.loop-place.place c.args.perms.now)) in
    omega arith

pub returns-clause-starts_below : goal.returns-clause-starts_below
returns-clause-starts_below c =
    let few : start_code c.loop-place.place (drop c.loop-place.place c.args.perms.now) < 16 ^ 3 =
    start_code-below c.loop-place.place (drop c.loop-place.place c.args.perms.now) 3
    (omega (arith, length-drop c.loop-place.place c.args.perms.now)) (omega (arith, runs-drop c.loop-place.place c.args.perms.now)) in
    omega arith
