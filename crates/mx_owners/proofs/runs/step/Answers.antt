use Rattle.std.proofs.Common.{◌≡◌, ◌+◌, ◌%◌, ◌<◌, ◌≤◌, bit_and, ◌∙◌, refl, arith, ⊎_elim}
use Rattle.std.specs.Int.Bits.{and_zero_r}
use Rattle.std.proofs.lemmas.Nat.{and_mask}
use Rattle.std.proofs.lemmas.Bool.{cases_lt, le-leb, lt-leb}
use Rattle.mx_words.proofs.Borrow.{high_ones, high_none}
use Rattle.mx_owners.proofs.runs.step.Goals as goal

pub returns : goal.returns
returns c =
    let n = c.args.width in
    let below : c.args.end < 4294967296 = omega (arith, c.ranges.end.fits) in
    let most : c.args.word < 4294967296 = omega (arith, c.ranges.word.fits) in
    let all : bit_and n 4294967295 ≡ n = and_mask n 32 ∙ (let e : n % 4294967296 ≡ n = omega (arith, c.requires) in e) in
    ⊎_elim
    (λ (ends : c.args.end < c.args.word + 1). rw (
      high_ones c.args.end (c.args.word + 1) below ends (omega arith),
      all,
      le-leb c.args.end
          c.args.word (omega arith),
    ) refl)
    (λ (goes_on : c.args.word + 1 ≤ c.args.end). rw (
      high_none c.args.end (c.args.word + 1) below goes_on,
      and_zero_r n,
      lt-leb c.args.end
          c.args.word (omega arith),
    ) refl)
    (cases_lt c.args.end (c.args.word + 1))
