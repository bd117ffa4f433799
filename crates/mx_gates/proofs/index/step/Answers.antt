use Rattle.std.proofs.Common.{◌≡◌, ◌+◌, ◌%◌, ◌<◌, ◌≤◌, Bool, true, false, bit_and, cond, ◌∙◌, refl, arith, ⊎_elim}
use Rattle.std.specs.Prelude.{◌==◌, ◌||◌, ◌&&◌}
use Rattle.std.specs.Int.Bits.{and_zero_r}
use Rattle.std.proofs.lemmas.Nat.{and_mask}
use Rattle.std.proofs.lemmas.Bool.{cases_lt, lt-ltb, le-ltb, ne_eqb, eq-eqb}
use Rattle.mx_gates.specs.Index.{is_before}
use Rattle.mx_words.proofs.Borrow.{borrows, borrows_none, high_ones, high_none}
use Rattle.mx_gates.proofs.index.step.Goals as goal

pub returns : goal.returns
unfolding is_before
returns c =
    let g = c.args.gate.now in
    let d = c.args.domain in
    let w = c.args.word in
    let n = c.args.width in
    let gd : g.domain < 4294967296 = omega (arith, c.fits-gate.0) in
    let gw : g.word < 4294967296 = omega (arith, c.fits-gate.1.0) in
    let dl : d < 4294967296 = omega (arith, c.ranges.domain.fits) in
    let wl : w < 4294967296 = omega (arith, c.ranges.word.fits) in
    let all : bit_and n 4294967295 ≡ n = and_mask n 32 ∙ (let e : n % 4294967296 ≡ n = omega (arith, c.requires) in e) in
    let none : bit_and n 0 ≡ 0 = and_zero_r n in
    ⊎_elim
    (λ (less : g.word < w).
    ⊎_elim
    (λ (before : g.domain < d + 1). rw (borrows g.word w gw less (omega arith), high_ones g.domain (d + 1) gd before (omega arith), all)
    (⊎_elim
    (λ (lt : g.domain < d). rw (lt-ltb g.domain d lt) refl)
    (λ (ge : d ≤ g.domain). rw (le-ltb g.domain d ge, eq-eqb g.domain d (let e : g.domain ≡ d = omega arith in e), lt-ltb g.word w less)
    refl)
    (cases_lt g.domain d)))
    (λ (behind : d + 1 ≤ g.domain). rw (
      borrows g.word w gw less (omega arith),
      high_none g.domain (d + 1) gd behind,
      none,
      le-ltb g.domain
          d (omega arith),
      ne_eqb g.domain d (λ e. omega (arith, e)),
    ) refl)
    (cases_lt g.domain (d + 1)))
    (λ (more : w ≤ g.word).
    ⊎_elim
    (λ (before : g.domain < d). let e : d + 0 ≡ d = omega arith in
    rw (borrows_none g.word w gw more, e, high_ones g.domain d gd before (omega arith), all, lt-ltb g.domain d before) refl)
    (λ (behind : d ≤ g.domain). let e : d + 0 ≡ d = omega arith in
    rw (borrows_none g.word w gw more, e, high_none g.domain d gd behind, none, le-ltb g.domain d behind, le-ltb g.word w more)
    (zero_either (g.domain == d)))
    (cases_lt g.domain d))
    (cases_lt g.word w)
  where
    zero_either : (b : Bool) → 0 ≡ cond (false || (b && false)) c.args.width 0
    zero_either true = refl
    zero_either false = refl
