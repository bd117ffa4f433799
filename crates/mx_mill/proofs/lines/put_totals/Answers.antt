use Rattle.std.proofs.Common.{◌≡◌, ℕ, ap, ◌∙◌}
use Rattle.mx_tail.proofs.PassLaws.{passes_same}
use Rattle.mx_mill.specs.Lines.{sums_line}
use Rattle.mx_mill.proofs.lines.put_totals.Goals as goal

sums_same : (a b c x y z : ℕ) → a ≡ x → b ≡ y → c ≡ z → sums_line a b c ≡ sums_line x y z
sums_same a b c x y z p q r = ap (λ n. sums_line n b c) p ∙ ap (λ n. sums_line x n c) q ∙ ap (λ n. sums_line x y n) r

pub returns : goal.returns
returns g c = passes_same (sums_same _ _ _ _ _ _ c.summed.ensures.sidecar c.summed.ensures.lookaside c.summed.ensures.walks)
    c.put_sums.ensures
