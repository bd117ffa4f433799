-- The line of a hart's counts by what is told of them.
use Rattle.std.proofs.Common.{◌≡◌, ℕ, ap, ◌∙◌}
use Rattle.mx_words.specs.Caches.{Cache}
use Rattle.mx_report.specs.Lines.{counts_text, counts_line}

pub told_counts : (h s l w : ℕ) (c : Cache) → s ≡ c.sidecar → l ≡ c.lookaside → w ≡ c.walks → counts_text h s l w ≡ counts_line h c
told_counts h s l w c es el ew = ap (λ x. counts_text h x l w) es ∙ ap (λ x. counts_text h c.sidecar x w) el
    ∙ ap (counts_text h c.sidecar c.lookaside) ew
