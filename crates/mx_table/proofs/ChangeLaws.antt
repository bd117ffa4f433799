-- A change that gives a domain what it has.
use Rattle.std.proofs.Common.{◌≡◌, ℕ, ◌+◌, ◌<◌, ◌≤◌, inl, inr, List, get_or, refl, sym, ◌∙◌}
use Rattle.std.proofs.lemmas.Bool.{cases_lt}
use Rattle.std.proofs.lemmas.List.{get_or_default}
use Rattle.mx_words.specs.declared.perm.Perm.{Perm}
use Rattle.mx_words.specs.declared.perm.Perm.TheVariants as P
use Rattle.mx_words.specs.Rights.{perm_at}
use Rattle.mx_words.specs.Newest.{Grant, laid}
use Rattle.mx_words.specs.Changes.{grant_of}
use Rattle.mx_words.proofs.OverlayLaws.{laid_at_in, laid_at_below, laid_at_behind, laid_is}

-- a permission laid over words that have it changes nothing
pub laid_already : (m : List Perm) (first count : ℕ) (p : Perm) → ((k : ℕ) → first ≤ k → k < first + count → perm_at m k ≡ p)
    → laid (grant_of first count p) m ≡ m
laid_already m first count p had =
    let e : Grant = grant_of first count p in
    sym (laid_is e m m refl (λ i d lt. elim (cases_lt i first) [
      | inl before ↦ sym (laid_at_below i (get_or m i d) e before)
      | inr from ↦ elim (cases_lt i (first + count)) [
        | inl within ↦ (get_or_default m i d P.None lt ∙ had i from within ∙ sym (laid_at_in i (get_or m i d) e from within))
        | inr behind ↦ sym (laid_at_behind i (get_or m i d) e behind)
      ]
    ]))
