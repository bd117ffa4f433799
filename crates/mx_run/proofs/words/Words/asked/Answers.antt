use Rattle.std.proofs.Common.{◌≡◌, ℕ, List, ◌∷◌, map, None, Bool, true, false, bytes_eq, refl, ◌∙◌, ap, sym, string_bytes}
use Rattle.std.proofs.lemmas.Slice.Eq.{bytes_eq-Decides}
use Rattle.mx_run.specs.Words.{meaning}
use Rattle.mx_run.proofs.words.Words.asked.Goals as goal

if-not : (b : Bool) → (b ≡ true → ⊥) → b ≡ false
if-not true n = absurd (n refl)
if-not false n = refl

other : (word row : List ℕ) → (word ≡ row → ⊥) → bytes_eq word row ≡ false
other word row n = if-not (bytes_eq word row) (λ e. n ((bytes_eq-Decides word row).0 e))

pub returns-in_default : goal.returns-in_default
returns-in_default c =
    let n = c.in_default in
    let none : meaning (c.as_str.result.now ∷ map string_bytes c.in_ok-command.operands.now) ≡ None =
    rw (
      other _ _ n.not-run,
      other _ _ n.not-resume,
      other _ _ n.not-trace,
      other _ _ n.not-asm,
      other _ _ n.not-audit,
      other _ _
          n.not-twin,
      other _ _ n.not-mill,
    ) refl in
    let words = ap (map string_bytes) (sym c.as_slice.ensures.value ∙ c.in_ok-command.ensures.cases.0) in
    let is = rw c.as_str.ensures.value at none in
    record { meaning = sym is ∙ ap meaning (sym words ∙ c.self.view_is) }
