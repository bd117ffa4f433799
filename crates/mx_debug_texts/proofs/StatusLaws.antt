-- The status of a hart by the code of the exit that ended it, and by what is told of it where none did.
use Rattle.std.proofs.Common.{◌≡◌, ℕ, Bool, true, false, List, [], ◌∷◌, codes, decimal, Option, Some, None, refl, ap, sym, ◌∙◌}
use Rattle.std.specs.List.{concat}
use Rattle.mx_machine.specs.declared.views.HartStatus.{HartStatus}
use Rattle.mx_machine.specs.Readings.{exit_of, status_told}
use Rattle.mx_model.specs.State.{Status, Running, Waiting, Halted}
use Rattle.mx_debug_texts.specs.Documents.{status_text, unended_text}

pub status_ended : (s : Status) (next : Bool) (code : ℕ) → exit_of s ≡ Some code
    → status_text s next ≡ concat (codes ", halted by exit, code " ∷ decimal code ∷ [])
status_ended Running next code is = absurd (let q : ⊥ = cc in q)
status_ended (Waiting call heard) next code is = absurd (let q : ⊥ = cc in q)
status_ended (Halted None) next code is = absurd (let q : ⊥ = cc in q)
status_ended (Halted (Some n)) next code is =
    ap (λ x. concat (codes ", halted by exit, code " ∷ decimal x ∷ [])) (let same : n ≡ code = cc in same)

unended_is : (s : Status) (next : Bool) → exit_of s ≡ None → unended_text (status_told s) next ≡ status_text s next
unended_is Running true is = refl
unended_is Running false is = refl
unended_is (Waiting call heard) true is = refl
unended_is (Waiting call heard) false is = refl
unended_is (Halted None) next is = refl
unended_is (Halted (Some n)) next is = absurd (let q : ⊥ = cc in q)

pub status_unended : (s : Status) (next : Bool) (told : HartStatus) → exit_of s ≡ None → told ≡ status_told s
    → unended_text told next ≡ status_text s next
status_unended s next told is same = ap (λ t. unended_text t next) same ∙ unended_is s next is
