-- A text put on a sink: by an equal text, and where it couldn't be put.
use Rattle.std.proofs.Common.{◌≡◌, ℕ, List, Result, Err, IsOk, T, sym, subst}
use Rattle.mx_io.specs.Sink.{SinkState, Puts}

-- the text that was put, by an equal text
pub puts_same : {A E : Type 0} {before now : SinkState} {text other : List ℕ} {result : Result A E} → text ≡ other
    → Puts before now text result → Puts before now other result
puts_same {A} {E} {before} {now} {text} {other} {result} same puts =
    subst (λ (t : List ℕ). Puts {A = A} {E = E} before now t result) same puts

-- a refusal is no success
pub not_ok : (A : Type 0) {E : Type 0} (e : E) → IsOk {T = A} (Err e) → ⊥
not_ok A e h = subst T (sym h) tt
