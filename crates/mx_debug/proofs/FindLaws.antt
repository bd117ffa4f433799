-- What a search that found something says.
use Rattle.std.proofs.Common.{◌≡◌, ℕ, ◌+◌, ◌-◌, ◌≤◌, true, false, List, sym, ap, subst, ◌∙◌, arith}
use Rattle.mx_model.specs.State.{Flat}
use Rattle.mx_packets.specs.Lines.{Fails, Speaks}
use Rattle.mx_packets.proofs.LineLaws.{fails_before}
use Rattle.mx_debug.specs.declared.stop.Stop.{Stop}
use Rattle.mx_debug.specs.Looks.{IsAt, IsFound, IsPast, shows, shows_to}
use Rattle.mx_debug.specs.Session.{Asked, Looked}
use Rattle.mx_debug.proofs.ForwardLaws.{shows_more}

module _ {L : Type 0} (says : L → List ℕ → L → Type 0) (room : L → ℕ) (q : Looked) (a : Asked) (told from : ℕ) (l m : L) where
  -- the machine stands where the run stops
  pub finds : (to : ℕ × Stop) (made : ℕ) (stop : Stop) (machine : Flat) → (made, stop) ≡ to → IsAt q made machine
      → Speaks says room l (shows q told from (made - from)) m
      → IsFound says room q a told from to machine l m (record { made = made; stop = stop; past = false })
  finds to made stop machine e at said = record {
    first = e;
    place = at;
    past = λ p. absurd (cc);
    said = subst (λ (t : ℕ × Stop). Speaks says room l (shows_to q told from t) m) e said;
  }

  -- it is one turn past that
  pub finds_past : (to : ℕ × Stop) (made : ℕ) (stop : Stop) (machine : Flat) → (made, stop) ≡ to → IsAt q (made + 1) machine
      → IsPast q a (made, stop) → Speaks says room l (shows q told from (made - from)) m
      → IsFound says room q a told from to machine l m (record { made = made; stop = stop; past = true })
  finds_past to made stop machine e at past said = record {
    first = e;
    place = at;
    past = λ _. subst (λ (t : ℕ × Stop). IsPast q a t) e past;
    said = subst (λ (t : ℕ × Stop). Speaks says room l (shows_to q told from t) m) e said;
  }

  pub fails_to : (to : ℕ × Stop) (k : ℕ) → from ≤ k → k ≤ to.0 → Fails says room l (shows q told from (k - from)) m
      → Fails says room l (shows_to q told from to) m
  fails_to to k begun up fails =
      let split : to.0 - from ≡ k - from + (to.0 - k) = omega (arith, begun, up) in
      subst (λ (t : List ℕ). Fails says room l t m) (sym (ap (shows q told from) split ∙ shows_more q told from (k - from) (to.0 - k)))
      (fails_before says room l m (shows q told from (k - from)) (shows q told (from + (k - from)) (to.0 - k)) fails)
