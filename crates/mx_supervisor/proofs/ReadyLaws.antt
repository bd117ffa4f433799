-- A call that is ready stays so while nothing but caches changes.
use Rattle.std.proofs.Common.{◌≡◌, ◌≢◌, ℕ, ◌⊎◌, inl, inr, List, length, Option, Some, None, refl, sym, ap, ◌∙◌}
use Rattle.std.proofs.lemmas.Bool.{cases_eq}
use Rattle.mx_words.specs.Counting.{all_below}
use Rattle.mx_words.specs.Hearing.{lets_pass}
use Rattle.mx_check.specs.declared.flight.Flight.{Flight}
use Rattle.mx_check.specs.Calls.{hart_lets_pass, ready_with, is_ready}
use Rattle.mx_check.specs.Harts.{Kept, kept_at}
use Rattle.mx_check.proofs.LookLaws.{all_below_agree}
use Rattle.mx_model.specs.declared.values.Call.{Call}
use Rattle.mx_supervisor.specs.Looks.{KeepsHarts}

halted-kept : (call : Call) (flight : Option Flight) (old now : List Kept) → KeepsHarts call flight old now → (i : ℕ) →
    (kept_at now i).halted ≡ (kept_at old i).halted
halted-kept call flight old now keeps i = by (cases_eq i call.hart)
  where
    by : (i ≡ call.hart) ⊎ (i ≢ call.hart) → (kept_at now i).halted ≡ (kept_at old i).halted
    by (inl e) = ap (λ j. (kept_at now j).halted) e ∙ keeps.halted ∙ ap (λ j. (kept_at old j).halted) (sym e)
    by (inr ne) = ap (λ (k : Kept). k.halted) (keeps.others i ne)

with-kept : (call : Call) (flight o : Option Flight) (old now : List Kept) → KeepsHarts call flight old now →
    ready_with call.hart o now ≡ ready_with call.hart o old
with-kept call flight None old now keeps = refl
with-kept call flight (Some f) old now keeps =
    ap (λ n. all_below n (hart_lets_pass call.hart f now)) keeps.count
    ∙ all_below_agree (length old) (hart_lets_pass call.hart f now) (hart_lets_pass call.hart f old)
    (λ i lt. ap (lets_pass call.hart f.heard i) (halted-kept call flight old now keeps i))

pub ready-kept : (call : Call) (old now : List Kept) → KeepsHarts call (kept_at old call.hart).flight old now
    → is_ready call.hart now ≡ is_ready call.hart old
ready-kept call old now keeps =
    ap (λ (o : Option Flight). ready_with call.hart o now) keeps.flight
    ∙ with-kept call (kept_at old call.hart).flight (kept_at old call.hart).flight old now keeps
