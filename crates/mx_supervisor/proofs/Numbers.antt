-- The rows of the table of calls by their numbers.
use Rattle.std.proofs.Common.{◌≡◌, ℕ, List, [], sym, subst, Option}
use Rattle.mx_check.specs.declared.flight.Flight.{Flight}
use Rattle.mx_model.specs.declared.values.Call.{Call}
use Rattle.mx_model.specs.Reads.{flat_reads}
use Rattle.mx_model.specs.Serve.{Service, service, served_by}
use Rattle.mx_supervisor.specs.declared.answer.Answer.{Answer}
use Rattle.mx_supervisor.specs.Parts.{Parts, core_of, flat_of}
use Rattle.mx_supervisor.specs.Served.{IsServed, Meets, served_row}

-- a call of a number is served by its row
pub as-row : (s : Service) (call : Call) (after : Option Flight) (p q : Parts) (bytes : List ℕ) (a : Answer) → service call.number ≡ s →
    Meets (served_by s) call after p q bytes a → Meets served_row call after p q bytes a
as-row s call after p q bytes a e m = record {
  served = λ rest bars. subst (λ (t : Service). IsServed rest p q bytes a (served_by t (flat_reads (flat_of rest p)) (core_of rest p) call))
      (sym e) (m.served rest bars);
  refused = m.refused;
  harts = m.harts;
  sizes = m.sizes;
  sound = m.sound;
}

-- the same of a call that puts no bytes to the console
pub as-silent-row : (s : Service) (call : Call) (after : Option Flight) (p q : Parts) (bytes : List ℕ) (a : Answer)
    → service call.number ≡ s → bytes ≡ [] →
    Meets (served_by s) call after p q [] a → Meets served_row call after p q bytes a
as-silent-row s call after p q bytes a e none m = as-row s call after p q bytes a e
    (subst (λ (b : List ℕ). Meets (served_by s) call after p q b a) (sym none) m)
