use Rattle.std.proofs.Common.{sym, subst}
use Rattle.mx_model.specs.Reads.{Reads}
use Rattle.mx_model.proofs.FlatLaws.{reads-flat}
use Rattle.mx_laws.specs.OwnHeaps.{OwnHeaps}
use Rattle.mx_audit.specs.Sealed.{IsSealed}
use Rattle.mx_audit.proofs.laws.audit_of_a_flat_state.Goals as goal

pub returns-clause-sealed : goal.returns-clause-sealed
returns-clause-sealed c = λ s w.
    (subst (λ (r : Reads). IsSealed r s.core w) (reads-flat s), subst (λ (r : Reads). IsSealed r s.core w) (sym (reads-flat s)))

pub returns-clause-heaps : goal.returns-clause-heaps
returns-clause-heaps c = λ s. (
  subst (λ (r : Reads). OwnHeaps r s.core) (reads-flat s),
  subst (λ (r : Reads). OwnHeaps r s.core)
      (sym (reads-flat s)),
)
