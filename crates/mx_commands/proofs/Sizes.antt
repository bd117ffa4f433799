-- The reading of a file from the answer about its size on.
use Rattle.std.proofs.Common.{ℕ, ◌<◌, ◌≤◌, List, [], ◌∷◌, Some, None, Vec, Global, Result, Ok, Err, refl, inl, inr}
use Rattle.mx_io.specs.Answer.{Answer, Sized, Talks}
use Rattle.mx_commands.specs.declared.reading.ReadFault.{ReadFault}
use Rattle.mx_commands.specs.declared.reading.ReadFault.TheVariants as fault
use Rattle.mx_commands.specs.Finding.{Finding, Completes, Finds}
use Rattle.mx_commands.specs.Reading.{ReadsFile, ReadsTold}

module _ {S : Type 0} (gives : S → Answer → S → Type 0) (most : ℕ) (name : List ℕ) (s m t : S) where
  reads_on : (told : ℕ) (found : Finding) → told ≤ most → gives s (Sized name (Some (Some told))) m
      → ((answers : List Answer) × Talks gives m answers t × Completes name told [] answers found)
      → (answers : List Answer) × Talks gives s answers t × Finds most name answers found
  reads_on told found fits step rest = (
    Sized name (Some (Some told))
        ∷ rest.0,
    (m, step, rest.1),
    (Some (Some told), refl, inr (fits, rest.2)),
  )

  -- a size within the limit, and then what was read
  pub reads_told : (told : ℕ) → told ≤ most → gives s (Sized name (Some (Some told))) m → (result : Result (Vec ℕ Global) ReadFault)
      → ReadsTold gives told name m t result → ReadsFile gives most name s t result
  reads_told told fits step (Ok bytes) rest = reads_on told _ fits step rest
  reads_told told fits step (Err fault.Absent) rest = reads_on told _ fits step rest
  reads_told told fits step (Err fault.Large) rest = reads_on told _ fits step rest
  reads_told told fits step (Err (fault.Short size got)) rest = reads_on told _ fits step rest
  reads_told told fits step (Err fault.Broken) rest = reads_on told _ fits step rest
  reads_told told fits step (Err fault.NoMemory) rest = (Sized name (Some (Some told)) ∷ rest.0, (m, step, rest.1), tt)

module _ {S : Type 0} (gives : S → Answer → S → Type 0) (most : ℕ) (name : List ℕ) (s t : S) where
  pub reads_large : (told : ℕ) → most < told → gives s (Sized name (Some (Some told))) t → ReadsFile gives most name s t (Err fault.Large)
  reads_large told more step = (Sized name (Some (Some told)) ∷ [], (t, step, refl), (Some (Some told), refl, inl (more, refl, refl)))

  pub reads_absent : gives s (Sized name (Some None)) t → ReadsFile gives most name s t (Err fault.Absent)
  reads_absent step = (Sized name (Some None) ∷ [], (t, step, refl), (Some None, refl, (refl, refl)))

  pub reads_broken : gives s (Sized name None) t → ReadsFile gives most name s t (Err fault.Broken)
  reads_broken step = (Sized name None ∷ [], (t, step, refl), (None, refl, (refl, refl)))
