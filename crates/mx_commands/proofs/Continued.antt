-- How a step is followed: by the reading of a file and then by the rest, or by its end.
use Rattle.std.proofs.Common.{◌≡◌, ℕ, suc, List, [], ◌∷◌, ◌++◌, Err, refl, sym, inl, inr}
use Rattle.std.proofs.lemmas.List.{append-nil}
use Rattle.mx_io.specs.Answer.{Answer, Talks}
use Rattle.mx_io.proofs.Talks.{talks-append}
use Rattle.mx_commands.specs.declared.status.Status.{Status}
use Rattle.mx_commands.specs.declared.status.Status.TheVariants.{WantOfMemory}
use Rattle.mx_commands.specs.declared.reading.ReadFault.{ReadFault}
use Rattle.mx_commands.specs.declared.reading.ReadFault.TheVariants as fault
use Rattle.mx_commands.specs.Finding.{Finding, Absent, Large, Short, Broken, Whole, Finds}
use Rattle.mx_commands.specs.Next.{Outcome, Wanted, Next, End, after_file, refusal}
use Rattle.mx_commands.specs.Reading.{ReadsFile, Refuses}
use Rattle.mx_turns.specs.Ends.{Sinks}
use Rattle.mx_commands.specs.Ends.{WritesNothing, Ends, EndsOrWants, Continues, Comes}

module _ {S : Type 0} (gives : S → Answer → S → Type 0) where
  -- a step that reads no file
  pub continues_end : (step : List Finding → Next) (outcome : Outcome) → step [] ≡ End outcome → (s : S) {b n : Sinks} {result : Status}
      → EndsOrWants outcome b n result → Continues step gives s s b n result
  continues_end step outcome is s ends = ([], refl, elim ends [ inl h ↦ inl (outcome, (0, (is, refl)), h) | inr w ↦ inr w ])

  -- memory was wanting
  pub continues_wanting : (step : List Finding → Next) (s : S) {b n : Sinks} {result : Status} → result ≡ WantOfMemory → WritesNothing b n
      → Continues step gives s s b n result
  continues_wanting step s is nothing = ([], refl, inr (is, nothing))

  -- a file was found, and the step goes on with its bytes
  pub comes_file : (file : Wanted) (rest : List ℕ → List Finding → Next) (s m : S) (bytes : List ℕ)
      → ((answers : List Answer) × Talks gives s answers m × Finds file.most file.name answers (Whole bytes))
      → Comes (after_file file rest) gives s m (rest bytes)
  comes_file file rest s m bytes read t b n result c = (
    read.0 ++ c.0,
    talks-append gives s m t read.0 c.0 read.1 c.1,
    elim c.2 [ inl h ↦ inl (h.0, (suc h.1.0, (file, read.0, c.0, Whole bytes, refl, refl, read.2, h.1.1)), h.2) | inr w ↦ inr w ],
  )

  lacking : (file : Wanted) (rest : List ℕ → List Finding → Next) (s t : S) (found : Finding) (status : Status) {b n : Sinks}
      {result : Status}
      → after_file file rest (found ∷ []) ≡ End (refusal file.name status)
      → ((answers : List Answer) × Talks gives s answers t × Finds file.most file.name answers found)
      → Ends (refusal file.name status) b n result
      → Continues (after_file file rest) gives s t b n result
  lacking file rest s t found status is read ends = (
    read.0,
    read.1,
    inl (
      refusal file.name status,
      (1, (file, read.0, [], found, refl, sym (append-nil read.0), read.2, (is, refl))),
      ends,
    ),
  )

  -- a file was refused
  pub continues_refused : (file : Wanted) (rest : List ℕ → List Finding
      → Next) (s t : S) (cause : ReadFault) {b n : Sinks} {result : Status}
      → ReadsFile gives file.most file.name s t (Err cause) → Refuses file cause b n result
      → Continues (after_file file rest) gives s t b n result
  continues_refused file rest s t fault.Absent read refuses = lacking file rest s t Absent _ refl read refuses
  continues_refused file rest s t fault.Large read refuses = lacking file rest s t Large _ refl read refuses
  continues_refused file rest s t (fault.Short told got) read refuses = lacking file rest s t (Short told got) _ refl read refuses
  continues_refused file rest s t fault.Broken read refuses = lacking file rest s t Broken _ refl read refuses
  continues_refused file rest s t fault.NoMemory read refuses = (read.0, read.1, inr refuses)
