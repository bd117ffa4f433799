-- How a boot and a schedule are taken, step by step.
use Rattle.std.proofs.Common.{◌≡◌, ℕ, List, [], Some, None, Vec, Global, Result, Ok, Err, refl, inl}
use Rattle.mx_io.specs.Sink.{SinkState}
use Rattle.mx_io.specs.Answer.{Answer}
use Rattle.mx_model.specs.Run.{ByBytes}
use Rattle.mx_turns.specs.Ends.{sinks}
use Rattle.mx_commands.specs.declared.booting.Loaded.{Loaded}
use Rattle.mx_commands.specs.declared.status.Status.{Status}
use Rattle.mx_commands.specs.declared.status.Status.TheVariants.{WantOfMemory}
use Rattle.mx_commands.specs.Boots.{Load}
use Rattle.mx_commands.specs.Booting.{TakesLoaded, TakesSchedule}
use Rattle.mx_commands.specs.Commands.{schedule_file}
use Rattle.mx_commands.specs.Finding.{Finding}
use Rattle.mx_commands.specs.Next.{Outcome, Next, End}
use Rattle.mx_commands.specs.Reading.{Takes}
use Rattle.mx_commands.specs.Ends.{Ends, Comes}
use Rattle.mx_commands.proofs.Continued.{continues_end, continues_wanting}

module _ {S : Type 0} (gives : S → Answer → S → Type 0) where
  -- a step that came to a later one, whose boot was taken
  pub boots_on : (step later : Load → List Finding → Next) (s m t : S) (r u v : SinkState) → u ≡ r
      → ((rest : Load) → Comes (step rest) gives s m (later rest)) → (result : Result Loaded Status)
      → TakesLoaded gives later m t u v result → TakesLoaded gives step s t r v result
  boots_on step later s m t r u v same comes (Ok l) takes =
      let goes = takes.1 in (
        rw same at takes.0,
        record {
          state = goes.state;
          boots = goes.boots;
          fits = goes.fits;
          new = goes.new;
          means = goes.means;
          size = goes.size;
          kept = goes.kept;
          comes = λ rest end before now status c. comes rest end before now status (goes.comes rest end before now status c);
        },
      )
  boots_on step later s m t r u v same comes (Err status) takes =
      λ rest console dump. comes rest t (sinks console r dump) (sinks console v dump) status (rw same at (takes rest console dump))

  -- a boot that is refused by its line
  pub boots_refused : (step : Load → List Finding → Next) (outcome : Outcome) (s : S) (r u : SinkState) (status : Status)
      → ((rest : Load) → step rest [] ≡ End outcome)
      → ((console dump : SinkState) → Ends outcome (sinks console r dump) (sinks console u dump) status)
      → TakesLoaded gives step s s r u (Err status)
  boots_refused step outcome s r u status is ends rest console dump =
      continues_end gives (step rest) outcome (is rest) s (inl (ends console dump))

  pub boots_wanting : (step : Load → List Finding → Next) (s : S) (r : SinkState) → TakesLoaded gives step s s r r (Err WantOfMemory)
  boots_wanting step s r rest console dump = continues_wanting gives (step rest) s refl
      (record { console = refl; report = refl; dump = refl })

  -- no schedule file is asked
  pub schedule_none : (s : S) (r : SinkState) → TakesSchedule gives None s s r r (Ok None)
  schedule_none s r = (refl, λ quantum made end before now status c. c)

  -- its bytes came
  pub schedule_some : (name : List ℕ) (s t : S) (r u : SinkState) (bytes : Vec ℕ Global)
      → Takes gives (schedule_file name) s t r u (Ok bytes) → TakesSchedule gives (Some name) s t r u (Ok (Some bytes.items))
  schedule_some name s t r u bytes takes = (takes.0, λ quantum made. takes.1 (λ bytes more. End (made (ByBytes bytes))))

  -- it isn't there whole
  pub schedule_err : (name : List ℕ) (s t : S) (r u : SinkState) (status : Status) → Takes gives (schedule_file name) s t r u (Err status)
      → TakesSchedule gives (Some name) s t r u (Err status)
  schedule_err name s t r u status takes = λ quantum made console dump. takes (λ bytes more. End (made (ByBytes bytes))) console dump
