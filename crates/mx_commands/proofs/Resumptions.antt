-- How a snapshot is taken up, step by step.
use Rattle.std.proofs.Common.{◌≡◌, ◌-◌, ◌^◌, ◌≤◌, ℕ, List, Result, Ok, Err, refl, inl}
use Rattle.mx_io.specs.Sink.{SinkState}
use Rattle.mx_io.specs.Answer.{Answer}
use Rattle.mx_any.specs.Machines.{meaning}
use Rattle.mx_snapshot.specs.Kept.{IsOfPlan}
use Rattle.mx_snapshot.specs.Resumed.{state_of}
use Rattle.mx_snapshot.specs.Stored.{Stored}
use Rattle.mx_resume.specs.declared.resumed.Resumed.{Resumed}
use Rattle.mx_resume.specs.Snapshot.{IsResumed, Unread, snapshot_of}
use Rattle.mx_turns.specs.Ends.{sinks}
use Rattle.mx_commands.specs.declared.status.Status.{Status}
use Rattle.mx_commands.specs.declared.status.Status.TheVariants.{WantOfMemory}
use Rattle.mx_commands.specs.Finding.{Finding}
use Rattle.mx_commands.specs.Next.{Next, End, refusal}
use Rattle.mx_commands.specs.Resumed.{Onward, unread_by, resumed}
use Rattle.mx_commands.specs.Resuming.{TakesSnapshot}
use Rattle.mx_commands.specs.Ends.{Ends, Comes}
use Rattle.mx_commands.proofs.Continued.{continues_end, continues_wanting}

module _ {S : Type 0} (gives : S → Answer → S → Type 0) where
  -- a step that came to a later one, whose snapshot was taken up
  pub snapshot_on : (step later : Onward → List Finding → Next) (s m t : S) (r u v : SinkState) → u ≡ r
      → ((rest : Onward) → Comes (step rest) gives s m (later rest))
      → (result : Result Resumed Status) → TakesSnapshot gives later m t u v result → TakesSnapshot gives step s t r v result
  snapshot_on step later s m t r u v same comes (Ok x) takes =
      let goes = takes.1 in (
        rw same at takes.0,
        record {
          state = goes.state;
          new = goes.new;
          means = goes.means;
          turns = goes.turns;
          plan = goes.plan;
          comes = λ rest end before now status c. comes rest end before now status (goes.comes rest end before now status c);
        },
      )
  snapshot_on step later s m t r u v same comes (Err status) takes =
      λ rest console dump. comes rest t (sinks console r dump) (sinks console v dump) status (rw same at (takes rest console dump))

  -- what is stored was given back
  pub snapshot_given : (name bytes : List ℕ) (s : S) (r : SinkState) (x : Resumed) (stored : Stored) → snapshot_of bytes ≡ Ok stored
      → IsResumed stored x
      → IsOfPlan x.plan (meaning x.machine) → (meaning x.machine).core.turns ≤ 2 ^ 63 - 1
      → TakesSnapshot gives (λ (rest : Onward). resumed name rest (snapshot_of bytes)) s s r r (Ok x)
  snapshot_given name bytes s r x stored is back of few = (
    refl,
    record {
      state = state_of stored;
      new = record { console = refl; notes = refl };
      means = back.machine;
      turns = rw back.machine at few;
      plan = rw back.machine at of;
      comes = λ rest. rw (is, back.plan) (λ end before now status c. c);
    },
  )

  -- it is refused by its line
  pub snapshot_refused : (name bytes : List ℕ) (s : S) (r u : SinkState) (why : Unread) → snapshot_of bytes ≡ Err why → (status : Status)
      → ((console dump : SinkState) → Ends (refusal name (unread_by why)) (sinks console r dump) (sinks console u dump) status)
      → TakesSnapshot gives (λ (rest : Onward). resumed name rest (snapshot_of bytes)) s s r u (Err status)
  snapshot_refused name bytes s r u why is status ends = λ rest console dump.
      rw is (continues_end gives (λ found. End (refusal name (unread_by why))) (refusal name (unread_by why)) refl s
      (inl (ends console dump)))

  pub snapshot_wanting : (step : Onward → List Finding → Next) (s : S) (r : SinkState) → TakesSnapshot gives step s s r r (Err WantOfMemory)
  snapshot_wanting step s r rest console dump = continues_wanting gives (step rest) s refl
      (record { console = refl; report = refl; dump = refl })
