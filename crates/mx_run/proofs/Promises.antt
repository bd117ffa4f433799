-- What the top call promises, from how it reacts.
use Rattle.std.proofs.Common.{◌≡◌, ◌≢◌, ◌⊎◌, IsTrue, Option, Some, None, IfSome, refl, ap, subst, inl, inr}
use Rattle.mx_io.specs.Count.{Stays}
use Rattle.mx_io.specs.Sink.{SinkState}
use Rattle.mx_io.specs.Store.{StoreState}
use Rattle.mx_io.specs.Answer.{Answer, Tells}
use Rattle.mx_io.proofs.Text.{Stays-not-Rose}
use Rattle.mx_io.proofs.Talks.{talks_told, all_succeeded}
use Rattle.mx_commands.specs.declared.status.Status.{Status}
use Rattle.mx_commands.specs.declared.status.Status.TheVariants.{WantOfMemory}
use Rattle.mx_run.specs.Words.{Request}
use Rattle.mx_commands.specs.Next.{Outcome}
use Rattle.mx_run.specs.Commands.{next}
use Rattle.mx_run.specs.Leads.{IsOutcome}
use Rattle.mx_turns.specs.declared.fault.SinkFault.{SinkFault}
use Rattle.mx_turns.specs.declared.fault.SinkFault.TheVariants as F
use Rattle.mx_turns.specs.Ends.{Sinks, Texts, CountsKept, HasRoom, IsSinkFault}
use Rattle.mx_commands.specs.Ends.{EndsBy, Ends, WritesNothing}
use Rattle.mx_run.specs.Top.{Answered, Reacts}
use Rattle.mx_run.specs.Promise.{CountsStay, Gives, Headline, Completeness}
use Rattle.mx_commands.proofs.Leads.{leads_over}
use Rattle.mx_run.proofs.Outcomes.{one_outcome}

pub if_some : {A : Type 0} (o : Option A) (P : A → Type 0) → ((a : A) → o ≡ Some a → P a) → IfSome o P
if_some None P each = tt
if_some (Some a) P each = each a refl

-- where the counts stay no sink failed
no_fault : (texts : Texts) (b n : Sinks) (which : SinkFault) → Stays b.console.faults n.console.faults
    → Stays b.report.faults n.report.faults → Stays b.dump.faults n.dump.faults
    → IsSinkFault which texts b n → ⊥
no_fault texts b n F.Console console report dump f = Stays-not-Rose b.console.faults n.console.faults console f.2.rose
no_fault texts b n F.Report console report dump f = Stays-not-Rose b.report.faults n.report.faults report f.2.rose
no_fault texts b n F.Dump console report dump f = Stays-not-Rose b.dump.faults n.dump.faults dump f.1.rose

gives_from : (outcome : Outcome) (b n : Sinks) (result : Status) → ((which : SinkFault) → IsSinkFault which outcome.texts b n → ⊥)
    → EndsBy outcome b n result → Gives outcome b n result
gives_from outcome b n result none ends = elim ends [ inl h ↦ (h.0, h.1) | inr h ↦ absurd (none h.0 h.2) ]

kept_nothing : (b n : Sinks) → WritesNothing b n → CountsKept b n
kept_nothing b n w =
    record {
      console = ap (λ (s : SinkState). s.faults) w.console;
      report = ap (λ (s : SinkState). s.faults) w.report;
      dump = ap (λ (s : SinkState). s.faults) w.dump;
    }

module _ {S : Type 0} (state : S → StoreState) (gives : S → Answer → S → Type 0) (law : (s : S) (a : Answer) (t : S) → gives s a t
    → Tells (state s) a (state t))
    (s t : S) (asked : Option Request) (b n : Sinks) (result : Status) where
  pub answered_for : Reacts asked gives s t b n result → Answered asked gives s t b n result
  answered_for r = (r.0, r.1, elim r.2 [ inl h ↦ inl (h.0, h.1, h.2.how) | inr w ↦ inr w ])

  pub headline_for : Reacts asked gives s t b n result → Headline asked (state s) (state t) b n result
  headline_for r =
      if_some (state s).told (λ files. CountsStay (state s) (state t) b n → result ≢ WantOfMemory
      → (outcome : Outcome) × IsOutcome asked files outcome × Gives outcome b n result)
      (λ files told stays enough.
      let said = talks_told state gives law s t r.0 r.1 in
      let ok = all_succeeded (state s).faults (state t).faults (Stays-not-Rose (state s).faults (state t).faults stays.store) r.0
      said.failed in
      elim r.2 [
        | inl h ↦ (
          h.0,
          (h.1.0, leads_over h.1.0 (next asked) files r.0 h.0 ok (said.told files told) h.1.1),
          gives_from h.0 b n result (λ which. no_fault h.0.texts b n which stays.console stays.report stays.dump) h.2.how,
        )
        | inr w ↦ absurd (enough w.0)
      ])

  pub complete_for : Reacts asked gives s t b n result → Completeness asked (state s) (state t) b n result
  complete_for r =
      if_some (state s).told
      (λ files. (outcome : Outcome) → IsOutcome asked files outcome → IsTrue (state s).sure → HasRoom outcome.texts b
      → ((state t).faults ≡ (state s).faults) × CountsKept b n × ((result ≡ WantOfMemory) ⊎ Gives outcome b n result))
      (λ files told outcome is sure room.
      let said = talks_told state gives law s t r.0 r.1 in
      let ok = said.sure sure in
      elim r.2 [
        | inl h ↦
            let same : h.0 ≡ outcome = one_outcome asked files h.0 outcome
            (h.1.0, leads_over h.1.0 (next asked) files r.0 h.0 ok.0 (said.told files told) h.1.1) is in
            let ends = subst (λ (o : Outcome). Ends o b n result) same h.2 in
            let e = ends.sure room in
            (ok.1, e.2, inr (e.0, e.1))
        | inr w ↦ (ok.1, kept_nothing b n w.2, inl w.0)
      ])
