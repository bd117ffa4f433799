-- A step that came to its end with a run: what the store gave leads to whatever texts are made of this run.
use Rattle.std.proofs.Common.{◌≡◌, ℕ, List, [], Some, refl, sym, inl, inr}
use Rattle.mx_io.specs.Answer.{Answer, Talks}
use Rattle.mx_io.specs.Sink.{SinkState}
use Rattle.mx_io.specs.Texts.{AppendsWhole}
use Rattle.mx_turns.specs.declared.fault.SinkFault.{SinkFault}
use Rattle.mx_turns.specs.declared.fault.SinkFault.TheVariants as F
use Rattle.mx_turns.specs.Ends.{CountsKept, Holds, Sinks, Texts, sinks}
use Rattle.mx_commands.specs.declared.status.Status.TheVariants.{Ran, WantOfMemory}
use Rattle.mx_commands.specs.Finding.{Finding}
use Rattle.mx_commands.specs.Next.{End, Next, Outcome}
use Rattle.mx_commands.specs.Leads.{LeadsTo}
use Rattle.mx_commands.specs.Ends.{Comes, Ends, EndsBy, fault_of}
use Rattle.mx_commands.proofs.Continued.{continues_end}
use Rattle.mx_debugger.specs.Looking.{IsOf}

-- a sink that holds these bytes, and has room for none
abbrev pub holding : List ℕ → SinkState
holding text = record { written = Some text; faults = 0; room = 0 }

-- three sinks that hold nothing, and three that hold texts
abbrev pub empty : Sinks
empty = sinks (holding []) (holding []) (holding [])

abbrev pub full : Texts → Sinks
full texts = sinks (holding texts.console) (holding texts.report) (holding texts.dump)

-- what may be made of texts
abbrev pub made_of : Texts → Outcome
made_of texts = record { status = Ran; texts = texts }

grown : (text : List ℕ) → AppendsWhole (Some []) (Some text) text
grown text = record { grows = refl }

whole : (text other : List ℕ) → AppendsWhole (Some []) (Some text) other → other ≡ text
whole text other a = sym a.grows

ends_full : (texts : Texts) → Ends (made_of texts) empty (full texts) Ran
ends_full texts =
    let holds : Holds texts empty (full texts) = record {
      console = grown texts.console;
      report = grown texts.report;
      dump =
          grown texts.dump;
    } in
    let kept : CountsKept empty (full texts) = record { console = refl; report = refl; dump = refl } in
    record { how = inl (refl, holds, kept); sure = λ room. (refl, holds, kept) }

no_fault : (which : SinkFault) → Ran ≡ fault_of which → ⊥
no_fault F.Console e = cc
no_fault F.Report e = cc
no_fault F.Dump e = cc

of_texts : (texts : Texts) (outcome : Outcome) → EndsBy outcome empty (full texts) Ran → IsOf texts outcome
of_texts texts outcome (inl h) =
    record {
      status = sym h.0;
      console = whole texts.console outcome.texts.console h.1.console;
      report = whole texts.report outcome.texts.report h.1.report;
      dump = whole texts.dump outcome.texts.dump h.1.dump;
    }
of_texts texts outcome (inr h) = absurd (no_fault h.0 h.1)

pub led : {S : Type 0} (gives : S → Answer → S → Type 0) (step : List Finding → Next) (texts : Texts) (s t : S)
    → Comes step gives s t (λ more. End (record { status = Ran; texts = texts }))
    → (answers : List Answer) × Talks gives s answers t × ((outcome : Outcome) × LeadsTo step answers outcome × IsOf texts outcome)
led gives step texts s t comes =
    let c = comes t empty (full texts) Ran (continues_end gives (λ more. End (made_of texts)) (made_of texts) refl t
    (inl (ends_full texts))) in
    (c.0, c.1, elim c.2 [ inl h ↦ (h.0, h.1, of_texts texts h.0 h.2.how) | inr w ↦ let e : Ran ≡ WantOfMemory = w.0 in cc ])
