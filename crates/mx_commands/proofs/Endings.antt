-- How a call of the program ends, by what was put on its sinks.
use Rattle.std.proofs.Common.{ℕ, List, [], Ok, Err, refl, inl, inr, arith}
use Rattle.mx_io.specs.Texts.{AppendsPrefix}
use Rattle.mx_io.specs.Sink.{SinkState, Puts}
use Rattle.mx_io.proofs.Puts.{not_ok}
use Rattle.mx_io.proofs.Text.{appends_nothing}
use Rattle.mx_tail.specs.Tail.{sent}
use Rattle.mx_turns.specs.declared.fault.SinkFault.{SinkFault}
use Rattle.mx_turns.specs.declared.fault.SinkFault.TheVariants as F
use Rattle.mx_turns.specs.Ends.{Sinks, sinks, Holds, CountsKept, LeavesAt, Leave, still}
use Rattle.mx_commands.specs.declared.status.Status.{Status}
use Rattle.mx_commands.specs.declared.status.Status.TheVariants.{ConsoleFault, ReportFault}
use Rattle.mx_commands.specs.Next.{Outcome}
use Rattle.mx_commands.specs.Ends.{Ends, fault_of}

-- nothing leaves before the end of a call that makes no turn
leaves_still : (bytes : ℕ) → LeavesAt bytes (λ (made : ℕ). []) 0 0
unfolding sent
leaves_still bytes = record { few = omega arith; pieces = omega arith; next = inr refl }

prefix_still : (s : SinkState) (text : List ℕ) → AppendsPrefix s.written s.written text
prefix_still s text = (0, appends_nothing s.written)

module _ {A E : Type 0} (status : Status) (text : List ℕ) {before now : SinkState} where
  -- a report was put, and nothing else
  pub ends_reported : {a : A} → Puts {E = E} before now text (Ok a) → (console dump : SinkState)
      → Ends (record { status = status; texts = still [] text [] }) (sinks console before dump) (sinks console now dump) status
  ends_reported puts console dump =
      let holds : Holds (still [] text []) (sinks console before dump) (sinks console now dump)
      = record { console = appends_nothing console.written; report = puts.whole; dump = appends_nothing dump.written } in
      let kept : CountsKept (sinks console before dump) (sinks console now dump) =
      record { console = refl; report = puts.kept; dump = refl } in
      record { how = inl (refl, holds, kept); sure = λ room. (refl, holds, kept) }

  -- it could not be put whole
  pub ends_unreported : {e : E} → Puts {A = A} before now text (Err e) → (console dump : SinkState)
      → Ends (record { status = status; texts = still [] text [] }) (sinks console before dump) (sinks console now dump) ReportFault
  ends_unreported {e} puts console dump =
      let front = puts.front in
      record {
        how = inr (
          F.Report,
          refl,
          (
            0,
            front.0,
            record { within = front.1; put = front.2; rose = puts.failed },
            leaves_still front.0,
            inr (refl, record { whole = appends_nothing console.written; kept = refl }),
            refl,
          ),
          record { console = prefix_still console []; report = (front.0, front.2); dump = prefix_still dump [] },
        );
        sure = λ room. absurd (not_ok A e (puts.sure room.report).0);
      }

  -- bytes were put on the console, and nothing else
  pub ends_shown : {a : A} → Puts {E = E} before now text (Ok a) → (report dump : SinkState)
      → Ends (record { status = status; texts = still text [] [] }) (sinks before report dump) (sinks now report dump) status
  ends_shown puts report dump =
      let holds : Holds (still text [] []) (sinks before report dump) (sinks now report dump)
      = record { console = puts.whole; report = appends_nothing report.written; dump = appends_nothing dump.written } in
      let kept : CountsKept (sinks before report dump) (sinks now report dump) =
      record { console = puts.kept; report = refl; dump = refl } in
      record { how = inl (refl, holds, kept); sure = λ room. (refl, holds, kept) }

  -- they could not be put whole
  pub ends_unshown : {e : E} → Puts {A = A} before now text (Err e) → (report dump : SinkState)
      → Ends (record { status = status; texts = still text [] [] }) (sinks before report dump) (sinks now report dump) ConsoleFault
  ends_unshown {e} puts report dump =
      let front = puts.front in
      record {
        how = inr (
          F.Console,
          refl,
          (
            0,
            front.0,
            record { within = front.1; put = front.2; rose = puts.failed },
            leaves_still front.0,
            inl (record { whole = appends_nothing report.written; kept = refl }),
            refl,
          ),
          record { console = (front.0, front.2); report = prefix_still report []; dump = prefix_still dump [] },
        );
        sure = λ room. absurd (not_ok A e (puts.sure room.console).0);
      }

-- the texts of an outcome left, or a sink failed
module _ {A : Type 0} (outcome : Outcome) (before now : Sinks) where
  pub ends_left : {a : A} → Leave outcome.texts before now (Ok a) → Ends outcome before now outcome.status
  ends_left l = record { how = inl (refl, l.whole.0, l.whole.1); sure = λ room. (refl, l.whole.0, l.whole.1) }

  pub ends_failed : (which : SinkFault) → Leave {A = A} outcome.texts before now (Err which) → Ends outcome before now (fault_of which)
  ends_failed which l = record { how = inr (which, refl, l.fault.0, l.fault.1); sure = λ room. absurd (not_ok A which (l.sure room)) }
