-- How what was asked is answered, from how its step was followed.
use Rattle.std.proofs.Common.{◌≡◌, [], Some, None, refl, sym, subst, inl, inr}
use Rattle.mx_io.specs.Answer.{Answer}
use Rattle.mx_commands.specs.declared.status.Status.{Status}
use Rattle.mx_commands.specs.declared.status.Status.TheVariants.{Usage}
use Rattle.mx_commands.specs.Order.{Order}
use Rattle.mx_run.specs.Words.{Request, Go}
use Rattle.mx_commands.specs.declared.order.Way.{Way}
use Rattle.mx_commands.specs.Next.{refusal}
use Rattle.mx_commands.specs.Commands.{going}
use Rattle.mx_run.specs.Commands.{next}
use Rattle.mx_turns.specs.Ends.{Sinks}
use Rattle.mx_commands.specs.Ends.{Ends, Continues}
use Rattle.mx_run.specs.Top.{Reacts}

module _ {S : Type 0} (gives : S → Answer → S → Type 0) where
  -- a run of its way was made
  pub continues_way : (o : Order) (w : Way) → o.way ≡ w → (s t : S) {b n : Sinks} {result : Status}
      → Continues (going o w) gives s t b n result
      → Continues (next (Some (Go o))) gives s t b n result
  continues_way o w is s t {b} {n} {result} c = subst (λ (w : Way). Continues (going o w) gives s t b n result) (sym is) c

  -- what was asked was answered
  pub reacts_some : (request : Request) (s t : S) {b n : Sinks} {result : Status} → Continues (next (Some request)) gives s t b n result
      → Reacts (Some request) gives s t b n result
  reacts_some request s t c = (c.0, c.1, elim c.2 [ inl h ↦ inl h | inr w ↦ inr (w.0, refl, w.1) ])

  pub reacts_none : (s : S) {b n : Sinks} {result : Status} → Ends (refusal [] Usage) b n result → Reacts None gives s s b n result
  reacts_none s ends = ([], refl, inl (refusal [] Usage, (0, (refl, refl)), ends))
