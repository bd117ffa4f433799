use Rattle.std.proofs.Common.{◌≡◌, ◌<◌, ◌-◌, ◌^◌, sym, subst, ◌∙◌, ap}
use Rattle.mx_model.specs.Reads.{flat_reads}
use Rattle.mx_model.specs.Run.{flat_kind, flat_made, flat_turn}
use Rattle.mx_model.specs.State.{Core, Flat, State, flat, hart_at}
use Rattle.mx_laws.specs.After.{frames_at}
use Rattle.mx_laws.specs.Crossing.{FramesAfter}
use Rattle.mx_laws.specs.Foreign.{ForeignAfter}
use Rattle.mx_machine.specs.Held.{meaning}
use Rattle.mx_machine.specs.Turning.{IsTold, IsTurn, KeepsBytes}
use Rattle.mx_machine.proofs.SizeLaws.{fits-inside}
use Rattle.mx_machine.proofs.StepLaws.{bytes-is, is-turn, told-is, turn-is, whole-is}
use Rattle.mx_machine.proofs.machine.Machine.step.Goals as goal

pub step-requires : goal.step-requires
step-requires g c = (
  search fits-inside,
  (
    record { valid = c.self.invariant.valid; coherent = c.self.invariant.coherent; fits = c.self.invariant.fits },
    subst (λ (f : Flat). f.core.turns < 2 ^ 64 - 1) (sym c.self.view_is) c.requires,
  ),
)

pub invariant_of-self : goal.invariant_of-self
invariant_of-self g c =
    whole-is c.self.inside.bare c.step.new.self c.args.hart c.step.new.out c.step.result c.step.ensures.made
    c.turns_keep_validity.ensures c.spans_are_coherent.ensures.turn c.self.invariant c.step.ensures.fits

pub returns-clause-turn : goal.returns-clause-turn
returns-clause-turn g c =
    subst (λ (f : Flat). meaning c.step.new.self ≡ flat_turn f c.args.hart) c.self.view_is
    (turn-is c.self.inside.bare c.step.new.self c.args.hart c.step.new.out c.step.result c.step.ensures.made)

pub returns-clause-out : goal.returns-clause-out
returns-clause-out g c =
    subst (λ (f : Flat). IsTold (flat_made f c.args.hart) c.step.new.out) c.self.view_is
    (told-is c.self.inside.bare c.step.new.self c.args.hart c.step.new.out c.step.result c.step.ensures.made)

pub returns-clause-kind : goal.returns-clause-kind
returns-clause-kind g c = subst (λ (f : Flat). c.step.result ≡ flat_kind f c.args.hart) c.self.view_is c.step.ensures.made.kind

pub returns-clause-state : goal.returns-clause-state
returns-clause-state g c =
    subst (λ (f : Flat). (s : State) → f ≡ flat s → IsTurn s c.args.hart (meaning c.step.new.self) c.step.new.out c.step.result)
    c.self.view_is
    (is-turn (meaning c.self.inside.bare) (meaning c.step.new.self) c.args.hart c.step.new.out c.step.result
    (turn-is c.self.inside.bare c.step.new.self c.args.hart c.step.new.out c.step.result c.step.ensures.made)
    (told-is c.self.inside.bare c.step.new.self c.args.hart c.step.new.out c.step.result c.step.ensures.made) c.step.ensures.made.kind)

pub returns-clause-foreign : goal.returns-clause-foreign
returns-clause-foreign g c =
    subst (λ (f : Flat). ForeignAfter (flat_reads f) f.core c.args.hart (meaning c.step.new.self).core) c.self.view_is
    (subst (λ (e : Core). ForeignAfter (flat_reads (meaning c.self.inside.bare)) (meaning c.self.inside.bare).core c.args.hart e)
    (sym c.step.ensures.made.core)
    (c.turns_keep_foreign_words.ensures.foreign (flat_reads (meaning c.self.inside.bare)) (meaning c.self.inside.bare).core c.args.hart
    c.self.invariant.valid))

pub returns-clause-bytes : goal.returns-clause-bytes
returns-clause-bytes g c =
    subst (λ (f : Flat). KeepsBytes c.step.result f (meaning c.step.new.self)) c.self.view_is
    (bytes-is c.self.inside.bare c.step.new.self c.args.hart c.step.new.out c.step.result c.step.ensures.made
    c.turns_keep_foreign_words.ensures.halted c.turns_keep_foreign_words.ensures.waiting c.turns_of_twins.ensures.idle)

pub returns-clause-frames : goal.returns-clause-frames
returns-clause-frames g c =
    subst (λ (f : Flat). FramesAfter (hart_at f.core c.args.hart) (hart_at (meaning c.step.new.self).core c.args.hart)) c.self.view_is
    (subst (λ (e : Core). FramesAfter (hart_at (meaning c.self.inside.bare).core c.args.hart) (hart_at e c.args.hart))
    (sym c.step.ensures.made.core)
    (c.turns_keep_frames.ensures.own (flat_reads (meaning c.self.inside.bare)) (meaning c.self.inside.bare).core c.args.hart
    c.self.invariant.valid))

pub returns-clause-others : goal.returns-clause-others
returns-clause-others g c = λ h ne.
    ap (λ (e : Core). frames_at e h) c.step.ensures.made.core
    ∙ c.turns_keep_frames.ensures.others (flat_reads (meaning c.self.inside.bare)) (meaning c.self.inside.bare).core c.args.hart h ne
    ∙ ap (λ (f : Flat). frames_at f.core h) c.self.view_is
