use Rattle.std.proofs.Common.{◌≡◌, ℕ, ◌+◌, ◌<◌, ◌^◌, false, sym, subst, ap}
use Rattle.mx_model.specs.Events.{Events}
use Rattle.mx_model.specs.Reads.{Reads, flat_reads}
use Rattle.mx_model.specs.Run.{flat_made}
use Rattle.mx_model.specs.State.{Core, Flat}
use Rattle.mx_model.specs.Turn.{turned}
use Rattle.mx_laws.specs.Quiet.{AddsNothing, may_tell}
use Rattle.mx_machine.specs.Held.{meaning}
use Rattle.mx_machine.specs.Turning.{IsStretch, turns_of}
use Rattle.mx_machine.specs.declared.views.Stretch.{Stretch}
use Rattle.mx_machine.proofs.SizeLaws.{fits-inside}
use Rattle.mx_machine.proofs.machine.Machine.run_on.Goals as goal

pub run_on-requires : goal.run_on-requires
run_on-requires g c = (
  search fits-inside,
  (
    record { valid = c.self.invariant.valid; coherent = c.self.invariant.coherent; fits = c.self.invariant.fits },
    (c.requires.some, subst (λ (f : Flat). f.core.turns + c.args.most < 2 ^ 64) (sym c.self.view_is) c.requires.few),
  ),
)

pub invariant_of-self : goal.invariant_of-self
invariant_of-self g c = c.run_on.ensures.whole

pub returns-clause-stretch : goal.returns-clause-stretch
returns-clause-stretch g c =
    subst (λ (f : Flat). IsStretch f c.args.hart c.args.most (meaning c.run_on.new.self) c.run_on.new.out c.run_on.result) c.self.view_is
    c.run_on.ensures.stretch

-- the turns before the last carry out an instruction each, so they are quiet
abbrev Law : Type 0
Law = (r : Reads) (c : Core) (h : ℕ) → may_tell (turned r c h).kind ≡ false → AddsNothing (turned r c h)

quiet-stretch : (f : Flat) (h most : ℕ) (new : Flat) (events : Events) (answer : Stretch) → Law →
    IsStretch f h most new events answer → (i : ℕ) → i < answer.ran → AddsNothing (flat_made (turns_of h f i) h)
quiet-stretch f h most new events answer law s i l =
    let g = turns_of h f i in law (flat_reads g) g.core h (ap may_tell (s.ran i l))

pub returns-clause-quiet : goal.returns-clause-quiet
returns-clause-quiet g c = quiet-stretch _ _ _ _ _ _ c.quiet_turns.ensures.made (returns-clause-stretch g c)
