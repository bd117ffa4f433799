use Rattle.std.proofs.Common.{refl, sym, subst, ◌∙◌, arith}
use Rattle.mx_core.specs.declared.outcome.Outcome.{Outcome}
use Rattle.mx_core.specs.declared.outcome.Outcome.TheVariants as O
use Rattle.mx_core.specs.Exec.{HasCause}
use Rattle.mx_model.specs.Turn.{call_of}
use Rattle.mx_machine.specs.Harts.{hart_among}
use Rattle.mx_machine.specs.Made.{hart_in}
use Rattle.mx_machine.proofs.MadeLaws.{may-look}
use Rattle.mx_machine.proofs.InstructLaws.{fits-instruction, from-instruction, made-next, runs-instruction}
use Rattle.mx_machine.proofs.KindLaws.{asks-ended, ended-on, return-ended, trapped-ended}
use Rattle.mx_machine.proofs.MayLaws.{aligned-pc}
use Rattle.mx_machine.proofs.bare.Bare.execute.Goals as goal

pub instruct-requires : goal.instruct-requires
instruct-requires g c =
    let m = c.args.self.now in
    let h = c.args.hart in
    let r = c.requires.run in
    (assumption c, (r.act.fits.sound, (r.act.there, (may-look m h r, (r.act.domain, aligned-pc m h c.requires.valid r.act.there)))))

pub trap-requires : goal.trap-requires
trap-requires g c =
    let m = c.args.self.now in
    let caused = subst (λ (o : Outcome). HasCause o) c.in-Trap.is c.instruct.ensures.cause in (
      assumption c,
      (
        rw c.instruct.ensures.after (runs-instruction m c.args.hart c.args.returns c.requires.run),
        (omega (arith, caused), c.requires.empty),
      ),
    )

pub ask-requires : goal.ask-requires
ask-requires g c =
    let m = c.args.self.now in
    (assumption c, (rw c.instruct.ensures.after (runs-instruction m c.args.hart c.args.returns c.requires.run), c.requires.empty))

pub go_back-requires : goal.go_back-requires
go_back-requires g c =
    let m = c.args.self.now in (
      assumption c,
      (
        rw c.instruct.ensures.after (runs-instruction m c.args.hart c.args.returns c.requires.run),
        (subst (λ (o : Outcome). HasCause o) c.in-Back.is c.instruct.ensures.cause, c.requires.empty),
      ),
    )

pub returns-in-Next : goal.returns-in-Next
returns-in-Next g c =
    let m = c.args.self.now in
    let h = c.args.hart in
    let r = c.requires.run in
    let e = sym c.instruct.ensures.outcome ∙ c.in-Next.is in
    record {
      made = rw (c.instruct.ensures.after, c.requires.empty)
          (made-next m h c.args.returns r (r.act.fits.sound.maps (hart_among m.harts h).domain r.act.domain) c.requires.returns _ e);
      fits = rw c.instruct.ensures.after (fits-instruction m h c.args.returns r);
      on = λ none. (c.instruct.ensures.after, c.requires.empty);
      ran = λ ran. refl;
    }

pub returns-in-Trap : goal.returns-in-Trap
returns-in-Trap g c =
    let m = c.args.self.now in
    let h = c.args.hart in
    let r = c.requires.run in
    let e = sym c.instruct.ensures.outcome ∙ c.in-Trap.is in
    let made = rw c.instruct.ensures.after at c.trap.ensures.made in
    record {
      made = from-instruction m h c.args.returns r (r.act.fits.sound.maps (hart_among m.harts h).domain r.act.domain) c.requires.returns
          c.trap.new.self c.trap.new.out c.trap.result (O.Trap c.in-Trap.fault) e tt made;
      fits = c.trap.ensures.fits;
      on = λ on. absurd (ended-on _ on);
      ran = λ ran. absurd (trapped-ended (sym c.trap.ensures.made.kind ∙ ran));
    }

pub returns-in-Call : goal.returns-in-Call
returns-in-Call g c =
    let m = c.args.self.now in
    let h = c.args.hart in
    let r = c.requires.run in
    let e = sym c.instruct.ensures.outcome ∙ c.in-Call.is in
    let made = rw c.instruct.ensures.after at c.ask.ensures.made in
    record {
      made = from-instruction m h c.args.returns r (r.act.fits.sound.maps (hart_among m.harts h).domain r.act.domain) c.requires.returns
          c.ask.new.self c.ask.new.out c.ask.result O.Call e tt made;
      fits = c.ask.ensures.fits;
      on = λ on. absurd (ended-on _ on);
      ran = λ ran. absurd (asks-ended c.instruct.new.self h (call_of h (hart_in c.instruct.new.self h)) (sym c.ask.ensures.made.kind
          ∙ ran));
    }

pub returns-in-Back : goal.returns-in-Back
returns-in-Back g c =
    let m = c.args.self.now in
    let h = c.args.hart in
    let r = c.requires.run in
    let e = sym c.instruct.ensures.outcome ∙ c.in-Back.is in
    let made = rw c.instruct.ensures.after at c.go_back.ensures.made in
    record {
      made = from-instruction m h c.args.returns r (r.act.fits.sound.maps (hart_among m.harts h).domain r.act.domain) c.requires.returns
          c.go_back.new.self c.go_back.new.out c.go_back.result (O.Back c.in-Back.rd c.in-Back.target) e tt made;
      fits = c.go_back.ensures.fits;
      on = λ on. absurd (ended-on _ on);
      ran = λ ran. absurd (return-ended c.instruct.new.self h c.in-Back.rd c.in-Back.target (sym c.go_back.ensures.made.kind ∙ ran));
    }
