use Rattle.std.proofs.Common.{sym, subst, ◌∙◌, arith}
use Rattle.mx_core.specs.declared.outcome.Outcome.{Outcome}
use Rattle.mx_core.specs.declared.outcome.Outcome.TheVariants as O
use Rattle.mx_core.specs.Exec.{HasCause}
use Rattle.mx_model.specs.Turn.{call_of}
use Rattle.mx_machine.specs.Made.{hart_in}
use Rattle.mx_machine.specs.Rows.{EndsBy}
use Rattle.mx_machine.specs.Steps.{Stops}
use Rattle.mx_machine.proofs.KindLaws.{asks-ended, return-ended, trapped-ended}
use Rattle.mx_machine.proofs.RowLaws.{ends-made}
use Rattle.mx_machine.proofs.bare.Bare.stop.Goals as goal

pub trap-requires : goal.trap-requires
trap-requires g c =
    let caused = subst (λ (o : Outcome). HasCause o) c.in-Trap.is c.requires.cause in
    (assumption c, (c.requires.run, (omega (arith, caused), c.requires.empty)))

pub go_back-requires : goal.go_back-requires
go_back-requires g c = (
  assumption c,
  (
    c.requires.run,
    (
      subst (λ (o : Outcome). HasCause o) c.in-Back.is
          c.requires.cause,
      c.requires.empty,
    ),
  ),
)

pub returns-in-Next-clause-made : goal.returns-in-Next-clause-made
returns-in-Next-clause-made g c m e = absurd (subst (λ (o : Outcome). Stops o) c.in-Next.is e.stops)

pub returns-in-Next-clause-fits : goal.returns-in-Next-clause-fits
returns-in-Next-clause-fits g c = c.requires.run.act.fits

pub returns-in-Next-clause-ended : goal.returns-in-Next-clause-ended
returns-in-Next-clause-ended g c s = absurd (subst (λ (o : Outcome). Stops o) c.in-Next.is s)

pub returns-in-Trap-clause-made : goal.returns-in-Trap-clause-made
returns-in-Trap-clause-made g c m e =
    let now = c.args.self.now in
    let h = c.args.hart in
    let by : EndsBy m h (O.Trap c.in-Trap.fault) now = subst (λ (o : Outcome). EndsBy m h o now) c.in-Trap.is e in
    ends-made m now h (O.Trap c.in-Trap.fault) by c.trap.new.self c.trap.new.out c.trap.result c.trap.ensures.made

pub returns-in-Trap-clause-ended : goal.returns-in-Trap-clause-ended
returns-in-Trap-clause-ended g c s ran = trapped-ended (sym c.trap.ensures.made.kind ∙ ran)

pub returns-in-Call-clause-made : goal.returns-in-Call-clause-made
returns-in-Call-clause-made g c m e =
    let now = c.args.self.now in
    let h = c.args.hart in
    let by : EndsBy m h O.Call now = subst (λ (o : Outcome). EndsBy m h o now) c.in-Call.is e in
    ends-made m now h O.Call by c.ask.new.self c.ask.new.out c.ask.result c.ask.ensures.made

pub returns-in-Call-clause-ended : goal.returns-in-Call-clause-ended
returns-in-Call-clause-ended g c s ran =
    asks-ended c.args.self.now c.args.hart (call_of c.args.hart (hart_in c.args.self.now c.args.hart)) (sym c.ask.ensures.made.kind ∙ ran)

pub returns-in-Back-clause-made : goal.returns-in-Back-clause-made
returns-in-Back-clause-made g c m e =
    let now = c.args.self.now in
    let h = c.args.hart in
    let o : Outcome = O.Back c.in-Back.rd c.in-Back.target in
    let by : EndsBy m h o now = subst (λ (o : Outcome). EndsBy m h o now) c.in-Back.is e in
    ends-made m now h o by c.go_back.new.self c.go_back.new.out c.go_back.result c.go_back.ensures.made

pub returns-in-Back-clause-ended : goal.returns-in-Back-clause-ended
returns-in-Back-clause-ended g c s ran = return-ended c.args.self.now c.args.hart c.in-Back.rd c.in-Back.target
    (sym c.go_back.ensures.made.kind ∙ ran)
