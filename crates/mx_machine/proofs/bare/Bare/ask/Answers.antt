use Rattle.std.proofs.Common.{◌≡◌, ◌<◌, true, length, refl, ap, sym, subst, ◌∙◌}
use Rattle.mx_table.specs.Tables.{IsDomain}
use Rattle.mx_words.specs.Announced.{is_announced}
use Rattle.mx_check.specs.Calls.{is_ready}
use Rattle.mx_model.specs.declared.values.Call.{Call}
use Rattle.mx_model.specs.Events.{no_events}
use Rattle.mx_supervisor.proofs.Joined.{joined-sound}
use Rattle.mx_machine.specs.Harts.{hart_among, own_call, stepped}
use Rattle.mx_machine.specs.Held.{Held}
use Rattle.mx_machine.specs.Steps.{waits}
use Rattle.mx_machine.specs.Ties.{Fits}
use Rattle.mx_machine.proofs.AskLaws.{fits-waiting, made-waiting, now_announced, now_waiting}
use Rattle.mx_machine.proofs.AskedLaws.{announced-call, asked-made, asked-serving, made-moved, may-announce, plain-made, plain-serving}
use Rattle.mx_machine.proofs.bare.Bare.ask.Goals as goal
use Rattle.mx_machine.proofs.bare.Bare.ask.Goals.{else-is_announced-via-then-is_announced+else-not-announce}
use Rattle.mx_machine.proofs.bare.Bare.ask.Goals.{else-is_announced-via-else-is_announced}

pub call-call-requires : goal.call-call-requires
call-call-requires g c = subst (λ (n : Held). c.args.hart < length n.harts) (sym c.self.view_is) c.requires.run.act.there

pub announce-requires : goal.announce-requires
announce-requires g c =
    let m = c.args.self.now in
    let h = c.args.hart in
    let r = c.requires.run in
    let own : c.call-call.result ≡ own_call h (hart_among m.harts h) = c.call-call.ensures
    ∙ ap (λ (n : Held). own_call h (hart_among n.harts h)) c.self.view_is in (
      assumption c,
      (
        joined-sound m.parts r.act.fits.sound,
        (
          sym c.is_announced.ensures ∙ c.if-is_announced.true,
          (subst (λ (k : Call). IsDomain m.parts.maps k.domain) (sym own) r.act.domain, may-announce m h r),
        ),
      ),
    )

pub wait-requires : goal.wait-requires
wait-requires g c =
    subst (λ (n : Held). c.args.hart < length n.harts) (sym (c.self-then-is_announced.view_is ∙ c.announce.ensures.after))
    c.requires.run.act.there

pub returns-then-not-announce-clause-made : goal.returns-then-not-announce-clause-made
returns-then-not-announce-clause-made g c =
    let m = c.args.self.now in
    let h = c.args.hart in
    let r = c.requires.run in
    let own : c.call-call.result ≡ own_call h (hart_among m.harts h) = c.call-call.ensures
    ∙ ap (λ (n : Held). own_call h (hart_among n.harts h)) c.self.view_is in
    let now : c.announce.new.self ≡ now_announced m h r = c.announce.ensures.after ∙ announced-call m h c.call-call.result r own in
    let must = ap (λ (k : Call). is_announced k.number) (sym own) ∙ sym c.is_announced.ensures ∙ c.if-is_announced.true in
    let late = ap (λ (n : Held). is_ready h n.parts.harts) (sym now) ∙ sym c.announce.ensures.ready ∙ c.if-not-announce.true in
    made-moved m (now_waiting m h r) _ no_events _ _ _ _
    (sym (rw c.wait.ensures (ap (λ (n : Held). record n { harts = stepped h waits n.harts; waiting = true })
    (c.self-then-is_announced.view_is ∙ now))))
    (sym c.requires.empty) refl (made-waiting m h r must late)

pub returns-then-not-announce-clause-fits : goal.returns-then-not-announce-clause-fits
returns-then-not-announce-clause-fits g c =
    let m = c.args.self.now in
    let h = c.args.hart in
    let r = c.requires.run in
    let own : c.call-call.result ≡ own_call h (hart_among m.harts h) = c.call-call.ensures
    ∙ ap (λ (n : Held). own_call h (hart_among n.harts h)) c.self.view_is in
    let now : c.announce.new.self ≡ now_announced m h r = c.announce.ensures.after ∙ announced-call m h c.call-call.result r own in
    subst (λ (n : Held). Fits n)
    (sym (rw c.wait.ensures (ap (λ (n : Held). record n { harts = stepped h waits n.harts; waiting = true })
    (c.self-then-is_announced.view_is ∙ now))))
    (fits-waiting m h r)

pub serve-requires : goal.serve-requires
serve-requires g c = (
  assumption c,
  (
    let m = c.args.self.now in
        let h = c.args.hart in
        let r = c.requires.run in
        let call = c.call-call.result in
        let own : call ≡ own_call h (hart_among m.harts h) = c.call-call.ensures
        ∙ ap (λ (n : Held). own_call h (hart_among n.harts h)) c.self.view_is in
        elim c.else-is_announced.branch [
          | else-is_announced-via-then-is_announced+else-not-announce w ↦
              asked-serving m c.else-is_announced.self h call r own (w.self-is ∙ w.announce.ensures.after ∙ announced-call m h call r own)
              (sym c.is_announced.ensures ∙ w.if-is_announced.true)
              (ap (λ (n : Held). is_ready h n.parts.harts) w.self-is ∙ sym w.announce.ensures.ready ∙ w.if-not-announce.false)
          | else-is_announced-via-else-is_announced w ↦
              plain-serving m c.else-is_announced.self h call r own w.self-is (sym c.is_announced.ensures ∙ w.if-is_announced.false)
        ],
    c.requires.empty,
  ),
)

pub returns-clause-made : goal.returns-clause-made
returns-clause-made g c =
    let m = c.args.self.now in
    let h = c.args.hart in
    let r = c.requires.run in
    let call = c.call-call.result in
    let own : call ≡ own_call h (hart_among m.harts h) = c.call-call.ensures
    ∙ ap (λ (n : Held). own_call h (hart_among n.harts h)) c.self.view_is in
    elim c.else-is_announced.branch [
      | else-is_announced-via-then-is_announced+else-not-announce w ↦
          asked-made m c.else-is_announced.self h call r own (w.self-is ∙ w.announce.ensures.after ∙ announced-call m h call r own)
          (sym c.is_announced.ensures ∙ w.if-is_announced.true)
          (ap (λ (n : Held). is_ready h n.parts.harts) w.self-is ∙ sym w.announce.ensures.ready ∙ w.if-not-announce.false)
          c.serve.new.self c.serve.new.out c.serve.ensures.made
      | else-is_announced-via-else-is_announced w ↦
          plain-made m c.else-is_announced.self h call r own w.self-is (sym c.is_announced.ensures ∙ w.if-is_announced.false)
          c.serve.new.self c.serve.new.out c.serve.ensures.made
    ]

pub returns-clause-fits : goal.returns-clause-fits
returns-clause-fits g c = c.serve.ensures.fits
