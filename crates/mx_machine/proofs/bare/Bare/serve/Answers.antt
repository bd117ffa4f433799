use Rattle.std.proofs.Common.{◌≡◌, ℕ, ◌<◌, Option, Some, None, refl, ap, sym, subst, ◌∙◌}
use Rattle.mx_model.specs.declared.values.Call.{Call}
use Rattle.mx_model.specs.declared.values.Note.{Note}
use Rattle.mx_model.specs.declared.values.Note.TheVariants as N
use Rattle.mx_model.specs.Events.{Events}
use Rattle.mx_supervisor.specs.Parts.{Parts, parts_of}
use Rattle.mx_supervisor.proofs.Joined.{joined-sound}
use Rattle.mx_machine.specs.Harts.{hart_among}
use Rattle.mx_machine.specs.Held.{Held, rest_of}
use Rattle.mx_machine.specs.Serving.{IsServing}
use Rattle.mx_machine.proofs.ServeLaws.{fits-answered, fits-ended, made-answered, made-ended, own-flight, served-moved, serving-bars}
use Rattle.mx_machine.proofs.InnerSizes.{checker-inside, supervisor-inside}
use Rattle.mx_machine.proofs.bare.Bare.serve.Goals as goal

pub serve-answer-requires : goal.serve-answer-requires
serve-answer-requires g c = (
  search supervisor-inside,
  (
      let v = rw (← c.self.view_is) at c.requires.serving in
      (joined-sound _ v.sound, (v.domain, (v.may, ap (λ (e : Events). e.bytes) c.requires.empty)))),
)

pub halt-requires : goal.halt-requires
halt-requires g c =
    let v = rw (← c.self.view_is) at c.requires.serving in
    v.there

pub halt-requires-then-answer : goal.halt-requires-then-answer
halt-requires-then-answer g c = (
  search checker-inside,
  (
      let p = g.T.PermTables in
      let m : Held = record {
        parts = parts_of p c.self.inside.bus.supervisor;
        harts = c.self.inside.harts;
        stacks = c.self.inside.stacks;
        dead = c.self.inside.dead;
        steps = c.self.inside.steps;
        waiting = c.self.inside.waiting;
      } in
      let q : Parts = parts_of p c.serve-answer.new.self in
      let h = c.args.hart in
      let call = c.args.call.now in
      let v : IsServing m h call = rw (← c.self.view_is) at c.requires.serving in
      let s = c.serve-answer.ensures in
      let a = c.serve-answer.result in
      let bytes = c.serve-answer.new.out.bytes in
      let served = s.served (rest_of m) (serving-bars m h call v) in
      (subst (λ n. h < n) (v.count ∙ sym s.harts.count) v.there, own-flight m h call q bytes a v served s.harts s.sizes s.sound)),
)

pub set_note-requires : goal.set_note-requires
set_note-requires g c = tt

pub answer-requires : goal.answer-requires
answer-requires g c =
    let v = rw (← c.self.view_is) at c.requires.serving in
    v.there

pub returns-then-answer-clause-made : goal.returns-then-answer-clause-made
returns-then-answer-clause-made g c =
    let p = g.T.PermTables in
    let m : Held = record {
      parts = parts_of p c.self.inside.bus.supervisor;
      harts = c.self.inside.harts;
      stacks = c.self.inside.stacks;
      dead = c.self.inside.dead;
      steps = c.self.inside.steps;
      waiting = c.self.inside.waiting;
    } in
    let q : Parts = parts_of p c.serve-answer.new.self in
    let h = c.args.hart in
    let call = c.args.call.now in
    let v : IsServing m h call = rw (← c.self.view_is) at c.requires.serving in
    let s = c.serve-answer.ensures in
    let a = c.serve-answer.result in
    let bytes = c.serve-answer.new.out.bytes in
    let served = s.served (rest_of m) (serving-bars m h call v) in
    let own : call.domain ≡ (hart_among m.harts h).domain = ap (λ (c : Call). c.domain) v.own in
    let out : c.set_note.new.self ≡ record { bytes = bytes; note = Some (N.Exit m.steps h (hart_among m.harts h).domain a.a0) } =
    c.set_note.ensures ∙ ap (λ (d : ℕ). record { bytes = bytes; note = Some (N.Exit m.steps h d a.a0) }) own in
    served-moved m _ _ _ _ _ h call c.self.view_is (rw (c.halt.ensures, c.halt-then-answer.ensures) refl) (sym out)
    (made-ended m h call q bytes a v served s.harts s.sizes s.sound c.if-answer.true)

pub returns-then-answer-clause-fits : goal.returns-then-answer-clause-fits
returns-then-answer-clause-fits g c =
    let p = g.T.PermTables in
    let m : Held = record {
      parts = parts_of p c.self.inside.bus.supervisor;
      harts = c.self.inside.harts;
      stacks = c.self.inside.stacks;
      dead = c.self.inside.dead;
      steps = c.self.inside.steps;
      waiting = c.self.inside.waiting;
    } in
    let q : Parts = parts_of p c.serve-answer.new.self in
    let h = c.args.hart in
    let call = c.args.call.now in
    let v : IsServing m h call = rw (← c.self.view_is) at c.requires.serving in
    let s = c.serve-answer.ensures in
    let a = c.serve-answer.result in
    let bytes = c.serve-answer.new.out.bytes in
    let served = s.served (rest_of m) (serving-bars m h call v) in
    rw (c.halt.ensures, c.halt-then-answer.ensures) (fits-ended m h call q bytes a v served s.harts s.sizes s.sound)

pub returns-else-answer-clause-made : goal.returns-else-answer-clause-made
returns-else-answer-clause-made g c =
    let p = g.T.PermTables in
    let m : Held = record {
      parts = parts_of p c.self.inside.bus.supervisor;
      harts = c.self.inside.harts;
      stacks = c.self.inside.stacks;
      dead = c.self.inside.dead;
      steps = c.self.inside.steps;
      waiting = c.self.inside.waiting;
    } in
    let q : Parts = parts_of p c.serve-answer.new.self in
    let h = c.args.hart in
    let call = c.args.call.now in
    let v : IsServing m h call = rw (← c.self.view_is) at c.requires.serving in
    let s = c.serve-answer.ensures in
    let a = c.serve-answer.result in
    let bytes = c.serve-answer.new.out.bytes in
    let served = s.served (rest_of m) (serving-bars m h call v) in
    let out : c.serve-answer.new.out ≡ record { bytes = bytes; note = None } =
    ap (λ (n : Option Note). record { bytes = bytes; note = n }) (s.note ∙ ap (λ (e : Events). e.note) c.requires.empty) in
    served-moved m _ _ _ _ _ h call c.self.view_is (rw c.answer.ensures refl) (sym out)
    (made-answered m h call q bytes a v served s.harts s.sizes s.sound c.if-answer.false)

pub returns-else-answer-clause-fits : goal.returns-else-answer-clause-fits
returns-else-answer-clause-fits g c =
    let p = g.T.PermTables in
    let m : Held = record {
      parts = parts_of p c.self.inside.bus.supervisor;
      harts = c.self.inside.harts;
      stacks = c.self.inside.stacks;
      dead = c.self.inside.dead;
      steps = c.self.inside.steps;
      waiting = c.self.inside.waiting;
    } in
    let q : Parts = parts_of p c.serve-answer.new.self in
    let h = c.args.hart in
    let call = c.args.call.now in
    let v : IsServing m h call = rw (← c.self.view_is) at c.requires.serving in
    let s = c.serve-answer.ensures in
    let a = c.serve-answer.result in
    let bytes = c.serve-answer.new.out.bytes in
    let served = s.served (rest_of m) (serving-bars m h call v) in
    rw c.answer.ensures (fits-answered m h call q bytes a v served s.harts s.sizes s.sound)
