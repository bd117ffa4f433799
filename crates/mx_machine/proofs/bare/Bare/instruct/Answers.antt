use Rattle.std.proofs.Common.{◌≡◌, ℕ, ◌*◌, ◌%◌, ◌<◌, length, List, ◌∷◌, refl, sym, ap, subst, ◌∙◌}
use Rattle.mx_table.specs.Tables.{IsDomain}
use Rattle.mx_check.specs.Conditions.{MayLook}
use Rattle.mx_core.specs.Bus.{Touch}
use Rattle.mx_core.specs.declared.outcome.Outcome.{Outcome}
use Rattle.mx_core.specs.Exec.{fetched, fetch_touch, outcome_of, regs_after, touches_of}
use Rattle.mx_supervisor.specs.Parts.{parts_of}
use Rattle.mx_machine.specs.declared.bus.HartBus.{HartBus}
use Rattle.mx_machine.specs.Actions.{after_instruction, outcome_for}
use Rattle.mx_machine.specs.Bus.{perm_from}
use Rattle.mx_machine.specs.Harts.{hart_among, stepped}
use Rattle.mx_machine.specs.Held.{Held}
use Rattle.mx_machine.specs.Steps.{instructed}
use Rattle.mx_machine.proofs.InnerSizes.{bus-inside}
use Rattle.mx_machine.proofs.TouchLaws.{AreTouched, are-touched}
use Rattle.mx_machine.proofs.ViewLaws.{held_of, instructed_in, touched-held}
use Rattle.mx_machine.proofs.bare.Bare.instruct.Goals as goal

pub returns-clause-after : goal.returns-clause-after
returns-clause-after g c =
    let p = g.T.PermTables in
    let old = c.self.inside.bus.supervisor in
    let t = old.checker.tables in
    let x = hart_among c.self.inside.harts c.args.hart in
    let a : HartBus g.row.T.Denot g.row.N = record { supervisor = old; hart = c.args.hart; domain = c.domain-self-inside.result } in
    let ts : List Touch = fetch_touch x.pc ∷ touches_of (fetched (perm_from (p.size t) (p.maps t) c.domain-self-inside.result) old.ram
    x.regs x.pc) in
    let s : AreTouched {T = g.row.T.Denot} {N = g.row.N} p.kind p.maps p.size p.limits p.lookups g.row.N a ts c.instruct.new.bus =
    are-touched {T = g.row.T.Denot} {N = g.row.N} p.kind p.maps p.size p.limits p.lookups g.row.N ts a c.instruct.new.bus
    c.instruct.ensures.ran.touched.each in
    let v = held_of p c.self.inside in
    let h = c.args.hart in
    let r = c.args.returns in
    let perm = perm_from (p.size t) (p.maps t) c.domain-self-inside.result in
    touched-held v (parts_of p c.instruct.new.bus.supervisor) _ _ _ _ refl refl s.tables.same_maps s.tables.same_size s.tables.same_limit
    s.owners s.gates s.heaps s.harts c.instruct.ensures.ran.left
    (c.instruct.ensures.after
    ∙ ap (λ (o : Outcome). stepped h (instructed (regs_after perm old.ram x.regs x.pc r (fetched perm old.ram x.regs x.pc)) o) v.harts)
    c.instruct.ensures.ran.answered)
    ∙ ap (λ (d : ℕ). instructed_in v h r d) c.domain-self-inside.ensures
    ∙ ap (λ (m : Held). after_instruction h r m) c.self.view_is

pub domain-self-inside-requires : goal.domain-self-inside-requires
domain-self-inside-requires g c =
    subst (λ (m : Held). c.args.hart < length m.harts) (sym c.self.view_is) c.requires.there

pub instruct-requires-clause-hart : goal.instruct-requires-clause-hart
instruct-requires-clause-hart g c =
    subst (λ (m : Held). c.args.hart < length m.harts) (sym c.self.view_is) c.requires.there

pub instruct-requires-clause-aligned : goal.instruct-requires-clause-aligned
instruct-requires-clause-aligned g c =
    subst (λ (m : Held). (hart_among m.harts c.args.hart).pc % 4 ≡ 0) (sym c.self.view_is) c.requires.aligned

pub returns-clause-cause : goal.returns-clause-cause
returns-clause-cause g c = c.instruct.ensures.ran.caused

pub instruct-requires-clause-usable : goal.instruct-requires-clause-usable
instruct-requires-clause-usable g c =
    let p = g.T.PermTables in
    let h = c.args.hart in
    let old = c.self.inside.bus.supervisor in
    let t = old.checker.tables in
    let look : MayLook h (hart_among c.self.inside.harts h).domain old.checker.harts =
    subst (λ (m : Held). MayLook h (hart_among m.harts h).domain m.parts.harts) (sym c.self.view_is) c.requires.look in
    let dom : IsDomain (p.maps t) (hart_among c.self.inside.harts h).domain =
    subst (λ (m : Held). IsDomain m.parts.maps (hart_among m.harts h).domain) (sym c.self.view_is) c.requires.domain in
    let d = sym c.domain-self-inside.ensures in
    record {
      look = subst (λ (n : ℕ). MayLook h n old.checker.harts) d look;
      domain = subst (λ (n : ℕ). IsDomain (p.maps t) n) d dom;
      ram = subst (λ (m : Held). length m.parts.ram ≡ 4 * m.parts.size) (sym c.self.view_is) c.requires.sound.ram;
    }

pub returns-clause-outcome : goal.returns-clause-outcome
returns-clause-outcome g c =
    let p = g.T.PermTables in
    let old = c.self.inside.bus.supervisor in
    let t = old.checker.tables in
    let x = hart_among c.self.inside.harts c.args.hart in
    let r = c.args.returns in
    c.instruct.ensures.ran.answered
    ∙ ap (λ (d : ℕ). let m = perm_from (p.size t) (p.maps t) d in outcome_of m x.pc r (fetched m old.ram x.regs x.pc))
    c.domain-self-inside.ensures
    ∙ ap (λ (m : Held). outcome_for m c.args.hart r) c.self.view_is

pub instruct-requires-room-B-Bus : goal.instruct-requires-room-B-Bus
instruct-requires-room-B-Bus g c κs within = search bus-inside
