use Rattle.std.proofs.Common.{◌≡◌, ℕ, ◌*◌, ◌%◌, ◌<◌, false, length, List, Some, refl, sym, ap, subst, ◌∙◌}
use Rattle.mx_words.specs.declared.perm.Access.TheVariants.{Execute}
use Rattle.mx_words.specs.declared.perm.Perm.{Perm}
use Rattle.mx_table.specs.Tables.{IsDomain}
use Rattle.mx_check.specs.Conditions.{IsAtHand, MayLook}
use Rattle.mx_check.specs.Harts.{kept_at}
use Rattle.mx_core.specs.Bus.{Touch, denied, load_at}
use Rattle.mx_core.specs.declared.outcome.Outcome.{Outcome}
use Rattle.mx_core.specs.Exec.{fetched, outcome_of, regs_after, touches_of}
use Rattle.mx_core.specs.Memo.{quick}
use Rattle.mx_core.proofs.QuickLaws.{fetched-quick}
use Rattle.mx_model.specs.Effect.{Effect, effect}
use Rattle.mx_machine.specs.declared.bus.HartBus.{HartBus}
use Rattle.mx_supervisor.specs.Parts.{parts_of}
use Rattle.mx_machine.specs.Actions.{after_unfetched, effect_for, outcome_for}
use Rattle.mx_machine.specs.Bus.{perm_from}
use Rattle.mx_machine.specs.Harts.{hart_among, stepped}
use Rattle.mx_machine.specs.Held.{Held}
use Rattle.mx_machine.specs.Steps.{instructed}
use Rattle.mx_machine.proofs.InnerSizes.{bus-inside}
use Rattle.mx_machine.proofs.TouchLaws.{AreTouched, are-touched}
use Rattle.mx_machine.proofs.ViewLaws.{carried_in, held_of, touched-held}
use Rattle.mx_machine.proofs.bare.Bare.carry_out.Goals as goal

pub known-requires : goal.known-requires
known-requires g c =
    let p = g.T.PermTables in
    let h = c.args.hart in
    let old = c.self.inside.bus.supervisor in
    let t = old.checker.tables in
    let look : MayLook h (hart_among c.self.inside.harts h).domain old.checker.harts =
    subst (λ (m : Held). MayLook h (hart_among m.harts h).domain m.parts.harts) (sym c.self.view_is) c.requires.look in
    let dom : IsDomain (p.maps t) (hart_among c.self.inside.harts h).domain =
    subst (λ (m : Held). IsDomain m.parts.maps (hart_among m.harts h).domain) (sym c.self.view_is) c.requires.domain in
    let ram : length old.ram ≡ 4 * p.size t = subst (λ (m : Held). length m.parts.ram ≡ 4 * m.parts.size) (sym c.self.view_is)
    c.requires.sound.ram in
    let hand : IsAtHand (p.size t) (kept_at old.checker.harts h).cache (hart_among c.self.inside.harts h).pc =
    subst (λ (m : Held). IsAtHand m.parts.size (kept_at m.parts.harts h).cache (hart_among m.harts h).pc) (sym c.self.view_is)
    c.requires.at_hand in
    let d = sym c.domain-self-inside.ensures in (
      search bus-inside,
      (
        record {
          look = subst (λ (n : ℕ). MayLook h n old.checker.harts) d look;
          domain = subst (λ (n : ℕ). IsDomain (p.maps t) n) d dom;
          ram = ram;
        },
        subst (λ (n : ℕ). IsAtHand (p.size t) (kept_at old.checker.harts h).cache n) (sym c.pc-pc.ensures) hand,
      ),
    )

pub carry_out-requires-clause-usable : goal.carry_out-requires-clause-usable
carry_out-requires-clause-usable g c =
    let p = g.T.PermTables in
    let h = c.args.hart in
    let old = c.self.inside.bus.supervisor in
    let t = old.checker.tables in
    let look : MayLook h (hart_among c.self.inside.harts h).domain old.checker.harts =
    subst (λ (m : Held). MayLook h (hart_among m.harts h).domain m.parts.harts) (sym c.self.view_is) c.requires.look in
    let dom : IsDomain (p.maps t) (hart_among c.self.inside.harts h).domain =
    subst (λ (m : Held). IsDomain m.parts.maps (hart_among m.harts h).domain) (sym c.self.view_is) c.requires.domain in
    let ram : length old.ram ≡ 4 * p.size t = subst (λ (m : Held). length m.parts.ram ≡ 4 * m.parts.size) (sym c.self.view_is)
    c.requires.sound.ram in
    let d = sym c.domain-self-inside.ensures in
    record {
      look = subst (λ (n : ℕ). MayLook h n old.checker.harts) d look;
      domain = subst (λ (n : ℕ). IsDomain (p.maps t) n) d dom;
      ram =
          ram;
    }

pub returns-clause-effect : goal.returns-clause-effect
returns-clause-effect g c =
    let p = g.T.PermTables in
    let h = c.args.hart in
    let inst = c.args.inst in
    let old = c.self.inside.bus.supervisor in
    let t = old.checker.tables in
    let x = hart_among c.self.inside.harts h in
    let perm = perm_from (p.size t) (p.maps t) x.domain in
    let allowed : denied perm x.pc Execute ≡ false = sym (ap (λ (n : ℕ).
    denied (perm_from (p.size t) (p.maps t) c.domain-self-inside.result) n Execute) c.pc-pc.ensures
    ∙ ap (λ (n : ℕ). denied (perm_from (p.size t) (p.maps t) n) x.pc Execute) c.domain-self-inside.ensures) ∙ c.known.ensures in
    let q : quick (load_at old.ram x.pc 4) ≡ Some inst = subst (λ (m : Held).
    quick (load_at m.parts.ram (hart_among m.harts h).pc 4) ≡ Some inst) (sym c.self.view_is) c.requires.quick in
    let eff : fetched perm old.ram x.regs x.pc ≡ effect inst x.regs x.pc = fetched-quick perm old.ram x.regs x.pc inst allowed q in
    subst (λ (m : Held). effect_for m (hart_among m.harts h) ≡ effect inst (hart_among m.harts h).regs (hart_among m.harts h).pc)
    c.self.view_is eff

pub returns-clause-outcome : goal.returns-clause-outcome
returns-clause-outcome g c =
    let p = g.T.PermTables in
    let h = c.args.hart in
    let inst = c.args.inst in
    let old = c.self.inside.bus.supervisor in
    let t = old.checker.tables in
    let x = hart_among c.self.inside.harts h in
    let perm = perm_from (p.size t) (p.maps t) x.domain in
    let allowed : denied perm x.pc Execute ≡ false = sym (ap (λ (n : ℕ).
    denied (perm_from (p.size t) (p.maps t) c.domain-self-inside.result) n Execute) c.pc-pc.ensures
    ∙ ap (λ (n : ℕ). denied (perm_from (p.size t) (p.maps t) n) x.pc Execute) c.domain-self-inside.ensures) ∙ c.known.ensures in
    let q : quick (load_at old.ram x.pc 4) ≡ Some inst = subst (λ (m : Held).
    quick (load_at m.parts.ram (hart_among m.harts h).pc 4) ≡ Some inst) (sym c.self.view_is) c.requires.quick in
    let eff : fetched perm old.ram x.regs x.pc ≡ effect inst x.regs x.pc = fetched-quick perm old.ram x.regs x.pc inst allowed q in
    let same = ap (λ (n : ℕ). perm_from (p.size t) (p.maps t) n) c.domain-self-inside.ensures in
    c.carry_out.ensures.ran.answered
    ∙ ap (λ (m : ℕ → Perm). outcome_of m x.pc false (effect inst x.regs x.pc)) same
    ∙ ap (λ (e : Effect). outcome_of perm x.pc false e) (sym eff)
    ∙ ap (λ (m : Held). outcome_for m h false) c.self.view_is

pub returns-clause-after : goal.returns-clause-after
returns-clause-after g c =
    let p = g.T.PermTables in
    let h = c.args.hart in
    let inst = c.args.inst in
    let old = c.self.inside.bus.supervisor in
    let t = old.checker.tables in
    let x = hart_among c.self.inside.harts h in
    let perm = perm_from (p.size t) (p.maps t) x.domain in
    let allowed : denied perm x.pc Execute ≡ false = sym (ap (λ (n : ℕ).
    denied (perm_from (p.size t) (p.maps t) c.domain-self-inside.result) n Execute) c.pc-pc.ensures
    ∙ ap (λ (n : ℕ). denied (perm_from (p.size t) (p.maps t) n) x.pc Execute) c.domain-self-inside.ensures) ∙ c.known.ensures in
    let q : quick (load_at old.ram x.pc 4) ≡ Some inst = subst (λ (m : Held).
    quick (load_at m.parts.ram (hart_among m.harts h).pc 4) ≡ Some inst) (sym c.self.view_is) c.requires.quick in
    let eff : fetched perm old.ram x.regs x.pc ≡ effect inst x.regs x.pc = fetched-quick perm old.ram x.regs x.pc inst allowed q in
    let a : HartBus g.row.T.Denot g.row.N = record { supervisor = old; hart = h; domain = c.domain-self-inside.result } in
    let ts : List Touch = touches_of (effect inst x.regs x.pc) in
    let s : AreTouched {T = g.row.T.Denot} {N = g.row.N} p.kind p.maps p.size p.limits p.lookups g.row.N a ts c.carry_out.new.bus =
    are-touched {T = g.row.T.Denot} {N = g.row.N} p.kind p.maps p.size p.limits p.lookups g.row.N ts a c.carry_out.new.bus
    c.carry_out.ensures.ran.touched.each in
    let v = held_of p c.self.inside in
    let now = perm_from (p.size t) (p.maps t) c.domain-self-inside.result in
    let e = effect inst x.regs x.pc in
    touched-held v (parts_of p c.carry_out.new.bus.supervisor) _ _ _ _ refl refl s.tables.same_maps s.tables.same_size s.tables.same_limit
    s.owners s.gates s.heaps s.harts c.carry_out.ensures.ran.left
    (c.carry_out.ensures.after ∙ ap (λ (o : Outcome). stepped h (instructed (regs_after now old.ram x.regs x.pc false e) o) v.harts)
    c.carry_out.ensures.ran.answered)
    ∙ ap (λ (d : ℕ). carried_in v h d e) c.domain-self-inside.ensures
    ∙ ap (λ (e : Effect). carried_in v h x.domain e) (sym eff)
    ∙ ap (λ (m : Held). after_unfetched h m) c.self.view_is

pub carry_out-requires-clause-hart : goal.carry_out-requires-clause-hart
carry_out-requires-clause-hart g c = subst (λ (m : Held). c.args.hart < length m.harts) (sym c.self.view_is) c.requires.there

pub carry_out-requires-clause-aligned : goal.carry_out-requires-clause-aligned
carry_out-requires-clause-aligned g c = subst (λ (m : Held). (hart_among m.harts c.args.hart).pc % 4 ≡ 0) (sym c.self.view_is)
    c.requires.aligned

pub carry_out-requires-clause-inst : goal.carry_out-requires-clause-inst
carry_out-requires-clause-inst g c = c.requires.inst

pub returns-clause-cause : goal.returns-clause-cause
returns-clause-cause g c = c.carry_out.ensures.ran.caused

pub pc-pc-requires : goal.pc-pc-requires
pc-pc-requires g c = subst (λ (m : Held). c.args.hart < length m.harts) (sym c.self.view_is) c.requires.there

pub domain-self-inside-requires : goal.domain-self-inside-requires
domain-self-inside-requires g c =
    subst (λ (m : Held). c.args.hart < length m.harts) (sym c.self.view_is) c.requires.there

pub carry_out-requires-room-B-Bus : goal.carry_out-requires-room-B-Bus
carry_out-requires-room-B-Bus g c κs within = search bus-inside
