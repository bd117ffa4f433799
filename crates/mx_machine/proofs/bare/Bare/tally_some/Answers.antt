use Rattle.std.proofs.Common.{◌≡◌, ℕ, ◌+◌, ◌<◌, ◌^◌, length, sym, ap, subst, ◌∙◌}
use Rattle.std.specs.Prelude.{IfSome}
use Rattle.mx_check.specs.Harts.{at_hart, kept_at}
use Rattle.mx_check.specs.Looks.{hits_all}
use Rattle.mx_machine.specs.Held.{Held}
use Rattle.mx_machine.specs.Rows.{NamesOwn, tallied}
use Rattle.mx_machine.proofs.ViewLaws.{held_of}
use Rattle.mx_machine.proofs.InnerSizes.{checker-inside}
use Rattle.mx_machine.proofs.bare.Bare.tally_some.Goals as goal

pub count_fetches-requires : goal.count_fetches-requires
count_fetches-requires g c =
    let h = c.args.hart in
    let own = subst (λ (m : Held). NamesOwn m h) (sym c.self.view_is) c.requires.own in (
      search checker-inside,
      (
        subst (λ (m : Held). h < length m.parts.harts) (sym c.self.view_is) c.requires.kept,
        subst (λ (d : ℕ). IfSome (kept_at c.self.inside.bus.supervisor.checker.harts h).domain (λ k. k ≡ d)) (sym c.domain-domain.ensures)
            own,
      ),
    )

pub returns : goal.returns
returns g c =
    let p = g.T.PermTables in
    let b = c.self.inside in
    let v = held_of p b in
    let h = c.args.hart in
    let n = c.args.turns in
    ap (λ k. held_of p (record b { bus = record b.bus { supervisor = record b.bus.supervisor { checker = k } }; steps = b.steps + n }))
    c.count_fetches.ensures
    ∙ ap (λ (d : ℕ). record v { parts = record v.parts { harts = at_hart h (hits_all n d) v.parts.harts }; steps = v.steps + n })
    c.domain-domain.ensures
    ∙ ap (λ (m : Held). tallied h n m) c.self.view_is

pub domain-domain-requires : goal.domain-domain-requires
domain-domain-requires g c = subst (λ (m : Held). c.args.hart < length m.harts) (sym c.self.view_is) c.requires.there

pub overflow_add-self : goal.overflow_add-self
overflow_add-self g c =
    record { fits = subst (λ (m : Held). m.steps + c.args.turns < 2 ^ 64) (sym c.self.view_is) c.requires.few }
