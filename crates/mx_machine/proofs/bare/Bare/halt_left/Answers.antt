use Rattle.std.proofs.Common.{◌≡◌, ℕ, ◌<◌, length, sym, ap, subst, ◌∙◌, suc, ◌+◌, arith}
use Rattle.mx_check.specs.Harts.{kept_at}
use Rattle.mx_machine.specs.Actions.{halted_first}
use Rattle.mx_machine.specs.Halting.{halted_at}
use Rattle.mx_machine.specs.Harts.{hart_among, is_halted}
use Rattle.mx_machine.specs.Held.{Held}
use Rattle.mx_machine.proofs.HaltLaws.{halted-count, halted-flight}
use Rattle.mx_machine.proofs.bare.Bare.halt_left.Goals as goal

pub halt_one-requires : goal.halt_one-requires
halt_one-requires g c =
    let m = c.args.self.now in
    let i = c.loop-hart.hart in
    let now : c.loop-hart.self ≡ record m { parts = record m.parts { harts = halted_first i m.harts m.parts.harts } } =
    c.loop-hart.invariant in
    let count = c.len-hart-end.ensures.number ∙ ap (λ (n : Held). length n.harts) c.self.view_is ∙ c.requires.count
    ∙ sym (halted-count i m.harts m.parts.harts) in (
      search,
      (
        subst (λ (n : Held). i < length n.parts.harts) (sym now) (subst (λ k. i < k) count c.loop-hart-test.true),
        λ halted. ap (λ (n : Held). (kept_at n.parts.harts i).flight) now ∙ halted-flight i m.harts m.parts.harts i
            ∙ c.requires.free i (ap (λ (n : Held). is_halted (hart_among n.harts i).progress) (sym now) ∙ halted),
      ),
    )

pub loop-hart-preserved : goal.loop-hart-preserved
loop-hart-preserved g c =
    let m = c.args.self.now in
    let i = c.loop-hart.hart in
    c.halt_one.ensures
    ∙ ap (λ (n : Held). record n { parts = record n.parts { harts = halted_at i n.harts n.parts.harts } }) c.loop-hart.invariant
    ∙ ap (λ (k : ℕ). record m { parts = record m.parts { harts = halted_first k m.harts m.parts.harts } }) (let next : suc i ≡ i + 1 =
    omega arith in next)

pub returns : goal.returns
returns g c =
    let m = c.args.self.now in
    let i = c.loop-hart.hart in
    let end : i ≡ c.len-hart-end.result = omega (arith, c.loop-hart.auto.hart-end, c.loop-hart-test.false) in
    c.loop-hart.invariant
    ∙ ap (λ (k : ℕ). record m { parts = record m.parts { harts = halted_first k m.harts m.parts.harts } })
    (end ∙ c.len-hart-end.ensures.number ∙ ap (λ (n : Held). length n.harts) c.self.view_is)
