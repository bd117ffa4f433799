use Rattle.std.proofs.Common.{◌≡◌, ◌<◌, Bool, true, false, cond, None, length, sym, ap, subst, ◌∙◌}
use Rattle.mx_check.specs.Harts.{at_hart, kept_at}
use Rattle.mx_check.specs.Harts.{halts as counts_as_halted}
use Rattle.mx_machine.specs.Harts.{hart_among, is_halted}
use Rattle.mx_machine.specs.Held.{Held}
use Rattle.mx_machine.proofs.InnerSizes.{checker-inside}
use Rattle.mx_machine.proofs.bare.Bare.halt_one.Goals as goal

pub halt-requires : goal.halt-requires
halt-requires g c =
    let h = c.args.hart in
    let halted : is_halted (hart_among c.args.self.now.harts h).progress ≡ true =
    ap (λ (n : Held). is_halted (hart_among n.harts h).progress) (sym c.self.view_is) ∙ sym c.is_halted.ensures ∙ c.if-is_halted.true in (
      search checker-inside,
      (
        subst (λ (n : Held). h < length n.parts.harts) (sym c.self.view_is) c.requires.kept,
        subst (λ (n : Held). (kept_at n.parts.harts h).flight ≡ None) (sym c.self.view_is) (c.requires.free halted),
      ),
    )

pub returns-then-is_halted : goal.returns-then-is_halted
returns-then-is_halted g c =
    let h = c.args.hart in
    let halted : true ≡ is_halted (hart_among c.args.self.now.harts h).progress =
    sym c.if-is_halted.true ∙ c.is_halted.ensures ∙ ap (λ (n : Held). is_halted (hart_among n.harts h).progress) c.self.view_is in
    rw c.halt.ensures (ap (λ (n : Held). record n { parts = record n.parts { harts = at_hart h counts_as_halted n.parts.harts } })
    c.self.view_is)
    ∙ ap (λ (b : Bool). record c.args.self.now {
      parts = record c.args.self.now.parts {
        harts =
            cond b (at_hart h counts_as_halted c.args.self.now.parts.harts) c.args.self.now.parts.harts;
      };
    }) halted

pub returns-else-is_halted : goal.returns-else-is_halted
returns-else-is_halted g c =
    let h = c.args.hart in
    let runs : false ≡ is_halted (hart_among c.args.self.now.harts h).progress =
    sym c.if-is_halted.false ∙ c.is_halted.ensures ∙ ap (λ (n : Held). is_halted (hart_among n.harts h).progress) c.self.view_is in
    ap (λ (b : Bool). record c.args.self.now {
      parts = record c.args.self.now.parts {
        harts =
            cond b (at_hart h counts_as_halted c.args.self.now.parts.harts) c.args.self.now.parts.harts;
      };
    }) runs
