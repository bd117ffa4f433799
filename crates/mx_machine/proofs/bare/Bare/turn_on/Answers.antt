use Rattle.std.proofs.Common.{◌≡◌, false, sym, subst, ◌∙◌, ap, refl, get_or, ◌+◌, ◌<◌, ◌^◌, length, arith}
use Rattle.mx_machine.specs.Goings.{kind_of}
use Rattle.mx_machine.specs.declared.hart.Progress.TheVariants as G
use Rattle.mx_machine.specs.Actions.{counted, heard}
use Rattle.mx_machine.specs.Harts.{hart_among}
use Rattle.mx_machine.specs.Held.{Held}
use Rattle.mx_machine.specs.Made.{IsMade}
use Rattle.mx_machine.specs.Ties.{MayRun, RunsAlive}
use Rattle.mx_machine.proofs.CaseLaws.{at-gate-here, acts-plain, turn-running}
use Rattle.mx_machine.proofs.MayLaws.{acts-now, hart-there, made-now, may-hear, stands-now, valid-now}
use Rattle.mx_machine.proofs.StretchLaws.{alive-instruction, alive-now}
use Rattle.mx_machine.proofs.bare.Bare.turn_on.Goals as goal

pub hear-requires : goal.hear-requires
hear-requires g c = (
  assumption c,
  may-hear c.args.self.now c.args.hart c.requires.whole G.Running c.requires.alive.runs refl _
      c.self.view_is,
)

pub domain-domain-requires : goal.domain-domain-requires
domain-domain-requires g c =
    let h = c.args.hart in
    let is = c.self-2.view_is ∙ c.hear.ensures.after ∙ ap (λ (k : Held). heard h (counted k)) c.self.view_is in
    subst (λ (k : Held). h < length k.harts) (sym is) c.requires.alive.there

pub pc-pc-requires : goal.pc-pc-requires
pc-pc-requires g c =
    let h = c.args.hart in
    let is = c.self-2.view_is ∙ c.hear.ensures.after ∙ ap (λ (k : Held). heard h (counted k)) c.self.view_is in
    subst (λ (k : Held). h < length k.harts) (sym is) c.requires.alive.there

pub gate-requires : goal.gate-requires
gate-requires g c =
    let m = c.args.self.now in
    let h = c.args.hart in
    let w = c.requires.whole in
    let at = c.requires.alive.runs in
    let n = c.hear.new.self in
    let is : n ≡ heard h (counted m) = c.hear.ensures.after ∙ ap (λ (k : Held). heard h (counted k)) c.self.view_is in
    let run : MayRun n h = record {
      act = acts-now m h w G.Running at refl n is c.hear.ensures.all;
      runs =
          stands-now m h w G.Running at refl n is;
    } in
    (assumption c, run.act.fits.sound.few_words)

pub at_gate-requires : goal.at_gate-requires
at_gate-requires g c =
    let m = c.args.self.now in
    let h = c.args.hart in
    let w = c.requires.whole in
    let at = c.requires.alive.runs in
    let n = c.hear.new.self in
    let is : n ≡ heard h (counted m) = c.hear.ensures.after ∙ ap (λ (k : Held). heard h (counted k)) c.self.view_is in
    let run : MayRun n h = record {
      act = acts-now m h w G.Running at refl n is c.hear.ensures.all;
      runs =
          stands-now m h w G.Running at refl n is;
    } in
    let d : c.domain-domain.result ≡ (hart_among n.harts h).domain = c.domain-domain.ensures
    ∙ ap (λ (k : Held). (hart_among k.harts h).domain) c.self-2.view_is in
    let p : c.pc-pc.result ≡ (hart_among n.harts h).pc = c.pc-pc.ensures ∙ ap (λ (k : Held). (hart_among k.harts h).pc) c.self-2.view_is in
    let alive : get_or n.dead c.domain-domain.result false ≡ false = ap (λ x. get_or n.dead x false) d
    ∙ alive-now m n h c.requires.alive is in
    let gate = at-gate-here n h c.domain-domain.result c.pc-pc.result c.in-Some.target run d p alive (sym c.in-Some.ensures) in
    (assumption c, (valid-now m h w G.Running at refl n is, (gate, c.requires.empty)))

pub returns-in-Some : goal.returns-in-Some
returns-in-Some g c =
    let m = c.args.self.now in
    let h = c.args.hart in
    let w = c.requires.whole in
    let at = c.requires.alive.runs in
    let n = c.hear.new.self in
    let is : n ≡ heard h (counted m) = c.hear.ensures.after ∙ ap (λ (k : Held). heard h (counted k)) c.self.view_is in
    record {
      made = made-now m h w G.Running at refl n is c.at_gate.new.self c.at_gate.new.out (kind_of c.at_gate.result)
          (turn-running m h w.fits (hart-there m h w G.Running at refl) at) c.at_gate.ensures.made;
      fits = c.at_gate.ensures.fits;
      on = c.at_gate.ensures.on;
      ran = c.at_gate.ensures.ran;
    }

pub execute-requires : goal.execute-requires
execute-requires g c =
    let m = c.args.self.now in
    let h = c.args.hart in
    let w = c.requires.whole in
    let at = c.requires.alive.runs in
    let n = c.hear.new.self in
    let is : n ≡ heard h (counted m) = c.hear.ensures.after ∙ ap (λ (k : Held). heard h (counted k)) c.self.view_is in
    let run : MayRun n h = record {
      act = acts-now m h w G.Running at refl n is c.hear.ensures.all;
      runs =
          stands-now m h w G.Running at refl n is;
    } in
    let d : c.domain-domain.result ≡ (hart_among n.harts h).domain = c.domain-domain.ensures
    ∙ ap (λ (k : Held). (hart_among k.harts h).domain) c.self-2.view_is in
    let p : c.pc-pc.result ≡ (hart_among n.harts h).pc = c.pc-pc.ensures ∙ ap (λ (k : Held). (hart_among k.harts h).pc) c.self-2.view_is in
    let live = alive-now m n h c.requires.alive is in
    let alive : get_or n.dead c.domain-domain.result false ≡ false = ap (λ x. get_or n.dead x false) d ∙ live in
    let plain = acts-plain n h c.domain-domain.result c.pc-pc.result run d p alive (sym c.in-None.ensures) in
    (assumption c, (valid-now m h w G.Running at refl n is, (run, (plain.1, c.requires.empty))))

pub returns-in-None : goal.returns-in-None
returns-in-None g c =
    let m = c.args.self.now in
    let h = c.args.hart in
    let w = c.requires.whole in
    let at = c.requires.alive.runs in
    let n = c.hear.new.self in
    let is : n ≡ heard h (counted m) = c.hear.ensures.after ∙ ap (λ (k : Held). heard h (counted k)) c.self.view_is in
    let run : MayRun n h = record {
      act = acts-now m h w G.Running at refl n is c.hear.ensures.all;
      runs =
          stands-now m h w G.Running at refl n is;
    } in
    let d : c.domain-domain.result ≡ (hart_among n.harts h).domain = c.domain-domain.ensures
    ∙ ap (λ (k : Held). (hart_among k.harts h).domain) c.self-2.view_is in
    let p : c.pc-pc.result ≡ (hart_among n.harts h).pc = c.pc-pc.ensures ∙ ap (λ (k : Held). (hart_among k.harts h).pc) c.self-2.view_is in
    let live = alive-now m n h c.requires.alive is in
    let alive : get_or n.dead c.domain-domain.result false ≡ false = ap (λ x. get_or n.dead x false) d ∙ live in
    let plain = acts-plain n h c.domain-domain.result c.pc-pc.result run d p alive (sym c.in-None.ensures) in
    record {
      made = made-now m h w G.Running at refl n is c.execute.new.self c.execute.new.out (kind_of c.execute.result)
          (turn-running m h w.fits (hart-there m h w G.Running at refl) at)
          (subst (λ e. IsMade n c.execute.new.self c.execute.new.out (kind_of c.execute.result) e) (sym plain.0) c.execute.ensures.made);
      fits = c.execute.ensures.fits;
      on = λ on.
          let e = c.execute.ensures.on on in
          (subst (λ (k : Held). RunsAlive k h) (sym e.0) (alive-instruction n h false run live), e.1);
      ran = c.execute.ensures.ran;
    }

pub overflow_add-self : goal.overflow_add-self
overflow_add-self g c =
    record { fits = subst (λ (m : Held). m.steps + 1 < 2 ^ 64) (sym c.self.view_is) (omega (arith, c.requires.few)) }
