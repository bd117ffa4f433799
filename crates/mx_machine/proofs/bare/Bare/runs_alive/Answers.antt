use Rattle.std.proofs.Common.{◌≡◌, ℕ, ◌<◌, false, not, length, refl, sym, ap, subst, ◌∙◌, get_or}
use Rattle.std.proofs.lemmas.Bool.{not-true}
use Rattle.mx_machine.specs.declared.hart.Progress.TheVariants as G
use Rattle.mx_machine.specs.Harts.{hart_among}
use Rattle.mx_machine.specs.Held.{Held}
use Rattle.mx_machine.proofs.MayLaws.{hart-there}
use Rattle.mx_machine.proofs.bare.Bare.runs_alive.Goals as goal

pub domain-requires : goal.domain-requires
domain-requires g c =
    let m = c.args.self.now in
    let h = c.args.hart in
    let at : (hart_among m.harts h).progress ≡ G.Running =
    sym (ap (λ (n : Held). (hart_among n.harts h).progress) c.self.view_is) ∙ sym c.progress.ensures ∙ c.in-Running.is in
    subst (λ (n : Held). h < length n.harts) (sym c.self.view_is) (hart-there m h c.requires.whole G.Running at refl)

pub returns-in-Running : goal.returns-in-Running
returns-in-Running g c =
    let m = c.args.self.now in
    let h = c.args.hart in
    let at : (hart_among m.harts h).progress ≡ G.Running =
    sym (ap (λ (n : Held). (hart_among n.harts h).progress) c.self.view_is) ∙ sym c.progress.ensures ∙ c.in-Running.is in
    let d : c.domain.result ≡ (hart_among m.harts h).domain = c.domain.ensures
    ∙ ap (λ (n : Held). (hart_among n.harts h).domain) c.self.view_is in
    let own : c.is_dead.result ≡ get_or m.dead (hart_among m.harts h).domain false = c.is_dead.ensures
    ∙ ap (λ (n : ℕ). get_or m.dead n false) d in (
      λ live. record {
        there = hart-there m h c.requires.whole G.Running at refl;
        runs = at;
        alive = sym own
            ∙ not-true c.is_dead.result live;
      },
      λ alive. ap not (own ∙ alive.alive),
    )

pub returns-in-Waiting : goal.returns-in-Waiting
returns-in-Waiting g c =
    let m = c.args.self.now in
    let h = c.args.hart in
    let at : (hart_among m.harts h).progress ≡ G.Waiting =
    sym (ap (λ (n : Held). (hart_among n.harts h).progress) c.self.view_is) ∙ sym c.progress.ensures ∙ c.in-Waiting.is in
    (λ live. cc, λ alive. let e : G.Waiting ≡ G.Running = sym at ∙ alive.runs in cc)

pub returns-in-Halted : goal.returns-in-Halted
returns-in-Halted g c =
    let m = c.args.self.now in
    let h = c.args.hart in
    let at : (hart_among m.harts h).progress ≡ G.Halted c.in-Halted.field-0 =
    sym (ap (λ (n : Held). (hart_among n.harts h).progress) c.self.view_is) ∙ sym c.progress.ensures ∙ c.in-Halted.is in
    (λ live. cc, λ alive. let e : G.Halted c.in-Halted.field-0 ≡ G.Running = sym at ∙ alive.runs in cc)

pub is_dead-requires : goal.is_dead-requires
is_dead-requires g c = assumption c
