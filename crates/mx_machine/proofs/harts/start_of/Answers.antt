use Rattle.std.proofs.Common.{ap, sym, ◌∙◌, length, replicate, Option}
use Rattle.std.specs.Prelude.{slice_set}
use Rattle.std.specs.Option.{option_map_or}
use Rattle.std.proofs.lemmas.Option.{slice_get_within}
use Rattle.mx_words.specs.Ranges.{most_words}
use Rattle.mx_machine.specs.declared.hart.Progress.TheVariants as G
use Rattle.mx_machine.specs.declared.starts.HartStart.{HartStart}
use Rattle.mx_machine.specs.Harts.{no_held_hart}
use Rattle.mx_machine.specs.Held.{area_of}
use Rattle.mx_machine.specs.Starts.{started_hart}
use Rattle.mx_machine.proofs.StartLaws.{area-fits, started-at}
use Rattle.mx_machine.proofs.harts.start_of.Goals as goal

pub behind-stack-requires-clause-area : goal.behind-stack-requires-clause-area
behind-stack-requires-clause-area c =
    area-fits (area_of c.args.stacks.now c.in-Some.start.domain) most_words (length c.args.starts.now) c.args.hart
    (c.requires.areas c.in-Some.start.domain)
    (slice_get_within c.args.starts.now c.args.hart c.in-Some.start (sym c.in-Some.ensures))

pub returns-in-Some : goal.returns-in-Some
returns-in-Some c =
    let s = c.in-Some.start in
    c.start.ensures
    ∙ ap (λ v. record no_held_hart { regs = slice_set (replicate 32 0) 2 v; pc = s.pc; domain = s.domain; progress = G.Running })
    c.behind-stack.ensures
    ∙ sym (started-at c.args.stacks.now c.args.hart c.args.starts.now
    ∙ ap (λ (o : Option HartStart). option_map_or (started_hart c.args.stacks.now c.args.hart) o no_held_hart) (sym c.in-Some.ensures))

pub returns-in-None : goal.returns-in-None
returns-in-None c =
    c.none.ensures
    ∙ sym (started-at c.args.stacks.now c.args.hart c.args.starts.now
    ∙ ap (λ (o : Option HartStart). option_map_or (started_hart c.args.stacks.now c.args.hart) o no_held_hart) (sym c.in-None.ensures))
