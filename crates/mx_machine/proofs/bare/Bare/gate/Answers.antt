use Rattle.std.proofs.Common.{ℕ, ◌≤◌, ◌^◌, sym, subst, ap, ◌∙◌, Option, None}
use Rattle.std.specs.Option.{option_map_or}
use Rattle.mx_words.specs.Ranges.{word_of}
use Rattle.mx_model.specs.Gates.{gate_target}
use Rattle.mx_machine.specs.AtGate.{gate_here}
use Rattle.mx_machine.specs.Held.{Held}
use Rattle.mx_machine.proofs.InnerSizes.{checker-inside}
use Rattle.mx_machine.proofs.bare.Bare.gate.Goals as goal

pub word_of-requires : goal.word_of-requires
word_of-requires g c =
    subst (λ (n : ℕ). n ≤ 2 ^ 24) (sym (c.words.ensures ∙ ap g.T.PermTables.size c.tables.ensures
    ∙ ap (λ (m : Held). m.parts.size) c.self.view_is)) c.requires

pub returns-in-Some : goal.returns-in-Some
returns-in-Some g c =
    let d = c.args.domain in
    c.target.ensures
    ∙ ap (λ (o : Option ℕ). option_map_or (gate_target c.self.inside.bus.supervisor.gates d) o None)
    (c.in-Some.ensures ∙ ap (λ (n : ℕ). word_of c.args.pc n) (c.words.ensures ∙ ap g.T.PermTables.size c.tables.ensures))
    ∙ ap (λ (m : Held). gate_here m d c.args.pc) c.self.view_is

pub returns-in-None : goal.returns-in-None
returns-in-None g c =
    let d = c.args.domain in
    ap (λ (o : Option ℕ). option_map_or (gate_target c.self.inside.bus.supervisor.gates d) o None)
    (c.in-None.ensures ∙ ap (λ (n : ℕ). word_of c.args.pc n) (c.words.ensures ∙ ap g.T.PermTables.size c.tables.ensures))
    ∙ ap (λ (m : Held). gate_here m d c.args.pc) c.self.view_is

pub tables-requires : goal.tables-requires
tables-requires g c = search checker-inside

pub words-requires : goal.words-requires
words-requires g c κs = λ within. within
