use Rattle.std.proofs.Common.{◌++◌, flat_map, refl, ap, ◌∙◌}
use Rattle.mx_any.specs.Machines.{meaning}
use Rattle.mx_model.specs.Reads.{flat_reads}
use Rattle.mx_debug_texts.specs.Documents.{gate_text, owned_text, rights_at, rights_text, word_text}
use Rattle.mx_debug_texts.specs.Window.{further}
use Rattle.mx_debug_texts.proofs.WindowLaws.{puts_more}
use Rattle.mx_debug_texts.proofs.who.put_word.Goals as goal

pub returns : goal.returns
returns c =
    let w = c.args.window.now in
    let plan = c.args.plan.now in
    let f = meaning c.args.machine.now in
    let word = c.args.word in
    let owned = owned_text plan word ((flat_reads f).owner word) in
    let rights = rights_text (rights_at f plan word) in
    let one = puts_more w c.put_owned.new.window c.put_rights.new.window owned rights (owned ++ rights)
    (c.put_owned.ensures ∙ ap (λ o. further w (owned_text plan word o)) c.owner.ensures) c.put_rights.ensures refl in
    puts_more w c.put_rights.new.window c.put_gates.new.window (owned ++ rights) (flat_map (gate_text plan word) f.core.gates)
    (word_text f plan word) one c.put_gates.ensures refl
