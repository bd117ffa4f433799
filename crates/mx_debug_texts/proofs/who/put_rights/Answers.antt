use Rattle.std.proofs.Common.{codes, drop, ap, sym, ◌∙◌}
use Rattle.mx_any.specs.Machines.{meaning}
use Rattle.mx_debug_texts.specs.Documents.{rights_at, rights_text}
use Rattle.mx_debug_texts.specs.Window.{further}
use Rattle.mx_debug_texts.proofs.RightLaws.{none_told, some_told}
use Rattle.mx_debug_texts.proofs.WindowLaws.{puts_more}
use Rattle.mx_debug_texts.proofs.who.put_rights.Goals as goal

pub returns-then-not-some : goal.returns-then-not-some
returns-then-not-some c =
    let rights = rights_at (meaning c.args.machine.now) c.args.plan.now c.args.word in
    puts_more c.args.window.now c.put_each_right-some.new.window c.put.new.self (drop 2 rights) (codes "nobody has a right")
    (rights_text rights)
    c.put_each_right-some.ensures.text c.put.ensures (none_told rights (sym c.put_each_right-some.ensures.some ∙ c.if-not-some.true))

pub returns-else-not-some : goal.returns-else-not-some
returns-else-not-some c =
    let rights = rights_at (meaning c.args.machine.now) c.args.plan.now c.args.word in
    c.put_each_right-some.ensures.text
    ∙ ap (further c.args.window.now) (sym (some_told rights (sym c.put_each_right-some.ensures.some ∙ c.if-not-some.false)))
