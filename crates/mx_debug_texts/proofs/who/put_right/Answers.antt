use Rattle.std.proofs.Common.{◌≡◌, true, false, [], ◌++◌, if◌then◌else◌, ap, sym, ◌∙◌}
use Rattle.mx_debug_texts.specs.Documents.{comma, is_none, next_right, right_of}
use Rattle.mx_debug_texts.specs.Window.{further}
use Rattle.mx_debug_texts.proofs.WindowLaws.{further_none, puts_more}
use Rattle.mx_debug_texts.proofs.who.put_right.Goals as goal

pub returns-then-is_none-clause-text : goal.returns-then-is_none-clause-text
returns-then-is_none-clause-text c =
    let w = c.args.window.now in
    let none : is_none c.args.perm ≡ true = sym c.is_none.ensures ∙ c.if-is_none.true in
    let text = comma c.args.some ++ right_of c.args.plan.now c.args.domain c.args.perm in
    further_none w ∙ sym (ap (λ b. further w (if b then [] else text)) none)

pub returns-clause-text : goal.returns-clause-text
returns-clause-text c =
    let w = c.args.window.now in
    let right = right_of c.args.plan.now c.args.domain c.args.perm in
    let some : is_none c.args.perm ≡ false = sym c.is_none.ensures ∙ c.if-is_none.false in
    puts_more w c.put.new.self c.put_right_of.new.window (comma c.args.some) right
    (next_right c.args.plan.now c.args.domain c.args.perm c.args.some)
    (c.put.ensures ∙ ap (further w) c.comma.ensures) c.put_right_of.ensures
    (ap (λ b. if b then [] else comma c.args.some ++ right) some)
