use Rattle.std.proofs.Common.{◌∙◌, ◌+◌, [], ◌∷◌, ◌++◌, ap, sym, subst, arith}
use Rattle.mx_words.specs.declared.perm.Span.{Span}
use Rattle.mx_boot.proofs.Rowed.{IsRowTo, end_of, row-step, row-onward, row-end}
use Rattle.mx_boot.proofs.granted.row.Goals as goal

pub overflow_add-end : goal.overflow_add-end
overflow_add-end c =
    let a = c.in-Some.area in
    let within = (row-step c.args.words c.areas.end c.args.areas.now c.areas.row a c.requires.placed c.areas.invariant
    (sym c.in-Some.ensures)).within in
    omega (arith, within, c.word_at-first.ensures, c.requires.few)

pub areas-smaller : goal.areas-smaller
areas-smaller c =
    let a = c.in-Some.area in
    let within = (row-step c.args.words c.areas.end c.args.areas.now c.areas.row a c.requires.placed c.areas.invariant
    (sym c.in-Some.ensures)).within in
    let onward = row-onward c.args.words c.areas.end c.args.areas.now c.areas.row a c.requires.placed c.areas.invariant
    (sym c.in-Some.ensures) in
    omega (arith, within, onward, c.word_at-first.ensures)

pub areas-preserved : goal.areas-preserved
areas-preserved c =
    let a = c.in-Some.area in
    let step = row-step c.args.words c.areas.end c.args.areas.now c.areas.row a c.requires.placed c.areas.invariant (sym c.in-Some.ensures)
    in
    let pushed = c.in_ok-push.ensures.ok ∙ ap (λ n. (let s : Span = record { first = n; count = a.count; perm = a.perm } in
    c.areas.row ++ s ∷ [])) c.word_at-first.ensures in
    subst (λ n. IsRowTo c.args.words (n + a.count) c.args.areas.now c.push.new.self) (sym c.word_at-first.ensures)
    (subst (λ row. IsRowTo c.args.words (end_of a) c.args.areas.now row) (sym pushed) step)

pub returns-clause-map : goal.returns-clause-map
returns-clause-map c = row-end c.args.words c.areas.end c.args.areas.now c.areas.row c.areas.invariant (sym c.in_default.ensures)
