use Rattle.std.proofs.Common.{List, sym, ◌∙◌, ap}
use Rattle.mx_words.specs.declared.perm.Perm.{Perm}
use Rattle.mx_words.specs.declared.perm.Span.{Span}
use Rattle.mx_words.specs.Newest.{laid}
use Rattle.mx_words.specs.Changes.{grant_of}
use Rattle.mx_table.specs.Tables.{granted, no_span}
use Rattle.mx_table.specs.Rows.{first_spans}
use Rattle.mx_table.proofs.RowLaws.{got, first_more}
use Rattle.mx_segments.proofs.build.lay_span.Goals as goal

pub returns-clause-map : goal.returns-clause-map
returns-clause-map c =
    let s = c.get-span.result in
    let row = c.args.spans.now in
    c.change_row.ensures.changed
    ∙ ap (λ (m : List Perm). laid (grant_of s.first s.count s.perm) m) c.requires.map
    ∙ ap (λ (x : Span). laid (granted x) (first_spans c.args.words row c.args.n)) (got row c.args.n s no_span c.get-span.ensures)
    ∙ sym (first_more c.args.words row c.requires.spans c.args.n c.requires.place)

pub change_row-requires-clause-some : goal.change_row-requires-clause-some
change_row-requires-clause-some c =
    rw (got c.args.spans.now c.args.n c.get-span.result no_span c.get-span.ensures)
    (c.requires.spans.some c.args.n c.requires.place)

pub change_row-requires-clause-inside : goal.change_row-requires-clause-inside
change_row-requires-clause-inside c =
    rw (got c.args.spans.now c.args.n c.get-span.result no_span c.get-span.ensures)
    (c.requires.spans.inside c.args.n c.requires.place)
