use Rattle.std.proofs.Common.{rules, ◌∙◌, ap}
use Rattle.std.proofs.Common.{map as list_map}
use Rattle.mx_table.specs.Tables.{row_map}
use Rattle.mx_snapshot.specs.Stored.{Head}
use Rattle.mx_resume.proofs.Going.{are-parts, bounds-of, maps-fit, may-fly, overfull, parts-joined, rows-count, rows-fit, rows-maps}
use Rattle.mx_resume.proofs.building.join.Goals as goal

pub tables-requires-clause-bounds : goal.tables-requires-clause-bounds
tables-requires-clause-bounds g c = let h = c.requires.held in bounds-of h.snapshot h.gives.valid c.args.head.now h.gives.same_head

pub tables-requires-clause-count : goal.tables-requires-clause-count
tables-requires-clause-count g c =
    let h = c.requires.held in rows-count h.snapshot h.gives.valid c.args.head.now c.as_slice.result.now h.gives.same_head
    (c.as_slice.ensures.value ∙ h.gives.same_rows)

pub tables-requires-clause-each : goal.tables-requires-clause-each
tables-requires-clause-each g c =
    let h = c.requires.held in rows-fit h.snapshot h.gives.valid c.args.head.now c.as_slice.result.now h.gives.same_head
    (c.as_slice.ensures.value ∙ h.gives.same_rows)

pub check_on-checker-requires : goal.check_on-checker-requires
check_on-checker-requires g c = (
  search rules,
  may-fly c.requires.held.snapshot c.args.head.now c.args.rows.items c.args.harts.now c.args.ram c.args.owners c.args.gates c.args.heaps
      c.requires.held.gives (g.T.PermTables.size c.in-Ok.tables) g.row.N c.in-Ok.ensures.size c.requires.buffer,
)

pub join_on-requires : goal.join_on-requires
join_on-requires g c = (
  search rules,
  (
    search rules,
    are-parts g.T.PermTables g.row.N c.requires.held.snapshot c.args.head.now c.args.rows.items c.args.harts.now c.args.ram c.args.owners
        c.args.gates c.args.heaps
        c.requires.held.gives c.in-Ok.tables c.requires.kind (c.in-Ok.ensures.maps
        ∙ ap (list_map (row_map c.args.head.now.words)) c.as_slice.ensures.value) c.in-Ok.ensures.size c.in-Ok.ensures.limit
        c.requires.buffer
        c.check_on-checker.result c.check_on-checker.ensures,
  ),
)

pub returns-in-Ok : goal.returns-in-Ok
returns-in-Ok g c = λ s gives. (
  maps-fit s g.T.PermTables.kind c.args.head.now.limit (g.T.PermTables.maps c.in-Ok.tables) (c.requires.kind
      ∙ ap (λ (h : Head). h.kind) gives.same_head) (ap (λ (h : Head). h.limit) gives.same_head)
      (c.in-Ok.ensures.maps ∙ rows-maps s c.args.head.now c.as_slice.result.now gives.same_head (c.as_slice.ensures.value
      ∙ gives.same_rows)) c.in-Ok.ensures.fits,
  parts-joined g.T.PermTables g.row.N s c.args.head.now c.args.rows.items c.args.harts.now c.args.ram c.args.owners c.args.gates
      c.args.heaps
      gives c.in-Ok.tables c.requires.kind (c.in-Ok.ensures.maps ∙ ap (list_map (row_map c.args.head.now.words)) c.as_slice.ensures.value)
      c.in-Ok.ensures.size c.in-Ok.ensures.limit c.requires.buffer
      c.check_on-checker.result c.check_on-checker.ensures c.join_on.result c.join_on.ensures,
)

pub returns : goal.returns
returns g c = λ s gives.
    overfull s g.T.PermTables.kind c.args.head.now.limit (list_map (row_map c.args.head.now.words) c.as_slice.result.now) c.in-Err.refused
    (c.requires.kind ∙ ap (λ (h : Head). h.kind) gives.same_head) (ap (λ (h : Head). h.limit) gives.same_head)
    (rows-maps s c.args.head.now c.as_slice.result.now gives.same_head (c.as_slice.ensures.value ∙ gives.same_rows))
    c.in-Err.ensures.refused
