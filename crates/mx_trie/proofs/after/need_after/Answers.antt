use Rattle.std.proofs.Common.{List, length, sym, subst, arith}
use Rattle.mx_words.specs.declared.perm.Perm.{Perm}
use Rattle.mx_table.specs.Tables.{most_words}
use Rattle.mx_trie.specs.Standing.{root_at, map_at}
use Rattle.mx_trie.specs.After.{IsNeedWith, maps_after, maps_until}
use Rattle.mx_trie.specs.Read.{read_map}
use Rattle.mx_trie.specs.Shape.{length-read_map}
use Rattle.mx_trie.proofs.NeedOfChange.{until-new, until-old, until-short, need-agree, need-next, need-part, need-small}
use Rattle.mx_trie.proofs.after.need_after.Goals as goal

pub loop-row-init : goal.loop-row-init
loop-row-init g c =
    let old = map_at g.L.LeafForm.kind c.args.words c.args.upper.now c.args.leaf.now c.args.spill.now c.args.roots.now in
    need-agree g.L.LeafForm.kind (length c.args.roots.now) old (maps_until 0 c.args.change.now old) c.args.need (λ d below.
    sym (until-old c.args.change.now old 0 d (omega arith))) c.requires.need

pub need_changed-need-requires-clause-part : goal.need_changed-need-requires-clause-part
need_changed-need-requires-clause-part g c =
    let old = map_at g.L.LeafForm.kind c.args.words c.args.upper.now c.args.leaf.now c.args.spill.now c.args.roots.now in
    subst (λ r. IsNeedWith g.L.LeafForm.kind (read_map g.L.LeafForm.kind c.args.upper.now c.args.leaf.now c.args.spill.now c.args.words r)
    c.loop-row.need) (sym c.at.ensures)
    (subst (λ (m : List Perm). IsNeedWith g.L.LeafForm.kind m c.loop-row.need)
    (until-old c.args.change.now old c.loop-row.row c.loop-row.row (omega arith))
    (need-part g.L.LeafForm.kind (length c.args.roots.now) (maps_until c.loop-row.row c.args.change.now old) c.loop-row.row c.loop-row.need
    (omega arith) c.loop-row.invariant))

pub need_changed-need-requires-clause-few : goal.need_changed-need-requires-clause-few
need_changed-need-requires-clause-few g c =
    let old = map_at g.L.LeafForm.kind c.args.words c.args.upper.now c.args.leaf.now c.args.spill.now c.args.roots.now in
    need-small g.L.LeafForm.kind (length c.args.roots.now) (maps_until c.loop-row.row c.args.change.now old) c.loop-row.need (omega arith)
    (λ d below. until-short c.args.change.now old most_words c.loop-row.row d
    (omega (
      arith,
      length-read_map g.L.LeafForm.kind c.args.upper.now c.args.leaf.now c.args.spill.now c.args.words c.args.roots.now
          (root_at c.args.roots.now d),
    )))
    c.loop-row.invariant

pub loop-row-preserved : goal.loop-row-preserved
loop-row-preserved g c =
    let old = map_at g.L.LeafForm.kind c.args.words c.args.upper.now c.args.leaf.now c.args.spill.now c.args.roots.now in
    need-next g.L.LeafForm.kind (length c.args.roots.now) c.args.change.now old c.loop-row.row c.loop-row.need c.need_changed-need.result
    (omega arith) c.loop-row.invariant
    (search (
      arith,
      g.L.LeafForm.kind,
      c.args.upper.now,
      c.args.leaf.now,
      c.args.spill.now,
      c.args.words,
      c.args.change.now.first,
      c.args.change.now.count,
      c.args.change.now,
      c.loop-row.row,
      c.loop-row.need,
      c.at.ensures,
    ))

pub returns : goal.returns
returns g c =
    let old = map_at g.L.LeafForm.kind c.args.words c.args.upper.now c.args.leaf.now c.args.spill.now c.args.roots.now in
    need-agree g.L.LeafForm.kind (length c.args.roots.now) (maps_until c.loop-row.row c.args.change.now old)
    (maps_after c.args.change.now old) c.loop-row.need
    (λ d below. until-new c.args.change.now old c.loop-row.row d (omega arith)) c.loop-row.invariant
