use Rattle.std.proofs.Common.{◌≡◌, ◌+◌, ◌<◌, length, get_or, [], sym, ◌∙◌, ap, arith}
use Rattle.std.proofs.lemmas.List.{get_or_read, take_all}
use Rattle.mx_words.specs.Need.{need}
use Rattle.mx_words.specs.Changes.{changed_map}
use Rattle.mx_table.specs.Change.{given, changed}
use Rattle.mx_words.proofs.MapLaws.{length-changed_map}
use Rattle.mx_table.proofs.ChangedMaps.{changed-at, length-changed}
use Rattle.mx_plain.proofs.NeedSums.{need_step}
use Rattle.mx_plain.proofs.needs.need_after.Goals as goal

pub need_of-requires : goal.need_of-requires
need_of-requires c =
    let change = c.args.change.now in
    let is : c.index-maps-i.result ≡ get_or c.args.maps.now c.loop-i.i [] =
    get_or_read c.args.maps.now c.loop-i.i c.index-maps-i.result (omega arith) c.index-maps-i.is [] in
    let long : length c.index-maps-i.result ≡ length (get_or c.args.maps.now c.loop-i.i []) = ap (λ m. length m) is in
    omega (
      arith,
      length-changed_map change.first change.count (given change (c.loop-i.i + 1)) c.index-maps-i.result,
      long,
      c.requires.small
          c.loop-i.i,
    )

pub loop-i-preserved : goal.loop-i-preserved
loop-i-preserved c =
    let change = c.args.change.now in
    let i = c.loop-i.i in
    let maps = changed change c.args.maps.now in
    let there : i < length maps = omega (arith, length-changed change c.args.maps.now) in
    let is : c.index-maps-i.result ≡ get_or c.args.maps.now i [] =
    get_or_read c.args.maps.now i c.index-maps-i.result (omega arith) c.index-maps-i.is [] in
    let after = changed_map change.first change.count (given change (i + 1)) c.index-maps-i.result in
    let at : get_or maps i [] ≡ after = changed-at change c.args.maps.now i (omega arith)
    ∙ ap (changed_map change.first change.count (given change (i + 1))) (sym is) in
    need_step c.args.kind maps i after c.loop-i.needed c.need_of.result c.sum-needed.result there at
    c.loop-i.invariant.0 c.loop-i.invariant.1 c.need_of.ensures.need c.need_of.ensures.few c.sum-needed.ensures

pub returns : goal.returns
returns c =
    let maps = changed c.args.change.now c.args.maps.now in
    c.loop-i.invariant.0 ∙ ap (need c.args.kind) (take_all c.loop-i.i maps
    (omega (arith, length-changed c.args.change.now c.args.maps.now)))
