use Rattle.std.proofs.Common.{◌≡◌}
use Rattle.mx_table.specs.Rows.{first_spans}
use Rattle.mx_segments.specs.Store.{IsStore, KeepsOthers}
use Rattle.mx_segments.specs.Sound.{map_in, IsSound}
use Rattle.mx_segments.proofs.build.lay_row.Given as goal

abbrev pub invariant-loop-n : goal.invariant-loop-n
invariant-loop-n l = record {
  store : IsStore l.leaf l.chains.lists;
  others : KeepsOthers l.fn.leaf l.fn.chains.lists l.leaf l.chains.lists l.row;
  same_room : l.chains.room ≡ l.fn.chains.room;
  sound : IsSound l.words l.leaf l.chains.lists l.row;
  map : map_in l.words l.leaf l.chains.lists l.row ≡ first_spans l.words l.spans l.n;
}
