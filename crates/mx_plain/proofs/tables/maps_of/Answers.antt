use Rattle.std.proofs.Common.{arith}
use Rattle.mx_plain.proofs.MapLaws.{length-row}
use Rattle.mx_plain.proofs.tables.maps_of.Goals as goal

pub list_of-requires : goal.list_of-requires
list_of-requires c = omega (arith, length-row c.args.words c.spans-item.result)
