use Rattle.std.proofs.Common.{refl, arith}
use Rattle.mx_trie.proofs.Scans.{even-tells}
use Rattle.mx_trie.proofs.scan.is_region_even.Goals as goal

pub returns : goal.returns
returns g c =
    even-tells 1048576 131072 (g.V.View.map c.args.view.now) c.args.region c.is_even.result refl refl (omega arith) c.is_even.ensures.yes
    c.is_even.ensures.no
