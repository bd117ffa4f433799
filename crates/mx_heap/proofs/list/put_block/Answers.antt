use Rattle.std.proofs.Common.{◌≡◌, List, nat_lt}
use Rattle.std.specs.List.{position_or_len}
use Rattle.mx_heap.specs.declared.block.Block.{Block}
use Rattle.mx_heap.proofs.ListLaws.{put_listed}
use Rattle.mx_heap.proofs.list.put_block.Goals as goal

pub returns-clause-items : goal.returns-clause-items
returns-clause-items c =
    let bs : List Block = c.args.blocks.now.items in
    let b : Block = c.args.block in
    let at : c.blocks_to-at.result ≡ position_or_len (λ (x : Block). nat_lt b.first x.first) bs =
    rw c.deref.ensures.value at c.blocks_to-at.ensures.place in
    rw (c.in-Ok.ensures.items, at) (put_listed b bs)
