use Rattle.std.proofs.Common.{◌≡◌, ◌∙◌, ◌+◌, ◌-◌, ap, arith}
use Rattle.mx_words.specs.Bytes.{put_at}
use Rattle.mx_boot.proofs.Puts.{next-byte}
use Rattle.mx_boot.proofs.ram.put_bytes.Goals as goal

pub bytes-preserved : goal.bytes-preserved
bytes-preserved c =
    let place = c.args.address + c.bytes.k - 2147483648 in
    let here : place ≡ c.args.address - 2147483648 + c.bytes.k = omega (arith, c.requires.room.from) in (
      next-byte c.args.ram.now c.bytes.ram c.store.new.self (c.args.address - 2147483648) c.bytes.k place c.args.bytes.now c.bytes-test.true
          (omega (arith, (c.type_inv.bytes c.bytes.k).fits)) here c.bytes.invariant.0
          (c.store.ensures.bytes ∙ ap (put_at c.bytes.ram place 1) c.from.ensures),
      c.store.ensures.size ∙ c.bytes.invariant.1,
    )
