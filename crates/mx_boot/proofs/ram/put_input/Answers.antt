use Rattle.std.proofs.Common.{◌≡◌, ◌+◌, ◌-◌, arith}
use Rattle.mx_boot.proofs.Puts.{sized-long, sized-put}
use Rattle.mx_boot.proofs.ram.put_input.Goals as goal

pub store-requires-clause-inside : goal.store-requires-clause-inside
store-requires-clause-inside c =
    let long = sized-long c.args.bytes.now in
    (omega (arith, c.requires.room.from), omega (arith, c.requires.room.from, c.requires.room.to, long))

pub overflow_cast-bytes : goal.overflow_cast-bytes
overflow_cast-bytes c =
    let long = sized-long c.args.bytes.now in
    omega (arith, c.requires.room.to, long, c.requires.small)

pub overflow_add-input : goal.overflow_add-input
overflow_add-input c =
    let long = sized-long c.args.bytes.now in
    omega (arith, c.requires.room.from, c.requires.room.to, long, c.requires.small)

pub put_bytes-requires-clause-room : goal.put_bytes-requires-clause-room
put_bytes-requires-clause-room c =
    let long = sized-long c.args.bytes.now in
    record {
      from = omega (arith, c.requires.room.from);
      to =
          omega (arith, c.requires.room.from, c.requires.room.to, long, c.store.ensures.size);
    }

pub returns-clause-bytes : goal.returns-clause-bytes
returns-clause-bytes c =
    let k : c.args.input.now.address + 4 - 2147483648 ≡ c.args.input.now.address - 2147483648 + 4 = omega (arith, c.requires.room.from) in
    sized-put c.args.ram.now c.store.new.self c.put_bytes.new.ram (c.args.input.now.address - 2147483648)
    (c.args.input.now.address + 4 - 2147483648) c.args.bytes.now k c.store.ensures.bytes c.put_bytes.ensures.bytes
