use Rattle.std.proofs.Common.{◌≡◌, ◌∙◌, ◌+◌, ◌-◌, ◌*◌, arith}
use Rattle.mx_boot.proofs.Placing.{length-word_bytes}
use Rattle.mx_boot.proofs.Puts.{next-word}
use Rattle.mx_boot.proofs.ram.put_words.Goals as goal

pub overflow_mul-k : goal.overflow_mul-k
overflow_mul-k c = omega (
  arith,
  c.requires.room.to,
  length-word_bytes
      c.args.words.now,
  c.words-test.true,
  c.len-k-end.ensures,
  c.requires.small,
)

pub overflow_add-address : goal.overflow_add-address
overflow_add-address c = omega (
  arith,
  c.requires.room.from,
  c.requires.room.to,
  length-word_bytes
      c.args.words.now,
  c.words-test.true,
  c.len-k-end.ensures,
  c.requires.small,
)

pub store-requires-clause-inside : goal.store-requires-clause-inside
store-requires-clause-inside c = (
  omega (arith, c.requires.room.from),
  omega (
    arith,
    c.requires.room.from,
    c.requires.room.to,
    length-word_bytes
        c.args.words.now,
    c.words-test.true,
    c.len-k-end.ensures,
    c.words.invariant.1,
  ),
)

pub words-preserved : goal.words-preserved
words-preserved c =
    let place = c.args.address + 4 * c.words.k - 2147483648 in
    let here : place ≡ c.args.address - 2147483648 + 4 * c.words.k = omega (arith, c.requires.room.from) in (
      next-word c.args.ram.now c.words.ram c.store.new.self (c.args.address - 2147483648) c.words.k place c.get.result c.args.words.now
          c.get.ensures here c.words.invariant.0 c.store.ensures.bytes,
      c.store.ensures.size ∙ c.words.invariant.1,
    )
