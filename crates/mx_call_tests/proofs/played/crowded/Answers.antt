use Rattle.std.proofs.Common.{sym, ◌∙◌, arith}
use Rattle.mx_call_tests.proofs.played.crowded.Goals as goal

pub machine-requires : goal.machine-requires
machine-requires g c =
    let modules = c.in_ok-tables.ensures.modules in
    let words = c.in_ok-tables.ensures.words in (
      omega arith,
      (
        c.requires.buffer,
        (
          c.in_ok-owners.ensures ∙ sym words,
          (
            rw (modules, words) c.gates_from.ensures,
            (c.in_ok-heaps.ensures.count ∙ sym modules, c.in_ok-heaps.ensures.areas _ (omega (arith, words))),
          ),
        ),
      ),
    )
