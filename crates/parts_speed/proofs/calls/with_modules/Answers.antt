use Rattle.std.proofs.Common.{sym, ap, length, ◌∙◌, arith}
use Rattle.std.proofs.lemmas.List.{length-map}
use Rattle.mx_table.specs.Tables.{row_map}
use Rattle.parts_speed.proofs.calls.with_modules.Goals as goal

pub machine-requires : goal.machine-requires
machine-requires g c =
    let modules = ap length c.in-Ok.ensures.maps ∙ length-map _ (row_map 16777216) ∙ (c.deref.ensures.len ∙ c.in_ok-rows.ensures.count) in
    let words = c.in-Ok.ensures.size in (
      omega arith,
      (
        c.requires.buffer,
        (
          c.in_ok-owners.ensures ∙ sym words,
          (
            rw c.new.ensures tt,
            (c.in_ok-heaps.ensures.count ∙ sym modules, c.in_ok-heaps.ensures.areas _ (omega (arith, words))),
          ),
        ),
      ),
    )
