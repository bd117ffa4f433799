use Rattle.std.proofs.Common.{◌≡◌, ◌+◌, refl, sym, ◌∙◌, arith}
use Rattle.mx_mill.specs.Draws.{draws}
use Rattle.mx_mill.specs.Table.{module_table}
use Rattle.mx_mill.specs.Words.{words_by}
use Rattle.mx_mill.proofs.DrawLaws.{draws_next, number_first, number_next}
use Rattle.mx_mill.proofs.TableLaws.{items_counted}
use Rattle.mx_mill.proofs.table.modules.Goals as goal

pub modules-init : goal.modules-init
modules-init c = record { number = sym (number_first c.args.k); items = rw c.new-modules.ensures.items refl }

pub modules-preserved : goal.modules-preserved
modules-preserved c =
    let k = c.args.k in
    let i = c.modules.i in
    let three = rw c.modules.invariant.number at c.draw-later.ensures in
    let drawn : c.draw-later.result.0 ≡ draws k (i + 1) = draws_next k i c.draw-later.result.0 three.words three.domain three.right in
    record {
      number = three.number ∙ number_next k i;
      items =
          c.in_ok-add.ensures
          ∙ rw (c.in_ok-module_of.ensures, drawn, c.modules.invariant.items)
          (items_counted (λ j. module_table j (words_by (draws k) j)) 1 i (i + 1) (omega arith));
    }
