use Rattle.std.proofs.Common.{map, ap, ◌∙◌}
use Rattle.std.proofs.lemmas.List.{take_all}
use Rattle.toml.specs.Data.{array}
use Rattle.toml.specs.View.{items_of}
use Rattle.toml.proofs.Views.{view-Array}
use Rattle.mx_mill.specs.Table.{number}
use Rattle.mx_mill.proofs.TableLaws.{items_taken}
use Rattle.mx_mill.proofs.building.numbers.Goals as goal

pub words-preserved : goal.words-preserved
words-preserved c =
    c.in_ok-add.ensures ∙ rw (c.number.ensures, c.words.invariant)
    (items_taken number c.args.words.now c.words.word-index 0 c.words-test.true)

pub returns : goal.returns
returns c =
    view-Array c.words.array
    ∙ ap array (c.words.invariant ∙ ap (λ ws. items_of (map number ws)) (take_all c.words.word-index c.args.words.now c.words-test.false))
