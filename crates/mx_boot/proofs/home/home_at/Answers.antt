use Rattle.std.proofs.Common.{◌∙◌, ℕ, ◌+◌, List, ap, sym, Some}
use Rattle.mx_boot.specs.Areas.{Home}
use Rattle.mx_boot.proofs.Homes.{home_is, few_words}
use Rattle.mx_boot.proofs.home.home_at.Goals as goal

pub returns-clause-home : goal.returns-clause-home
returns-clause-home c =
    let of : List ℕ → Home = λ bytes. record { domain = c.args.i + 1; plan = c.module.result.now; bytes = bytes } in
    home_is c.args.plan.now c.args.images.now c.args.i c.module.result.now c.module.ensures.value
    ∙ ap (λ bytes. Some (of bytes)) (sym c.file.ensures)

pub returns-clause-few : goal.returns-clause-few
returns-clause-few c = few_words c.module.result.now c.module.ensures.range.stack_words
