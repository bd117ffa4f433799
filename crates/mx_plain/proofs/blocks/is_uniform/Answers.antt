use Rattle.std.proofs.Common.{◌≡◌, ◌+◌, ◌<◌, length, sym, ap, ◌∙◌, arith}
use denote.Enum.Bare.{differs_true}
use Rattle.mx_words.specs.declared.perm.Perm.TheVariants as P
use Rattle.mx_words.specs.Rights.{same, perm_at}
use Rattle.mx_words.specs.contracts.perm.Perm.{the_type}
use Rattle.mx_plain.proofs.BlockTests.{uniform_no, uniform_cut}
use Rattle.mx_plain.proofs.RunTests.{same_is}
use Rattle.mx_plain.proofs.blocks.is_uniform.Goals as goal

pub returns-then-ne : goal.returns-then-ne
returns-then-ne g c =
    uniform_no (g.M.WordMap.list c.args.map.now) c.args.first c.args.count c.loop-word.word c.loop-word.auto.word (omega arith)
    (λ e. differs_true the_type _ _ (sym c.if-ne.ensures) (c.at.ensures ∙ e ∙ sym c.at-perm.ensures))

pub returns : goal.returns
returns g c =
    let m = g.M.WordMap.list c.args.map.now in
    let far : length m < c.args.first + c.args.count = omega arith in
    let test = uniform_cut m c.args.first c.args.count far (λ k from below. c.loop-word.invariant k from (omega arith) ∙ c.at-perm.ensures)
    in
    let is : c.eq.result ≡ same (perm_at m c.args.first) P.None = c.eq.ensures ∙ same_is c.at-perm.result P.None
    ∙ ap (λ p. same p P.None) c.at-perm.ensures in
    rw is test
