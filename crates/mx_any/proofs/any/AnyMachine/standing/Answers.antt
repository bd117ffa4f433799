use Rattle.std.proofs.Common.{sym, ap, ◌∙◌}
use Rattle.mx_words.specs.declared.perm.Access.TheVariants as A
use Rattle.mx_words.specs.Ranges.{word_of}
use Rattle.mx_words.specs.Rights.{allows}
use Rattle.mx_model.specs.Reads.{flat_reads}
use Rattle.mx_any.specs.Machines.{meaning}
use Rattle.mx_any.proofs.StandingLaws.{fetch}
use Rattle.mx_any.proofs.any.AnyMachine.standing.Goals as goal

pub returns-clause-inst : goal.returns-clause-inst
returns-clause-inst c =
    let f = meaning c.args.self.now in
    fetch (flat_reads f) f.core c.args.domain c.args.pc c.in_ok-word.word c.decode.result c.word_in.result c.bytes.result.now
    (c.in_ok-word.ensures ∙ ap (word_of c.args.pc) c.words.ensures)
    (ap (λ p. allows p A.Execute) (sym c.perm.ensures) ∙ sym c.allows.ensures ∙ c.if-not-allows.false) c.requires.aligned c.bytes.ensures
    c.word_in.ensures c.decode.ensures.table
