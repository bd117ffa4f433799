use Rattle.std.proofs.Common.{◌≡◌, ◌+◌, ◌*◌, sym, ap, ◌∙◌, arith, rules}
use denote.Enum.Bare.{same_true, same_false}
use Rattle.mx_words.specs.Rights.{perm_at}
use Rattle.mx_words.specs.contracts.perm.Perm.{the_type}
use Rattle.mx_trie.proofs.even.is_line_of.Goals as goal

pub returns-in-Some-clause-yes : goal.returns-in-Some-clause-yes
returns-in-Some-clause-yes g c = λ spill m few line told k inside.
    (c.line_perm.ensures spill m few line).alike c.in-Some.found c.in-Some.is k inside
    ∙ same_true the_type (search rules) _ _ (sym c.eq.ensures ∙ told)

pub returns-in-Some-clause-no : goal.returns-in-Some-clause-no
returns-in-Some-clause-no g c = λ spill m few line told alike.
    same_false the_type _ _ (sym c.eq.ensures ∙ told)
    (sym ((c.line_perm.ensures spill m few line).alike c.in-Some.found c.in-Some.is 0 (omega arith)) ∙ alike 0 (omega arith))

pub returns-in-None-clause-yes : goal.returns-in-None-clause-yes
returns-in-None-clause-yes g c = λ spill m few line told k inside. absurd (cc)

pub returns-in-None-clause-no : goal.returns-in-None-clause-no
returns-in-None-clause-no g c = λ spill m few line told alike.
    let zero_more : c.args.line * 16 + 0 ≡ c.args.line * 16 = omega arith in
    (c.line_perm.ensures spill m few line).mixed c.in-None.is (λ k inside. alike k inside
    ∙ sym (ap (perm_at m) (sym zero_more) ∙ alike 0 (omega arith)))
