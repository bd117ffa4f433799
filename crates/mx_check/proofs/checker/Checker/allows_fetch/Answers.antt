use Rattle.std.proofs.Common.{length, sym, subst, ◌∙◌}
use Rattle.std.proofs.lemmas.Bool.{not-true}
use Rattle.mx_words.specs.declared.perm.Access.TheVariants.{Execute}
use Rattle.mx_words.specs.Rights.{denies, perm}
use Rattle.mx_table.specs.Tables.{map_of}
use Rattle.mx_check.specs.Conditions.{IsAtHand, MayLook}
use Rattle.mx_check.specs.Harts.{kept_at}
use Rattle.mx_check.proofs.HandLaws.{decided-hit}
use Rattle.mx_check.proofs.MayLaws.{answer_is, word_round}
use Rattle.mx_check.proofs.checker.Checker.allows_fetch.Goals as goal

pub returns : goal.returns
returns g c =
    let t = c.self.inside.tables in
    let maps = g.T.PermTables.maps t in
    let harts = c.self.inside.harts in
    let m = map_of maps c.args.domain in
    let may : MayLook c.args.hart c.args.domain harts = rw (← c.self.view_is) at c.requires.may in
    let hand : IsAtHand (length m) (kept_at harts c.args.hart).cache c.args.addr =
    subst (λ n. IsAtHand n (kept_at harts c.args.hart).cache c.args.addr)
    (sym ((g.met.T.PermTables.shaped t).each c.args.domain (rw (← c.self.view_is) at c.requires.domain)))
    (rw (← c.self.view_is) at c.requires.at_hand) in
    rw (← c.self.view_is) (not-true (denies (perm m) c.args.addr Execute)
    (sym (answer_is g.T.PermTables.kind maps harts c.args.hart c.args.domain g.row.N 0 c.args.addr c.self.invariant may
    (word_round g.T.PermTables.kind m c.args.addr) Execute)
    ∙ decided-hit g.row.N g.T.PermTables.kind m c.args.hart c.args.domain c.args.addr harts hand))
