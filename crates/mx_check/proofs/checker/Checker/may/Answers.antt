use Rattle.std.proofs.Common.{◌≡◌, ◌∙◌, ap, sym, length, Some}
use Rattle.mx_words.specs.declared.perm.Perm.{Perm}
use Rattle.mx_words.specs.Ranges.{word_of}
use Rattle.mx_words.specs.Reach.{span}
use Rattle.mx_words.specs.Rights.{allows}
use Rattle.mx_table.specs.Tables.{map_of}
use Rattle.mx_check.specs.Conditions.{MayLook}
use Rattle.mx_check.specs.Harts.{kept_at}
use Rattle.mx_check.specs.Looks.{decided, found, looked_at_address}
use Rattle.mx_check.proofs.LookLaws.{asked_is_look, hit_decides, walk_decides, walked_is_look}
use Rattle.mx_check.proofs.MayLaws.{answer_is, looked-keeps, named-keeps, word_round}
use Rattle.mx_check.proofs.checker.Checker.may.Goals as goal

pub invariant_of-self : goal.invariant_of-self
invariant_of-self g c =
    let may : MayLook c.args.hart c.args.domain c.self.inside.harts = rw (← c.self.view_is) at c.requires.may in
    rw c.name.ensures (named-keeps g.T.PermTables.kind (g.T.PermTables.maps c.self.inside.tables) c.self.inside.harts c.args.hart
    c.args.domain c.self.invariant may)

pub invariant_of-self-in-Some-answer : goal.invariant_of-self-in-Some-answer
invariant_of-self-in-Some-answer g c =
    let t = c.self.inside.tables in
    let harts = c.self.inside.harts in
    let kind = g.T.PermTables.kind in
    let m = map_of (g.T.PermTables.maps t) c.args.domain in
    let may : MayLook c.args.hart c.args.domain harts = rw (← c.self.view_is) at c.requires.may in
    let w : word_of c.args.addr (length m) ≡ Some c.in-Some.word =
    ap (word_of c.args.addr) ((g.met.T.PermTables.shaped t).each c.args.domain (rw (← c.self.view_is) at c.requires.domain)
    ∙ sym c.words.ensures) ∙ sym c.in-Some.ensures in
    let asked : c.answer.new.self
    ≡ looked_at_address g.row.N kind m c.args.hart c.args.place c.args.domain c.args.addr harts =
    rw w (asked_is_look g.row.N c.args.hart c.args.place c.args.domain c.in-Some.word (span kind m c.in-Some.word) harts c.answer.new.self
    c.in-Some-answer.perm c.in-Some-answer.ensures.answer c.in-Some-answer.ensures.after) in
    rw asked (looked-keeps kind (g.T.PermTables.maps t) harts c.args.hart c.args.domain g.row.N c.args.place c.args.addr c.self.invariant
    may
    (word_round kind m c.args.addr))

pub invariant_of-self-in-None : goal.invariant_of-self-in-None
invariant_of-self-in-None g c =
    let t = c.self.inside.tables in
    let harts = c.self.inside.harts in
    let kind = g.T.PermTables.kind in
    let m = map_of (g.T.PermTables.maps t) c.args.domain in
    let may : MayLook c.args.hart c.args.domain harts = rw (← c.self.view_is) at c.requires.may in
    let w : word_of c.args.addr (length m) ≡ Some c.in-Some.word =
    ap (word_of c.args.addr) ((g.met.T.PermTables.shaped t).each c.args.domain (rw (← c.self.view_is) at c.requires.domain)
    ∙ sym c.words.ensures) ∙ sym c.in-Some.ensures in
    let walked : c.walk.new.harts
    ≡ looked_at_address g.row.N kind m c.args.hart c.args.place c.args.domain c.args.addr harts =
    rw w (walked_is_look g.row.N c.args.hart c.args.place c.args.domain c.in-Some.word (span kind m c.in-Some.word) harts c.answer.new.self
    c.walk.new.harts may.hart c.in-None.ensures.answer c.in-None.ensures.after c.walk.ensures.harts) in
    rw (walked, c.walk.ensures.same_tables.same_maps) (looked-keeps kind (g.T.PermTables.maps t) harts c.args.hart c.args.domain g.row.N
    c.args.place c.args.addr c.self.invariant may (word_round kind m c.args.addr))

pub returns-in-Some-answer-clause-answer : goal.returns-in-Some-answer-clause-answer
returns-in-Some-answer-clause-answer g c =
    let t = c.self.inside.tables in
    let harts = c.self.inside.harts in
    let kind = g.T.PermTables.kind in
    let m = map_of (g.T.PermTables.maps t) c.args.domain in
    let may : MayLook c.args.hart c.args.domain harts = rw (← c.self.view_is) at c.requires.may in
    let w : word_of c.args.addr (length m) ≡ Some c.in-Some.word =
    ap (word_of c.args.addr) ((g.met.T.PermTables.shaped t).each c.args.domain (rw (← c.self.view_is) at c.requires.domain)
    ∙ sym c.words.ensures) ∙ sym c.in-Some.ensures in
    let by : c.in-Some-answer.perm ≡ decided kind m c.args.place c.args.domain c.args.addr (kept_at harts c.args.hart).cache =
    rw w (hit_decides (found c.args.place c.args.domain c.in-Some.word (kept_at harts c.args.hart).cache) (span kind m c.in-Some.word)
    c.in-Some-answer.perm c.in-Some-answer.ensures.answer) in
    rw (← c.self.view_is) (c.allows.ensures ∙ ap (λ (p : Perm). allows p c.args.access) by
    ∙ answer_is kind (g.T.PermTables.maps t) harts c.args.hart c.args.domain g.row.N c.args.place c.args.addr c.self.invariant may
    (word_round kind m c.args.addr) c.args.access)

pub returns-in-None-clause-answer : goal.returns-in-None-clause-answer
returns-in-None-clause-answer g c =
    let t = c.self.inside.tables in
    let harts = c.self.inside.harts in
    let kind = g.T.PermTables.kind in
    let m = map_of (g.T.PermTables.maps t) c.args.domain in
    let may : MayLook c.args.hart c.args.domain harts = rw (← c.self.view_is) at c.requires.may in
    let w : word_of c.args.addr (length m) ≡ Some c.in-Some.word =
    ap (word_of c.args.addr) ((g.met.T.PermTables.shaped t).each c.args.domain (rw (← c.self.view_is) at c.requires.domain)
    ∙ sym c.words.ensures) ∙ sym c.in-Some.ensures in
    let by : c.walk.result ≡ decided kind m c.args.place c.args.domain c.args.addr (kept_at harts c.args.hart).cache =
    rw w (c.walk.ensures.answer
    ∙ walk_decides (found c.args.place c.args.domain c.in-Some.word (kept_at harts c.args.hart).cache) (span kind m c.in-Some.word)
    c.in-None.ensures.answer) in
    rw (← c.self.view_is) (c.allows-in-None.ensures ∙ ap (λ (p : Perm). allows p c.args.access) by
    ∙ answer_is kind (g.T.PermTables.maps t) harts c.args.hart c.args.domain g.row.N c.args.place c.args.addr c.self.invariant may
    (word_round kind m c.args.addr) c.args.access)

pub returns-in-None-clause-harts : goal.returns-in-None-clause-harts
returns-in-None-clause-harts g c =
    let t = c.self.inside.tables in
    let harts = c.self.inside.harts in
    let kind = g.T.PermTables.kind in
    let m = map_of (g.T.PermTables.maps t) c.args.domain in
    let may : MayLook c.args.hart c.args.domain harts = rw (← c.self.view_is) at c.requires.may in
    let w : word_of c.args.addr (length m) ≡ Some c.in-Some.word =
    ap (word_of c.args.addr) ((g.met.T.PermTables.shaped t).each c.args.domain (rw (← c.self.view_is) at c.requires.domain)
    ∙ sym c.words.ensures) ∙ sym c.in-Some.ensures in
    rw (← c.self.view_is) (rw w (walked_is_look g.row.N c.args.hart c.args.place c.args.domain c.in-Some.word (span kind m c.in-Some.word)
    harts c.answer.new.self c.walk.new.harts may.hart c.in-None.ensures.answer c.in-None.ensures.after c.walk.ensures.harts))
