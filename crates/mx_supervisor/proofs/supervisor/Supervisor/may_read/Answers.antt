use Rattle.std.proofs.Common.{◌≡◌, ℕ, ◌∙◌, List, ◌-◌, ◌+◌, ◌<◌, ◌∷◌, sym, subst, lt_of_lt_of_le}
use Rattle.std.specs.List.{range_with_len}
use Rattle.mx_table.specs.Tables.{IsDomain}
use Rattle.mx_supervisor.specs.Parts.{Parts, parts_of, IsSound}
use Rattle.mx_supervisor.proofs.Answering.{with-harts}
use Rattle.mx_supervisor.proofs.Reading.{HasReadTo, read-none, read-more, read-stop, read-end, range-step}
use Rattle.mx_supervisor.proofs.supervisor.Supervisor.may_read.Goals as goal

pub loop-word-preserved : goal.loop-word-preserved
loop-word-preserved g c =
    let old = parts_of g.T.PermTables c.args.self.now in
    let now = parts_of g.T.PermTables c.loop-word.self in
    let all = range_with_len c.args.first (c.args.behind - c.args.first) in
    let w = c.loop-word.word in
    let read : HasReadTo c.args.call.now all (w ∷ range_with_len (w + 1) (c.args.behind - (w + 1))) old now =
    subst (λ (ws : List ℕ). HasReadTo c.args.call.now all ws old now) (range-step w c.args.behind c.loop-word-test.true)
    c.loop-word.invariant in
    read-more c.args.call.now w all _ old now _ read c.look.ensures.looked (c.look.ensures.answer ∙ c.if-not-look.false)

pub returns-then-not-look-clause-read : goal.returns-then-not-look-clause-read
returns-then-not-look-clause-read g c =
    let old = parts_of g.T.PermTables c.args.self.now in
    let now = parts_of g.T.PermTables c.loop-word.self in
    let all = range_with_len c.args.first (c.args.behind - c.args.first) in
    let w = c.loop-word.word in
    let read : HasReadTo c.args.call.now all (w ∷ range_with_len (w + 1) (c.args.behind - (w + 1))) old now =
    subst (λ (ws : List ℕ). HasReadTo c.args.call.now all ws old now) (range-step w c.args.behind c.loop-word-test.true)
    c.loop-word.invariant in
    (read-stop c.args.call.now w all _ old now _ read c.look.ensures.looked (c.look.ensures.answer ∙ c.if-not-look.true)).0

pub returns-then-not-look-clause-answer : goal.returns-then-not-look-clause-answer
returns-then-not-look-clause-answer g c = λ rest.
    let old = parts_of g.T.PermTables c.args.self.now in
    let now = parts_of g.T.PermTables c.loop-word.self in
    let all = range_with_len c.args.first (c.args.behind - c.args.first) in
    let w = c.loop-word.word in
    let read : HasReadTo c.args.call.now all (w ∷ range_with_len (w + 1) (c.args.behind - (w + 1))) old now =
    subst (λ (ws : List ℕ). HasReadTo c.args.call.now all ws old now) (range-step w c.args.behind c.loop-word-test.true)
    c.loop-word.invariant in
    (read-stop c.args.call.now w all _ old now _ read c.look.ensures.looked (c.look.ensures.answer ∙ c.if-not-look.true)).1

pub loop-word-init : goal.loop-word-init
loop-word-init g c = read-none c.args.call.now _ (parts_of g.T.PermTables c.args.self.now) c.requires.may

pub look-requires : goal.look-requires
look-requires g c =
    let p = parts_of g.T.PermTables c.args.self.now in
    let q = parts_of g.T.PermTables c.loop-word.self in
    let same : q ≡ record p { harts = q.harts } = c.loop-word.invariant.same in
    let sound : IsSound q = subst (λ (x : Parts). IsSound x) (sym same) (with-harts p q.harts c.requires.sound) in
    let domain : IsDomain q.maps c.args.call.now.domain =
    subst (λ (x : Parts). IsDomain x.maps c.args.call.now.domain) (sym same) c.requires.domain in
    let inside : c.loop-word.word < q.size = subst (λ (x : Parts). c.loop-word.word < x.size) (sym same)
    (lt_of_lt_of_le c.loop-word-test.true c.requires.inside) in
    (assumption c, (sound, (domain, (c.loop-word.invariant.may, inside))))

pub returns-clause-read : goal.returns-clause-read
returns-clause-read g c =
    (read-end c.args.call.now c.loop-word.word c.args.behind _ _ _ c.loop-word-test.false c.loop-word.invariant).0

pub returns-clause-answer : goal.returns-clause-answer
returns-clause-answer g c = λ rest.
    (read-end c.args.call.now c.loop-word.word c.args.behind _ _ _ c.loop-word-test.false c.loop-word.invariant).1
