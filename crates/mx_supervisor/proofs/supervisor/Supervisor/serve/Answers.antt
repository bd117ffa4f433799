use Rattle.std.proofs.Common.{◌≡◌, ℕ, ◌<◌, true, length, refl, sym, subst, ◌∙◌, arith}
use Rattle.mx_words.specs.Announced.{is_announced}
use Rattle.mx_check.specs.Calls.{is_ready}
use Rattle.mx_check.specs.Harts.{at_hart, finished}
use Rattle.mx_model.specs.Serve.{serve}
use Rattle.mx_supervisor.specs.Parts.{parts_of}
use Rattle.mx_supervisor.specs.Served.{HasAnnounced, Meets, flight_after}
use Rattle.mx_supervisor.proofs.Ending.{ended-meets, row-meets}
use Rattle.mx_supervisor.proofs.Joined.{sound-joined}
use Rattle.mx_supervisor.proofs.Looking.{may-again}
use Rattle.mx_supervisor.proofs.ReadyLaws.{ready-kept}
use Rattle.mx_supervisor.proofs.supervisor.Supervisor.serve.Goals as goal

pub serve_row-answer-requires : goal.serve_row-answer-requires
serve_row-answer-requires g c =
    let p = parts_of g.T.PermTables c.args.self.now in (
      assumption c,
      (
        sound-joined p (g.met.T.PermTables.shaped c.args.self.now.checker.tables)
            c.requires.joined,
        (c.requires.domain, (c.requires.may, c.requires.empty)),
      ),
    )

pub finish-requires : goal.finish-requires
finish-requires g c =
    let call = c.args.call.now in
    let was : HasAnnounced (parts_of g.T.PermTables c.args.self.now) call =
    c.requires.may.announced (sym c.is_announced.ensures ∙ c.if-is_announced.true) in
    let keeps = c.serve_row-answer.ensures.does.harts in
    let old = c.args.self.now.checker.harts in
    let now = c.serve_row-answer.new.self.checker.harts in
    let hart : call.hart < length now = subst (λ (n : ℕ). call.hart < n) (sym keeps.count) was.hart in
    let ready : is_ready call.hart now ≡ true = ready-kept call old now keeps ∙ was.ready in
    (omega arith, (hart, ready))

pub returns-then-is_announced-clause-served : goal.returns-then-is_announced-clause-served
returns-then-is_announced-clause-served g c =
    let call = c.args.call.now in
    let p = parts_of g.T.PermTables c.args.self.now in
    let q = parts_of g.T.PermTables c.serve_row-answer.new.self in
    let is : is_announced call.number ≡ true = sym c.is_announced.ensures ∙ c.if-is_announced.true in
    let m : Meets serve call (flight_after call p.harts) p (record q { harts = at_hart call.hart finished q.harts })
    c.serve_row-answer.new.out.bytes c.serve_row-answer.result =
    ended-meets call p q _ _ is (c.requires.may.announced is) c.serve_row-answer.ensures.does in
    rw c.finish.ensures m.served

pub returns-then-is_announced-clause-refused : goal.returns-then-is_announced-clause-refused
returns-then-is_announced-clause-refused g c =
    let call = c.args.call.now in
    let p = parts_of g.T.PermTables c.args.self.now in
    let q = parts_of g.T.PermTables c.serve_row-answer.new.self in
    let is : is_announced call.number ≡ true = sym c.is_announced.ensures ∙ c.if-is_announced.true in
    let m : Meets serve call (flight_after call p.harts) p (record q { harts = at_hart call.hart finished q.harts })
    c.serve_row-answer.new.out.bytes c.serve_row-answer.result =
    ended-meets call p q _ _ is (c.requires.may.announced is) c.serve_row-answer.ensures.does in
    rw c.finish.ensures m.refused

pub returns-then-is_announced-clause-harts : goal.returns-then-is_announced-clause-harts
returns-then-is_announced-clause-harts g c =
    let call = c.args.call.now in
    let p = parts_of g.T.PermTables c.args.self.now in
    let q = parts_of g.T.PermTables c.serve_row-answer.new.self in
    let is : is_announced call.number ≡ true = sym c.is_announced.ensures ∙ c.if-is_announced.true in
    let m : Meets serve call (flight_after call p.harts) p (record q { harts = at_hart call.hart finished q.harts })
    c.serve_row-answer.new.out.bytes c.serve_row-answer.result =
    ended-meets call p q _ _ is (c.requires.may.announced is) c.serve_row-answer.ensures.does in
    rw c.finish.ensures m.harts

pub returns-then-is_announced-clause-sound : goal.returns-then-is_announced-clause-sound
returns-then-is_announced-clause-sound g c =
    let call = c.args.call.now in
    let p = parts_of g.T.PermTables c.args.self.now in
    let q = parts_of g.T.PermTables c.serve_row-answer.new.self in
    let is : is_announced call.number ≡ true = sym c.is_announced.ensures ∙ c.if-is_announced.true in
    let m : Meets serve call (flight_after call p.harts) p (record q { harts = at_hart call.hart finished q.harts })
    c.serve_row-answer.new.out.bytes c.serve_row-answer.result =
    ended-meets call p q _ _ is (c.requires.may.announced is) c.serve_row-answer.ensures.does in
    rw c.finish.ensures m.sound

pub returns-else-is_announced-clause-served : goal.returns-else-is_announced-clause-served
returns-else-is_announced-clause-served g c =
    (row-meets c.args.call.now _ _ _ _ (sym c.is_announced.ensures ∙ c.if-is_announced.false) c.serve_row-answer.ensures.does).served

pub returns-else-is_announced-clause-again : goal.returns-else-is_announced-clause-again
returns-else-is_announced-clause-again g c = λ may.
    may-again c.args.call.now _ c.args.self.now.checker.harts c.serve_row-answer.new.self.checker.harts refl
    c.serve_row-answer.ensures.does.harts may

pub returns-then-is_announced-clause-sizes : goal.returns-then-is_announced-clause-sizes
returns-then-is_announced-clause-sizes g c =
    let s = c.serve_row-answer.ensures.does.sizes in
    rw c.finish.ensures (record { size = s.size; limit = s.limit; modules = s.modules })

pub returns-else-is_announced-clause-refused : goal.returns-else-is_announced-clause-refused
returns-else-is_announced-clause-refused g c = search

pub returns-else-is_announced-clause-harts : goal.returns-else-is_announced-clause-harts
returns-else-is_announced-clause-harts g c =
    (row-meets c.args.call.now _ _ _ _ (sym c.is_announced.ensures ∙ c.if-is_announced.false)
    c.serve_row-answer.ensures.does).harts

pub returns-else-is_announced-clause-sizes : goal.returns-else-is_announced-clause-sizes
returns-else-is_announced-clause-sizes g c = search

pub returns-else-is_announced-clause-sound : goal.returns-else-is_announced-clause-sound
returns-else-is_announced-clause-sound g c = search
