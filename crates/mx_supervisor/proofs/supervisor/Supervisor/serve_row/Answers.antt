use Rattle.std.proofs.Common.{ap, refl, arith}
use Rattle.mx_words.specs.Announced.{is_announced}
use Rattle.mx_model.specs.Serve.{Exit, Write, Grant, RevokeAll, Transfer, Alloc, Free, AddGate, RemoveGate, AddReturnGate, Query, Self}
use Rattle.mx_model.specs.Serve.{Exchange, Unknown, service, serve_self, answers, code}
use Rattle.mx_supervisor.specs.Parts.{parts_of}
use Rattle.mx_supervisor.proofs.Answering.{told}
use Rattle.mx_supervisor.proofs.Numbers.{as-row, as-silent-row}
use Rattle.mx_supervisor.proofs.supervisor.Supervisor.serve_row.Goals as goal

pub returns-in-Exit-clause-does : goal.returns-in-Exit-clause-does
returns-in-Exit-clause-does g c = as-silent-row Exit c.args.call.now _ _ _ _ _ (ap service c.in-Exit.ensures) c.requires.empty
    (c.exit.ensures _ c.requires.sound)

pub returns-in-Write-clause-does : goal.returns-in-Write-clause-does
returns-in-Write-clause-does g c = as-row Write c.args.call.now _ _ _ _ _ (ap service c.in-Write.ensures) c.write.ensures.does

pub returns-in-Grant-clause-does : goal.returns-in-Grant-clause-does
returns-in-Grant-clause-does g c = as-silent-row Grant c.args.call.now _ _ _ _ _ (ap service c.in-Grant.ensures) c.requires.empty
    c.grant.ensures

pub returns-in-RevokeAll-clause-does : goal.returns-in-RevokeAll-clause-does
returns-in-RevokeAll-clause-does g c = as-silent-row RevokeAll c.args.call.now _ _ _ _ _ (ap service c.in-RevokeAll.ensures)
    c.requires.empty c.revoke_all.ensures

pub returns-in-Transfer-clause-does : goal.returns-in-Transfer-clause-does
returns-in-Transfer-clause-does g c = as-silent-row Transfer c.args.call.now _ _ _ _ _ (ap service c.in-Transfer.ensures) c.requires.empty
    c.transfer.ensures

pub returns-in-Alloc-clause-does : goal.returns-in-Alloc-clause-does
returns-in-Alloc-clause-does g c = as-silent-row Alloc c.args.call.now _ _ _ _ _ (ap service c.in-Alloc.ensures) c.requires.empty
    c.alloc.ensures

pub returns-in-Free-clause-does : goal.returns-in-Free-clause-does
returns-in-Free-clause-does g c = as-silent-row Free c.args.call.now _ _ _ _ _ (ap service c.in-Free.ensures) c.requires.empty
    c.free.ensures

pub returns-in-AddGate-clause-does : goal.returns-in-AddGate-clause-does
returns-in-AddGate-clause-does g c = as-silent-row AddGate c.args.call.now _ _ _ _ _ (ap service c.in-AddGate.ensures) c.requires.empty
    c.add_gate.ensures

pub returns-in-RemoveGate-clause-does : goal.returns-in-RemoveGate-clause-does
returns-in-RemoveGate-clause-does g c = as-silent-row RemoveGate c.args.call.now _ _ _ _ _ (ap service c.in-RemoveGate.ensures)
    c.requires.empty c.remove_gate.ensures

pub returns-in-AddReturnGate-clause-does : goal.returns-in-AddReturnGate-clause-does
returns-in-AddReturnGate-clause-does g c = as-silent-row AddReturnGate c.args.call.now _ _ _ _ _ (ap service c.in-AddReturnGate.ensures)
    c.requires.empty c.add_return_gate.ensures

pub returns-in-Query-clause-does : goal.returns-in-Query-clause-does
returns-in-Query-clause-does g c = as-silent-row Query c.args.call.now _ _ _ _ _ (ap service c.in-Query.ensures) c.requires.empty
    c.query.ensures

pub returns-in-Exchange-clause-does : goal.returns-in-Exchange-clause-does
returns-in-Exchange-clause-does g c = as-silent-row Exchange c.args.call.now _ _ _ _ _ (ap service c.in-Exchange.ensures) c.requires.empty
    c.exchange.ensures

pub returns-in-Identify-clause-does : goal.returns-in-Identify-clause-does
returns-in-Identify-clause-does g c = as-silent-row Self c.args.call.now _ _ _ _ _ (ap service c.in-Identify.ensures) c.requires.empty
    (told (λ r s call. serve_self s call) c.args.call.now (parts_of g.T.PermTables c.args.self.now) _ _ c.requires.sound c.done.ensures
    (λ rest. refl))

pub returns-in-Unknown-clause-does : goal.returns-in-Unknown-clause-does
returns-in-Unknown-clause-does g c = as-silent-row Unknown c.args.call.now _ _ _ _ _ c.in-Unknown.ensures.0 c.requires.empty
    (told (λ r s call. answers s (code 13)) c.args.call.now (parts_of g.T.PermTables c.args.self.now) _ _ c.requires.sound c.refused.ensures
    (λ rest. refl))

pub write-requires : goal.write-requires
write-requires g c =
    let may = c.requires.may.other (ap is_announced c.in-Write.ensures) in
    (assumption c, (c.requires.sound, (c.requires.domain, (may, c.requires.empty))))

pub transfer-requires : goal.transfer-requires
transfer-requires g c =
    let may = c.requires.may.other (ap is_announced c.in-Transfer.ensures) in
    (assumption c, (c.requires.sound, (c.requires.domain, may)))

pub add_gate-requires : goal.add_gate-requires
add_gate-requires g c =
    (assumption c, (c.requires.sound, (c.requires.domain, c.requires.may.other (ap is_announced c.in-AddGate.ensures))))

pub remove_gate-requires : goal.remove_gate-requires
remove_gate-requires g c =
    let may = c.requires.may.other (ap is_announced c.in-RemoveGate.ensures) in
    (assumption c, (c.requires.sound, (c.requires.domain, may)))

pub add_return_gate-requires : goal.add_return_gate-requires
add_return_gate-requires g c =
    let may = c.requires.may.other (ap is_announced c.in-AddReturnGate.ensures) in
    (assumption c, (c.requires.sound, (c.requires.domain, may)))

pub query-requires : goal.query-requires
query-requires g c =
    (assumption c, (c.requires.sound, (c.requires.domain, c.requires.may.other (ap is_announced c.in-Query.ensures))))

pub exchange-requires : goal.exchange-requires
exchange-requires g c =
    let may = c.requires.may.other (ap is_announced c.in-Exchange.ensures) in
    (assumption c, (c.requires.sound, (c.requires.domain, may)))

pub grant-requires : goal.grant-requires
grant-requires g c =
    let may = c.requires.may.announced (ap is_announced c.in-Grant.ensures) in
    (assumption c, (c.requires.sound, (c.requires.domain, (may, c.in-Grant.ensures))))

pub revoke_all-requires : goal.revoke_all-requires
revoke_all-requires g c =
    let may = c.requires.may.announced (ap is_announced c.in-RevokeAll.ensures) in
    (assumption c, (c.requires.sound, (c.requires.domain, (may, c.in-RevokeAll.ensures))))

pub alloc-requires : goal.alloc-requires
alloc-requires g c =
    let may = c.requires.may.announced (ap is_announced c.in-Alloc.ensures) in
    (assumption c, (c.requires.sound, (c.requires.domain, (may, c.in-Alloc.ensures))))

pub free-requires : goal.free-requires
free-requires g c =
    let may = c.requires.may.announced (ap is_announced c.in-Free.ensures) in
    (assumption c, (c.requires.sound, (c.requires.domain, (may, c.in-Free.ensures))))

pub overflow_mul-call : goal.overflow_mul-call
overflow_mul-call g c =
    let may = c.requires.may.other (ap is_announced c.in-Identify.ensures) in
    omega (arith, may.hart, c.flights_of.ensures.few)

pub overflow_add-call : goal.overflow_add-call
overflow_add-call g c =
    let may = c.requires.may.other (ap is_announced c.in-Identify.ensures) in
    omega (arith, may.hart, c.flights_of.ensures.few, c.requires.domain.last, c.requires.sound.few_maps)
