use Rattle.std.proofs.Common.{inr, not, length, refl, ap, sym, ◌∙◌}
use Rattle.mx_core.specs.Bus.{load_at}
use Rattle.mx_machine.proofs.BusLaws.{inside-bytes, perm-same}
use Rattle.mx_machine.proofs.bus.HartBusBus.fetch.Goals as goal

pub returns-then-not-may-clause-denied : goal.returns-then-not-may-clause-denied
returns-then-not-may-clause-denied g c = sym (ap not c.if-not-may.true) ∙ c.may.ensures.answer

pub returns-then-not-may-clause-map : goal.returns-then-not-may-clause-map
returns-then-not-may-clause-map g c =
    let t = c.may.ensures.touch in perm-same _ _ _ _ _ _ t.same_tables.same_size t.same_tables.same_maps t.same_domain

pub load-requires-clause-inside : goal.load-requires-clause-inside
load-requires-clause-inside g c =
    let size = g.T.PermTables.size c.args.self.now.supervisor.checker.tables in
    inside-bytes size c.args.addr 4 _ (inr (inr refl)) c.requires.aligned (c.may.ensures.inside c.if-not-may.false)
    (ap length c.may.ensures.ram ∙ c.requires.usable.ram)

pub returns-clause-denied : goal.returns-clause-denied
returns-clause-denied g c = sym (ap not c.if-not-may.false) ∙ c.may.ensures.answer

pub returns-clause-word : goal.returns-clause-word
unfolding load_at
returns-clause-word g c = rw (c.load.ensures.number, c.may.ensures.ram) refl

pub returns-clause-map : goal.returns-clause-map
returns-clause-map g c =
    let t = c.may.ensures.touch in perm-same _ _ _ _ _ _ t.same_tables.same_size t.same_tables.same_maps t.same_domain
