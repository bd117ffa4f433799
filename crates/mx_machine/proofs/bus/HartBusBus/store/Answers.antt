use Rattle.std.proofs.Common.{◌≡◌, ℕ, ◌-◌, false, not, Bool, List, length, cond, ap, sym, ◌∙◌}
use Rattle.mx_words.specs.Bytes.{put_at}
use Rattle.mx_words.specs.Ranges.{ram_base}
use Rattle.mx_words.specs.declared.perm.Access.TheVariants as A
use Rattle.mx_core.specs.Bus.{denied, store_at}
use Rattle.mx_machine.specs.Bus.{perm_from}
use Rattle.mx_machine.proofs.BusLaws.{inside-bytes, perm-same}
use Rattle.mx_machine.proofs.bus.HartBusBus.store.Goals as goal

pub returns-then-not-may-clause-denied : goal.returns-then-not-may-clause-denied
returns-then-not-may-clause-denied g c = sym (ap not c.if-not-may.true) ∙ c.may.ensures.answer

pub returns-then-not-may-clause-bytes : goal.returns-then-not-may-clause-bytes
returns-then-not-may-clause-bytes g c =
    let ram = c.args.self.now.supervisor.ram in
    c.may.ensures.ram
    ∙ ap (λ (b : Bool). cond b ram (store_at ram c.args.addr c.args.size c.args.value)) (sym (ap not c.if-not-may.true)
    ∙ c.may.ensures.answer)

pub returns-then-not-may-clause-map : goal.returns-then-not-may-clause-map
returns-then-not-may-clause-map g c = let t = c.may.ensures.touch in
    perm-same _ _ _ _ _ _ t.same_tables.same_size t.same_tables.same_maps t.same_domain

pub returns-then-not-may-clause-usable : goal.returns-then-not-may-clause-usable
returns-then-not-may-clause-usable g c = c.may.ensures.usable

pub returns-then-not-may-clause-touch : goal.returns-then-not-may-clause-touch
returns-then-not-may-clause-touch g c = c.may.ensures.touch

pub store-requires-clause-inside : goal.store-requires-clause-inside
store-requires-clause-inside g c =
    inside-bytes (g.T.PermTables.size c.args.self.now.supervisor.checker.tables) c.args.addr c.args.size _ c.requires.size
    c.requires.aligned
    (c.may.ensures.inside c.if-not-may.false) (ap length c.may.ensures.ram ∙ c.requires.usable.ram)

pub returns-clause-denied : goal.returns-clause-denied
returns-clause-denied g c = sym (ap not c.if-not-may.false) ∙ c.may.ensures.answer

pub returns-clause-bytes : goal.returns-clause-bytes
unfolding store_at
returns-clause-bytes g c =
    let t = c.args.self.now.supervisor.checker.tables in
    let ram = c.args.self.now.supervisor.ram in
    let put = put_at ram (c.args.addr - ram_base) c.args.size c.args.value in
    let free : denied (perm_from (g.T.PermTables.size t) (g.T.PermTables.maps t) c.args.self.now.domain) c.args.addr A.Write ≡ false =
    sym c.may.ensures.answer ∙ ap not c.if-not-may.false in
    c.store.ensures.bytes ∙ ap (λ (bytes : List ℕ). put_at bytes (c.args.addr - ram_base) c.args.size c.args.value) c.may.ensures.ram
    ∙ sym (ap (λ (b : Bool). cond b ram put) free)

pub returns-clause-map : goal.returns-clause-map
returns-clause-map g c = let t = c.may.ensures.touch in perm-same _ _ _ _ _ _ t.same_tables.same_size t.same_tables.same_maps t.same_domain

pub returns-clause-usable : goal.returns-clause-usable
returns-clause-usable g c =
    let u = c.may.ensures.usable in
    record { look = u.look; domain = u.domain; ram = c.store.ensures.size ∙ u.ram }

pub returns-clause-touch : goal.returns-clause-touch
returns-clause-touch g c =
    let t = c.may.ensures.touch in
    record {
      same_hart = t.same_hart;
      same_domain = t.same_domain;
      same_tables = t.same_tables;
      same_owners = t.same_owners;
      same_gates = t.same_gates;
      same_heaps = t.same_heaps;
      harts_after = t.harts_after;
      counted = t.counted;
    }
