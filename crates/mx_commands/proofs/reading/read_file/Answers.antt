use Rattle.mx_commands.proofs.Sizes.{reads_told, reads_large}
use Rattle.mx_commands.proofs.reading.read_file.Goals as goal

pub returns-then-told-most-clause-found : goal.returns-then-told-most-clause-found
returns-then-told-most-clause-found g c =
    reads_told g.S.Store.gives c.args.most c.args.name.now c.args.store.now c.size.new.self c.read_told.new.store c.in-Ok-Some.told
    c.if-told-most.true (rw c.in-Ok-Some.field-0-is at c.in-Ok-Some.ensures)
    c.read_told.result c.read_told.ensures.found

pub returns-else-told-most-clause-found : goal.returns-else-told-most-clause-found
returns-else-told-most-clause-found g c =
    reads_large g.S.Store.gives c.args.most c.args.name.now c.args.store.now c.size.new.self c.in-Ok-Some.told c.if-told-most.false
    (rw c.in-Ok-Some.field-0-is at c.in-Ok-Some.ensures)
