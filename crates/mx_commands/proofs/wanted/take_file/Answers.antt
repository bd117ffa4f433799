use Rattle.std.proofs.Common.{refl}
use Rattle.mx_commands.specs.Asked.{wanted_of}
use Rattle.mx_commands.proofs.Continued.{comes_file, continues_refused}
use Rattle.mx_commands.proofs.wanted.take_file.Goals as goal

pub returns-in-Ok-clause-takes : goal.returns-in-Ok-clause-takes
returns-in-Ok-clause-takes g c = (
  refl,
  λ rest. comes_file g.S.Store.gives (wanted_of c.args.file.now) rest c.args.store.now c.read_file.new.store c.in-Ok.bytes.items
      c.in-Ok.ensures.found,
)

pub returns-in-Err-clause-takes : goal.returns-in-Err-clause-takes
returns-in-Err-clause-takes g c =
    λ rest console dump. continues_refused g.S.Store.gives (wanted_of c.args.file.now) rest c.args.store.now c.read_file.new.store
    c.in-Err.fault c.in-Err.ensures.found
    (c.refuse_file.ensures console dump)
