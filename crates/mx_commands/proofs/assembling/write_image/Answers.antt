use Rattle.std.proofs.Common.{refl}
use Rattle.mx_commands.specs.Next.{End}
use Rattle.mx_commands.specs.Commands.{assembled}
use Rattle.mx_commands.proofs.Continued.{continues_end}
use Rattle.mx_commands.proofs.assembling.write_image.Goals as goal

pub returns-in-Ok : goal.returns-in-Ok
returns-in-Ok g c =
    let source = c.args.source.now in
    let takes = rw c.source_file.ensures at c.in-Ok.ensures.takes in
    λ dump. takes.1 (λ bytes more. End (assembled source bytes)) _ _ _ _
    (continues_end g.S.Store.gives (λ more. End (assembled source c.in-Ok.bytes.items)) (assembled source c.in-Ok.bytes.items) refl
    c.take_file.new.store
    (rw (c.as_slice.ensures.value, takes.0) at (c.assemble_bytes.ensures dump)))

pub returns-in-Err : goal.returns-in-Err
returns-in-Err g c =
    let takes = rw c.source_file.ensures at c.in-Err.ensures.takes in
    λ dump. takes (λ bytes more. End (assembled c.args.source.now bytes)) (g.C.Sink.state c.args.console.now) dump
