use Rattle.std.proofs.Common.{refl, inl}
use Rattle.mx_model.specs.Run.{ByBytes, ByQuantum}
use Rattle.mx_commands.specs.Asked.{order_of}
use Rattle.mx_commands.specs.Commands.{run_of}
use Rattle.mx_commands.specs.Next.{End}
use Rattle.mx_commands.proofs.Continued.{continues_end, continues_wanting}
use Rattle.mx_commands.proofs.running.run_from.Goals as goal

pub returns-in_default : goal.returns-in_default
returns-in_default g c = λ s new is. continues_wanting g.S.Store.gives _ c.args.store.now refl
    (record { console = refl; report = refl; dump = refl })

pub returns-in-Ok-Some : goal.returns-in-Ok-Some
returns-in-Ok-Some g c =
    let takes = rw c.in-Ok-Some.field-0-is at c.in-Ok-Some.ensures in
    λ s new is.
    let made = run_of (order_of c.args.order.now) c.args.kept.now s in
    takes.1 c.args.kept.now.quantum made _ _ _ _
    (continues_end g.S.Store.gives (λ more. End (made (ByBytes c.in-Ok-Some.bytes.items))) (made (ByBytes c.in-Ok-Some.bytes.items)) refl
    c.take_schedule.new.store
    (inl (rw (c.as_slice.ensures.value, takes.0) at (c.run_by.ensures s new is))))

pub returns-in-Ok-None : goal.returns-in-Ok-None
returns-in-Ok-None g c =
    let takes = rw c.in-Ok-None.field-0-is at c.in-Ok-None.ensures in
    λ s new is.
    let made = run_of (order_of c.args.order.now) c.args.kept.now s in
    takes.1 c.args.kept.now.quantum made _ _ _ _
    (continues_end g.S.Store.gives (λ more. End (made (ByQuantum c.args.kept.now.quantum))) (made (ByQuantum c.args.kept.now.quantum)) refl
    c.take_schedule.new.store
    (inl (rw (c.quantum.ensures.value, takes.0) at (c.run_by-in-Ok-None.ensures s new is))))

pub returns : goal.returns
returns g c =
    λ s new is. c.in-Err.ensures c.args.kept.now.quantum (run_of (order_of c.args.order.now) c.args.kept.now s)
    (g.C.Sink.state c.args.console.now) (g.D.Sink.state c.args.dump.now)
