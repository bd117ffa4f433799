use Rattle.std.proofs.Common.{◌≡◌, Option, Some, refl, subst}
use Rattle.mx_mill.specs.Mill.{mill_text}
use Rattle.mx_commands.specs.Asked.{order_of, pair_asked}
use Rattle.mx_commands.specs.Next.{End, reported}
use Rattle.mx_run.specs.Words.{Request, Go, Asm, Audit, Twin, Mill, meaning}
use Rattle.mx_turns.specs.Ends.{sinks}
use Rattle.mx_run.specs.Top.{Reacts}
use Rattle.mx_commands.proofs.Continued.{continues_end}
use Rattle.mx_run.proofs.Reactions.{reacts_some, reacts_none}
use Rattle.mx_run.proofs.top.react.Goals as goal

pub returns-in-Some-Go : goal.returns-in-Some-Go
returns-in-Some-Go g c =
    let asked : Some (Go (order_of c.in-Some-Go.order)) ≡ meaning c.args.words.now =
    rw c.in-Some-Go.field-0-is at c.in-Some-Go.ensures.meaning in
    subst
    (λ (request : Option Request). Reacts request g.S.Store.gives c.args.store.now c.go.new.store
    (sinks (g.C.Sink.state c.args.console.now) (g.R.Sink.state c.args.report.now) (g.D.Sink.state c.args.dump.now))
    (sinks (g.C.Sink.state c.go.new.console) (g.R.Sink.state c.go.new.report) (g.D.Sink.state c.go.new.dump)) c.go.result)
    asked (reacts_some g.S.Store.gives (Go (order_of c.in-Some-Go.order)) _ _ c.go.ensures)

pub returns-in-Some-Asm : goal.returns-in-Some-Asm
returns-in-Some-Asm g c =
    let asked : Some (Asm c.in-Some-Asm.source.now) ≡ meaning c.args.words.now =
    rw c.in-Some-Asm.field-0-is at c.in-Some-Asm.ensures.meaning in
    subst
    (λ (request : Option Request). Reacts request g.S.Store.gives c.args.store.now c.write_image.new.store
    (sinks (g.C.Sink.state c.args.console.now) (g.R.Sink.state c.args.report.now) (g.D.Sink.state c.args.dump.now))
    (sinks (g.C.Sink.state c.write_image.new.console) (g.R.Sink.state c.write_image.new.report) (g.D.Sink.state c.args.dump.now))
    c.write_image.result)
    asked (reacts_some g.S.Store.gives (Asm c.in-Some-Asm.source.now) _ _ (c.write_image.ensures (g.D.Sink.state c.args.dump.now)))

pub returns-in-Some-Audit : goal.returns-in-Some-Audit
returns-in-Some-Audit g c =
    let asked : Some (Audit c.in-Some-Audit.name.now) ≡ meaning c.args.words.now =
    rw c.in-Some-Audit.field-0-is at c.in-Some-Audit.ensures.meaning in
    subst
    (λ (request : Option Request). Reacts request g.S.Store.gives c.args.store.now c.audit_manifest.new.store
    (sinks (g.C.Sink.state c.args.console.now) (g.R.Sink.state c.args.report.now) (g.D.Sink.state c.args.dump.now))
    (sinks (g.C.Sink.state c.args.console.now) (g.R.Sink.state c.audit_manifest.new.report) (g.D.Sink.state c.args.dump.now))
    c.audit_manifest.result)
    asked (reacts_some g.S.Store.gives (Audit c.in-Some-Audit.name.now) _ _
    (c.audit_manifest.ensures (g.C.Sink.state c.args.console.now) (g.D.Sink.state c.args.dump.now)))

pub returns-in-Some-Twin : goal.returns-in-Some-Twin
returns-in-Some-Twin g c =
    let asked : Some (Twin (pair_asked c.in-Some-Twin.pair)) ≡ meaning c.args.words.now =
    rw c.in-Some-Twin.field-0-is at c.in-Some-Twin.ensures.meaning in
    subst
    (λ (request : Option Request). Reacts request g.S.Store.gives c.args.store.now c.compare_manifests.new.store
    (sinks (g.C.Sink.state c.args.console.now) (g.R.Sink.state c.args.report.now) (g.D.Sink.state c.args.dump.now))
    (sinks (g.C.Sink.state c.args.console.now) (g.R.Sink.state c.compare_manifests.new.report) (g.D.Sink.state c.args.dump.now))
    c.compare_manifests.result)
    asked (reacts_some g.S.Store.gives (Twin (pair_asked c.in-Some-Twin.pair)) _ _
    (c.compare_manifests.ensures (g.C.Sink.state c.args.console.now) (g.D.Sink.state c.args.dump.now)))

pub returns-in-Some-Mill : goal.returns-in-Some-Mill
returns-in-Some-Mill g c =
    let asked : Some (Mill c.in-Some-Mill.k) ≡ meaning c.args.words.now = rw c.in-Some-Mill.field-0-is at c.in-Some-Mill.ensures.meaning in
    subst
    (λ (request : Option Request). Reacts request g.S.Store.gives c.args.store.now c.args.store.now
    (sinks (g.C.Sink.state c.args.console.now) (g.R.Sink.state c.args.report.now) (g.D.Sink.state c.args.dump.now))
    (sinks (g.C.Sink.state c.args.console.now) (g.R.Sink.state c.write_mill.new.report) (g.D.Sink.state c.args.dump.now))
    c.write_mill.result)
    asked (reacts_some g.S.Store.gives (Mill c.in-Some-Mill.k) _ _
    (continues_end g.S.Store.gives (λ more. End (reported (mill_text c.in-Some-Mill.k))) (reported (mill_text c.in-Some-Mill.k)) refl
    c.args.store.now
    (c.write_mill.ensures (g.C.Sink.state c.args.console.now) (g.D.Sink.state c.args.dump.now))))

pub returns-in-None : goal.returns-in-None
returns-in-None g c =
    subst
    (λ (request : Option Request). Reacts request g.S.Store.gives c.args.store.now c.args.store.now
    (sinks (g.C.Sink.state c.args.console.now) (g.R.Sink.state c.args.report.now) (g.D.Sink.state c.args.dump.now))
    (sinks (g.C.Sink.state c.args.console.now) (g.R.Sink.state c.refuse.new.report) (g.D.Sink.state c.args.dump.now)) c.refuse.result)
    c.in-None.ensures.meaning (reacts_none g.S.Store.gives _ (c.refuse.ensures (g.C.Sink.state c.args.console.now)
    (g.D.Sink.state c.args.dump.now)))
