use Rattle.std.proofs.Common.{◌≡◌, ◌+◌, [], drop}
use Rattle.mx_commands.specs.Boots.{after_images}
use Rattle.mx_commands.specs.Booting.{AfterFiles}
use Rattle.mx_commands.specs.Ends.{Comes}
use Rattle.mx_commands.proofs.booting.take_images.Given as goal

abbrev pub invariant-modules : goal.invariant-modules
invariant-modules g l = record {
  report : g.R.Sink.state l.report ≡ g.R.Sink.state l.initial.report;
  comes : (rest : AfterFiles) → Comes (after_images l.side 1 l.plan.modules [] rest) g.S.Store.gives l.initial.store l.store
      (after_images l.side (l.i + 1) (drop l.i l.plan.modules) l.images.items rest);
}
