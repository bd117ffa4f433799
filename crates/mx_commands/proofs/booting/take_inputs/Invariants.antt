use Rattle.std.proofs.Common.{◌≡◌, ◌+◌, ◌-◌, ◌*◌, ◌≤◌, [], drop, length}
use Rattle.mx_boot.specs.Faults.{ram_words}
use Rattle.mx_commands.specs.Boots.{after_inputs, total}
use Rattle.mx_commands.specs.Booting.{AfterFiles}
use Rattle.mx_commands.specs.Ends.{Comes}
use Rattle.mx_commands.proofs.FitLaws.{AreFitting}
use Rattle.mx_commands.proofs.booting.take_inputs.Given as goal

abbrev pub invariant-modules : goal.invariant-modules
invariant-modules g l = record {
  report : g.R.Sink.state l.report ≡ g.R.Sink.state l.initial.report;
  left : l.left ≡ 4 * ram_words l.plan - total l.inputs.items;
  few : l.left ≤ 67108864;
  count : length l.inputs.items ≡ l.i;
  fit : AreFitting l.plan l.i l.inputs.items;
  comes : (rest : AfterFiles) → Comes (after_inputs l.side (4 * ram_words l.plan) 1 l.plan.modules [] rest) g.S.Store.gives l.initial.store
      l.store
      (after_inputs l.side (4 * ram_words l.plan) (l.i + 1) (drop l.i l.plan.modules) l.inputs.items rest);
}
