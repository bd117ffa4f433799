use Rattle.std.proofs.Common.{refl, []}
use Rattle.mx_boot.specs.Boot.{boot_state}
use Rattle.mx_mill.specs.Mill.{lines_after}
use Rattle.mx_mill.specs.Plan.{mill_plan, no_images}
use Rattle.mx_mill.proofs.command.run_mill.Goals as goal

pub returns : goal.returns
unfolding lines_after
returns g c =
    let is = c.count_turns-tally.ensures (boot_state (mill_plan c.args.k) no_images []) (record { console = refl; notes = refl }) c.requires
    in
    rw (is.state, is.counts, c.from.ensures) at c.put_lines.ensures
