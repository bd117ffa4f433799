use Rattle.std.proofs.Common.{◌≡◌, ℕ, zero, suc, ◌+◌, ◌∙◌, ap, arith}
use Rattle.mx_model.specs.Reads.{flat_reads}
use Rattle.mx_model.specs.Run.{flat_turn}
use Rattle.mx_model.specs.State.{Flat}
use Rattle.mx_model.proofs.KeepLaws.{keeps-turned}
use Rattle.mx_machine.specs.Turning.{turns_of}
use Rattle.machine_speed.proofs.turns.make_rows.Goals as goal

-- each turn is counted
one-more : (f : Flat) → (flat_turn f 0).core.turns ≡ f.core.turns + 1
one-more f = (keeps-turned (flat_reads f) f.core 0).turns

counted : (f : Flat) (n : ℕ) → (turns_of 0 f n).core.turns ≡ f.core.turns + n
counted f zero = omega arith
counted f (suc n) = let e = counted f n in let one = one-more (turns_of 0 f n) in omega (arith, e, one)

pub rows-preserved : goal.rows-preserved
rows-preserved c =
    let f : Flat = c.rows.machine in
    let is = c.run_on-stretch.ensures.stretch in
    let turns = ap (λ (g : Flat). g.core.turns) is.turn ∙ one-more (turns_of 0 f c.run_on-stretch.result.ran) in
    let before = counted f c.run_on-stretch.result.ran in
    record {
      within = omega (arith, is.few, c.rows.invariant.within, c.lesser-room.ensures.second);
      turns = omega (arith, turns, before, c.rows.invariant.turns);
    }
