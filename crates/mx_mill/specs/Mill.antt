-- The report of `mill`, and what a call of it comes to.
-- The rules: docs/COMMANDS.md, "The mill".
use Rattle.std.specs.Prelude.{◌≡◌, ℕ, List, [], Result, Ok, Err}
use Rattle.mx_io.specs.Sink.{SinkState, Puts}
use Rattle.mx_model.specs.Run.{ByQuantum, run}
use Rattle.mx_model.specs.State.{flat}
use Rattle.mx_boot.specs.Boot.{boot_state}
use Rattle.mx_turns.specs.Counting.{tally_of}
use Rattle.mx_mill.specs.declared.command.MillFault.{MillFault}
use Rattle.mx_mill.specs.declared.command.MillFault.TheVariants.{Report, NoMemory}
use Rattle.mx_mill.specs.Lines.{mill_lines}
use Rattle.mx_mill.specs.Plan.{mill_plan, no_images}

-- the lines of `mill k` after at most so many turns, which the harts make one by one
unfoldable pub lines_after : ℕ → ℕ → List ℕ
lines_after steps k =
    let s = run (ByQuantum 1) steps (boot_state (mill_plan k) no_images []) in
    mill_lines k steps (tally_of s) (flat s)

-- the report of `mill k`
abbrev pub mill_text : ℕ → List ℕ
mill_text k = lines_after 200000 k

-- a text was put on a sink whole, and the sink's count of faults stayed; or it failed, and a front of the text was put; or memory
-- was wanting, and nothing was put
abbrev pub Tells : List ℕ → SinkState → SinkState → Result (Unit {0}) MillFault → Type 0
Tells text before now (Ok done) = Puts {E = MillFault} before now text (Ok done)
Tells text before now (Err Report) = Puts {A = Unit {0}} before now text (Err Report)
Tells text before now (Err NoMemory) = now ≡ before
