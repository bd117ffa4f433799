use Rattle.std.proofs.Common.{sym, ap, ◌∙◌}
use Rattle.mx_any.specs.Machines.{meaning}
use Rattle.mx_turns.proofs.tracing.skip_turns.Goals as goal

pub returns-in-Segments8-clause-runs : goal.returns-in-Segments8-clause-runs
returns-in-Segments8-clause-runs g c = λ s b. c.make_turns.ensures.runs s
    (record { state = sym (ap meaning c.in-Segments8.is) ∙ b.state; console = b.console; notes = b.notes; shown = b.shown; told = b.told })

pub returns-in-Segments32-clause-runs : goal.returns-in-Segments32-clause-runs
returns-in-Segments32-clause-runs g c = λ s b. c.make_turns-in-Segments32.ensures.runs s
    (record { state = sym (ap meaning c.in-Segments32.is) ∙ b.state; console = b.console; notes = b.notes; shown = b.shown; told = b.told })

pub returns-in-Segments64-clause-runs : goal.returns-in-Segments64-clause-runs
returns-in-Segments64-clause-runs g c = λ s b. c.make_turns-in-Segments64.ensures.runs s
    (record { state = sym (ap meaning c.in-Segments64.is) ∙ b.state; console = b.console; notes = b.notes; shown = b.shown; told = b.told })

pub returns-in-Multilevel8-clause-runs : goal.returns-in-Multilevel8-clause-runs
returns-in-Multilevel8-clause-runs g c = λ s b. c.make_turns-in-Multilevel8.ensures.runs s
    (record {
      state = sym (ap meaning c.in-Multilevel8.is) ∙ b.state;
      console = b.console;
      notes = b.notes;
      shown = b.shown;
      told =
          b.told;
    })

pub returns-in-Multilevel32-clause-runs : goal.returns-in-Multilevel32-clause-runs
returns-in-Multilevel32-clause-runs g c = λ s b. c.make_turns-in-Multilevel32.ensures.runs s
    (record {
      state = sym (ap meaning c.in-Multilevel32.is) ∙ b.state;
      console = b.console;
      notes = b.notes;
      shown = b.shown;
      told =
          b.told;
    })

pub returns-in-Multilevel64-clause-runs : goal.returns-in-Multilevel64-clause-runs
returns-in-Multilevel64-clause-runs g c = λ s b. c.make_turns-in-Multilevel64.ensures.runs s
    (record {
      state = sym (ap meaning c.in-Multilevel64.is) ∙ b.state;
      console = b.console;
      notes = b.notes;
      shown = b.shown;
      told =
          b.told;
    })

pub returns-in-Packed8-clause-runs : goal.returns-in-Packed8-clause-runs
returns-in-Packed8-clause-runs g c = λ s b. c.make_turns-in-Packed8.ensures.runs s
    (record { state = sym (ap meaning c.in-Packed8.is) ∙ b.state; console = b.console; notes = b.notes; shown = b.shown; told = b.told })

pub returns-in-Packed32-clause-runs : goal.returns-in-Packed32-clause-runs
returns-in-Packed32-clause-runs g c = λ s b. c.make_turns-in-Packed32.ensures.runs s
    (record { state = sym (ap meaning c.in-Packed32.is) ∙ b.state; console = b.console; notes = b.notes; shown = b.shown; told = b.told })

pub returns-in-Packed64-clause-runs : goal.returns-in-Packed64-clause-runs
returns-in-Packed64-clause-runs g c = λ s b. c.make_turns-in-Packed64.ensures.runs s
    (record { state = sym (ap meaning c.in-Packed64.is) ∙ b.state; console = b.console; notes = b.notes; shown = b.shown; told = b.told })

pub returns-in-Segments8-clause-turns : goal.returns-in-Segments8-clause-turns
returns-in-Segments8-clause-turns g c = rw c.in-Segments8.is c.make_turns.ensures.turns

pub returns-in-Segments32-clause-turns : goal.returns-in-Segments32-clause-turns
returns-in-Segments32-clause-turns g c = rw c.in-Segments32.is c.make_turns-in-Segments32.ensures.turns

pub returns-in-Segments64-clause-turns : goal.returns-in-Segments64-clause-turns
returns-in-Segments64-clause-turns g c = rw c.in-Segments64.is c.make_turns-in-Segments64.ensures.turns

pub returns-in-Multilevel8-clause-turns : goal.returns-in-Multilevel8-clause-turns
returns-in-Multilevel8-clause-turns g c = rw c.in-Multilevel8.is c.make_turns-in-Multilevel8.ensures.turns

pub returns-in-Multilevel32-clause-turns : goal.returns-in-Multilevel32-clause-turns
returns-in-Multilevel32-clause-turns g c = rw c.in-Multilevel32.is c.make_turns-in-Multilevel32.ensures.turns

pub returns-in-Multilevel64-clause-turns : goal.returns-in-Multilevel64-clause-turns
returns-in-Multilevel64-clause-turns g c = rw c.in-Multilevel64.is c.make_turns-in-Multilevel64.ensures.turns

pub returns-in-Packed8-clause-turns : goal.returns-in-Packed8-clause-turns
returns-in-Packed8-clause-turns g c = rw c.in-Packed8.is c.make_turns-in-Packed8.ensures.turns

pub returns-in-Packed32-clause-turns : goal.returns-in-Packed32-clause-turns
returns-in-Packed32-clause-turns g c = rw c.in-Packed32.is c.make_turns-in-Packed32.ensures.turns

pub returns-in-Packed64-clause-turns : goal.returns-in-Packed64-clause-turns
returns-in-Packed64-clause-turns g c = rw c.in-Packed64.is c.make_turns-in-Packed64.ensures.turns
