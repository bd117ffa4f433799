use Rattle.std.proofs.Common.{sym, ap, ◌∙◌}
use Rattle.mx_any.specs.Machines.{meaning}
use Rattle.mx_turns.proofs.running.run_any.Goals as goal

pub returns-in-Segments8 : goal.returns-in-Segments8
returns-in-Segments8 g c =
    let m = c.run_machine.ensures in
    record { ends = λ s new is. m.ends s new (sym (ap meaning c.in-Segments8.is) ∙ is); plan = m.plan }

pub returns-in-Segments32 : goal.returns-in-Segments32
returns-in-Segments32 g c =
    let m = c.run_machine-in-Segments32.ensures in
    record { ends = λ s new is. m.ends s new (sym (ap meaning c.in-Segments32.is) ∙ is); plan = m.plan }

pub returns-in-Segments64 : goal.returns-in-Segments64
returns-in-Segments64 g c =
    let m = c.run_machine-in-Segments64.ensures in
    record { ends = λ s new is. m.ends s new (sym (ap meaning c.in-Segments64.is) ∙ is); plan = m.plan }

pub returns-in-Multilevel8 : goal.returns-in-Multilevel8
returns-in-Multilevel8 g c =
    let m = c.run_machine-in-Multilevel8.ensures in
    record { ends = λ s new is. m.ends s new (sym (ap meaning c.in-Multilevel8.is) ∙ is); plan = m.plan }

pub returns-in-Multilevel32 : goal.returns-in-Multilevel32
returns-in-Multilevel32 g c =
    let m = c.run_machine-in-Multilevel32.ensures in
    record { ends = λ s new is. m.ends s new (sym (ap meaning c.in-Multilevel32.is) ∙ is); plan = m.plan }

pub returns-in-Multilevel64 : goal.returns-in-Multilevel64
returns-in-Multilevel64 g c =
    let m = c.run_machine-in-Multilevel64.ensures in
    record { ends = λ s new is. m.ends s new (sym (ap meaning c.in-Multilevel64.is) ∙ is); plan = m.plan }

pub returns-in-Packed8 : goal.returns-in-Packed8
returns-in-Packed8 g c =
    let m = c.run_machine-in-Packed8.ensures in
    record { ends = λ s new is. m.ends s new (sym (ap meaning c.in-Packed8.is) ∙ is); plan = m.plan }

pub returns-in-Packed32 : goal.returns-in-Packed32
returns-in-Packed32 g c =
    let m = c.run_machine-in-Packed32.ensures in
    record { ends = λ s new is. m.ends s new (sym (ap meaning c.in-Packed32.is) ∙ is); plan = m.plan }

pub returns-in-Packed64 : goal.returns-in-Packed64
returns-in-Packed64 g c =
    let m = c.run_machine-in-Packed64.ensures in
    record { ends = λ s new is. m.ends s new (sym (ap meaning c.in-Packed64.is) ∙ is); plan = m.plan }
