use Rattle.std.proofs.Common.{ap}
use Rattle.mx_any.specs.Machines.{meaning}
use Rattle.mx_any.proofs.Stepped.{stepped}
use Rattle.mx_any.proofs.any.AnyMachine.step.Goals as goal

pub returns-in-Segments8 : goal.returns-in-Segments8
returns-in-Segments8 c = stepped {hart = c.args.hart} (ap meaning c.in-Segments8.is) c.step.ensures

pub returns-in-Segments32 : goal.returns-in-Segments32
returns-in-Segments32 c = stepped {hart = c.args.hart} (ap meaning c.in-Segments32.is) c.step-in-Segments32.ensures

pub returns-in-Segments64 : goal.returns-in-Segments64
returns-in-Segments64 c = stepped {hart = c.args.hart} (ap meaning c.in-Segments64.is) c.step-in-Segments64.ensures

pub returns-in-Multilevel8 : goal.returns-in-Multilevel8
returns-in-Multilevel8 c = stepped {hart = c.args.hart} (ap meaning c.in-Multilevel8.is) c.step-in-Multilevel8.ensures

pub returns-in-Multilevel32 : goal.returns-in-Multilevel32
returns-in-Multilevel32 c = stepped {hart = c.args.hart} (ap meaning c.in-Multilevel32.is) c.step-in-Multilevel32.ensures

pub returns-in-Multilevel64 : goal.returns-in-Multilevel64
returns-in-Multilevel64 c = stepped {hart = c.args.hart} (ap meaning c.in-Multilevel64.is) c.step-in-Multilevel64.ensures

pub returns-in-Packed8 : goal.returns-in-Packed8
returns-in-Packed8 c = stepped {hart = c.args.hart} (ap meaning c.in-Packed8.is) c.step-in-Packed8.ensures

pub returns-in-Packed32 : goal.returns-in-Packed32
returns-in-Packed32 c = stepped {hart = c.args.hart} (ap meaning c.in-Packed32.is) c.step-in-Packed32.ensures

pub returns-in-Packed64 : goal.returns-in-Packed64
returns-in-Packed64 c = stepped {hart = c.args.hart} (ap meaning c.in-Packed64.is) c.step-in-Packed64.ensures
