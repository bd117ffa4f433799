-- What a machine of any kind of tables and any size of lookaside buffers means.
use Rattle.mx_model.specs.State.{Flat}
use Rattle.mx_any.specs.declared.any.AnyMachine.{AnyMachine}
use Rattle.mx_any.specs.declared.any.AnyMachine.TheVariants.{Segments8, Segments32, Segments64, Multilevel8, Multilevel32, Multilevel64}
use Rattle.mx_any.specs.declared.any.AnyMachine.TheVariants.{Packed8, Packed32, Packed64}

-- the flat state that the machine in it is
abbrev pub meaning : AnyMachine → Flat
meaning (Segments8 m) = m
meaning (Segments32 m) = m
meaning (Segments64 m) = m
meaning (Multilevel8 m) = m
meaning (Multilevel32 m) = m
meaning (Multilevel64 m) = m
meaning (Packed8 m) = m
meaning (Packed32 m) = m
meaning (Packed64 m) = m
