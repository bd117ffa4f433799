-- What the code's fields mean.
use Rattle.std.specs.Prelude.{◌<◌}
use Rattle.mx_source.specs.declared.fields.Value.{Value as CodeValue}
use Rattle.mx_source.specs.declared.fields.Value.TheVariants as code
use Rattle.mx_source.specs.declared.fields.Fields.{Fields as CodeFields}
use Rattle.mx_source.specs.Fields.{Value, Given, Label, Fields}

abbrev pub value_view : CodeValue → Value
value_view (code.Number n) = Given n
value_view (code.Label name) = Label name.now

abbrev pub fields_view : CodeFields → Fields
fields_view f = record { rd = f.rd; rs1 = f.rs1; rs2 = f.rs2; value = value_view f.value }

-- the registers are below 32
pub record AreRegisters (f : Fields) : Type 0 where
  pub rd : f.rd < 32
  pub rs1 : f.rs1 < 32
  pub rs2 : f.rs2 < 32
