-- A section of a manifest as its data.
use Rattle.toml.specs.Data.{Data, table}
use Rattle.toml.specs.View.{view, table_view}
use Rattle.mx_manifest.specs.declared.section.Section.{Section}
use Rattle.mx_manifest.specs.declared.section.Section.TheVariants.{Top, Inner}

-- the data of the top table, or of the value that stands for another one
abbrev pub section_view : Section → Data
section_view (Top members) = table (table_view members.now)
section_view (Inner value) = view value.now
