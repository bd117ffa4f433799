-- The layout of an image as the code holds it.
use Rattle.std.specs.Prelude.{◌+◌, List, length}
use Rattle.mx_image.specs.declared.segment.Segment.{Segment}
use Rattle.mx_image.specs.declared.parts.Layout.{Layout}
use Rattle.mx_image.specs.Program.{Label}
use Rattle.mx_image.specs.Image.{strings, contents_at, symbols_at, strings_at, sections_at}

-- the places and numbers of an image of these segments and labels
abbrev pub layout_of : List Segment → List Label → Layout
layout_of segments labels = record {
  segments = length segments;
  contents_at = contents_at (length segments);
  symbols = length labels + 1;
  symbols_at = symbols_at segments;
  strings_size = length (strings labels);
  strings_at = strings_at segments labels;
  sections_at = sections_at segments labels;
  size = sections_at segments labels + 120;
}
