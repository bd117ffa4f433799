use Rattle.std.proofs.Common.{length, refl, ap, arith}
use Rattle.std.proofs.lemmas.List.{length-map}
use Rattle.std.proofs.lemmas.Result.{on_ok_weaker}
use Rattle.mx_image.specs.Program.{filled}
use Rattle.mx_image.specs.Labels.{label_of, labels_of}
use Rattle.mx_image.specs.Image.{strings}
use Rattle.mx_image.proofs.Sizes.{put_length, program_headers_length, symbol_table_length, padded_length}
use Rattle.mx_image.proofs.Whole.{whole}
use Rattle.mx_image.proofs.parts.put_parts.Goals as goal

pub put_contents-requires : goal.put_contents-requires
put_contents-requires c =
    let none = ap length c.requires.empty in
    let header = put_length c.put_file_header.new.out c.args.out.now _ 52 c.in_ok-put_file_header.ensures refl in
    let headers = put_length c.put_program_headers.new.out c.put_file_header.new.out _ _ c.in_ok-put_program_headers.ensures
    (program_headers_length _ _) in
    omega (arith, none, header, headers)

pub put_symbol_table-requires-clause-room : goal.put_symbol_table-requires-clause-room
put_symbol_table-requires-clause-room c =
    let none = ap length c.requires.empty in
    let header = put_length c.put_file_header.new.out c.args.out.now _ 52 c.in_ok-put_file_header.ensures refl in
    let headers = put_length c.put_program_headers.new.out c.put_file_header.new.out _ _ c.in_ok-put_program_headers.ensures
    (program_headers_length _ _) in
    let filling = put_length c.put_contents.new.out c.put_program_headers.new.out _ _ c.in_ok-put_contents.ensures refl in
    omega (arith, none, header, headers, filling)

pub put_strings-requires-clause-room : goal.put_strings-requires-clause-room
put_strings-requires-clause-room c =
    let none = ap length c.requires.empty in
    let count = length-map c.args.labels.now label_of in
    let size = ap (λ l. l.strings_size) c.requires.layout in
    let header = put_length c.put_file_header.new.out c.args.out.now _ 52 c.in_ok-put_file_header.ensures refl in
    let headers = put_length c.put_program_headers.new.out c.put_file_header.new.out _ _ c.in_ok-put_program_headers.ensures
    (program_headers_length _ _) in
    let filling = put_length c.put_contents.new.out c.put_program_headers.new.out _ _ c.in_ok-put_contents.ensures refl in
    let table = put_length c.put_symbol_table.new.out c.put_contents.new.out _ _ c.in_ok-put_symbol_table.ensures (symbol_table_length _) in
    omega (arith, none, count, size, header, headers, filling, table)

pub put_sections-requires-clause-room : goal.put_sections-requires-clause-room
put_sections-requires-clause-room c =
    let none = ap length c.requires.empty in
    let count = length-map c.args.labels.now label_of in
    let size = ap (λ l. l.strings_size) c.requires.layout in
    let header = put_length c.put_file_header.new.out c.args.out.now _ 52 c.in_ok-put_file_header.ensures refl in
    let headers = put_length c.put_program_headers.new.out c.put_file_header.new.out _ _ c.in_ok-put_program_headers.ensures
    (program_headers_length _ _) in
    let filling = put_length c.put_contents.new.out c.put_program_headers.new.out _ _ c.in_ok-put_contents.ensures refl in
    let table = put_length c.put_symbol_table.new.out c.put_contents.new.out _ _ c.in_ok-put_symbol_table.ensures (symbol_table_length _) in
    let names = put_length c.put_strings.new.out c.put_symbol_table.new.out _ _ c.in_ok-put_strings.ensures
    (padded_length (strings (labels_of c.args.labels.now))) in
    omega (arith, none, count, size, header, headers, filling, table, names)

pub returns : goal.returns
returns c =
    let layout = c.requires.layout in
    on_ok_weaker c.put_sections.result (whole c.args.entry (filled c.args.segments.now) (labels_of c.args.labels.now) _ _ _ _ _ _ _ _ _ _ _
    _ _ _ record {
      count_is = ap (λ l. l.segments) layout;
      start_is = ap (λ l. l.contents_at) layout;
      symbols_is = ap (λ l. l.symbols) layout;
      symbols_place_is = ap (λ l. l.symbols_at) layout;
      size_is = ap (λ l. l.strings_size) layout;
      strings_place_is = ap (λ l. l.strings_at) layout;
      sections_is = ap (λ l. l.sections_at) layout;
      none = c.requires.empty;
      header = c.in_ok-put_file_header.ensures;
      headers = c.in_ok-put_program_headers.ensures;
      bytes = c.in_ok-put_contents.ensures;
      table = c.in_ok-put_symbol_table.ensures;
      names = c.in_ok-put_strings.ensures;
    }) c.put_sections.ensures
