use Rattle.std.proofs.Common.{List, ℕ, [], ◌∷◌, ap, ◌∙◌}
use Rattle.std.specs.List.{concat}
use Rattle.mx_io.specs.Piece.{piece_text}
use Rattle.mx_io.proofs.Puts.{puts_same}
use Rattle.mx_commands.specs.Refusal.{refused_line, fault_text, place_text, detail_text}
use Rattle.mx_commands.proofs.Lines.{refused_parts}
use Rattle.mx_commands.proofs.refusal.put_refused_at.Goals as goal

pub returns : goal.returns
unfolding refused_line detail_text
returns g c =
    let fault = c.args.fault.now in
    let place = place_text fault.place.part fault.place.index in
    puts_same
    (refused_parts fault.number (piece_text c.args.table) (piece_text c.args.index) place c.name.result.now fault.detail c.requires
    ∙ ap (λ (name : List ℕ). concat (fault_text fault.number ∷ place ∷ detail_text name fault.detail ∷ [])) c.name.ensures)
    c.put_line.ensures
