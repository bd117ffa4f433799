use Rattle.std.proofs.Common.{rules, ◌≡◌, length}
use Rattle.std.specs.Prelude.{Ok}
use Rattle.std.proofs.lemmas.List.Elements.{All-from_recursion}
use Rattle.mx_elf.specs.Header.{e_entry}
use Rattle.mx_elf.specs.Image.{image_of, IsSound}
use Rattle.mx_elf.proofs.Sound.{sound-image}
use Rattle.mx_elf.proofs.reading.read_image.Goals as goal

pub returns-clause-sound : goal.returns-clause-sound
unfolding image_of
returns-clause-sound c =
    let bytes = c.args.bytes.now in
    let e : Ok (record { entry = e_entry bytes; segments = c.in_ok-segments.segments }) ≡ image_of bytes = search rules in
    All-from_recursion (IsSound (length bytes)) c.in_ok-segments.segments (sound-image bytes _ e).0

pub returns-clause-most : goal.returns-clause-most
unfolding image_of
returns-clause-most c =
    let bytes = c.args.bytes.now in
    let e : Ok (record { entry = e_entry bytes; segments = c.in_ok-segments.segments }) ≡ image_of bytes = search rules in
    (sound-image bytes _ e).1
