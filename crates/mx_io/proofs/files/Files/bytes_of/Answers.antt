use Rattle.std.proofs.Common.{ap, sym, ◌∙◌, option_map, option_copied, Some}
use Rattle.std.specs.FinMap.{get}
use Rattle.mx_io.proofs.Lookup.{get-files_of}
use Rattle.mx_io.proofs.files.Files.bytes_of.Goals as goal

pub returns-in-Some : goal.returns-in-Some
returns-in-Some c =
    ap (λ b. Some b) c.as_slice.ensures.value
    ∙ ap (option_map (λ v. v.items)) (ap option_copied (sym c.in-Some.is) ∙ c.find.ensures)
    ∙ sym (get-files_of c.self.inside.entries.items c.args.name.now)
    ∙ ap (λ f. get f.files c.args.name.now) c.self.view_is

pub returns-in-None : goal.returns-in-None
returns-in-None c =
    ap (option_map (λ v. v.items)) (ap option_copied (sym c.in-None.is) ∙ c.find.ensures)
    ∙ sym (get-files_of c.self.inside.entries.items c.args.name.now)
    ∙ ap (λ f. get f.files c.args.name.now) c.self.view_is
