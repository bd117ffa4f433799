use Rattle.std.proofs.Common.{◌≡◌, ap, sym, ◌∙◌, Option, option_map, option_copied, Some, None, Bor, refl}
use Rattle.std.specs.FinMap.{get}
use Rattle.mx_io.specs.declared.loose.LooseFile.{LooseFile}
use Rattle.mx_io.proofs.Lookup.{get-loose_of}
use Rattle.mx_io.proofs.loose.Loose.file.Goals as goal

-- a function of what is lent is one of the copy
of_copied : {W : Type 0} (g : LooseFile → W) (o : Option (Bor LooseFile)) → option_map (λ f. g f.now) o ≡ option_map g (option_copied o)
of_copied g None = refl
of_copied g (Some f) = refl

pub returns : goal.returns
returns c =
    of_copied (λ f. (f.size, f.bytes.items)) c.find.result
    ∙ ap (option_map (λ f. (f.size, f.bytes.items))) c.find.ensures
    ∙ sym (get-loose_of c.self.inside.entries.items c.args.name.now)
    ∙ ap (λ f. get f c.args.name.now) c.self.view_is
