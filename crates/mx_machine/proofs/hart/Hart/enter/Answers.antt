use Rattle.std.proofs.Common.{◌≡◌, false, ◌==◌, [], ◌∷◌, ◌++◌, length, Ok, Err, refl, ◌∙◌, arith}
use Rattle.std.specs.Prelude.{is_err, OnOk}
use Rattle.std.proofs.lemmas.Bool.{ne_eqb}
use Rattle.mx_model.specs.declared.values.Frame.{Frame}
use Rattle.mx_machine.proofs.hart.Hart.enter.Goals as goal

pub returns : goal.returns
returns c =
    let frame : Frame = record { back = c.get.result; caller = c.args.self.now.domain; kept = c.save.result } in
    let few = c.requires in
    let room : (length c.args.self.now.frames == 64) ≡ false = ne_eqb (length c.args.self.now.frames) 64 (λ e. absurd (omega arith)) in
    let pushed : c.push.new.self ≡ c.args.self.now.frames ++ frame ∷ [] =
    elim c.push.result as (λ r. is_err r ≡ false → OnOk r (c.push.new.self ≡ c.args.self.now.frames ++ frame ∷ [])
    → c.push.new.self ≡ c.args.self.now.frames ++ frame ∷ []) [
      | Ok x ↦ λ e p. p
      | Err x ↦ λ e p. absurd (let q : ⊥ = cc in q)
    ] (c.push.ensures.full ∙ room) c.push.ensures.ok in
    rw (c.set.ensures.values, pushed, c.save.ensures, c.get.ensures.value) refl
