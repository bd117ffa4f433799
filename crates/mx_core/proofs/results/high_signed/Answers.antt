use Rattle.std.proofs.Common.{◌≡◌, FitsSigned, w32, rules}
use Rattle.std.proofs.lemmas.Int.{to_z-of_z}
use Rattle.mx_model.specs.Effect.{reg_result, signed}
use Rattle.mx_core.proofs.HighHalf.{high-fits, high-product}
use Rattle.mx_core.proofs.results.high_signed.Goals as goal

pub returns : goal.returns
unfolding reg_result
returns c =
    let x = signed c.args.a in
    let y = signed c.args.b in
    let x_fits : FitsSigned w32 x = search rules in
    let y_fits : FitsSigned w32 y = search rules in
    let x_is : c.from.result ≡ x = (let e = c.from.ensures in let d = c.cast_signed.ensures in simp (d, to_z-of_z) at e) in
    let y_is : c.from-2.result ≡ y = (let e = c.from-2.ensures in let d = c.cast_signed-2.ensures in simp (d, to_z-of_z) at e) in
    high-product x y _ x_fits y_fits (rw (x_is, y_is) at c.cast_unsigned.ensures)

pub overflow_cast-product : goal.overflow_cast-product
overflow_cast-product c = high-fits c.from.result c.from-2.result
