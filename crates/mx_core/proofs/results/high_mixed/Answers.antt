use Rattle.std.proofs.Common.{◌≡◌, FitsSigned, w32, rules}
use Rattle.std.proofs.lemmas.Int.{to_z-of_z}
use Rattle.mx_model.specs.Effect.{reg_result, signed}
use Rattle.mx_core.proofs.HighHalf.{high-fits, high-product-mixed, product-mixed-fits}
use Rattle.mx_core.proofs.results.high_mixed.Goals as goal

pub overflow_mul-product : goal.overflow_mul-product
overflow_mul-product c =
    let x = signed c.args.a in
    let x_fits : FitsSigned w32 x = search rules in
    let x_is : c.from.result ≡ x =
    (let e = c.from.ensures in let d = c.cast_signed.ensures in simp (d, to_z-of_z) at e) in
    rw (x_is, c.from-2.ensures) (product-mixed-fits x c.args.b x_fits c.ranges.b.fits)

pub overflow_cast-product : goal.overflow_cast-product
overflow_cast-product c = high-fits c.from.result c.from-2.result

pub returns : goal.returns
unfolding reg_result
returns c =
    let x = signed c.args.a in
    let x_fits : FitsSigned w32 x = search rules in
    let x_is : c.from.result ≡ x =
    (let e = c.from.ensures in let d = c.cast_signed.ensures in simp (d, to_z-of_z) at e) in
    high-product-mixed x c.args.b _ x_fits c.ranges.b.fits (rw (x_is, c.from-2.ensures) at c.cast_unsigned.ensures)
