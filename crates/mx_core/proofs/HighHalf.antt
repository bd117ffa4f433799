-- The high half of a signed product, computed in 64 bits.
use Rattle.std.proofs.Common.{◌≡◌, ℕ, ◌^◌, ◌-◌, ◌<◌, ◌≤◌, ℤ, pos, negsuc, ◌*ℤ◌, unsigned_abs, FitsSigned, w32, w64, to_z, of_z, arith}
use Rattle.std.proofs.Common.{rules, ◌∙◌}
use Rattle.std.proofs.lemmas.Int.{to_z-of_z, fits_signed_mul, fits_signed_from_abs}
use Rattle.std.specs.Int.{int_shr}
use Rattle.mx_model.specs.Effect.{wrapped, high}

unsigned_abs-le : (x : ℤ) → FitsSigned w32 x → unsigned_abs x ≤ 2 ^ 31
unsigned_abs-le (pos n) f = let h : n < 2 ^ 31 = f.sfits in omega arith
unsigned_abs-le (negsuc n) f = let h : n < 2 ^ 31 = f.sfits in omega arith

FitsSigned-wider : (x : ℤ) → FitsSigned w32 x → FitsSigned w64 x
FitsSigned-wider x f = fits_signed_from_abs w64 x (let h = unsigned_abs-le x f in omega arith)

of_z-wrapped : (z : ℤ) → FitsSigned w32 z → of_z w32 z ≡ wrapped z
of_z-wrapped (pos n) f = let h : n < 2 ^ 31 = f.sfits in omega arith
of_z-wrapped (negsuc n) f = let h : n < 2 ^ 31 = f.sfits in omega arith

FitsSigned-int_shr : (z : ℤ) → FitsSigned w64 z → FitsSigned w32 (int_shr z 32)
FitsSigned-int_shr (pos n) f = let h : n < 2 ^ 63 = f.sfits in record { sfits = omega arith }
FitsSigned-int_shr (negsuc n) f = let h : n < 2 ^ 63 = f.sfits in record { sfits = omega arith }

-- the high half of a product in 64 bits fits 32
pub high-fits : (x y : ℤ) →
    FitsSigned w32 (to_z w64 (of_z w64 (int_shr (to_z w64 (of_z w64 (to_z w64 (of_z w64 x)
    *ℤ to_z w64 (of_z w64 y)))) 32)))
high-fits x y =
    let z = to_z w64 (of_z w64 (to_z w64 (of_z w64 x) *ℤ to_z w64 (of_z w64 y))) in
    let half : FitsSigned w32 (int_shr z 32) = FitsSigned-int_shr z (search rules) in
    rw (to_z-of_z w64 _ (FitsSigned-wider _ half)) half

-- what is left of the casts round a product of two numbers in 64 bits, shifted right by 32
high-half : (x y : ℤ) (r : ℕ) → FitsSigned w64 x → FitsSigned w64 y → FitsSigned w64 (x *ℤ y) →
    r ≡ of_z w32 (to_z w32 (of_z w32 (to_z w64 (of_z w64 (int_shr
    (to_z w64 (of_z w64 (to_z w64 (of_z w64 x) *ℤ to_z w64 (of_z w64 y)))) 32))))) → r ≡ high (x *ℤ y)
high-half x y r f g product e =
    let half : FitsSigned w32 (int_shr (x *ℤ y) 32) = FitsSigned-int_shr (x *ℤ y) product in
    let half64 : FitsSigned w64 (int_shr (x *ℤ y) 32) = FitsSigned-wider (int_shr (x *ℤ y) 32) half in
    (simp to_z-of_z at e) ∙ of_z-wrapped (int_shr (x *ℤ y) 32) half

pub high-product : (x y : ℤ) (r : ℕ) → FitsSigned w32 x → FitsSigned w32 y
    → r ≡ of_z w32 (to_z w32 (of_z w32 (to_z w64 (of_z w64 (int_shr (to_z w64 (of_z w64 (to_z w64 (of_z w64 x) *ℤ to_z w64 (of_z w64 y))))
    32))))) → r ≡ high (x *ℤ y)
high-product x y r f g e =
    let product : FitsSigned w64 (x *ℤ y) =
    fits_signed_mul w64 x y (2 ^ 31) (2 ^ 31) (unsigned_abs-le x f) (unsigned_abs-le y g) (omega arith) in
    high-half x y r (FitsSigned-wider x f) (FitsSigned-wider y g) product e

product-mixed : (x : ℤ) (b : ℕ) → FitsSigned w32 x → b < 2 ^ 32 → FitsSigned w64 (x *ℤ pos b)
product-mixed x b f g =
    fits_signed_mul w64 x (pos b) (2 ^ 31) (2 ^ 32 - 1) (unsigned_abs-le x f) (omega (arith, g)) (omega arith)

pub product-mixed-fits : (x : ℤ) (b : ℕ) → FitsSigned w32 x → b < 2 ^ 32 →
    FitsSigned w64 (to_z w64 (of_z w64 x) *ℤ to_z w64 (of_z w64 (pos b)))
product-mixed-fits x b f g =
    rw (to_z-of_z w64 x (FitsSigned-wider x f), to_z-of_z w64 (pos b) (record { sfits = omega (arith, g) }))
    (product-mixed x b f g)

pub high-product-mixed : (x : ℤ) (b r : ℕ) → FitsSigned w32 x → b < 2 ^ 32 →
    r ≡ of_z w32 (to_z w32 (of_z w32 (to_z w64 (of_z w64 (int_shr
    (to_z w64 (of_z w64 (to_z w64 (of_z w64 x) *ℤ to_z w64 (of_z w64 (pos b))))) 32))))) → r ≡ high (x *ℤ pos b)
high-product-mixed x b r f g e =
    high-half x (pos b) r (FitsSigned-wider x f) (record { sfits = omega (arith, g) }) (product-mixed x b f g) e
