-- The eight bytes of a number.
use Rattle.std.proofs.Common.{◌≡◌, ℕ}
use Rattle.std.proofs.Math.Nat.{div-div-eq-div-mul}
use Rattle.std.specs.Int.{to_le_bytes, w64}
use Rattle.mx_image.specs.Image.{little_endian}

pub eight_bytes : (n : ℕ) → to_le_bytes w64 n ≡ little_endian 8 n
eight_bytes n = simp div-div-eq-div-mul
