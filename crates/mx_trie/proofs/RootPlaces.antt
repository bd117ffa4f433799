-- The places of the regions' entries in a root table: RAM begins at 0x80000000, so they are 512 to 527.
use Rattle.std.proofs.Common.{◌≡◌, ◌≢◌, ℕ, ◌+◌, refl, arith}
use Rattle.mx_trie.specs.Walk.{root_place}

pub root_place-is : (x : ℕ) → root_place x ≡ 512 + x
unfolding root_place
root_place-is x = omega arith

pub root_place-apart : (x y : ℕ) → x ≢ y → root_place x ≢ root_place y
root_place-apart x y ne same = ne (omega (arith, root_place-is x, root_place-is y))

-- the first, the second and the last region
first-place : root_place 0 ≡ 512
unfolding root_place
first-place = refl

second-place : root_place 1 ≡ 513
unfolding root_place
second-place = refl

last-place : root_place 15 ≡ 527
unfolding root_place
last-place = refl
