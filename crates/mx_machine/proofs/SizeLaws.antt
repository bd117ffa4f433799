-- How large a type is: no less than its one field.
use prog.Memory.{up}
use Rattle.std.proofs.Common.{ℕ, ◌+◌, ◌<◌, ◌^◌, arith}

pub fits-inside : (a b s : ℕ) → up a (up b 0 + s) < 2 ^ 63 → s < 2 ^ 63
fits-inside a b s l = omega (arith, l)

in-up : (a e : ℕ) → up a e < 2 ^ 63 → e < 2 ^ 63
in-up a e l = omega (arith, l)

in-first : (e s : ℕ) → e + s < 2 ^ 63 → e < 2 ^ 63
in-first e s l = omega (arith, l)

in-last : (e s : ℕ) → e + s < 2 ^ 63 → s < 2 ^ 63
in-last e s l = omega (arith, l)

-- a field's alignment and the size of what stands before it; fields in the order in which they lie in memory: in a machine what it holds,
-- in this the
-- bus, in this the supervisor, in this the checker
pub fits-supervisor : (z y a a1 a2 a3 a4 a5 b n1 n2 n3 n4 n5 c c1 c2 d m1 m2 s : ℕ) →
    up z (up y 0 + up a (up a1 (up a2 (up a3 (up a4 (up a5 (up b 0 + up c (up c1 (up c2 (up d 0 + s) + m1) + m2)) + n1) + n2) + n3) + n4)
    + n5)) < 2 ^ 63 → s < 2 ^ 63
fits-supervisor z y a a1 a2 a3 a4 a5 b n1 n2 n3 n4 n5 c c1 c2 d m1 m2 s l = search (arith, in-last, in-up, in-first)

pub fits-checker : (z y a a1 a2 a3 a4 a5 b n1 n2 n3 n4 n5 c c1 c2 d m1 m2 e e1 e2 e3 e4 f k1 k2 k3 k4 s : ℕ) →
    up z (up y 0 + up a (up a1 (up a2 (up a3 (up a4 (up a5 (up b 0 + up c (up c1 (up c2
    (up d 0 + up e (up e1 (up e2 (up e3 (up e4 (up f 0 + s) + k1) + k2) + k3) + k4))
    + m1) + m2)) + n1) + n2) + n3) + n4) + n5)) < 2 ^ 63 → s < 2 ^ 63
fits-checker z y a a1 a2 a3 a4 a5 b n1 n2 n3 n4 n5 c c1 c2 d m1 m2 e e1 e2 e3 e4 f k1 k2 k3 k4 s l =
    search (arith, in-up, fits-supervisor, in-first, in-last)
