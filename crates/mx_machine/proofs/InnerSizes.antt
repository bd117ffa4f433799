-- How large the checker in a machine's parts is: no larger than these, as for the machine in SizeLaws.
use prog.Memory.{up}
use Rattle.std.proofs.Common.{ℕ, ◌+◌, ◌<◌, ◌^◌, arith}

in-first : (a e s : ℕ) → up a (e + s) < 2 ^ 63 → e < 2 ^ 63
in-first a e s l = omega (arith, l)

in-last : (a e s : ℕ) → up a (e + s) < 2 ^ 63 → s < 2 ^ 63
in-last a e s l = omega (arith, l)

pub bus-inside : (a a1 a2 a3 a4 a5 b n1 n2 n3 n4 n5 s : ℕ) →
    up a (up a1 (up a2 (up a3 (up a4 (up a5 (up b 0 + s) + n1) + n2) + n3) + n4) + n5) < 2 ^ 63 → s < 2 ^ 63
bus-inside a a1 a2 a3 a4 a5 b n1 n2 n3 n4 n5 s l = search (arith, in-first, in-last)

pub supervisor-inside : (a a1 a2 a3 a4 a5 b n1 n2 n3 n4 n5 c c1 c2 d m1 m2 s : ℕ) →
    up a (up a1 (up a2 (up a3 (up a4 (up a5 (up b 0 + up c (up c1 (up c2 (up d 0 + s) + m1) + m2)) + n1) + n2) + n3) + n4) + n5) < 2 ^ 63
    → s < 2 ^ 63
supervisor-inside a a1 a2 a3 a4 a5 b n1 n2 n3 n4 n5 c c1 c2 d m1 m2 s l = search (arith, in-first, bus-inside, in-last)

pub checker-inside : (a a1 a2 a3 a4 a5 b n1 n2 n3 n4 n5 c c1 c2 d m1 m2 e e1 e2 e3 e4 f k1 k2 k3 k4 s : ℕ) →
    up a (up a1 (up a2 (up a3 (up a4 (up a5 (up b 0 + up c (up c1 (up c2
    (up d 0 + up e (up e1 (up e2 (up e3 (up e4 (up f 0 + s) + k1) + k2) + k3) + k4))
    + m1) + m2)) + n1) + n2) + n3) + n4) + n5) < 2 ^ 63 → s < 2 ^ 63
checker-inside a a1 a2 a3 a4 a5 b n1 n2 n3 n4 n5 c c1 c2 d m1 m2 e e1 e2 e3 e4 f k1 k2 k3 k4 s l =
    search (arith, in-first, supervisor-inside, in-last)
