-- Which hart makes the next turns, counted along.
use Rattle.std.proofs.Common.{◌≡◌, ℕ, ◌+◌, ◌-◌, ◌*◌, ◌/◌, ◌%◌, ◌<◌, ◌≤◌, List, ◌∷◌, length, drop, min, Bor, Some, ap, sym, ◌∙◌, arith}
use Rattle.std.proofs.lemmas.List.{drop-drop}
use Rattle.std.proofs.lemmas.Nat.{div-add-mod', div-mul-add, mod-mul-add, mod_below}
use Rattle.mx_model.specs.Run.{Schedule, ByQuantum, ByBytes}
use Rattle.mx_model.specs.State.{Core}
use Rattle.mx_turns.specs.declared.pace.Pace.TheVariants as pace
use Rattle.mx_turns.specs.Running.{IsRound, IsPace, IsRow, PacesOn}

-- a number further on in a row of q, and the first of the next row
step_in : (t q n : ℕ) → t % q + n < q → ((t + n) / q ≡ t / q) × ((t + n) % q ≡ t % q + n)
step_in t q n h =
    let e : t + n ≡ t / q * q + (t % q + n) = omega (arith, div-add-mod' t q) in
    (ap (λ n. n / q) e ∙ div-mul-add (t / q) q (t % q + n) h, ap (λ n. n % q) e ∙ mod-mul-add (t / q) q (t % q + n) h)

step_over : (t q n : ℕ) → 1 ≤ q → t % q + n ≡ q → ((t + n) / q ≡ t / q + 1) × ((t + n) % q ≡ 0)
step_over t q n some h =
    let e : t + n ≡ (t / q + 1) * q + 0 = omega (arith, div-add-mod' t q, h) in
    (ap (λ n. n / q) e ∙ div-mul-add (t / q + 1) q 0 some, ap (λ n. n % q) e ∙ mod-mul-add (t / q + 1) q 0 some)

module _ (q : ℕ) (c e : Core) (w l h r n : ℕ) (i : IsRound q c w l h r) (t : e.turns ≡ c.turns + n) (hs : length e.harts ≡ length c.harts)
  where
    -- the hart goes on
    round_in : n < r → IsRound q e w l h (r - n)
    round_in more =
        let s = step_in c.turns q n (omega (arith, i.left, more)) in
        record {
          some = i.some;
          same = i.same;
          harts = i.harts ∙ sym hs;
          turn = rw (t, hs, s.0) i.turn;
          left = rw (t, s.1) (omega (arith, i.left, more));
        }

    -- the next hart begins
    round_next : r ≡ n → h < l → IsRound q e w l (h + 1) w
    round_next end below =
        let s = step_over c.turns q n i.some (omega (arith, i.left, end)) in
        let m = step_in (c.turns / q) (length c.harts) 1 (omega (arith, i.turn, i.harts, below)) in
        record {
          some = i.some;
          same = i.same;
          harts = i.harts ∙ sym hs;
          turn = rw (t, hs, s.0, m.1) (ap (λ n. n + 1) i.turn);
          left = rw (t, s.1) (omega (arith, i.same));
        }

    -- the first hart begins again
    round_again : r ≡ n → l ≤ h → IsRound q e w l 0 w
    round_again end above =
        let s = step_over c.turns q n i.some (omega (arith, i.left, end)) in
        let few = mod_below (c.turns / q) (length c.harts) (omega (arith, i.harts)) in
        let m = step_over (c.turns / q) (length c.harts) 1 (omega (arith, i.harts)) (omega (arith, i.turn, i.harts, above, few)) in
        record {
          some = i.some;
          same = i.same;
          harts = i.harts ∙ sym hs;
          turn = rw (t, hs, s.0) (sym m.1);
          left = rw (t, s.1) (omega (arith, i.same));
        }

pub paces_in : (s : Schedule) (c : Core) (w l h r n : ℕ) → n < r → IsPace s c (pace.Quantum w l h r)
    → PacesOn s c n (pace.Quantum w l h (r - n))
paces_in (ByQuantum q) c w l h r n more i e t hs = round_in q c e w l h r n i t hs more
paces_in (ByBytes names) c w l h r n more i e t hs = absurd i

pub paces_next : (s : Schedule) (c : Core) (w l h r n : ℕ) → r ≡ n → h < l → IsPace s c (pace.Quantum w l h r)
    → PacesOn s c n (pace.Quantum w l (h + 1) w)
paces_next (ByQuantum q) c w l h r n end below i e t hs = round_next q c e w l h r n i t hs end below
paces_next (ByBytes names) c w l h r n end below i e t hs = absurd i

pub paces_again : (s : Schedule) (c : Core) (w l h r n : ℕ) → r ≡ n → l ≤ h → IsPace s c (pace.Quantum w l h r)
    → PacesOn s c n (pace.Quantum w l 0 w)
paces_again (ByQuantum q) c w l h r n end above i e t hs = round_again q c e w l h r n i t hs end above
paces_again (ByBytes names) c w l h r n end above i e t hs = absurd i

pub paces_rest : (s : Schedule) (c : Core) (bytes rest : Bor (List ℕ)) (x n : ℕ) → n ≡ 1 → bytes.now ≡ x ∷ rest.now
    → IsPace s c (pace.Bytes bytes) → PacesOn s c n (pace.Bytes rest)
paces_rest (ByQuantum q) c bytes rest x n one is i e t hs = absurd i
paces_rest (ByBytes names) c bytes rest x n one is i e t hs = rw (t, one) (ap (drop 1) (sym is ∙ i) ∙ drop-drop 1 c.turns names)

-- whose the next turns are
pub row_quantum : (s : Schedule) (c : Core) (most w l h r n : ℕ) → 1 ≤ most → n ≡ min most r → IsPace s c (pace.Quantum w l h r)
    → IsRow s c most h n
row_quantum (ByQuantum q) c most w l h r n some is i =
    record {
      some = omega (arith, some, is, mod_below c.turns q i.some, i.left);
      few = omega (arith, is);
      each = λ j below e t hs.
          let s = step_in c.turns q j (omega (arith, i.left, below, is)) in
          rw (t, hs, s.0) (ap Some (sym i.turn));
    }
row_quantum (ByBytes names) c most w l h r n some is i = absurd i
