-- Laws of counts of faults and of calls that are to fail.
use Rattle.std.proofs.Common.{◌≡◌, ℕ, ◌+◌, ◌^◌, ◌<◌, ◌≤◌, true, false, List, [], ◌∷◌, refl, arith, IsTrue, Option, Ok, Err, nat_eq, nat_le}
use Rattle.std.proofs.Common.{nat_lt}
use Rattle.std.proofs.lemmas.Bool.{leb-true, le-leb, ne_eqb, and_parts, and_from, and_right, or_from, both_ways}
use Rattle.std.specs.List.{list_any, list_all}
use Rattle.mx_io.specs.Count.{Rose, raised, count_end}
use Rattle.mx_io.specs.Calls.{CallLog, fails_next, after_call, is_quiet}
use Rattle.mx_io.specs.Store.{FileMap, Asks}

-- one more fault raises a count
pub Rose-raised : (n : ℕ) → Rose n (raised n)
Rose-raised n = grind arith

-- numbers up to `made` are not that of the next call
none_listed : (made : ℕ) (listed : List ℕ) → list_all (λ n. nat_le n made) listed ≡ true
    → list_any (λ n. nat_eq n (made + 1)) listed ≡ false
none_listed made [] h = refl
none_listed made (n ∷ ns) h =
    let p = and_parts (nat_le n made) _ h in
    or_from (nat_eq n (made + 1)) _ (ne_eqb n (made + 1) (λ e. omega (arith, e, leb-true n made p.0))) (none_listed made ns p.1)

-- where no call that is to come is listed, the next one does not fail
pub fails_next-quiet : (log : CallLog) → IsTrue (is_quiet log) → fails_next log ≡ false
fails_next-quiet log h = and_right (nat_lt log.made count_end) _ (none_listed log.made log.listed h)

still_quiet : (made later : ℕ) (listed : List ℕ) → made ≤ later → list_all (λ n. nat_le n made) listed ≡ true
    → list_all (λ n. nat_le n later) listed ≡ true
still_quiet made later [] le h = refl
still_quiet made later (n ∷ ns) le h =
    let p = and_parts (nat_le n made) _ h in
    and_from (nat_le n later) _ (le-leb n later (omega (arith, leb-true n made p.0))) (still_quiet made later ns le p.1)

-- and none does after it
pub is_quiet-after_call : (log : CallLog) → log.made < 2 ^ 64 → IsTrue (is_quiet log) → IsTrue (is_quiet (after_call log))
is_quiet-after_call log fits h = still_quiet log.made (raised log.made) log.listed (omega arith) h

module _ {A E : Type 0} (told : Option FileMap) (faults : ℕ) (log : CallLog) (fits : faults < 2 ^ 64) where
  -- a listed call of a store fails, and raises its count
  pub asks_listed : {e : E} → fails_next log ≡ true
      → Asks {A = A} (record { told = told; faults = faults; sure = is_quiet log })
      (record { told = told; faults = raised faults; sure = is_quiet (after_call log) }) (Err e)
  asks_listed fails =
      record {
        files = refl;
        later = omega arith;
        counted = omega arith;
        kept = tt;
        failed = Rose-raised faults;
        sure = λ quiet. absurd (both_ways (fails_next log) (fails_next-quiet log quiet) fails);
      }

  -- another call succeeds, and its count stays
  pub asks_other : {a : A} → log.made < 2 ^ 64
      → Asks {E = E} (record { told = told; faults = faults; sure = is_quiet log })
      (record { told = told; faults = faults; sure = is_quiet (after_call log) }) (Ok a)
  asks_other made =
      record {
        files = refl;
        later = omega arith;
        counted = fits;
        kept = refl;
        failed = tt;
        sure = λ quiet. (refl, refl, is_quiet-after_call log made quiet);
      }
