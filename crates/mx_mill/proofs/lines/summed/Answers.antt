use Rattle.std.proofs.Common.{◌≡◌, ℕ, zero, suc, ◌+◌, [], ◌∷◌, ◌++◌, sum_by, refl, ap, ◌∙◌, arith}
use Rattle.std.proofs.lemmas.List.Sums.{sum_by_push}
use Rattle.std.specs.List.{range_with_len}
use Rattle.mx_any.specs.Machines.{meaning}
use Rattle.mx_model.specs.State.{cache_at}
use Rattle.mx_mill.proofs.lines.summed.Goals as goal

range_more : (a n m : ℕ) → m ≡ a + n → range_with_len a (n + 1) ≡ range_with_len a n ++ m ∷ []
range_more a zero m is = let e : a ≡ m = omega (arith, is) in ap (λ (k : ℕ). k ∷ []) e
range_more a (suc n) m is =
    let more : suc n + 1 ≡ suc (n + 1) = omega arith in
    ap (range_with_len a) more ∙ ap (λ ks. a ∷ ks) (range_more (a + 1) n m (omega (arith, is)))

-- one more hart
sum_more : (f : ℕ → ℕ) (h : ℕ) → sum_by f (range_with_len 0 (h + 1)) ≡ sum_by f (range_with_len 0 h) + f h
sum_more f h = ap (sum_by f) (range_more 0 h h (omega arith)) ∙ sum_by_push f (range_with_len 0 h) h

pub summing-init : goal.summing-init
summing-init c = record {
  sidecar = refl;
  lookaside = refl;
  walks = refl;
  few_sidecar = omega arith;
  few_lookaside = omega arith;
  few_walks = omega arith;
}

pub summing-preserved : goal.summing-preserved
summing-preserved c =
    let core = (meaning c.args.machine.now).core in
    let i = c.summing.invariant in
    let counts = c.counts-counts.ensures in
    record {
      sidecar = omega (arith, i.sidecar, counts.sidecar, sum_more (λ h. (cache_at core h).sidecar) c.summing.hart);
      lookaside = omega (arith, i.lookaside, counts.lookaside, sum_more (λ h. (cache_at core h).lookaside) c.summing.hart);
      walks = omega (arith, i.walks, counts.walks, sum_more (λ h. (cache_at core h).walks) c.summing.hart);
      few_sidecar = omega (arith, i.few_sidecar);
      few_lookaside = omega (arith, i.few_lookaside);
      few_walks = omega (arith, i.few_walks);
    }
