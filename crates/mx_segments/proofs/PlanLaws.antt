-- A plan that the code counts is the map's.
use Rattle.std.proofs.Common.{◌≡◌, ℕ, ◌+◌, ◌-◌, ◌<◌, ◌≤◌, min, Bool, true, false, not, ◌==◌, ◌&&◌, ◌||◌, nat_lt, List, length, sym, ◌∙◌, ap}
use Rattle.std.proofs.Common.{arith}
use denote.Enum.Bare.{sameb}
use Rattle.std.proofs.lemmas.Bool.Decides.{nat_tests}
use Rattle.mx_words.specs.declared.perm.Perm.{Perm}
use Rattle.mx_words.specs.Rights.{same, perm_at}
use Rattle.mx_words.specs.contracts.perm.Perm.{the_type}
use Rattle.mx_words.specs.Counting.{count_below}
use Rattle.mx_words.specs.Newest.{laid}
use Rattle.mx_words.specs.Changes.{grant_of}
use Rattle.mx_words.specs.Starts.{is_start}
use Rattle.mx_words.proofs.CountingLaws.{count_below-le}
use Rattle.mx_words.proofs.RunLaws.{runs-count}
use Rattle.mx_segments.specs.declared.plan.Plan.{Plan}
use Rattle.mx_segments.specs.Plan.{IsPlan, total}
use Rattle.mx_segments.proofs.ChangeLaws.{before-le, behind-le, total_is, length-new}

-- whether permissions differ, told by a test of the two
pub differ : (p q : Perm) → not (sameb the_type p q) ≡ not (same p q)
differ p q = grind arith

pub and_true : (a b : ℕ) (x y : Bool) → a < b → x ≡ y → x ≡ (nat_lt a b && y)
and_true a b x y lt e = let t : nat_lt a b ≡ true = grind (arith, nat_tests) in e ∙ sym (ap (λ s. s && y) t)

pub and_false : (a b : ℕ) (y : Bool) → b ≤ a → nat_lt a b ≡ (nat_lt a b && y)
and_false a b y le = let t : nat_lt a b ≡ false = grind (arith, nat_tests) in t ∙ sym (ap (λ s. s && y) t)

module _ (words : ℕ) (m : List Perm) (len : length m ≡ words) (first count : ℕ) (perm : Perm) (some : 0 < count)
    (inside : first + count ≤ words) (plan : Plan) where
  pub plan_is : plan.before ≡ count_below (min first words) (is_start m) →
      plan.behind ≡ count_below (min (first + count + 1) words) (is_start m) →
      plan.all ≡ count_below (min words words) (is_start m) →
      plan.starts ≡ ((first == 0) || not (same (perm_at m (first - 1)) perm)) →
      plan.next ≡ perm_at m (first + count) →
      plan.ends ≡ (nat_lt (first + count) words && not (same perm plan.next)) →
      IsPlan m first count perm plan
  plan_is before behind all starts next ends =
      let at : min first words ≡ first = omega arith in
      let whole : min words words ≡ words = omega arith in
      record {
        before = before ∙ ap (λ x. count_below x (is_start m)) at;
        behind = behind ∙ ap (λ w. count_below (min (first + count + 1) w) (is_start m)) (sym len);
        all = all ∙ ap (λ x. count_below x (is_start m)) whole ∙ ap (λ x. count_below x (is_start m)) (sym len) ∙ sym (runs-count m);
        starts = starts;
        next = next;
        ends = ends ∙ ap (λ w. nat_lt (first + count) w && not (same perm plan.next)) (sym len);
      }

  pub all-le : IsPlan m first count perm plan → plan.all ≤ words
  all-le is = omega (arith, is.all, runs-count m, count_below-le (length m) (is_start m))

  pub order : IsPlan m first count perm plan → (plan.before ≤ plan.behind) × (plan.behind ≤ plan.all) × (plan.all ≤ words)
      × (total plan ≤ words)
  order is = (
    before-le words m len first count perm some inside plan is,
    behind-le words m len first count perm some inside plan is,
    all-le
        is,
    omega (
      arith,
      total_is words m len first count perm some inside plan is,
      runs-count
          (laid (grant_of first count perm) m),
      count_below-le (length (laid (grant_of first count perm) m))
          (is_start (laid (grant_of first count perm) m)),
      length-new words m len first count perm some inside,
    ),
  )
