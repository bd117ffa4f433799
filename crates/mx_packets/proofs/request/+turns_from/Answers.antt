use Rattle.std.proofs.Common.{◌≡◌, ℕ, ◌+◌, ◌*◌, ◌^◌, ◌<◌, true, nat_lt, List, ◌∷◌, Option, Some, None, if◌then◌else◌, ap, sym, subst, ◌∙◌}
use Rattle.std.proofs.Common.{arith}
use Rattle.mx_packets.specs.Requests.{decimal_digit, turns_from}
use Rattle.mx_packets.proofs.request.+turns_from.Goals as goal

is_below : (n : ℕ) → n < 10 ^ 18 → nat_lt n (10 ^ 18) ≡ true
is_below n few = grind arith

abbrev by_digit : ℕ → List ℕ → Option ℕ → Option ℕ
by_digit n more None = None
by_digit n more (Some d) = if nat_lt n (10 ^ 18) then turns_from (10 * n + d) more else None

one_digit : (n a b d : ℕ) (more : List ℕ) → decimal_digit a b ≡ Some d → n < 10 ^ 18
    → turns_from (10 * n + d) more ≡ turns_from n (a ∷ b ∷ more)
one_digit n a b d more is few =
    subst (λ (o : Option ℕ). turns_from (10 * n + d) more ≡ by_digit n more o) (sym is)
    (sym (ap (λ t. if t then turns_from (10 * n + d) more else None) (is_below n few)))

pub returns-then-number-lt1000000000000000000 : goal.returns-then-number-lt1000000000000000000
returns-then-number-lt1000000000000000000 t c =
    let n = c.args.number in
    let a = c.in-Some.first.now in
    let b = c.in_ok-second-in-Some.second.now in
    let more = c.in_ok-second-in-Some.rest.now in
    let digit = sym c.decimal_digit.ensures.value ∙ c.in_ok-digit-in-Some.was in
    c.turns_from.ensures ∙ ap (λ d. turns_from (10 * n + d) more) c.from.ensures
    ∙ one_digit n a b c.in_ok-digit-in-Some.digit more digit c.if-number-lt1000000000000000000.true
    ∙ sym (ap (turns_from n) (c.in-Some.ensures.cases.0 ∙ ap (λ (xs : List ℕ). a ∷ xs) c.in_ok-second-in-Some.ensures.cases.0))
