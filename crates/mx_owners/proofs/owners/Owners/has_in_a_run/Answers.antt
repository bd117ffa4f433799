use Rattle.std.proofs.Common.{◌≡◌, ◌+◌, ◌<◌, ◌≤◌, ℕ, length, get_or, sym, ap, ◌∙◌, arith, ⊎_elim}
use Rattle.std.proofs.lemmas.Bool.{cases_lt, le-leb, leb-true, eqb-true}
use Rattle.std.proofs.lemmas.List.{get_or_read}
use Rattle.mx_owners.specs.declared.runs.Run.{Run}
use Rattle.mx_owners.specs.OwnerRuns.{run_at, no_run, place_of, owners_in}
use Rattle.mx_owners.proofs.FillLaws.{rising}
use Rattle.mx_owners.proofs.PlaceLaws.{IsRound, is_round, length-owners_in}
use Rattle.mx_owners.proofs.owners.Owners.has_in_a_run.Goals.{After-run_place, After-index-run}
use Rattle.mx_owners.proofs.owners.Owners.has_in_a_run.Goals as goal

pub run_place-requires-clause-rising : goal.run_place-requires-clause-rising
run_place-requires-clause-rising c = rw c.deref.ensures.value (λ i j le lt.
    rising 0 _ 0 c.self.inside.runs.items i j c.self.invariant.are.fill le lt)

in_ram : (c : After-run_place) → c.args.first + c.args.count ≤ c.self.inside.words
in_ram c =
    let within : c.args.first + c.args.count ≤ length (owners_in c.self.inside.words c.self.inside.runs.items) =
    rw c.self.view_is c.requires.in_ram in
    omega (arith, length-owners_in c.self.inside.words c.self.inside.runs.items)

round : (c : After-run_place) → IsRound c.self.inside.words c.self.inside.runs.items c.args.first c.run_place.result
round c =
    let within : c.args.first + c.args.count ≤ c.self.inside.words = in_ram c in
    let place : c.run_place.result ≡ place_of c.self.inside.runs.items c.args.first =
    rw c.deref.ensures.value at c.run_place.ensures.place in
    rw place (is_round c.self.inside.words c.self.inside.runs.items c.args.first c.self.invariant.are.fill (omega (arith, c.requires.some)))

run_is : (c : After-index-run) → (d : After-run_place) → IsRound c.self.inside.words c.self.inside.runs.items c.args.first
    c.run_place.result →
    c.index-run.result.now ≡ run_at c.self.inside.runs.items c.run_place.result
run_is c d r = get_or_read c.self.inside.runs.items c.run_place.result c.index-run.result.now r.within c.index-run.ensures no_run

pub index-run-requires : goal.index-run-requires
index-run-requires c = omega (arith, (round (goal.at.index-run-requires c).After-run_place).within)

pub overflow_add-result : goal.overflow_add-result
overflow_add-result c = omega (arith, in_ram (goal.at.overflow_add-result c).After-run_place, c.self.invariant.are.in_ram)

pub returns-then-run-domain : goal.returns-then-run-domain
returns-then-run-domain c =
    let d : After-run_place = (goal.at.returns-then-run-domain c).After-run_place in
    let r : IsRound d.self.inside.words d.self.inside.runs.items d.args.first d.run_place.result = round d in
    let run : c.index-run.result.now ≡ run_at d.self.inside.runs.items d.run_place.result =
    run_is (goal.at.returns-then-run-domain c).After-index-run d r in
    let its : (run_at d.self.inside.runs.items d.run_place.result).owner ≡ d.args.domain = ap (λ (x : Run). x.owner) (sym run)
    ∙ c.if-run-domain.true in
    let end : ℕ = (run_at d.self.inside.runs.items d.run_place.result).end in
    rw (← c.self.view_is, run) (
      (λ t w le lt. r.same w le (let all : d.args.first + d.args.count ≤ end = leb-true (d.args.first + d.args.count) end t in omega arith)
          ∙ its),
      (λ all. ⊎_elim
          (λ (short : end < d.args.first + d.args.count).
          let there : get_or (owners_in d.self.inside.words d.self.inside.runs.items) end 0 ≡ d.args.domain =
          all end (omega (arith, r.behind)) short in
          absurd (r.ends (omega (arith, in_ram d)) (there ∙ sym its)))
          (λ (long : d.args.first + d.args.count ≤ end). le-leb (d.args.first + d.args.count) end long)
          (cases_lt end (d.args.first + d.args.count))),
    )

pub returns-else-run-domain : goal.returns-else-run-domain
returns-else-run-domain c =
    let d : After-run_place = (goal.at.returns-else-run-domain c).After-run_place in
    let r : IsRound d.self.inside.words d.self.inside.runs.items d.args.first d.run_place.result = round d in
    let run : c.index-run.result.now ≡ run_at d.self.inside.runs.items d.run_place.result =
    run_is (goal.at.returns-else-run-domain c).After-index-run d r in (
      (λ t. absurd (c.if-run-domain.false (eqb-true c.index-run.result.now.owner d.args.domain t))),
      (λ all. absurd (c.if-run-domain.false (
          let some : d.args.first < d.args.first + d.args.count = omega (arith, c.requires.some) in
          let given : (w : ℕ) → d.args.first ≤ w → w < d.args.first + d.args.count
          → get_or (owners_in d.self.inside.words d.self.inside.runs.items) w 0 ≡ d.args.domain = rw c.self.view_is all in
          ap (λ (x : Run). x.owner) run ∙ sym r.owner ∙ given d.args.first (omega arith) some))),
    )
