use Rattle.std.proofs.Common.{◌≡◌, ◌<◌, length, sym, arith}
use Rattle.std.proofs.lemmas.List.{get_or_read}
use Rattle.mx_owners.specs.OwnerRuns.{run_at, no_run, place_of, owners_in}
use Rattle.mx_owners.proofs.FillLaws.{rising}
use Rattle.mx_owners.proofs.PlaceLaws.{IsRound, is_round, length-owners_in}
use Rattle.mx_owners.proofs.owners.Owners.owner.Goals.{After-run_place}
use Rattle.mx_owners.proofs.owners.Owners.owner.Goals as goal

pub run_place-requires-clause-rising : goal.run_place-requires-clause-rising
run_place-requires-clause-rising c = rw c.deref.ensures.value (λ i j le lt.
    rising 0 _ 0 c.self.inside.runs.items i j c.self.invariant.are.fill le lt)

round : (c : After-run_place) → IsRound c.self.inside.words c.self.inside.runs.items c.args.word c.run_place.result
round c =
    let len : length (owners_in c.self.inside.words c.self.inside.runs.items) ≡ c.self.inside.words =
    length-owners_in c.self.inside.words c.self.inside.runs.items in
    let word : c.args.word < length (owners_in c.self.inside.words c.self.inside.runs.items) = rw c.self.view_is c.requires in
    let place : c.run_place.result ≡ place_of c.self.inside.runs.items c.args.word =
    rw c.deref.ensures.value at c.run_place.ensures.place in
    rw place (is_round c.self.inside.words c.self.inside.runs.items c.args.word c.self.invariant.are.fill (omega arith))

pub index-requires : goal.index-requires
index-requires c = omega (arith, (round (goal.at.index-requires c).After-run_place).within)

pub returns : goal.returns
returns c =
    let r : IsRound c.self.inside.words c.self.inside.runs.items c.args.word c.run_place.result =
    round (goal.at.returns c).After-run_place in
    let run : c.index.result.now ≡ run_at c.self.inside.runs.items c.run_place.result =
    get_or_read c.self.inside.runs.items c.run_place.result c.index.result.now r.within c.index.ensures no_run in
    rw (← c.self.view_is, run) (sym r.owner)
