use Rattle.std.proofs.Common.{◌≡◌, ◌+◌, ◌≤◌, sym, subst, length, arith}
use Rattle.mx_words.specs.Newest.{map as map_of}
use Rattle.mx_table.specs.Tables.{IsRow, row_map}
use Rattle.mx_boot.specs.Areas.{homes}
use Rattle.mx_boot.specs.Boot.{grants_of}
use Rattle.mx_boot.specs.Faults.{ram_words}
use Rattle.mx_boot.specs.Placed.{ArePlaced, granted_areas}
use Rattle.mx_boot.specs.Seen.{seen}
use Rattle.mx_boot.proofs.Homes.{length-homes}
use Rattle.mx_boot.proofs.Placing.{ready}
use Rattle.mx_boot.proofs.Rowing.{AreRowsTo, rows-next, rows-end}
use Rattle.mx_boot.proofs.granted.rows.Goals as goal

pub row_of-requires-clause-placed : goal.row_of-requires-clause-placed
row_of-requires-clause-placed c =
    let plan = c.args.plan.now in
    let h = seen c.home_at.result in
    let is = (ready plan c.args.images.now c.plan_is_in_range.ensures c.requires c.modules.i h c.home_at.ensures.home).granted in
    subst (λ n. ArePlaced c.ram_words-words.result (granted_areas n h)) (sym c.harts.ensures.value)
    (subst (λ n. ArePlaced n (granted_areas (length plan.harts) h)) (sym c.ram_words-words.ensures) is)

pub modules-preserved : goal.modules-preserved
modules-preserved c =
    let plan = c.args.plan.now in
    let h = seen c.home_at.result in
    let is = subst (λ n. IsRow n c.in_ok-row.row) c.ram_words-words.ensures c.in_ok-row.ensures.row in
    let same = subst (λ k. row_map (ram_words plan) c.in_ok-row.row ≡ map_of (grants_of k h) (ram_words plan)) c.harts.ensures.value
    (subst (λ n. row_map n c.in_ok-row.row ≡ map_of (grants_of c.harts.result h) n) c.ram_words-words.ensures c.in_ok-row.ensures.map) in
    subst (AreRowsTo plan c.args.images.now (c.modules.i + 1)) (sym c.in_ok-add.ensures)
    (rows-next plan c.args.images.now c.modules.i c.modules.all.items h c.in_ok-row.row c.home_at.ensures.home c.modules.invariant is same)

pub returns-clause-maps : goal.returns-clause-maps
returns-clause-maps c =
    let all = homes c.args.plan.now c.args.images.now in
    let past : length all ≤ c.modules.i = omega (arith, length-homes c.args.plan.now c.args.images.now, c.modules-i-end.ensures.value) in
    rows-end c.args.plan.now c.args.images.now c.modules.i c.modules.all.items past c.modules.invariant
