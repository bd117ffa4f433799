use Rattle.std.proofs.Common.{◌≡◌, ◌∙◌, ◌<◌, ℕ, ap, refl, sym, subst, length, get_or, take, map, arith}
use Rattle.mx_words.specs.declared.perm.Perm.TheVariants as P
use Rattle.mx_words.specs.Newest.{Give, laid, owners}
use Rattle.mx_words.specs.Runs.{owner_runs}
use Rattle.mx_words.proofs.OverlayLaws.{length-owners, none-given}
use Rattle.mx_manifest.specs.declared.fault.Key.TheVariants as key
use Rattle.mx_boot.specs.declared.area.Area.{Area}
use Rattle.mx_boot.specs.Boot.{give}
use Rattle.mx_boot.specs.Placed.{IsPlaced}
use Rattle.mx_boot.proofs.Apart.{end_is, in_ram}
use Rattle.mx_boot.proofs.Giving.{give-fits, give-next}
use Rattle.mx_boot.proofs.owners.give_all.Goals as goal
use Rattle.mx_model.proofs.ListLaws.{all-in}

-- what is read after the last area
abbrev none : Area
none = record { domain = 0; key = key.Version; address = 0; count = 0; perm = P.None }

-- a give with the first word of its area
same : (first : ℕ) (a : Area) (os now : _) → first ≡ (give a).first → os ≡ now
    → laid (let g : Give = record { first = first; count = a.count; value = a.domain } in g) os ≡ laid (give a) now
same first a os now e f = ap (λ n. laid (let g : Give = record { first = n; count = a.count; value = a.domain } in g) os) e
    ∙ ap (laid (give a)) f

pub areas-init : goal.areas-init
areas-init c = c.in_ok-owners.ensures ∙ sym (none-given c.args.words)

pub give-requires-clause-in_ram : goal.give-requires-clause-in_ram
give-requires-clause-in_ram c =
    let a = get_or c.args.areas.now c.areas.area-index none in
    let placed = all-in (IsPlaced c.args.words) c.args.areas.now none c.requires.placed c.areas.area-index c.areas-test.true in
    let fits = end_is c.args.words a (in_ram c.args.words a placed.inside) in
    let long = ap length c.areas.invariant ∙ length-owners (map give (take c.areas.area-index c.args.areas.now)) c.args.words in
    omega (arith, fits, long, c.word_at.ensures)

pub unreachable-requires : goal.unreachable-requires
unreachable-requires c =
    let a = get_or c.args.areas.now c.areas.area-index none in
    give-fits c.args.words c.areas.area-index c.args.areas.now none c.areas-test.true c.requires.few
    (subst (λ os. 4096 < owner_runs os) (same c.word_at.result a c.areas.owners
    (owners (map give (take c.areas.area-index c.args.areas.now)) c.args.words) c.word_at.ensures c.areas.invariant)
    (c.in-Err.ensures.full.0 refl))

pub areas-preserved : goal.areas-preserved
areas-preserved c =
    let a = get_or c.args.areas.now c.areas.area-index none in
    c.in-Ok.ensures.ok ∙ same c.word_at.result a c.areas.owners (owners (map give (take c.areas.area-index c.args.areas.now)) c.args.words)
    c.word_at.ensures c.areas.invariant
    ∙ give-next c.args.words c.areas.area-index c.args.areas.now none c.areas-test.true
