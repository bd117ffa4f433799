-- Words given one area after another.
use Rattle.std.proofs.Common.{◌≡◌, ℕ, ◌+◌, ◌<◌, ◌≤◌, List, [], ◌∷◌, ◌++◌, length, get_or, map, take, refl, ap, ◌∙◌, sym, arith}
use Rattle.std.specs.List.{flat_map}
use Rattle.std.proofs.lemmas.List.{length-map, map-append, take_more}
use Rattle.mx_words.specs.Newest.{laid, owners}
use Rattle.mx_words.specs.Runs.{owner_runs}
use Rattle.mx_words.proofs.OverlayLaws.{owners-append}
use Rattle.mx_manifest.specs.Plan.{Said}
use Rattle.mx_manifest.proofs.Short.{length-taken}
use Rattle.mx_boot.specs.declared.area.Area.{Area}
use Rattle.mx_boot.specs.Areas.{Home, homes}
use Rattle.mx_boot.specs.Boot.{give, gives_of}
use Rattle.mx_boot.specs.Placed.{owned_areas}
use Rattle.mx_boot.proofs.FewRuns.{runs-at-most}
use Rattle.mx_boot.proofs.Housed.{few_gives_all}

-- the owners after one more
pub give-next : (words i : ℕ) (areas : List Area) (d : Area) → i < length areas
    → laid (give (get_or areas i d)) (owners (map give (take i areas)) words) ≡ owners (map give (take (i + 1) areas)) words
give-next words i areas d lt =
    sym (owners-append (map give (take i areas)) (give (get_or areas i d)) words)
    ∙ ap (λ gs. owners gs words) (sym (map-append give (take i areas) (get_or areas i d ∷ []))
    ∙ ap (map give) (sym (take_more areas i d lt)))

-- there is room for their runs
pub give-fits : (words i : ℕ) (areas : List Area) (d : Area) → i < length areas → length areas ≤ 2047
    → 4096 < owner_runs (laid (give (get_or areas i d)) (owners (map give (take i areas)) words)) → ⊥
give-fits words i areas d lt few full =
    let runs = runs-at-most (map give (take (i + 1) areas)) words in
    let long : length (map give (take (i + 1) areas)) ≡ length (take (i + 1) areas) = length-map (take (i + 1) areas) give in
    let upto = length-taken (i + 1) areas in
    let same = ap owner_runs (give-next words i areas d lt) in
    let q : ⊥ = omega (arith, runs, long, upto, few, full, same) in q

-- the gives of all modules are those of their areas
pub map-flat : {A B C : Type 0} (f : B → C) (g : A → List B) (xs : List A) → map f (flat_map g xs) ≡ flat_map (λ x. map f (g x)) xs
map-flat f g [] = refl
map-flat f g (x ∷ xs) = map-append f (g x) (flat_map g xs) ∙ ap (λ ys. map f (g x) ++ ys) (map-flat f g xs)

pub gives-are : (harts : ℕ) (all : List Home) → map give (flat_map (owned_areas harts) all) ≡ flat_map (gives_of harts) all
gives-are harts all = map-flat give (owned_areas harts) all

pub few-owned : (plan : Said) (images : List (List ℕ)) → length plan.modules ≤ 63
    → length (flat_map (owned_areas (length plan.harts)) (homes plan images)) ≤ 2047
few-owned plan images few =
    let all = flat_map (owned_areas (length plan.harts)) (homes plan images) in
    let gives = few_gives_all plan images in
    let same : length (flat_map (gives_of (length plan.harts)) (homes plan images)) ≡ length all =
    ap length (sym (gives-are (length plan.harts) (homes plan images))) ∙ length-map all give in
    omega (arith, gives, same, few)
