-- The maps of tables have the shape that the trait promises.
use Rattle.std.proofs.Common.{◌≡◌, ℕ, suc, ◌-◌, ◌<◌, ◌≤◌, true, List, [], ◌∷◌, length, get_or, sum_by, refl, sym, ◌∙◌, ap, arith}
use Rattle.std.proofs.lemmas.List.Sums.{sum_by-cons}
use Rattle.mx_words.specs.declared.perm.Perm.{Perm}
use Rattle.mx_words.specs.declared.tables.Kind.TheVariants as K
use Rattle.mx_words.specs.declared.tables.Need.{Need}
use Rattle.mx_words.specs.Need.{segment_frames, within}
use Rattle.mx_words.proofs.CountingLaws.{length-list_below, list_below-at}
use Rattle.mx_table.specs.Tables.{map_of, IsDomain, IsShaped}
use Rattle.mx_table.proofs.WithinLaws.{within-whole}
use Rattle.mx_pool.specs.Frames.{Frames}
use Rattle.mx_segments.specs.Sound.{map_in, IsSound}
use Rattle.mx_segments.specs.Kept.{maps_in, IsKept}

-- sums of two lists that agree place by place
pub sum_by_same : {X Y : Type 0} (f : X → ℕ) (g : Y → ℕ) (xs : List X) (ys : List Y)
    (x : X) (y : Y) → length xs ≡ length ys →
    ((i : ℕ) → i < length xs → f (get_or xs i x) ≡ g (get_or ys i y)) → sum_by f xs ≡ sum_by g ys
sum_by_same f g [] [] x y len same = refl
sum_by_same f g [] (b ∷ ys) x y len same = absurd (omega (arith, len))
sum_by_same f g (a ∷ xs) [] x y len same = absurd (omega (arith, len))
sum_by_same f g (a ∷ xs) (b ∷ ys) x y len same =
    let rest = sum_by_same f g xs ys x y (omega (arith, len))
    (λ i lt. same (suc i) (omega arith)) in
    omega (arith, sum_by-cons f a xs, sum_by-cons g b ys, same 0 (omega arith), rest)

-- the maps by row
pub length-maps_in : (words : ℕ) (fs : Frames) (ls : List (List ℕ)) →
    length (maps_in words fs ls) ≡ length ls
length-maps_in words fs ls = length-list_below (length ls) (map_in words fs ls)

pub maps_in-at : (words : ℕ) (fs : Frames) (ls : List (List ℕ)) (row : ℕ) (m : List Perm) →
    row < length ls → get_or (maps_in words fs ls) row m ≡ map_in words fs ls row
maps_in-at words fs ls row m lt = list_below-at (length ls) row (map_in words fs ls) m lt

-- a domain's map
pub map_of-maps_in : (words : ℕ) (fs : Frames) (ls : List (List ℕ)) (d : ℕ) →
    IsDomain (maps_in words fs ls) d → map_of (maps_in words fs ls) d ≡ map_in words fs ls (d - 1)
map_of-maps_in words fs ls d domain =
    let first = domain.first in
    let last = domain.last in
    maps_in-at words fs ls (d - 1) [] (omega (arith, length-maps_in words fs ls))

pub row_of : (words : ℕ) (fs : Frames) (ls : List (List ℕ)) (d : ℕ) →
    IsDomain (maps_in words fs ls) d → d - 1 < length ls
row_of words fs ls d domain =
    let first = domain.first in
    let last = domain.last in
    omega (arith, length-maps_in words fs ls)

-- the need of the maps
pub need_leaf : (words : ℕ) (fs : Frames) (ls : List (List ℕ)) →
    ((row : ℕ) → row < length ls → IsSound words fs ls row) →
    sum_by segment_frames (maps_in words fs ls) ≡ sum_by length ls
need_leaf words fs ls sound =
    sum_by_same segment_frames length (maps_in words fs ls) ls [] [] (length-maps_in words fs ls)
    (λ i lt. let below : i < length ls = omega (arith, length-maps_in words fs ls) in
    ap segment_frames (maps_in-at words fs ls i [] below) ∙ sym ((sound i below).frames_are))

pub within_is : (leaf : ℕ) (limit : Need) → leaf ≤ limit.leaf →
    within (record { upper = 0; leaf = leaf; spill = 0 }) limit ≡ true
within_is leaf limit le =
    within-whole (record { upper = 0; leaf = leaf; spill = 0 }) limit
    (record { upper = omega arith; leaf = le; spill = omega arith })

-- the tables' maps have the shape that the trait promises
pub shaped_of : (words : ℕ) (fs : Frames) (ls : List (List ℕ)) (memory : ℕ) (limit : Need) →
    IsKept fs ls memory words limit → IsShaped K.Segments words limit (maps_in words fs ls)
shaped_of words fs ls memory limit kept = record {
  some_words = kept.some_words;
  few_words = kept.few_words;
  some_maps = (let e = kept.some_rows in omega (arith, length-maps_in words fs ls));
  few_maps = (let e = kept.few_rows in omega (arith, length-maps_in words fs ls));
  each = λ d domain. ap (λ (m : List Perm). length m) (map_of-maps_in words fs ls d domain)
      ∙ (kept.sound (d - 1) (row_of words fs ls d domain)).length_is;
  limited = kept.limited;
  fit = within_is (sum_by segment_frames (maps_in words fs ls)) limit
      (let e = kept.fit in omega (arith, need_leaf words fs ls kept.sound));
}
