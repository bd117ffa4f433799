-- The rows of modules, one after the other.
use Rattle.std.proofs.Common.{◌≡◌, ℕ, ◌+◌, ◌≤◌, List, [], ◌∷◌, ◌++◌, length, map, take, slice_get, Some, refl, ap, ◌∙◌}
use Rattle.std.specs.List.{AllByRecursion}
use Rattle.std.proofs.lemmas.List.{map-append, take_all}
use Rattle.mx_words.specs.declared.perm.Perm.{Perm}
use Rattle.mx_words.specs.declared.perm.Span.{Span}
use Rattle.mx_words.specs.Newest.{map as map_of}
use Rattle.mx_table.specs.Tables.{IsRow, row_map}
use Rattle.mx_manifest.specs.Plan.{Said}
use Rattle.mx_boot.specs.Areas.{Home, homes}
use Rattle.mx_boot.specs.Boot.{grants_of}
use Rattle.mx_boot.specs.Faults.{ram_words}
use Rattle.mx_boot.specs.Joined.{boot_maps}
use Rattle.mx_boot.proofs.Rows.{grown_by_one}
use Rattle.mx_model.proofs.JoinLaws.{all-join}

-- a module's map
abbrev pub home_map : Said → Home → List Perm
home_map plan h = map_of (grants_of (length plan.harts) h) (ram_words plan)

-- the rows of the modules before a place
pub record AreRowsTo (plan : Said) (images : List (List ℕ)) (i : ℕ) (rows : List (List Span)) : Type 0 where
  pub each : AllByRecursion (IsRow (ram_words plan)) rows
  pub maps : map (row_map (ram_words plan)) rows ≡ map (home_map plan) (take i (homes plan images))

pub rows-next : (plan : Said) (images : List (List ℕ)) (i : ℕ) (rows : List (List Span)) (h : Home) (row : List Span)
    → slice_get (homes plan images) i ≡ Some h
    → AreRowsTo plan images i rows → IsRow (ram_words plan) row → row_map (ram_words plan) row ≡ home_map plan h
    → AreRowsTo plan images (i + 1) (rows ++ row ∷ [])
rows-next plan images i rows h row at so_far is same = record {
  each = all-join (IsRow (ram_words plan)) rows (row ∷ []) so_far.each (is, tt);
  maps = grown_by_one (home_map plan) (homes plan images) i h [] (map (row_map (ram_words plan)) rows)
      (map (row_map (ram_words plan)) (rows ++ row ∷ [])) (row_map (ram_words plan) row)
      at so_far.maps same (map-append (row_map (ram_words plan)) rows (row ∷ []));
}

maps_are : (plan : Said) (hs : List Home) → map (home_map plan) hs
    ≡ map (λ grants. map_of grants (ram_words plan)) (map (grants_of (length plan.harts)) hs)
maps_are plan [] = refl
maps_are plan (h ∷ hs) = ap (λ ms. home_map plan h ∷ ms) (maps_are plan hs)

pub rows-end : (plan : Said) (images : List (List ℕ)) (i : ℕ) (rows : List (List Span)) → length (homes plan images) ≤ i
    → AreRowsTo plan images i rows
    → map (row_map (ram_words plan)) rows ≡ boot_maps plan images
rows-end plan images i rows past so_far = so_far.maps ∙ ap (map (home_map plan)) (take_all i (homes plan images) past)
    ∙ maps_are plan (homes plan images)
