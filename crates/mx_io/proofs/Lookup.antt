-- Look-ups among values under names.
use Rattle.std.proofs.Common.{◌≡◌, ℕ, Bool, true, false, cond, List, [], ◌∷◌, refl, ap, sym, ◌∙◌, Some, option_map, bytes_eq, map}
use Rattle.std.proofs.Common.{string_bytes, Vec, Ordering}
use Rattle.std.specs.Ordering.{nat_cmp, eq_by_cmp}
use Rattle.std.specs.Cmp.Lexicographic.{slice_cmp, nat_list_eq_equiv, nat_list_cmp_total}
use Rattle.std.specs.FinMap.{get, get-from_entries}
use Rattle.std.specs.FinMap.Entries.{find}
use Rattle.std.proofs.lemmas.Map.Text.{is_eq-slice_cmp}
use Rattle.mx_io.specs.declared.named.Named.{Named}
use Rattle.mx_io.specs.Named.{named}
use Rattle.mx_io.specs.Files.{files_of}
use Rattle.mx_io.specs.declared.loose.LooseFile.{LooseFile}
use Rattle.mx_io.specs.Loose.{loose_of}

-- what a look-up finds from an entry on: that entry's value where the names agree, else what it finds after it
pub find-named : {V : Type 0} (name : List ℕ) (rest after : List (Named V)) (e : Named V) (same : Bool) → rest ≡ e ∷ after
    → same ≡ bytes_eq (string_bytes e.name) name
    → find (slice_cmp nat_cmp) name (named rest) ≡ cond same (Some e.value) (find (slice_cmp nat_cmp) name (named after))
find-named name rest after e same h test =
    ap (λ r. find (slice_cmp nat_cmp) name (named r)) h
    ∙ ap (λ b. cond b (Some e.value) (find (slice_cmp nat_cmp) name (named after))) (is_eq-slice_cmp name (string_bytes e.name)
    ∙ nat_list_eq_equiv.symm name (string_bytes e.name) ∙ sym test)

-- a look-up among values that are each seen through a function
pub find-map : {K V W : Type 0} (R : K → K → Ordering) (g : V → W) (q : K) (es : List (K × V))
    → find R q (map (λ e. (e.0, g e.1)) es) ≡ option_map g (find R q es)
find-map R g q [] = refl
find-map R g q (e ∷ es) = elim (eq_by_cmp R q e.0) as (λ b. cond b (Some (g e.1)) (find R q (map (λ e. (e.0, g e.1)) es))
    ≡ option_map g (cond b (Some e.1) (find R q es))) [ true ↦ refl | false ↦ find-map R g q es ]

-- the file under a name is what a look-up among the entries finds
pub get-files_of : {Z : Type 0} (entries : List (Named (Vec ℕ Z))) (name : List ℕ)
    → get (files_of entries) name ≡ option_map (λ v. v.items) (find (slice_cmp nat_cmp) name (named entries))
get-files_of entries name = get-from_entries nat_list_cmp_total (map (λ e. (e.0, e.1.items)) (named entries)) name
    ∙ find-map (slice_cmp nat_cmp) (λ v. v.items) name (named entries)

-- the file with a size under a name is what a look-up among the entries finds
pub get-loose_of : (entries : List (Named LooseFile)) (name : List ℕ)
    → get (loose_of entries) name ≡ option_map (λ f. (f.size, f.bytes.items)) (find (slice_cmp nat_cmp) name (named entries))
get-loose_of entries name = get-from_entries nat_list_cmp_total (map (λ e. (e.0, (e.1.size, e.1.bytes.items))) (named entries)) name
    ∙ find-map (slice_cmp nat_cmp) (λ f. (f.size, f.bytes.items)) name (named entries)
