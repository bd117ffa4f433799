-- The flat state after a turn is the turn of the flat state.
use Rattle.std.proofs.Common.{◌≡◌, ℕ, ◌+◌, ◌-◌, Bool, true, false, nat_lt, nat_le, if◌then◌else◌, List, [], ◌∷◌, ◌++◌, get_or, refl, sym}
use Rattle.std.proofs.Common.{◌∙◌, ap, Option, Some, None, arith}
use Rattle.std.proofs.Common.{map as list_map}
use Rattle.std.proofs.Math.ListN.{get_or-map, get_or-eq_default}
use Rattle.std.proofs.lemmas.List.{append-nil}
use Rattle.std.proofs.lemmas.Bool.{ltb-true, ltb-false}
use mathlib.Core.Path.{fun_ext}
use Rattle.std.specs.Prelude.{option_to_list}
use Rattle.mx_words.specs.declared.perm.Perm.{Perm}
use Rattle.mx_words.specs.declared.perm.Perm.TheVariants as P
use Rattle.mx_words.specs.declared.perm.Span.{Span}
use Rattle.mx_words.specs.Changes.{changed_from, changed_map, granted_from, changed_grants}
use Rattle.mx_words.specs.Newest.{Grant, Give, at, owner, map, owners}
use Rattle.mx_words.specs.Need.{fits}
use Rattle.mx_words.specs.Rights.{perm_at}
use Rattle.mx_words.specs.Runs.{owner_runs, most_owner_runs}
use Rattle.mx_words.proofs.OverlayLaws.{map-at, length-map_of, owners-at, length-owners, map-append, owners-append}
use Rattle.mx_model.specs.Reads.{Reads, Change, reads, flat_reads, grants_of, map_in}
use Rattle.mx_model.specs.Run.{after, flat_after, turn, flat_turn, made_of, flat_made, grants_after, maps_after, owners_after}
use Rattle.mx_model.specs.State.{Core, State, Flat, flat}
use Rattle.mx_model.specs.Turn.{Made, turned}
use Rattle.mx_model.proofs.KeepLaws.{size-turned}

-- the maps of lists of grants
abbrev maps_of : ℕ → List (List Grant) → List (List Perm)
maps_of size grants = list_map (λ gs. map gs size) grants

-- domain d's map in the flat state
map_in-maps_of : (size : ℕ) (grants : List (List Grant)) (d : ℕ) → map_in size (maps_of size grants) d ≡ map (grants_of grants d) size
map_in-maps_of size grants d = get_or-map (λ gs. map gs size) grants (d - 1) []

-- a change appends grants on one side and lays over maps on the other
map-changed : (first count size : ℕ) (o : Option Perm) (gs : List Grant) →
    map (changed_grants first count o gs) size ≡ changed_map first count o (map gs size)
map-changed first count size None gs = refl
map-changed first count size (Some p) gs = map-append gs (record { first = first; count = count; value = p }) size

maps_of-granted : (first count size : ℕ) (given : ℕ → Option Perm) (d : ℕ) (grants : List (List Grant)) →
    maps_of size (granted_from first count given d grants) ≡ changed_from first count given d (maps_of size grants)
maps_of-granted first count size given d [] = refl
maps_of-granted first count size given d (gs ∷ rest) =
    ap (λ m. m ∷ maps_of size (granted_from first count given (d + 1) rest)) (map-changed first count size (given d) gs)
    ∙ ap (λ ms. changed_map first count (given d) (map gs size) ∷ ms) (maps_of-granted first count size given (d + 1) rest)

-- a permission inside RAM and outside
perm-map : (size : ℕ) (gs : List Grant) (i : ℕ) → (if nat_lt i size then at gs i else P.None) ≡ perm_at (map gs size) i
perm-map size gs i = elim (nat_lt i size) as (λ b. nat_lt i size ≡ b → (if b then at gs i else P.None) ≡ perm_at (map gs size) i) [
  | true ↦ λ e. sym (map-at gs size i P.None (ltb-true i size e))
  | false ↦ λ e. sym (get_or-eq_default (map gs size) P.None (rw (length-map_of gs size) (ltb-false i size e)))
] refl

owner-owners : (size : ℕ) (gs : List Give) (i : ℕ) → (if nat_lt i size then owner gs i else 0) ≡ get_or (owners gs size) i 0
owner-owners size gs i = elim (nat_lt i size) as (λ b. nat_lt i size ≡ b → (if b then owner gs i else 0) ≡ get_or (owners gs size) i 0) [
  | true ↦ λ e. sym (owners-at gs size i 0 (ltb-true i size e))
  | false ↦ λ e. sym (get_or-eq_default (owners gs size) 0 (rw (length-owners gs size) (ltb-false i size e)))
] refl

-- both kinds of state answer alike
abbrev answering : (ℕ → ℕ → Perm) → (ℕ → ℕ) → (ℕ → ℕ → Span) → (Change → Bool) → (Give → Bool) → Reads
answering perm owner walk fits few_runs = record { perm = perm; owner = owner; walk = walk; fits = fits; few_runs = few_runs }

pub reads-flat : (s : State) → reads s ≡ flat_reads (flat s)
reads-flat s =
    let size = s.core.size in
    let f = flat s in
    let r = reads s in
    let q = flat_reads (flat s) in
    let perm : r.perm ≡ q.perm = fun_ext (λ d. fun_ext (search (arith, perm-map, map_in-maps_of))) in
    let own : r.owner ≡ q.owner = fun_ext (λ i. owner-owners size s.gives i) in
    let walk : r.walk ≡ q.walk = fun_ext (λ d. fun_ext (search (arith, map_in-maps_of))) in
    let fitting : r.fits ≡ q.fits = fun_ext (λ c.
    ap (λ ms. fits s.core.kind s.core.limit ms) (maps_of-granted c.first c.count size c.given 1 s.grants)) in
    let few : r.few_runs ≡ q.few_runs = fun_ext (λ give.
    ap (λ os. nat_le (owner_runs os) most_owner_runs) (owners-append s.gives give size)) in
    ap (λ p. answering p r.owner r.walk r.fits r.few_runs) perm
    ∙ ap (λ o. answering q.perm o r.walk r.fits r.few_runs) own
    ∙ ap (λ w. answering q.perm q.owner w r.fits r.few_runs) walk
    ∙ ap (λ t. answering q.perm q.owner q.walk t r.few_runs) fitting
    ∙ ap (λ n. answering q.perm q.owner q.walk q.fits n) few

-- a turn makes the same of both
pub made-flat : (s : State) (h : ℕ) → made_of s h ≡ flat_made (flat s) h
made-flat s h = ap (λ r. turned r s.core h) (reads-flat s)

maps-after : (size : ℕ) (grants : List (List Grant)) (o : Option Change) →
    maps_of size (grants_after grants o) ≡ maps_after (maps_of size grants) o
maps-after size grants None = refl
maps-after size grants (Some c) = maps_of-granted c.first c.count size c.given 1 grants

owners-after : (size : ℕ) (gives : List Give) (o : Option Give) →
    owners (gives ++ option_to_list o) size ≡ owners_after (owners gives size) o
owners-after size gives None = ap (λ gs. owners gs size) (append-nil gives)
owners-after size gives (Some g) = owners-append gives g size

abbrev whole : Core → List (List Perm) → List ℕ → Flat
whole core maps os = record { core = core; maps = maps; owners = os }

-- what a turn made, in the flat state
flat-after : (s : State) (m : Made) → m.core.size ≡ s.core.size → flat (after s m) ≡ flat_after (flat s) m
flat-after s m e =
    ap (λ n. whole m.core (maps_of n (grants_after s.grants m.change)) (owners (s.gives ++ option_to_list m.give) n)) e
    ∙ ap (λ ms. whole m.core ms (owners (s.gives ++ option_to_list m.give) s.core.size)) (maps-after s.core.size s.grants m.change)
    ∙ ap (λ os. whole m.core (maps_after (flat s).maps m.change) os) (owners-after s.core.size s.gives m.give)

-- the flat state after a turn is the turn of the flat state
pub flat-turn : (s : State) (h : ℕ) → flat (turn s h) ≡ flat_turn (flat s) h
flat-turn s h = flat-after s (made_of s h) (size-turned (reads s) s.core h) ∙ ap (λ m. flat_after (flat s) m) (made-flat s h)
