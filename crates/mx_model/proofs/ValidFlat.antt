-- A turn keeps a valid flat state valid.
use Rattle.std.proofs.Common.{◌≡◌, ℕ, zero, suc, ◌+◌, ◌-◌, ◌*◌, ◌≤◌, Bool, true, false, not, cond, List, [], ◌∷◌, length, get_or, refl, sym}
use Rattle.std.proofs.Common.{◌∙◌, ap, subst, Option, Some, None, arith}
use Rattle.std.specs.Prelude.{IfSome, slice_index}
use Rattle.std.specs.List.{AllByRecursion, list_all}
use Rattle.std.proofs.lemmas.Bool.{ltb-false, leb-true, not-false}
use Rattle.mx_words.specs.declared.perm.Perm.{Perm}
use Rattle.mx_words.specs.declared.perm.Access.TheVariants as A
use Rattle.mx_words.specs.Bytes.{number_at, put_at}
use Rattle.mx_words.specs.Changes.{each_from, changed_map}
use Rattle.mx_words.specs.FirstRow.{first_row}
use Rattle.mx_words.specs.Newest.{Give, Laid, laid, laid_from, map}
use Rattle.mx_words.specs.Ranges.{covers}
use Rattle.mx_words.specs.Rights.{allows}
use Rattle.mx_words.specs.Runs.{owner_runs, most_owner_runs}
use Rattle.mx_words.proofs.OverlayLaws.{length-laid, length-map_of}
use Rattle.mx_words.proofs.MapLaws.{length-changed_map}
use Rattle.mx_model.specs.declared.values.Call.{Call}
use Rattle.mx_model.specs.Checks.{arg, looked_all}
use Rattle.mx_model.specs.Reads.{Reads, Change, flat_reads, map_in}
use Rattle.mx_model.specs.Run.{flat_turn, flat_made, maps_after, owners_after}
use Rattle.mx_model.specs.Serve.{Served, Service, Transfer, judged, answers, serve, served_by, ended, write_from, exchange_from, alloc_from}
use Rattle.mx_model.specs.Serve.{write_looks, write_words, may_read, bytes_at, look_of, arg_word}
use Rattle.mx_model.specs.State.{Core, Flat, Hart}
use Rattle.mx_model.specs.Turn.{Action, Decided, acted, asked, enacted, turned}
use Rattle.mx_model.specs.Valid.{IsFlat}
use Rattle.mx_model.proofs.KeepLaws.{keeps-looked_all, keeps-heard_first, keeps-turned}
use Rattle.mx_model.proofs.ListLaws.{all-at}
use Rattle.mx_model.proofs.ServeLaws.{tests-four}
use Rattle.mx_model.proofs.TurnLaws.{valid-turned}
use Rattle.mx_model.proofs.ValidCaches.{caches-turned}

-- a give to a domain of so many modules, or to the supervisor, that leaves few runs
abbrev pub IsGive : Reads → ℕ → Give → Type 0
IsGive r modules give = (give.value ≤ modules) × (r.few_runs give ≡ true)

-- what a served call gives, if it gives anything
record Gives (P : Give → Type 0) (s : Served) : Type 0 where
  each : IfSome s.give P

-- only a transfer gives
give-judged : (P : Give → Type 0) (c : Core) (o : Option ℕ) (s : Served) → (o ≡ None → Gives P s) → Gives P (judged c o s)
give-judged P c None s p = p refl
give-judged P c (Some n) s p = record { each = tt }

give-write_from : (P : Give → Type 0) (r : Reads) (c : Core) (call : Call) (o : Option ℕ) → Gives P (write_from r c call o)
give-write_from P r c call (Some n) = record { each = tt }
give-write_from P r c call None =
    let looked = looked_all r call.hart (write_looks r call) c in
    give-judged P looked (first_row ((not (list_all (may_read r call.domain) (write_words call)), 12) ∷ []))
    (record (answers looked (arg call 1)) { console = bytes_at c (arg call 0) (arg call 1) }) (λ e. record { each = tt })

give-exchange_from : (P : Give → Type 0) (r : Reads) (c : Core) (call : Call) (o : Option ℕ) → Gives P (exchange_from r c call o)
give-exchange_from P r c call (Some n) = record { each = tt }
give-exchange_from P r c call None =
    let looked = looked_all r call.hart (look_of call.domain (arg_word call) ∷ []) c in
    give-judged P looked (first_row ((not (allows (r.perm call.domain (arg_word call)) A.Write), 12) ∷ []))
    (record (answers (record looked { ram = put_at c.ram (4 * arg_word call) 4 (arg call 1) }) 0) {
      a1 =
          Some (number_at c.ram (4 * arg_word call) 4);
    })
    (λ e. record { each = tt })

give-alloc_from : (P : Give → Type 0) (c : Core) (call : Call) (first : ℕ) (o : Option ℕ) → Gives P (alloc_from c call first o)
give-alloc_from P c call first (Some n) = record { each = tt }
give-alloc_from P c call first None = record { each = tt }

give-transfer : (r : Reads) (c : Core) (call : Call) → Gives (IsGive r (length c.modules)) (served_by Transfer r c call)
give-transfer r c call = search (arith, r.few_runs, give-judged, IsGive, tests-four, ltb-false, not-false)

give-served_by : (k : Service) (r : Reads) (c : Core) (call : Call) → Gives (IsGive r (length c.modules)) (served_by k r c call)
give-served_by x r c call =
    grind (arith, give-judged, IsGive, give-write_from, give-transfer, give-alloc_from, give-exchange_from)

give-ended : (P : Give → Type 0) (c : Core) (call : Call) (s : Served) → Gives P s → IfSome (ended c call s).give P
give-ended P c call s p = search (arith, call.hart)

give-serve : (r : Reads) (c : Core) (call : Call) → IfSome (serve r c call).give (IsGive r (length c.modules))
give-serve r c call = search (arith, give-ended, give-served_by)

give-asked : (r : Reads) (c : Core) (h : ℕ) (hart : Hart) (call : Call) (b : Bool)
    → IfSome (asked r c h hart call b).give (IsGive r (length c.modules))
give-asked r c h hart call x = grind (arith, give-serve)

give-acted : (r : Reads) (c : Core) (h : ℕ) (hart : Hart) (action : Action)
    → IfSome (acted r c h hart action).give (IsGive r (length c.modules))
give-acted r c h hart x = grind (arith, give-serve, give-asked)

give-enacted : (r : Reads) (c : Core) (h : ℕ) (d : Decided) → IfSome (enacted r c h d).give (IsGive r (length c.modules))
give-enacted r c h d = search (arith, IsGive, keeps-looked_all, d.looks, give-acted)

pub give-turned : (r : Reads) (c : Core) (h : ℕ) → IfSome (turned r c h).give (IsGive r (length c.modules))
give-turned r c h = search (arith, IsGive, keeps-heard_first, give-enacted)

-- maps and owners keep their lengths
length-each_from : {A : Type 0} (step : ℕ → A → A) (d : ℕ) (xs : List A) → length (each_from step d xs) ≡ length xs
length-each_from step d [] = refl
length-each_from step d (x ∷ xs) = ap suc (length-each_from step (d + 1) xs)

length-maps_after : (maps : List (List Perm)) (o : Option Change) → length (maps_after maps o) ≡ length maps
length-maps_after maps None = refl
length-maps_after maps (Some c) = length-each_from (λ d m. changed_map c.first c.count (c.given d) m) 1 maps

whole-each_from : (size first count d : ℕ) (given : ℕ → Option Perm) (maps : List (List Perm))
    → AllByRecursion (λ (m : List Perm). length m ≡ size) maps →
    AllByRecursion (λ (m : List Perm). length m ≡ size) (each_from (λ d m. changed_map first count (given d) m) d maps)
whole-each_from size first count d given [] p = tt
whole-each_from size first count d given (m ∷ ms) p =
    (length-changed_map first count (given d) m ∙ p.0, whole-each_from size first count (d + 1) given ms p.1)

whole-maps_after : (size : ℕ) (maps : List (List Perm)) (o : Option Change) → AllByRecursion (λ (m : List Perm). length m ≡ size) maps →
    AllByRecursion (λ (m : List Perm). length m ≡ size) (maps_after maps o)
whole-maps_after size maps None p = p
whole-maps_after size maps (Some c) p = whole-each_from size c.first c.count 1 c.given maps p

length-owners_after : (owners : List ℕ) (o : Option Give) → length (owners_after owners o) ≡ length owners
length-owners_after owners None = refl
length-owners_after owners (Some g) = length-laid g owners

-- owners of a number at most
small-laid_from : (most i : ℕ) (e : Laid ℕ) (xs : List ℕ) → ((j : ℕ) → get_or xs j 0 ≤ most) → e.value ≤ most →
    (j : ℕ) → get_or (laid_from i e xs) j 0 ≤ most
small-laid_from most i e [] p q j = p j
small-laid_from most i e (x ∷ xs) p q zero = elim (covers e.first e.count i) as (λ b. cond b e.value x ≤ most) [ true ↦ q | false ↦ p 0 ]
small-laid_from most i e (x ∷ xs) p q (suc j) = small-laid_from most (i + 1) e xs (λ k. p (suc k)) q j

small-owners_after : (r : Reads) (most : ℕ) (owners : List ℕ) (o : Option Give) → ((i : ℕ) → slice_index owners i ≤ most)
    → IfSome o (IsGive r most) →
    (i : ℕ) → slice_index (owners_after owners o) i ≤ most
small-owners_after r most owners None p q = p
small-owners_after r most owners (Some g) p q = small-laid_from most 0 g owners p q.0

few-owners_after : (f : Flat) (most : ℕ) (o : Option Give) → owner_runs f.owners ≤ most_owner_runs → IfSome o (IsGive (flat_reads f) most) →
    owner_runs (owners_after f.owners o) ≤ most_owner_runs
few-owners_after f most None p q = p
few-owners_after f most (Some g) p q = leb-true (owner_runs (laid g f.owners)) most_owner_runs q.1

-- the map of each domain, also of one that isn't there, has a permission for each word
pub length-map_in : (f : Flat) (d : ℕ) → IsFlat f → length (map_in f.core.size f.maps d) ≡ f.core.size
length-map_in f d v =
    all-at (λ (m : List Perm). length m ≡ f.core.size) f.maps (map [] f.core.size) v.whole_maps (length-map_of [] f.core.size) (d - 1)

-- a turn of a flat state
pub flat-turned : (f : Flat) (h : ℕ) → IsFlat f → IsFlat (flat_turn f h)
flat-turned f h v =
    let m = flat_made f h in
    let k = keeps-turned (flat_reads f) f.core h in
    let g = give-turned (flat_reads f) f.core h in
    record {
      valid = valid-turned (flat_reads f) f.core h v.valid;
      maps = length-maps_after f.maps m.change ∙ v.maps ∙ sym k.modules;
      whole_maps = subst (λ (n : ℕ). AllByRecursion (λ (x : List Perm). length x ≡ n) (maps_after f.maps m.change)) (sym k.size)
          (whole-maps_after f.core.size f.maps m.change v.whole_maps);
      owners = length-owners_after f.owners m.give ∙ v.owners ∙ sym k.size;
      small_owners = search (arith, f.owners, small-owners_after, m.give, v.small_owners);
      few_runs = few-owners_after f (length f.core.modules) m.give v.few_runs g;
      caches = (caches-turned (flat_reads f) f.core h (record { each = v.caches })).each;
    }
