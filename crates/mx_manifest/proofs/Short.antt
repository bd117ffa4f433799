-- Lists of plans are as short as the lists that they are made of.
use Rattle.std.proofs.Common.{◌≡◌, ℕ, ◌+◌, ◌<◌, ◌≤◌, suc, zero, List, [], ◌∷◌, ◌++◌, length, get_or, map, take, Option, Some, None, IfSome}
use Rattle.std.proofs.Common.{slice_get, option_map, ap, sym, ◌∙◌, subst, arith, length-take}
use Rattle.std.proofs.lemmas.List.{length-map, take_all, take_more, map_push}
use Rattle.toml.specs.Data.{Data}
use Rattle.toml.specs.declared.value.Value.{Value}
use Rattle.toml.specs.View.{view}
use Rattle.mx_manifest.specs.declared.parts.ModulePlan.{ModulePlan}
use Rattle.mx_manifest.specs.Reads.{elements, text_of}
use Rattle.mx_manifest.specs.InRange.{Each, IsBetween, IsModule, IsInRange}
use Rattle.mx_manifest.specs.Plan.{module_plan, word_list, plan_of}
use Rattle.mx_manifest.specs.Short.{HasShortLists}
use Rattle.mx_manifest.specs.Faults.{modules, module_names, domain_of, from_texts}
use Rattle.mx_manifest.proofs.Values.{length-data}

pub length-taken : {A : Type 0} (i : ℕ) (xs : List A) → length (take i xs) ≤ length xs
length-taken i xs = omega (arith, length-take i xs)

pub collected_length : {A B : Type 0} (f : A → B) (xs : List A) (most : ℕ) (made : List B) → made ≡ map f xs → length xs ≤ most
    → length made ≤ most
collected_length f xs most made is few = omega (arith, ap length is, length-map xs f)

-- the list of a plan bounds the list that it is made of
pub source_length : {B : Type 0} (f : Data → B) (values : List Value) (all : List Data) (most : ℕ) → map view values ≡ all
    → length (map f all) ≤ most → length values ≤ most
source_length f values all most same few = omega (arith, ap length same, length-data values, length-map all f)

pub words_length : (o : Option Data) (d : Data) (values : List Value) → Some d ≡ o → map view values ≡ elements d
    → IfSome (option_map word_list o) (λ words. length words ≤ 65536) → length values ≤ 65536
words_length o d values at same short =
    let here : length (word_list d) ≤ 65536 = subst (λ x. IfSome (option_map word_list x) (λ words. length words ≤ 65536)) (sym at) short in
    source_length _ values (elements d) 65536 same here

pub from_length : (names : List (List ℕ)) (gate : Data) (values : List Value) → map text_of (map view values) ≡ from_texts gate
    → length (map (domain_of names) (from_texts gate)) ≤ 65536 → length values ≤ 65536
from_length names gate values same short =
    omega (arith, length-map (from_texts gate) (domain_of names), ap length same, length-map (map view values) text_of, length-data values)

-- the plan at a value's place
pub plan_at : {B : Type 0} (f : Data → B) (values : List Value) (i : ℕ) (v : Value) → i < length values → v ≡ get_or values i v
    → slice_get (map f (map view values)) i ≡ Some (f (view v))
plan_at f [] i v below at = absurd (omega arith)
plan_at f (x ∷ values) zero v below at = ap (λ y. Some (f (view y))) (sym at)
plan_at f (x ∷ values) (suc i) v below at = plan_at f values i v (omega arith) at

weaker : (o : Option (List ℕ)) → IfSome o (λ words. IsBetween 1 65536 (length words)) → IfSome o (λ words. length words ≤ 65536)
weaker None h = tt
weaker (Some words) h = h.1

pub built_more : {B : Type 0} (f : Data → B) (values : List Value) (i : ℕ) (v : Value) (old new : List B) (made : B) → i < length values
    → v ≡ get_or values i v
    → old ≡ map f (map view (take i values)) → made ≡ f (view v) → new ≡ old ++ made ∷ [] → new ≡ map f (map view (take (i + 1) values))
built_more f values i v old new made below at before is after =
    after ∙ ap (λ m. old ++ m ∷ []) is
    ∙ ap (λ o. o ++ f (view v) ∷ []) before
    ∙ sym (map_push f (map view (take i values)) (view v))
    ∙ ap (map f) (sym (map_push view (take i values) v))
    ∙ ap (λ w. map f (map view (take i values ++ w ∷ []))) at
    ∙ ap (λ vs. map f (map view vs)) (sym (take_more values i v below))

pub built_all : {B : Type 0} (f : Data → B) (values : List Value) (i : ℕ) (made : List B) → length values ≤ i
    → made ≡ map f (map view (take i values)) → made ≡ map f (map view values)
built_all f values i made over is = is ∙ ap (λ vs. map f (map view vs)) (take_all i values over)

pub built_length : {B : Type 0} (f : Data → B) (values : List Value) (i most : ℕ) (made : List B)
    → made ≡ map f (map view (take i values)) → length values ≤ most → length made ≤ most
built_length f values i most made is few =
    collected_length f _ most made is (omega (arith, length-data (take i values), length-taken i values))

-- a module in its ranges has short lists
short_module : (count own : ℕ) (plan : ModulePlan) → IsModule count own plan → HasShortLists plan
short_module count own plan h = record {
  words = weaker plan.words h.words;
  gates = h.gate_count;
  froms = λ i gate at. omega (arith, (h.gates i gate at).from_count.1);
  returns = h.return_count;
}

pub shorts : (top : Data) (names : List (List ℕ)) (all : List Data) → IsInRange (plan_of top) → names ≡ module_names top → all ≡ modules top
    → Each HasShortLists (map (module_plan names) all)
shorts top names all h named same =
    let those : Each HasShortLists (map (module_plan (module_names top)) (modules top)) =
    λ i plan at. short_module (length (map (module_plan (module_names top)) (modules top))) (i + 1) plan (h.modules i plan at) in
    subst (λ xs. Each HasShortLists (map (module_plan names) xs)) (sym same)
    (subst (λ ns. Each HasShortLists (map (module_plan ns) (modules top))) (sym named) those)
