use Rattle.std.proofs.Common.{◌≡◌, ℕ, ◌+◌, ◌-◌, ◌<◌, ◌∙◌, Bool, true, false, not, if◌then◌else◌, List, [], ◌∷◌, ◌++◌, length, get_or, map}
use Rattle.std.proofs.Common.{take, Some, None, refl, ap, sym, arith}
use Rattle.std.proofs.lemmas.List.{take-map, take_more, map_push}
use Rattle.std.specs.List.{list_any}
use Rattle.std.specs.Str.{bytes_eq}
use Rattle.toml.specs.declared.value.Value.{Value}
use Rattle.toml.specs.View.{view}
use Rattle.mx_manifest.specs.declared.fault.Key.TheVariants as key
use Rattle.mx_manifest.specs.declared.fault.Part.TheVariants as part
use Rattle.mx_manifest.specs.Faults.{fault_where, module_name, placed, repeat_fault}
use Rattle.mx_words.proofs.OptionLaws.{unmapped}
use Rattle.mx_manifest.proofs.Loops.{each_next, each_here, each_over}
use Rattle.mx_manifest.proofs.Short.{built_all}
use Rattle.mx_manifest.proofs.names.read_names.Goals as goal
use mathlib.Core.Bool.{not-not}

names_of : List Value → List (List ℕ)
names_of values = map module_name (map view values)

-- the test of a module's name among those before it
repeat_is : (values : List Value) (i : ℕ) (v : Value) (seen : List (List ℕ)) (name : List ℕ) (fresh : Bool)
    → seen ≡ names_of (take i values) → name ≡ module_name (view v)
    → fresh ≡ not (list_any (bytes_eq name) seen)
    → fault_where (not fresh) 7 key.Name ≡ repeat_fault (names_of values) (i + 1) (view v)
unfolding names_of
repeat_is values i v seen name fresh first same is =
    let before : take (i + 1 - 1) (names_of values) ≡ seen =
    ap (λ n. take n (names_of values)) (omega arith) ∙ take-map module_name i (map view values)
    ∙ ap (map module_name) (take-map view i values) ∙ sym first in
    let test : not fresh ≡ list_any (bytes_eq name) seen = ap not is ∙ not-not (list_any (bytes_eq name) seen) in
    ap (λ b. fault_where b 7 key.Name) (test ∙ ap (λ n. list_any (bytes_eq n) seen) same
    ∙ ap (λ ns. list_any (bytes_eq (module_name (view v))) ns) (sym before))

-- one more name
names_more : (values : List Value) (i : ℕ) (v : Value) (seen after : List (List ℕ)) (name : List ℕ) (fresh : Bool) → i < length values
    → v ≡ get_or values i v → seen ≡ names_of (take i values)
    → name ≡ module_name (view v) → fresh ≡ true → after ≡ (if fresh then seen ++ name ∷ [] else seen)
    → after ≡ names_of (take (i + 1) values)
unfolding names_of
names_more values i v seen after name fresh below at first same new is =
    is ∙ ap (λ b. if b then seen ++ name ∷ [] else seen) new
    ∙ ap (λ n. seen ++ n ∷ []) same
    ∙ ap (λ s. s ++ module_name (view v) ∷ []) first
    ∙ sym (map_push module_name (map view (take i values)) (view v))
    ∙ ap (map module_name) (sym (map_push view (take i values) v))
    ∙ ap (λ w. map module_name (map view (take i values ++ w ∷ []))) at
    ∙ ap (λ vs. map module_name (map view vs)) (sym (take_more values i v below))

fresh_true : (fresh : Bool) → fault_where (not fresh) 7 key.Name ≡ None → fresh ≡ true
fresh_true true h = refl
fresh_true false h = cc

pub returns-in-Some-clause-fault : goal.returns-in-Some-clause-fault
unfolding names_of
returns-in-Some-clause-fault c =
    let values = c.args.modules.now in
    let v = c.index-modules-i.result in
    let test = repeat_fault (map module_name (map view values)) in
    let told : c.fault_where-repeat.result ≡ test (c.loop-i.i + 1) (view v) =
    c.fault_where-repeat.ensures
    ∙ repeat_is values c.loop-i.i v c.loop-i.names c.module_name.result.now c.in-Ok.fresh c.loop-i.invariant.names c.module_name.ensures
    c.in-Ok.ensures.fresh in
    let here : placed part.Module (c.loop-i.i + 1) (test (c.loop-i.i + 1) (view v)) ≡ Some c.in-Some.fault =
    ap (placed part.Module (c.loop-i.i + 1)) (sym told) ∙ sym c.placed.ensures ∙ c.in-Some.is in
    sym (each_here part.Module test values c.loop-i.i v c.in-Some.fault c.loop-i-test.true c.index-modules-i.is here
    ∙ c.loop-i.invariant.apart)

pub loop-i-preserved : goal.loop-i-preserved
unfolding names_of
loop-i-preserved c =
    let values = c.args.modules.now in
    let v = c.index-modules-i.result in
    let test = repeat_fault (map module_name (map view values)) in
    let told : c.fault_where-repeat.result ≡ test (c.loop-i.i + 1) (view v) =
    c.fault_where-repeat.ensures
    ∙ repeat_is values c.loop-i.i v c.loop-i.names c.module_name.result.now c.in-Ok.fresh c.loop-i.invariant.names c.module_name.ensures
    c.in-Ok.ensures.fresh in
    let clear : placed part.Module (c.loop-i.i + 1) c.fault_where-repeat.result ≡ None = sym c.placed.ensures ∙ c.in_default-placed.is in
    let here : placed part.Module (c.loop-i.i + 1) (test (c.loop-i.i + 1) (view v)) ≡ None =
    ap (placed part.Module (c.loop-i.i + 1)) (sym told) ∙ clear in
    let fresh : c.in-Ok.fresh ≡ true = fresh_true c.in-Ok.fresh (sym c.fault_where-repeat.ensures ∙ unmapped _ _ clear) in
    record {
      names =
          names_more values c.loop-i.i v c.loop-i.names c.add.new.self c.module_name.result.now c.in-Ok.fresh c.loop-i-test.true
          c.index-modules-i.is
          c.loop-i.invariant.names c.module_name.ensures fresh c.in-Ok.ensures.added;
      apart = each_next part.Module test values c.loop-i.i v c.loop-i-test.true c.index-modules-i.is here ∙ c.loop-i.invariant.apart;
    }

pub returns-clause-names : goal.returns-clause-names
returns-clause-names c =
    built_all module_name _ c.loop-i.i _ c.loop-i-test.false c.loop-i.invariant.names

pub returns-clause-apart : goal.returns-clause-apart
returns-clause-apart c =
    sym c.loop-i.invariant.apart ∙ each_over part.Module _ c.args.modules.now c.loop-i.i c.loop-i-test.false
