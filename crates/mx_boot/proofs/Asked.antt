-- Gates that are asked for, some after others.
use Rattle.std.proofs.Common.{◌≡◌, ℕ, ◌+◌, ◌≤◌, List, [], ◌∷◌, ◌++◌, length, take, drop, map, slice_get, Option, Some, None, Result, Ok}
use Rattle.std.proofs.Common.{Err, ap, ◌∙◌, sym, subst, append_assoc}
use Rattle.std.specs.List.{flat_map}
use Rattle.std.specs.Option.{option_or}
use Rattle.std.proofs.lemmas.Grind.{flat_map-append}
use Rattle.std.proofs.lemmas.List.Concat.{flat_map_single}
use Rattle.std.proofs.lemmas.List.{append-nil, map-append, take-append-drop, take_all}
use Rattle.mx_words.specs.FirstRow.{first_row}
use Rattle.mx_model.specs.declared.values.Gate.{Gate}
use Rattle.mx_manifest.specs.declared.fault.BootFault.{BootFault}
use Rattle.mx_boot.specs.declared.area.Area.{Area}
use Rattle.mx_boot.specs.declared.gates.Request.{Request}
use Rattle.mx_boot.specs.declared.refused.LayoutRefused.{LayoutRefused}
use Rattle.mx_boot.specs.declared.refused.LayoutRefused.TheVariants.{Fault, NoMemory}
use Rattle.mx_boot.specs.Faults.{gate_rows, gates_rows}
use Rattle.mx_boot.specs.Laid.{Tells, gate_of, AreAsked}
use Rattle.mx_boot.proofs.Behind.{first_behind}
use Rattle.mx_boot.proofs.Rows.{take_at}

abbrev Done : Type 0
Done = Result (Unit {0}) LayoutRefused

tells_rest : (first rest : Option BootFault) (refused : LayoutRefused) → first ≡ None → Tells rest refused
    → Tells (option_or first rest) refused
tells_rest first rest (Fault fault) none some = ap (λ o. option_or o rest) none ∙ some
tells_rest first rest NoMemory none some = tt

tells_first : (first rest : Option BootFault) (refused : LayoutRefused) → Tells first refused → Tells (option_or first rest) refused
tells_first first rest (Fault fault) some = ap (λ o. option_or o rest) some
tells_first first rest NoMemory some = tt

tells_same : (first other : Option BootFault) (refused : LayoutRefused) → first ≡ other → Tells first refused → Tells other refused
tells_same first other refused same h = subst (λ o. Tells o refused) same h

-- more gates after some that have no fault
pub asked-then : (areas : List Area) (earlier : List Gate) (xs ys : List Request) (between later : List Gate) (result : Done)
    → AreAsked areas earlier xs between (Ok tt) → AreAsked areas between ys later result → AreAsked areas earlier (xs ++ ys) later result
asked-then areas earlier xs ys between later (Ok done) a b = (
  first_behind gate_of (gate_rows areas) earlier xs ys ∙ ap (λ o. option_or o (first_row (gates_rows areas (earlier ++ map gate_of xs) ys)))
      a.0
      ∙ ap (λ e. first_row (gates_rows areas e ys)) (sym a.1) ∙ b.0,
  b.1 ∙ ap (λ e. e ++ map gate_of ys) a.1 ∙ append_assoc earlier (map gate_of xs) (map gate_of ys)
      ∙ ap (λ g. earlier ++ g) (sym (map-append gate_of xs ys)),
)
asked-then areas earlier xs ys between later (Err refused) a b =
    tells_same _ _ refused (sym (first_behind gate_of (gate_rows areas) earlier xs ys))
    (tells_rest (first_row (gates_rows areas earlier xs)) (first_row (gates_rows areas (earlier ++ map gate_of xs) ys)) refused a.0
    (subst (λ e. Tells (first_row (gates_rows areas e ys)) refused) a.1 b))

-- some have a fault, whatever comes after
pub asked-stops : (areas : List Area) (earlier : List Gate) (xs ys : List Request) (between later : List Gate) (refused : LayoutRefused)
    → AreAsked areas earlier xs between (Err refused) → AreAsked areas earlier (xs ++ ys) later (Err refused)
asked-stops areas earlier xs ys between later refused a =
    tells_same _ _ refused (sym (first_behind gate_of (gate_rows areas) earlier xs ys))
    (tells_first (first_row (gates_rows areas earlier xs)) (first_row (gates_rows areas (earlier ++ map gate_of xs) ys)) refused a)

-- what each of some elements asks for, element by element
module _ {A : Type 0} (areas : List Area) (earlier : List Gate) (ask : A → List Request) (xs : List A) where
  so_far : (k : ℕ) (x : A) → slice_get xs k ≡ Some x → flat_map ask (take (k + 1) xs) ≡ flat_map ask (take k xs) ++ ask x
  so_far k x at = ap (flat_map ask) (take_at xs k x at) ∙ flat_map-append ask (take k xs) (x ∷ [])
      ∙ ap (λ r. flat_map ask (take k xs) ++ r) (append-nil (ask x))

  pub each-next : (k : ℕ) (x : A) (between later : List Gate) (result : Done) → slice_get xs k ≡ Some x
      → AreAsked areas earlier (flat_map ask (take k xs)) between (Ok tt) → AreAsked areas between (ask x) later result
      → AreAsked areas earlier (flat_map ask (take (k + 1) xs)) later result
  each-next k x between later result at a b =
      subst (λ rs. AreAsked areas earlier rs later result) (sym (so_far k x at))
      (asked-then areas earlier (flat_map ask (take k xs)) (ask x) between later result a b)

  pub each-stops : (k : ℕ) (x : A) (between later : List Gate) (refused : LayoutRefused) → slice_get xs k ≡ Some x
      → AreAsked areas earlier (flat_map ask (take k xs)) between (Ok tt) → AreAsked areas between (ask x) later (Err refused)
      → AreAsked areas earlier (flat_map ask xs) later (Err refused)
  each-stops k x between later refused at a b =
      let all : flat_map ask (take (k + 1) xs) ++ flat_map ask (drop (k + 1) xs) ≡ flat_map ask xs =
      sym (flat_map-append ask (take (k + 1) xs) (drop (k + 1) xs)) ∙ ap (flat_map ask) (take-append-drop (k + 1) xs) in
      subst (λ rs. AreAsked areas earlier rs later (Err refused)) all
      (asked-stops areas earlier (flat_map ask (take (k + 1) xs)) (flat_map ask (drop (k + 1) xs)) later later refused
      (each-next k x between later (Err refused) at a b))

  pub each-ends : (k : ℕ) (later : List Gate) (result : Done) → length xs ≤ k
      → AreAsked areas earlier (flat_map ask (take k xs)) later result → AreAsked areas earlier (flat_map ask xs) later result
  each-ends k later result past a = subst (λ ys. AreAsked areas earlier (flat_map ask ys) later result) (take_all k xs past) a

-- elements that ask for one gate each
pub each-single : {A : Type 0} (areas : List Area) (earlier : List Gate) (ask : A
    → Request) (xs : List A) (later : List Gate) (result : Done)
    → AreAsked areas earlier (flat_map (λ x. ask x ∷ []) xs) later result → AreAsked areas earlier (map ask xs) later result
each-single areas earlier ask xs later result a = subst (λ rs. AreAsked areas earlier rs later result) (flat_map_single ask xs) a
