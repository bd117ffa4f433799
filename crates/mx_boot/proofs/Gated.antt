-- Gates of a plan without a fault.
use Rattle.std.proofs.Common.{◌≡◌, ℕ, ◌+◌, ◌<◌, ◌≤◌, true, false, ◌==◌, ◌&&◌, List, [], ◌∷◌, ◌++◌, length, map, None, unwrap_or, refl, ◌∙◌}
use Rattle.std.proofs.Common.{sym, subst, arith, append_assoc}
use Rattle.std.specs.List.{AllByRecursion, enumerate_from}
use Rattle.std.proofs.lemmas.Bool.Decides.{nat_tests}
use Rattle.std.proofs.lemmas.List.{length-append, append-nil}
use Rattle.std.proofs.lemmas.Option.{slice_get_within}
use Rattle.mx_words.specs.FirstRow.{first_row}
use Rattle.mx_words.proofs.FirstRowLaws.{first_row-append}
use Rattle.mx_model.specs.declared.values.Gate.{Gate}
use Rattle.mx_model.specs.Gates.{AreSingle, has_gate, is_at, most_gates}
use Rattle.mx_model.specs.Valid.{IsModule, IsGate}
use Rattle.mx_model.proofs.ApartLaws.{single-append}
use Rattle.mx_manifest.specs.declared.fault.Key.{Key}
use Rattle.mx_manifest.specs.declared.fault.Key.TheVariants as key
use Rattle.mx_manifest.specs.declared.parts.EntryPlan.{EntryPlan}
use Rattle.mx_manifest.specs.declared.parts.GatePlan.{GatePlan}
use Rattle.mx_manifest.specs.declared.parts.ModulePlan.{ModulePlan}
use Rattle.mx_manifest.specs.InRange.{IsInRange}
use Rattle.mx_manifest.specs.InRange as range
use Rattle.mx_manifest.specs.Plan.{Said}
use Rattle.mx_words.proofs.OptionLaws.{neither, row_none}
use Rattle.mx_boot.specs.declared.area.Area.{Area}
use Rattle.mx_boot.specs.declared.gates.Request.{Request}
use Rattle.mx_boot.specs.Areas.{Home, home, homes}
use Rattle.mx_boot.specs.Entries.{word_at, request, call_requests, requests_of, requests}
use Rattle.mx_boot.specs.Faults.{Fault, is_in_ram, at_module, fault, entry_rows, gate_rows, gates_rows}
use Rattle.mx_boot.specs.Laid.{gate_of}
use Rattle.mx_boot.proofs.Entered.{IsEntered, entry_inside, entry_clear}
use Rattle.mx_model.proofs.EachLaws.{all_both, all_each, all_mapped, all_flat, all_numbered, any_none}
use Rattle.mx_machine.proofs.SmallLaws.{from-each}
use Rattle.mx_model.proofs.JoinLaws.{all-weaker, all-join}

-- a gate after earlier ones
pub record IsClear (all : List Area) (earlier : List Gate) (r : Request) : Type 0 where
  pub entered : IsEntered all r.gate.target r.address
  pub fresh : has_gate earlier r.gate.domain r.gate.word ≡ false
  pub room : (length earlier == most_gates) ≡ false

gate_clear : (all : List Area) (earlier : List Gate) (r : Request) → first_row (gate_rows all earlier r) ≡ None → IsClear all earlier r
gate_clear all earlier r h =
    let place = at_module r.gate.target r.key in
    let entry = entry_rows all place r.gate.target r.address in
    let twice : Fault = (has_gate earlier r.gate.domain r.gate.word, fault 16 place 0) in
    let last : Fault = (length earlier == most_gates, fault 17 place 0) in
    let both = neither (first_row entry) (first_row (twice ∷ last ∷ [])) (sym (first_row-append entry (twice ∷ last ∷ [])) ∙ h) in
    let first = row_none (has_gate earlier r.gate.domain r.gate.word) (fault 16 place 0) (first_row (last ∷ [])) both.1 in
    let second = row_none (length earlier == most_gates) (fault 17 place 0) None first.1 in
    record { entered = entry_clear all place r.gate.target r.address both.0; fresh = first.0; room = second.0 }

abbrev pub AreClear : List Area → List Gate → List Request → Type 0
AreClear all earlier [] = Unit {0}
AreClear all earlier (r ∷ rest) = IsClear all earlier r × AreClear all (earlier ++ r.gate ∷ []) rest

pub gates_clear : (all : List Area) (earlier : List Gate) (rs : List Request) → first_row (gates_rows all earlier rs) ≡ None
    → AreClear all earlier rs
gates_clear all earlier [] h = tt
gates_clear all earlier (r ∷ rest) h =
    let both = neither (first_row (gate_rows all earlier r)) (first_row (gates_rows all (earlier ++ r.gate ∷ []) rest))
    (sym (first_row-append (gate_rows all earlier r) (gates_rows all (earlier ++ r.gate ∷ []) rest)) ∙ h) in
    (gate_clear all earlier r both.0, gates_clear all (earlier ++ r.gate ∷ []) rest both.1)

-- there are at most 256
few_from : (all : List Area) (earlier : List Gate) (rs : List Request) → length earlier ≤ 256 → AreClear all earlier rs
    → length earlier + length rs ≤ 256
few_from all earlier [] few h = omega arith
few_from all earlier (r ∷ rest) few h =
    let room = below (length earlier) few h.0.room in
    let long : length (earlier ++ r.gate ∷ []) ≡ length earlier + 1 = length-append earlier (r.gate ∷ []) in
    let later = few_from all (earlier ++ r.gate ∷ []) rest (omega (arith, long, room)) h.1 in
    omega (arith, long, later)
  where
    below : (n : ℕ) → n ≤ 256 → (n == 256) ≡ false → n < 256
    below n le h = grind (arith, nat_tests)

pub few_gates : (all : List Area) (rs : List Request) → AreClear all [] rs → length rs ≤ 256
few_gates all rs h = let few = few_from all [] rs (omega arith) h in omega (arith, few)

-- of which no two have one domain and word
pub flipped : (d w e v : ℕ) → ((e == d) && (v == w)) ≡ false → ((d == e) && (w == v)) ≡ false
flipped d w e v h = grind (arith, nat_tests)

single_from : (all : List Area) (earlier : List Gate) (rs : List Request) → AreSingle earlier → AreClear all earlier rs
    → AreSingle (earlier ++ map gate_of rs)
single_from all earlier [] single h = subst AreSingle (sym (append-nil earlier)) single
single_from all earlier (r ∷ rest) single h =
    let others = any_none (is_at r.gate.domain r.gate.word) earlier h.0.fresh in
    let flip = all-weaker (λ g. is_at r.gate.domain r.gate.word g ≡ false) (λ g. is_at g.domain g.word r.gate ≡ false) earlier (λ g.
    flipped r.gate.domain r.gate.word g.domain g.word) others in
    let more = single-append r.gate earlier flip single in
    subst AreSingle (append_assoc earlier (r.gate ∷ []) (map gate_of rest)) (single_from all (earlier ++ r.gate ∷ []) rest more h.1)

pub single_gates : (all : List Area) (rs : List Request) → AreClear all [] rs → AreSingle (map gate_of rs)
single_gates all rs h = single_from all [] rs (λ i j d lt below. absurd (let q : ⊥ = omega (arith, below) in q)) h

all_entered : (all : List Area) (earlier : List Gate) (rs : List Request) → AreClear all earlier rs
    → AllByRecursion (λ (r : Request). IsEntered all r.gate.target r.address) rs
all_entered all earlier [] h = tt
all_entered all earlier (r ∷ rest) h = (h.0.entered, all_entered all (earlier ++ r.gate ∷ []) rest h.1)

-- what a gate that is asked for says, among so many modules
pub record IsAsked (modules : ℕ) (r : Request) : Type 0 where
  pub word : r.gate.word ≡ word_at (unwrap_or r.address 0)
  pub target : IsModule modules r.gate.target
  pub domain : IsModule modules r.gate.domain

module _ (modules : ℕ) (h : Home) (own : IsModule modules h.domain) (in_range : range.IsModule modules h.domain h.plan) where
  asked : (k : Key) (entry : EntryPlan) (domain : ℕ) → IsModule modules domain → IsAsked modules (request h k entry domain)
  asked k entry domain is = record { word = refl; target = own; domain = is }

  calls_asked : (gate : GatePlan) → range.IsGate modules h.domain gate → AllByRecursion (IsAsked modules) (call_requests h gate)
  calls_asked gate g = all_mapped (request h key.Gates gate.entry) (IsAsked modules) gate.from
      (from-each (λ domain. IsAsked modules (request h key.Gates gate.entry domain)) gate.from
      (λ i domain at. let between = (g.from i domain at).0 in
      asked key.Gates gate.entry domain (record { first = between.0; last = between.1 })))

  pub module_asked : AllByRecursion (IsAsked modules) (requests_of h)
  module_asked = search (arith, all-join, all_flat, from-each, calls_asked, in_range.gates, all_mapped, all_each, asked)

pub requests_asked : (plan : Said) (images : List (List ℕ)) → IsInRange plan
    → AllByRecursion (IsAsked (length plan.modules)) (requests plan images)
requests_asked plan images in_range =
    let count = length plan.modules in
    all_flat requests_of (IsAsked count) (homes plan images)
    (all_mapped (home images) (λ h. AllByRecursion (IsAsked count) (requests_of h)) (enumerate_from 0 plan.modules)
    (all_numbered (λ (p : ℕ × ModulePlan). AllByRecursion (IsAsked count) (requests_of (home images p))) 0 plan.modules
    (λ i m at. let same : 0 + i ≡ i = omega arith in
    subst (λ k. AllByRecursion (IsAsked count) (requests_of (home images (k, m)))) (sym same)
    (module_asked count (home images (i, m)) (let below = slice_get_within plan.modules i m at in
    record { first = omega arith; last = omega (arith, below) }) (in_range.modules i m at)))))

pub gates_valid : (words modules : ℕ) (all : List Area) (rs : List Request) → AllByRecursion (λ a. is_in_ram words a ≡ true) all
    → AreClear all [] rs
    → AllByRecursion (IsAsked modules) rs → AllByRecursion (IsGate modules words) (map gate_of rs)
gates_valid words modules all rs inside clear asked_all =
    all_mapped gate_of (IsGate modules words) rs
    (all-weaker (λ (r : Request). IsAsked modules r × IsEntered all r.gate.target r.address) (λ r. IsGate modules words r.gate) rs
    (λ r h. record {
      domain = h.0.domain;
      target = h.0.target;
      word = rw h.0.word (entry_inside words all r.gate.target (unwrap_or r.address 0) inside h.1.entry).to;
    })
    (all_both (IsAsked modules) (λ (r : Request). IsEntered all r.gate.target r.address) rs asked_all (all_entered all [] rs clear)))
