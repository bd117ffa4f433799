-- The definitions of the law of inputs, worked.
use Rattle.std.proofs.Common.{◌≡◌, ◌≢◌, inl, inr, ℕ, zero, suc, true, false, List, [], ◌∷◌, Option, Some, None, refl, ap, sym, ◌∙◌, arith}
use Rattle.std.proofs.Common.{lit<}
use Rattle.std.specs.Option.{option_map_or}
use Rattle.std.proofs.lemmas.Bool.Decides.{nat_tests}
use Rattle.mx_words.specs.declared.perm.Perm.TheVariants as P
use Rattle.mx_words.specs.declared.tables.Kind.TheVariants.{Segments}
use Rattle.mx_words.specs.Bytes.{cleared_at, number_at, put_at}
use Rattle.mx_words.specs.Ranges.{covers}
use Rattle.mx_isa.specs.Fields.{extended, imm_b, imm_i, imm_j, imm_s, imm_u}
use Rattle.mx_isa.specs.Table.{decoded}
use Rattle.mx_model.specs.Agreement.{Trap, border}
use Rattle.mx_model.specs.Effect.{effect, holds, imm_result, loaded, reg_result}
use Rattle.mx_model.specs.Reads.{reads}
use Rattle.mx_model.specs.Run.{ByBytes, ByQuantum, run}
use Rattle.mx_model.specs.State.{Running, State, hart_at, no_module}
use Rattle.mx_model.proofs.Boots.{regs_with}
use Rattle.mx_model.proofs.Smalls.{grant, hart_of, small}
use Rattle.mx_manifest.specs.declared.parts.InputPlan.{InputPlan}
use Rattle.mx_manifest.specs.declared.parts.ModulePlan.{ModulePlan}
use Rattle.mx_manifest.specs.Plan.{Said}
use Rattle.mx_boot.specs.Areas.{Content}
use Rattle.mx_inputs.specs.Free.{MeetsNoBorder}
use Rattle.mx_inputs.specs.Same.{HasNoRightWhereTheyDiffer, HasSameInput, given, unnamed}

-- a plan of two modules, of which the first has an input in the file of this name at this address
abbrev module_with : Option InputPlan → ModulePlan
module_with input = record {
  name = [];
  image = None;
  at = None;
  perm = None;
  words = None;
  wx = None;
  heap = None;
  heap_words = None;
  stack = None;
  stack_words = None;
  gates = [];
  returns = [];
  kills = false;
  seal = false;
  input = input;
}

abbrev input_with : List ℕ → ℕ → InputPlan
input_with file address = record { file = file; address = address; words = 4; perm = P.Read }

abbrev plan_with : List ℕ → ℕ → Said
plan_with file address = record {
  version = 2;
  ram_kib = 64;
  tables = Segments;
  upper = 0;
  leaf = 0;
  spill = 0;
  lookaside = 0;
  quantum = 1;
  modules = module_with (Some (input_with file address)) ∷ module_with None ∷ [];
  harts = [];
}

-- two names of the file don't tell plans apart, and two addresses do
alike : unnamed (plan_with (97 ∷ []) 0x80001000) ≡ unnamed (plan_with (98 ∷ []) 0x80001000)
alike = refl

abbrev first_address : List ModulePlan → ℕ
first_address [] = 0
first_address (m ∷ ms) = option_map_or (λ (input : InputPlan). input.address) m.input 0

apart : unnamed (plan_with (97 ∷ []) 0x80001000) ≢ unnamed (plan_with (97 ∷ []) 0x80002000)
apart e =
    let same : 0x80001000 ≡ 0x80002000 = ap (λ (plan : Said). first_address plan.modules) e in
    omega (arith, same)

-- the first module is given its bytes behind their number, the second nothing, whatever is listed for it
abbrev plan : Said
plan = plan_with (97 ∷ []) 0x80001000

first-given : given plan ((7 ∷ 8 ∷ []) ∷ []) 1 ≡ record { address = 0x80001000; bytes = 2 ∷ 0 ∷ 0 ∷ 0 ∷ 7 ∷ 8 ∷ [] } ∷ []
first-given = refl

second-given : HasSameInput plan ((7 ∷ []) ∷ (1 ∷ []) ∷ []) ((8 ∷ []) ∷ (2 ∷ []) ∷ []) 2
second-given = refl

abbrev bytes_of : List Content → List ℕ
bytes_of [] = []
bytes_of (c ∷ cs) = c.bytes

abbrev last_of : List ℕ → ℕ
last_of [] = 0
last_of (b ∷ []) = b
last_of (b ∷ c ∷ bs) = last_of (c ∷ bs)

first-differs : HasSameInput plan ((7 ∷ []) ∷ []) ((8 ∷ []) ∷ []) 1 → ⊥
first-differs e = let same : 7 ≡ 8 = ap (λ cs. last_of (bytes_of cs)) e in omega (arith, same)

-- where that input differs, a domain with a right on the first word of its area sees it; another has none on all four
abbrev low : Said
low = plan_with (97 ∷ []) 0x80000040

abbrev readable : State
readable = small [] (no_module ∷ no_module ∷ []) ((grant 16 1 P.Read ∷ []) ∷ (grant 20 1 P.Read ∷ []) ∷ []) [] [] [] 8

seen : HasNoRightWhereTheyDiffer low ((7 ∷ []) ∷ []) ((8 ∷ []) ∷ []) readable 1 → ⊥
seen f = elim (f 0 (module_with (Some (input_with (97 ∷ []) 0x80000040))) (input_with (97 ∷ []) 0x80000040) refl refl) [
  | inl same ↦ (let e : 7 ≡ 8 = ap last_of same in omega (arith, e))
  | inr none ↦ (let e : P.Read ≡ P.None = none 16 refl in cc)
]

unseen : (word : ℕ) → covers 16 4 word ≡ true → (reads readable).perm 2 word ≡ P.None
unseen word over = grind (arith, nat_tests)

-- a hart that adds 1 to x5 and then loads a word that its module may not read
abbrev loading : State
loading = small ((0, 0x00128293) ∷ (1, 0x00042383) ∷ []) (no_module ∷ []) ((grant 0 2 P.ExecuteRead ∷ []) ∷ []) [] []
    (hart_of 1 0x80000000 (regs_with ((8, 0x80000040) ∷ [])) [] Running ∷ []) 8

-- its first turn meets no border, and its second does
one-free : MeetsNoBorder (ByQuantum 1) loading 1
unfolding decoded effect holds imm_result reg_result loaded number_at put_at cleared_at imm_i imm_s imm_b imm_u imm_j extended
one-free zero l e r = refl
one-free (suc k) l e r = absurd (let q : ⊥ = omega (arith, l) in q)

second-border : border (reads (run (ByQuantum 1) 1 loading)) (run (ByQuantum 1) 1 loading).core 0 ≡ Trap 5 0x80000040
unfolding decoded effect holds imm_result reg_result loaded number_at put_at cleared_at imm_i imm_s imm_b imm_u imm_j extended
second-border = refl

going : (hart_at (run (ByQuantum 1) 1 loading).core 0).status ≡ Running
unfolding decoded effect holds imm_result reg_result loaded number_at put_at cleared_at imm_i imm_s imm_b imm_u imm_j extended
going = refl

two-met : MeetsNoBorder (ByQuantum 1) loading 2 → ⊥
unfolding decoded effect holds imm_result reg_result loaded number_at put_at cleared_at imm_i imm_s imm_b imm_u imm_j extended
two-met f = let none = f 1 (lit< tt) refl going in let met = sym second-border ∙ none in cc

-- by a schedule that ends after the first turn no second is made; by one that names a hart that isn't there none meets a border
ended-free : MeetsNoBorder (ByBytes (0 ∷ [])) loading 2
unfolding decoded effect holds imm_result reg_result loaded number_at put_at cleared_at imm_i imm_s imm_b imm_u imm_j extended
ended-free zero l e r = refl
ended-free (suc zero) l e r = absurd (let q : ⊥ = cc in q)
ended-free (suc (suc k)) l e r = absurd (let q : ⊥ = omega (arith, l) in q)

nobody-free : MeetsNoBorder (ByBytes (9 ∷ [])) loading 1
nobody-free zero l e r = absurd (let q : ⊥ = cc in q)
nobody-free (suc k) l e r = absurd (let q : ⊥ = omega (arith, l) in q)
