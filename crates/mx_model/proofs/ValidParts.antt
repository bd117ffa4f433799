-- A valid state with other parts is valid.
use Rattle.std.proofs.Common.{◌≡◌, ◌≢◌, ◌⊎◌, inl, inr, ℕ, ◌-◌, ◌<◌, ◌≤◌, Bool, true, false, ◌==◌, List, [], ◌∷◌, length, get_or, set, refl}
use Rattle.std.proofs.Common.{sym, ◌∙◌, ap, subst, arith, lit≤, eqb-true, zero-add, if◌then◌else◌}
use Rattle.std.proofs.Common.{map as list_map}
use Rattle.std.specs.Prelude.{slice_index}
use Rattle.std.specs.List.{AllByRecursion, enumerate_from}
use Rattle.std.proofs.lemmas.Bool.{eqb-false}
use Rattle.std.proofs.lemmas.List.{length-set, length-map, get_or-set_same, get_or-set_other, get_or-map}
use Rattle.std.proofs.lemmas.List.FromFn.{length-enumerate_from, get_or-enumerate_from}
use Rattle.mx_words.specs.Caches.{Cache}
use Rattle.mx_words.specs.Hearing.{is_in, with_hearer, most_harts}
use Rattle.mx_model.specs.declared.values.Gate.{Gate}
use Rattle.mx_model.specs.Checks.{Look, hears, heard_by, looked, looked_all}
use Rattle.mx_model.specs.Gates.{AreSingle, most_gates}
use Rattle.mx_model.specs.Reads.{Reads}
use Rattle.mx_model.specs.State.{Core, Hart, Module, Status, no_hart, no_module, with_hart, with_cache, with_module, module_at}
use Rattle.mx_model.specs.State.{most_modules}
use Rattle.mx_model.specs.Valid.{IsStatus, IsHart, IsGate, IsHome, IsValid}
use Rattle.mx_model.proofs.ListLaws.{all-set, all-at}

-- the bytes of RAM, and one hart, as parts of a valid state
abbrev pub AreBytes : List ℕ → Type 0
AreBytes ram = (i : ℕ) → slice_index ram i < 256

abbrev pub AreHarts : ℕ → ℕ → List Hart → Type 0
AreHarts modules count harts = (h : ℕ) → h < count → IsHart modules count h (get_or harts h no_hart)

-- a valid state with other parts
pub valid-parts : (c : Core) (ram : List ℕ) (modules : List Module) (gates : List Gate) (harts : List Hart) (caches : List Cache)
    (turns : ℕ) → IsValid c →
    length ram ≡ length c.ram → AreBytes ram →
    length modules ≡ length c.modules → AllByRecursion (IsHome c.size (length c.harts)) modules →
    length gates ≤ most_gates → AllByRecursion (IsGate (length c.modules) c.size) gates → AreSingle gates →
    length harts ≡ length c.harts → AreHarts (length c.modules) (length c.harts) harts →
    length caches ≡ length c.caches →
    IsValid (record c { ram = ram; modules = modules; gates = gates; harts = harts; caches = caches; turns = turns })
valid-parts c ram modules gates harts caches turns v rl rb ml ms gl gs g1 hl hs kl = record {
  some_words = v.some_words;
  few_words = v.few_words;
  ram_count = rl ∙ v.ram_count;
  ram_bytes = rb;
  some_modules = subst (λ (n : ℕ). 1 ≤ n) (sym ml) v.some_modules;
  few_modules = subst (λ (n : ℕ). n ≤ most_modules) (sym ml) v.few_modules;
  modules = subst (λ (n : ℕ). AllByRecursion (IsHome c.size n) modules) (sym hl) ms;
  some_harts = subst (λ (n : ℕ). 1 ≤ n) (sym hl) v.some_harts;
  few_harts = subst (λ (n : ℕ). n ≤ most_harts) (sym hl) v.few_harts;
  harts = subst (λ (n : ℕ). AreHarts n (length harts) harts) (sym ml) (subst (λ (n : ℕ). AreHarts (length c.modules) n harts) (sym hl) hs);
  caches = kl ∙ v.caches ∙ sym hl;
  few_gates = gl;
  gates = subst (λ (n : ℕ). AllByRecursion (IsGate n c.size) gates) (sym ml) gs;
  one_gate = g1;
}

-- one part at a time
pub valid-turns : (c : Core) (turns : ℕ) → IsValid c → IsValid (record c { turns = turns })
valid-turns c turns v = valid-parts c c.ram c.modules c.gates c.harts c.caches turns v refl v.ram_bytes refl v.modules v.few_gates v.gates
    v.one_gate refl v.harts refl

pub valid-ram : (c : Core) (ram : List ℕ) → IsValid c → length ram ≡ length c.ram → AreBytes ram → IsValid (record c { ram = ram })
valid-ram c ram v e b = valid-parts c ram c.modules c.gates c.harts c.caches c.turns v e b refl v.modules v.few_gates v.gates v.one_gate
    refl v.harts refl

pub valid-module : (c : Core) (d : ℕ) (m : Module) → IsValid c → IsHome c.size (length c.harts) m → IsValid (with_module d m c)
valid-module c d m v p =
    search (arith, valid-parts, v.ram_bytes, length-set, all-set, v.modules, v.few_gates, v.gates, v.one_gate, v.harts)

pub valid-gates : (c : Core) (gates : List Gate) → IsValid c → length gates ≤ most_gates
    → AllByRecursion (IsGate (length c.modules) c.size) gates →
    AreSingle gates → IsValid (record c { gates = gates })
valid-gates c gates v l p q = valid-parts c c.ram c.modules gates c.harts c.caches c.turns v refl v.ram_bytes refl v.modules l p q refl
    v.harts refl

pub valid-caches : (c : Core) (caches : List Cache) → IsValid c → length caches ≡ length c.caches → IsValid (record c { caches = caches })
valid-caches c caches v e = valid-parts c c.ram c.modules c.gates c.harts caches c.turns v refl v.ram_bytes refl v.modules v.few_gates
    v.gates v.one_gate refl v.harts e

pub valid-cache : (c : Core) (h : ℕ) (cache : Cache) → IsValid c → IsValid (with_cache h cache c)
valid-cache c h cache v = valid-caches c (set c.caches h cache) v (length-set c.caches h cache)

pub harts-set : (modules count : ℕ) (harts : List Hart) (h : ℕ) (hart : Hart) → length harts ≡ count → AreHarts modules count harts
    → IsHart modules count h hart →
    AreHarts modules count (set harts h hart)
harts-set modules count harts h hart e hs p i l = elim (i == h) as (λ b. (i == h) ≡ b
    → IsHart modules count i (get_or (set harts h hart) i no_hart)) [
      | true ↦ λ t.
          let same : i ≡ h = eqb-true i h t in
          let inside : h < length harts = let q : h < count = subst (λ (n : ℕ). n < count) same l in subst (λ (n : ℕ). h < n) (sym e) q in
          subst (λ (n : ℕ). IsHart modules count n (get_or (set harts h hart) n no_hart)) (sym same)
          (subst (λ (x : Hart). IsHart modules count h x) (sym (get_or-set_same harts h hart no_hart inside)) p)
      | false ↦ λ t. subst (λ (x : Hart). IsHart modules count i x)
          (sym (get_or-set_other harts h i hart no_hart (eqb-false i h t))) (hs i l)
    ] refl

pub valid-hart : (c : Core) (h : ℕ) (hart : Hart) → IsValid c → IsHart (length c.modules) (length c.harts) h hart
    → IsValid (with_hart h hart c)
valid-hart c h hart v p =
    search (arith, valid-parts, v.ram_bytes, v.modules, v.few_gates, v.gates, v.one_gate, length-set, harts-set, v.harts)

-- a module that isn't there has empty areas
pub home-none : (size harts : ℕ) → IsHome size harts no_module
home-none size harts = record {
  heap = omega arith;
  blocks = omega arith;
  stack = omega arith;
  few_blocks = lit≤ tt;
  no_heap = λ e. refl;
  no_stack = λ e. refl;
}

pub home-at : (c : Core) (d : ℕ) → IsValid c → IsHome c.size (length c.harts) (module_at c d)
home-at c d v = all-at (IsHome c.size (length c.harts)) c.modules no_module v.modules (home-none c.size (length c.harts)) (d - 1)

-- looks change caches alone
pub valid-looked_all : (r : Reads) (h : ℕ) (looks : List Look) (c : Core) → IsValid c → IsValid (looked_all r h looks c)
valid-looked_all r h [] c v = v
valid-looked_all r h (l ∷ ls) c v = valid-looked_all r h ls (looked r h c l) (valid-cache c h _ v)

pub same-harts-looked_all : (r : Reads) (h : ℕ) (looks : List Look) (c : Core) → (looked_all r h looks c).harts ≡ c.harts
same-harts-looked_all r h [] c = refl
same-harts-looked_all r h (l ∷ ls) c = same-harts-looked_all r h ls (looked r h c l)

pub same-modules-looked_all : (r : Reads) (h : ℕ) (looks : List Look) (c : Core) → (looked_all r h looks c).modules ≡ c.modules
same-modules-looked_all r h [] c = refl
same-modules-looked_all r h (l ∷ ls) c = same-modules-looked_all r h ls (looked r h c l)

-- hearing: hart h is put into the sets of those who have heard the others' calls
in-with_hearer : (heard : List Bool) (h i : ℕ) → is_in (with_hearer h heard) i ≡ true → (i ≡ h) ⊎ (is_in heard i ≡ true)
in-with_hearer heard h i e = elim (i == h) as (λ b. (i == h) ≡ b → (i ≡ h) ⊎ (is_in heard i ≡ true)) [
  | true ↦ λ t. inl (eqb-true i h t)
  | false ↦ λ t. inr (sym (get_or-set_other heard h i true false (eqb-false i h t)) ∙ e)
] refl

status-heard : (harts i h : ℕ) (hart : Hart) (s : Status) → h < harts → i ≢ h → IsStatus harts i hart s
    → IsStatus harts i hart (heard_by h s)
status-heard harts i h hart x l n p = grind (arith, length-set, in-with_hearer)

-- a hart with another status makes the same call
status-moved : (harts h : ℕ) (hart : Hart) (s t : Status) → IsStatus harts h hart s → IsStatus harts h (record hart { status = t }) s
status-moved harts h hart x t p = grind arith

pub hart-status : (modules harts h : ℕ) (hart : Hart) (s : Status) → IsHart modules harts h hart → IsStatus harts h hart s →
    IsHart modules harts h (record hart { status = s })
hart-status modules harts h hart s p q = search (arith, status-moved)

abbrev pub hearing : ℕ → ℕ × Hart → Hart
hearing h p = if p.0 == h then p.1 else record p.1 { status = heard_by h p.1.status }

pub hart-hearing : (modules harts i h : ℕ) (hart : Hart) → h < harts → IsHart modules harts i hart
    → IsHart modules harts i (hearing h (i, hart))
hart-hearing modules harts i h hart l p = search (arith, hart-status, status-heard, hart.status, eqb-false)

pub harts-hearing : (modules h : ℕ) (harts : List Hart) → h < length harts → AreHarts modules (length harts) harts →
    AreHarts modules (length harts) (list_map (hearing h) (enumerate_from 0 harts))
harts-hearing modules h harts there hs i l =
    let e : get_or (enumerate_from 0 harts) i (0, no_hart) ≡ (i, get_or harts i no_hart) =
    get_or-enumerate_from 0 harts i (0, no_hart) l ∙ ap (λ (n : ℕ). (n, get_or harts i no_hart)) (zero-add i) in
    let m = get_or-map (hearing h) (enumerate_from 0 harts) i (0, no_hart) no_hart
    (subst (λ (n : ℕ). i < n) (sym (length-enumerate_from 0 harts)) l) in
    subst (λ (x : Hart). IsHart modules (length harts) i x) (sym (m ∙ ap (hearing h) e))
    (hart-hearing modules (length harts) i h (get_or harts i no_hart) there (hs i l))

pub valid-hears : (h : ℕ) (c : Core) → h < length c.harts → IsValid c → IsValid (hears h c)
valid-hears h c l v =
    valid-parts c c.ram c.modules c.gates (list_map (hearing h) (enumerate_from 0 c.harts)) _ c.turns v refl v.ram_bytes refl v.modules
    v.few_gates v.gates v.one_gate
    (length-map (enumerate_from 0 c.harts) (hearing h) ∙ length-enumerate_from 0 c.harts)
    (harts-hearing (length c.modules) h c.harts l v.harts) (length-set c.caches h _)
