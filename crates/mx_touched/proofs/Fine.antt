-- What is made of a state touches no more than was told: of bytes, gates, deaths and rights.
use Rattle.std.proofs.Common.{◌≡◌, ◌≢◌, ℕ, zero, suc, ◌+◌, ◌-◌, ◌*◌, ◌/◌, ◌%◌, ◌<◌, ◌≤◌, ◌⊎◌, Bool, true, false, cond, nat_lt, nat_le, List}
use Rattle.std.proofs.Common.{get_or, set, refl, sym, ◌∙◌, ap, arith, Option, Some, None, ⊎_elim, inl, inr}
use Rattle.std.specs.Option.{option_map_or}
use Rattle.std.proofs.lemmas.Bool.{and_from, le-leb, lt-ltb, ltb-true, ltb-false}
use Rattle.std.proofs.lemmas.List.{get_or-set_other}
use Rattle.std.proofs.lemmas.Grind.{common_steps}
use Rattle.mx_words.specs.Bytes.{put_at, cleared_at}
use Rattle.mx_words.specs.FirstFit.{Area}
use Rattle.mx_words.specs.Ranges.{covers, in_ram, ram_base}
use Rattle.mx_words.proofs.OverlayLaws.{covers_in}
use Rattle.mx_model.specs.declared.values.Gate.{Gate}
use Rattle.mx_model.specs.Agreement.{target_at}
use Rattle.mx_model.specs.Gates.{gate_target}
use Rattle.mx_model.specs.Reads.{Change}
use Rattle.mx_model.specs.State.{Core, Module, module_at, no_module}
use Rattle.mx_laws.specs.Foreign.{IsKept}
use Rattle.mx_touched.specs.Touched.{Touched, is_among, no_words, word_area}
use Rattle.mx_laws.proofs.ForeignLaws.{put-beside, cleared-beside, kept-ram}

-- a word lies beside a change, if there is one
abbrev pub IsBeside : Option Change → ℕ → Type 0
IsBeside None w = Unit {0}
IsBeside (Some change) w = covers change.first change.count w ≡ false

-- a state made of c by a hart in domain d, with a change of rights, is as c beside what is told
pub record IsFine (t : Touched) (c e : Core) (d : ℕ) (made : Option Change) : Type 0 where
  pub bytes : (w : ℕ) → is_among t.bytes w ≡ false → IsKept c e w
  pub gates : (g w : ℕ) → is_among t.gates w ≡ false → target_at e g w ≡ target_at c g w
  pub death : t.death ≡ false → (g : ℕ) → (module_at e g).dead ≡ (module_at c g).dead
  pub deaths : (g : ℕ) → 1 ≤ g → g ≢ d → (module_at e g).dead ≡ (module_at c g).dead
  pub change : (w : ℕ) → is_among t.rights w ≡ false → IsBeside made w

-- the deaths of all modules are as they were
abbrev pub SameDeaths : Core → Core → Type 0
SameDeaths c e = (g : ℕ) → (module_at e g).dead ≡ (module_at c g).dead

same-gates : (c e : Core) (g w : ℕ) → e.gates ≡ c.gates → target_at e g w ≡ target_at c g w
same-gates c e g w n = ap (λ (gs : List Gate). gate_target gs g w) n

pub same-deaths : (c e : Core) → e.modules ≡ c.modules → SameDeaths c e
same-deaths c e n g = ap (λ (ms : List Module). (get_or ms (g - 1) no_module).dead) n

-- nothing is made but of modules that live on
pub fine-alive : (t : Touched) (c e : Core) (d : ℕ) → e.ram ≡ c.ram → e.gates ≡ c.gates → SameDeaths c e →
    IsFine t c e d None
fine-alive t c e d n m k = record {
  bytes = λ w p. kept-ram c e w n;
  gates = λ g w p. same-gates c e g w m;
  death = λ p. k;
  deaths = λ g l p. k g;
  change = λ w p. tt;
}

pub fine-none : (t : Touched) (c e : Core) (d : ℕ) → e.ram ≡ c.ram → e.gates ≡ c.gates → e.modules ≡ c.modules →
    IsFine t c e d None
fine-none t c e d n m k = fine-alive t c e d n m (same-deaths c e k)

-- the same of a state with the same RAM, gates and modules
pub fine-moved : (t : Touched) (c e f : Core) (d : ℕ) (change : Option Change) → f.ram ≡ e.ram → f.gates ≡ e.gates →
    f.modules ≡ e.modules → IsFine t c e d change → IsFine t c f d change
fine-moved t c e f d change n m k p = record {
  bytes = λ w q i l. ap (λ (xs : List ℕ). get_or xs (4 * w + i) 0) n ∙ p.bytes w q i l;
  gates = λ g w q. same-gates e f g w m ∙ p.gates g w q;
  death = λ q g. same-deaths e f k g ∙ p.death q g;
  deaths = λ g l q. same-deaths e f k g ∙ p.deaths g l q;
  change = p.change;
}

beside : (w v k offset size : ℕ) → offset + size ≤ 4 → k < 4 → w ≢ v →
    (4 * w + k < 4 * v + offset) ⊎ (4 * v + offset + size ≤ 4 * w + k)
beside w v k offset size s l n = elim (nat_lt w v) as
    (λ b. nat_lt w v ≡ b → (4 * w + k < 4 * v + offset) ⊎ (4 * v + offset + size ≤ 4 * w + k)) [
      | true ↦ λ t. let q = ltb-true w v t in inl (omega (arith, q, l))
      | false ↦ λ t. let q = ltb-false w v t in let d : v < w = omega (arith, q, n) in inr (omega (arith, d, s))
    ] refl

-- a store inside word v leaves each other word
pub kept-store : (c e : Core) (v offset size n w : ℕ) → offset + size ≤ 4 → e.ram ≡ put_at c.ram (4 * v + offset) size n →
    w ≢ v → IsKept c e w
kept-store c e v offset size n w s i apart k l =
    ap (λ (xs : List ℕ). get_or xs (4 * w + k) 0) i
    ∙ put-beside size c.ram (4 * v + offset) n (4 * w + k) (beside w v k offset size s l apart)

-- the area of an address of RAM is its word
abbrev pub area_by : Option ℕ → Area
area_by o = option_map_or (λ w. record { first = w; count = 1 }) o no_words

pub area-in : (address size : ℕ) → in_ram address size ≡ true →
    word_area address size ≡ record { first = (address - ram_base) / 4; count = 1 }
area-in address size e = ap (λ (b : Bool). area_by (cond {A = Option ℕ} b (Some ((address - ram_base) / 4)) None)) e

pub area-word : (address size : ℕ) → ram_base ≤ address → address - ram_base < 4 * size →
    word_area address size ≡ record { first = (address - ram_base) / 4; count = 1 }
area-word address size low high = area-in address size
    (and_from (nat_le ram_base address) (nat_lt (address - ram_base) (4 * size)) (le-leb ram_base address low)
    (lt-ltb (address - ram_base) (4 * size) high))

-- a word that isn't among an area's isn't its only one
pub not-word : (area : Area) (v w : ℕ) → area ≡ record { first = v; count = 1 } → is_among area w ≡ false → w ≢ v
not-word area v w e f n =
    let k : covers v 1 w ≡ true = covers_in v 1 w (omega (arith, n)) (omega (arith, n)) in
    let m : covers v 1 w ≡ false = sym (ap (λ (a : Area). covers a.first a.count w) e) ∙ f in
    let q : ⊥ = cc in q
