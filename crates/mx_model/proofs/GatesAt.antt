-- The call gate and the return gate at an address, from one look at the target of the gate that stands there.
use Rattle.std.proofs.Common.{◌≡◌, ◌≢◌, ℕ, Bool, true, false, ◌==◌, refl, ◌∙◌, ap, eqb-true, if◌then◌else◌, Option, Some, None, arith}
use Rattle.std.specs.Prelude.{IfSome, option_map}
use Rattle.std.specs.Option.{option_map_or}
use Rattle.std.proofs.lemmas.Bool.{eq-eqb, ne_eqb, and_parts}
use Rattle.mx_words.specs.Ranges.{word_of}
use Rattle.mx_model.specs.declared.values.Gate.{Gate}
use Rattle.mx_model.specs.Agreement.{target_at}
use Rattle.mx_model.specs.Gates.{gate_at, is_at, call_target, call_gate, is_return}
use Rattle.mx_model.specs.State.{Core}
use Rattle.mx_model.specs.Turn.{call_gate_at, is_return_at}
use Rattle.mx_model.proofs.ListLaws.{found-passes}

-- the target of the gate for a domain at an address; outside RAM there is none
abbrev pub target_from : Core → ℕ → ℕ → Option ℕ
target_from c d address = option_map_or (target_at c d) (word_of address c.size) None

-- what a target says of the gate for domain d: a call gate leads into another domain, a return gate into d itself
abbrev pub called_domain : ℕ → Option ℕ → Option ℕ
called_domain d None = None
called_domain d (Some t) = if t == d then None else Some t

abbrev pub is_own : ℕ → Option ℕ → Bool
is_own d None = false
is_own d (Some t) = t == d

-- a gate that is found is for the domain for which it was looked up
domain-found : (d word : ℕ) (g : Gate) → is_at d word g ≡ true → g.domain ≡ d
domain-found d word g e = eqb-true g.domain d (and_parts (g.domain == d) (g.word == word) e).0

called-found : (d word : ℕ) (o : Option Gate) → IfSome o (λ g. is_at d word g ≡ true) →
    option_map_or call_target o None ≡ called_domain d (option_map (λ (g : Gate). g.target) o)
called-found d word None p = refl
called-found d word (Some g) p = ap (λ (n : ℕ). if g.target == n then None else Some g.target) (domain-found d word g p)

own-found : (d word : ℕ) (o : Option Gate) → IfSome o (λ g. is_at d word g ≡ true) →
    option_map_or (λ (g : Gate). g.target == g.domain) o false ≡ is_own d (option_map (λ (g : Gate). g.target) o)
own-found d word None p = refl
own-found d word (Some g) p = ap (λ (n : ℕ). g.target == n) (domain-found d word g p)

-- at a word
pub call-gate-of : (c : Core) (d word : ℕ) → call_gate c.gates d word ≡ called_domain d (target_at c d word)
call-gate-of c d word = called-found d word (gate_at c.gates d word) (found-passes (is_at d word) c.gates)

pub return-gate-of : (c : Core) (d word : ℕ) → is_return c.gates d word ≡ is_own d (target_at c d word)
return-gate-of c d word = own-found d word (gate_at c.gates d word) (found-passes (is_at d word) c.gates)

-- at an address
call-gate-in : (c : Core) (d : ℕ) (o : Option ℕ) → option_map_or (call_gate c.gates d) o None
    ≡ called_domain d (option_map_or (target_at c d) o None)
call-gate-in c d None = refl
call-gate-in c d (Some word) = call-gate-of c d word

return-gate-in : (c : Core) (d : ℕ) (o : Option ℕ) → option_map_or (is_return c.gates d) o false
    ≡ is_own d (option_map_or (target_at c d) o None)
return-gate-in c d None = refl
return-gate-in c d (Some word) = return-gate-of c d word

pub call-gate-at : (c : Core) (d address : ℕ) → call_gate_at c d address ≡ called_domain d (target_from c d address)
call-gate-at c d address = call-gate-in c d (word_of address c.size)

pub return-gate-at : (c : Core) (d address : ℕ) → is_return_at c d address ≡ is_own d (target_from c d address)
return-gate-at c d address = return-gate-in c d (word_of address c.size)

-- by the target: another domain, the domain itself, or no gate
pub at-call-gate : (c : Core) (d address t : ℕ) → target_from c d address ≡ Some t → t ≢ d →
    (call_gate_at c d address ≡ Some t) × (is_return_at c d address ≡ false)
at-call-gate c d address t e n = search (arith, call-gate-at, called_domain, ne_eqb, return-gate-at, is_own)

pub at-return-gate : (c : Core) (d address t : ℕ) → target_from c d address ≡ Some t → t ≡ d →
    (call_gate_at c d address ≡ None) × (is_return_at c d address ≡ true)
at-return-gate c d address t e n = search (arith, call-gate-at, called_domain, eq-eqb, return-gate-at, is_own)

pub at-no-gate : (c : Core) (d address : ℕ) → target_from c d address ≡ None →
    (call_gate_at c d address ≡ None) × (is_return_at c d address ≡ false)
at-no-gate c d address e = (call-gate-at c d address ∙ ap (called_domain d) e, return-gate-at c d address ∙ ap (is_own d) e)
