-- Where two states agree for a hart, its turn reads the same in both.
use Rattle.std.proofs.Common.{◌≡◌, ℕ, zero, suc, ◌+◌, ◌-◌, ◌*◌, ◌/◌, ◌%◌, ◌<◌, ◌≤◌, Bool, true, false, not, nat_le, nat_lt, List, get_or}
use Rattle.std.proofs.Common.{refl, sym, ◌∙◌, ap, subst, arith, if◌then◌else◌, Option, Some, None, inl, inr}
use Rattle.std.specs.Option.{option_map_or}
use Rattle.std.proofs.lemmas.Bool.{and_parts, leb-true, ltb-true, not-false}
use Rattle.mx_words.specs.declared.perm.Perm.{Perm}
use Rattle.mx_words.specs.declared.perm.Perm.TheVariants as P
use Rattle.mx_words.specs.declared.perm.Access.{Access}
use Rattle.mx_words.specs.declared.perm.Access.TheVariants as A
use Rattle.mx_words.specs.Bytes.{number_at, IsSize}
use Rattle.mx_words.specs.Ranges.{ram_base, word_of, in_ram}
use Rattle.mx_words.specs.Rights.{allows}
use Rattle.mx_isa.specs.declared.inst.LoadWidth.{LoadWidth}
use Rattle.mx_isa.specs.declared.inst.LoadWidth.TheVariants.{Lb, Lh, Lw, Lbu, Lhu}
use Rattle.mx_model.specs.declared.values.Frame.{Frame}
use Rattle.mx_model.specs.Agreement.{target_at}
use Rattle.mx_model.specs.Effect.{load_size}
use Rattle.mx_model.specs.Reads.{Reads}
use Rattle.mx_model.specs.State.{Core, Hart, Status, hart_at}
use Rattle.mx_model.specs.Turn.{perm_of, is_denied, call_gate_at, is_return_at, load_at}
use Rattle.mx_model.proofs.GatesAt.{called_domain, call-gate-at, is_own, return-gate-at, target_from}
use Rattle.mx_model.proofs.AlignedLaws.{in-word}
use Rattle.mx_laws.specs.Twins.{AreTwins}
use Rattle.mx_laws.proofs.Walk.{SameReadings, other}

-- permissions by address
perm-in : (r q : Reads) (d : ℕ) (o : Option ℕ) → ((i : ℕ) → r.perm d i ≡ q.perm d i)
    → option_map_or (r.perm d) o P.None ≡ option_map_or (q.perm d) o P.None
perm-in r q d None m = refl
perm-in r q d (Some w) m = m w

perm-same : (r : Reads) (c : Core) (q : Reads) (e : Core) (d address : ℕ) → c.size ≡ e.size → ((i : ℕ) → r.perm d i ≡ q.perm d i) →
    perm_of r c d address ≡ perm_of q e d address
perm-same r c q e d address n m =
    ap (λ (size : ℕ). option_map_or (r.perm d) (word_of address size) P.None) n ∙ perm-in r q d (word_of address e.size) m

-- gates by address
targets-in : (c e : Core) (d : ℕ) (o : Option ℕ) → ((i : ℕ) → target_at c d i ≡ target_at e d i) →
    option_map_or (target_at c d) o None ≡ option_map_or (target_at e d) o None
targets-in c e d None m = refl
targets-in c e d (Some word) m = m word

module _ (c e : Core) (d address : ℕ) (n : c.size ≡ e.size) (m : (i : ℕ) → target_at c d i ≡ target_at e d i) where
  target-same : target_from c d address ≡ target_from e d address
  target-same = ap (λ (size : ℕ). option_map_or (target_at c d) (word_of address size) None) n ∙ targets-in c e d (word_of address e.size) m

  pub call_gate-same : call_gate_at c d address ≡ call_gate_at e d address
  call_gate-same = call-gate-at c d address ∙ ap (called_domain d) target-same ∙ sym (call-gate-at e d address)

  pub is_return-same : is_return_at c d address ≡ is_return_at e d address
  is_return-same = return-gate-at c d address ∙ ap (is_own d) target-same ∙ sym (return-gate-at e d address)

-- an access that isn't denied lies in RAM, in a word on which it is allowed
pub record IsAllowed (r : Reads) (c : Core) (d address : ℕ) (access : Access) : Type 0 where
  pub low : ram_base ≤ address
  pub high : address - ram_base < 4 * c.size
  pub right : allows (r.perm d ((address - ram_base) / 4)) access ≡ true

allowed-word : (r : Reads) (c : Core) (d address : ℕ) (access : Access) (b : Bool) → in_ram address c.size ≡ b →
    not (allows (option_map_or (r.perm d) (if b then Some ((address - ram_base) / 4) else None) P.None) access) ≡ false
    → IsAllowed r c d address access
allowed-word r c d address access true t e =
    let both = and_parts (nat_le ram_base address) (nat_lt (address - ram_base) (4 * c.size)) t in
    record { low = leb-true ram_base address both.0; high = ltb-true (address - ram_base) (4 * c.size) both.1; right = not-false _ e }
allowed-word r c d address access false t e = absurd (let q : ⊥ = cc in q)

pub allowed-if : (r : Reads) (c : Core) (d address : ℕ) (access : Access) → is_denied r c d address access ≡ false
    → IsAllowed r c d address access
allowed-if r c d address access e = allowed-word r c d address access (in_ram address c.size) refl e

-- whatever is allowed, a read is
pub read-allowed : (p : Perm) (access : Access) → allows p access ≡ true → allows p A.Read ≡ true
read-allowed P.None access e = e
read-allowed P.Read access e = refl
read-allowed P.ReadWrite access e = refl
read-allowed P.ExecuteRead access e = refl

-- numbers of the same bytes
number-same : (size : ℕ) (xs ys : List ℕ) (k : ℕ) → ((j : ℕ) → j < size → get_or xs (k + j) 0 ≡ get_or ys (k + j) 0)
    → number_at xs k size ≡ number_at ys k size
unfolding number_at
number-same zero xs ys k p = refl
number-same (suc size) xs ys k p =
    let first : get_or xs k 0 ≡ get_or ys k 0 =
    let e : k + 0 ≡ k = omega arith in subst (λ (n : ℕ). get_or xs n 0 ≡ get_or ys n 0) e (p 0 (omega arith)) in
    let rest : number_at xs (k + 1) size ≡ number_at ys (k + 1) size = number-same size xs ys (k + 1) (λ j l.
    let e : k + suc j ≡ (k + 1) + j = omega arith in subst (λ (n : ℕ). get_or xs n 0 ≡ get_or ys n 0) e (p (suc j) (omega (arith, l)))) in
    ap (λ (n : ℕ). n + 256 * number_at xs (k + 1) size) first ∙ ap (λ (n : ℕ). get_or ys k 0 + 256 * n) rest

-- a hart by its parts
abbrev fields : List ℕ → ℕ → ℕ → List Frame → Status → Hart
fields regs pc domain frames status = record { regs = regs; pc = pc; domain = domain; frames = frames; status = status }

by-fields : (x y : Hart) → x.regs ≡ y.regs → x.pc ≡ y.pc → x.domain ≡ y.domain → y ≡ other x y.frames y.status
by-fields x y rs p d =
    ap (λ (v : List ℕ). fields v y.pc y.domain y.frames y.status) (sym rs)
    ∙ ap (λ (v : ℕ). fields x.regs v y.domain y.frames y.status) (sym p)
    ∙ ap (λ (v : ℕ). fields x.regs x.pc v y.frames y.status) (sym d)

-- the readings of a hart on which two states agree
module _ (r : Reads) (c : Core) (q : Reads) (e : Core) (h : ℕ) (t : AreTwins r c q e h) where
  load-same : (address size : ℕ) (access : Access) → IsSize size → address % size ≡ 0
      → is_denied r c (hart_at c h).domain address access ≡ false →
      load_at c address size ≡ load_at e address size
  load-same address size access s a n =
      let d = (hart_at c h).domain in
      let may = allowed-if r c d address access n in
      let word = (address - ram_base) / 4 in
      let inside = in-word size address s a may.low in
      number-same size c.ram e.ram (address - ram_base) (λ j l.
      let k = (address - ram_base) % 4 + j in
      let place : 4 * word + k ≡ (address - ram_base) + j = omega arith in
      let short : k < 4 = omega (arith, inside, l) in
      subst (λ (n : ℕ). get_or c.ram n 0 ≡ get_or e.ram n 0) place
      (t.agreement.same_bytes word (read-allowed (r.perm d word) access may.right) k short))

  width-size : (width : LoadWidth) → IsSize (load_size width)
  width-size Lb = inl refl
  width-size Lh = inr (inl refl)
  width-size Lw = inr (inr refl)
  width-size Lbu = inl refl
  width-size Lhu = inr (inl refl)

  pub same-readings : SameReadings r c q e (hart_at c h)
  same-readings = record {
    dead = t.agreement.same_death;
    gate = call_gate-same c e (hart_at c h).domain (hart_at c h).pc t.words t.agreement.same_gates;
    back = is_return-same c e (hart_at c h).domain (hart_at c h).pc t.words t.agreement.same_gates;
    denied = λ address access. ap (λ (p : Perm). not (allows p access))
        (perm-same r c q e (hart_at c h).domain address t.words t.agreement.same_map);
    fetch = λ n. load-same (hart_at c h).pc 4 A.Execute (inr (inr refl)) t.aligned n;
    load = λ address width a n. load-same address (load_size width) A.Read (width-size width) a n;
  }

  -- the hart in the second state is that of the first with other frames and another status
  pub other-hart : hart_at e h ≡ other (hart_at c h) (hart_at e h).frames (hart_at e h).status
  other-hart = by-fields (hart_at c h) (hart_at e h) t.agreement.same_regs t.agreement.same_pc t.agreement.same_domain
