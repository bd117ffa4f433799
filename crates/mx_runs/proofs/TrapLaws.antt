-- Which fault a turn is, by the action that it does; and when an action is a fault by a denied access.
use Rattle.std.proofs.Common.{◌≡◌, ◌≢◌, ◌↔◌, ℕ, ◌+◌, ◌%◌, ◌≤◌, Bool, true, false, cond, ◌==◌, List, refl, sym, ◌∙◌, ap, subst, arith}
use Rattle.std.proofs.Common.{eq-eqb, if◌then◌else◌, Option, Some, None}
use Rattle.std.specs.Option.{option_map_or}
use Rattle.std.proofs.lemmas.Bool.{ne_eqb}
use Rattle.mx_words.specs.declared.perm.Access.{Access}
use Rattle.mx_words.specs.declared.perm.Access.TheVariants as A
use Rattle.mx_words.specs.Caches.{Cache}
use Rattle.mx_isa.specs.declared.inst.Inst.{Inst}
use Rattle.mx_isa.specs.declared.inst.Inst.TheVariants.{Lui, Auipc, Jal, Jalr, Branch, Load, Store, OpImm, Op, Fence, Ecall, Ebreak}
use Rattle.mx_isa.specs.declared.inst.LoadWidth.{LoadWidth}
use Rattle.mx_isa.specs.declared.inst.StoreWidth.{StoreWidth}
use Rattle.mx_model.specs.declared.values.Fault.{Fault}
use Rattle.mx_model.specs.declared.values.Frame.{Frame}
use Rattle.mx_model.specs.declared.values.Note.TheVariants as N
use Rattle.mx_model.specs.Checks.{looked_all}
use Rattle.mx_model.specs.Effect.{Effect, Goes, Faults, Loads, Stores, effect, holds, load_size, next, plus, reg, store_size, taken}
use Rattle.mx_model.specs.Reads.{Reads, reads}
use Rattle.mx_model.specs.State.{Core, Hart, State, hart_at}
use Rattle.mx_model.specs.Turn.{Action, Traps, Decided, acted, by_effect, by_word, fetches, is_denied, returned_over, runs_at, turned}
use Rattle.mx_model.proofs.TurnCases.{acts, looked_all-caches, ready, turned-fetches}
use Rattle.mx_laws.specs.After.{domain_at}
use Rattle.mx_laws.proofs.TwinLaws.{kind-asked}
use Rattle.mx_runs.specs.Denials.{Executes, FaultsExactly, Fetches, IsDenied, IsTrap, TrapsWith, address_by, traps_with}
use Rattle.mx_runs.proofs.DenialLaws.{allowed-test, denied-test}

-- a fault's note tells its cause and its value
note-fault : (turn h d pc : ℕ) (f g : Fault) → Some (N.Fault turn h d pc f) ≡ Some (N.Fault turn h d pc g) → f ≡ g
note-fault turn h d pc f g e = cc

same-fault : (turn h d pc cause value k v : ℕ) →
    Some (N.Fault turn h d pc (record { cause = k; value = v })) ≡ Some (N.Fault turn h d pc (record {
      cause = cause;
      value = value;
    })) → Traps k v ≡ Traps cause value
same-fault turn h d pc cause value k v e = search (arith, note-fault)

-- what an action makes is a fault exactly where it is one
trap-action : (r : Reads) (c : Core) (h : ℕ) (x : Hart) (a : Action) (cause value : ℕ) →
    IsTrap (acted r c h x a) c.turns h x cause value → a ≡ Traps cause value
trap-action r c h x x1 cause value t = grind (arith, kind-asked, same-fault)

-- of a turn that is this action
pub trap-turned : (r : Reads) (c e : Core) (h : ℕ) (x : Hart) (a : Action) (cause value : ℕ) → hart_at c h ≡ x →
    e.turns ≡ c.turns + 1 →
    turned r c h ≡ acted r e h x a → TrapsWith r c h cause value ↔ (a ≡ Traps cause value)
trap-turned r c e h x a cause value own turns is = search (arith, trap-action, c.turns, e.turns)

-- a fault of an instruction itself is by 0, 3, 4 or 6
pub record IsOwnCause (cause : ℕ) : Type 0 where
  pub low : cause ≤ 6
  pub own : cause ≢ 1

abbrev pub HasOwnCause : Effect → Type 0
HasOwnCause (Faults cause value) = IsOwnCause cause
HasOwnCause f = Unit {0}

cause-choice : (b : Bool) (f g : Effect) → HasOwnCause f → HasOwnCause g → HasOwnCause (cond b f g)
cause-choice x f g p q = grind arith

own-0 : IsOwnCause 0
own-0 = record { low = omega arith; own = λ e. (omega (arith, e)) }

own-3 : IsOwnCause 3
own-3 = record { low = omega arith; own = λ e. (omega (arith, e)) }

own-4 : IsOwnCause 4
own-4 = record { low = omega arith; own = λ e. (omega (arith, e)) }

own-6 : IsOwnCause 6
own-6 = record { low = omega arith; own = λ e. (omega (arith, e)) }

pub cause-effect : (inst : Inst) (regs : List ℕ) (pc : ℕ) → HasOwnCause (effect inst regs pc)
unfolding effect
cause-effect (Lui rd imm) regs pc = tt
cause-effect (Auipc rd imm) regs pc = tt
cause-effect (Jal rd imm) regs pc = tt
cause-effect (Jalr rd rs1 imm) regs pc = tt
cause-effect (Branch k rs1 rs2 imm) regs pc =
    cause-choice (holds k (reg regs rs1) (reg regs rs2)) (taken regs (plus pc imm)) (Goes regs (next pc))
    (cause-choice (plus pc imm % 4 == 0) (Goes regs (plus pc imm)) (Faults 0 (plus pc imm)) tt own-0) tt
cause-effect (Load width rd rs1 imm) regs pc =
    let address = plus (reg regs rs1) imm in
    cause-choice (address % load_size width == 0) (Loads rs1 address width rd) (Faults 4 address) tt own-4
cause-effect (Store width rs1 rs2 imm) regs pc =
    let address = plus (reg regs rs1) imm in
    cause-choice (address % store_size width == 0) (Stores rs1 address (store_size width) (reg regs rs2))
    (Faults 6 address) tt own-6
cause-effect (OpImm op rd rs1 imm) regs pc = tt
cause-effect (Op op rd rs1 rs2) regs pc = tt
cause-effect (Fence fields) regs pc = tt
cause-effect Ecall regs pc = tt
cause-effect Ebreak regs pc = own-3

-- an action that isn't a fault by 1
abbrev NotFetch : Action → Type 0
NotFetch (Traps cause value) = cause ≢ 1
NotFetch a = Unit {0}

not-choice : (b : Bool) (a k : Action) → NotFetch a → NotFetch k → NotFetch (if b then a else k)
not-choice x a k p q = grind arith

not-over : (rd target : ℕ) (frame : Frame) → NotFetch (returned_over rd target frame)
not-over rd target frame = search (arith, not-choice, frame.back)

not-return : (rd target : ℕ) (o : Option Frame) → NotFetch (option_map_or (returned_over rd target) o (Traps 18 target))
not-return rd target None = λ e. let z : ⊥ = omega (arith, e) in z
not-return rd target (Some frame) = not-over rd target frame

not-effect : (r : Reads) (c : Core) (h : ℕ) (x : Hart) (f : Effect) → HasOwnCause f →
    NotFetch (by_effect r c h x f).action
not-effect r c h x x1 p = grind (arith, not-choice, not-return)

not-word : (r : Reads) (c : Core) (h : ℕ) (x : Hart) (word : ℕ) (o : Option Inst) →
    NotFetch (by_word r c h x word o).action
not-word r c h x word None = λ e. let z : ⊥ = omega (arith, e) in z
not-word r c h x word (Some inst) = not-effect r c h x (effect inst x.regs x.pc) (cause-effect inst x.regs x.pc)

not-trap : (a : Action) (value : ℕ) → NotFetch a → a ≡ Traps 1 value → ⊥
not-trap a value p e = (subst NotFetch e p) refl

-- a fetch that is denied
fetch-denied : (r : Reads) (c : Core) (h : ℕ) (x : Hart) (b : Bool) →
    ((fetches r c h x b).action ≡ Traps 1 x.pc) ↔ (b ≡ true)
fetch-denied r c h x x1 = grind (arith, not-trap, not-word)

-- a fault where a test says so, and another action where it doesn't
choice-denied : (b : Bool) (cause value : ℕ) (a : Action) → (a ≡ Traps cause value → ⊥) →
    ((if b then Traps cause value else a) ≡ Traps cause value) ↔ (b ≡ true)
choice-denied x cause value a n = grind arith

-- two equivalences in a row
pub through : {P Q R : Type 0} → P ↔ Q → Q ↔ R → P ↔ R
through a b = (λ p. b.0 (a.0 p), λ r. a.1 (b.1 r))

-- a turn of hart h does an action, in a state that is ready for it but for caches
pub record Does (r : Reads) (c : Core) (h : ℕ) (a : Action) : Type 0 where
  pub caches : List Cache
  pub is : turned r c h ≡ acted r (record (ready c h) { caches = caches }) h (hart_at c h) a

pub does-action : (r : Reads) (c : Core) (h : ℕ) (a k : Action) → a ≡ k → Does r c h a → Does r c h k
does-action r c h a k e d = subst (Does r c h) e d

pub traps-does : (r : Reads) (c : Core) (h : ℕ) (a : Action) (cause value : ℕ) → Does r c h a →
    TrapsWith r c h cause value ↔ (a ≡ Traps cause value)
traps-does r c h a cause value d = search (arith, trap-turned, ready)

pub does-looked : (r : Reads) (c : Core) (h : ℕ) (d : Decided) → turned r c h ≡ acts r (ready c h) h (hart_at c h) d →
    Does r c h d.action
does-looked r c h d e = record {
  caches = (looked_all r h d.looks (ready c h)).caches;
  is = e ∙ ap (λ (f : Core). acted r f h (hart_at c h) d.action) (looked_all-caches r h d.looks (ready c h));
}

does-fetch : (s : State) (h : ℕ) → Fetches s h →
    let x = hart_at s.core h in Does (reads s) s.core h
    (fetches (reads s) (ready s.core h) h x (is_denied (reads s) s.core x.domain x.pc A.Execute)).action
does-fetch s h f =
    does-looked (reads s) s.core h (runs_at (reads s) (ready s.core h) h (hart_at s.core h) None)
    (turned-fetches (reads s) s.core h (hart_at s.core h) (search arith))

pub fetch-exactly : (s : State) (h : ℕ) → Fetches s h →
    traps_with s h 1 (hart_at s.core h).pc ↔ IsDenied s (domain_at s.core h) (hart_at s.core h).pc A.Execute
fetch-exactly s h f =
    let x = hart_at s.core h in
    let r = reads s in
    let b = is_denied r s.core x.domain x.pc A.Execute in
    through (traps-does r s.core h (fetches r (ready s.core h) h x b).action 1 x.pc (does-fetch s h f))
    (through (fetch-denied r (ready s.core h) h x b) (denied-test s x.domain x.pc A.Execute))

-- an instruction is carried out
pub does-instruction : (s : State) (h : ℕ) (inst : Inst) → Executes s h inst →
    let x = hart_at s.core h in Does (reads s) s.core h
    (by_effect (reads s) (ready s.core h) h x (effect inst x.regs x.pc)).action
does-instruction s h inst k =
    let x = hart_at s.core h in
    let r = reads s in
    does-action r s.core h (fetches r (ready s.core h) h x (is_denied r s.core x.domain x.pc A.Execute)).action
    (by_effect r (ready s.core h) h x (effect inst x.regs x.pc)).action
    (cc (allowed-test s x.domain x.pc A.Execute k.allowed, k.word))
    (does-fetch s h k.fetches)

-- an access: aligned it does one action where it is denied and another where it isn't, and misaligned a third
access-exactly : (s : State) (h address size : ℕ) (access : Access) (denied crooked : ℕ) (by : Bool → Action) (a : Action) →
    (a ≡ Traps denied address → ⊥) →
    by true ≡ (if is_denied (reads s) s.core (domain_at s.core h) address access then Traps denied address else a) →
    by false ≡ Traps crooked address → Does (reads s) s.core h (by (address % size == 0)) →
    FaultsExactly s h address size access denied crooked
access-exactly s h address size access denied crooked by a n straight bent d =
    let r = reads s in
    let b = is_denied r s.core (domain_at s.core h) address access in
    record {
      aligned = λ e.
          through (search (arith, traps-does, s.core, does-action, eq-eqb))
          (through
          (subst (λ (k : Action). (k ≡ Traps denied address) ↔ (b ≡ true)) (sym straight) (choice-denied b denied address a n))
          (denied-test s (domain_at s.core h) address access));
      misaligned = search (arith, traps-does, s.core, does-action, ne_eqb);
    }

pub load-exactly : (s : State) (h rd base offset : ℕ) (width : LoadWidth) → Executes s h (Load width rd base offset) →
    FaultsExactly s h (address_by s h base offset) (load_size width) A.Read 5 4
unfolding effect
load-exactly s h rd base offset width k =
    let address = address_by s h base offset in
    access-exactly s h address (load_size width) A.Read 5 4
    (λ (b : Bool). (by_effect (reads s) (ready s.core h) h (hart_at s.core h)
    (if b then Loads base address width rd else Faults 4 address)).action) _ (λ q. let z : ⊥ = cc in z) refl refl
    (does-instruction s h (Load width rd base offset) k)

pub store-exactly : (s : State) (h base from offset : ℕ) (width : StoreWidth) →
    Executes s h (Store width base from offset) →
    FaultsExactly s h (address_by s h base offset) (store_size width) A.Write 7 6
unfolding effect
store-exactly s h base from offset width k =
    let address = address_by s h base offset in
    let size = store_size width in
    let x = hart_at s.core h in
    access-exactly s h address size A.Write 7 6
    (λ (b : Bool). (by_effect (reads s) (ready s.core h) h x
    (if b then Stores base address size (reg x.regs from) else Faults 6 address)).action) _ (λ q. cc) refl refl
    (does-instruction s h (Store width base from offset) k)
