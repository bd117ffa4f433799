-- What a hart decides keeps inside a closed set of domains, and a store is one that its domain may make.
use Rattle.std.proofs.Common.{◌≡◌, ℕ, ◌%◌, Bool, true, false, not, cond, nat_le, ◌==◌, List, length, refl, sym, subst, eqb-true}
use Rattle.std.proofs.Common.{if◌then◌else◌, Option, Some, None}
use Rattle.std.specs.Prelude.{IfSome}
use Rattle.std.specs.Option.{option_map_or}
use Rattle.std.specs.List.{AllByRecursion}
use Rattle.std.proofs.lemmas.Bool.{and_parts}
use Rattle.mx_words.specs.declared.perm.Access.TheVariants as A
use Rattle.mx_words.specs.Bytes.{IsSize}
use Rattle.mx_words.specs.Ranges.{word_of}
use Rattle.mx_isa.specs.declared.inst.Inst.{Inst}
use Rattle.mx_isa.specs.Table.{decoded}
use Rattle.mx_model.specs.declared.values.Call.{Call}
use Rattle.mx_model.specs.declared.values.Frame.{Frame}
use Rattle.mx_model.specs.declared.values.Gate.{Gate}
use Rattle.mx_model.specs.Checks.{is_ready}
use Rattle.mx_model.specs.Effect.{Effect, Goes, Faults, Loads, Stores, Calls, Jumps, effect, reg, written, next, load_size, loaded}
use Rattle.mx_model.specs.Gates.{call_gate, call_target, gate_at, is_at, most_frames, top}
use Rattle.mx_model.specs.Reads.{Reads}
use Rattle.mx_model.specs.State.{Core, Hart, Status, Running, Waiting, Halted, hart_at, module_at}
use Rattle.mx_model.specs.Turn.{Action, Rests, Waits, Serves, Asks, Traps, Bounces, Crosses, Returns, Runs, Writes, Decided, without_look}
use Rattle.mx_model.specs.Turn.{traps, is_denied, call_gate_at, is_return_at, load_at, at_gate, returned_over, at_return, jump_action}
use Rattle.mx_model.specs.Turn.{by_effect, by_word, fetches, runs_at, runs_in, by_status, decide}
use Rattle.mx_model.specs.Valid.{IsStatus}
use Rattle.mx_model.proofs.AlignedLaws.{IsAligned, aligned-effect}
use Rattle.mx_model.proofs.ListLaws.{all-find, all-last, found-passes}
use Rattle.mx_audit.proofs.LiveLaws.{IsHome, Leads}

-- a store that a domain may make: it isn't denied, it has a size of an access, and it is aligned
abbrev pub IsStore : Reads → Core → ℕ → ℕ → ℕ → Type 0
IsStore r c d address size = (is_denied r c d address A.Write ≡ false) × IsSize size × (address % size ≡ 0)

-- what an action needs to keep inside the set
abbrev pub IsInside : (ℕ → Type 0) → Reads → Core → Hart → Action → Type 0
IsInside L r c hart Rests = Unit {0}
IsInside L r c hart Waits = Unit {0}
IsInside L r c hart (Serves call) = L call.domain
IsInside L r c hart (Asks call) = L call.domain
IsInside L r c hart (Traps cause value) = Unit {0}
IsInside L r c hart Bounces = Unit {0}
IsInside L r c hart (Crosses target) = L target
IsInside L r c hart (Returns rd frame) = L frame.caller
IsInside L r c hart (Runs regs pc) = Unit {0}
IsInside L r c hart (Writes address size value) = IsStore r c hart.domain address size

inside-choice : (L : ℕ → Type 0) (r : Reads) (c : Core) (hart : Hart) (b : Bool) (d e : Action) →
    (b ≡ true → IsInside L r c hart d) → (b ≡ false → IsInside L r c hart e) → IsInside L r c hart (cond b d e)
inside-choice L r c hart true d e p q = p refl
inside-choice L r c hart false d e p q = q refl

decided-choice : (L : ℕ → Type 0) (r : Reads) (c : Core) (hart : Hart) (b : Bool) (d e : Decided) →
    IsInside L r c hart d.action → IsInside L r c hart e.action → IsInside L r c hart (if b then d else e).action
decided-choice L r c hart true d e p q = p
decided-choice L r c hart false d e p q = q

-- at a call gate
inside-at_gate : (L : ℕ → Type 0) (r : Reads) (c : Core) (hart : Hart) (target : ℕ) → L target
    → IsInside L r c hart (at_gate c hart target).action
inside-at_gate L r c hart target p =
    decided-choice L r c hart (not (reg hart.regs 1 % 4 == 0)) (traps 19 (reg hart.regs 1)) _ tt
    (decided-choice L r c hart (module_at c target).dead (without_look Bounces) _ tt
    (decided-choice L r c hart (nat_le most_frames (length hart.frames)) (traps 16 hart.pc) (without_look (Crosses target)) tt p))

-- at a return gate
inside-over : (L : ℕ → Type 0) (r : Reads) (c : Core) (hart : Hart) (rd target : ℕ) (o : Option Frame) → IfSome o (λ f. L f.caller) →
    IsInside L r c hart (option_map_or (returned_over rd target) o (Traps 18 target))
inside-over L r c hart rd target None p = tt
inside-over L r c hart rd target (Some frame) p = inside-choice L r c hart (frame.back == target) (Returns rd frame) (Traps 17 target) (λ e.
    p) (λ e. tt)

inside-by_effect : (L : ℕ → Type 0) (r : Reads) (c : Core) (h : ℕ) (hart : Hart) (e : Effect) → IsHome L hart → IsAligned e →
    IsInside L r c hart (by_effect r c h hart e).action
inside-by_effect L r c h hart (Goes regs pc) p q = tt
inside-by_effect L r c h hart (Faults cause value) p q = tt
inside-by_effect L r c h hart (Loads a address width rd) p q =
    inside-choice L r c hart (is_denied r c hart.domain address A.Read) (Traps 5 address)
    (Runs (written hart.regs rd (loaded width (load_at c address (load_size width)))) (next hart.pc)) (λ e. tt) (λ e. tt)
inside-by_effect L r c h hart (Stores a address size value) p q =
    inside-choice L r c hart (is_denied r c hart.domain address A.Write) (Traps 7 address) (Writes address size value)
    (λ e. tt) (λ e. (e, q.0, q.1))
inside-by_effect L r c h hart Calls p q = p.0
inside-by_effect L r c h hart (Jumps rd target) p q =
    inside-choice L r c hart (is_return_at c hart.domain hart.pc) (at_return hart rd target) (jump_action hart rd target)
    (λ e. inside-over L r c hart rd target (top hart.frames) (all-last (λ (f : Frame). L f.caller) hart.frames None p.1 tt))
    (λ e. inside-choice L r c hart (target % 4 == 0) (Runs (written hart.regs rd (next hart.pc)) target) (Traps 0 target) (λ f. tt) (λ f.
    tt))

inside-by_word : (L : ℕ → Type 0) (r : Reads) (c : Core) (h : ℕ) (hart : Hart) (word : ℕ) (o : Option Inst) → IsHome L hart →
    IsInside L r c hart (by_word r c h hart word o).action
inside-by_word L r c h hart word None p = tt
inside-by_word L r c h hart word (Some inst) p = inside-by_effect L r c h hart (effect inst hart.regs hart.pc) p
    (aligned-effect inst hart.regs hart.pc)

inside-fetches : (L : ℕ → Type 0) (r : Reads) (c : Core) (h : ℕ) (hart : Hart) (b : Bool) → IsHome L hart
    → IsInside L r c hart (fetches r c h hart b).action
inside-fetches L r c h hart true p = tt
inside-fetches L r c h hart false p = inside-by_word L r c h hart (load_at c hart.pc 4) (decoded (load_at c hart.pc 4)) p

inside-runs_at : (L : ℕ → Type 0) (r : Reads) (c : Core) (h : ℕ) (hart : Hart) (o : Option ℕ) → IsHome L hart → IfSome o L →
    IsInside L r c hart (runs_at r c h hart o).action
inside-runs_at L r c h hart (Some target) p q = inside-at_gate L r c hart target q
inside-runs_at L r c h hart None p q = inside-fetches L r c h hart (is_denied r c hart.domain hart.pc A.Execute) p

-- the target of a call gate of a domain in the set
target-in : (L : ℕ → Type 0) (d word : ℕ) (g : Gate) → L d → Leads L g → is_at d word g ≡ true → IfSome (call_target g) L
target-in L d word g p q e =
    let own : g.domain ≡ d = eqb-true g.domain d (and_parts (g.domain == d) (g.word == word) e).0 in
    elim (g.target == g.domain) as (λ b. IfSome (cond b None (Some g.target)) L) [ true ↦ tt | false ↦ q (subst L (sym own) p) ]

target-some : (L : ℕ → Type 0) (d word : ℕ) (o : Option Gate) → L d → IfSome o (Leads L) → IfSome o (λ g. is_at d word g ≡ true) →
    IfSome (option_map_or call_target o None) L
target-some L d word None p q e = tt
target-some L d word (Some g) p q e = target-in L d word g p q e

target-at : (L : ℕ → Type 0) (gates : List Gate) (d : ℕ) (o : Option ℕ) → L d → AllByRecursion (Leads L) gates
    → IfSome (option_map_or (call_gate gates d) o None) L
target-at L gates d None p q = tt
target-at L gates d (Some w) p q = target-some L d w (gate_at gates d w) p (all-find (Leads L) (is_at d w) gates q)
    (found-passes (is_at d w) gates)

inside-runs_in : (L : ℕ → Type 0) (r : Reads) (c : Core) (h : ℕ) (hart : Hart) (b : Bool) → IsHome L hart
    → AllByRecursion (Leads L) c.gates →
    IsInside L r c hart (runs_in r c h hart b).action
inside-runs_in L r c h hart true p q = tt
inside-runs_in L r c h hart false p q =
    inside-runs_at L r c h hart (call_gate_at c hart.domain hart.pc) p (target-at L c.gates hart.domain (word_of hart.pc c.size) p.0 q)

inside-by_status : (L : ℕ → Type 0) (r : Reads) (c : Core) (h : ℕ) (hart : Hart) (s : Status) → IsHome L hart
    → AllByRecursion (Leads L) c.gates → IsStatus (length c.harts) h hart s →
    IsInside L r c hart (by_status r c h hart s).action
inside-by_status L r c h hart Running p q s = inside-runs_in L r c h hart (module_at c hart.domain).dead p q
inside-by_status L r c h hart (Waiting call heard) p q s =
    inside-choice L r c hart (is_ready c h heard) (Serves call) Waits (λ e. subst (λ (k : Call). L k.domain) (sym s.own) p.0) (λ e. tt)
inside-by_status L r c h hart (Halted code) p q s = tt

-- what a hart decides
pub inside-decide : (L : ℕ → Type 0) (r : Reads) (c : Core) (h : ℕ) → IsHome L (hart_at c h) → AllByRecursion (Leads L) c.gates →
    IsStatus (length c.harts) h (hart_at c h) (hart_at c h).status → IsInside L r c (hart_at c h) (decide r c h).action
inside-decide L r c h p q s = inside-by_status L r c h (hart_at c h) (hart_at c h).status p q s
