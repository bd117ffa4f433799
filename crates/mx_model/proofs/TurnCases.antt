-- What a turn is, by the hart as it is read before it: halted, waiting, in a dead domain, at a call gate, or at an instruction.
use Rattle.std.proofs.Common.{◌≡◌, ℕ, ◌<◌, ◌≤◌, Bool, true, false, cond, nat_lt, List, [], ◌∷◌, length, get_or, refl, sym, ◌∙◌, ap, subst}
use Rattle.std.proofs.Common.{zero-add, if◌then◌else◌, Option, Some, None, arith}
use Rattle.std.proofs.Common.{map as list_map}
use Rattle.std.specs.List.{enumerate_from}
use Rattle.std.proofs.Math.ListN.{get_or-eq_default}
use Rattle.std.proofs.lemmas.Bool.{eq-eqb, ltb-true, ltb-false}
use Rattle.std.proofs.lemmas.List.{length-map, get_or-map}
use Rattle.std.proofs.lemmas.List.FromFn.{length-enumerate_from, get_or-enumerate_from}
use Rattle.mx_isa.specs.declared.inst.Inst.{Inst}
use Rattle.mx_isa.specs.Table.{decoded}
use Rattle.mx_words.specs.declared.perm.Access.TheVariants as A
use Rattle.mx_model.specs.declared.values.Call.{Call}
use Rattle.mx_model.specs.declared.values.TurnKind.TheVariants as T
use Rattle.mx_model.specs.Checks.{Look, hears, heard_by, is_halted, is_ready, looked, looked_all, looks_at}
use Rattle.mx_model.specs.Effect.{Effect, Faults, effect}
use Rattle.mx_model.specs.Reads.{Reads}
use Rattle.mx_model.specs.State.{Core, Hart, Status, Running, Waiting, Halted, no_hart, hart_at, module_at}
use Rattle.mx_model.specs.Turn.{Decided, Made, Serves, Waits, acted, after_look, by_effect, by_status, by_word, call_gate_at, counted}
use Rattle.mx_model.specs.Turn.{fetches, heard_first, is_denied, load_at, made, runs_at, runs_in, served, trapped, turned}
use Rattle.mx_model.proofs.ValidParts.{hearing}

-- looks change caches alone
pub looked_all-caches : (r : Reads) (h : ℕ) (looks : List Look) (c : Core)
    → looked_all r h looks c ≡ record c { caches = (looked_all r h looks c).caches }
looked_all-caches r h [] c = refl
looked_all-caches r h (l ∷ ls) c = looked_all-caches r h ls (looked r h c l)

-- a hart that hears the others' calls is as it was
heard-self : (h : ℕ) (harts : List Hart) → get_or (list_map (hearing h) (enumerate_from 0 harts)) h no_hart ≡ get_or harts h no_hart
heard-self h harts = elim (nat_lt h (length harts)) as (λ b. nat_lt h (length harts) ≡ b
    → get_or (list_map (hearing h) (enumerate_from 0 harts)) h no_hart ≡ get_or harts h no_hart) [
      | true ↦ λ e.
          let l : h < length harts = ltb-true h (length harts) e in
          let x = get_or harts h no_hart in
          let at : get_or (enumerate_from 0 harts) h (0, no_hart) ≡ (h, x) =
          get_or-enumerate_from 0 harts h (0, no_hart) l ∙ ap (λ (n : ℕ). (n, x)) (zero-add h) in
          get_or-map (hearing h) (enumerate_from 0 harts) h (0, no_hart) no_hart
          (subst (λ (n : ℕ). h < n) (sym (length-enumerate_from 0 harts)) l)
          ∙ ap (hearing h) at ∙ ap (λ (b : Bool). cond b x (record x { status = heard_by h x.status })) (eq-eqb h h refl)
      | false ↦ λ e.
          let l : length harts ≤ h = ltb-false h (length harts) e in
          let n : length (list_map (hearing h) (enumerate_from 0 harts)) ≡ length harts =
          length-map (enumerate_from 0 harts) (hearing h) ∙ length-enumerate_from 0 harts in
          get_or-eq_default (list_map (hearing h) (enumerate_from 0 harts)) no_hart (subst (λ (k : ℕ). k ≤ h) (sym n) l)
          ∙ sym (get_or-eq_default harts no_hart l)
    ] refl

pub hart-hears : (c : Core) (h : ℕ) → hart_at (hears h c) h ≡ hart_at c h
hart-hears c h = heard-self h c.harts

pub hart-heard_first : (c : Core) (h : ℕ) → hart_at (heard_first c h) h ≡ hart_at c h
hart-heard_first c h = elim (is_halted (hart_at c h).status) as (λ b. hart_at (cond b c (hears h c)) h ≡ hart_at c h) [
  | true ↦
      refl
  | false ↦ hart-hears c h
]

-- the state in which a hart acts: one more turn is made, and it has heard the others' calls
abbrev pub ready : Core → ℕ → Core
ready c h = hears h (counted c)

heard-by-status : (c : Core) (h : ℕ) (s : Status) → (hart_at c h).status ≡ s
    → heard_first (counted c) h ≡ (if is_halted s then counted c else ready c h)
heard-by-status c h s e = ap (λ (x : Status). if is_halted x then counted c else ready c h) e

-- a decided action done by a hart, after its looks
abbrev pub acts : Reads → Core → ℕ → Hart → Decided → Made
acts r c h hart d = acted r (looked_all r h d.looks c) h hart d.action

-- a turn by the hart's status
turned-by : (r : Reads) (c e : Core) (h : ℕ) (hart : Hart) (s : Status) → hart_at c h ≡ hart → hart.status ≡ s
    → heard_first (counted c) h ≡ e →
    turned r c h ≡ acts r e h hart (by_status r e h hart s)
turned-by r c e h hart s p q k = cc (hart-heard_first (counted c) h, p, k, q)

status-of : (c : Core) (h : ℕ) (hart : Hart) (s : Status) → hart_at c h ≡ hart → hart.status ≡ s → (hart_at c h).status ≡ s
status-of c h hart s p q = ap (λ (x : Hart). x.status) p ∙ q

-- halted, or not there
pub turned-halted : (r : Reads) (c : Core) (h : ℕ) (hart : Hart) (code : Option ℕ) → hart_at c h ≡ hart → hart.status ≡ Halted code →
    turned r c h ≡ made T.Idle (counted c)
turned-halted r c h hart code p q =
    turned-by r c (counted c) h hart (Halted code) p q (heard-by-status c h (Halted code) (status-of c h hart (Halted code) p q))

-- waiting on its own call, which may take effect or not
turned-waiting : (r : Reads) (c : Core) (h : ℕ) (hart : Hart) (call : Call) (heard : List Bool) (b : Bool) → hart_at c h ≡ hart
    → hart.status ≡ Waiting call heard →
    is_ready (ready c h) h heard ≡ b → turned r c h ≡ acted r (ready c h) h hart (if b then Serves call else Waits)
turned-waiting r c h hart call heard b p q e =
    turned-by r c (ready c h) h hart (Waiting call heard) p q
    (heard-by-status c h (Waiting call heard) (status-of c h hart (Waiting call heard) p q))
    ∙ ap (λ (x : Bool). acted r (ready c h) h hart (if x then Serves call else Waits)) e

pub turned-serves : (r : Reads) (c : Core) (h : ℕ) (hart : Hart) (call : Call) (heard : List Bool) → hart_at c h ≡ hart
    → hart.status ≡ Waiting call heard →
    is_ready (ready c h) h heard ≡ true → turned r c h ≡ served r (ready c h) h hart call
turned-serves r c h hart call heard p q e = turned-waiting r c h hart call heard true p q e

pub turned-waits : (r : Reads) (c : Core) (h : ℕ) (hart : Hart) (call : Call) (heard : List Bool) → hart_at c h ≡ hart
    → hart.status ≡ Waiting call heard →
    is_ready (ready c h) h heard ≡ false → turned r c h ≡ made T.Waited (ready c h)
turned-waits r c h hart call heard p q e = turned-waiting r c h hart call heard false p q e

-- running, in a dead domain
turned-running : (r : Reads) (c : Core) (h : ℕ) (hart : Hart) (b : Bool) → hart_at c h ≡ hart → hart.status ≡ Running
    → (module_at c hart.domain).dead ≡ b →
    turned r c h ≡ acts r (ready c h) h hart (runs_in r (ready c h) h hart b)
turned-running r c h hart b p q e =
    cc (turned-by r c (ready c h) h hart Running p q (heard-by-status c h Running (status-of c h hart Running p q)), e)

pub turned-dead : (r : Reads) (c : Core) (h : ℕ) (hart : Hart) → hart_at c h ≡ hart → hart.status ≡ Running
    → (module_at c hart.domain).dead ≡ true →
    turned r c h ≡ trapped (ready c h) h hart 20 hart.pc
turned-dead r c h hart p q e = turned-running r c h hart true p q e

-- running in a live domain, at a call gate or at none
pub record IsAlive (c : Core) (h : ℕ) (hart : Hart) (gate : Option ℕ) : Type 0 where
  pub now : hart_at c h ≡ hart
  pub running : hart.status ≡ Running
  pub alive : (module_at c hart.domain).dead ≡ false
  pub at : call_gate_at c hart.domain hart.pc ≡ gate

turned-alive : (r : Reads) (c : Core) (h : ℕ) (hart : Hart) (gate : Option ℕ) → IsAlive c h hart gate →
    turned r c h ≡ acts r (ready c h) h hart (runs_at r (ready c h) h hart gate)
turned-alive r c h hart gate p =
    turned-running r c h hart false p.now p.running p.alive ∙ ap (λ (x : Option ℕ).
    acts r (ready c h) h hart (runs_at r (ready c h) h hart x)) p.at

-- a fetch, denied or not, as an effect: a denied one faults by 1, and a word that is no instruction by 2
abbrev pub effect_of_word : Hart → ℕ → Option Inst → Effect
effect_of_word hart word None = Faults 2 word
effect_of_word hart word (Some inst) = effect inst hart.regs hart.pc

abbrev pub effect_of_fetch : Core → Hart → Bool → Effect
effect_of_fetch c hart true = Faults 1 hart.pc
effect_of_fetch c hart false = effect_of_word hart (load_at c hart.pc 4) (decoded (load_at c hart.pc 4))

by-word : (r : Reads) (c : Core) (h : ℕ) (hart : Hart) (word : ℕ) (o : Option Inst)
    → by_word r c h hart word o ≡ by_effect r c h hart (effect_of_word hart word o)
by-word r c h hart word None = refl
by-word r c h hart word (Some inst) = refl

pub fetches-by_effect : (r : Reads) (c : Core) (h : ℕ) (hart : Hart) (denied : Bool) →
    fetches r c h hart denied ≡ by_effect r c h hart (effect_of_fetch c hart denied)
fetches-by_effect r c h hart x = grind (arith, by-word)

-- where no call gate stands, the effect of the fetched instruction decides, after the look at pc
pub runs-by_effect : (r : Reads) (c : Core) (h : ℕ) (hart : Hart) → runs_at r c h hart None
    ≡ after_look (looks_at c 0 hart.domain hart.pc) (by_effect r c h hart
    (effect_of_fetch c hart (is_denied r c hart.domain hart.pc A.Execute)))
runs-by_effect r c h hart = search (arith, hart.domain, fetches-by_effect, hart.pc)

pub turned-fetches : (r : Reads) (c : Core) (h : ℕ) (hart : Hart) → IsAlive c h hart None →
    turned r c h ≡ acts r (ready c h) h hart (runs_at r (ready c h) h hart None)
turned-fetches r c h hart p = turned-alive r c h hart None p
