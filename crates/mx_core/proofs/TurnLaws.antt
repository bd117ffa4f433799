-- One instruction over a bus is a turn of the machine, where no call gate stands.
use Rattle.std.proofs.Common.{◌≡◌, ℕ, Bool, true, false, ◌==◌, ◌%◌, List, ◌∷◌, ◌++◌, refl, sym, ◌∙◌, ap, if◌then◌else◌, Option, Some, None}
use Rattle.std.proofs.lemmas.List.{append-nil}
use Rattle.mx_isa.specs.declared.inst.Inst.{Inst}
use Rattle.mx_isa.specs.Table.{decoded}
use Rattle.mx_words.specs.Caches.{Cache}
use Rattle.mx_words.specs.declared.perm.Access.TheVariants as A
use Rattle.mx_model.specs.Checks.{Look, looks_at}
use Rattle.mx_model.specs.Effect.{Effect, Goes, Faults, Loads, Stores, Calls, Jumps, by_target, written, next, load_size, loaded}
use Rattle.mx_model.specs.Reads.{Reads}
use Rattle.mx_model.specs.State.{Core, Hart}
use Rattle.mx_model.specs.Turn.{Runs, Traps, Writes, acted, after_look, at_return, by_effect, is_denied, is_return_at, jump_action, perm_of}
use Rattle.mx_model.specs.Turn.{runs_at}
use Rattle.mx_model.specs.Turn.{load_at as model_load_at}
use Rattle.mx_model.proofs.TurnCases.{effect_of_fetch, effect_of_word, runs-by_effect}
use Rattle.mx_core.specs.declared.outcome.Outcome.TheVariants.{Next, Back}
use Rattle.mx_core.specs.Bus.{denied, load_at, store_at}
use Rattle.mx_core.specs.Exec.{action_of, after_fetch, bytes_after, bytes_in, effect_in, effect_of, fetch_touch, fetched, looks_of}
use Rattle.mx_core.specs.Exec.{outcome_in, outcome_of, regs_after, regs_in, returns_in, touches_of, trap}

-- both crates fetch alike
word-alike : (hart : Hart) (word : ℕ) (o : Option Inst) → effect_of_word hart word o ≡ effect_of hart.regs hart.pc word o
word-alike hart word None = refl
word-alike hart word (Some inst) = refl

fetch-alike : (c : Core) (hart : Hart) (b : Bool) → effect_of_fetch c hart b ≡ after_fetch c.ram hart.regs hart.pc b
unfolding load_at
fetch-alike c hart true = refl
fetch-alike c hart false = word-alike hart (model_load_at c hart.pc 4) (decoded (model_load_at c hart.pc 4))

pub effect-alike : (r : Reads) (c : Core) (hart : Hart) → effect_of_fetch c hart (is_denied r c hart.domain hart.pc A.Execute)
    ≡ effect_in r c hart
unfolding fetched denied
effect-alike r c hart = fetch-alike c hart (is_denied r c hart.domain hart.pc A.Execute)

runs-alike : (r : Reads) (c : Core) (h : ℕ) (hart : Hart) →
    runs_at r c h hart None ≡ after_look (looks_at c 0 hart.domain hart.pc) (by_effect r c h hart (effect_in r c hart))
runs-alike r c h hart =
    runs-by_effect r c h hart ∙ ap (λ (e : Effect). after_look (looks_at c 0 hart.domain hart.pc) (by_effect r c h hart e))
    (effect-alike r c hart)

-- the looks of an effect are its touches
effect-looks : (r : Reads) (c : Core) (h : ℕ) (hart : Hart) (e : Effect)
    → (by_effect r c h hart e).looks ≡ looks_of c hart.domain (touches_of e)
unfolding touches_of
effect-looks r c h hart (Goes regs pc) = refl
effect-looks r c h hart (Faults cause value) = refl
effect-looks r c h hart (Loads place address width rd) = sym (append-nil (looks_at c place hart.domain address))
effect-looks r c h hart (Stores place address size value) = sym (append-nil (looks_at c place hart.domain address))
effect-looks r c h hart Calls = refl
effect-looks r c h hart (Jumps rd target) = refl

pub looks-alike : (r : Reads) (c : Core) (h : ℕ) (hart : Hart) →
    (runs_at r c h hart None).looks ≡ looks_of c hart.domain (fetch_touch hart.pc ∷ touches_of (effect_in r c hart))
looks-alike r c h hart =
    ap (λ d. d.looks) (runs-alike r c h hart) ∙ ap (λ (ls : List Look). looks_at c 0 hart.domain hart.pc ++ ls)
    (effect-looks r c h hart (effect_in r c hart))

-- what is done by an effect's action is what is done by its answer
abbrev DoneAlike : Reads → Core → ℕ → Hart → List Cache → Effect → Type 0
DoneAlike r c h hart k e =
    let perm = perm_of r c hart.domain in
    let returns = returns_in c hart in
    acted r (record c { caches = k }) h hart (by_effect r c h hart e).action
    ≡ acted r (record c { ram = bytes_after perm c.ram e; caches = k }) h hart
    (action_of h hart (regs_after perm c.ram hart.regs hart.pc returns e) (outcome_of perm hart.pc returns e))

done-alike : (r : Reads) (c : Core) (h : ℕ) (hart : Hart) (k : List Cache) (e : Effect) → DoneAlike r c h hart k e
unfolding outcome_of regs_after bytes_after denied load_at store_at
done-alike r c h hart k (Goes regs pc) = refl
done-alike r c h hart k (Faults cause value) = refl
done-alike r c h hart k (Loads place address width rd) =
    let new = written hart.regs rd (loaded width (model_load_at c address (load_size width))) in
    elim (is_denied r c hart.domain address A.Read) as (λ b. acted r (record c { caches = k }) h hart
    (if b then Traps 5 address else Runs new (next hart.pc))
    ≡ acted r (record c { caches = k }) h hart (action_of h hart (if b then hart.regs else new)
    (if b then trap 5 address else Next (next hart.pc)))) [ true ↦ refl | false ↦ refl ]
done-alike r c h hart k (Stores place address size value) =
    elim (is_denied r c hart.domain address A.Write) as (λ b.
    acted r (record c { caches = k }) h hart (if b then Traps 7 address else Writes address size value)
    ≡ acted r (record c { ram = if b then c.ram else store_at c.ram address size value; caches = k }) h hart
    (action_of h hart hart.regs (if b then trap 7 address else Next (next hart.pc)))) [
      | true ↦ refl
      | false ↦ refl
    ]
done-alike r c h hart k Calls = refl
done-alike r c h hart k (Jumps rd target) =
    let new = written hart.regs rd (next hart.pc) in
    let e = record c { caches = k } in
    elim (is_return_at c hart.domain hart.pc) as (λ b. acted r e h hart (if b then at_return hart rd target else jump_action hart rd target)
    ≡ acted r e h hart (action_of h hart (if b then hart.regs else by_target target new hart.regs)
    (if b then Back rd target else by_target target (Next target) (trap 0 target)))) [
      | true ↦ refl
      | false ↦ elim (target % 4 == 0) as (λ b. acted r e h hart (if b then Runs new target else Traps 0 target)
          ≡ acted r e h hart (action_of h hart (if b then new else hart.regs) (if b then Next target else trap 0 target))) [
            | true ↦
                refl
            | false ↦ refl
          ]
    ]

pub actions-alike : (r : Reads) (c : Core) (h : ℕ) (hart : Hart) (caches : List Cache) →
    acted r (record c { caches = caches }) h hart (runs_at r c h hart None).action
    ≡ acted r (record c { ram = bytes_in r c hart; caches = caches }) h hart (action_of h hart (regs_in r c hart) (outcome_in r c hart))
actions-alike r c h hart caches =
    ap (λ d. acted r (record c { caches = caches }) h hart d.action) (runs-alike r c h hart)
    ∙ done-alike r c h hart caches (effect_in r c hart)
