-- What a turn that carries out an instruction says of where its hart stands, and what one that traps says.
use Rattle.std.proofs.Common.{◌≡◌, ℕ, zero, suc, ◌%◌, ◌<◌, Bool, true, false, not, ◌==◌, ◌&&◌, ◌||◌, nat_le, List, [], ◌∷◌, drop, find}
use Rattle.std.proofs.Common.{length, slice_get, Option, Some, None, refl, sym, ap, subst, ◌∙◌, arith, eqb-true, if◌then◌else◌}
use Rattle.std.specs.List.{list_any}
use Rattle.std.specs.Option.{option_map_or}
use Rattle.std.proofs.lemmas.Bool.{or_left, or_parts}
use Rattle.std.proofs.lemmas.List.{get_or-set_same}
use Rattle.mx_words.specs.declared.perm.Access.TheVariants as A
use Rattle.mx_words.specs.declared.perm.Perm.{Perm}
use Rattle.mx_words.specs.declared.perm.Perm.TheVariants as P
use Rattle.mx_words.specs.Ranges.{word_of}
use Rattle.mx_words.specs.Rights.{allows, perm_at}
use Rattle.mx_model.specs.declared.values.Call.{Call}
use Rattle.mx_model.specs.declared.values.Gate.{Gate}
use Rattle.mx_model.specs.declared.values.TurnKind.{TurnKind}
use Rattle.mx_model.specs.declared.values.TurnKind.TheVariants as K
use Rattle.mx_model.specs.Checks.{is_halted, is_ready}
use Rattle.mx_model.specs.Gates.{call_target, gate_at, has_gate, is_at, most_frames}
use Rattle.mx_model.specs.Reads.{Reads, flat_reads, map_in}
use Rattle.mx_model.specs.Run.{flat_kind, flat_made}
use Rattle.mx_model.specs.State.{Core, Flat, Hart, Status, Running, Waiting, Halted, hart_at, module_at, no_hart}
use Rattle.mx_model.specs.Turn.{Action, Rests, Waits, Serves, Asks, Traps, Bounces, Crosses, Returns, Runs, Writes, Made, acted, asked}
use Rattle.mx_model.specs.Turn.{by_status, call_gate_at, fetches, is_denied, is_served_now, runs_at, runs_in, traps, turned, without_look}
use Rattle.mx_model.specs.Effect.{reg}
use Rattle.mx_model.proofs.KeepLaws.{keeps-turned}
use Rattle.mx_laws.proofs.QuietLaws.{same-turn}
use Rattle.mx_laws.proofs.TurnParts.{apart, by-action, there}
use Rattle.mx_laws.specs.Quiet.{may_tell}
use Rattle.mx_machine.specs.Turning.{turns_of}
use Rattle.mx_debug.specs.Entries.{IsClear, faults_in, is_entry, last_stood}
use Rattle.mx_debug.specs.Session.{is_running, is_trapped, stands}

-- lists that are read from place to place
pub some_drop : {X : Type 0} (xs : List X) (i : ℕ) (x : X) → Some x ≡ slice_get xs i → drop i xs ≡ x ∷ drop (suc i) xs
some_drop [] i x e = absurd (let q : ⊥ = cc in q)
some_drop (y ∷ ys) zero x e = let q : y ≡ x = cc in ap (λ z. z ∷ ys) q
some_drop (y ∷ ys) (suc i) x e = some_drop ys i x e

pub none_drop : {X : Type 0} (xs : List X) (i : ℕ) → None ≡ slice_get xs i → drop i xs ≡ []
none_drop [] zero e = refl
none_drop [] (suc i) e = refl
none_drop (y ∷ ys) zero e = absurd (let q : ⊥ = cc in q)
none_drop (y ∷ ys) (suc i) e = none_drop ys i e

pub some_below : {X : Type 0} (xs : List X) (i : ℕ) (x : X) → Some x ≡ slice_get xs i → i < length xs
some_below [] i x e = absurd (let q : ⊥ = cc in q)
some_below (y ∷ ys) zero x e = omega arith
some_below (y ∷ ys) (suc i) x e = let l = some_below ys i x e in omega (arith, l)

-- none of these addresses is one that passes
differs : (p : ℕ → Bool) (b x : ℕ) → p b ≡ false → p x ≡ true → (b == x) ≡ false
differs p b x out here = elim (b == x) as (λ v. (b == x) ≡ v → v ≡ false) [
  | true ↦ λ e.
      let same : x ≡ b = sym (eqb-true b x e) in
      let k : true ≡ false = sym here ∙ ap p same ∙ out in
      absurd (let q : ⊥ = cc in q)
  | false ↦ λ e. refl
] refl

any_apart : (p : ℕ → Bool) (x : ℕ) (bs : List ℕ) → list_any p bs ≡ false → p x ≡ true → list_any (λ b. b == x) bs ≡ false
any_apart p x [] none here = refl
any_apart p x (b ∷ bs) none here =
    let parts = or_parts (p b) (list_any p bs) none in
    ap (λ v. v || list_any (λ y. y == x) bs) (differs p b x parts.0 here) ∙ any_apart p x bs parts.1 here

find_none : {X : Type 0} (p : X → Bool) (xs : List X) → list_any p xs ≡ false → find p xs ≡ None
find_none p [] none = refl
find_none p (x ∷ xs) none =
    let parts = or_parts (p x) (list_any p xs) none in
    ap (λ b. if b then Some x else find p xs) parts.0 ∙ find_none p xs parts.1

-- where a domain has no gate at all, it has no call gate
no_call : (gates : List Gate) (d : ℕ) (w : Option ℕ) → option_map_or (has_gate gates d) w false ≡ false
    → option_map_or (λ word. option_map_or call_target (gate_at gates d word) None) w None ≡ None
no_call gates d None e = refl
no_call gates d (Some word) e = ap (λ (g : Option Gate). option_map_or call_target g None) (find_none (is_at d word) gates e)

not_true : (b : Bool) → not b ≡ false → b ≡ true
not_true true e = refl
not_true false e = absurd (let q : ⊥ = cc in q)

pub no_entry : (r : Reads) (c : Core) (d address : ℕ) → is_entry r c d address ≡ false
    → (is_denied r c d address A.Execute ≡ true) × (call_gate_at c d address ≡ None)
no_entry r c d address e =
    let parts = or_parts (not (is_denied r c d address A.Execute)) (option_map_or (has_gate c.gates d) (word_of address c.size) false) e in
    (not_true (is_denied r c d address A.Execute) parts.0, no_call c.gates d (word_of address c.size) parts.1)

-- an action
quiet_asked : (r : Reads) (c : Core) (h : ℕ) (x : Hart) (call : Call) (b : Bool) → (asked r c h x call b).kind ≡ K.Called
quiet_asked r c h x call true = refl
quiet_asked r c h x call false = refl

-- what one that carries out an instruction leaves
pub record RunsOn (old : List Gate) (d h : ℕ) (e : Core) : Type 0 where
  pub gates : e.gates ≡ old
  pub domain : (hart_at e h).domain ≡ d
  pub status : (hart_at e h).status ≡ Running

runs_acted : (r : Reads) (c : Core) (h : ℕ) (x : Hart) (a : Action) → h < length c.harts → (acted r c h x a).kind ≡ K.Ran
    → RunsOn c.gates x.domain h (acted r c h x a).core
runs_acted r c h x Rests l e = absurd (let q : ⊥ = cc in q)
runs_acted r c h x Waits l e = absurd (let q : ⊥ = cc in q)
runs_acted r c h x (Serves call) l e = absurd (let q : ⊥ = cc in q)
runs_acted r c h x (Asks call) l e = let k = quiet_asked r c h x call (is_served_now c h call) in absurd (let q : ⊥ = cc (k, e) in q)
runs_acted r c h x (Traps cause value) l e = absurd (let q : ⊥ = cc in q)
runs_acted r c h x Bounces l e = absurd (let q : ⊥ = cc in q)
runs_acted r c h x (Crosses target) l e = absurd (let q : ⊥ = cc in q)
runs_acted r c h x (Returns rd frame) l e = absurd (let q : ⊥ = cc in q)
runs_acted r c h x (Runs regs pc) l e =
    let same = get_or-set_same c.harts h (record x { regs = regs; pc = pc; status = Running }) no_hart l in
    record { gates = refl; domain = ap (λ (y : Hart). y.domain) same; status = ap (λ (y : Hart). y.status) same }
runs_acted r c h x (Writes address size value) l e =
    let m = acted r c h x (Writes address size value) in
    let same : hart_at m.core h ≡ record x { pc = _; status = Running } = get_or-set_same c.harts h _ no_hart l in
    record { gates = refl; domain = ap (λ (y : Hart). y.domain) same; status = ap (λ (y : Hart). y.status) same }

-- what one that traps tells
tells_acted : (r : Reads) (c : Core) (h : ℕ) (x : Hart) (a : Action) (breaks : List ℕ) → (acted r c h x a).kind ≡ K.Trapped
    → faults_in breaks (acted r c h x a).note ≡ list_any (λ b. b == x.pc) breaks
tells_acted r c h x Rests breaks e = absurd (let q : ⊥ = cc in q)
tells_acted r c h x Waits breaks e = absurd (let q : ⊥ = cc in q)
tells_acted r c h x (Serves call) breaks e = absurd (let q : ⊥ = cc in q)
tells_acted r c h x (Asks call) breaks e = let k = quiet_asked r c h x call (is_served_now c h call) in absurd (let q : ⊥ = cc (k, e) in q)
tells_acted r c h x (Traps cause value) breaks e = refl
tells_acted r c h x Bounces breaks e = absurd (let q : ⊥ = cc in q)
tells_acted r c h x (Crosses target) breaks e = absurd (let q : ⊥ = cc in q)
tells_acted r c h x (Returns rd frame) breaks e = absurd (let q : ⊥ = cc in q)
tells_acted r c h x (Runs regs pc) breaks e = absurd (let q : ⊥ = cc in q)
tells_acted r c h x (Writes address size value) breaks e = absurd (let q : ⊥ = cc in q)

-- and it adds nothing to the console
silent_acted : (r : Reads) (c : Core) (h : ℕ) (x : Hart) (a : Action) → (acted r c h x a).kind ≡ K.Trapped → (acted r c h x a).console ≡ []
silent_acted r c h x Rests e = absurd (let q : ⊥ = cc in q)
silent_acted r c h x Waits e = absurd (let q : ⊥ = cc in q)
silent_acted r c h x (Serves call) e = absurd (let q : ⊥ = cc in q)
silent_acted r c h x (Asks call) e = let k = quiet_asked r c h x call (is_served_now c h call) in absurd (let q : ⊥ = cc (k, e) in q)
silent_acted r c h x (Traps cause value) e = refl
silent_acted r c h x Bounces e = absurd (let q : ⊥ = cc in q)
silent_acted r c h x (Crosses target) e = absurd (let q : ⊥ = cc in q)
silent_acted r c h x (Returns rd frame) e = absurd (let q : ⊥ = cc in q)
silent_acted r c h x (Runs regs pc) e = absurd (let q : ⊥ = cc in q)
silent_acted r c h x (Writes address size value) e = absurd (let q : ⊥ = cc in q)

-- what is decided: r, c and the state d in which it is
module _ (r : Reads) (c d : Core) (h : ℕ) (x : Hart) where
  fetched : (b : Bool) → (acted r c h x (fetches r d h x b).action).kind ≡ K.Ran → b ≡ false
  fetched true e = absurd (let q : ⊥ = cc in q)
  fetched false e = refl

  gated : (v w u : Bool) (target : ℕ) → (acted r c h x (if v then traps 19 (reg x.regs 1) else if w then without_look Bounces else if u then
      traps 16 x.pc else without_look (Crosses target)).action).kind ≡ K.Ran → ⊥
  gated true w u target e = cc
  gated false true u target e = cc
  gated false false true target e = cc
  gated false false false target e = cc

  run_at : (o : Option ℕ) → (acted r c h x (runs_at r d h x o).action).kind ≡ K.Ran → is_denied r d x.domain x.pc A.Execute ≡ false
  run_at (Some target) e = absurd (gated (not (reg x.regs 1 % 4 == 0)) (module_at d target).dead (nat_le most_frames (length x.frames))
      target e)
  run_at None e = fetched (is_denied r d x.domain x.pc A.Execute) e

  run_in : (b : Bool) → (acted r c h x (runs_in r d h x b).action).kind ≡ K.Ran → is_denied r d x.domain x.pc A.Execute ≡ false
  run_in true e = absurd (let q : ⊥ = cc in q)
  run_in false e = run_at (call_gate_at d x.domain x.pc) e

  waiting : (b : Bool) (call : Call) → (acted r c h x (if b then Serves call else Waits)).kind ≡ K.Ran → ⊥
  waiting true call e = cc
  waiting false call e = cc

  ran_by : (s : Status) → (acted r c h x (by_status r d h x s).action).kind ≡ K.Ran
      → (s ≡ Running) × (is_denied r d x.domain x.pc A.Execute ≡ false)
  ran_by Running e = (refl, run_in (module_at d x.domain).dead e)
  ran_by (Waiting call heard) e = absurd (waiting (is_ready d h heard) call e)
  ran_by (Halted code) e = absurd (let q : ⊥ = cc in q)

  -- where the domain may neither execute nor has a call gate, it traps
  trap_in : (b : Bool) → is_denied r d x.domain x.pc A.Execute ≡ true → call_gate_at d x.domain x.pc ≡ None
      → (acted r c h x (runs_in r d h x b).action).kind ≡ K.Trapped
  trap_in true denied gate = refl
  trap_in false denied gate =
      ap (λ (o : Option ℕ). (acted r c h x (runs_at r d h x o).action).kind) gate
      ∙ ap (λ b. (acted r c h x (fetches r d h x b).action).kind) denied

-- a turn of a hart
module _ (r : Reads) (c : Core) (h : ℕ) where
  abbrev own : Hart
  own = hart_at c h

  ran_parts : (turned r c h).kind ≡ K.Ran → (own.status ≡ Running) × (is_denied r c own.domain own.pc A.Execute ≡ false)
  ran_parts e =
      let t = by-action r c h in
      ran_by r (apart c t.turns t.harts t.after) (apart c t.turns t.harts t.before) h own own.status (ap (λ (m : Made). m.kind) (sym t.is)
      ∙ e)

  -- one that carries out an instruction began where the domain may execute
  pub ran_enters : (turned r c h).kind ≡ K.Ran → is_entry r c own.domain own.pc ≡ true
  ran_enters e =
      or_left (not (is_denied r c own.domain own.pc A.Execute)) (option_map_or (has_gate c.gates own.domain) (word_of own.pc c.size) false)
      (ap not (ran_parts e).1)

  pub ran_keeps : (turned r c h).kind ≡ K.Ran → RunsOn c.gates own.domain h (turned r c h).core
  ran_keeps e =
      let t = by-action r c h in
      let action = (by_status r (apart c t.turns t.harts t.before) h own own.status).action in
      let here : h < length c.harts = there c h (ap is_halted (ran_parts e).0) in
      let few : h < length t.harts = subst (λ n. h < n) (sym t.heard.count) here in
      subst (λ (m : Made). RunsOn c.gates own.domain h m.core) (sym t.is)
      (runs_acted r (apart c t.turns t.harts t.after) h own action few (ap (λ (m : Made). m.kind) (sym t.is) ∙ e))

  pub traps_there : own.status ≡ Running → is_entry r c own.domain own.pc ≡ false → (turned r c h).kind ≡ K.Trapped
  traps_there runs e =
      let t = by-action r c h in
      let after = apart c t.turns t.harts t.after in
      let before = apart c t.turns t.harts t.before in
      let no = no_entry r c own.domain own.pc e in
      ap (λ (m : Made). m.kind) t.is
      ∙ ap (λ (s : Status). (acted r after h own (by_status r before h own s).action).kind) runs
      ∙ trap_in r after before h own (module_at before own.domain).dead no.0 no.1

  pub trap_tells : (breaks : List ℕ) → (turned r c h).kind ≡ K.Trapped
      → faults_in breaks (turned r c h).note ≡ list_any (λ b. b == own.pc) breaks
  trap_tells breaks e =
      let t = by-action r c h in
      let action = (by_status r (apart c t.turns t.harts t.before) h own own.status).action in
      ap (λ (m : Made). faults_in breaks m.note) t.is
      ∙ tells_acted r (apart c t.turns t.harts t.after) h own action breaks (ap (λ (m : Made). m.kind) (sym t.is) ∙ e)

  pub trap_silent : (turned r c h).kind ≡ K.Trapped → (turned r c h).console ≡ []
  trap_silent e =
      let t = by-action r c h in
      let action = (by_status r (apart c t.turns t.harts t.before) h own own.status).action in
      ap (λ (m : Made). m.console) t.is ∙ silent_acted r (apart c t.turns t.harts t.after) h own action
      (ap (λ (m : Made). m.kind) (sym t.is) ∙ e)

-- entries are the same where maps, size and gates are
abbrev entry_by : ℕ → List (List Perm) → List Gate → ℕ → ℕ → Bool
entry_by size maps gates d b =
    not (not (allows (option_map_or (λ i. perm_at (map_in size maps d) i) (word_of b size) P.None) A.Execute))
    || option_map_or (has_gate gates d) (word_of b size) false

pub record SameEntries (f g : Flat) (h : ℕ) : Type 0 where
  pub maps : g.maps ≡ f.maps
  pub size : g.core.size ≡ f.core.size
  pub gates : g.core.gates ≡ f.core.gates
  pub domain : (hart_at g.core h).domain ≡ (hart_at f.core h).domain

pub same_entry : (f g : Flat) (h b : ℕ) → SameEntries f g h → is_entry (flat_reads g) g.core (hart_at g.core h).domain b
    ≡ is_entry (flat_reads f) f.core (hart_at f.core h).domain b
same_entry f g h b s =
    ap (λ n. entry_by n g.maps g.core.gates (hart_at g.core h).domain b) s.size
    ∙ ap (λ (m : List (List Perm)). entry_by f.core.size m g.core.gates (hart_at g.core h).domain b) s.maps
    ∙ ap (λ (gs : List Gate). entry_by f.core.size f.maps gs (hart_at g.core h).domain b) s.gates
    ∙ ap (λ d. entry_by f.core.size f.maps f.core.gates d b) s.domain

pub is_trap : (k : TurnKind) → is_trapped k ≡ true → k ≡ K.Trapped
is_trap K.Trapped e = refl
is_trap K.Idle e = absurd (let q : ⊥ = cc in q)
is_trap K.Waited e = absurd (let q : ⊥ = cc in q)
is_trap K.Ran e = absurd (let q : ⊥ = cc in q)
is_trap K.Crossed e = absurd (let q : ⊥ = cc in q)
is_trap K.Returned e = absurd (let q : ⊥ = cc in q)
is_trap K.Called e = absurd (let q : ⊥ = cc in q)

-- turns of one hart in a row
module _ (h : ℕ) (f : Flat) where
  abbrev Ran : ℕ → Type 0
  Ran n = (j : ℕ) → j < n → flat_kind (turns_of h f j) h ≡ K.Ran

  pub entries_along : (n : ℕ) → Ran n → SameEntries f (turns_of h f n) h
  entries_along zero ran = record { maps = refl; size = refl; gates = refl; domain = refl }
  entries_along (suc n) ran =
      let g = turns_of h f n in
      let is : flat_kind g h ≡ K.Ran = ran n (omega arith) in
      let before = entries_along n (λ j less. ran j (omega (arith, less))) in
      let on = ran_keeps (flat_reads g) g.core h is in
      let rights = same-turn g h (ap may_tell is) in
      let kept = keeps-turned (flat_reads g) g.core h in
      record {
        maps = rights.maps ∙ before.maps;
        size = kept.size ∙ before.size;
        gates = on.gates ∙ before.gates;
        domain = on.domain ∙ before.domain;
      }

  runs_along : (n : ℕ) → Ran (suc n) → (hart_at (turns_of h f (suc n)).core h).status ≡ Running
  runs_along n ran = (ran_keeps (flat_reads (turns_of h f n)) (turns_of h f n).core h (ran n (omega arith))).status

  module _ (breaks : List ℕ) (clear : IsClear f h breaks) where
    -- none of those that carry out an instruction began at a breakpoint
    no_place : (n : ℕ) → Ran n → is_entry (flat_reads (turns_of h f n)) (turns_of h f n).core (hart_at (turns_of h f n).core h).domain
        (hart_at (turns_of h f n).core h).pc ≡ true
        → list_any (λ b. b == (hart_at (turns_of h f n).core h).pc) breaks ≡ false
    no_place n ran enters =
        let g = turns_of h f n in
        let pc = (hart_at g.core h).pc in
        any_apart (is_entry (flat_reads f) f.core (hart_at f.core h).domain) pc breaks clear
        (sym (same_entry f g h pc (entries_along n ran)) ∙ enters)

    no_break_by : (b x : Bool) → x ≡ false → (b && x) ≡ false
    no_break_by true x e = e
    no_break_by false x e = refl

    pub none_stands : (n : ℕ) → Ran (suc n) → stands (turns_of h f n).core h breaks ≡ false
    none_stands n ran =
        let g = turns_of h f n in
        no_break_by (is_running (hart_at g.core h).status) (list_any (λ b. b == (hart_at g.core h).pc) breaks)
        (no_place n (λ j less. ran j (omega (arith, less))) (ran_enters (flat_reads g) g.core h (ran n (omega arith))))

    not_at_break : (n : ℕ) → Ran (suc n) → is_trapped (flat_kind (turns_of h f (suc n)) h) ≡ false → (v : Bool)
        → is_entry (flat_reads (turns_of h f (suc n))) (turns_of h f (suc n)).core (hart_at (turns_of h f (suc n)).core h).domain
        (hart_at (turns_of h f (suc n)).core h).pc ≡ v
        → list_any (λ b. b == (hart_at (turns_of h f (suc n)).core h).pc) breaks ≡ false
    not_at_break n ran e true enters = no_place (suc n) ran enters
    not_at_break n ran e false out =
        let g = turns_of h f (suc n) in
        let trap : flat_kind g h ≡ K.Trapped = traps_there (flat_reads g) g.core h (runs_along n ran) out in
        let no : true ≡ false = ap is_trapped (sym trap) ∙ e in
        absurd (let q : ⊥ = cc in q)

    -- the last one began there only if it traps, and then its note tells it
    last_by : (n : ℕ) → Ran (suc n) → (v : Bool) → is_trapped (flat_kind (turns_of h f (suc n)) h) ≡ v
        → list_any (λ b. b == (hart_at (turns_of h f (suc n)).core h).pc) breaks
        ≡ (v && faults_in breaks (flat_made (turns_of h f (suc n)) h).note)
    last_by n ran true e =
        let g = turns_of h f (suc n) in
        sym (trap_tells (flat_reads g) g.core h breaks (is_trap (flat_kind g h) e))
    last_by n ran false e =
        let g = turns_of h f (suc n) in
        not_at_break n ran e (is_entry (flat_reads g) g.core (hart_at g.core h).domain (hart_at g.core h).pc) refl

  pub last_stands : (breaks : List ℕ) (n : ℕ) → Ran n → (0 < n → IsClear f h breaks) → (s : Bool) → s ≡ stands f.core h breaks
      → stands (turns_of h f n).core h breaks ≡ last_stood breaks s n (flat_kind (turns_of h f n) h) (flat_made (turns_of h f n) h).note
  last_stands breaks zero ran clear s e = sym e
  last_stands breaks (suc n) ran clear s e =
      let g = turns_of h f (suc n) in
      let t = is_trapped (flat_kind g h) && faults_in breaks (flat_made g h).note in
      let later : (suc n == 0) ≡ false = grind arith in
      ap (λ (st : Status). is_running st && list_any (λ b. b == (hart_at g.core h).pc) breaks) (runs_along n ran)
      ∙ last_by breaks (clear (omega arith)) n ran (is_trapped (flat_kind g h)) refl
      ∙ ap (λ b. if b then s else t) (sym later)
