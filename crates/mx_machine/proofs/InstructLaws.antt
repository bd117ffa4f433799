-- An instruction: the machine after it is the state after its looks, with its bytes and registers; its answer says what is done then.
use Rattle.std.proofs.Common.{◌≡◌, ℕ, ◌%◌, Bool, true, false, cond, ◌==◌, List, [], ◌∷◌, length, refl, sym, ap, subst, ◌∙◌, if◌then◌else◌}
use Rattle.std.proofs.Common.{None, arith}
use Rattle.std.proofs.lemmas.List.{set-get_or, get_or-set_same, length-set}
use Rattle.mx_words.specs.declared.perm.Perm.{Perm}
use Rattle.mx_words.specs.declared.perm.Access.TheVariants as A
use Rattle.mx_words.specs.Caches.{Cache}
use Rattle.mx_table.specs.Tables.{map_of}
use Rattle.mx_check.specs.Harts.{Kept, kept_at}
use Rattle.mx_core.specs.declared.outcome.Outcome.{Outcome}
use Rattle.mx_core.specs.declared.outcome.Outcome.TheVariants as O
use Rattle.mx_core.specs.Bus.{denied, load_at, store_at}
use Rattle.mx_core.specs.Exec.{action_of, bytes_after, bytes_in, effect_in, fetch_touch, looks_of, outcome_of, regs_after, touches_of, trap}
use Rattle.mx_core.proofs.TurnLaws.{actions-alike, looks-alike}
use Rattle.mx_model.specs.declared.values.TurnKind.{TurnKind}
use Rattle.mx_model.specs.declared.values.TurnKind.TheVariants as T
use Rattle.mx_model.specs.Checks.{Look, looked_all}
use Rattle.mx_model.specs.Effect.{Effect, Goes, Faults, Loads, Stores, Calls, Jumps, load_size, loaded, next, written}
use Rattle.mx_model.specs.Events.{Events, no_events}
use Rattle.mx_model.specs.State.{Core, Running, with_hart}
use Rattle.mx_model.specs.State.{hart_at as hart_at_seen}
use Rattle.mx_model.specs.State.{Hart as Seen}
use Rattle.mx_model.specs.Turn.{Action, acted, is_return_at, runs_at}
use Rattle.mx_model.proofs.ListLaws.{length-put_at}
use Rattle.mx_model.proofs.TurnCases.{looked_all-caches}
use Rattle.mx_supervisor.specs.Served.{range_of}
use Rattle.mx_machine.specs.declared.hart.Progress.{Progress}
use Rattle.mx_machine.specs.Actions.{after_instruction, effect_for, outcome_for, perm_for}
use Rattle.mx_machine.specs.Harts.{hart_among, is_waiting, own_call, seen, seen_with}
use Rattle.mx_machine.specs.Held.{Held, rest_of}
use Rattle.mx_machine.specs.Made.{IsMade, core_in, made_by, hart_in, instruction, reads_of}
use Rattle.mx_machine.specs.Steps.{Stops, instructed, pc_after}
use Rattle.mx_machine.specs.Ties.{Fits, FliesWhileWaiting, MayRun}
use Rattle.mx_machine.proofs.CoreLaws.{core-step}
use Rattle.mx_machine.proofs.MadeLaws.{kept-there, running-free}
use Rattle.mx_machine.proofs.FitLaws.{IsChange, fits-change}
use Rattle.mx_machine.proofs.HartsAt.{hart-in}
use Rattle.mx_machine.proofs.HearLaws.{bars-alike}
use Rattle.mx_machine.proofs.LookLaws.{StayTied, looks-core, stay-all}

-- a running hart of the state
pub seen-running : (m : Held) (h : ℕ) → MayRun m h → hart_in m h ≡ seen_with Running (hart_among m.harts h)
seen-running m h r = search (arith, m.harts, hart-in, m.parts.harts)

-- RAM keeps its length
bytes-count : (perm : ℕ → Perm) (bytes : List ℕ) (e : Effect) → length (bytes_after perm bytes e) ≡ length bytes
unfolding bytes_after store_at
bytes-count perm bytes (Goes regs target) = refl
bytes-count perm bytes (Faults cause value) = refl
bytes-count perm bytes (Loads place address width rd) = refl
bytes-count perm bytes (Stores place address size value) =
    elim (denied perm address A.Write) as (λ b. length (if b then bytes else store_at bytes address size value) ≡ length bytes) [
      | true ↦
          refl
      | false ↦ length-put_at size bytes _ value
    ]
bytes-count perm bytes Calls = refl
bytes-count perm bytes (Jumps rd target) = refl

-- what an answer but to go on leaves of the registers
regs-still : (perm : ℕ → Perm) (bytes regs : List ℕ) (pc : ℕ) (returns : Bool) (e : Effect) → Stops (outcome_of perm pc returns e)
    → regs_after perm bytes regs pc returns e ≡ regs
unfolding outcome_of regs_after
regs-still perm bytes regs pc returns (Goes new target) s = absurd s
regs-still perm bytes regs pc returns (Faults cause value) s = refl
regs-still perm bytes regs pc returns (Loads place address width rd) s =
    let new = written regs rd (loaded width (load_at bytes address (load_size width))) in
    elim (denied perm address A.Read) as (λ b. Stops (cond b (trap 5 address) (O.Next (next pc)))
    → cond b regs new ≡ regs) [ true ↦ λ t. refl | false ↦ λ t. absurd t ] s
regs-still perm bytes regs pc returns (Stores place address size value) s = refl
regs-still perm bytes regs pc returns Calls s = refl
regs-still perm bytes regs pc returns (Jumps rd target) s =
    let new = written regs rd (next pc) in
    elim returns as (λ b. Stops (cond b (O.Back rd target) (cond (target % 4 == 0) (O.Next target) (trap 0 target)))
    → cond b regs (cond (target % 4 == 0) new regs) ≡ regs) [
      | true ↦ λ t. refl
      | false ↦ elim (target % 4 == 0) as (λ b. Stops (cond b (O.Next target) (trap 0 target))
          → cond b new regs ≡ regs) [ true ↦ λ t. absurd t | false ↦ λ t. refl ]
    ] s

pc-still : (o : Outcome) (pc : ℕ) → Stops o → pc_after o pc ≡ pc
pc-still x pc s = grind arith

action-still : (h : ℕ) (hart : Seen) (a b : List ℕ) (o : Outcome) → Stops o → action_of h hart a o ≡ action_of h hart b o
action-still h hart a b (O.Next n) s = absurd s
action-still h hart a b (O.Trap fault) s = refl
action-still h hart a b O.Call s = refl
action-still h hart a b (O.Back rd target) s = refl

-- the machine after an instruction fits
module _ (m : Held) (h : ℕ) (returns : Bool) (r : MayRun m h) where
  after-stays : let x = hart_among m.harts h in StayTied h x.domain m.parts.harts (after_instruction h returns m).parts.harts
  after-stays =
      let x = hart_among m.harts h in
      stay-all m.parts h x.domain (fetch_touch x.pc ∷ touches_of (effect_for m x)) m.parts.harts (kept-there m h r.act)
      (r.act.fits.ties h).domain

  pub fits-instruction : Fits (after_instruction h returns m)
  fits-instruction =
      let x = hart_among m.harts h in
      let regs = regs_after (perm_for m x) m.parts.ram x.regs x.pc returns (effect_for m x) in
      let y = instructed regs (outcome_for m h returns) x in
      let ram = bytes_after (perm_for m x) m.parts.ram (effect_for m x) in
      let kept = (after_instruction h returns m).parts.harts in
      let s = after-stays in
      let c : IsChange m h y kept ram m.dead m.waiting = record {
        fits = r.act.fits;
        there = r.act.there;
        count = s.count;
        others = s.others;
        tied = record {
          halted = s.halted ∙ (r.act.fits.ties h).halted;
          flight = subst (λ (p : Progress). FliesWhileWaiting (range_of m.parts (own_call h y)) (kept_at kept h).flight p) (sym r.runs)
              (s.flight ∙ running-free m h r);
          domain = s.domain;
        };
        bytes = bytes-count (perm_for m x) m.parts.ram (effect_for m x);
        deads = r.act.fits.dead;
        quiet = λ q. (q, ap is_waiting r.runs);
      } in
      fits-change m h y kept ram m.dead m.waiting c

  -- the hart may still run
  pub runs-instruction : MayRun (after_instruction h returns m) h
  runs-instruction =
      search (arith, m.harts, m.parts.ram, get_or-set_same, after-stays, fits-instruction, length-set, r.act.heard, m.parts.maps)

-- the state after an instruction, by what the model says of it
module _ (m : Held) (h : ℕ) (returns : Bool) (r : MayRun m h)
    (whole : length (map_of m.parts.maps (hart_among m.harts h).domain) ≡ m.parts.size)
    (turns_back : returns ≡ is_return_at (core_in m) (hart_in m h).domain (hart_in m h).pc) where
  abbrev pub running_hart : Seen
  running_hart = seen_with Running (hart_among m.harts h)

  abbrev pub looks_before : List Look
  looks_before = looks_of (core_in m) running_hart.domain (fetch_touch running_hart.pc
      ∷ touches_of (effect_in (reads_of m) (core_in m) running_hart))

  -- the state after the looks, with the instruction's bytes
  abbrev pub behind_looks : Core
  behind_looks = record (core_in m) {
    ram = bytes_in (reads_of m) (core_in m) running_hart;
    caches =
        (looked_all (reads_of m) h looks_before (core_in m)).caches;
  }

  abbrev pub regs_now : List ℕ
  regs_now = regs_after (perm_for m (hart_among m.harts h)) m.parts.ram (hart_among m.harts h).regs (hart_among m.harts h).pc returns
      (effect_for m (hart_among m.harts h))

  at-running : is_return_at (core_in m) running_hart.domain running_hart.pc ≡ returns
  at-running = sym (turns_back ∙ ap (λ (s : Seen). is_return_at (core_in m) s.domain s.pc) (seen-running m h r))

  -- what the instruction makes is what its answer makes after the looks
  pub made-behind : instruction m h ≡ acted (reads_of m) behind_looks h running_hart
      (action_of h running_hart regs_now (outcome_for m h returns))
  made-behind =
      let q = reads_of m in
      let c = core_in m in
      let s = running_hart in
      let x = hart_among m.harts h in
      ap (λ (y : Seen). acted q (looked_all q h (runs_at q c h y None).looks c) h y (runs_at q c h y None).action) (seen-running m h r)
      ∙ ap (λ (ls : List Look). acted q (looked_all q h ls c) h s (runs_at q c h s None).action) (looks-alike q c h s)
      ∙ ap (λ (e : Core). acted q e h s (runs_at q c h s None).action) (looked_all-caches q h looks_before c)
      ∙ actions-alike q c h s (looked_all q h looks_before c).caches
      ∙ ap (λ (b : Bool). acted q behind_looks h s (action_of h s (regs_after (perm_for m x) m.parts.ram x.regs x.pc b (effect_for m x))
      (outcome_of (perm_for m x) x.pc b (effect_for m x)))) at-running

  after-core : core_in (after_instruction h returns m)
      ≡ with_hart h (seen h (instructed regs_now (outcome_for m h returns) (hart_among m.harts h))
      (kept_at (after_instruction h returns m).parts.harts h)) behind_looks
  after-core =
      let x = hart_among m.harts h in
      let y = instructed regs_now (outcome_for m h returns) x in
      let p = (after_instruction h returns m).parts in
      let s = after-stays m h returns r in
      let looked_at_all = looks-core (rest_of m) m.parts h x.domain r.act.domain whole (fetch_touch x.pc ∷ touches_of (effect_for m x))
      m.parts.harts
      (bars-alike m h r.act.fits.count (λ i ne. r.act.fits.ties i)).at in
      core-step m h y p (λ i ne. ap (λ (k : Kept). k.flight) (s.others i ne))
      ∙ ap (λ (cs : List Cache). with_hart h (seen h y (kept_at p.harts h)) (record (core_in m) { ram = p.ram; caches = cs }))
      (ap (λ (c : Core). c.caches) looked_at_all)

  -- it goes on
  pub made-next : (pc : ℕ) → outcome_for m h returns ≡ O.Next pc
      → IsMade m (after_instruction h returns m) no_events T.Ran (instruction m h)
  made-next pc e = grind (arith, m.harts, regs_now, behind_looks, running_hart, after-core, made-behind)

  -- it stops: the hart stands as before
  core-stopped : Stops (outcome_for m h returns) → core_in (after_instruction h returns m) ≡ behind_looks
  core-stopped st =
      search (arith, m.harts, regs_now, regs-still, m.parts.ram, pc-still, after-core, behind_looks, seen-running, set-get_or)

  pub made-stopped : (regs : List ℕ) → Stops (outcome_for m h returns) →
      instruction m h ≡ made_by (after_instruction h returns m) h
      (action_of h (hart_in (after_instruction h returns m) h) regs (outcome_for m h returns))
  made-stopped regs st =
      let n = after_instruction h returns m in
      let o = outcome_for m h returns in
      let core = core-stopped st in
      let own : hart_in n h ≡ running_hart = ap (λ (c : Core). hart_at_seen c h) core ∙ seen-running m h r in
      made-behind
      ∙ ap (λ (a : Action). acted (reads_of m) behind_looks h running_hart a) (action-still h running_hart regs_now regs o st)
      ∙ sym (ap (λ (c : Core). acted (reads_of m) c h (hart_in n h) (action_of h (hart_in n h) regs o)) core
      ∙ ap (λ (y : Seen). acted (reads_of m) behind_looks h y (action_of h y regs o)) own)

  -- what is made after it stopped is what the instruction makes
  pub from-instruction : (new : Held) (events : Events) (answer : TurnKind) (o : Outcome) → outcome_for m h returns ≡ o → Stops o →
      IsMade (after_instruction h returns m) new events answer
      (made_by (after_instruction h returns m) h (action_of h (hart_in (after_instruction h returns m) h) [] o)) →
      IsMade m new events answer (instruction m h)
  from-instruction new events answer o e st i = search (arith, made-stopped)
