-- A turn by its cases: what the hart's status, its domain and the gate at its pc decide.
use Rattle.std.proofs.Common.{◌≡◌, ◌≢◌, ℕ, ◌+◌, ◌<◌, ◌%◌, Bool, true, false, not, cond, ◌==◌, nat_le, List, [], ◌∷◌, length, get_or, refl}
use Rattle.std.proofs.Common.{sym, ap, subst, ◌∙◌, arith, if◌then◌else◌, Option, Some, None}
use Rattle.std.specs.Prelude.{IfSome, option_map, is_some}
use Rattle.std.specs.Option.{option_map_or}
use Rattle.mx_words.specs.Ranges.{word_of}
use Rattle.mx_table.specs.Tables.{IsDomain}
use Rattle.mx_check.specs.Harts.{kept_at}
use Rattle.mx_model.specs.declared.values.Call.{Call}
use Rattle.mx_model.specs.declared.values.Gate.{Gate}
use Rattle.mx_model.specs.declared.values.Note.{Note}
use Rattle.mx_model.specs.declared.values.TurnKind.TheVariants as T
use Rattle.mx_model.specs.Checks.{Look, hears, is_ready, looked_all}
use Rattle.mx_model.specs.Checks.{is_halted as is_halted_in}
use Rattle.mx_model.specs.Effect.{reg}
use Rattle.mx_model.specs.Events.{Events, no_events}
use Rattle.mx_model.specs.Gates.{gate_at, gate_target, is_at, most_frames}
use Rattle.mx_model.specs.Reads.{Reads}
use Rattle.mx_model.specs.Run.{flat_made}
use Rattle.mx_model.specs.State.{Core, Waiting, hart_at}
use Rattle.mx_model.specs.State.{Hart as Seen}
use Rattle.mx_model.specs.Turn.{Bounces, Crosses, Serves, Traps, Waits, acted, at_gate, decide, enacted, is_return_at, made, runs_at}
use Rattle.mx_model.specs.Turn.{runs_in, traps, turned, without_look}
use Rattle.mx_model.specs.Turn.{counted as counted_in}
use Rattle.mx_model.specs.Valid.{IsGate, IsModule, IsValid}
use Rattle.mx_model.proofs.GatesAt.{at-call-gate, at-no-gate, at-return-gate, target_from}
use Rattle.mx_model.proofs.ListLaws.{all-find}
use Rattle.mx_model.proofs.TurnCases.{turned-halted}
use Rattle.mx_model.proofs.ValidParts.{valid-hears, valid-turns}
use Rattle.mx_supervisor.proofs.Modules.{length-modules}
use Rattle.mx_machine.specs.declared.hart.Progress.{Progress}
use Rattle.mx_machine.specs.declared.hart.Progress.TheVariants as G
use Rattle.mx_machine.specs.Actions.{counted, heard}
use Rattle.mx_machine.specs.Harts.{hart_among, hearers, own_call, status_by}
use Rattle.mx_machine.specs.Held.{Held, meaning}
use Rattle.mx_machine.specs.Made.{core_in, made_by, made_after_hearing, hart_in, instruction, reads_of}
use Rattle.mx_machine.specs.AtGate.{IsAtGate, gate_here}
use Rattle.mx_machine.specs.Ties.{Fits, MayRun}
use Rattle.mx_machine.proofs.MadeLaws.{here}
use Rattle.mx_machine.proofs.HartsAt.{hart-in, length-seen}
use Rattle.mx_machine.proofs.HearLaws.{core-heard}
use Rattle.mx_machine.proofs.HomeLaws.{module-dead}
use Rattle.mx_machine.proofs.InstructLaws.{seen-running}

-- a running hart, in a dead domain or in a live one
runs-as : (m : Held) (h : ℕ) (b : Bool) → MayRun m h → get_or m.dead (hart_among m.harts h).domain false ≡ b →
    made_after_hearing m h ≡ enacted (reads_of m) (core_in m) h (runs_in (reads_of m) (core_in m) h (hart_in m h) b)
runs-as m h b r e = search (arith, m.harts, seen-running, module-dead, r.act.fits, here)

pub acts-dead : (m : Held) (h pc : ℕ) → MayRun m h → get_or m.dead (hart_among m.harts h).domain false ≡ true
    → pc ≡ (hart_among m.harts h).pc → made_after_hearing m h ≡ made_by m h (Traps 20 pc)
acts-dead m h pc r e p = cc (runs-as m h true r e, seen-running m h r, p)

-- the gate at its pc, as the machine looks it up
gate-is : (m : Held) (h d pc : ℕ) (o : Option ℕ) → MayRun m h → d ≡ (hart_among m.harts h).domain → pc ≡ (hart_among m.harts h).pc
    → gate_here m d pc ≡ o →
    target_from (core_in m) (hart_in m h).domain (hart_in m h).pc ≡ o
gate-is m h d pc o r ed ep e =
    ap (λ (y : Seen). target_from (core_in m) y.domain y.pc) (seen-running m h r)
    ∙ ap (λ n. gate_here m n (hart_among m.harts h).pc) (sym ed) ∙ ap (λ n. gate_here m d n) (sym ep) ∙ e

pub at-gate-here : (m : Held) (h d pc t : ℕ) → MayRun m h → d ≡ (hart_among m.harts h).domain → pc ≡ (hart_among m.harts h).pc
    → get_or m.dead d false ≡ false → gate_here m d pc ≡ Some t →
    IsAtGate m h t
at-gate-here m h d pc t r ed ep alive e = search (arith, m.dead, m.harts)

-- the gate leads into a module
target-module : (m : Held) (d pc t : ℕ) → IsValid (core_in m) → gate_here m d pc ≡ Some t → IsModule (length (core_in m).modules) t
target-module m d pc t v e = by (word_of pc m.parts.size) e
  where
    found : (o : Option Gate) → IfSome o (IsGate (length (core_in m).modules) m.parts.size) → option_map (λ (g : Gate). g.target) o ≡ Some t
        → IsModule (length (core_in m).modules) t
    found None p q = absurd (let z : ⊥ = cc in z)
    found (Some g) p q = subst (λ (n : ℕ). IsModule (length (core_in m).modules) n) (let z : g.target ≡ t = cc in z) p.target

    by : (o : Option ℕ) → option_map_or (gate_target m.parts.gates d) o None ≡ Some t → IsModule (length (core_in m).modules) t
    by None q = absurd (let z : ⊥ = cc in z)
    by (Some w) q = found (gate_at m.parts.gates d w) (all-find (IsGate (length (core_in m).modules) m.parts.size) (is_at d w) m.parts.gates
        v.gates) q

pub target-domain : (m : Held) (d pc t : ℕ) → IsValid (core_in m) → Fits m → gate_here m d pc ≡ Some t → IsDomain m.parts.maps t
target-domain m d pc t v f e = search (arith, target-module, length-modules)

-- no gate, a return gate, and a call gate
pub acts-plain : (m : Held) (h d pc : ℕ) → MayRun m h → d ≡ (hart_among m.harts h).domain → pc ≡ (hart_among m.harts h).pc
    → get_or m.dead d false ≡ false → gate_here m d pc ≡ None →
    (made_after_hearing m h ≡ instruction m h) × (false ≡ is_return_at (core_in m) (hart_in m h).domain (hart_in m h).pc)
acts-plain m h d pc r ed ep alive e =
    let g = at-no-gate (core_in m) (hart_in m h).domain (hart_in m h).pc (gate-is m h d pc None r ed ep e) in (
      runs-as m h false r (ap (λ n. get_or m.dead n false) (sym ed) ∙ alive)
          ∙ ap (λ (o : Option ℕ). enacted (reads_of m) (core_in m) h (runs_at (reads_of m) (core_in m) h (hart_in m h) o)) g.0,
      sym g.1,
    )

pub acts-return : (m : Held) (h t : ℕ) → IsAtGate m h t → t ≡ (hart_among m.harts h).domain →
    (made_after_hearing m h ≡ instruction m h) × (true ≡ is_return_at (core_in m) (hart_in m h).domain (hart_in m h).pc)
acts-return m h t a own =
    let x = hart_among m.harts h in
    let own' : t ≡ (hart_in m h).domain = own ∙ sym (ap (λ (y : Seen). y.domain) (seen-running m h a.run)) in
    let g = at-return-gate (core_in m) (hart_in m h).domain (hart_in m h).pc t (gate-is m h x.domain x.pc (Some t) a.run refl refl a.gate)
    own' in (
      runs-as m h false a.run a.alive ∙ ap (λ (o : Option ℕ).
          enacted (reads_of m) (core_in m) h (runs_at (reads_of m) (core_in m) h (hart_in m h) o)) g.0,
      sym g.1,
    )

at-gate-looks : (c : Core) (s : Seen) (t : ℕ) → (at_gate c s t).looks ≡ []
at-gate-looks c s t = search (arith, s.regs)

pub acts-gate : (m : Held) (h t : ℕ) → IsAtGate m h t → t ≢ (hart_among m.harts h).domain
    → made_after_hearing m h ≡ made_by m h (at_gate (core_in m) (hart_in m h) t).action
acts-gate m h t a other =
    let s = hart_in m h in
    let x = hart_among m.harts h in
    let other' : t ≢ s.domain = λ q. other (q ∙ ap (λ (y : Seen). y.domain) (seen-running m h a.run)) in
    let g = at-call-gate (core_in m) s.domain s.pc t (gate-is m h x.domain x.pc (Some t) a.run refl refl a.gate) other' in
    runs-as m h false a.run a.alive
    ∙ ap (λ (o : Option ℕ). enacted (reads_of m) (core_in m) h (runs_at (reads_of m) (core_in m) h s o)) g.0
    ∙ ap (λ (ls : List Look). acted (reads_of m) (looked_all (reads_of m) h ls (core_in m)) h s (at_gate (core_in m) s t).action)
    (at-gate-looks (core_in m) s t)

-- at a call gate by its three tests
gate-by : (m : Held) (h t : ℕ) (a b f : Bool) → MayRun m h → IsDomain m.parts.maps t → (reg (hart_among m.harts h).regs 1 % 4 == 0) ≡ a
    → get_or m.dead t false ≡ b →
    nat_le most_frames (length (hart_among m.harts h).frames) ≡ f →
    (at_gate (core_in m) (hart_in m h) t).action
    ≡ (cond (not a) (traps 19 (reg (hart_in m h).regs 1)) (cond b (without_look Bounces)
    (cond f (traps 16 (hart_in m h).pc) (without_look (Crosses t))))).action
gate-by m h t a b f r dom ea eb ef = search (arith, seen-running, module-dead, r.act.fits, here)

pub gate-crooked : (m : Held) (h t link : ℕ) → MayRun m h → IsDomain m.parts.maps t → link ≡ reg (hart_among m.harts h).regs 1
    → (link % 4 == 0) ≡ false →
    made_by m h (at_gate (core_in m) (hart_in m h) t).action ≡ made_by m h (Traps 19 link)
gate-crooked m h t link r dom el e = search (arith, gate-by, seen-running)

pub gate-bounces : (m : Held) (h t link : ℕ) → MayRun m h → IsDomain m.parts.maps t → link ≡ reg (hart_among m.harts h).regs 1
    → (link % 4 == 0) ≡ true → get_or m.dead t false ≡ true →
    made_by m h (at_gate (core_in m) (hart_in m h) t).action ≡ made_by m h Bounces
gate-bounces m h t link r dom el e d = ap (made_by m h) (gate-by m h t true true _ r dom (ap (λ n. n % 4 == 0) (sym el) ∙ e) d refl)

pub gate-full : (m : Held) (h t link pc : ℕ) → MayRun m h → IsDomain m.parts.maps t → link ≡ reg (hart_among m.harts h).regs 1
    → (link % 4 == 0) ≡ true → get_or m.dead t false ≡ false →
    nat_le most_frames (length (hart_among m.harts h).frames) ≡ true → pc ≡ (hart_among m.harts h).pc →
    made_by m h (at_gate (core_in m) (hart_in m h) t).action ≡ made_by m h (Traps 16 pc)
gate-full m h t link pc r dom el e d f ep =
    ap (made_by m h) (gate-by m h t true false true r dom (ap (λ n. n % 4 == 0) (sym el) ∙ e) d f)
    ∙ ap (λ n. made_by m h (Traps 16 n)) (ap (λ (y : Seen). y.pc) (seen-running m h r) ∙ sym ep)

pub gate-crosses : (m : Held) (h t link : ℕ) → MayRun m h → IsDomain m.parts.maps t → link ≡ reg (hart_among m.harts h).regs 1
    → (link % 4 == 0) ≡ true → get_or m.dead t false ≡ false →
    nat_le most_frames (length (hart_among m.harts h).frames) ≡ false
    → made_by m h (at_gate (core_in m) (hart_in m h) t).action ≡ made_by m h (Crosses t)
gate-crosses m h t link r dom el e d f = ap (made_by m h) (gate-by m h t true false false r dom (ap (λ n. n % 4 == 0) (sym el) ∙ e) d f)

-- a waiting hart
seen-waiting : (m : Held) (h : ℕ) → (hart_among m.harts h).progress ≡ G.Waiting →
    (hart_in m h).status ≡ Waiting (own_call h (hart_among m.harts h)) (hearers (kept_at m.parts.harts h).flight)
seen-waiting m h w = search (arith, m.harts, hart-in, m.parts.harts)

pub acts-waiting : (m : Held) (h : ℕ) (b : Bool) → (hart_among m.harts h).progress ≡ G.Waiting
    → is_ready (core_in m) h (hearers (kept_at m.parts.harts h).flight) ≡ b →
    made_after_hearing m h ≡ made_by m h (if b then Serves (own_call h (hart_among m.harts h)) else Waits)
acts-waiting m h b w e = search (arith, seen-waiting, m.harts)

-- the turn is counted
pub core-counted : (m : Held) → core_in (counted m) ≡ counted_in (core_in m)
core-counted m = search arith

pub fits-counted : (m : Held) → Fits m → Fits (counted m)
fits-counted m f = record {
  sound = f.sound;
  count = f.count;
  few = f.few;
  stacks = f.stacks;
  dead = f.dead;
  ties = f.ties;
  quiet =
      f.quiet;
}

pub valid-counted : (m : Held) → IsValid (core_in m) → IsValid (core_in (counted m))
valid-counted m v = subst (λ (c : Core). IsValid c) (sym (core-counted m)) (valid-turns (core_in m) (m.steps + 1) v)

pub valid-heard : (m : Held) (h : ℕ) → Fits m → h < length m.harts → IsValid (core_in m) → IsValid (core_in (heard h m))
valid-heard m h f l v = search (arith, core-heard, valid-hears, length-seen)

-- a turn of a hart that isn't halted is what it does after it has heard the others
awake : (q : Reads) (c : Core) (h : ℕ) → is_halted_in (hart_at c h).status ≡ false →
    turned q c h ≡ enacted q (hears h (counted_in c)) h (decide q (hears h (counted_in c)) h)
awake q c h e = ap (λ (b : Bool). let n = cond b (counted_in c) (hears h (counted_in c)) in enacted q n h (decide q n h)) e

halted-by : (call : Call) (m : Held) (h : ℕ) (p : Progress) → is_halted_in (status_by call (kept_at m.parts.harts h).flight p) ≡ false
    → (hart_among m.harts h).progress ≡ p →
    call ≡ own_call h (hart_among m.harts h) → is_halted_in (hart_in m h).status ≡ false
halted-by call m h p e w q = search (arith, hart-in, m.harts, m.parts.harts)

heard-turn : (m : Held) (h : ℕ) → Fits m → h < length m.harts → is_halted_in (hart_in m h).status ≡ false
    → flat_made (meaning m) h ≡ made_after_hearing (heard h (counted m)) h
heard-turn m h f l e =
    awake (reads_of m) (core_in m) h e
    ∙ sym (ap (λ (c : Core). enacted (reads_of m) c h (decide (reads_of m) c h))
    (core-heard (counted m) h (fits-counted m f) l ∙ ap (hears h) (core-counted m)))

pub turn-running : (m : Held) (h : ℕ) → Fits m → h < length m.harts → (hart_among m.harts h).progress ≡ G.Running
    → flat_made (meaning m) h ≡ made_after_hearing (heard h (counted m)) h
turn-running m h f l w = heard-turn m h f l (halted-by (own_call h (hart_among m.harts h)) m h G.Running refl w refl)

pub turn-waiting : (m : Held) (h : ℕ) → Fits m → h < length m.harts → (hart_among m.harts h).progress ≡ G.Waiting
    → flat_made (meaning m) h ≡ made_after_hearing (heard h (counted m)) h
turn-waiting m h f l w = heard-turn m h f l (halted-by (own_call h (hart_among m.harts h)) m h G.Waiting refl w refl)

pub turn-halted : (m : Held) (h : ℕ) (code : Option ℕ) → (hart_among m.harts h).progress ≡ G.Halted code
    → flat_made (meaning m) h ≡ made T.Idle (counted_in (core_in m))
turn-halted m h code w =
    let x = hart_among m.harts h in
    turned-halted (reads_of m) (core_in m) h (hart_in m h) code refl
    (ap (λ (s : Seen). s.status) (hart-in m h) ∙ ap (λ (p : Progress). status_by (own_call h x) (kept_at m.parts.harts h).flight p) w)

-- what a turn that adds nothing leaves
none-by : (bytes : List ℕ) (note : Option Note) → length bytes ≡ 0 → is_some note ≡ false
    → ◌≡◌ {A = Events} (record { bytes = bytes; note = note }) no_events
none-by [] None few none = refl
none-by [] (Some n) few none = absurd (cc)
none-by (b ∷ bytes) told few none = absurd (omega arith)

pub none-told : (e : Events) → length e.bytes ≡ 0 → is_some e.note ≡ false → e ≡ no_events
none-told e few none = none-by e.bytes e.note few none
