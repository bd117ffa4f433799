-- What a turn was: an instruction is carried out only by a hart that runs in a live domain, and not at a call gate, by a return, a call or
-- a fault.
use Rattle.std.proofs.Common.{◌≡◌, ◌≢◌, ℕ, zero, suc, ◌<◌, Bool, true, false, not, ◌==◌, get_or, refl, sym, ap, ◌∙◌, arith, if◌then◌else◌}
use Rattle.std.proofs.Common.{Option, Some, None}
use Rattle.std.specs.Option.{option_map_or}
use Rattle.mx_check.specs.Harts.{kept_at}
use Rattle.mx_model.specs.declared.values.Call.{Call}
use Rattle.mx_model.specs.declared.values.Frame.{Frame}
use Rattle.mx_model.specs.declared.values.TurnKind.{TurnKind}
use Rattle.mx_model.specs.declared.values.TurnKind.TheVariants as T
use Rattle.mx_model.specs.Checks.{is_ready}
use Rattle.mx_model.specs.Effect.{reg}
use Rattle.mx_model.specs.Gates.{top}
use Rattle.mx_model.specs.Run.{flat_kind}
use Rattle.mx_model.specs.State.{module_at}
use Rattle.mx_model.specs.State.{Hart as Seen}
use Rattle.mx_model.specs.Turn.{Asks, Bounces, Crosses, Decided, Made, Returns, Traps, at_gate, at_return, returned_over, traps}
use Rattle.mx_model.specs.Turn.{without_look}
use Rattle.mx_model.proofs.TurnCases.{ready, turned-dead, turned-serves, turned-waits}
use Rattle.mx_machine.specs.declared.hart.Progress.{Progress}
use Rattle.mx_machine.specs.declared.hart.Progress.TheVariants as G
use Rattle.mx_machine.specs.declared.turns.Going.TheVariants as Goes
use Rattle.mx_machine.specs.Harts.{hart_among, hearers, own_call, status_by}
use Rattle.mx_machine.specs.Held.{Held, meaning}
use Rattle.mx_machine.specs.Made.{core_in, hart_in, made_by, reads_of}
use Rattle.mx_machine.specs.Ties.{IsWhole, RunsAlive}
use Rattle.mx_machine.specs.Turning.{turns_of}
use Rattle.mx_machine.proofs.CaseLaws.{turn-halted}
use Rattle.mx_machine.proofs.HartsAt.{hart-in}
use Rattle.mx_machine.proofs.HomeLaws.{module-dead}
use Rattle.mx_machine.proofs.MadeLaws.{here}
use Rattle.mx_machine.proofs.MayLaws.{hart-there, own-domain}

-- an ended turn doesn't go on
pub ended-on : (last : TurnKind) → Goes.Ended last ≡ Goes.On → ⊥
ended-on last e = cc

-- a fault, a call and a return are no instruction carried out
pub trapped-ended : T.Trapped ≢ T.Ran
trapped-ended e = cc

called-ended : T.Called ≢ T.Ran
called-ended e = cc

returned-ended : T.Returned ≢ T.Ran
returned-ended e = cc

crossed-ended : T.Crossed ≢ T.Ran
crossed-ended e = cc

pub asks-ended : (m : Held) (h : ℕ) (call : Call) → (made_by m h (Asks call)).kind ≢ T.Ran
asks-ended m h call = search (arith, called-ended)

over-ended : (m : Held) (h rd target : ℕ) (o : Option Frame) → (made_by m h
    (option_map_or (returned_over rd target) o (Traps 18 target))).kind ≢ T.Ran
over-ended m h rd target None = trapped-ended
over-ended m h rd target (Some frame) =
    elim (frame.back == target) as (λ b. (made_by m h (if b then Returns rd frame else Traps 17 target)).kind ≢ T.Ran) [
      | true ↦
          returned-ended
      | false ↦ trapped-ended
    ]

pub return-ended : (m : Held) (h rd target : ℕ) → (made_by m h (at_return (hart_in m h) rd target)).kind ≢ T.Ran
return-ended m h rd target = over-ended m h rd target (top (hart_in m h).frames)

-- at a call gate by its three tests
abbrev gate-by : Seen → ℕ → Bool → Bool → Bool → Decided
gate-by s t straight dead full =
    if not straight then traps 19 (reg s.regs 1) else
    if dead then without_look Bounces else
    if full then traps 16 s.pc else
    without_look (Crosses t)

gate-by-ended : (m : Held) (h : ℕ) (s : Seen) (t : ℕ) (a b f : Bool) → (made_by m h (gate-by s t a b f).action).kind ≢ T.Ran
gate-by-ended m h s t x b f = grind (arith, trapped-ended, returned-ended, crossed-ended)

pub gate-ended : (m : Held) (h t : ℕ) → (made_by m h (at_gate (core_in m) (hart_in m h) t).action).kind ≢ T.Ran
gate-ended m h t = search (arith, gate-by-ended)

-- a hart that is halted, waits or runs in a dead domain carries out no instruction
module _ (m : Held) (h : ℕ) (w : IsWhole m) (ran : flat_kind (meaning m) h ≡ T.Ran) where
  status-is : (p : Progress) → (hart_among m.harts h).progress ≡ p
      → (hart_in m h).status ≡ status_by (own_call h (hart_among m.harts h)) (kept_at m.parts.harts h).flight p
  status-is p at = search (arith, hart-in, m.harts, m.parts.harts)

  ran-halted : (code : Option ℕ) → (hart_among m.harts h).progress ≡ G.Halted code → ⊥
  ran-halted code at =
      let e : T.Idle ≡ T.Ran = sym (ap (λ (d : Made). d.kind) (turn-halted m h code at)) ∙ ran in
      cc

  ran-waiting-by : (b : Bool) → (hart_among m.harts h).progress ≡ G.Waiting
      → is_ready (ready (core_in m) h) h (hearers (kept_at m.parts.harts h).flight) ≡ b → ⊥
  ran-waiting-by true at e =
      called-ended
      (sym (ap (λ (d : Made). d.kind) (turned-serves (reads_of m) (core_in m) h (hart_in m h) (own_call h (hart_among m.harts h))
      (hearers (kept_at m.parts.harts h).flight) refl (status-is G.Waiting at) e)) ∙ ran)
  ran-waiting-by false at e =
      let k : T.Waited ≡ T.Ran =
      sym (ap (λ (d : Made). d.kind) (turned-waits (reads_of m) (core_in m) h (hart_in m h) (own_call h (hart_among m.harts h))
      (hearers (kept_at m.parts.harts h).flight) refl (status-is G.Waiting at) e)) ∙ ran in
      cc

  ran-live : (b : Bool) → (hart_among m.harts h).progress ≡ G.Running → get_or m.dead (hart_among m.harts h).domain false ≡ b → b ≡ false
  ran-live true at e =
      let d = (hart_among m.harts h).domain in
      let own = own-domain m h w.valid w.fits (hart-there m h w G.Running at refl) in
      let dead = ap (λ (y : Seen). (module_at (core_in m) y.domain).dead) (hart-in m h) ∙ module-dead m d w.fits (here m d w.fits own)
      ∙ e in
      absurd (trapped-ended (sym (ap (λ (d : Made). d.kind) (turned-dead (reads_of m) (core_in m) h (hart_in m h) refl
      (status-is G.Running at) dead)) ∙ ran))
  ran-live false at e = refl

  ran-by : (p : Progress) → (hart_among m.harts h).progress ≡ p → RunsAlive m h
  ran-by x at = search (arith, hart-there, ran-live, ran-waiting-by, ready, ran-halted)

  pub ran-alive : RunsAlive m h
  ran-alive = ran-by (hart_among m.harts h).progress refl

-- a row that ends with an instruction was begun by a hart that ran in a live domain
pub ran-first : (m : Held) (h room : ℕ) → IsWhole m → (0 < room → RunsAlive m h) → flat_kind (turns_of h (meaning m) room) h ≡ T.Ran
    → RunsAlive m h
ran-first m h zero w alive ran = ran-alive m h w ran
ran-first m h (suc n) w alive ran = alive (omega arith)
