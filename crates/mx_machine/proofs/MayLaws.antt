-- What a turn may rest on: a hart that isn't halted is there, stands at an instruction of a module, and acts once it has heard the others'
-- calls.
use Rattle.std.proofs.Common.{◌≡◌, ℕ, zero, suc, ◌<◌, ◌%◌, false, List, [], ◌∷◌, length, refl, sym, ap, subst, ◌∙◌, arith, Option, None}
use Rattle.mx_table.specs.Tables.{IsDomain}
use Rattle.mx_check.specs.declared.flight.Flight.{Flight}
use Rattle.mx_check.specs.Conditions.{HasHeardAll}
use Rattle.mx_check.specs.Harts.{kept_at}
use Rattle.mx_model.specs.declared.values.TurnKind.{TurnKind}
use Rattle.mx_model.specs.declared.values.TurnKind.TheVariants as T
use Rattle.mx_model.specs.Events.{Events, no_events}
use Rattle.mx_model.specs.Run.{flat_made}
use Rattle.mx_model.specs.Valid.{IsValid}
use Rattle.mx_supervisor.proofs.Modules.{length-modules}
use Rattle.mx_machine.specs.declared.hart.Hart.{Hart}
use Rattle.mx_machine.specs.declared.hart.Progress.{Progress}
use Rattle.mx_machine.specs.declared.hart.Progress.TheVariants as G
use Rattle.mx_machine.specs.Actions.{counted, heard}
use Rattle.mx_machine.specs.Harts.{hart_among, is_halted, is_waiting}
use Rattle.mx_machine.specs.Held.{Held, meaning}
use Rattle.mx_machine.specs.Made.{IsMade, core_in, made_after_hearing}
use Rattle.mx_machine.specs.Ties.{Fits, FliesWhileWaiting, IsWhole, MayAct}
use Rattle.mx_machine.proofs.CaseLaws.{core-counted, fits-counted, turn-halted, valid-counted, valid-heard}
use Rattle.mx_machine.proofs.HartsAt.{hart-in, length-seen}
use Rattle.mx_machine.proofs.HearLaws.{fits-heard}

-- a hart that isn't halted is there
pub there-alive : (xs : List Hart) (h : ℕ) → is_halted (hart_among xs h).progress ≡ false → h < length xs
there-alive [] h e = absurd (let z : ⊥ = cc in z)
there-alive (x ∷ xs) zero e = omega arith
there-alive (x ∷ xs) (suc h) e = let l : h < length xs = there-alive xs h e in omega arith

-- it stands at an instruction of a module
pub aligned-pc : (m : Held) (h : ℕ) → IsValid (core_in m) → h < length m.harts → (hart_among m.harts h).pc % 4 ≡ 0
aligned-pc m h v there = search (arith, hart-in, v.harts, length-seen, m.harts)

pub own-domain : (m : Held) (h : ℕ) → IsValid (core_in m) → Fits m → h < length m.harts
    → IsDomain m.parts.maps (hart_among m.harts h).domain
own-domain m h v f there = search (arith, v.harts, length-seen, m.harts, hart-in, length-modules)

-- where no hart may wait, no call is in flight
still-free : (range : ℕ × ℕ) (flight : Option Flight) (p : Progress) → FliesWhileWaiting range flight p → is_waiting p ≡ false
    → flight ≡ None
still-free range flight G.Running t e = t
still-free range flight G.Waiting t e = absurd (let z : ⊥ = cc in z)
still-free range flight (G.Halted code) t e = t

pub none-flies : (m : Held) → Fits m → m.waiting ≡ false → (i : ℕ) → (kept_at m.parts.harts i).flight ≡ None
none-flies m f q i = search (arith, still-free, m.parts, m.harts, m.parts.harts, f.ties, f.quiet)

-- a halted hart rests in a turn that counts
pub made-idle : (m : Held) (h : ℕ) (code : Option ℕ) → (hart_among m.harts h).progress ≡ G.Halted code
    → IsMade m (counted m) no_events T.Idle (flat_made (meaning m) h)
made-idle m h code e =
    subst (λ d. IsMade m (counted m) no_events T.Idle d) (sym (turn-halted m h code e))
    (record { core = core-counted m; maps = refl; owners = refl; console = refl; note = refl; kind = refl })

-- a hart that isn't halted hears the others in a turn that counts
module _ (m : Held) (h : ℕ) (w : IsWhole m) (p : Progress) (at : (hart_among m.harts h).progress ≡ p) (alive : is_halted p ≡ false) where
  pub hart-there : h < length m.harts
  hart-there = there-alive m.harts h (ap is_halted at ∙ alive)

  pub kept-alive : (kept_at m.parts.harts h).halted ≡ false
  kept-alive = (w.fits.ties h).halted ∙ ap is_halted at ∙ alive

  -- it may hear them
  pub may-hear : (n : Held) → n ≡ m →
      (h < length n.parts.harts) × (((kept_at n.parts.harts h).halted ≡ false) × (n.waiting ≡ false → (i : ℕ)
      → (kept_at n.parts.harts i).flight ≡ None))
  may-hear n is = search (arith, m.parts.harts, hart-there, kept-alive, none-flies)

  acts-heard : HasHeardAll h (heard h (counted m)).parts.harts → MayAct (heard h (counted m)) h
  acts-heard all =
      search (arith, hart-there, fits-heard (counted m) h (fits-counted m w.fits) hart-there, own-domain m h w.valid w.fits hart-there)

  -- it is this machine then
  module _ (old : Held) (is : old ≡ heard h (counted m)) where
    pub acts-now : HasHeardAll h old.parts.harts → MayAct old h
    acts-now all = subst (λ (n : Held). MayAct n h) (sym is) (acts-heard (subst (λ (n : Held). HasHeardAll h n.parts.harts) is all))

    pub valid-now : IsValid (core_in old)
    valid-now =
        subst (λ (n : Held). IsValid (core_in n)) (sym is)
        (valid-heard (counted m) h (fits-counted m w.fits) hart-there (valid-counted m w.valid))

    pub stands-now : (hart_among old.harts h).progress ≡ p
    stands-now = ap (λ (n : Held). (hart_among n.harts h).progress) is ∙ at

    -- what it makes then is what the turn makes
    pub made-now : (new : Held) (events : Events) (answer : TurnKind)
        → flat_made (meaning m) h ≡ made_after_hearing (heard h (counted m)) h →
        IsMade old new events answer (made_after_hearing old h) → IsMade m new events answer (flat_made (meaning m) h)
    made-now new events answer turn i =
        let j = subst (λ (n : Held). IsMade n new events answer (made_after_hearing n h)) is i in
        search arith
