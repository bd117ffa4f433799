-- A waiting hart: it waits on, or its call is served.
use Rattle.std.proofs.Common.{◌≡◌, ℕ, zero, suc, ◌<◌, Bool, true, false, List, [], ◌∷◌, length, get_or, refl, sym, subst, ◌∙◌, arith}
use Rattle.std.specs.List.{list_any}
use Rattle.std.proofs.lemmas.Bool.{or_parts}
use Rattle.mx_check.specs.Calls.{is_ready}
use Rattle.mx_words.specs.Announced.{is_announced}
use Rattle.mx_model.specs.declared.values.TurnKind.TheVariants as T
use Rattle.mx_model.specs.Events.{Events, no_events}
use Rattle.mx_model.specs.Turn.{served}
use Rattle.mx_model.specs.Valid.{IsValid}
use Rattle.mx_machine.specs.declared.hart.Hart.{Hart}
use Rattle.mx_machine.specs.declared.hart.Progress.TheVariants as G
use Rattle.mx_machine.specs.Harts.{no_held_hart, hart_among, is_waiting, own_call}
use Rattle.mx_machine.specs.Held.{Held}
use Rattle.mx_machine.specs.Made.{IsMade, core_in, made_after_hearing, hart_in, reads_of}
use Rattle.mx_machine.specs.Ties.{Fits, MayAct}
use Rattle.mx_machine.proofs.CaseLaws.{acts-waiting}
use Rattle.mx_machine.proofs.HartsAt.{hart-in, length-seen}
use Rattle.mx_machine.proofs.HearLaws.{ready-alike}

pub made-waits : (m : Held) (h : ℕ) → MayAct m h → (hart_among m.harts h).progress ≡ G.Waiting → is_ready h m.parts.harts ≡ false
    → IsMade m m no_events T.Waited (made_after_hearing m h)
made-waits m h a w e =
    subst (λ d. IsMade m m no_events T.Waited d) (sym (acts-waiting m h false w (ready-alike m h a.fits a.there w ∙ e)))
    (record { core = refl; maps = refl; owners = refl; console = refl; note = refl; kind = refl })

-- a waiting hart of a valid state waits on an announced call
pub waiting-announced : (m : Held) (h : ℕ) → IsValid (core_in m) → h < length m.harts → (hart_among m.harts h).progress ≡ G.Waiting →
    is_announced (own_call h (hart_among m.harts h)).number ≡ true
waiting-announced m h v l w = search (arith, m.harts, m.parts.harts, hart-in, v.harts, length-seen)

-- whether some hart may wait is looked up again
pub none-waits : (xs : List Hart) (i : ℕ) → list_any (λ (x : Hart). is_waiting x.progress) xs ≡ false
    → is_waiting (get_or xs i no_held_hart).progress ≡ false
none-waits [] i e = refl
none-waits (x ∷ xs) zero e = (or_parts (is_waiting x.progress) (list_any (λ (x : Hart). is_waiting x.progress) xs) e).0
none-waits (x ∷ xs) (suc i) e = none-waits xs i (or_parts (is_waiting x.progress) (list_any (λ (x : Hart). is_waiting x.progress) xs) e).1

pub fits-settled : (n : Held) → Fits n → Fits (record n { waiting = list_any (λ (x : Hart). is_waiting x.progress) n.harts })
fits-settled n f = search (arith, none-waits)

pub made-settled : (m n : Held) (h : ℕ) (w : Bool) (events : Events) → MayAct m h → (hart_among m.harts h).progress ≡ G.Waiting
    → is_ready h m.parts.harts ≡ true →
    IsMade m n events T.Called (served (reads_of m) (core_in m) h (hart_in m h) (own_call h (hart_among m.harts h))) →
    IsMade m (record n { waiting = w }) events T.Called (made_after_hearing m h)
made-settled m n h w events a p e i =
    subst (λ d. IsMade m (record n { waiting = w }) events T.Called d)
    (sym (acts-waiting m h true p (ready-alike m h a.fits a.there p ∙ e)))
    (record { core = i.core; maps = i.maps; owners = i.owners; console = i.console; note = i.note; kind = i.kind })
