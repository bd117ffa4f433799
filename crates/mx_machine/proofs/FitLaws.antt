-- What fits after a hart of a machine is changed, in the machine and in its checker.
use Rattle.std.proofs.Common.{◌≡◌, ◌≢◌, ℕ, ◌<◌, ◌≤◌, ◌⊎◌, inl, inr, Bool, false, List, length, set, sym, ap, subst, ◌∙◌}
use Rattle.std.proofs.lemmas.Bool.{cases_eq}
use Rattle.std.proofs.lemmas.List.{get_or-set_same, get_or-set_other, length-set}
use Rattle.mx_check.specs.Harts.{Kept, kept_at, at_hart}
use Rattle.mx_check.specs.Harts.{nothing_kept}
use Rattle.mx_supervisor.specs.Parts.{Parts, IsSound}
use Rattle.mx_supervisor.specs.Served.{range_of}
use Rattle.mx_supervisor.proofs.Answering.{sound-ram, with-harts}
use Rattle.mx_machine.specs.declared.hart.Hart.{Hart}
use Rattle.mx_machine.specs.Harts.{no_held_hart, hart_among, is_waiting}
use Rattle.mx_machine.specs.Held.{Held}
use Rattle.mx_machine.specs.Ties.{Fits, IsTied}

-- hart h is another in a machine, with other parts of the checker, other bytes of RAM and other dead domains
abbrev pub changed : Held → ℕ → Hart → List Kept → List ℕ → List Bool → Bool → Held
changed m h x kept ram dead waiting = record m {
  parts = record m.parts { harts = kept; ram = ram };
  harts = set m.harts h x;
  dead = dead;
  waiting = waiting;
}

pub record IsChange (m : Held) (h : ℕ) (x : Hart) (kept : List Kept) (ram : List ℕ) (dead : List Bool) (waiting : Bool) : Type 0 where
  pub fits : Fits m
  pub there : h < length m.harts
  pub count : length kept ≡ length m.parts.harts
  pub others : (i : ℕ) → i ≢ h → kept_at kept i ≡ kept_at m.parts.harts i
  pub tied : IsTied (range_of m.parts) h x (kept_at kept h)
  pub bytes : length ram ≡ length m.parts.ram
  pub deads : length dead ≡ 64
  pub quiet : waiting ≡ false → (m.waiting ≡ false) × (is_waiting x.progress ≡ false)

pub sound-changed : (p : Parts) (kept : List Kept) (ram : List ℕ) → IsSound p → length ram ≡ length p.ram
    → IsSound (record p { harts = kept; ram = ram })
sound-changed p kept ram s e = sound-ram (record p { harts = kept }) ram (with-harts p kept s) e

pub fits-change : (m : Held) (h : ℕ) (x : Hart) (kept : List Kept) (ram : List ℕ) (dead : List Bool) (waiting : Bool)
    → IsChange m h x kept ram dead waiting →
    Fits (changed m h x kept ram dead waiting)
fits-change m h x kept ram dead waiting c = record {
  sound = sound-changed m.parts kept ram c.fits.sound c.bytes;
  count = length-set m.harts h x ∙ c.fits.count ∙ sym c.count;
  few = subst (λ n. n ≤ 4) (sym (length-set m.harts h x)) c.fits.few;
  stacks = c.fits.stacks;
  dead = c.deads;
  ties = λ i. tie i (cases_eq i h);
  quiet = λ w i. still w i (cases_eq i h);
}
  where
    tie : (i : ℕ) → (i ≡ h) ⊎ (i ≢ h) → IsTied (range_of m.parts) i (hart_among (set m.harts h x) i) (kept_at kept i)
    tie i (inl e) =
        subst (λ j. IsTied (range_of m.parts) j (hart_among (set m.harts h x) j) (kept_at kept j)) (sym e)
        (subst (λ (y : Hart). IsTied (range_of m.parts) h y (kept_at kept h)) (sym (get_or-set_same m.harts h x no_held_hart c.there))
        c.tied)
    tie i (inr ne) =
        subst (λ (y : Hart). IsTied (range_of m.parts) i y (kept_at kept i)) (sym (get_or-set_other m.harts h i x no_held_hart ne))
        (subst (λ (k : Kept). IsTied (range_of m.parts) i (hart_among m.harts i) k) (sym (c.others i ne)) (c.fits.ties i))

    still : waiting ≡ false → (i : ℕ) → (i ≡ h) ⊎ (i ≢ h) → is_waiting (hart_among (set m.harts h x) i).progress ≡ false
    still w i (inl e) =
        ap (λ j. is_waiting (hart_among (set m.harts h x) j).progress) e
        ∙ ap (λ (y : Hart). is_waiting y.progress) (get_or-set_same m.harts h x no_held_hart c.there) ∙ (c.quiet w).1
    still w i (inr ne) =
        ap (λ (y : Hart). is_waiting y.progress) (get_or-set_other m.harts h i x no_held_hart ne) ∙ c.fits.quiet (c.quiet w).0 i

-- a step of the checker for hart h
pub count-step : (kept : List Kept) (h : ℕ) (step : Kept → Kept) → length (at_hart h step kept) ≡ length kept
count-step kept h step = length-set kept h (step (kept_at kept h))

pub own-step : (kept : List Kept) (h : ℕ) (step : Kept → Kept) → h < length kept → kept_at (at_hart h step kept) h ≡ step (kept_at kept h)
own-step kept h step l = get_or-set_same kept h (step (kept_at kept h)) nothing_kept l

pub others-step : (kept : List Kept) (h : ℕ) (step : Kept → Kept) (i : ℕ) → i ≢ h → kept_at (at_hart h step kept) i ≡ kept_at kept i
others-step kept h step i ne = get_or-set_other kept h i (step (kept_at kept h)) nothing_kept ne
