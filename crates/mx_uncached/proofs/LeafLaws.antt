-- What is left of a turn when its caches are forgotten: the parts of a turn, one by one.
use Rattle.std.proofs.Common.{◌≡◌, ℕ, true, false, not, ◌==◌, ◌&&◌, ◌++◌, List, [], refl, ◌∙◌, ap, if◌then◌else◌, Option, Some, None}
use Rattle.std.specs.Prelude.{slice_set}
use Rattle.std.specs.Option.{option_map_or}
use Rattle.std.proofs.lemmas.List.{append-nil}
use Rattle.mx_words.specs.Newest.{Give}
use Rattle.mx_model.specs.declared.values.Frame.{Frame}
use Rattle.mx_model.specs.declared.values.Note.{Note}
use Rattle.mx_model.specs.declared.values.Note.TheVariants as N
use Rattle.mx_model.specs.declared.values.TurnKind.{TurnKind}
use Rattle.mx_model.specs.declared.values.TurnKind.TheVariants as T
use Rattle.mx_model.specs.Gates.{top}
use Rattle.mx_model.specs.Run.{after}
use Rattle.mx_model.specs.State.{Core, State, hart_at, module_at}
use Rattle.mx_model.specs.State.{with_module as with_module_of}
use Rattle.mx_model.specs.Turn.{Made, fault_answer, given_up, made, trapped, with_regs}
use Rattle.mx_uncached.specs.Plain.{Plain, go, halt, note, with_module}
use Rattle.mx_uncached.specs.Turn.{fault, give_up, recover}
use Rattle.mx_uncached.specs.Forgetting.{plain}

-- nothing is added to gives, console and notes
settled : (p : Plain) (g : List Give) (b : List ℕ) (n : List Note) → g ≡ p.gives → b ≡ p.console → n ≡ p.notes →
    record p { gives = g; console = b; notes = n } ≡ p
settled p g b n x y z =
    ap (λ (v : List Give). record p { gives = v; console = b; notes = n }) x
    ∙ ap (λ (v : List ℕ). record p { console = v; notes = n }) y
    ∙ ap (λ (v : List Note). record p { notes = v }) z

pub quiet : (p : Plain) → record p { gives = p.gives ++ []; console = p.console ++ []; notes = p.notes ++ [] } ≡ p
quiet p =
    settled p (p.gives ++ []) (p.console ++ []) (p.notes ++ []) (append-nil p.gives) (append-nil p.console)
    (append-nil p.notes)

-- a note alone is added, or bytes alone, or a give alone
pub noted : (p : Plain) → record p { gives = p.gives ++ []; console = p.console ++ [] } ≡ p
noted p = settled p (p.gives ++ []) (p.console ++ []) p.notes (append-nil p.gives) (append-nil p.console) refl

pub told : (p : Plain) → record p { gives = p.gives ++ []; notes = p.notes ++ [] } ≡ p
told p = settled p (p.gives ++ []) p.console (p.notes ++ []) (append-nil p.gives) refl (append-nil p.notes)

pub gave : (p : Plain) → record p { console = p.console ++ []; notes = p.notes ++ [] } ≡ p
gave p = settled p p.gives (p.console ++ []) (p.notes ++ []) refl (append-nil p.console) (append-nil p.notes)

-- the plain state after what a turn made, and a state with another core
abbrev pub ends : State → Made → Plain
ends s m = plain (after s m)

abbrev pub at : State → Core → Plain
at s c = plain (record s { core = c })

-- the hart goes on
pub goes : (s : State) (c : Core) (kind : TurnKind) (h : ℕ) (regs : List ℕ) (pc : ℕ) →
    ends s (made kind (with_regs h (hart_at c h) regs pc c)) ≡ go h regs pc (at s c)
goes s c kind h regs pc = quiet _

-- a fault, over the hart's top frame if it has one
gives-up : (s : State) (c : Core) (h cause : ℕ) (n : Note) (o : Option Frame) →
    ends s (record (made T.Trapped (given_up c h (hart_at c h) cause o)) { note = Some n })
    ≡ option_map_or
    (λ frame. give_up h (slice_set (hart_at c h).regs 10 (fault_answer cause)) frame (note n (at s c))) o
    (halt h None (note n (at s c)))
gives-up s c h cause n None = noted _
gives-up s c h cause n (Some frame) = noted _

recovers : (s : State) (c : Core) (h cause : ℕ) (n : Note) →
    ends s (record (made T.Trapped (given_up c h (hart_at c h) cause (top (hart_at c h).frames))) { note = Some n })
    ≡ recover h cause (note n (at s c))
recovers s c h cause n = gives-up s c h cause n (top (hart_at c h).frames)

pub faults : (s : State) (c : Core) (h cause value : ℕ) →
    ends s (trapped c h (hart_at c h) cause value) ≡ fault h cause value (at s c)
faults s c h cause value =
    let hart = hart_at c h in
    let d = hart.domain in
    let m = module_at c d in
    let n = N.Fault c.turns h d hart.pc (record { cause = cause; value = value }) in
    elim (m.kills && not (cause == 20)) as (λ b.
    ends s (record
    (made T.Trapped
    (given_up (if b then with_module_of d (record m { dead = true }) c else c) h hart cause
    (top hart.frames))) { note = Some n })
    ≡ recover h cause (if b then with_module d (record m { dead = true }) (note n (at s c)) else note n (at s c))) [
      | true ↦ recovers s (with_module_of d (record m { dead = true }) c) h cause n
      | false ↦ recovers s c h cause n
    ]
