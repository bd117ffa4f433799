-- Marks of domains, one for each that there may be, as an audit finds the live ones.
use Rattle.std.specs.Prelude.{◌↔◌, ℕ, ◌<◌, Bool, false, not, List, length, slice_index_or, count_by, IsTrue}
use Rattle.std.specs.List.{AllByRecursion}
use Rattle.mx_model.specs.declared.values.Frame.{Frame}
use Rattle.mx_model.specs.declared.values.Gate.{Gate}
use Rattle.mx_model.specs.State.{Core, Hart, hart_at}
use Rattle.mx_audit.specs.Live.{IsLive}

-- whether a domain is marked
abbrev pub is_marked : List Bool → ℕ → Bool
is_marked marks d = slice_index_or marks d false

-- just the live domains are marked
abbrev pub MarkLive : Core → List Bool → Type 0
MarkLive c marks = (d : ℕ) → IsTrue (is_marked marks d) ↔ IsLive c d

-- only live ones are
abbrev pub MarkOnlyLive : Core → List Bool → Type 0
MarkOnlyLive c marks = (d : ℕ) → IsTrue (is_marked marks d) → IsLive c d

-- what was marked is marked still
abbrev pub KeepMarks : List Bool → List Bool → Type 0
KeepMarks before after = (d : ℕ) → IsTrue (is_marked before d) → IsTrue (is_marked after d)

-- the domain of a hart and the callers of its frames are marked
pub record MarkHart (marks : List Bool) (hart : Hart) : Type 0 where
  pub domain : IsTrue (is_marked marks hart.domain)
  pub frames : AllByRecursion (λ (f : Frame). IsTrue (is_marked marks f.caller)) hart.frames

-- those of each hart are
abbrev pub MarkHarts : Core → List Bool → Type 0
MarkHarts c marks = (h : ℕ) → h < length c.harts → MarkHart marks (hart_at c h)

-- with a domain the targets of its gates are
abbrev pub MarkTargets : Core → List Bool → Type 0
MarkTargets c marks =
    AllByRecursion
    (λ (g : Gate). IsTrue (is_marked marks g.domain) → IsTrue (is_marked marks g.target)) c.gates

-- how many domains are not marked
abbrev pub unmarked : List Bool → ℕ
unmarked marks = count_by not marks
