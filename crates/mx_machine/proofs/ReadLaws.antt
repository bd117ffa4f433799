-- What is read of a machine is what its state says.
use Rattle.std.proofs.Common.{◌≡◌, ℕ, ◌+◌, ◌<◌, ◌==◌, ◌&&◌, cond, eq-eqb, List, [], ◌∷◌, length, refl, sym, ap, ◌∙◌, arith, Option, Some}
use Rattle.std.proofs.Common.{None}
use Rattle.std.specs.List.{list_all}
use Rattle.std.proofs.lemmas.Bool.{ne_eqb}
use Rattle.mx_table.specs.Tables.{IsDomain, map_of}
use Rattle.mx_check.specs.declared.flight.Flight.{Flight}
use Rattle.mx_check.specs.Harts.{Kept, kept_at, has_heard}
use Rattle.mx_model.specs.declared.values.Call.{Call}
use Rattle.mx_model.specs.Checks.{is_halted as stands_halted}
use Rattle.mx_model.specs.Reads.{map_in}
use Rattle.mx_model.specs.State.{module_at}
use Rattle.mx_model.specs.State.{Hart as Seen}
use Rattle.mx_model.specs.Valid.{IsModule}
use Rattle.mx_supervisor.proofs.Modules.{length-modules}
use Rattle.mx_supervisor.proofs.Maps.{map-in}
use Rattle.mx_machine.specs.declared.hart.Hart.{Hart}
use Rattle.mx_machine.specs.declared.hart.Progress.{Progress}
use Rattle.mx_machine.specs.declared.hart.Progress.TheVariants as G
use Rattle.mx_machine.specs.declared.starts.StackArea.{StackArea}
use Rattle.mx_machine.specs.declared.views.HartPlace.{HartPlace}
use Rattle.mx_machine.specs.declared.views.HartView.{HartView}
use Rattle.mx_machine.specs.Harts.{hart_among, is_halted, own_call, seen_from, status_by}
use Rattle.mx_machine.specs.Held.{Held, area_of, rest_of}
use Rattle.mx_machine.specs.Made.{core_in, hart_in}
use Rattle.mx_machine.specs.Readings.{IsAreaOf, IsPlaceOf, IsViewOf, TellsHart, TellsPlace, exit_by_progress, exit_of, status_by_progress}
use Rattle.mx_machine.specs.Readings.{status_told, was_heard}
use Rattle.mx_machine.specs.Ties.{Fits, FliesWhileWaiting}
use Rattle.mx_machine.proofs.HartsAt.{hart-in, length-seen}
use Rattle.mx_machine.proofs.HomeLaws.{IsHere, module-is}
use Rattle.mx_machine.proofs.HearLaws.{halted-seen}

module _ (m : Held) (f : Fits m) where
  pub modules-in : length m.parts.maps ≡ length (core_in m).modules
  modules-in = sym (length-modules (rest_of m) 1 m.parts.heaps ∙ f.sound.heaps)

  pub harts-in : length m.harts ≡ length (core_in m).harts
  harts-in = sym (length-seen 0 m.harts m.parts.harts)

  pub domain-in : (d : ℕ) → IsModule (length (core_in m).modules) d → IsDomain m.parts.maps d
  domain-in d i = record { first = i.first; last = omega (arith, i.last, modules-in) }

  pub here-in : (d : ℕ) → IsModule (length (core_in m).modules) d → IsHere m d
  here-in d i = record { low = i.first; high = omega (arith, i.last, modules-in, f.sound.heaps) }

  pub map-there : (d : ℕ) → IsModule (length (core_in m).modules) d → map_of m.parts.maps d ≡ map_in m.parts.size m.parts.maps d
  map-there d i = sym (map-in m.parts.size m.parts.maps d (domain-in d i))

  -- a stack area, with its beginning where it has words
  pub area-told : (d : ℕ) (a : StackArea) → IsModule (length (core_in m).modules) d →
      a ≡ record (area_of m.stacks d) { first = cond ((area_of m.stacks d).words == 0) 0 (area_of m.stacks d).first }
      → IsAreaOf (module_at (core_in m) d) a
  area-told d a i e =
      let is = module-is m d f (here-in d i) in
      search arith

  pub area-none : (d : ℕ) (a : StackArea) → IsModule (length (core_in m).modules) d → a ≡ area_of m.stacks d → a.words ≡ 0 →
      IsAreaOf (module_at (core_in m) d) (record a { first = 0 })
  area-none d a i e none = search (arith, m.stacks, eq-eqb, area-told)

  pub area-some : (d : ℕ) (a : StackArea) → IsModule (length (core_in m).modules) d → a ≡ area_of m.stacks d → (a.words ≡ 0 → ⊥) →
      IsAreaOf (module_at (core_in m) d) a
  area-some d a i e some = search (arith, m.stacks, ne_eqb, area-told)

  -- maps are as long as RAM
  pub map-long : (d : ℕ) → IsModule (length (core_in m).modules) d → length (map_in m.parts.size m.parts.maps d) ≡ m.parts.size
  map-long d i = search (arith, map-in, domain-in, f.sound.maps)

status-seen : (call : Call) (flight : Option Flight) (g : Progress) → status_by_progress g ≡ status_told (status_by call flight g)
status-seen call flight G.Running = refl
status-seen call flight G.Waiting = refl
status-seen call flight (G.Halted code) = refl

exit-seen : (call : Call) (flight : Option Flight) (g : Progress) → exit_by_progress g ≡ exit_of (status_by call flight g)
exit-seen call flight G.Running = refl
exit-seen call flight G.Waiting = refl
exit-seen call flight (G.Halted code) = refl

-- a hart that is told
pub view-told : (m : Held) (h : ℕ) (view : HartView) → TellsHart (hart_among m.harts h) view → IsViewOf (hart_in m h) view
view-told m h view t = search (arith, hart-in, status-seen, m.harts, m.parts.harts)

pub place-told : (m : Held) (h : ℕ) (place : HartPlace) → TellsPlace (hart_among m.harts h) place → IsPlaceOf (hart_in m h) place
place-told m h place t = search (arith, hart-in, status-seen, m.harts, m.parts.harts)

pub regs-told : (m : Held) (h : ℕ) (regs : List ℕ) → regs ≡ (hart_among m.harts h).regs → regs ≡ (hart_in m h).regs
regs-told m h regs e = search (arith, hart-in, m.harts, m.parts.harts)

pub exit-told : (m : Held) (h : ℕ) (code : Option ℕ) → code ≡ exit_by_progress (hart_among m.harts h).progress
    → code ≡ exit_of (hart_in m h).status
exit-told m h code e = search (arith, hart-in, exit-seen, m.harts, m.parts.harts)

-- who has heard the call on which a hart waits
heard-seen : (range : ℕ × ℕ) (call : Call) (by : ℕ) (o : Option Flight) (g : Progress) → FliesWhileWaiting range o g
    → has_heard o by ≡ was_heard (status_by call o g) by
heard-seen range call by o G.Running e = ap (λ (x : Option Flight). has_heard x by) e
heard-seen range call by None G.Waiting e = absurd e
heard-seen range call by (Some x) G.Waiting e = refl
heard-seen range call by o (G.Halted code) e = ap (λ (x : Option Flight). has_heard x by) e

pub heard-told : (m : Held) (h by : ℕ) → Fits m → has_heard (kept_at m.parts.harts h).flight by ≡ was_heard (hart_in m h).status by
heard-told m h by f = search (arith, m.harts, m.parts.harts, heard-seen, m.parts, f.ties, hart-in)

-- whether all harts are halted
pub all-halted : (n : ℕ) (xs : List Hart) (kept : List Kept) →
    list_all (λ (y : Seen). stands_halted y.status) (seen_from n xs kept) ≡ list_all (λ (x : Hart). is_halted x.progress) xs
all-halted n [] kept = refl
all-halted n (x ∷ xs) kept =
    ap (λ b. b && list_all (λ (y : Seen). stands_halted y.status) (seen_from (n + 1) xs kept))
    (halted-seen (own_call n x) (kept_at kept n).flight x.progress)
    ∙ ap (λ b. is_halted x.progress && b) (all-halted (n + 1) xs kept)

-- a hart of the state is one that the checker keeps
pub kept-there : (m : Held) (h : ℕ) → Fits m → h < length (core_in m).harts → h < length m.parts.harts
kept-there m h f lt = omega (arith, lt, harts-in m f, f.count)
