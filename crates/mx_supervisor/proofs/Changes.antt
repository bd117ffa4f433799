-- Calls that change rights, and what changes beside them.
use Rattle.std.proofs.Common.{◌≡◌, ℕ, ◌+◌, ◌-◌, ◌<◌, ◌≤◌, [], length, refl, sym, ◌∙◌, ap, subst, arith, Option, true, false, nat_lt, ⊎_elim}
use Rattle.std.proofs.Common.{if◌then◌else◌}
use Rattle.std.proofs.lemmas.Bool.{cases_lt, le-ltb}
use Rattle.mx_words.specs.declared.perm.Perm.{Perm}
use Rattle.mx_words.specs.Changes.{changed_maps}
use Rattle.mx_words.proofs.ChangeLaws.{length-changed_from, changed_from-at}
use Rattle.mx_table.specs.Tables.{map_of}
use Rattle.mx_check.specs.Harts.{kept_at}
use Rattle.mx_model.specs.declared.values.Call.{Call}
use Rattle.mx_model.specs.Reads.{Reads}
use Rattle.mx_model.specs.Serve.{Served, changes}
use Rattle.mx_model.specs.State.{Core}
use Rattle.mx_supervisor.specs.declared.answer.Answer.{Answer}
use Rattle.mx_supervisor.specs.Answers.{plain}
use Rattle.mx_supervisor.specs.Parts.{Parts, core_of, IsSound}
use Rattle.mx_supervisor.specs.Served.{ServesAs, Meets}
use Rattle.mx_supervisor.proofs.Answering.{row_on, done}
use Rattle.mx_words.specs.Announced.{names_range}
use Rattle.mx_words.specs.FirstFit.{Area}
use Rattle.mx_words.specs.Ranges.{range_words}
use Rattle.mx_words.specs.declared.tables.Kind.TheVariants as K
use Rattle.mx_words.proofs.MapLaws.{length-changed_map}
use Rattle.mx_table.specs.declared.change.Change.{Change as ChangeOf}
use Rattle.mx_table.specs.Change.{IsLawful}
use Rattle.mx_model.specs.Checks.{arg}
use Rattle.mx_model.specs.Serve.{arg_range}
use Rattle.mx_supervisor.specs.Heaps.{heap_at}
use Rattle.mx_supervisor.specs.Rights.{Gives}
use Rattle.mx_supervisor.specs.Served.{IsIn, range_of}

-- changed maps are as many and as long as they were
pub sound-changed : (p : Parts) (first count : ℕ) (given : ℕ → Option Perm) → IsSound p
    → IsSound (record p { maps = changed_maps first count given p.maps })
sound-changed p first count given sound =
    let many = length-changed_from first count given 1 p.maps in record {
      few_words = sound.few_words;
      few_maps = let a = sound.few_maps in omega (arith, many, a);
      maps = λ d there.
          let a = there.first in let b = there.last in
          let inside : d - 1 < length p.maps = omega (arith, a, b, many) in
          ap length (changed_from-at first count given 1 p.maps (d - 1) d [] inside (omega (arith, a)))
          ∙ length-changed_map first count (given d) (map_of p.maps d)
          ∙ sound.maps d (record { first = a; last = omega (arith, b, many) });
      ram = sound.ram;
      owners = sound.owners;
      heaps = sound.heaps ∙ sym many;
      areas = sound.areas;
    }

-- changed rights, answered by 0
pub changes-done : (row : Reads → Core → Call → Served) (call : Call) (p q : Parts) (first count : ℕ) (given : ℕ
    → Option Perm) (a : Answer) →
    IsSound p → q ≡ record p { maps = changed_maps first count given p.maps } → a ≡ plain 0 →
    ((rest : Core) → row_on row call p rest ≡ changes (core_of rest p) (record { first = first; count = count; given = given })) →
    Meets row call (kept_at p.harts call.hart).flight p q [] a
changes-done row call p q first count given a sound eq ea es =
    let t : Parts = record p { maps = changed_maps first count given p.maps } in
    let served : ServesAs row call p t [] (plain 0) = λ rest bars. rw (es rest)
    (record { core = refl; maps = refl; owners = refl; console = refl; a0 = refl; a1 = refl; stop = refl }) in
    let m : Meets row call (kept_at p.harts call.hart).flight p t [] (plain 0) =
    done row call p t [] (plain 0) (sound-changed p first count given sound) refl refl
    (record { size = refl; limit = refl; modules = length-changed_from first count given 1 p.maps }) served in
    rw (eq, ea) m

-- a change of a range of RAM that names modules alone is lawful
pub lawful-of : (c : ChangeOf) (first count words modules : ℕ) (given : ℕ → Option Perm) → Gives c first count modules given → 0 < count
    → first + count ≤ words →
    IsLawful c words modules
lawful-of c first count words modules given gives some inside = record {
  some = let a = gives.count in omega (arith, a, some);
  inside = let a = gives.first in let b = gives.count in omega (arith, a, b, inside);
  named = gives.named;
}

-- it keeps to a range that holds it
pub in-of : (c : ChangeOf) (first count modules : ℕ) (given : ℕ → Option Perm) (range : ℕ × ℕ) → Gives c first count modules given →
    range.0 ≤ first → first + count ≤ range.0 + range.1 → IsIn c.first c.count range
in-of c first count modules given range gives low high =
    let a = gives.first in let b = gives.count in (omega (arith, a, low), omega (arith, a, b, high))

-- any state to read a range in
abbrev no_core : Core
no_core = record {
  ram = [];
  modules = [];
  gates = [];
  harts = [];
  caches = [];
  turns = 0;
  size = 0;
  kind = K.Segments;
  limit = record { upper = 0; leaf = 0; spill = 0 };
  buffer = 0;
}

-- the range of a call 3 or 4, and of a call 6 or 7
pub range-named : (p : Parts) (call : Call) (r : ℕ × ℕ) → names_range call.number ≡ true
    → ((rest : Core) → arg_range (core_of rest p) call ≡ r) → range_of p call ≡ r
range-named p call r named e =
    let heap : Area = (heap_at p.heaps call.domain).area in
    ap (λ b. if b then range_words (arg call 0) (arg call 1) p.size else (heap.first, heap.count)) named ∙ e no_core

pub range-heap : (p : Parts) (call : Call) → names_range call.number ≡ false →
    range_of p call ≡ ((heap_at p.heaps call.domain).area.first, (heap_at p.heaps call.domain).area.count)
range-heap p call named =
    let heap : Area = (heap_at p.heaps call.domain).area in
    ap (λ b. if b then range_words (arg call 0) (arg call 1) p.size else (heap.first, heap.count)) named

-- a number that isn't above another
pub not-above : (m n : ℕ) → (m < n → ⊥) → nat_lt m n ≡ false
not-above m n out = ⊎_elim (λ (h : m < n). absurd (out h)) (λ (h : n ≤ m). le-ltb m n h) (cases_lt m n)

-- the same, by another name of the number of modules
pub gives-in : (c : ChangeOf) (first count m n : ℕ) (f : ℕ → Option Perm) → m ≡ n → Gives c first count m f → Gives c first count n f
gives-in c first count m n f e gives = subst (λ (k : ℕ). Gives c first count k f) e gives
