-- Worked examples: each clause on the small valid state of mx_model, in which hart 0 waits on a grant of words 0 and 1 that hart 1 has
-- heard; the spans
-- that a turn keeps, computed; and caches that aren't coherent.
use Rattle.std.proofs.Common.{◌≡◌, ◌≢◌, ℕ, zero, suc, true, false, [], ◌∷◌, replicate, refl, lit<, arith, Option, Some, None}
use Rattle.std.specs.Prelude.{IfSome}
use Rattle.std.proofs.lemmas.List.Elements.{All-nil, All-replicate, All-set}
use Rattle.mx_words.specs.declared.perm.Perm.TheVariants as P
use Rattle.mx_words.specs.Bytes.{number_at, put_at}
use Rattle.mx_words.specs.declared.perm.Span.{Span}
use Rattle.mx_words.specs.Caches.{Cache, Entry, meets, no_cache}
use Rattle.mx_words.specs.Hearing.{nobody}
use Rattle.mx_words.specs.Ranges.{covers}
use Rattle.mx_words.specs.Rights.{perm_at}
use Rattle.mx_words.proofs.OverlayLaws.{covers_from}
use Rattle.mx_isa.specs.Fields.{imm_i, imm_s, imm_b, imm_u, imm_j, extended}
use Rattle.mx_isa.specs.Table.{decoded}
use Rattle.mx_model.specs.Checks.{heard_ranges, is_halted}
use Rattle.mx_model.specs.Effect.{effect, holds, imm_result, loaded, reg_result}
use Rattle.mx_model.specs.Reads.{flat_reads, map_in}
use Rattle.mx_model.specs.Run.{ByQuantum, flat_turn, run}
use Rattle.mx_model.specs.State.{Core, Flat, Halted, Hart, Running, State, Waiting, cache_at, flat, hart_at, with_cache, with_hart}
use Rattle.mx_model.specs.Turn.{call_of}
use Rattle.mx_model.specs.Valid.{IsHart, IsValid}
use Rattle.mx_model.proofs.Smalls.{cache, grant, span_of}
use Rattle.mx_model.proofs.ValidExample.{core, small, small-core, small-flat}
use Rattle.mx_model.proofs.ValidParts.{valid-hart}
use Rattle.mx_coherence.specs.Spans.{AgreesIn, AreCurrent}
use Rattle.mx_coherence.specs.Coherence.{AreWhole, HasDropped, HasEmptyCaches, KeepsNoStaleSpan, flat_coherent}
use Rattle.mx_words.proofs.SpanLaws.{each_none}
use Rattle.mx_coherence.proofs.RunLaws.{coherent-empty, coherent-run, coherent-turn, stale-none, whole-flat}

-- no cache of it keeps a span, so it is coherent, and stays so after a turn
small-empty : HasEmptyCaches core
small-empty zero = record { places = refl; kept = refl }
small-empty (suc zero) = record { places = refl; kept = refl }
small-empty (suc (suc h)) = record { places = refl; kept = refl }

small-whole : AreWhole small
small-whole = whole-flat small small-flat

small-coherent : flat_coherent small
small-coherent = coherent-empty _ core small-empty

small-turned : flat_coherent (flat_turn small 1)
small-turned = coherent-turn small 1 small-core small-whole small-coherent

-- hart 1 fetches word 1, whose run meets the range that it has heard: the walk is counted, and nothing kept
barred-range : heard_ranges core 1 ≡ (0, 2) ∷ []
barred-range = refl

barred-cache : cache_at (flat_turn small 1).core 1 ≡ cache [] [] 0 0 1
unfolding decoded effect holds imm_result reg_result loaded number_at put_at imm_i imm_s imm_b imm_u imm_j extended
barred-cache = refl

-- the same with hart 0 at an instruction that does nothing: the span of its fetch is kept
abbrev walker : Hart
walker = record (hart_at core 0) { pc = 0x80000000; status = Running }

abbrev walking : Core
walking = with_hart 0 walker core

walker-valid : IsHart 2 2 0 walker
walker-valid =
    let old = small-core.harts 0 (lit< tt) in
    record {
      regs = old.regs;
      pc = record { aligned = refl; small = lit< tt };
      domain = old.domain;
      few_frames = old.few_frames;
      frames =
          tt;
      status = tt;
    }

walking-valid : IsValid walking
walking-valid = valid-hart core 0 walker small-core walker-valid

abbrev state : State
state = record {
  core = walking;
  grants = (grant 0 4 P.ExecuteRead ∷ []) ∷ (grant 12 2 P.ReadWrite ∷ []) ∷ [];
  gives = [];
  console = [];
  notes = [];
}

walking-empty : HasEmptyCaches walking
walking-empty zero = record { places = refl; kept = refl }
walking-empty (suc zero) = record { places = refl; kept = refl }
walking-empty (suc (suc h)) = record { places = refl; kept = refl }

abbrev after : Flat
after = flat (run (ByQuantum 1) 1 state)

after-coherent : flat_coherent after
after-coherent = coherent-run (ByQuantum 1) 1 state walking-valid walking-empty

after-cache : cache_at after.core 0 ≡ cache ((0, span_of 0 4 P.ExecuteRead) ∷ []) ((1, span_of 0 4 P.ExecuteRead) ∷ []) 0 0 1
unfolding decoded effect holds imm_result reg_result loaded number_at put_at imm_i imm_s imm_b imm_u imm_j extended
after-cache = refl

after-running : (hart_at after.core 0).status ≡ Running
unfolding decoded effect holds imm_result reg_result loaded number_at put_at imm_i imm_s imm_b imm_u imm_j extended
after-running = refl

after-stale : KeepsNoStaleSpan after 0
unfolding decoded effect holds imm_result reg_result loaded number_at put_at imm_i imm_s imm_b imm_u imm_j extended
after-stale = stale-none after 0 after-coherent refl

-- what that says of the last word of the place's span, and of the list's
place-word : perm_at (map_in after.core.size after.maps 1) 3 ≡ P.ExecuteRead
unfolding decoded effect holds imm_result reg_result loaded number_at put_at imm_i imm_s imm_b imm_u imm_j extended
place-word = after-stale.places 0 None (lit< tt) 3 refl

list-word : perm_at (map_in after.core.size after.maps 1) 3 ≡ P.ExecuteRead
unfolding decoded effect holds imm_result reg_result loaded number_at put_at imm_i imm_s imm_b imm_u imm_j extended
list-word = after-stale.list 0 (0, span_of 0 0 P.None) (lit< tt) 3 refl

-- the small state with other caches of one hart
abbrev with : ℕ → Cache → Flat
with h k = record small { core = with_cache h k core }

-- a place that lies of one word, word 4: nobody may read it
lying-place : flat_coherent (with 1 (cache ((0, span_of 2 3 P.ExecuteRead) ∷ []) [] 0 0 0)) → ⊥
lying-place k = let e = ((k.current 1 refl).places 0 None (lit< tt)).at 4 refl in cc

-- a place is of the hart's domain alone: domain 2 has the span, hart 1 is in domain 1
foreign-place : flat_coherent (with 1 (cache ((0, span_of 12 2 P.ReadWrite) ∷ []) [] 0 0 0)) → ⊥
foreign-place k = let e = ((k.current 1 refl).places 0 None (lit< tt)).at 12 refl in cc

-- an entry of the list is of its own domain
lying-entry : flat_coherent (with 1 (cache [] ((2, span_of 2 2 P.ExecuteRead) ∷ []) 0 0 0)) → ⊥
lying-entry k = let e = ((k.current 1 refl).entries 0 (0, span_of 0 0 P.None) (lit< tt)).at 2 refl in cc

-- a true span that meets the range of a heard call, at a place and in the list
heard-place : flat_coherent (with 1 (cache ((0, span_of 0 4 P.ExecuteRead) ∷ []) [] 0 0 0)) → ⊥
heard-place k = let e = (k.dropped 1 0 refl (λ x. cc) refl).places 0 None (lit< tt) in cc

heard-entry : flat_coherent (with 1 (cache [] ((1, span_of 0 4 P.ExecuteRead) ∷ []) 0 0 0)) → ⊥
heard-entry k = let e = (k.dropped 1 0 refl (λ x. cc) refl).entries 0 (0, span_of 0 0 P.None) (lit< tt) in cc

-- a waiting hart may keep no stale span on the range of its own call
own-range : flat_coherent (with 0 (cache ((0, span_of 0 2 P.Read) ∷ []) [] 0 0 0)) → ⊥
own-range k = let e = ((k.current 0 refl).places 0 None (lit< tt)).at 0 refl in cc

-- nothing is said of a halted hart
abbrev over : Flat
over = record small {
  core = with_cache 1 (cache ((0, span_of 2 3 P.ExecuteRead) ∷ []) [] 0 0 0)
      (with_hart 1 (record (hart_at core 1) { status = Halted None }) core);
}

over-current : (h : ℕ) → is_halted (hart_at over.core h).status ≡ false
    → AreCurrent (flat_reads over) (hart_at over.core h).domain (cache_at over.core h)
over-current zero live = each_none (AgreesIn (flat_reads over)) (AgreesIn (flat_reads over) 1) no_cache (small-empty 0)
over-current (suc zero) live = absurd (let q : ⊥ = cc in q)
over-current (suc (suc h)) live = absurd (let q : ⊥ = cc in q)

over-dropped : (h g : ℕ) → is_halted (hart_at over.core h).status ≡ false → g ≢ h
    → HasDropped over.core h (cache_at over.core h) (hart_at over.core g).status
over-dropped zero zero live apart = absurd (apart refl)
over-dropped zero (suc zero) live apart = tt
over-dropped zero (suc (suc g)) live apart = tt
over-dropped (suc zero) g live apart = absurd (let q : ⊥ = cc in q)
over-dropped (suc (suc h)) g live apart = absurd (let q : ⊥ = cc in q)

over-coherent : flat_coherent over
over-coherent = record { current = over-current; dropped = over-dropped }

-- a true span on the range of the hart's own call, and on that of another's call that the hart hasn't heard
abbrev kept : Cache
kept = cache ((0, span_of 0 4 P.ExecuteRead) ∷ []) [] 0 0 0

true-span : (w : ℕ) → covers 0 4 w ≡ true → perm_at (map_in 17 small.maps 1) w ≡ P.ExecuteRead
true-span zero e = refl
true-span (suc zero) e = refl
true-span (suc (suc zero)) e = refl
true-span (suc (suc (suc zero))) e = refl
true-span (suc (suc (suc (suc w)))) e = let p = (covers_from 0 4 (suc (suc (suc (suc w)))) e).1 in absurd (omega (arith, p))

kept-current : AreCurrent (flat_reads small) 1 kept
kept-current = record {
  entries = All-nil (λ (e : Entry). AgreesIn (flat_reads small) e.0 e.1);
  places = All-set (λ (o : Option Span). IfSome o (AgreesIn (flat_reads small) 1)) (replicate 32 None) 0 (Some (span_of 0 4 P.ExecuteRead))
      (record { at = true-span }) (All-replicate (λ (o : Option Span). IfSome o (AgreesIn (flat_reads small) 1)) 32 None tt);
}

own-current : (h : ℕ) → is_halted (hart_at core h).status ≡ false
    → AreCurrent (flat_reads small) (hart_at core h).domain (cache_at (with 0 kept).core h)
own-current zero live = kept-current
own-current (suc zero) live = each_none (AgreesIn (flat_reads small)) (AgreesIn (flat_reads small) 1) no_cache (small-empty 1)
own-current (suc (suc h)) live = absurd (let q : ⊥ = cc in q)

own-dropped : (h g : ℕ) → is_halted (hart_at core h).status ≡ false → g ≢ h
    → HasDropped core h (cache_at (with 0 kept).core h) (hart_at core g).status
own-dropped zero zero live apart = absurd (apart refl)
own-dropped zero (suc zero) live apart = tt
own-dropped zero (suc (suc g)) live apart = tt
own-dropped (suc zero) zero live apart = λ hit. each_none (λ d s. meets s 0 2 ≡ false) (λ s. meets s 0 2 ≡ false) no_cache (small-empty 1)
own-dropped (suc zero) (suc zero) live apart = tt
own-dropped (suc zero) (suc (suc g)) live apart = tt
own-dropped (suc (suc h)) g live apart = absurd (let q : ⊥ = cc in q)

own-coherent : flat_coherent (with 0 kept)
own-coherent = record { current = own-current; dropped = own-dropped }

abbrev unheard : Flat
unheard = record small {
  core = with_cache 1 kept (with_hart 0
      (record (hart_at core 0) { status = Waiting (call_of 0 (hart_at core 0)) nobody }) core);
}

unheard-current : (h : ℕ) → is_halted (hart_at unheard.core h).status ≡ false →
    AreCurrent (flat_reads small) (hart_at unheard.core h).domain (cache_at unheard.core h)
unheard-current zero live = each_none (AgreesIn (flat_reads small)) (AgreesIn (flat_reads small) 1) no_cache (small-empty 0)
unheard-current (suc zero) live = kept-current
unheard-current (suc (suc h)) live = absurd (let q : ⊥ = cc in q)

unheard-dropped : (h g : ℕ) → is_halted (hart_at unheard.core h).status ≡ false → g ≢ h →
    HasDropped unheard.core h (cache_at unheard.core h) (hart_at unheard.core g).status
unheard-dropped zero zero live apart = absurd (apart refl)
unheard-dropped zero (suc zero) live apart = tt
unheard-dropped zero (suc (suc g)) live apart = tt
unheard-dropped (suc zero) zero live apart = λ hit. absurd (let q : ⊥ = cc in q)
unheard-dropped (suc zero) (suc zero) live apart = tt
unheard-dropped (suc zero) (suc (suc g)) live apart = tt
unheard-dropped (suc (suc h)) g live apart = absurd (let q : ⊥ = cc in q)

unheard-coherent : flat_coherent unheard
unheard-coherent = record { current = unheard-current; dropped = unheard-dropped }
