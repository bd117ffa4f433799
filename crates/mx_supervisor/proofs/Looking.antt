-- One look at a word: what the checker keeps afterwards is what the model's look leaves.
use Rattle.std.proofs.Common.{◌≡◌, ◌≢◌, ℕ, ◌-◌, ◌*◌, ◌/◌, ◌<◌, inl, inr, true, not, nat_lt, nat_le, List, length, set, Option, Some, refl}
use Rattle.std.proofs.Common.{sym, ap, subst, ◌∙◌, arith, length-set, get_or-set_same, get_or-set_other}
use Rattle.std.proofs.Common.{map as list_map}
use Rattle.std.specs.Prelude.{IfSome}
use Rattle.std.proofs.Math.ListN.{get_or-map}
use Rattle.std.proofs.lemmas.Bool.{le-leb, lt-ltb}
use Rattle.std.proofs.lemmas.List.{map-set}
use Rattle.mx_words.specs.declared.perm.Perm.{Perm}
use Rattle.mx_words.specs.declared.perm.Span.{Span}
use Rattle.mx_words.specs.Caches.{Cache, checked}
use Rattle.mx_words.specs.Counting.{all_below}
use Rattle.mx_words.specs.Hearing.{is_in}
use Rattle.mx_words.specs.declared.perm.Access.{Access}
use Rattle.mx_words.specs.Rights.{allows, denies, perm, perm_at}
use Rattle.mx_words.specs.Ranges.{ram_base, address_of, word_of}
use Rattle.mx_words.specs.Reach.{span}
use Rattle.mx_words.proofs.OptionLaws.{if_some_after}
use Rattle.mx_table.specs.Tables.{map_of, IsDomain}
use Rattle.mx_check.specs.declared.flight.Flight.{Flight}
use Rattle.mx_check.specs.Conditions.{MayLook}
use Rattle.mx_check.specs.Harts.{Kept, nothing_kept, kept_at, at_hart}
use Rattle.mx_check.specs.Looks.{hart_forbids, is_forbidden, looks}
use Rattle.mx_check.specs.Looks.{looked_at_address}
use Rattle.mx_check.proofs.LookLaws.{all_below_agree, hart_forbids-other}
use Rattle.mx_model.specs.declared.values.Call.{Call}
use Rattle.mx_model.specs.Checks.{looked}
use Rattle.mx_model.specs.Reads.{flat_reads, map_in}
use Rattle.mx_model.specs.Serve.{look_of}
use Rattle.mx_model.specs.State.{Core, cache_at}
use Rattle.mx_supervisor.specs.Looks.{BarsAlike, KeepsHarts, HasLooked}
use Rattle.mx_supervisor.specs.Parts.{Parts, core_of, flat_of, IsSound}
use Rattle.mx_supervisor.proofs.Maps.{map-in}
use mathlib.Core.Bool.{not-not}

-- the word that holds the address of a word
pub word-of-address : (w size : ℕ) → w < size → word_of (address_of w) size ≡ Some w
word-of-address w size lt =
    let low : nat_le ram_base (address_of w) ≡ true = le-leb ram_base (address_of w) (omega arith) in
    let high : nat_lt (address_of w - ram_base) (4 * size) ≡ true = lt-ltb (address_of w - ram_base) (4 * size) (omega arith) in
    let round : (address_of w - ram_base) / 4 ≡ w = omega arith in
    rw (low, high, round)

-- whether a span is barred, from what else is kept of the other harts
pub barred-kept : (h : ℕ) (s : Span) (old new : List Kept) → length new ≡ length old → ((i : ℕ) → i ≢ h → kept_at new i ≡ kept_at old i) →
    is_forbidden h s new ≡ is_forbidden h s old
barred-kept h s old new count same =
    ap (λ n. not (all_below n (λ i. not (hart_forbids h s new i)))) count
    ∙ ap not (all_below_agree (length old) (λ i. not (hart_forbids h s new i)) (λ i. not (hart_forbids h s old i))
    (λ i lt. ap not (hart_forbids-other h s old new i (λ ne. ap (λ (k : Kept). k.flight) (same i ne)))))

-- the parts with other harts that keep the calls in flight
pub bars-kept : (rest : Core) (p : Parts) (call : Call) (flight : Option Flight) (harts : List Kept)
    → KeepsHarts call flight p.harts harts →
    BarsAlike rest p call.hart → BarsAlike rest (record p { harts = harts }) call.hart
bars-kept rest p call flight harts keeps bars = record {
  at = λ s. bars.at s ∙ sym (barred-kept call.hart s p.harts harts keeps.count keeps.others);
}

-- what the checker says of a look at the word of an address
pub looked-word : (p : Parts) (h d w : ℕ) → IsSound p → IsDomain p.maps d → w < p.size →
    looked_at_address p.buffer p.kind (map_of p.maps d) h 10 d (address_of w) p.harts
    ≡ at_hart h (looks p.buffer 10 d w (span p.kind (map_of p.maps d) w) (is_forbidden h (span p.kind (map_of p.maps d) w) p.harts)) p.harts
looked-word p h d w sound there lt =
    let size : length (map_of p.maps d) ≡ p.size = sound.maps d there in
    rw (size, word-of-address w p.size lt)

-- a step of the caller's hart that keeps all but caches and domain
pub step-keeps : (call : Call) (harts : List Kept) (step : Kept → Kept) → call.hart < length harts →
    (step (kept_at harts call.hart)).halted ≡ (kept_at harts call.hart).halted
    → (step (kept_at harts call.hart)).flight ≡ (kept_at harts call.hart).flight →
    (step (kept_at harts call.hart)).domain ≡ Some call.domain
    → KeepsHarts call (kept_at harts call.hart).flight harts (at_hart call.hart step harts)
step-keeps call harts step there halted flight domain =
    let now : kept_at (at_hart call.hart step harts) call.hart ≡ step (kept_at harts call.hart) =
    get_or-set_same harts call.hart (step (kept_at harts call.hart)) nothing_kept there in
    record {
      count = length-set harts call.hart (step (kept_at harts call.hart));
      others = λ i ne. get_or-set_other harts call.hart i (step (kept_at harts call.hart)) nothing_kept ne;
      halted = ap (λ (k : Kept). k.halted) now ∙ halted;
      flight = ap (λ (k : Kept). k.flight) now ∙ flight;
      domain = inr (ap (λ (k : Kept). k.domain) now ∙ domain);
    }

abbrev pub cache_of : Kept → Cache
cache_of k = k.cache

-- the state after it
core-look : (rest : Core) (p : Parts) (h d w : ℕ) → IsDomain p.maps d → BarsAlike rest p h →
    core_of rest (record p {
      harts = at_hart h (looks p.buffer 10 d w (span p.kind (map_of p.maps d) w) (is_forbidden h (span p.kind (map_of p.maps d) w) p.harts))
          p.harts;
    }) ≡ looked (flat_reads (flat_of rest p)) h (core_of rest p) (look_of d w)
core-look rest p h d w there bars =
    let s = span p.kind (map_of p.maps d) w in
    let t = span p.kind (map_in p.size p.maps d) w in
    let same : s ≡ t = sym (ap (λ (m : List Perm). span p.kind m w) (map-in p.size p.maps d there)) in
    let caches = list_map cache_of p.harts in
    let kept : cache_of (kept_at p.harts h) ≡ cache_at (core_of rest p) h = sym (get_or-map cache_of p.harts h nothing_kept) in
    ap (λ (cs : List Cache). record (core_of rest p) { caches = cs }) (
    map-set cache_of p.harts h (looks p.buffer 10 d w s (is_forbidden h s p.harts) (kept_at p.harts h))
    ∙ ap (λ (c : Cache). set caches h (checked p.buffer 10 d w s (is_forbidden h s p.harts) c)) kept
    ∙ ap (λ (x : Span). set caches h (checked p.buffer 10 d w x (is_forbidden h x p.harts) (cache_at (core_of rest p) h))) same
    ∙ ap (λ b. set caches h (checked p.buffer 10 d w t b (cache_at (core_of rest p) h))) (sym (bars.at t)))

-- the look of a call's hart
pub has-looked : (call : Call) (w : ℕ) (p : Parts) (harts : List Kept) → IsSound p → IsDomain p.maps call.domain → w < p.size
    → MayLook call.hart call.domain p.harts →
    harts ≡ looked_at_address p.buffer p.kind (map_of p.maps call.domain) call.hart 10 call.domain (address_of w) p.harts →
    HasLooked call w p (record p { harts = harts })
has-looked call w p harts sound there lt may is =
    let s = span p.kind (map_of p.maps call.domain) w in
    let step : Kept → Kept = looks p.buffer 10 call.domain w s (is_forbidden call.hart s p.harts) in
    let e : harts ≡ at_hart call.hart step p.harts = is ∙ looked-word p call.hart call.domain w sound there lt in
    subst (λ (hs : List Kept). HasLooked call w p (record p { harts = hs })) (sym e) (record {
      same = refl;
      harts = step-keeps call p.harts step may.hart refl refl refl;
      core = λ rest bars. core-look rest p call.hart call.domain w there bars;
    })

pub allowed-word : (p : Parts) (d w : ℕ) (access : Access) → IsSound p → IsDomain p.maps d → w < p.size →
    not (denies (perm (map_of p.maps d)) (address_of w) access) ≡ allows (perm_at (map_in p.size p.maps d) w) access
allowed-word p d w access sound there lt =
    let size : length (map_of p.maps d) ≡ p.size = sound.maps d there in
    rw (size, word-of-address w p.size lt, map-in p.size p.maps d there) (not-not (allows (perm_at (map_of p.maps d) w) access))

-- two steps of the caller's hart, and whether it may look again
pub keeps-both : (call : Call) (a b c : List Kept) → KeepsHarts call (kept_at a call.hart).flight a b
    → KeepsHarts call (kept_at b call.hart).flight b c →
    KeepsHarts call (kept_at a call.hart).flight a c
keeps-both call a b c x y = record {
  count = y.count ∙ x.count;
  others = λ i ne. y.others i ne ∙ x.others i ne;
  halted = y.halted ∙ x.halted;
  flight = y.flight ∙ x.flight;
  domain = elim y.domain [
    | inl same ↦ elim x.domain [ inl before ↦ inl (same ∙ before) | inr named ↦ inr (same ∙ named) ]
    | inr named ↦
        inr named
  ];
}

pub may-again : (call : Call) (flight : Option Flight) (a b : List Kept) → flight ≡ (kept_at a call.hart).flight
    → KeepsHarts call flight a b →
    MayLook call.hart call.domain a → MayLook call.hart call.domain b
may-again call flight a b same keeps may = record {
  hart = let e = keeps.count in let h = may.hart in omega (arith, e, h);
  running = keeps.halted ∙ may.running;
  free = keeps.flight ∙ same ∙ may.free;
  heard = λ i ne. subst (λ (k : Kept). IfSome k.flight (λ f. is_in f.heard call.hart ≡ true)) (sym (keeps.others i ne)) (may.heard i ne);
  same_domain = if_some_after (λ x. x ≡ call.domain) call.domain (kept_at a call.hart).domain (kept_at b call.hart).domain keeps.domain refl
      may.same_domain;
}
