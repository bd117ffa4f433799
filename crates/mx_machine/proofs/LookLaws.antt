-- Looks: what a hart's checks leave in the checker is what its looks leave in the state.
use Rattle.std.proofs.Common.{◌≡◌, ◌≢◌, ℕ, ◌<◌, Bool, List, [], ◌∷◌, length, get_or, set, refl, sym, ap, subst, ◌∙◌, arith, Option, Some}
use Rattle.std.proofs.Common.{None}
use Rattle.std.proofs.Common.{map as list_map}
use Rattle.std.specs.Prelude.{IfSome}
use Rattle.std.specs.List.{list_any}
use Rattle.std.specs.Option.{option_map_or}
use Rattle.std.proofs.lemmas.List.Sums.{fold-append}
use Rattle.mx_words.specs.declared.perm.Perm.{Perm}
use Rattle.mx_words.specs.declared.perm.Span.{Span}
use Rattle.mx_words.specs.Caches.{Cache, checked, meets, no_cache}
use Rattle.mx_words.specs.Ranges.{word_of}
use Rattle.mx_words.specs.Reach.{span}
use Rattle.mx_table.specs.Tables.{map_of, IsDomain}
use Rattle.mx_check.specs.Harts.{Kept, kept_at}
use Rattle.mx_check.specs.Looks.{is_forbidden, looked_at, looks, with_domain}
use Rattle.mx_check.specs.Looks.{looked_at_address}
use Rattle.mx_check.proofs.LookLaws.{is_forbidden-same}
use Rattle.mx_core.specs.Bus.{Touch}
use Rattle.mx_core.specs.Exec.{looks_of}
use Rattle.mx_model.specs.Checks.{heard_ranges, looked, looked_all, looks_at}
use Rattle.mx_model.specs.Reads.{Reads, flat_reads, map_in}
use Rattle.mx_model.specs.State.{Core}
use Rattle.mx_supervisor.specs.Parts.{Parts, core_of, flat_of}
use Rattle.mx_supervisor.proofs.Maps.{map-in}
use Rattle.mx_machine.specs.Actions.{looks_all}
use Rattle.mx_machine.proofs.CoreLaws.{caches-at, caches-step, caches-still}
use Rattle.mx_machine.proofs.FitLaws.{count-step, others-step, own-step}

module _ (rest : Core) (p : Parts) (h d : ℕ) (dom : IsDomain p.maps d) (whole : length (map_of p.maps d) ≡ p.size) where
  -- the state with these parts, where the checker keeps this of the harts
  abbrev pub keeping : List Kept → Core
  keeping kept = core_of rest (record p { harts = kept })

  abbrev pub answers : Reads
  answers = flat_reads (flat_of rest p)

  abbrev pub Bars : List Kept → Type 0
  Bars kept = (s : Span) → list_any (λ (r : ℕ × ℕ). meets s r.0 r.1) (heard_ranges (core_of rest p) h) ≡ is_forbidden h s kept

  -- one check of an address
  abbrev pub checks : ℕ → ℕ → List Kept → List Kept
  checks place address kept = looked_at_address p.buffer p.kind (map_of p.maps d) h place d address kept

  at-word : (kept : List Kept) (place : ℕ) (o : Option ℕ) → Bars kept →
      keeping (looked_at p.buffer p.kind (map_of p.maps d) h place d o kept)
      ≡ looked_all answers h (option_map_or (λ w. record { place = place; domain = d; word = w } ∷ []) o []) (keeping kept)
  at-word kept place None bars = ap (λ (cs : List Cache). record (keeping kept) { caches = cs }) (caches-still kept h (with_domain d) refl)
  at-word kept place (Some w) bars =
      let m = map_of p.maps d in
      let s = span p.kind m w in
      let t = span p.kind (map_in p.size p.maps d) w in
      let b = is_forbidden h s kept in
      let cs = list_map (λ (k : Kept). k.cache) kept in
      let barred = λ (u : Span). list_any (λ (r : ℕ × ℕ). meets u r.0 r.1) (heard_ranges (core_of rest p) h) in
      ap (λ (cs : List Cache). record (keeping kept) { caches = cs })
      (caches-step kept h (looks p.buffer place d w s b)
      ∙ ap (λ (c : Cache). set cs h (checked p.buffer place d w s b c)) (sym (caches-at kept h))
      ∙ ap (λ (x : Bool). set cs h (checked p.buffer place d w s x (get_or cs h no_cache))) (sym (bars s))
      ∙ ap (λ (n : List Perm). let u = span p.kind n w in set cs h
      (checked p.buffer place d w u (list_any (λ (r : ℕ × ℕ). meets u r.0 r.1) (heard_ranges (core_of rest p) h))
      (get_or cs h no_cache)))
      (sym (map-in p.size p.maps d dom)))

  one-look : (kept : List Kept) (place address : ℕ) → Bars kept →
      keeping (checks place address kept) ≡ looked_all answers h (looks_at (keeping kept) place d address) (keeping kept)
  one-look kept place address bars =
      ap (λ (n : ℕ). keeping (looked_at p.buffer p.kind (map_of p.maps d) h place d (word_of address n) kept)) whole
      ∙ at-word kept place (word_of address p.size) bars

  -- what a check keeps
  bars-at : (kept : List Kept) (place : ℕ) (o : Option ℕ) (s : Span)
      → is_forbidden h s (looked_at p.buffer p.kind (map_of p.maps d) h place d o kept) ≡ is_forbidden h s kept
  bars-at kept place None s = is_forbidden-same h s kept (with_domain d)
  bars-at kept place (Some w) s =
      let u = span p.kind (map_of p.maps d) w in
      is_forbidden-same h s kept (looks p.buffer place d w u (is_forbidden h u kept))

  bars-still : (kept : List Kept) (place address : ℕ) → Bars kept → Bars (checks place address kept)
  bars-still kept place address bars s = bars s ∙ sym (bars-at kept place (word_of address (length (map_of p.maps d))) s)

  pub looks-core : (ts : List Touch) (kept : List Kept) → Bars kept →
      core_of rest (record p { harts = looks_all p h d ts kept })
      ≡ looked_all (flat_reads (flat_of rest p)) h (looks_of (core_of rest p) d ts) (core_of rest (record p { harts = kept }))
  looks-core [] kept bars = refl
  looks-core (t ∷ ts) kept bars =
      let next = checks t.place t.address kept in
      let more = looks_of (core_of rest p) d ts in
      looks-core ts next (bars-still kept t.place t.address bars)
      ∙ ap (λ (c : Core). looked_all answers h more c) (one-look kept t.place t.address bars)
      ∙ sym (fold-append (looked answers h) (keeping kept) (looks_at (keeping kept) t.place d t.address) more)

-- what checks keep of the harts
pub record StayTied (h d : ℕ) (old new : List Kept) : Type 0 where
  pub count : length new ≡ length old
  pub others : (i : ℕ) → i ≢ h → kept_at new i ≡ kept_at old i
  pub halted : (kept_at new h).halted ≡ (kept_at old h).halted
  pub flight : (kept_at new h).flight ≡ (kept_at old h).flight
  pub domain : IfSome (kept_at new h).domain (λ e. e ≡ d)

stay-at : (most : ℕ) (p : Parts) (h d place : ℕ) (o : Option ℕ) (kept : List Kept) → h < length kept →
    StayTied h d kept (looked_at p.buffer p.kind (map_of p.maps d) h place d o kept)
stay-at most p h d place None kept l =
    let e = own-step kept h (with_domain d) l in
    record {
      count = count-step kept h (with_domain d);
      others = λ i ne. others-step kept h (with_domain d) i ne;
      halted = ap (λ (k : Kept). k.halted) e;
      flight = ap (λ (k : Kept). k.flight) e;
      domain = subst (λ (k : Kept). IfSome k.domain (λ e. e ≡ d)) (sym e) refl;
    }
stay-at most p h d place (Some w) kept l =
    let s = span p.kind (map_of p.maps d) w in
    let step = looks p.buffer place d w s (is_forbidden h s kept) in
    let e = own-step kept h step l in
    record {
      count = count-step kept h step;
      others = λ i ne. others-step kept h step i ne;
      halted = ap (λ (k : Kept). k.halted) e;
      flight = ap (λ (k : Kept). k.flight) e;
      domain = subst (λ (k : Kept). IfSome k.domain (λ e. e ≡ d)) (sym e) refl;
    }

pub stay-all : (p : Parts) (h d : ℕ) (ts : List Touch) (kept : List Kept) → h < length kept → IfSome (kept_at kept h).domain (λ e. e ≡ d) →
    StayTied h d kept (looks_all p h d ts kept)
stay-all p h d [] kept l e = record { count = refl; others = λ i ne. refl; halted = refl; flight = refl; domain = e }
stay-all p h d (t ∷ ts) kept l e =
    let a = stay-at p.buffer p h d t.place (word_of t.address (length (map_of p.maps d))) kept l in
    let next = looked_at p.buffer p.kind (map_of p.maps d) h t.place d (word_of t.address (length (map_of p.maps d))) kept in
    let b = stay-all p h d ts next (omega (arith, a.count)) a.domain in
    record {
      count = b.count ∙ a.count;
      others = λ i ne. b.others i ne ∙ a.others i ne;
      halted = b.halted ∙ a.halted;
      flight = b.flight ∙ a.flight;
      domain = b.domain;
    }
