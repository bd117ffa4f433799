-- Runs spare the sealed words of an audited state, and no domain becomes live in them.
use Rattle.std.proofs.Common.{◌≡◌, ℕ, zero, suc, ◌+◌, ◌-◌, ◌*◌, ◌<◌, true, false, nat_lt, List, [], ◌∷◌, ◌++◌, length, refl, sym, ◌∙◌, ap}
use Rattle.std.proofs.Common.{subst, arith, if◌then◌else◌, Option, Some, None}
use Rattle.std.specs.Prelude.{IsTrue, slice_index, slice_index_or, option_to_list}
use Rattle.std.proofs.lemmas.List.{append-nil}
use Rattle.std.proofs.lemmas.Bool.{ltb-true}
use Rattle.mx_words.specs.declared.perm.Perm.{Perm}
use Rattle.mx_words.specs.declared.perm.Perm.TheVariants as P
use Rattle.mx_words.specs.Changes.{granted_from, changed_grants, grant_of}
use Rattle.mx_words.specs.Newest.{Grant, Give, at, owner}
use Rattle.mx_words.specs.Ranges.{covers}
use Rattle.mx_words.proofs.OverlayLaws.{newest-append}
use Rattle.mx_model.specs.declared.values.Frame.{Frame}
use Rattle.mx_model.specs.Reads.{Change, reads, grants_of}
use Rattle.mx_model.specs.Run.{Schedule, turn, made_of, grants_after, after, hart_of, is_stopped, run}
use Rattle.mx_model.specs.State.{Core, Hart, State, no_hart, hart_at}
use Rattle.mx_model.specs.Turn.{Made}
use Rattle.mx_model.specs.Valid.{IsModule, IsFrame, IsGate, IsValid}
use Rattle.mx_model.proofs.KeepLaws.{keeps-turned as same-turned, size-turned}
use Rattle.mx_model.proofs.TurnLaws.{valid-turned}
use Rattle.mx_model.proofs.JoinLaws.{all-weaker}
use Rattle.mx_audit.specs.Live.{IsLive}
use Rattle.mx_audit.specs.Sealed.{IsSealed, IsAudited}
use Rattle.mx_audit.proofs.AuditTurns.{keeps-turned}
use Rattle.mx_audit.proofs.CallLaws.{Stands, IsSpared, SparesChange, SparesGive, heap_in}
use Rattle.mx_audit.proofs.LiveLaws.{IsHome, Leads, IsClosed, all-each, live-least, live-closed}

-- a grant that doesn't cover a word leaves its permission
at-changed : (first count : ℕ) (o : Option Perm) (g : List Grant) (w : ℕ) → covers first count w ≡ false
    → at (changed_grants first count o g) w ≡ at g w
at-changed first count None g w e = refl
at-changed first count (Some p) g w e = newest-append P.None g (grant_of first count p) w ∙ ap (λ b. if b then p else at g w) e

at-granted : (first count : ℕ) (given : ℕ → Option Perm) (n : ℕ) (gs : List (List Grant)) (i w : ℕ) → covers first count w ≡ false →
    at (slice_index_or (granted_from first count given n gs) i []) w ≡ at (slice_index_or gs i []) w
at-granted first count given n [] i w e = refl
at-granted first count given n (g ∷ gs) zero w e = at-changed first count (given n) g w e
at-granted first count given n (g ∷ gs) (suc i) w e = at-granted first count given (n + 1) gs i w e

at-after : (grants : List (List Grant)) (o : Option Change) (d w : ℕ) → SparesChange w o
    → at (grants_of (grants_after grants o) d) w ≡ at (grants_of grants d) w
at-after grants None d w p = refl
at-after grants (Some c) d w p = at-granted c.first c.count c.given 1 grants (d - 1) w p

owner-after : (gives : List Give) (o : Option Give) (w : ℕ) → SparesGive w o → owner (gives ++ option_to_list o) w ≡ owner gives w
owner-after gives None w p = ap (λ (gs : List Give). owner gs w) (append-nil gives)
owner-after gives (Some g) w p = newest-append 0 gives g w ∙ ap (λ b. if b then g.value else owner gives w) p

-- what a state answers of a word after a turn that spares it
reads-perm : (s : State) (m : Made) (d w : ℕ) → m.core.size ≡ s.core.size → SparesChange w m.change
    → (reads (after s m)).perm d w ≡ (reads s).perm d w
reads-perm s m d w e p =
    ap (λ n. if nat_lt w n then at (grants_of (grants_after s.grants m.change) d) w else P.None) e
    ∙ ap (λ (x : Perm). if nat_lt w s.core.size then x else P.None) (at-after s.grants m.change d w p)

reads-owner : (s : State) (m : Made) (w : ℕ) → m.core.size ≡ s.core.size → SparesGive w m.give
    → (reads (after s m)).owner w ≡ (reads s).owner w
reads-owner s m w e p =
    ap (λ n. if nat_lt w n then owner (s.gives ++ option_to_list m.give) w else 0) e
    ∙ ap (λ (x : ℕ). if nat_lt w s.core.size then x else 0) (owner-after s.gives m.give w p)

-- what a turn or a run keeps of a word, with a set of domains that all live ones stay in
pub record Follows (L : ℕ → Type 0) (w : ℕ) (s t : State) : Type 0 where
  pub stands : Stands L (reads t) t.core
  pub size : t.core.size ≡ s.core.size
  pub owner : (reads t).owner w ≡ (reads s).owner w
  pub rights : (d : ℕ) → (reads t).perm d w ≡ (reads s).perm d w
  pub bytes : (k : ℕ) → k < 4 → slice_index t.core.ram (4 * w + k) ≡ slice_index s.core.ram (4 * w + k)

follows-turn : (L : ℕ → Type 0) (w : ℕ) (s : State) (h : ℕ) → Stands L (reads s) s.core → IsSpared L (reads s) w → Follows L w s (turn s h)
follows-turn L w s h st sp =
    let m = made_of s h in
    let k = keeps-turned L w (reads s) s.core h st sp in
    let size = size-turned (reads s) s.core h in
    let count : length m.core.modules ≡ length s.core.modules = (same-turned (reads s) s.core h).modules in
    record {
      stands = record {
        valid = valid-turned (reads s) s.core h st.valid;
        heaps = λ d v i c.
            let j : IsModule (length s.core.modules) d = subst (λ n. IsModule n d) count i in
            let e : IsTrue (covers (heap_in s.core.modules d).first (heap_in s.core.modules d).count v) =
            subst (λ a. IsTrue (covers a.first a.count v)) (k.heaps d) c in
            reads-owner s m v size (k.owners d v j e) ∙ st.heaps d v j e;
        closed = k.closed;
        modules = λ d l. subst (λ n. IsModule n d) (sym count) (st.modules d l);
      };
      size = size;
      owner = reads-owner s m w size k.owner;
      rights = λ d. reads-perm s m d w size k.rights;
      bytes = k.bytes;
    }

spared-follows : (L : ℕ → Type 0) (w : ℕ) (s t : State) → IsSpared L (reads s) w → Follows L w s t → IsSpared L (reads t) w
spared-follows L w s t p f = record {
  owner = λ l. p.owner (subst L f.owner l);
  rights = λ d l e. p.rights d l (sym (f.rights d) ∙ e);
}

follows-trans : (L : ℕ → Type 0) (w : ℕ) (s t u : State) → Follows L w s t → Follows L w t u → Follows L w s u
follows-trans L w s t u p q = record {
  stands = q.stands;
  size = q.size ∙ p.size;
  owner = q.owner ∙ p.owner;
  rights = λ d. q.rights d ∙ p.rights d;
  bytes = λ k l. q.bytes k l ∙ p.bytes k l;
}

follows-same : (L : ℕ → Type 0) (w : ℕ) (s : State) → Stands L (reads s) s.core → Follows L w s s
follows-same L w s p = record { stands = p; size = refl; owner = refl; rights = λ d. refl; bytes = λ k l. refl }

pub follows-run : (L : ℕ → Type 0) (w : ℕ) (schedule : Schedule) (n : ℕ) (s : State) → Stands L (reads s) s.core → IsSpared L (reads s) w
    → Follows L w s (run schedule n s)
follows-run L w schedule zero s p sp = follows-same L w s p
follows-run L w schedule (suc n) s p sp = elim (is_stopped schedule s) as
    (λ b. Follows L w s (elim b [ true ↦ s | false ↦ run schedule n (turn s (hart_of schedule s.core)) ])) [
      | true ↦ follows-same L w s p
      | false ↦
          let next = turn s (hart_of schedule s.core) in
          let f = follows-turn L w s (hart_of schedule s.core) p sp in
          follows-trans L w s next (run schedule n next) f (follows-run L w schedule n next f.stands (spared-follows L w s next sp f))
    ]

-- in a valid state the modules are a closed set
modules-closed : (c : Core) → IsValid c → IsClosed (IsModule (length c.modules)) c
modules-closed c v = record {
  harts = all-each (IsHome (IsModule (length c.modules))) c.harts (λ hart k.
      subst (IsHome (IsModule (length c.modules))) (same-index c.harts k.0 hart no_hart k.1 ∙ k.2) (home k.0 k.1));
  gates = all-weaker (IsGate (length c.modules) c.size) (Leads (IsModule (length c.modules))) c.gates (λ g p l. p.target) v.gates;
}
  where
    home : (h : ℕ) → h < length c.harts → IsHome (IsModule (length c.modules)) (hart_at c h)
    home h l =
        let p = v.harts h l in (
          p.domain,
          all-weaker (IsFrame (length c.modules)) (λ (f : Frame). IsModule (length c.modules) f.caller) (hart_at c h).frames
              (λ f q. q.caller) p.frames,
        )

    -- an index in the list reads the same with any default
    same-index : (hs : List Hart) (i : ℕ) (a b : Hart) → i < length hs → slice_index_or hs i b ≡ slice_index_or hs i a
    same-index [] i a b l = absurd (let q : ⊥ = omega (arith, l) in q)
    same-index (x ∷ xs) zero a b l = refl
    same-index (x ∷ xs) (suc i) a b l = same-index xs i a b (omega (arith, l))

-- so each live domain is a module
pub live-module : (c : Core) → IsValid c → (d : ℕ) → IsLive c d → IsModule (length c.modules) d
live-module c v d l = live-least (IsModule (length c.modules)) c d (modules-closed c v) l

-- an audited state, and its live domains
stands-audited : (s : State) → IsAudited s → Stands (IsLive s.core) (reads s) s.core
stands-audited s p = record {
  valid = p.valid;
  heaps = p.heaps;
  closed = live-closed s.core;
  modules = live-module s.core p.valid;
}

spared-sealed : (s : State) (w : ℕ) → IsSealed (reads s) s.core w → IsSpared (IsLive s.core) (reads s) w
spared-sealed s w p = record { owner = p.owner; rights = p.rights }

-- a sealed word in a run
pub sealed-run : (schedule : Schedule) (n : ℕ) (s : State) (w : ℕ) → IsAudited s → IsSealed (reads s) s.core w
    → Follows (IsLive s.core) w s (run schedule n s)
sealed-run schedule n s w p q = follows-run (IsLive s.core) w schedule n s (stands-audited s p) (spared-sealed s w q)

pub sealed-still : (schedule : Schedule) (n : ℕ) (s : State) (w : ℕ) → IsAudited s → IsSealed (reads s) s.core w
    → IsSealed (reads (run schedule n s)) (run schedule n s).core w
sealed-still schedule n s w p q =
    let t = run schedule n s in
    let f = sealed-run schedule n s w p q in
    let sp = spared-follows (IsLive s.core) w s t (spared-sealed s w q) f in
    record {
      in_ram = subst (λ k. w < k) (sym f.size) q.in_ram;
      owner = λ l. sp.owner (live-least (IsLive s.core) t.core ((reads t).owner w) f.stands.closed l);
      rights = λ d l. sp.rights d (live-least (IsLive s.core) t.core d f.stands.closed l);
    }

-- the word after RAM's end, which nobody owns or may write: a run of any audited state spares it
behind-spared : (s : State) → IsAudited s → IsSpared (IsLive s.core) (reads s) s.core.size
behind-spared s p = record {
  owner = λ l.
      let d : IsLive s.core 0 = subst (IsLive s.core) (ap (λ b. if b then owner s.gives s.core.size else 0) (not-below s.core.size)) l in
      let m = ((stands-audited s p).modules 0 d).first in let z : ⊥ = omega (arith, m) in z;
  rights = λ d l e.
      let q : P.None ≡ P.ReadWrite = sym (ap (λ b. if b then at (grants_of s.grants d) s.core.size else P.None) (not-below s.core.size))
      ∙ e in
      let z : ⊥ = cc in z;
}
  where
    not-below : (n : ℕ) → nat_lt n n ≡ false
    not-below n = elim (nat_lt n n) as (λ b. nat_lt n n ≡ b → b ≡ false) [
      | true ↦ λ e. let q = ltb-true n n e in absurd (let z : ⊥ = omega (arith, q) in z)
      | false ↦ λ e. refl
    ] refl

audited-run : (schedule : Schedule) (n : ℕ) (s : State) → IsAudited s → Follows (IsLive s.core) s.core.size s (run schedule n s)
audited-run schedule n s p = follows-run (IsLive s.core) s.core.size schedule n s (stands-audited s p) (behind-spared s p)

pub live-run : (schedule : Schedule) (n : ℕ) (s : State) (d : ℕ) → IsAudited s → IsLive (run schedule n s).core d → IsLive s.core d
live-run schedule n s d p l = live-least (IsLive s.core) (run schedule n s).core d (audited-run schedule n s p).stands.closed l

pub audited-still : (schedule : Schedule) (n : ℕ) (s : State) → IsAudited s → IsAudited (run schedule n s)
audited-still schedule n s p = let st = (audited-run schedule n s p).stands in record { valid = st.valid; heaps = st.heaps }
