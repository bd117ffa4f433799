-- Coherence where one hart and its caches change, and rights with them.
use Rattle.std.proofs.Common.{◌≡◌, ◌≢◌, ℕ, ◌-◌, ◌<◌, ◌⊎◌, inl, inr, false, List, length, refl, sym, ap, subst, ◌∙◌, get_or-set_same}
use Rattle.std.proofs.Common.{get_or-set_other}
use Rattle.std.proofs.lemmas.Bool.{cases_eq}
use Rattle.mx_words.specs.Announced.{announced}
use Rattle.mx_words.specs.Caches.{Cache, no_cache}
use Rattle.mx_words.specs.FirstFit.{Area}
use Rattle.mx_words.specs.KeptSpans.{IsClear}
use Rattle.mx_model.specs.declared.values.Call.{Call}
use Rattle.mx_model.specs.declared.values.Gate.{Gate}
use Rattle.mx_model.specs.Checks.{arg, call_range, is_halted}
use Rattle.mx_model.specs.Reads.{Reads}
use Rattle.mx_model.specs.State.{Core, Hart, Module, Status, Running, Waiting, Halted, cache_at, hart_at, module_at, no_hart, no_module}
use Rattle.mx_model.specs.State.{with_cache, with_hart, with_module}
use Rattle.mx_model.proofs.SetLaws.{part-set}
use Rattle.mx_coherence.specs.Spans.{AreCurrent}
use Rattle.mx_coherence.specs.Coherence.{HasDropped, IsCoherent}

-- state e differs from c in hart h, which is y there, in its caches, which are k there, and in nothing else that coherence reads
pub record Moved (c e : Core) (h : ℕ) (y : Hart) (k : Cache) : Type 0 where
  pub hart : hart_at e h ≡ y
  pub cache : cache_at e h ≡ k
  pub harts : (g : ℕ) → g ≢ h → hart_at e g ≡ hart_at c g
  pub caches : (g : ℕ) → g ≢ h → cache_at e g ≡ cache_at c g
  pub ranges : (call : Call) → call_range e call ≡ call_range c call

pub moved-twice : (c e f : Core) (h : ℕ) (y z : Hart) (k l : Cache) → Moved c e h y k → Moved e f h z l → Moved c f h z l
moved-twice c e f h y z k l a b = record {
  hart = b.hart;
  cache = b.cache;
  harts = λ g apart. b.harts g apart ∙ a.harts g apart;
  caches = λ g apart. b.caches g apart ∙ a.caches g apart;
  ranges = λ call. b.ranges call ∙ a.ranges call;
}

-- the second fact depends on the state by the ranges of calls alone
pub dropped-ranges : (c e : Core) → ((call : Call) → call_range e call ≡ call_range c call) → (h : ℕ) (k : Cache) (s : Status)
    → HasDropped c h k s →
    HasDropped e h k s
dropped-ranges c e same h k Running p = tt
dropped-ranges c e same h k (Waiting call heard) p = λ hit. subst (λ (range : ℕ × ℕ). IsClear range k) (sym (same call)) (p hit)
dropped-ranges c e same h k (Halted code) p = tt

-- the five facts of the state after
pub record Follow (q : Reads) (c : Core) (h : ℕ) (y : Hart) (k : Cache) : Type 0 where
  pub own : is_halted y.status ≡ false → AreCurrent q y.domain k
  pub own_dropped : (g : ℕ) → is_halted y.status ≡ false → g ≢ h → HasDropped c h k (hart_at c g).status
  pub others : (g : ℕ) → is_halted (hart_at c g).status ≡ false → g ≢ h → AreCurrent q (hart_at c g).domain (cache_at c g)
  pub own_call : (g : ℕ) → is_halted (hart_at c g).status ≡ false → g ≢ h → HasDropped c g (cache_at c g) y.status
  pub among : (g i : ℕ) → is_halted (hart_at c g).status ≡ false → g ≢ h → i ≢ h → i ≢ g
      → HasDropped c g (cache_at c g) (hart_at c i).status

-- a fact of a hart, caches and another hart, of others that are the same
pub three : (P : Hart → Cache → Hart → Type 0) (x a : Hart) (k l : Cache) (z b : Hart) → x ≡ a → k ≡ l → z ≡ b → P a l b → P x k z
three P x a k l z b ex ek ez p =
    subst (λ (v : Hart). P v k z) (sym ex) (subst (λ (v : Cache). P a v z) (sym ek) (subst (λ (v : Hart). P a l v) (sym ez) p))

module _ (q : Reads) (c e : Core) (h : ℕ) (y : Hart) (k : Cache) (m : Moved c e h y k) (f : Follow q c h y k) where
  current_at : (g : ℕ) → (g ≡ h) ⊎ (g ≢ h) → is_halted (hart_at e g).status ≡ false → AreCurrent q (hart_at e g).domain (cache_at e g)
  current_at g (inl same) =
      subst (λ (n : ℕ). is_halted (hart_at e n).status ≡ false → AreCurrent q (hart_at e n).domain (cache_at e n)) (sym same)
      (three (λ x l z. is_halted x.status ≡ false → AreCurrent q x.domain l) (hart_at e h) y (cache_at e h) k y y m.hart m.cache refl f.own)
  current_at g (inr apart) =
      three (λ x l z. is_halted x.status ≡ false → AreCurrent q x.domain l) (hart_at e g) (hart_at c g) (cache_at e g) (cache_at c g) y y
      (m.harts g apart) (m.caches g apart) refl
      (λ live. f.others g live apart)

  dropped_at : (g i : ℕ) → i ≢ g → (g ≡ h) ⊎ (g ≢ h) → (i ≡ h) ⊎ (i ≢ h) → is_halted (hart_at e g).status ≡ false →
      HasDropped e g (cache_at e g) (hart_at e i).status
  dropped_at g i apart (inl a) (inl b) = absurd (apart (b ∙ sym a))
  dropped_at g i apart (inl a) (inr b) =
      subst (λ (n : ℕ). is_halted (hart_at e n).status ≡ false → HasDropped e n (cache_at e n) (hart_at e i).status) (sym a)
      (three (λ x l z. is_halted x.status ≡ false → HasDropped e h l z.status) (hart_at e h) y (cache_at e h) k (hart_at e i)
      (hart_at c i) m.hart m.cache (m.harts i b)
      (λ live. dropped-ranges c e m.ranges h k (hart_at c i).status (f.own_dropped i live b)))
  dropped_at g i apart (inr a) (inl b) =
      subst (λ (n : ℕ). is_halted (hart_at e g).status ≡ false → HasDropped e g (cache_at e g) (hart_at e n).status) (sym b)
      (three (λ x l z. is_halted x.status ≡ false → HasDropped e g l z.status) (hart_at e g) (hart_at c g) (cache_at e g) (cache_at c g)
      (hart_at e h) y (m.harts g a) (m.caches g a) m.hart
      (λ live. dropped-ranges c e m.ranges g (cache_at c g) y.status (f.own_call g live a)))
  dropped_at g i apart (inr a) (inr b) =
      three (λ x l z. is_halted x.status ≡ false → HasDropped e g l z.status) (hart_at e g) (hart_at c g) (cache_at e g) (cache_at c g)
      (hart_at e i)
      (hart_at c i) (m.harts g a) (m.caches g a) (m.harts i b)
      (λ live. dropped-ranges c e m.ranges g (cache_at c g) (hart_at c i).status (f.among g i live a b apart))

  pub coherent-moved : IsCoherent q e
  coherent-moved = record {
    current = λ g. current_at g (cases_eq g h);
    dropped = λ g i live apart. dropped_at g i apart (cases_eq g h) (cases_eq i h) live;
  }

-- a coherent state has the five facts of any of its harts as it is
pub follow-same : (r : Reads) (c : Core) (h : ℕ) → IsCoherent r c → Follow r c h (hart_at c h) (cache_at c h)
follow-same r c h k = record {
  own = k.current h;
  own_dropped = λ g live apart. k.dropped h g live apart;
  others = λ g live apart. k.current g live;
  own_call = λ g live apart. k.dropped g h live (λ e. apart (sym e));
  among = λ g i live a b apart. k.dropped g i live apart;
}

-- so a state with the same harts, caches and ranges is coherent
pub coherent-same : (r : Reads) (c e : Core) (h : ℕ) → Moved c e h (hart_at c h) (cache_at c h) → IsCoherent r c → IsCoherent r e
coherent-same r c e h m k = coherent-moved r c e h (hart_at c h) (cache_at c h) m (follow-same r c h k)

-- one hart changed, or its caches, or neither
pub moved-hart : (c : Core) (h : ℕ) (y : Hart) → h < length c.harts → Moved c (with_hart h y c) h y (cache_at c h)
moved-hart c h y there = record {
  hart = get_or-set_same c.harts h y no_hart there;
  cache = refl;
  harts = λ g apart. get_or-set_other c.harts h g y no_hart apart;
  caches = λ g apart. refl;
  ranges = λ call. refl;
}

pub moved-cache : (c : Core) (h : ℕ) (k : Cache) → h < length c.caches → Moved c (with_cache h k c) h (hart_at c h) k
moved-cache c h k there = record {
  hart = refl;
  cache = get_or-set_same c.caches h k no_cache there;
  harts = λ g apart. refl;
  caches = λ g apart. get_or-set_other c.caches h g k no_cache apart;
  ranges = λ call. refl;
}

pub moved-ram : (c : Core) (h : ℕ) (ram : List ℕ) → Moved c (record c { ram = ram }) h (hart_at c h) (cache_at c h)
moved-ram c h ram = record { hart = refl; cache = refl; harts = λ g apart. refl; caches = λ g apart. refl; ranges = λ call. refl }

pub moved-gates : (c : Core) (h : ℕ) (gates : List Gate) → Moved c (record c { gates = gates }) h (hart_at c h) (cache_at c h)
moved-gates c h gates = record { hart = refl; cache = refl; harts = λ g apart. refl; caches = λ g apart. refl; ranges = λ call. refl }

-- a module changed, but for its heap area
pub moved-module : (c : Core) (h d : ℕ) (m : Module) → m.heap ≡ (module_at c d).heap
    → Moved c (with_module d m c) h (hart_at c h) (cache_at c h)
moved-module c h d m e = record {
  hart = refl;
  cache = refl;
  harts = λ g apart. refl;
  caches = λ g apart. refl;
  ranges = λ call. ap (λ (heap : Area). announced call.number (arg call 0) (arg call 1) c.size (heap.first, heap.count))
      (part-set (λ (m : Module). m.heap) c.modules (d - 1) (call.domain - 1) m no_module e);
}
