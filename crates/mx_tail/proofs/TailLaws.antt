-- Laws of what has left for the sink and what is held.
use Rattle.std.proofs.Common.{◌≡◌, ℕ, ◌+◌, ◌*◌, ◌/◌, ◌<◌, List, [], ◌∷◌, ◌++◌, length, get_or, take, drop, refl, sym, ap, ◌∙◌, subst, arith}
use Rattle.std.proofs.Common.{append_assoc, length-append, length-take, Result, IsOk, OnOk, Ok, Err}
use Rattle.std.proofs.lemmas.List.{take-append-drop, append-nil, drop_all, drop_more}
use Rattle.std.proofs.Math.Seq.{take-append-add, drop-append-add}
use Rattle.mx_io.proofs.Puts.{puts_same}
use Rattle.mx_io.specs.Sink.{SinkState, Puts}
use Rattle.mx_io.proofs.Text.{left_all, left_next, left_stop, left_end, left_none}
use Rattle.mx_io.specs.declared.Failed.{Failed}
use Rattle.mx_tail.specs.Tail.{sent, held, Adds}

pub sent_held : (all : List ℕ) → sent all ++ held all ≡ all
unfolding sent held
sent_held all = take-append-drop (length all / 4096 * 4096) all

pub sent_short : (all : List ℕ) → length all < 4096 → sent all ≡ []
unfolding sent
sent_short all h = let e : length all / 4096 * 4096 ≡ 0 = omega arith in ap (λ n. take n all) e

pub held_short : (all : List ℕ) → length all < 4096 → held all ≡ all
unfolding held
held_short all h = let e : length all / 4096 * 4096 ≡ 0 = omega arith in ap (λ n. drop n all) e

pub length-sent : (all : List ℕ) → length (sent all) ≡ length all / 4096 * 4096
unfolding sent
length-sent all = omega (arith, length-take (length all / 4096 * 4096) all)

-- a list that begins with whole pieces
pub sent_behind : (front rest : List ℕ) (k : ℕ) → length front ≡ k * 4096 → sent (front ++ rest) ≡ front ++ sent rest
unfolding sent
sent_behind front rest k h =
    let e : length (front ++ rest) / 4096 * 4096 ≡ length front + length rest / 4096 * 4096 = omega (arith, length-append front rest) in
    ap (λ n. take n (front ++ rest)) e ∙ take-append-add front rest (length rest / 4096 * 4096)

pub held_behind : (front rest : List ℕ) (k : ℕ) → length front ≡ k * 4096 → held (front ++ rest) ≡ held rest
unfolding held
held_behind front rest k h =
    let e : length (front ++ rest) / 4096 * 4096 ≡ length front + length rest / 4096 * 4096 = omega (arith, length-append front rest) in
    ap (λ n. drop n (front ++ rest)) e ∙ drop-append-add front rest (length rest / 4096 * 4096)

regrouped : (all more : List ℕ) → all ++ more ≡ sent all ++ (held all ++ more)
regrouped all more = ap (λ xs. xs ++ more) (sym (sent_held all)) ∙ append_assoc (sent all) (held all) more

-- what was sent and is held, after more was added
pub sent_more : (all more : List ℕ) → sent (all ++ more) ≡ sent all ++ sent (held all ++ more)
sent_more all more = ap sent (regrouped all more) ∙ sent_behind (sent all) (held all ++ more) (length all / 4096) (length-sent all)

pub held_more : (all more : List ℕ) → held (all ++ more) ≡ held (held all ++ more)
held_more all more = ap held (regrouped all more) ∙ held_behind (sent all) (held all ++ more) (length all / 4096) (length-sent all)

-- texts put on a sink one after another
pub puts_nothing : {A E : Type 0} (s : SinkState) {a : A} → Puts {A = A} {E = E} s s [] (Ok a)
puts_nothing s = left_none (left_all s [])

pub puts_next : {A E B F : Type 0} {s t u : SinkState} {first second : List ℕ} {a : A} {result : Result B F}
    → Puts {A = A} {E = E} s t first (Ok a) → Puts t u second result → Puts s u (first ++ second) result
puts_next {s = s} {first = first} {second = second} p q = left_end (left_next (left_all s (first ++ second)) p) q

pub puts_stop : {A E : Type 0} {s t : SinkState} {first : List ℕ} (second : List ℕ) {e : E} → Puts {A = A} s t first (Err e)
    → Puts {A = A} s t (first ++ second) (Err e)
puts_stop {s = s} {first = first} second p = left_stop second (left_all s (first ++ second)) p

-- bytes added one after another
pub adds_nothing : {A E : Type 0} (before : List ℕ) (s : SinkState) {a : A} → length before < 4096
    → Adds {A = A} {E = E} before s s before [] (Ok a)
adds_nothing before s h =
    record {
      left = puts_same (sym (ap sent (append-nil before) ∙ sent_short before h)) (puts_nothing s);
      kept = sym (ap held (append-nil before) ∙ held_short before h);
    }

sent_twice : (b t u : List ℕ) (c : List ℕ) → c ≡ held (b ++ t) → sent (b ++ t) ++ sent (c ++ u) ≡ sent (b ++ (t ++ u))
sent_twice b t u c e = ap (λ xs. sent (b ++ t) ++ sent (xs ++ u)) e ∙ sym (sent_more (b ++ t) u) ∙ ap sent (append_assoc b t u)

held_twice : (b t u : List ℕ) (c : List ℕ) → c ≡ held (b ++ t) → held (c ++ u) ≡ held (b ++ (t ++ u))
held_twice b t u c e = ap (λ xs. held (xs ++ u)) e ∙ sym (held_more (b ++ t) u) ∙ ap held (append_assoc b t u)

pub adds_next : {A E B F : Type 0} {b c d : List ℕ} {s t u : SinkState} {first second : List ℕ} {a : A} {result : Result B F}
    → Adds {A = A} {E = E} b s t c first (Ok a) → Adds c t u d second result → Adds b s u d (first ++ second) result
adds_next {b = b} {c = c} {first = first} {second = second} {result = Ok x} p q =
    record {
      left = puts_same (sent_twice b first second c p.kept) (puts_next p.left q.left);
      kept = q.kept
          ∙ held_twice b first second c p.kept;
    }
adds_next {b = b} {c = c} {first = first} {second = second} {result = Err e} p q =
    record { left = puts_same (sent_twice b first second c p.kept) (puts_next p.left q.left); kept = tt }

pub adds_stop : {A E : Type 0} {b c : List ℕ} (d : List ℕ) {s t : SinkState} {first : List ℕ} (second : List ℕ) {e : E}
    → Adds {A = A} b s t c first (Err e) → Adds {A = A} b s t d (first ++ second) (Err e)
adds_stop {b = b} d {first = first} second p =
    record {
      left = puts_same (sent_twice b first second (held (b ++ first)) refl) (puts_stop (sent (held (b ++ first) ++ second)) p.left);
      kept = tt;
    }

-- one byte was added, and is held
pub push_held : {A E : Type 0} (b : List ℕ) (x : ℕ) (c : List ℕ) (s : SinkState) {a : A} → c ≡ b ++ x ∷ [] → length c < 4096
    → Adds {A = A} {E = E} b s s c (x ∷ []) (Ok a)
push_held b x c s e h =
    let few : length (b ++ x ∷ []) < 4096 = subst (λ (xs : List ℕ). length xs < 4096) e h in
    record { left = puts_same (sym (sent_short (b ++ x ∷ []) few)) (puts_nothing s); kept = e ∙ sym (held_short (b ++ x ∷ []) few) }

-- one byte was added, and with it a piece was whole
held_whole : (all : List ℕ) → length all ≡ 4096 → held all ≡ []
unfolding held
held_whole all e = drop_all (length all / 4096 * 4096) all (omega arith)

sent_whole : (all : List ℕ) → length all ≡ 4096 → sent all ≡ all
sent_whole all e = sym (append-nil (sent all)) ∙ ap (λ xs. sent all ++ xs) (sym (held_whole all e)) ∙ sent_held all

pub push_full : {A E : Type 0} (b : List ℕ) (x : ℕ) {c : List ℕ} {s t : SinkState} {r : Result A E} → length (b ++ x ∷ []) ≡ 4096
    → Puts s t (b ++ x ∷ []) r → c ≡ [] → Adds b s t c (x ∷ []) r
push_full b x {r = Ok a} n p e = record {
  left = puts_same (sym (sent_whole (b ++ x ∷ []) n)) p;
  kept = e
      ∙ sym (held_whole (b ++ x ∷ []) n);
}
push_full b x {r = Err f} n p e = record { left = puts_same (sym (sent_whole (b ++ x ∷ []) n)) p; kept = tt }

-- the bytes from place i on: that byte, and those after it
pub one_more : (xs : List ℕ) (i x : ℕ) → i < length xs → x ≡ get_or xs i 0 → drop i xs ≡ (x ∷ []) ++ drop (i + 1) xs
one_more xs i x h e = drop_more xs i 0 h ∙ ap (λ y. y ∷ drop (i + 1) xs) (sym e)

-- what is still to be added of bytes: what comes of adding it comes of adding them all from the start on
pub record Adding (b : List ℕ) (s : SinkState) (all c : List ℕ) (t : SinkState) (rest : List ℕ) : Type 0 where
  pub then : (d : List ℕ) (u : SinkState) (r : Result (Unit {0}) Failed) → Adds c t u d rest r → Adds b s u d all r

pub adding_all : (b : List ℕ) (s : SinkState) (all : List ℕ) → Adding b s all b s all
adding_all b s all = record { then = λ d u r p. p }

pub adding_same : {b c : List ℕ} {s t : SinkState} {all rest whole : List ℕ} → whole ≡ rest → Adding b s all c t whole
    → Adding b s all c t rest
adding_same {b} {c} {s} {t} {all} e l = subst (λ (xs : List ℕ). Adding b s all c t xs) e l

pub adding_next : {b c d : List ℕ} {s t u : SinkState} {all first : List ℕ} (rest : List ℕ) {a : Unit {0}}
    → Adding b s all c t (first ++ rest) → Adds {E = Failed} c t u d first (Ok a) → Adding b s all d u rest
adding_next rest l p = record { then = λ d u r q. l.then d u r (adds_next p q) }

pub adding_stop : {b c d : List ℕ} {s t u : SinkState} {all first : List ℕ} (rest : List ℕ) {e : Failed}
    → Adding b s all c t (first ++ rest) → Adds {A = Unit {0}} c t u d first (Err e) → Adds {A = Unit {0}} b s u d all (Err e)
adding_stop {d = d} {u = u} rest {e} l p = l.then d u (Err e) (adds_stop d rest p)

pub adding_none : {b c : List ℕ} {s t : SinkState} {all : List ℕ} → Adding b s all c t [] → length c < 4096
    → Adds {A = Unit {0}} {E = Failed} b s t c all (Ok (tt {0}))
adding_none {c = c} {t = t} l h = l.then c t (Ok (tt {0})) (adds_nothing c t h)

-- bytes that leave it short of a piece were added, and are held
pub put_held : {A E : Type 0} (b xs c : List ℕ) (s : SinkState) {a : A} → c ≡ b ++ xs → length b + length xs < 4096
    → Adds {A = A} {E = E} b s s c xs (Ok a)
put_held b xs c s e h =
    let few : length (b ++ xs) < 4096 = omega (arith, length-append b xs, h) in
    record { left = puts_same (sym (sent_short (b ++ xs) few)) (puts_nothing s); kept = e ∙ sym (held_short (b ++ xs) few) }

pub is_ok_on : {A E P : Type 0} (r : Result A E) → IsOk r → OnOk r P → P
is_ok_on (Ok a) h p = p
is_ok_on (Err e) h p = absurd (let q : ⊥ = cc h in q)
