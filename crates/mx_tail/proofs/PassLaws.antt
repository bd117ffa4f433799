-- Texts put on a sink through a buffer, one after another.
use Rattle.std.proofs.Common.{◌≡◌, ℕ, suc, ◌+◌, ◌/◌, ◌<◌, ◌≤◌, List, [], ◌++◌, length, get_or, drop, flat_map, refl, arith, length-append}
use Rattle.std.proofs.Common.{sym, ap, ◌∙◌, subst, append_assoc, Result, Ok, Err}
use Rattle.std.proofs.lemmas.List.{append-nil, drop_all}
use Rattle.std.specs.List.{range_with_len}
use Rattle.mx_io.specs.Sink.{SinkState, Puts}
use Rattle.mx_io.specs.declared.Failed.{Failed}
use Rattle.mx_io.proofs.Text.{flat_map-drop}
use Rattle.mx_io.proofs.Puts.{puts_same}
use Rattle.mx_tail.specs.Tail.{sent, held, IsPieces, Adds, Passes}
use Rattle.mx_tail.proofs.TailLaws.{sent_held, length-sent, sent_behind, sent_more, puts_nothing, puts_next, puts_stop}

pub passes_same : {A E : Type 0} {b c : List ℕ} {s t : SinkState} {text other : List ℕ} {r : Result A E} → text ≡ other
    → Passes b s t c text r → Passes b s t c other r
passes_same {A} {E} {b} {c} {s} {t} {r = r} e p = subst (λ (xs : List ℕ). Passes {A = A} {E = E} b s t c xs r) e p

pub passes_nothing : {A E : Type 0} (b : List ℕ) (s : SinkState) {a : A} → Passes {A = A} {E = E} b s s b [] (Ok a)
passes_nothing b s = record { whole = ([], append-nil b, (0, refl), puts_nothing s); stopped = tt }

split_twice : (b c d f g x y : List ℕ) → b ++ f ≡ x ++ c → c ++ g ≡ y ++ d → b ++ (f ++ g) ≡ (x ++ y) ++ d
split_twice b c d f g x y h k = sym (append_assoc b f g) ∙ ap (λ xs. xs ++ g) h ∙ append_assoc x c g ∙ ap (λ xs. x ++ xs) k
    ∙ sym (append_assoc x y d)

split_stop : (b c f g x : List ℕ) → b ++ f ≡ x ++ c → x ++ (c ++ g) ≡ b ++ (f ++ g)
split_stop b c f g x h = sym (append_assoc x c g) ∙ ap (λ xs. xs ++ g) (sym h) ∙ append_assoc b f g

-- whole pieces, and then whole pieces
pub pieces_both : (x y : List ℕ) → IsPieces x → IsPieces y → IsPieces (x ++ y)
pieces_both x y p q = (p.0 + q.0, omega (arith, length-append x y, p.1, q.1))

pub passes_next : {A E B F : Type 0} {b c d : List ℕ} {s t u : SinkState} {first second : List ℕ} {a : A} {r : Result B F}
    → Passes {A = A} {E = E} b s t c first (Ok a) → Passes c t u d second r → Passes b s u d (first ++ second) r
passes_next {b = b} {c} {d} {first = f} {second = g} {r = Ok x} p q =
    let v = p.whole in
    let w = q.whole in
    record { whole = (v.0 ++ w.0, split_twice b c d f g v.0 w.0 v.1 w.1, pieces_both v.0 w.0 v.2 w.2, puts_next v.3 w.3); stopped = tt }
passes_next {b = b} {c} {first = f} {second = g} {r = Err e} p q =
    let v = p.whole in
    record {
      whole = tt;
      stopped = puts_same (sym (sent_behind v.0 (c ++ g) v.2.0 v.2.1) ∙ ap sent (split_stop b c f g v.0 v.1))
          (puts_next v.3 q.stopped);
    }

pub passes_stop : {A E : Type 0} {b c : List ℕ} (d : List ℕ) {s t : SinkState} {first : List ℕ} (second : List ℕ) {e : E}
    → Passes {A = A} b s t c first (Err e) → Passes {A = A} b s t d (first ++ second) (Err e)
passes_stop {b = b} d {first = first} second p =
    record {
      whole = tt;
      stopped = puts_same (sym (sent_more (b ++ first) second) ∙ ap sent (append_assoc b first second))
          (puts_stop (sent (held (b ++ first) ++ second)) p.stopped);
    }

-- the last of several texts
pub passes_last : {A E : Type 0} {b c : List ℕ} {s t : SinkState} {text : List ℕ} {r : Result A E} → Passes b s t c text r
    → Passes b s t c (text ++ []) r
passes_last {text = text} p = passes_same (sym (append-nil text)) p

pub passes_adds : {A E : Type 0} {b c : List ℕ} {s t : SinkState} {text : List ℕ} {r : Result A E} → Adds b s t c text r
    → Passes b s t c text r
passes_adds {b = b} {text = text} {r = Ok a} p =
    let all = b ++ text in
    record {
      whole = (sent all, sym (ap (λ xs. sent all ++ xs) p.kept ∙ sent_held all), (length all / 4096, length-sent all), p.left);
      stopped = tt;
    }
passes_adds {b = b} {text = text} {r = Err e} p = record { whole = tt; stopped = p.left }

-- where it failed, what was put on the sink is a prefix of what was held and then the text
pub passes_failed : {A E : Type 0} {b c : List ℕ} {s t : SinkState} {text : List ℕ} {e : E} → Passes {A = A} b s t c text (Err e)
    → Puts {A = A} s t (b ++ text) (Err e)
passes_failed {b = b} {text = text} p = puts_same (sent_held (b ++ text)) (puts_stop (held (b ++ text)) p.stopped)

-- a text put through an empty buffer, which is then emptied
pub whole_end : {A E B F : Type 0} {b c : List ℕ} {s t u : SinkState} {text : List ℕ} {a : A} {r : Result B F} → b ≡ []
    → Passes {A = A} {E = E} b s t c text (Ok a) → Puts t u c r → Puts s u text r
whole_end {text = text} e p q = let v = p.whole in puts_same (sym v.1 ∙ ap (λ xs. xs ++ text) e) (puts_next v.3 q)

pub whole_stop : {A E : Type 0} {b c : List ℕ} {s t : SinkState} {text : List ℕ} {e : E} → b ≡ [] → Passes {A = A} b s t c text (Err e)
    → Puts {A = A} s t text (Err e)
whole_stop {text = text} e p = puts_same (ap (λ xs. xs ++ text) e) (passes_failed p)

-- what is still to be put of a text: what comes of putting it comes of putting the whole text from the start on
pub record Coming (b : List ℕ) (s : SinkState) (all c : List ℕ) (t : SinkState) (rest : List ℕ) : Type 0 where
  pub then : (d : List ℕ) (u : SinkState) (r : Result (Unit {0}) Failed) → Passes c t u d rest r → Passes b s u d all r

pub coming_all : (b : List ℕ) (s : SinkState) (all : List ℕ) → Coming b s all b s all
coming_all b s all = record { then = λ d u r p. p }

pub coming_same : {b c : List ℕ} {s t : SinkState} {all rest whole : List ℕ} → whole ≡ rest → Coming b s all c t whole
    → Coming b s all c t rest
coming_same {b} {c} {s} {t} {all} e l = subst (λ (xs : List ℕ). Coming b s all c t xs) e l

-- the next part was put
pub coming_next : {b c d : List ℕ} {s t u : SinkState} {all first rest : List ℕ} {a : Unit {0}} → Coming b s all c t (first ++ rest)
    → Passes {E = Failed} c t u d first (Ok a) → Coming b s all d u rest
coming_next l p = record { then = λ d u r q. l.then d u r (passes_next p q) }

-- putting the next part failed
pub coming_stop : {b c d : List ℕ} {s t u : SinkState} {all first : List ℕ} (rest : List ℕ) {e : Failed}
    → Coming b s all c t (first ++ rest) → Passes {A = Unit {0}} c t u d first (Err e) → Passes {A = Unit {0}} b s u d all (Err e)
coming_stop {d = d} {u = u} rest {e} l p = l.then d u (Err e) (passes_stop d rest p)

-- all was put
pub coming_none : {b c : List ℕ} {s t : SinkState} {all : List ℕ} → Coming b s all c t []
    → Passes {A = Unit {0}} {E = Failed} b s t c all (Ok (tt {0}))
coming_none {c = c} {t = t} l = l.then c t (Ok (tt {0})) (passes_nothing c t)

-- the last part was put, or putting it failed
pub coming_end : {b c d : List ℕ} {s t u : SinkState} {all rest : List ℕ} {r : Result (Unit {0}) Failed} → Coming b s all c t rest
    → Passes c t u d rest r → Passes b s u d all r
coming_end {d = d} {u = u} {r = r} l p = l.then d u r p

-- a loop over items: the text of item i was put, putting it failed, and the loop is at its end
pub coming_item : {X : Type 0} {b c e : List ℕ} {s t u : SinkState} {all : List ℕ} {a : Unit {0}} (f : X
    → List ℕ) (xs : List X) (i : ℕ) (d : X) → i < length xs
    → Coming b s all c t (flat_map f (drop i xs)) → Passes {E = Failed} c t u e (f (get_or xs i d)) (Ok a)
    → Coming b s all e u (flat_map f (drop (i + 1) xs))
coming_item f xs i d h l p = coming_next (coming_same (flat_map-drop f xs i d h) l) p

pub coming_item_stop : {X : Type 0} {b c x : List ℕ} {s t u : SinkState} {all : List ℕ} {e : Failed} (f : X
    → List ℕ) (xs : List X) (i : ℕ) (d : X) → i < length xs
    → Coming b s all c t (flat_map f (drop i xs)) → Passes {A = Unit {0}} c t u x (f (get_or xs i d)) (Err e)
    → Passes {A = Unit {0}} b s u x all (Err e)
coming_item_stop f xs i d h l p = coming_stop (flat_map f (drop (i + 1) xs)) (coming_same (flat_map-drop f xs i d h) l) p

pub coming_items : {X : Type 0} {b c : List ℕ} {s t : SinkState} {all : List ℕ} (f : X → List ℕ) (xs : List X) (i : ℕ) → length xs ≤ i
    → Coming b s all c t (flat_map f (drop i xs)) → Passes {A = Unit {0}} {E = Failed} b s t c all (Ok (tt {0}))
coming_items f xs i h l = coming_none (coming_same (ap (flat_map f) (drop_all i xs h)) l)

-- a loop over the numbers of a range: nothing was put yet, the text of the next number was put, putting it failed, and the loop is at its
-- end
pub coming_range : (b : List ℕ) (s : SinkState) (f : ℕ → List ℕ) (a n k : ℕ) → n ≡ k
    → Coming b s (flat_map f (range_with_len a n)) b s (flat_map f (range_with_len a k))
coming_range b s f a n k e = coming_same (ap (λ i. flat_map f (range_with_len a i)) e) (coming_all b s (flat_map f (range_with_len a n)))

pub range_next : (f : ℕ → List ℕ) (j k l : ℕ) → k ≡ suc l → flat_map f (range_with_len j k) ≡ f j ++ flat_map f (range_with_len (j + 1) l)
range_next f j k l e = ap (λ i. flat_map f (range_with_len j i)) e

pub coming_number : {b c d : List ℕ} {s t u : SinkState} {all : List ℕ} {a : Unit {0}} (f : ℕ → List ℕ) (j k l : ℕ) → k ≡ suc l
    → Coming b s all c t (flat_map f (range_with_len j k)) → Passes {E = Failed} c t u d (f j) (Ok a)
    → Coming b s all d u (flat_map f (range_with_len (j + 1) l))
coming_number f j k l e p q = coming_next (coming_same (range_next f j k l e) p) q

pub coming_number_stop : {b c d : List ℕ} {s t u : SinkState} {all : List ℕ} {e : Failed} (f : ℕ → List ℕ) (j k l : ℕ) → k ≡ suc l
    → Coming b s all c t (flat_map f (range_with_len j k)) → Passes {A = Unit {0}} c t u d (f j) (Err e)
    → Passes {A = Unit {0}} b s u d all (Err e)
coming_number_stop f j k l e p q = coming_stop (flat_map f (range_with_len (j + 1) l)) (coming_same (range_next f j k l e) p) q

pub coming_numbers : {b c : List ℕ} {s t : SinkState} {all : List ℕ} (f : ℕ → List ℕ) (j k : ℕ) → k ≡ 0
    → Coming b s all c t (flat_map f (range_with_len j k)) → Passes {A = Unit {0}} {E = Failed} b s t c all (Ok (tt {0}))
coming_numbers f j k e p = coming_none (coming_same (ap (λ i. flat_map f (range_with_len j i)) e) p)
