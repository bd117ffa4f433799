-- A call is refused by the first of its tests that fails, and only then does it answer a code.
use Rattle.std.proofs.Common.{◌≡◌, ℕ, ◌+◌, ◌*◌, ◌<◌, ◌≤◌, Bool, true, false, not, cond, nat_lt, nat_le, ◌==◌, ◌&&◌, List, [], ◌∷◌, length}
use Rattle.std.proofs.Common.{refl, sym, ap, subst, set-set, arith, if◌then◌else◌, Option, Some, None, unwrap_or, is_none}
use Rattle.std.specs.List.{AllByRecursion, list_all, range_with_len}
use Rattle.std.proofs.lemmas.Bool.{and_parts, leb-true, ltb-false}
use Rattle.std.proofs.lemmas.List.{set-get_or}
use Rattle.mx_words.specs.declared.perm.Perm.{Perm}
use Rattle.mx_words.specs.declared.perm.Access.TheVariants as A
use Rattle.mx_words.specs.Announced.{is_announced}
use Rattle.mx_words.specs.Caches.{Cache, no_cache}
use Rattle.mx_words.specs.FirstFit.{has_room, most_blocks}
use Rattle.mx_words.specs.FirstRow.{Row, first_row}
use Rattle.mx_words.specs.Rights.{allows, number}
use Rattle.mx_model.specs.declared.values.Call.{Call}
use Rattle.mx_model.specs.Checks.{Look, arg, call_range, drops, looked, looked_all}
use Rattle.mx_model.specs.Reads.{Reads}
use Rattle.mx_model.specs.Serve.{Served, Service, Exit, Write, Grant, RevokeAll, Transfer, Alloc, Free, AddGate, RemoveGate, AddReturnGate}
use Rattle.mx_model.specs.Serve.{Query, Self, Exchange, Unknown, alloc_change, alloc_from, alloc_place, answers, arg_word, code, ended}
use Rattle.mx_model.specs.Serve.{exchange_from, judged, may_read, serve, serve_alloc, served_by, service, write_from, write_words}
use Rattle.mx_model.specs.Serve.{write_outside, no_word}
use Rattle.mx_model.specs.State.{Core, cache_at, module_at, with_cache}
use Rattle.mx_model.specs.Valid.{IsCall, IsValid}
use Rattle.mx_model.proofs.ListLaws.{found-passes}
use Rattle.mx_model.proofs.TestLaws.{first-passes, found-some}
use Rattle.mx_model.proofs.ValidParts.{home-at}
use Rattle.mx_runs.specs.Refusals.{AnswersCode, IsCode, IsRefused, TellsRefusal, refusal, rows_of}

-- a state is another one but for the caches of a hart
pub record OwnCaches (h : ℕ) (c e : Core) : Type 0 where
  pub cache : Cache
  pub is : e ≡ with_cache h cache c

pub own-self : (h : ℕ) (c : Core) → OwnCaches h c c
own-self h c =
    record {
      cache = cache_at c h;
      is =
          ap (λ (caches : List Cache). record c { caches = caches }) (sym (set-get_or c.caches h no_cache));
    }

pub own-more : (h : ℕ) (c e : Core) (cache : Cache) → OwnCaches h c e → OwnCaches h c (with_cache h cache e)
own-more h c e cache p = record {
  cache = cache;
  is = cc (p.is, set-set c.caches h p.cache cache);
}

pub own-looks : (r : Reads) (h : ℕ) (looks : List Look) (c e : Core) → OwnCaches h c e →
    OwnCaches h c (looked_all r h looks e)
own-looks r h [] c e p = p
own-looks r h (l ∷ ls) c e p = own-looks r h ls c (looked r h e l) (own-more h c e _ p)

-- a refused outcome
record Refuses (h : ℕ) (c : Core) (s : Served) (n : ℕ) : Type 0 where
  answer : s.a0 ≡ code n
  no_second : s.a1 ≡ None
  runs_on : s.stop ≡ false
  no_change : s.change ≡ None
  no_give : s.give ≡ None
  no_byte : s.console ≡ []
  own : OwnCaches h c s.core

refuses-answers : (h : ℕ) (c e : Core) (m n : ℕ) → OwnCaches h c e → Some m ≡ Some n →
    Refuses h c (answers e (code m)) n
refuses-answers h c e m n p q = search arith

refuses-judged : (h : ℕ) (c e : Core) (o : Option ℕ) (s : Served) (n : ℕ) → OwnCaches h c e → o ≡ Some n →
    Refuses h c (judged e o s) n
refuses-judged h c e None s n p q = absurd (let k : ⊥ = cc in k)
refuses-judged h c e (Some m) s n p q = refuses-answers h c e m n p q

-- the rows of a write, and of an exchange, whose last test comes after looks
refuses-write : (r : Reads) (c : Core) (call : Call) (n : ℕ) (long outside : Bool) →
    first_row {A =
    ℕ} ((long, 11) ∷ (outside, 1) ∷ (not (list_all (may_read r call.domain) (write_words call)), 12) ∷ []) ≡ Some
    n →
    Refuses call.hart c (write_from r c call (first_row {A = ℕ} ((long, 11) ∷ (outside, 1) ∷ []))) n
refuses-write r c call n x outside q = grind (arith, refuses-answers, own-self, refuses-judged, own-looks)

refuses-exchange : (r : Reads) (c : Core) (call : Call) (n : ℕ) (outside : Bool) →
    first_row {A = ℕ} ((outside, 1) ∷ (not (allows (r.perm call.domain (arg_word call)) A.Write), 12) ∷ []) ≡ Some n →
    Refuses call.hart c (exchange_from r c call (first_row {A = ℕ} ((outside, 1) ∷ []))) n
refuses-exchange r c call n x q = grind (arith, refuses-answers, own-self, refuses-judged, own-looks)

refuses-alloc : (c : Core) (call : Call) (first n : ℕ) (o : Option ℕ) → o ≡ Some n →
    Refuses call.hart c (alloc_from c call first o) n
refuses-alloc c call first n None q = absurd (let k : ⊥ = cc in k)
refuses-alloc c call first n (Some m) q = refuses-answers call.hart c c m n (own-self call.hart c) q

-- a call of each kind
refuses-by : (s : Service) (r : Reads) (c : Core) (call : Call) (n : ℕ) → first_row (rows_of s r c call) ≡ Some n →
    Refuses call.hart c (served_by s r c call) n
refuses-by Exit r c call n q = refuses-judged call.hart c c _ _ n (own-self call.hart c) q
refuses-by Write r c call n q = refuses-write r c call n (nat_lt 4096 (arg call 1)) (write_outside c call) q
refuses-by Grant r c call n q = refuses-judged call.hart c c _ _ n (own-self call.hart c) q
refuses-by RevokeAll r c call n q = refuses-judged call.hart c c _ _ n (own-self call.hart c) q
refuses-by Transfer r c call n q = refuses-judged call.hart c c _ _ n (own-self call.hart c) q
refuses-by Alloc r c call n q = refuses-alloc c call (unwrap_or (alloc_place c call) 0) n _ q
refuses-by Free r c call n q = refuses-judged call.hart c c _ _ n (own-self call.hart c) q
refuses-by AddGate r c call n q = refuses-judged call.hart c c _ _ n (own-self call.hart c) q
refuses-by RemoveGate r c call n q = refuses-judged call.hart c c _ _ n (own-self call.hart c) q
refuses-by AddReturnGate r c call n q = refuses-judged call.hart c c _ _ n (own-self call.hart c) q
refuses-by Query r c call n q = refuses-judged call.hart c c _ _ n (own-self call.hart c) q
refuses-by Self r c call n q = absurd (cc)
refuses-by Exchange r c call n q = refuses-exchange r c call n (no_word c call) q
refuses-by Unknown r c call n q = refuses-answers call.hart c c 13 n (own-self call.hart c) q

refuses-ended : (c : Core) (call : Call) (s : Served) (n : ℕ) → Refuses call.hart c s n →
    Refuses call.hart c (ended c call s) n
refuses-ended c call s n p =
    elim (is_announced call.number) as
    (λ b. Refuses call.hart c (cond b (record s { core = drops call.hart (call_range c call) s.core }) s) n) [
      | true ↦ record {
        answer = p.answer;
        no_second = p.no_second;
        runs_on = p.runs_on;
        no_change = p.no_change;
        no_give = p.no_give;
        no_byte = p.no_byte;
        own = own-more call.hart c s.core _ p.own;
      }
      | false ↦ p
    ]

-- each row has a code of -1 to -15
abbrev IsFew : ℕ → Type 0
IsFew n = (1 ≤ n) × (n ≤ 15)

abbrev AreFew : List (Row ℕ) → Type 0
AreFew rows = AllByRecursion (λ (t : Row ℕ). IsFew t.1) rows

rows-few : (s : Service) (r : Reads) (c : Core) (call : Call) → AreFew (rows_of s r c call)
rows-few x r c call = grind arith

row-few : (rows : List (Row ℕ)) (n : ℕ) → AreFew rows → first_row rows ≡ Some n → IsFew n
row-few [] n p q = absurd (let k : ⊥ = cc in k)
row-few (t ∷ ts) n p q = elim t.0 as (λ b. (if b then Some t.1 else first_row ts) ≡ Some n → IsFew n) [
  | true ↦ λ e. let k : t.1 ≡ n = cc in subst (λ (m : ℕ). IsFew m) k p.0
  | false ↦ λ e. row-few ts n p.1 e
] q

few-code : (r : Reads) (c : Core) (call : Call) (n : ℕ) → refusal r c call ≡ Some n → IsFew n
few-code r c call n q =
    row-few (rows_of (service call.number) r c call) n (rows-few (service call.number) r c call) q

pub refused-tested : (r : Reads) (c : Core) (call : Call) (n : ℕ) → refusal r c call ≡ Some n → IsRefused r c call n
refused-tested r c call n q =
    let p = refuses-ended c call (served_by (service call.number) r c call) n
    (refuses-by (service call.number) r c call n q) in
    let few = few-code r c call n q in
    search arith

pub code-is : (r : Reads) (c : Core) (call : Call) (n : ℕ) → refusal r c call ≡ Some n → IsCode (code n)
code-is r c call n q = let high = (few-code r c call n q).1 in omega (arith, high)

-- a call that isn't refused ends its hart or answers less than a code
abbrev IsLow : Served → Type 0
IsLow s = s.stop ≡ false → s.a0 < code 15

low-judged : (e : Core) (o : Option ℕ) (s : Served) → o ≡ None → IsLow s → IsLow (judged e o s)
low-judged e o s q p = subst (λ (x : Option ℕ). IsLow (judged e x s)) (sym q) p

low-write : (r : Reads) (c : Core) (call : Call) (outside : Bool) →
    first_row {A =
    ℕ} ((nat_lt 4096 (arg call 1), 11) ∷ (outside, 1) ∷ (
      not (list_all (may_read r call.domain) (write_words call)),
      12,
    ) ∷ []) ≡ None →
    IsLow (write_from r c call (first_row {A = ℕ} ((nat_lt 4096 (arg call 1), 11) ∷ (outside, 1) ∷ [])))
low-write r c call outside q = search (arith, ltb-false, IsLow, low-judged)

low-exchange : (r : Reads) (c : Core) (call : Call) (outside : Bool) →
    first_row {A = ℕ} ((outside, 1) ∷ (not (allows (r.perm call.domain (arg_word call)) A.Write), 12) ∷ []) ≡ None →
    IsLow (exchange_from r c call (first_row {A = ℕ} ((outside, 1) ∷ [])))
low-exchange r c call x q = grind (arith, low-judged)

low-alloc : (r : Reads) (c : Core) (call : Call) → IsValid c → first_row (rows_of Alloc r c call) ≡ None →
    IsLow (serve_alloc r c call)
low-alloc r c call v q =
    let m = module_at c call.domain in
    let first = unwrap_or (alloc_place c call) 0 in
    let t2 : Row ℕ = (is_none (alloc_place c call), 6) in
    let t3 : Row ℕ = (nat_le most_blocks (length m.blocks), 7) in
    let t4 : Row ℕ = (not (r.fits (alloc_change first call)), 5) in
    let p2 = first-passes t2 (t3 ∷ t4 ∷ []) (first-passes ((arg call 0 == 0, 1)) (t2 ∷ t3 ∷ t4 ∷ []) q).1 in
    let room : has_room m.heap m.blocks (arg call 0) first ≡ true =
    found-some (alloc_place c call) (λ a. has_room m.heap m.blocks (arg call 0) a ≡ true)
    (found-passes (has_room m.heap m.blocks (arg call 0)) (range_with_len m.heap.first m.heap.count)) p2.0 in
    let outer =
    and_parts (nat_le m.heap.first first && nat_le (first + arg call 0) (m.heap.first + m.heap.count)) _ room in
    let inner =
    and_parts (nat_le m.heap.first first) (nat_le (first + arg call 0) (m.heap.first + m.heap.count)) outer.0 in
    let high : first + arg call 0 ≤ m.heap.first + m.heap.count = leb-true _ _ inner.1 in
    let home = (home-at c call.domain v).heap in
    let few = v.few_words in
    subst (λ (o : Option ℕ). IsLow (alloc_from c call first o)) (sym q) (search arith)

low-number : (p : Perm) → number p < code 15
low-number x = grind arith

low-self : (c : Core) (h : ℕ) (call : Call) → IsValid c → IsCall (length c.modules) h call → h < length c.harts →
    256 * call.hart + call.domain < code 15
low-self c h call v p l = search arith

low-by : (s : Service) (r : Reads) (c : Core) (h : ℕ) (call : Call) → IsValid c → IsCall (length c.modules) h call →
    h < length c.harts →
    first_row (rows_of s r c call) ≡ None → IsLow (served_by s r c call)
low-by x r c h call v p l q = grind (arith, low-judged, low-write, low-alloc, low-number, low-self, low-exchange)

low-ended : (c : Core) (call : Call) (s : Served) → IsLow s → IsLow (ended c call s)
low-ended c call s p = search (arith, IsLow, call.hart)

pub low-served : (r : Reads) (c : Core) (h : ℕ) (call : Call) → IsValid c → IsCall (length c.modules) h call →
    h < length c.harts →
    refusal r c call ≡ None → (serve r c call).stop ≡ false → (serve r c call).a0 < code 15
low-served r c h call v p l q = search (arith, low-ended, low-by)

-- a test that fails, or none
pub some-row : (o : Option ℕ) → is_none o ≡ false → (n : ℕ) × (o ≡ Some n)
some-row None e = absurd (let k : ⊥ = cc in k)
some-row (Some n) e = (n, refl)

tells-none : (r : Reads) (c : Core) (h : ℕ) (call : Call) (o : Option ℕ) → IsValid c →
    IsCall (length c.modules) h call → h < length c.harts →
    refusal r c call ≡ o → AnswersCode r c call → is_none o ≡ false
tells-none r c h call None v p l q a =
    let low = low-served r c h call v p l q a.runs_on in let high = a.answer in
    absurd (let k : ⊥ = omega (arith, low, high) in k)
tells-none r c h call (Some n) v p l q a = refl

answers-code : (r : Reads) (c : Core) (call : Call) (n : ℕ) → refusal r c call ≡ Some n → AnswersCode r c call
answers-code r c call n q = search (arith, refused-tested, code-is)

pub refused-told : (r : Reads) (c : Core) (h : ℕ) (call : Call) → IsValid c → IsCall (length c.modules) h call →
    h < length c.harts → TellsRefusal r c call
refused-told r c h call v p l = (
  λ a. tells-none r c h call (refusal r c call) v p l refl a,
  λ e. let row = some-row (refusal r c call) e in answers-code r c call row.0 row.1,
)
