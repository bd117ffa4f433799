-- What a served call leaves of a state: one walk over the calls, with a predicate on the state after.
use Rattle.std.proofs.Common.{◌≡◌, ℕ, ◌*◌, true, false, not, cond, ◌==◌, nat_le, List, [], ◌∷◌, length, refl, Option, Some, None, unwrap_or}
use Rattle.std.proofs.Common.{is_none}
use Rattle.std.specs.List.{range_with_len}
use Rattle.std.proofs.lemmas.Bool.{not-false}
use Rattle.mx_words.specs.declared.perm.Access.TheVariants as A
use Rattle.mx_words.specs.Announced.{is_announced}
use Rattle.mx_words.specs.Bytes.{number_at, put_at}
use Rattle.mx_words.specs.Caches.{Cache}
use Rattle.mx_words.specs.FirstFit.{has_room, most_blocks}
use Rattle.mx_words.specs.FirstRow.{first_row, Row}
use Rattle.mx_words.specs.Rights.{allows}
use Rattle.mx_model.specs.declared.values.Call.{Call}
use Rattle.mx_model.specs.declared.values.Gate.{Gate}
use Rattle.mx_model.specs.Checks.{Look, arg, call_range, drops, looked, looked_all}
use Rattle.mx_model.specs.Reads.{Reads}
use Rattle.mx_model.specs.Serve.{Served, Service, Exit, Write, Grant, RevokeAll, Transfer, Alloc, Free, AddGate, RemoveGate, AddReturnGate}
use Rattle.mx_model.specs.Serve.{Query, Self, Exchange, Unknown, judged, answers, serve, served_by, service, ended, write_from, written_out}
use Rattle.mx_model.specs.Serve.{write_looks, exchange_from, exchanged, look_of, arg_word, alloc_place, alloc_change, allocated, alloc_from}
use Rattle.mx_model.specs.Serve.{serve_alloc}
use Rattle.mx_model.specs.State.{Core, Module, module_at}
use Rattle.mx_model.proofs.ListLaws.{found-passes}
use Rattle.mx_model.proofs.TestLaws.{first-passes, found-some}

-- what is to be shown of the states after a call: of the state before, whatever the caches are; with other modules or gates; of an
-- exchange; and of
-- an alloc that finds room
pub record CallLeaves (r : Reads) (c : Core) (call : Call) (Q : Core → Type 0) : Type 0 where
  pub caches : (e : Core) (caches : List Cache) → Q e → Q (record e { caches = caches })
  pub none : Q c
  pub modules : (modules : List Module) → Q (record c { modules = modules })
  pub gates : (gates : List Gate) → Q (record c { gates = gates })
  pub exchange : allows (r.perm call.domain (arg_word call)) A.Write ≡ true
      → Q (record c { ram = put_at c.ram (4 * arg_word call) 4 (arg call 1) })
  pub alloc : service call.number ≡ Alloc → (first : ℕ) → has_room (module_at c call.domain).heap (module_at c call.domain).blocks
      (arg call 0) first ≡ true →
      Q (allocated c call first).core

module _ (r : Reads) (c : Core) (call : Call) (Q : Core → Type 0) (k : CallLeaves r c call Q) where
  judged-leaf : (e : Core) (o : Option ℕ) (s : Served) → Q e → (o ≡ None → Q s.core) → Q (judged e o s).core
  judged-leaf e None s p q = q refl
  judged-leaf e (Some n) s p q = p

  looked-leaf : (h : ℕ) (looks : List Look) (e : Core) → Q e → Q (looked_all r h looks e)
  looked-leaf h [] e p = p
  looked-leaf h (l ∷ ls) e p = looked-leaf h ls (looked r h e l) (k.caches e _ p)

  -- looks before RAM is changed
  looked-ram : (h : ℕ) (looks : List Look) (e : Core) (ram : List ℕ) → Q (record e { ram = ram })
      → Q (record (looked_all r h looks e) { ram = ram })
  looked-ram h [] e ram p = p
  looked-ram h (l ∷ ls) e ram p = looked-ram h ls (looked r h e l) ram (k.caches (record e { ram = ram }) _ p)

  written-leaf : Q (written_out r c call).core
  written-leaf =
      let seen = looked_all r call.hart (write_looks r call) c in
      let p : Q seen = looked-leaf call.hart (write_looks r call) c k.none in
      judged-leaf seen _ _ p (λ e. p)

  write-leaf : (o : Option ℕ) → Q (write_from r c call o).core
  write-leaf (Some n) = k.none
  write-leaf None = written-leaf

  exchanged-leaf : Q (exchanged r c call).core
  exchanged-leaf =
      let looks = look_of call.domain (arg_word call) ∷ [] in
      let seen = looked_all r call.hart looks c in
      let ram = put_at c.ram (4 * arg_word call) 4 (arg call 1) in
      let test : Row ℕ = (not (allows (r.perm call.domain (arg_word call)) A.Write), 12) in
      judged-leaf seen (first_row (test ∷ []))
      (record (answers (record seen { ram = ram }) 0) { a1 = Some (number_at c.ram (4 * arg_word call) 4) })
      (looked-leaf call.hart looks c k.none)
      (λ e. looked-ram call.hart looks c ram (k.exchange (not-false _ (first-passes test [] e).0)))

  exchange-leaf : (o : Option ℕ) → Q (exchange_from r c call o).core
  exchange-leaf (Some n) = k.none
  exchange-leaf None = exchanged-leaf

  alloc-leaf : (first : ℕ) (o : Option ℕ) → (o ≡ None → Q (allocated c call first).core) → Q (alloc_from c call first o).core
  alloc-leaf first (Some n) q = k.none
  alloc-leaf first None q = q refl

  served-alloc : service call.number ≡ Alloc → Q (serve_alloc r c call).core
  served-alloc s =
      let m = module_at c call.domain in
      let first = unwrap_or (alloc_place c call) 0 in
      let t1 : Row ℕ = (arg call 0 == 0, 1) in
      let t2 : Row ℕ = (is_none (alloc_place c call), 6) in
      let t3 : Row ℕ = (nat_le most_blocks (length m.blocks), 7) in
      let t4 : Row ℕ = (not (r.fits (alloc_change first call)), 5) in
      alloc-leaf first (first_row (t1 ∷ t2 ∷ t3 ∷ t4 ∷ [])) (λ e.
      let n : is_none (alloc_place c call) ≡ false = (first-passes t2 (t3 ∷ t4 ∷ []) (first-passes t1 (t2 ∷ t3 ∷ t4 ∷ []) e).1).0 in
      k.alloc s first (found-some (alloc_place c call) (λ a. has_room m.heap m.blocks (arg call 0) a ≡ true)
      (found-passes (has_room m.heap m.blocks (arg call 0)) (range_with_len m.heap.first m.heap.count)) n))

  served-leaf : (s : Service) → service call.number ≡ s → Q (served_by s r c call).core
  served-leaf Exit e = judged-leaf c _ _ k.none (λ f. k.none)
  served-leaf Write e = write-leaf _
  served-leaf Grant e = judged-leaf c _ _ k.none (λ f. k.none)
  served-leaf RevokeAll e = judged-leaf c _ _ k.none (λ f. k.none)
  served-leaf Transfer e = judged-leaf c _ _ k.none (λ f. k.none)
  served-leaf Alloc e = served-alloc e
  served-leaf Free e = judged-leaf c _ _ k.none (λ f. k.modules _)
  served-leaf AddGate e = judged-leaf c _ _ k.none (λ f. k.gates _)
  served-leaf RemoveGate e = judged-leaf c _ _ k.none (λ f. k.gates _)
  served-leaf AddReturnGate e = judged-leaf c _ _ k.none (λ f. k.gates _)
  served-leaf Query e = judged-leaf c _ _ k.none (λ f. k.none)
  served-leaf Self e = k.none
  served-leaf Exchange e = exchange-leaf _
  served-leaf Unknown e = k.none

  ended-leaf : (s : Served) → Q s.core → Q (ended c call s).core
  ended-leaf s p = elim (is_announced call.number) as (λ b. Q
      (cond b (record s { core = drops call.hart (call_range c call) s.core }) s).core) [
        | true ↦ k.caches s.core _ p
        | false ↦ p
      ]

  -- the walk
  pub served-walk : Q (serve r c call).core
  served-walk = ended-leaf (served_by (service call.number) r c call) (served-leaf (service call.number) refl)
