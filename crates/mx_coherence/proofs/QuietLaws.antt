-- Calls that aren't announced: they change no right, and leave a coherent state with the harts as they were.
use Rattle.std.proofs.Common.{◌≡◌, ℕ, zero, suc, ◌+◌, ◌-◌, ◌*◌, ◌/◌, ◌%◌, ◌<◌, ◌≤◌, Bool, true, false, not, cond, ◌==◌, ◌||◌, ◌&&◌, nat_lt}
use Rattle.std.proofs.Common.{nat_le, List, [], ◌∷◌, length, take, refl, arith, Option, Some, None}
use Rattle.std.proofs.Common.{map as list_map}
use Rattle.std.specs.List.{AllByRecursion, prefix_len, range_with_len}
use Rattle.std.proofs.lemmas.Bool.{and_parts, or_parts, ltb-true, ltb-false, not-false}
use Rattle.mx_words.specs.declared.perm.Access.TheVariants as A
use Rattle.mx_words.specs.Bytes.{number_at, put_at}
use Rattle.mx_words.specs.FirstRow.{Row, first_row}
use Rattle.mx_words.specs.Ranges.{in_ram, ram_base}
use Rattle.mx_words.specs.Rights.{allows}
use Rattle.mx_model.specs.declared.values.Call.{Call}
use Rattle.mx_model.specs.declared.values.Gate.{Gate}
use Rattle.mx_model.specs.Checks.{Look, arg, is_halted, looked_all}
use Rattle.mx_model.specs.Reads.{Reads}
use Rattle.mx_model.specs.Serve.{Served, Service, Exit, Write, Grant, RevokeAll, Transfer, Alloc, Free, AddGate, RemoveGate, AddReturnGate}
use Rattle.mx_model.specs.Serve.{Query, Self, Exchange, Unknown, adds, answers, arg_word, code, exchange_from, exchanged, give_of, is_word}
use Rattle.mx_model.specs.Serve.{judged, look_of, may_read, no_word, served_by, write_from, write_looks, write_outside, write_words}
use Rattle.mx_model.specs.Serve.{written_out}
use Rattle.mx_model.specs.State.{Core, hart_at}
use Rattle.mx_model.specs.Turn.{call_of}
use Rattle.mx_model.proofs.ListLaws.{all-take}
use Rattle.mx_model.proofs.TestLaws.{first-passes}
use Rattle.mx_model.proofs.ValidParts.{same-harts-looked_all}
use Rattle.mx_coherence.specs.Coherence.{IsCoherent}
use Rattle.mx_coherence.proofs.LookLaws.{IsLook, WalksAgree, coherent-looked_all}
use Rattle.mx_coherence.proofs.StepLaws.{coherent-same, moved-gates, moved-ram}

-- a call that isn't announced
abbrev pub IsQuiet : Service → Type 0
IsQuiet Grant = ⊥
IsQuiet RevokeAll = ⊥
IsQuiet Alloc = ⊥
IsQuiet Free = ⊥
IsQuiet s = Unit {0}

-- what it comes to
pub record Quiet (r : Reads) (c : Core) (s : Served) : Type 0 where
  pub core : IsCoherent r s.core
  pub harts : s.core.harts ≡ c.harts
  pub change : s.change ≡ None

-- words of RAM in a range
below : (first n size : ℕ) → first + n ≤ size → AllByRecursion (λ w. w < size) (range_with_len first n)
below first zero size le = tt
below first (suc n) size le = (omega arith, below (first + 1) n size (omega arith))

-- the words that a write touches lie in RAM where none of its bytes lies outside
written-below : (c : Core) (call : Call) → write_outside c call ≡ false → AllByRecursion (λ w. w < c.size) (write_words call)
written-below c call e = by (nat_lt 0 (arg call 1)) refl e
  where
    by : (b : Bool) → nat_lt 0 (arg call 1) ≡ b → (b && (nat_lt (arg call 0) ram_base
        || nat_lt (ram_base + 4 * c.size) (arg call 0 + arg call 1))) ≡ false →
        AllByRecursion (λ w. w < c.size) (cond b (range_with_len ((arg call 0 - ram_base) / 4)
        ((arg call 0 + arg call 1 - ram_base + 3) / 4 - (arg call 0 - ram_base) / 4)) [])
    by false some f = tt
    by true some f =
        let p = or_parts (nat_lt (arg call 0) ram_base) (nat_lt (ram_base + 4 * c.size) (arg call 0 + arg call 1)) f in
        let a = ltb-false (arg call 0) ram_base p.0 in
        let b = ltb-false (ram_base + 4 * c.size) (arg call 0 + arg call 1) p.1 in
        let n = ltb-true 0 (arg call 1) some in
        below ((arg call 0 - ram_base) / 4) ((arg call 0 + arg call 1 - ram_base + 3) / 4 - (arg call 0 - ram_base) / 4) c.size
        (omega (arith, a, b, n))

looks-of : (size d : ℕ) (ws : List ℕ) → AllByRecursion (λ w. w < size) ws → AllByRecursion (IsLook size d) (list_map (look_of d) ws)
looks-of size d [] all = tt
looks-of size d (w ∷ ws) all = (record { domain = refl; word = all.0 }, looks-of size d ws all.1)

-- the word that a call names lies in RAM
word-below : (c : Core) (call : Call) → is_word c (arg call 0) ≡ true → arg_word call < c.size
word-below c call e =
    let p = and_parts (arg call 0 % 4 == 0) (in_ram (arg call 0) c.size) e in
    let q = and_parts (nat_le ram_base (arg call 0)) (nat_lt (arg call 0 - ram_base) (4 * c.size)) p.1 in
    let a = ltb-true (arg call 0 - ram_base) (4 * c.size) q.1 in
    omega (arith, a)

module _ (r : Reads) (c : Core) (h : ℕ) (k : IsCoherent r c) (walks : WalksAgree r c.size) (count : length c.caches ≡ length c.harts)
    (live : is_halted (hart_at c h).status ≡ false) where
  abbrev call : Call
  call = call_of h (hart_at c h)

  quiet-answers : (a0 : ℕ) → Quiet r c (answers c a0)
  quiet-answers a0 = record { core = k; harts = refl; change = refl }

  quiet-judged : (e : Core) (o : Option ℕ) (s : Served) → IsCoherent r e → e.harts ≡ c.harts → (o ≡ None → Quiet r c s)
      → Quiet r c (judged e o s)
  quiet-judged e None s p same q = q refl
  quiet-judged e (Some n) s p same q = record { core = p; harts = same; change = refl }

  quiet-adds : (g : Gate) → Quiet r c (adds c g)
  quiet-adds g = record {
    core = coherent-same r c (adds c g).core h (moved-gates c h (adds c g).core.gates) k;
    harts = refl;
    change =
        refl;
  }

  coherent-looks : (looks : List Look) → AllByRecursion (IsLook c.size (hart_at c h).domain) looks → IsCoherent r (looked_all r h looks c)
  coherent-looks looks own = coherent-looked_all r h looks c k walks count live own

  quiet-written : write_outside c call ≡ false → Quiet r c (written_out r c call)
  quiet-written e =
      let looks = write_looks r call in
      let seen = looked_all r h looks c in
      let ws = write_words call in
      let own = looks-of c.size (hart_at c h).domain (take (prefix_len (may_read r call.domain) ws + 1) ws)
      (all-take (λ w. w < c.size) (prefix_len (may_read r call.domain) ws + 1) ws (written-below c call e)) in
      let now = coherent-looks looks own in
      let same = same-harts-looked_all r h looks c in
      quiet-judged seen _ _ now same (λ f. record { core = now; harts = same; change = refl })

  quiet-write : (o : Option ℕ) → (o ≡ None → write_outside c call ≡ false) → Quiet r c (write_from r c call o)
  quiet-write (Some n) e = quiet-answers (code n)
  quiet-write None e = quiet-written (e refl)

  quiet-exchanged : is_word c (arg call 0) ≡ true → Quiet r c (exchanged r c call)
  quiet-exchanged e =
      let looks : List Look = look_of call.domain (arg_word call) ∷ [] in
      let seen = looked_all r h looks c in
      let now = coherent-looks looks (record { domain = refl; word = word-below c call e }, tt) in
      let ram = put_at c.ram (4 * arg_word call) 4 (arg call 1) in
      quiet-judged seen (first_row ((not (allows (r.perm call.domain (arg_word call)) A.Write), 12) ∷ []))
      (record (answers (record seen { ram = ram }) 0) { a1 = Some (number_at c.ram (4 * arg_word call) 4) })
      now refl
      (λ f. record { core = coherent-same r seen (record seen { ram = ram }) h (moved-ram seen h ram) now; harts = refl; change = refl })

  quiet-exchange : (o : Option ℕ) → (o ≡ None → is_word c (arg call 0) ≡ true) → Quiet r c (exchange_from r c call o)
  quiet-exchange (Some n) e = quiet-answers (code n)
  quiet-exchange None e = quiet-exchanged (e refl)

  pub quiet-served : (s : Service) → IsQuiet s → Quiet r c (served_by s r c call)
  quiet-served Exit q = quiet-judged c _ _ k refl (λ e. record { core = k; harts = refl; change = refl })
  quiet-served Write q =
      let t : Row ℕ = (nat_lt 4096 (arg call 1), 11) in
      let u : Row ℕ = (write_outside c call, 1) in
      quiet-write (first_row (t ∷ u ∷ [])) (λ e. (first-passes u [] (first-passes t (u ∷ []) e).1).0)
  quiet-served Grant q = absurd q
  quiet-served RevokeAll q = absurd q
  quiet-served Transfer q = quiet-judged c _ (record (answers c 0) { give = Some (give_of c call) }) k refl
      (λ e. record { core = k; harts = refl; change = refl })
  quiet-served Alloc q = absurd q
  quiet-served Free q = absurd q
  quiet-served AddGate q = quiet-judged c _ (adds c (record { domain = arg call 1; word = arg_word call; target = call.domain })) k refl
      (λ e. quiet-adds _)
  quiet-served RemoveGate q =
      quiet-judged c _ _ k refl (λ e. record { core = coherent-same r c _ h (moved-gates c h _) k; harts = refl; change = refl })
  quiet-served AddReturnGate q = quiet-judged c _ (adds c (record { domain = call.domain; word = arg_word call; target = call.domain })) k
      refl
      (λ e. quiet-adds _)
  quiet-served Query q = quiet-judged c _ _ k refl (λ e. record { core = k; harts = refl; change = refl })
  quiet-served Self q = quiet-answers _
  quiet-served Exchange q =
      let t : Row ℕ = (no_word c call, 1) in
      quiet-exchange (first_row (t ∷ [])) (λ e. not-false (is_word c (arg call 0)) (first-passes t [] e).0)
  quiet-served Unknown q = quiet-answers _
