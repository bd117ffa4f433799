-- The calls that look: write and exchange, by the outcome of their looks.
use Rattle.std.proofs.Common.{◌≡◌, ℕ, ◌+◌, ◌-◌, ◌*◌, ◌/◌, ◌<◌, ◌≤◌, true, false, ◌||◌, nat_lt, List, arith, Some}
use Rattle.std.specs.List.{list_all, range_with_len}
use Rattle.std.proofs.lemmas.Bool.{ltb-false, lt-ltb, le-ltb, or_parts}
use Rattle.mx_words.specs.Ranges.{ram_base}
use Rattle.mx_model.specs.declared.values.Call.{Call}
use Rattle.mx_words.specs.declared.perm.Access.TheVariants as A
use Rattle.mx_words.specs.Bytes.{number_at, put_at}
use Rattle.mx_words.specs.Rights.{allows}
use Rattle.mx_model.specs.Checks.{arg, looked}
use Rattle.mx_model.specs.Reads.{Reads}
use Rattle.mx_model.specs.Serve.{answers, code, may_read, bytes_at, write_words, write_outside, serve_write, is_word, arg_word, look_of}
use Rattle.mx_model.specs.Serve.{serve_exchange}
use Rattle.mx_model.specs.State.{Core}
use Rattle.mx_supervisor.specs.Looks.{read_through}

-- a write that passes its first tests, and the words that it touches
pub record IsWrite (c : Core) (call : Call) (words : List ℕ) : Type 0 where
  pub few : nat_lt 4096 (arg call 1) ≡ false
  pub inside : write_outside c call ≡ false
  pub words_are : write_words call ≡ words

pub write-denied : (r : Reads) (c : Core) (call : Call) (words : List ℕ) → IsWrite c call words
    → list_all (may_read r call.domain) words ≡ false →
    serve_write r c call ≡ answers (read_through r call.hart call.domain words c) (code 12)
write-denied r c call words is denied = rw (is.few, is.inside, is.words_are, denied)

pub write-done : (r : Reads) (c : Core) (call : Call) (words : List ℕ) → IsWrite c call words
    → list_all (may_read r call.domain) words ≡ true →
    serve_write r c call ≡ record (answers (read_through r call.hart call.domain words c) (arg call 1)) {
      console =
          bytes_at c (arg call 0) (arg call 1);
    }
write-done r c call words is allowed = rw (is.few, is.inside, is.words_are, allowed)

pub write-none : (r : Reads) (c : Core) (call : Call) → arg call 1 ≡ 0 → serve_write r c call ≡ answers c 0
write-none r c call none = rw none (rw none)

-- the bytes of a write lie in RAM
pub record AreBytes (addr count size : ℕ) : Type 0 where
  pub some : 0 < count
  pub few : count ≤ 4096
  pub begins : ram_base ≤ addr
  pub ends : addr + count ≤ ram_base + 4 * size

pub are-bytes : (addr count size : ℕ) → count ≤ 4096 → 0 < count
    → (nat_lt addr ram_base || nat_lt (ram_base + 4 * size) (addr + count)) ≡ false → AreBytes addr count size
are-bytes addr count size few some inside =
    let both = or_parts (nat_lt addr ram_base) (nat_lt (ram_base + 4 * size) (addr + count)) inside in
    record { some = some; few = few; begins = ltb-false addr ram_base both.0; ends = ltb-false (ram_base + 4 * size) (addr + count) both.1 }

abbrev pub first_of : ℕ → ℕ
first_of addr = (addr - ram_base) / 4

abbrev pub behind_of : ℕ → ℕ → ℕ
behind_of addr count = (addr - ram_base + count + 3) / 4

pub behind-inside : (addr count size : ℕ) → AreBytes addr count size → behind_of addr count ≤ size
behind-inside addr count size are = let a = are.begins in let b = are.ends in omega (arith, a, b)

pub is-write : (c : Core) (call : Call) → AreBytes (arg call 0) (arg call 1) c.size →
    IsWrite c call (range_with_len (first_of (arg call 0)) (behind_of (arg call 0) (arg call 1) - first_of (arg call 0)))
is-write c call are =
    let some : nat_lt 0 (arg call 1) ≡ true = lt-ltb _ _ are.some in
    let begins : nat_lt (arg call 0) ram_base ≡ false = le-ltb (arg call 0) ram_base are.begins in
    let ends : nat_lt (ram_base + 4 * c.size) (arg call 0 + arg call 1) ≡ false =
    le-ltb (ram_base + 4 * c.size) (arg call 0 + arg call 1) are.ends in
    let bytes : arg call 0 + arg call 1 - ram_base + 3 ≡ arg call 0 - ram_base + arg call 1 + 3 = let a = are.begins in omega (arith, a) in
    record {
      few = le-ltb 4096 (arg call 1) are.few;
      inside = rw (some, begins, ends);
      words_are = rw (some, bytes);
    }

-- an exchange by the outcome of its look
pub exchange-denied : (r : Reads) (c : Core) (call : Call) (w : ℕ) → is_word c (arg call 0) ≡ true → arg_word call ≡ w
    → allows (r.perm call.domain w) A.Write ≡ false →
    serve_exchange r c call ≡ answers (looked r call.hart c (look_of call.domain w)) (code 12)
exchange-denied r c call w there word denied = rw there (rw word (rw denied))

pub exchange-done : (r : Reads) (c : Core) (call : Call) (w : ℕ) → is_word c (arg call 0) ≡ true → arg_word call ≡ w
    → allows (r.perm call.domain w) A.Write ≡ true →
    serve_exchange r c call ≡ record (answers (record (looked r call.hart c (look_of call.domain w)) {
      ram =
          put_at c.ram (4 * w) 4 (arg call 1);
    }) 0) {
      a1 = Some (number_at c.ram (4 * w) 4);
    }
exchange-done r c call w there word allowed = rw there (rw word (rw allowed))
