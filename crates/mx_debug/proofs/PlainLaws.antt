-- Answers that gdb doesn't take for bytes of the console.
use Rattle.std.proofs.Common.{◌≡◌, ℕ, zero, suc, ◌+◌, ◌*◌, ◌/◌, ◌%◌, ◌^◌, ◌==◌, ◌&&◌, ◌||◌, Bool, true, false, List, [], ◌∷◌, ◌++◌, codes}
use Rattle.std.proofs.Common.{drop, flat_map, length, min, nat_le, nat_lt, Option, Some, None, take, if◌then◌else◌, refl, arith}
use Rattle.std.specs.Prelude.{⊤}
use Rattle.std.proofs.lemmas.Bool.Decides.{nat_tests}
use Rattle.mx_words.specs.Ranges.{ram_base}
use Rattle.mx_io.specs.Piece.{hex_digit}
use Rattle.mx_model.specs.State.{Core, hart_at}
use Rattle.mx_packets.specs.Frames.{cut, pair}
use Rattle.mx_debug_texts.specs.declared.document.Document.TheVariants as D
use Rattle.mx_debug_texts.specs.Documents.{document_text, fault_signal}
use Rattle.mx_model.specs.declared.values.Note.TheVariants as N
use Rattle.mx_debug.specs.declared.stop.Stop.{Stop}
use Rattle.mx_debug.specs.Replies.{View, about_hart}
use Rattle.mx_debug.specs.declared.stop.Stop.TheVariants as S
use Rattle.mx_debug.specs.Texts.{memory_text, most_seen, pairs, register_of, registers_of, registers_text, seen_bytes, stop_text}
use Rattle.mx_debug.specs.Texts.{thread_name, threads_text, window_mark, window_text, word_text, wrong}
use Rattle.mx_debug.specs.Told.{is_shown}

-- an answer whose first byte isn't `O`
pub plain_first : (a : ℕ) (rest : List ℕ) → (a == 79) ≡ false → is_shown (a ∷ rest) ≡ false
plain_first a [] e = refl
plain_first a (b ∷ []) e = refl
plain_first a (b ∷ c ∷ more) e = e

-- a text without it
abbrev Lacks : List ℕ → Type 0
Lacks [] = ⊤
Lacks (b ∷ more) = ((b == 79) ≡ false) × Lacks more

lacking_plain : (xs : List ℕ) → Lacks xs → is_shown xs ≡ false
lacking_plain [] h = refl
lacking_plain (a ∷ rest) h = plain_first a rest h.0

lacks_more : (a b : List ℕ) → Lacks a → Lacks b → Lacks (a ++ b)
lacks_more [] b one two = two
lacks_more (x ∷ a) b one two = (one.0, lacks_more a b one.1 two)

lacks_take : (n : ℕ) (xs : List ℕ) → Lacks xs → Lacks (take n xs)
lacks_take zero xs h = tt
lacks_take (suc n) [] h = tt
lacks_take (suc n) (x ∷ xs) h = (h.0, lacks_take n xs h.1)

lacks_drop : (n : ℕ) (xs : List ℕ) → Lacks xs → Lacks (drop n xs)
lacks_drop zero xs h = h
lacks_drop (suc n) [] h = tt
lacks_drop (suc n) (x ∷ xs) h = lacks_drop n xs h.1

lacks_each : (f : ℕ → List ℕ) → ((x : ℕ) → Lacks (f x)) → (xs : List ℕ) → Lacks (flat_map f xs)
lacks_each f each [] = tt
lacks_each f each (x ∷ xs) = lacks_more (f x) (flat_map f xs) (each x) (lacks_each f each xs)

lacks_digit : (d : ℕ) → (hex_digit d == 79) ≡ false
lacks_digit d = grind (arith, nat_tests)

lacks_pair : (b : ℕ) → Lacks (pair b)
lacks_pair b = (lacks_digit (b / 16), (lacks_digit (b % 16), tt))

lacks_pairs : (bytes : List ℕ) → Lacks (pairs bytes)
lacks_pairs bytes = lacks_each pair lacks_pair bytes

lacks_wrong : Lacks wrong
lacks_wrong = (refl, (refl, (refl, tt)))

by_test : (P : List ℕ → Type 0) (b : Bool) (x y : List ℕ) → P x → P y → P (if b then x else y)
by_test P true x y one two = one
by_test P false x y one two = two

lacks_registers : (c : Core) (h made : ℕ) → Lacks (registers_of c h made)
lacks_registers c h made =
    by_test Lacks (nat_lt h (length c.harts)) (registers_text (hart_at c h) made) wrong
    (lacks_each word_text (λ n. lacks_pairs (n % 256 ∷ n / 256 % 256 ∷ n / 65536 % 256 ∷ n / 16777216 % 256 ∷ []))
    ((hart_at c h).regs ++ (hart_at c h).pc ∷ (hart_at c h).domain ∷ length (hart_at c h).frames ∷ made % 2 ^ 32 ∷ made / 2 ^ 32 ∷ []))
    lacks_wrong

plain_cut : (xs : List ℕ) → Lacks xs → is_shown (cut xs) ≡ false
plain_cut xs h = lacking_plain (cut xs) (lacks_take 4096 xs h)

pub plain_registers : (c : Core) (h made : ℕ) → is_shown (cut (registers_of c h made)) ≡ false
plain_registers c h made = plain_cut (registers_of c h made) (lacks_registers c h made)

pub plain_register : (c : Core) (h made n : ℕ) → is_shown (cut (register_of c h made n)) ≡ false
plain_register c h made n =
    let all = cut (registers_of c h made) in
    let lacks = lacks_take 4096 (registers_of c h made) (lacks_registers c h made) in
    plain_cut (register_of c h made n)
    (by_test Lacks (nat_lt n 35) (take 8 (drop (8 * n) all)) (if n == 35 then take 16 (drop 280 all) else wrong)
    (lacks_take 8 (drop (8 * n) all) (lacks_drop (8 * n) all lacks))
    (by_test Lacks (n == 35) (take 16 (drop 280 all)) wrong (lacks_take 16 (drop 280 all) (lacks_drop 280 all lacks)) lacks_wrong))

pub plain_memory : (c : Core) (address count : ℕ) → is_shown (cut (memory_text c address count)) ≡ false
plain_memory c address count =
    let seen = seen_bytes c address (min count most_seen) in
    plain_cut (memory_text c address count)
    (by_test Lacks (nat_le ram_base address && nat_lt address (ram_base + 4 * c.size)) (pairs seen) wrong (lacks_pairs seen) lacks_wrong)

plain_signal : (cause h : ℕ) → is_shown (cut (((fault_signal cause ++ codes "thread:") ++ thread_name h) ++ codes ";")) ≡ false
plain_signal cause h =
    let P = λ (x : List ℕ). is_shown (cut (((x ++ codes "thread:") ++ thread_name h) ++ codes ";")) ≡ false in
    by_test P ((cause == 0) || ((cause == 4) || ((cause == 6) || (cause == 19)))) (codes "T0a")
    (if cause == 2 then codes "T04" else if cause == 3 then codes "T05" else if cause == 20 then codes "T06" else codes "T0b") refl
    (by_test P (cause == 2) (codes "T04") (if cause == 3 then codes "T05" else if cause == 20 then codes "T06" else codes "T0b") refl
    (by_test P (cause == 3) (codes "T05") (if cause == 20 then codes "T06" else codes "T0b") refl
    (by_test P (cause == 20) (codes "T06") (codes "T0b") refl refl)))

pub plain_about : (v : View) (h : Option ℕ) → is_shown (cut (about_hart v h)) ≡ false
plain_about v None = refl
plain_about v (Some h) = plain_cut (about_hart v (Some h)) (lacks_pairs (document_text v.flat v.known (D.Hart h v.next)))

pub plain_stop : (kept : ℕ) (stop : Stop) → is_shown (cut (stop_text kept stop)) ≡ false
plain_stop kept (S.Breaks h) = refl
plain_stop kept (S.Faults h None) = refl
plain_stop kept (S.Faults h (Some (N.Fault step hart domain pc fault))) = plain_signal fault.cause h
plain_stop kept (S.Faults h (Some (N.Exit step hart domain code))) = refl
plain_stop kept (S.Steps h) = refl
plain_stop kept S.Ends = refl
plain_stop kept S.Begins = refl
plain_stop kept S.Pauses = refl

pub plain_current : (h : ℕ) → is_shown (cut (codes "QC" ++ thread_name h)) ≡ false
plain_current h = refl

pub plain_threads : (harts : ℕ) → is_shown (cut (threads_text harts)) ≡ false
plain_threads harts = refl

plain_mark : (b : Bool) → ((if b then 109 else 108) == 79) ≡ false
plain_mark true = refl
plain_mark false = refl

pub plain_window : (text : List ℕ) (at count : ℕ) → is_shown (cut (window_text text at count)) ≡ false
plain_window text at count =
    let part = take (min count 4000) (drop at text) in
    plain_first (window_mark (at + length part) (length text)) (take 4095 part) (plain_mark (nat_lt (at + length part) (length text)))
