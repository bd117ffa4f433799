-- A snapshot's bytes hold what they are spelled from.
use Rattle.std.proofs.Common.{◌≡◌, ℕ, ◌≤◌, Bool, true, false, nat_lt, List, [], ◌++◌, length, refl, sym, ap, ◌∙◌, subst, arith, ltb-false}
use Rattle.std.proofs.Common.{drop_of_length-le, if◌then◌else◌}
use Rattle.std.proofs.lemmas.List.{append-nil}
use Rattle.mx_words.specs.Limits.{most_snapshot_bytes}
use Rattle.mx_snapshot.proofs.CodecFound.{fields-recover}
use Rattle.mx_snapshot.proofs.CodecRead.{fields-read}
use Rattle.mx_snapshot.specs.Fields.{fields_in, stored_in, to_the_end}
use Rattle.mx_snapshot.specs.Fits.{AreBytes, IsStored}
use Rattle.mx_snapshot.specs.Reader.{Taken, Took, Fails}
use Rattle.mx_snapshot.specs.Spelling.{spelling}
use Rattle.mx_snapshot.specs.Stored.{Stored}

not_below : (a b : ℕ) → b ≤ a → nat_lt a b ≡ false
not_below a b le = search (arith, le)

pub stored-read : (s : Stored) → IsStored s → length (spelling s) ≤ most_snapshot_bytes
    → stored_in (spelling s) ≡ Took s (length (spelling s))
unfolding stored_in
stored-read s f le =
    let bytes = spelling s in
    let took : fields_in bytes 0 ≡ Took s (length bytes) =
    ap (λ (bs : List ℕ). fields_in bs 0) (sym (append-nil bytes)) ∙ (fields-read s f).at [] [] in
    search (arith, not_below)

-- what was read to the end of the bytes
record Ended (bytes : List ℕ) (s : Stored) (n : ℕ) : Type 0 where
  few : length bytes ≤ most_snapshot_bytes
  took : fields_in bytes 0 ≡ Took s n
  whole : length bytes ≤ n

to_the_end_took : (bytes : List ℕ) (x : Taken Stored) (s : Stored) (n : ℕ) → to_the_end bytes x ≡ Took s n
    → (x ≡ Took s n) × (length bytes ≤ n)
to_the_end_took bytes (Fails at fault) s n e = absurd cc
to_the_end_took bytes (Took t after) s n e = chosen (nat_lt after (length bytes)) refl e where
  same_end : (s t : Stored) (n after : ℕ) → Took t after ≡ Took s n → after ≡ n
  same_end s t n after h = cc

  chosen : (c : Bool) → nat_lt after (length bytes) ≡ c → (if c then Fails after 5 else Took t after) ≡ Took s n
      → (Took t after ≡ Took s n) × (length bytes ≤ n)
  chosen true was h = absurd cc
  chosen false was h = (h, omega (arith, ltb-false after (length bytes) was, same_end s t n after h))

stored_took : (bytes : List ℕ) (s : Stored) (n : ℕ) → stored_in bytes ≡ Took s n → Ended bytes s n
unfolding stored_in
stored_took bytes s n e = chosen (nat_lt most_snapshot_bytes (length bytes)) refl e where
  chosen : (c : Bool) → nat_lt most_snapshot_bytes (length bytes) ≡ c
      → (if c then Fails 0 1 else to_the_end bytes (fields_in bytes 0)) ≡ Took s n → Ended bytes s n
  chosen true was h = absurd cc
  chosen false was h = let p = to_the_end_took bytes (fields_in bytes 0) s n h in
      record { few = ltb-false most_snapshot_bytes (length bytes) was; took = p.0; whole = p.1 }

pub stored-valid : (bytes : List ℕ) (s : Stored) (n : ℕ) → AreBytes bytes → stored_in bytes ≡ Took s n → IsStored s
stored-valid bytes s n are e = fields-recover.fit bytes 0 s n are (stored_took bytes s n e).took

pub stored-spelled : (bytes : List ℕ) (s : Stored) (n : ℕ) → AreBytes bytes → stored_in bytes ≡ Took s n → bytes ≡ spelling s
stored-spelled bytes s n are e =
    let p = stored_took bytes s n e in
    fields-recover.is bytes 0 s n are p.took
    ∙ ap (λ (rest : List ℕ). spelling s ++ rest) (drop_of_length-le bytes p.whole) ∙ append-nil (spelling s)

pub stored-whole : (bytes : List ℕ) (s : Stored) (n : ℕ) → AreBytes bytes → stored_in bytes ≡ Took s n → n ≡ length bytes
stored-whole bytes s n are e =
    let p = stored_took bytes s n e in
    let is = stored-spelled bytes s n are e in
    let few = subst (λ (bs : List ℕ). length bs ≤ most_snapshot_bytes) is p.few in
    let again : stored_in bytes ≡ Took s (length bytes) = subst (λ (bs : List ℕ). stored_in bs ≡ Took s (length bs)) (sym is)
    (stored-read s (stored-valid bytes s n are e) few) in
    same_end n (length bytes) (sym e ∙ again) where
      same_end : (n m : ℕ) → Took s n ≡ Took s m → n ≡ m
      same_end n m h = cc
