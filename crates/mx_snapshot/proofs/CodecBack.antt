-- What is read was spelled: the parts of readers.
use Rattle.std.proofs.Common.{◌≡◌, ℕ, zero, suc, ◌+◌, ◌*◌, ◌/◌, ◌%◌, ◌^◌, ◌<◌, ◌≤◌, Bool, true, false, nat_le, List, [], ◌∷◌, ◌++◌, length}
use Rattle.std.proofs.Common.{take, drop, get_or, refl, sym, ap, ◌∙◌, subst, arith, append_assoc, length-drop, length-take-le, leb-true}
use Rattle.std.proofs.Common.{take-append-drop, drop-drop, drop-cons, if◌then◌else◌}
use Rattle.std.specs.Prelude.{flat_map}
use Rattle.std.proofs.lemmas.List.{append-nil}
use Rattle.mx_words.specs.Bytes.{number_at}
use Rattle.mx_image.specs.Image.{little_endian}
use Rattle.mx_snapshot.proofs.CodecParts.{Holds}
use Rattle.mx_snapshot.specs.Fits.{AreBytes, EachFits}
use Rattle.mx_snapshot.specs.Reader.{Taken, Took, Fails, Reader, ◌>>=◌, done, goes_on, list_of, meant, number, number_of, piece, such_or}
use Rattle.mx_snapshot.specs.Reader.{tested}

-- of what is read a property holds and of the bytes that were read
pub record Told {A : Type 0} (Q : A → List ℕ → Type 0) (bytes : List ℕ) (at : ℕ) (a : A) (after : ℕ) : Type 0 where
  pub part : List ℕ
  pub holds : Q a part
  pub is : drop at bytes ≡ part ++ drop after bytes

pub record Tells {A : Type 0} (reader : Reader A) (Q : A → List ℕ → Type 0) : Type 0 where
  pub at : (bytes : List ℕ) (at : ℕ) (a : A) (after : ℕ) → AreBytes bytes → reader bytes at ≡ Took a after → Told Q bytes at a after

-- what is read fits, and the bytes that were read are its spelling
pub record Recovers {A : Type 0} (reader : Reader A) (spell : A → List ℕ) (fits : A → Type 0) : Type 0 where
  pub fit : (bytes : List ℕ) (at : ℕ) (a : A) (after : ℕ) → AreBytes bytes → reader bytes at ≡ Took a after → fits a
  pub is : (bytes : List ℕ) (at : ℕ) (a : A) (after : ℕ) → AreBytes bytes → reader bytes at ≡ Took a after
      → drop at bytes ≡ spell a ++ drop after bytes

same_taken : {A : Type 0} (a b : A) (n m : ℕ) → Took a n ≡ Took b m → a ≡ b
same_taken a b n m e = cc

same_place : {A : Type 0} (a b : A) (n m : ℕ) → Took a n ≡ Took b m → n ≡ m
same_place a b n m e = cc

not_taken : {A : Type 0} (a : A) (n at fault : ℕ) → Fails at fault ≡ Took a n → ⊥
not_taken a n at fault e = absurd cc

pub recovers : {A : Type 0} {reader : Reader A} {spell : A → List ℕ} {fits : A → Type 0} → Tells reader (λ a s. fits a × (s ≡ spell a))
    → Recovers reader spell fits
recovers t = record {
  fit = λ bytes at a after are e. (t.at bytes at a after are e).holds.0;
  is = λ bytes at a after are e. let k = t.at bytes at a after are e in k.is ∙ ap (λ (s : List ℕ). s ++ drop after bytes) k.holds.1;
}

pub tells_done : {A : Type 0} (a : A) (Q : A → List ℕ → Type 0) → Q a [] → Tells (done a) Q
tells_done a Q q = record {
  at = λ bytes at b after are e. record {
    part = [];
    holds = subst (λ x. Q x []) (same_taken a b at after e) q;
    is = ap (λ (k : ℕ). drop k bytes) (same_place a b at after e);
  };
}

pub tells_next : {A B : Type 0} {reader : Reader A} (next : A → Reader B) {Q : B → List ℕ → Type 0} {spell : A → List ℕ} {fits : A → Type 0}
    → Recovers reader spell fits → ((a : A) → fits a → Tells (next a) (λ b t. Q b (spell a ++ t))) → Tells (reader >>= next) Q
tells_next {A = A} {B = B} {reader = reader} next {Q = Q} {spell = spell} {fits = fits} r n =
    record { at = λ bytes at b after are e. step bytes at b after are (reader bytes at) refl e } where
      step : (bytes : List ℕ) (at : ℕ) (b : B) (after : ℕ) → AreBytes bytes → (x : Taken A) → reader bytes at ≡ x
          → goes_on next bytes x ≡ Took b after → Told Q bytes at b after
      step bytes at b after are (Took a mid) was e =
          let k = (n a (r.fit bytes at a mid are was)).at bytes mid b after are e in
          record {
            part = spell a ++ k.part;
            holds = k.holds;
            is = r.is bytes at a mid are was ∙ ap (λ (s : List ℕ). spell a ++ s) k.is
                ∙ sym (append_assoc (spell a) k.part (drop after bytes));
          }
      step bytes at b after are (Fails place fault) was e = absurd (not_taken b after place fault e)

-- the same bytes by another spelling, and another property
pub recovers_as : {A : Type 0} {reader : Reader A} {spell other : A → List ℕ} {fits good : A → Type 0}
    → ((a : A) → fits a → good a × (spell a ≡ other a)) → Recovers reader spell fits → Recovers reader other good
recovers_as turn r = record {
  fit = λ bytes at a after are e. (turn a (r.fit bytes at a after are e)).0;
  is = λ bytes at a after are e. r.is bytes at a after are e ∙ ap (λ (s : List ℕ). s ++ drop after bytes)
      (turn a (r.fit bytes at a after are e)).1;
}

passed : {A : Type 0} (fault : ℕ) (test : A → Bool) (at : ℕ) (a : A) (after : ℕ) (x : Taken A) → tested fault test at x ≡ Took a after
    → (x ≡ Took a after) × (test a ≡ true)
passed fault test at a after x e = grind (arith, same_taken, not_taken)

pub recovers_such : {A : Type 0} (fault : ℕ) (test : A → Bool) {reader : Reader A} {spell : A → List ℕ} {fits : A → Type 0}
    → Recovers reader spell fits → Recovers (such_or fault test reader) spell (λ a. fits a × (test a ≡ true))
recovers_such fault test {reader = reader} r = record {
  fit = λ bytes at a after are e. let p = passed fault test at a after (reader bytes at) e in (r.fit bytes at a after are p.0, p.1);
  is = λ bytes at a after are e. let p = passed fault test at a after (reader bytes at) e in r.is bytes at a after are p.0;
}

pub recovers_meant : {A B : Type 0} (f : A → B) {reader : Reader A} {spell : A → List ℕ} {fits : A → Type 0} (other : B → List ℕ) (good : B
    → Type 0)
    → ((a : A) → fits a → good (f a) × (spell a ≡ other (f a))) → Recovers reader spell fits → Recovers (meant f reader) other good
recovers_meant f {spell = spell} other good turn r =
    recovers (tells_next _ r (λ a h. tells_done (f a) (λ b t. good b × (spell a ++ t ≡ other b)) (
      (turn a h).0,
      append-nil (spell a)
          ∙ (turn a h).1,
    )))

byte_below : (bytes : List ℕ) (i : ℕ) → AreBytes bytes → get_or bytes i 0 < 256
byte_below [] i are = omega arith
byte_below (b ∷ bs) zero are = are.0
byte_below (b ∷ bs) (suc i) are = byte_below bs i are.1

number-holds : (size : ℕ) (bytes : List ℕ) (at : ℕ) → AreBytes bytes → Holds size (number_at bytes at size)
unfolding number_at
number-holds zero bytes at are = refl
number-holds (suc size) bytes at are =
    let low = byte_below bytes at are in
    let high : number_at bytes (at + 1) size ≡ (get_or bytes at 0 + 256 * number_at bytes (at + 1) size) / 256 = omega (arith, low) in
    subst (Holds size) high (number-holds size bytes (at + 1) are)

number-spelled : (size : ℕ) (bytes : List ℕ) (at : ℕ) → AreBytes bytes → at + size ≤ length bytes
    → drop at bytes ≡ little_endian size (number_at bytes at size) ++ drop (at + size) bytes
unfolding number_at
number-spelled zero bytes at are le = ap (λ (k : ℕ). drop k bytes) (omega arith)
number-spelled (suc size) bytes at are le =
    let low = byte_below bytes at are in
    let m = number_at bytes (at + 1) size in
    let next : suc at ≡ at + 1 = omega arith in
    let end : at + 1 + size ≡ at + suc size = omega arith in
    let low_is : get_or bytes at 0 ≡ (get_or bytes at 0 + 256 * m) % 256 = omega (arith, low) in
    let high : m ≡ (get_or bytes at 0 + 256 * m) / 256 = omega (arith, low) in
    drop-cons bytes at 0 (omega (arith, le))
    ∙ ap (λ (k : ℕ). get_or bytes at 0 ∷ drop k bytes) next
    ∙ ap (λ (t : List ℕ). get_or bytes at 0 ∷ t) (number-spelled size bytes (at + 1) are (omega (arith, le)))
    ∙ ap (λ (k : ℕ). get_or bytes at 0 ∷ (little_endian size m ++ drop k bytes)) end
    ∙ ap (λ (k : ℕ). k ∷ (little_endian size m ++ drop (at + suc size) bytes)) low_is
    ∙ ap (λ (k : ℕ). (get_or bytes at 0 + 256 * m) % 256 ∷ (little_endian size k ++ drop (at + suc size) bytes)) high

-- a field that lies in the file
record Lies {A : Type 0} (there : A) (at size : ℕ) (bytes : List ℕ) (a : A) (after : ℕ) : Type 0 where
  fits : at + size ≤ length bytes
  value : there ≡ a
  end : at + size ≡ after

lies : {A : Type 0} (there : A) (at size : ℕ) (bytes : List ℕ) (a : A) (after : ℕ)
    → (if nat_le (at + size) (length bytes) then Took there (at + size) else Fails at 2) ≡ Took a after → Lies there at size bytes a after
lies {A} there at size bytes a after e = chosen (nat_le (at + size) (length bytes)) refl e where
  chosen : (c : Bool) → nat_le (at + size) (length bytes) ≡ c → (if c then Took there (at + size) else Fails at 2) ≡ Took a after
      → Lies there at size bytes a after
  chosen true was h = record { fits = leb-true _ _ was; value = same_taken there a _ _ h; end = same_place there a _ _ h }
  chosen false was h = absurd (not_taken a after at 2 h)

pub recovers_number : (size : ℕ) → Recovers (number_of size) (little_endian size) (Holds size)
recovers_number size = search (arith, lies, number-holds, number-spelled)

pub recovers_four : Recovers number (little_endian 4) (λ n. n < 2 ^ 32)
recovers_four = recovers_as (λ n h. (omega (arith, h), refl)) (recovers_number 4)

are_dropped : (bytes : List ℕ) (n : ℕ) → AreBytes bytes → AreBytes (drop n bytes)
are_dropped bytes zero are = are
are_dropped [] (suc n) are = are
are_dropped (b ∷ bs) (suc n) are = are_dropped bs n are.1

are_taken : (bytes : List ℕ) (n : ℕ) → AreBytes bytes → AreBytes (take n bytes)
are_taken bytes zero are = tt
are_taken [] (suc n) are = are
are_taken (b ∷ bs) (suc n) are = (are.0, are_taken bs n are.1)

pub recovers_piece : (size : ℕ) → Recovers (piece size) (λ s. s) (λ s. (length s ≡ size) × AreBytes s)
recovers_piece size = record {
  fit = λ bytes at a after are e. let l = lies (take size (drop at bytes)) at size bytes a after e in
      subst (λ (s : List ℕ). (length s ≡ size) × AreBytes s) l.value (
        length-take-le size (drop at bytes) (omega (arith, l.fits, length-drop at bytes)),
        are_taken (drop at bytes) size
            (are_dropped bytes at are),
      );
  is = λ bytes at a after are e. let l = lies (take size (drop at bytes)) at size bytes a after e in
      sym (take-append-drop size (drop at bytes)) ∙ ap (λ (s : List ℕ). s ++ drop size (drop at bytes)) l.value
      ∙ ap (λ (s : List ℕ). a ++ s) (drop-drop size at bytes ∙ ap (λ (k : ℕ). drop k bytes) l.end);
}

-- of a list the items behind those before them
pub record IsListed {A : Type 0} (spell : A → List ℕ) (fits : List A → A → Type 0) (n : ℕ) (before ys : List A) (s : List ℕ) : Type 0 where
  pub items : List A
  pub all : ys ≡ before ++ items
  pub count : length items ≡ n
  pub fit : EachFits fits before items
  pub is : s ≡ flat_map spell items

tells_list : {A : Type 0} (spell : A → List ℕ) (fits : List A → A → Type 0) (item : List A → Reader A)
    → ((before : List A) → Recovers (item before) spell (fits before))
    → (n : ℕ) (before : List A) → Tells (list_of n item before) (IsListed spell fits n before)
tells_list spell fits item each zero before = tells_done before (IsListed spell fits zero before)
    (record { items = []; all = sym (append-nil before); count = refl; fit = tt; is = refl })
tells_list spell fits item each (suc n) before = tells_next _ (each before) (λ a f.
    let rest = tells_list spell fits item each n (before ++ a ∷ []) in
    record {
      at = λ bytes at ys after are e.
          let k = rest.at bytes at ys after are e in
          record {
            part = k.part;
            holds = record {
              items = a ∷ k.holds.items;
              all = k.holds.all ∙ append_assoc before (a ∷ []) k.holds.items;
              count = ap suc k.holds.count;
              fit = (f, k.holds.fit);
              is = ap (λ (s : List ℕ). spell a ++ s) k.holds.is;
            };
            is = k.is;
          };
    })

pub recovers_list : {A : Type 0} (spell : A → List ℕ) (fits : List A → A → Type 0) (item : List A → Reader A)
    → ((before : List A) → Recovers (item before) spell (fits before))
    → (n : ℕ) → Recovers (list_of n item []) (flat_map spell) (λ xs. (length xs ≡ n) × EachFits fits [] xs)
recovers_list spell fits item each n = recovers (record {
  at = λ bytes at ys after are e.
      let k = (tells_list spell fits item each n []).at bytes at ys after are e in
      record {
        part = k.part;
        holds = (
          (ap length k.holds.all ∙ k.holds.count, subst (EachFits fits []) (sym k.holds.all) k.holds.fit),
          k.holds.is
              ∙ ap (flat_map spell) (sym k.holds.all),
        );
        is = k.is;
      };
})
