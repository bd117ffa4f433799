-- What is spelled is read: the parts of readers.
use Rattle.std.proofs.Common.{◌≡◌, ℕ, zero, suc, ◌+◌, ◌/◌, ◌%◌, ◌^◌, ◌<◌, ◌≤◌, Bool, true, nat_le, List, [], ◌∷◌, ◌++◌, length, take, drop}
use Rattle.std.proofs.Common.{refl, sym, ap, ◌∙◌, subst, arith, append_assoc, length-append, le-leb, if◌then◌else◌}
use Rattle.std.specs.Prelude.{flat_map}
use Rattle.std.proofs.lemmas.List.{append-nil, take_at, drop_at}
use Rattle.mx_words.specs.Bytes.{number_at}
use Rattle.mx_image.specs.Image.{little_endian}
use Rattle.mx_image.proofs.Fields.{number-behind}
use Rattle.mx_snapshot.specs.Fits.{EachFits}
use Rattle.mx_snapshot.specs.Reader.{Took, Fails, Reader, ◌>>=◌, done, goes_on, list_of, meant, number, number_of, piece, such_or, tested}

-- a value is read from its spelling, at any place and with anything behind it
pub record Reads {A : Type 0} (reader : Reader A) (spelled : List ℕ) (a : A) : Type 0 where
  pub at : (front rest : List ℕ) → reader (front ++ (spelled ++ rest)) (length front) ≡ Took a (length (front ++ spelled))

pub reads_done : {A : Type 0} (a : A) → Reads (done a) [] a
reads_done a = record { at = λ front rest. ap (λ (bs : List ℕ). Took a (length bs)) (sym (append-nil front)) }

pub reads_next : {A B : Type 0} {reader : Reader A} (next : A → Reader B) {u s t : List ℕ} {a : A} {b : B} → Reads reader s a → u ≡ s ++ t
    → Reads (next a) t b → Reads (reader >>= next) u b
reads_next {reader = reader} next {u = u} {s = s} {t = t} {a = a} {b = b} r e n = record {
  at = λ front rest.
      ap (λ (bs : List ℕ). (reader >>= next) (front ++ (bs ++ rest)) (length front)) e
      ∙ ap (λ (bs : List ℕ). (reader >>= next) (front ++ bs) (length front)) (append_assoc s t rest)
      ∙ ap (goes_on next (front ++ (s ++ (t ++ rest)))) (r.at front (t ++ rest))
      ∙ ap (λ (bs : List ℕ). next a bs (length (front ++ s))) (sym (append_assoc front s (t ++ rest)))
      ∙ n.at (front ++ s) rest
      ∙ ap (λ (bs : List ℕ). Took b (length bs)) (append_assoc front s t)
      ∙ ap (λ (bs : List ℕ). Took b (length (front ++ bs))) (sym e);
}

pub reads_such : {A : Type 0} (fault : ℕ) (test : A → Bool) {reader : Reader A} {s : List ℕ} {a : A} → Reads reader s a → test a ≡ true
    → Reads (such_or fault test reader) s a
reads_such fault test {s = s} {a = a} r e = record {
  at = λ front rest.
      ap (tested fault test (length front)) (r.at front rest)
      ∙ ap (λ (c : Bool). if c then Took a (length (front ++ s)) else Fails (length front) fault) e;
}

pub reads_meant : {A B : Type 0} (f : A → B) {reader : Reader A} {s : List ℕ} {a : A} {b : B} → Reads reader s a → f a ≡ b
    → Reads (meant f reader) s b
reads_meant f {s = s} {a = a} r e = record {
  at = λ front rest.
      ap (goes_on (λ x. done (f x)) (front ++ (s ++ rest))) (r.at front rest)
      ∙ ap (λ x. Took x (length (front ++ s))) e;
}

within : (front part rest : List ℕ) (size : ℕ) → length part ≡ size → nat_le (length front + size) (length (front ++ (part ++ rest))) ≡ true
within front part rest size e = le-leb _ _ (omega (arith, length-append front (part ++ rest), length-append part rest, e))

pub reads_piece : (s : List ℕ) (size : ℕ) → length s ≡ size → Reads (piece size) s s
reads_piece s size e = record {
  at = λ front rest.
      ap (λ (c : Bool). if c then Took (take size (drop (length front) (front ++ (s ++ rest)))) (length front + size) else Fails
      (length front) 2) (within front s rest size e)
      ∙ ap (λ (bs : List ℕ). Took (take size bs) (length front + size)) (drop_at front (s ++ rest) (length front) refl)
      ∙ ap (λ (bs : List ℕ). Took bs (length front + size)) (take_at s rest size e)
      ∙ ap (Took s) (ap (λ (k : ℕ). length front + k) (sym e) ∙ sym (length-append front s));
}

-- a number that so many bytes hold
abbrev pub Holds : ℕ → ℕ → Type 0
Holds zero n = n ≡ 0
Holds (suc size) n = Holds size (n / 256)

pub spelled-length : (size n : ℕ) → length (little_endian size n) ≡ size
spelled-length zero n = refl
spelled-length (suc size) n = ap suc (spelled-length size (n / 256))

number-front : (size n : ℕ) (rest : List ℕ) → Holds size n → number_at (little_endian size n ++ rest) 0 size ≡ n
unfolding number_at
number-front zero n rest h = sym h
number-front (suc size) n rest h =
    let behind : number_at (n % 256 ∷ (little_endian size (n / 256) ++ rest)) 1 size ≡ n / 256 =
    number-behind (n % 256 ∷ []) (little_endian size (n / 256) ++ rest) 0 size ∙ number-front size (n / 256) rest h in
    rw behind (omega arith)

pub reads_number : (size n : ℕ) → Holds size n → Reads (number_of size) (little_endian size n) n
reads_number size n h = record {
  at = λ front rest.
      let s = little_endian size n in
      let here : number_at (front ++ (s ++ rest)) (length front) size ≡ n =
      ap (λ (k : ℕ). number_at (front ++ (s ++ rest)) k size) (omega arith) ∙ number-behind front (s ++ rest) 0 size
      ∙ number-front size n rest h in
      ap (λ (c : Bool). if c then Took (number_at (front ++ (s ++ rest)) (length front) size) (length front + size) else Fails
      (length front) 2) (within front s rest size (spelled-length size n))
      ∙ ap (λ (k : ℕ). Took k (length front + size)) here
      ∙ ap (Took n) (ap (λ (k : ℕ). length front + k) (sym (spelled-length size n)) ∙ sym (length-append front s));
}

pub reads_four : (n : ℕ) → n < 2 ^ 32 → Reads number (little_endian 4 n) n
reads_four n lt = reads_number 4 n (omega arith)

pub reads_eight : (n : ℕ) → n ≤ 9223372036854775807 → Reads (number_of 8) (little_endian 8 n) n
reads_eight n le = reads_number 8 n (omega arith)

-- each item of a list, by those before it
pub reads_each : {A : Type 0} (spell : A → List ℕ) (fits : List A → A → Type 0) (item : List A → Reader A)
    → ((before : List A) (x : A) → fits before x → Reads (item before) (spell x) x)
    → (xs before : List A) → EachFits fits before xs → Reads (list_of (length xs) item before) (flat_map spell xs) (before ++ xs)
reads_each spell fits item each [] before f = subst (Reads (done before) []) (sym (append-nil before)) (reads_done before)
reads_each spell fits item each (x ∷ xs) before f =
    subst (Reads (list_of (length (x ∷ xs)) item before) (flat_map spell (x ∷ xs))) (append_assoc before (x ∷ []) xs)
    (reads_next _ (each before x f.0) refl (reads_each spell fits item each xs (before ++ x ∷ []) f.1))

pub reads_list : {A : Type 0} (spell : A → List ℕ) (fits : List A → A → Type 0) (item : List A → Reader A)
    → ((before : List A) (x : A) → fits before x → Reads (item before) (spell x) x)
    → (xs : List A) (n : ℕ) → length xs ≡ n → EachFits fits [] xs → Reads (list_of n item []) (flat_map spell xs) xs
reads_list spell fits item each xs n e f = subst (λ (k : ℕ). Reads (list_of k item []) (flat_map spell xs) xs) e
    (reads_each spell fits item each xs [] f)
