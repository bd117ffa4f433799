-- Talks, byte by byte and piece by piece.
use Rattle.std.proofs.Common.{◌≡◌, ℕ, suc, ◌+◌, ◌<◌, Bool, true, false, List, [], ◌∷◌, ◌++◌, drop, length, map, get_or, Result, Ok, Err}
use Rattle.std.proofs.Common.{refl, sym, ap, subst, ◌∙◌, arith, append_assoc, if◌then◌else◌}
use Rattle.std.proofs.lemmas.List.{append-nil}
use Rattle.std.proofs.Math.Seq.{drop-cons}
use Rattle.mx_model.specs.State.{Flat}
use Rattle.mx_packets.specs.Lines.{Fails, Speaks}
use Rattle.mx_packets.proofs.LineLaws.{fails_before, fails_behind, speaks_more, speaks_nothing}
use Rattle.mx_debug.specs.declared.reply.Next.{Next}
use Rattle.mx_debug.specs.Ended.{Replies}
use Rattle.mx_debug.specs.Looks.{IsAt}
use Rattle.mx_debug.specs.Replies.{Reply}
use Rattle.mx_debug.specs.Session.{Looked, Session}
use Rattle.mx_debug.specs.Talking.{HasTalked, IsSaidByte, IsTalkLost, IsTalkedTo}
use Rattle.mx_debug.specs.Talks.{Byte, Talk, bytes_of, reply_byte, said_to, talk_after, talk_byte}

-- a reply with something in front of it
abbrev pub behind : List ℕ → Reply → Reply
behind front r = record { said = front ++ r.said; session = r.session; leaves = r.leaves }

pub replies_behind : {L E : Type 0} (says : L → List ℕ → L → Type 0) (room : L
    → ℕ) (q : Looked) (l k m : L) (front : List ℕ) (r : Reply) (s : Session) (machine : Flat) (result : Result Next E)
    → Speaks says room l front k → Replies says room q r s machine k m result → Replies says room q (behind front r) s machine l m result
replies_behind says room q l k m front r s machine (Ok next) one two =
    record { session = two.session; leaves = two.leaves; place = two.place; said = speaks_more says room l k m front r.said one two.said }
replies_behind says room q l k m front r s machine (Err e) one two = fails_behind says room l k m front r.said one two

-- nothing more is said once the session was left
pub left_talk : (q : Looked) (t : Talk) (rest : List Byte) → t.left ≡ true → talk_after q t rest ≡ t
left_talk q t [] e = refl
left_talk q t (b ∷ more) e = rw e refl

pub left_said : (q : Looked) (t : Talk) (rest : List Byte) → t.left ≡ true → said_to q t rest ≡ []
left_said q t [] e = refl
left_said q t (b ∷ more) e = rw e refl

pub next_talk : (q : Looked) (t : Talk) (b : Byte) (more : List Byte) → t.left ≡ false
    → talk_after q t (b ∷ more) ≡ talk_after q (talk_byte q t b) more
next_talk q t b more e = ap (λ (x : Bool). if x then t else talk_after q (talk_byte q t b) more) e

pub next_said : (q : Looked) (t : Talk) (b : Byte) (more : List Byte) → t.left ≡ false
    → said_to q t (b ∷ more) ≡ (reply_byte q t b).said ++ said_to q (talk_byte q t b) more
next_said q t b more e = ap (λ (x : Bool). if x then [] else (reply_byte q t b).said ++ said_to q (talk_byte q t b) more) e

pub one_byte : (bytes : List ℕ) (i : ℕ) → i < length bytes → drop i bytes ≡ get_or bytes i 0 ∷ drop (i + 1) bytes
one_byte bytes i few = let e : suc i ≡ i + 1 = omega arith in drop-cons bytes i 0 few ∙ ap (λ j. get_or bytes i 0 ∷ drop j bytes) e

-- bytes at which memory isn't wanting
abbrev pub plain : List ℕ → List Byte
plain bytes = map (λ b. (b, false)) bytes

pub bytes_plain : (bytes : List ℕ) → bytes_of (plain bytes) ≡ bytes
bytes_plain [] = refl
bytes_plain (b ∷ more) = ap (λ (t : List ℕ). b ∷ t) (bytes_plain more)

pub bytes_more : (a b : List Byte) → bytes_of (a ++ b) ≡ bytes_of a ++ bytes_of b
bytes_more [] b = refl
bytes_more (x ∷ a) b = ap (λ (t : List ℕ). x.0 ∷ t) (bytes_more a b)

pub talk_begins : {L : Type 0} (says : L → List ℕ → L → Type 0) (room : L → ℕ) (q : Looked) (t : Talk) (f : Flat) (l : L)
    → IsAt q t.session.made f → HasTalked says room q t [] t f l l
talk_begins says room q t f l at = record {
  bytes = [];
  heard = refl;
  front = [];
  place = at;
  said = speaks_nothing says room l;
  all = λ rest. refl;
  talk = λ rest. refl;
}

module _ {L : Type 0} (says : L → List ℕ → L → Type 0) (room : L
    → ℕ) (q : Looked) (t : Talk) (begun : List ℕ) (now : Talk) (f : Flat) (l k : L) (h : HasTalked says room q t begun now f l k) where
  pub talked_left : (piece rest : List ℕ) → now.left ≡ true → begun ++ rest ≡ piece → IsTalkedTo says room q t piece now f l k
  talked_left piece rest e whole = record {
    bytes = h.bytes ++ plain rest;
    heard = bytes_more h.bytes (plain rest) ∙ ap (λ (x : List ℕ). x ++ bytes_of (plain rest)) h.heard
        ∙ ap (λ (x : List ℕ). begun ++ x) (bytes_plain rest) ∙ whole;
    talk = sym (h.talk (plain rest) ∙ left_talk q now (plain rest) e);
    place = h.place;
    said = subst (λ (x : List ℕ). Speaks says room l x k) (sym (h.all (plain rest)
        ∙ ap (λ (x : List ℕ). h.front ++ x) (left_said q now (plain rest) e) ∙ append-nil h.front)) h.said;
  }

  pub talked_all : (piece : List ℕ) → begun ≡ piece → IsTalkedTo says room q t piece now f l k
  talked_all piece whole = record {
    bytes = h.bytes ++ [];
    heard = ap bytes_of (append-nil h.bytes) ∙ h.heard ∙ whole;
    talk = sym (h.talk []);
    place = h.place;
    said = subst (λ (x : List ℕ). Speaks says room l x k) (sym (h.all [] ∙ append-nil h.front)) h.said;
  }

  module _ (going : now.left ≡ false) (b : Byte) where
    one_all : (rest : List Byte) → said_to q t ((h.bytes ++ b ∷ []) ++ rest) ≡ (h.front ++ (reply_byte q now b).said)
        ++ said_to q (talk_byte q now b) rest
    one_all rest =
        ap (said_to q t) (append_assoc h.bytes (b ∷ []) rest) ∙ h.all (b ∷ rest)
        ∙ ap (λ (x : List ℕ). h.front ++ x) (next_said q now b rest going)
        ∙ sym (append_assoc h.front (reply_byte q now b).said (said_to q (talk_byte q now b) rest))

    one_heard : bytes_of (h.bytes ++ b ∷ []) ≡ begun ++ b.0 ∷ []
    one_heard = bytes_more h.bytes (b ∷ []) ∙ ap (λ (x : List ℕ). x ++ b.0 ∷ []) h.heard

    pub talked_more : (later : List ℕ) → begun ++ b.0 ∷ [] ≡ later → (new : Talk) (g : Flat) (m : L)
        → IsSaidByte says room q now b new g k m → HasTalked says room q t later new g l m
    talked_more later whole new g m one = record {
      bytes = h.bytes ++ b ∷ [];
      heard = one_heard ∙ whole;
      front = h.front ++ (reply_byte q now b).said;
      place = one.place;
      said = speaks_more says room l k m h.front (reply_byte q now b).said h.said one.said;
      all = λ rest. one_all rest ∙ ap (λ (u : Talk). (h.front ++ (reply_byte q now b).said) ++ said_to q u rest) (sym one.talk);
      talk = λ rest. ap (talk_after q t) (append_assoc h.bytes (b ∷ []) rest) ∙ h.talk (b ∷ rest) ∙ next_talk q now b rest going
          ∙ ap (λ (u : Talk). talk_after q u rest) (sym one.talk);
    }

    pub talk_fails : (piece rest : List ℕ) → begun ++ b.0 ∷ rest ≡ piece → (m : L) → Fails says room k (reply_byte q now b).said m
        → IsTalkLost says room q t piece l m
    talk_fails piece rest whole m one = record {
      bytes = (h.bytes ++ b ∷ []) ++ plain rest;
      heard = bytes_more (h.bytes ++ b ∷ []) (plain rest) ∙ ap (λ (x : List ℕ). x ++ bytes_of (plain rest)) one_heard
          ∙ ap (λ (x : List ℕ). (begun ++ b.0 ∷ []) ++ x) (bytes_plain rest)
          ∙ append_assoc begun (b.0 ∷ []) rest ∙ whole;
      fails = subst (λ (x : List ℕ). Fails says room l x m) (sym (one_all (plain rest)))
          (fails_before says room l m (h.front ++ (reply_byte q now b).said) (said_to q (talk_byte q now b) (plain rest))
          (fails_behind says room l k m h.front (reply_byte q now b).said h.said one));
    }
