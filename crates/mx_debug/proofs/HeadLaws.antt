-- What a line that tells has of a talk.
use Rattle.std.proofs.Common.{◌≡◌, ℕ, Bool, true, false, List, [], ◌∷◌, ◌++◌, Result, Ok, Err, refl, sym, ap, ◌∙◌, append_assoc}
use Rattle.std.specs.List.{concat}
use Rattle.std.proofs.lemmas.List.{append-nil}
use Rattle.mx_packets.specs.Lines.{Chain}
use Rattle.mx_debug.specs.Session.{Looked}
use Rattle.mx_debug.specs.Talks.{Answered, Byte, all_of, Dialogue, Headline, Talk, bytes_of, first_talk, reply_byte, said_to, talk_after}
use Rattle.mx_debug.specs.Talks.{talk_byte}
use Rattle.mx_debug.proofs.TalkLaws.{bytes_more, left_said, left_talk, next_said, next_talk}

said_by : (v : Bool) (q : Looked) (t : Talk) (x : Byte) (a b : List Byte) → t.left ≡ v
    → ((n : Talk) → said_to q n (a ++ b) ≡ said_to q n a ++ said_to q (talk_after q n a) b)
    → said_to q t (x ∷ (a ++ b)) ≡ said_to q t (x ∷ a) ++ said_to q (talk_after q t (x ∷ a)) b
said_by true q t x a b e more =
    left_said q t (x ∷ (a ++ b)) e
    ∙ sym (ap (λ (s : List ℕ). s ++ said_to q (talk_after q t (x ∷ a)) b) (left_said q t (x ∷ a) e)
    ∙ ap (λ (u : Talk). said_to q u b) (left_talk q t (x ∷ a) e) ∙ left_said q t b e)
said_by false q t x a b e more =
    let said = (reply_byte q t x).said in
    let next = talk_byte q t x in
    next_said q t x (a ++ b) e ∙ ap (λ (s : List ℕ). said ++ s) (more next)
    ∙ sym (append_assoc said (said_to q next a) (said_to q (talk_after q next a) b))
    ∙ sym (ap (λ (s : List ℕ). s ++ said_to q (talk_after q next a) b) (next_said q t x a e))
    ∙ sym (ap (λ (u : Talk). said_to q t (x ∷ a) ++ said_to q u b) (next_talk q t x a e))

pub said_more : (q : Looked) (t : Talk) (a b : List Byte) → said_to q t (a ++ b) ≡ said_to q t a ++ said_to q (talk_after q t a) b
said_more q t [] b = refl
said_more q t (x ∷ a) b = said_by t.left q t x a b refl (λ n. said_more q n a b)

module _ {L : Type 0} (hears says : L → List ℕ → L → Type 0) (told log : L → List ℕ)
    (hs : (a : L) (piece : List ℕ) (b : L) → hears a piece b → (told b ≡ told a ++ piece) × (log b ≡ log a))
    (ss : (a : L) (text : List ℕ) (b : L) → says a text b → (told b ≡ told a) × (log b ≡ log a ++ text)) where
  chain_told : (l : L) (texts : List (List ℕ)) (m : L) → Chain says l texts m → told m ≡ told l
  chain_told l [] m c = ap told c
  chain_told l (text ∷ more) m c = chain_told c.0 more m c.2 ∙ (ss l text c.0 c.1).0

  chain_log : (l : L) (texts : List (List ℕ)) (m : L) → Chain says l texts m → log m ≡ log l ++ concat texts
  chain_log l [] m c = ap log c ∙ sym (append-nil (log l))
  chain_log l (text ∷ more) m c =
      chain_log c.0 more m c.2 ∙ ap (λ (x : List ℕ). x ++ concat more) (ss l text c.0 c.1).1 ∙ append_assoc (log l) text (concat more)

  dialogue_told : (room : L → ℕ) (q : Looked) (t : Talk) (l : L) (pieces : List (List Byte)) (m : L)
      → Dialogue hears says room q t l pieces m → told m ≡ told l ++ bytes_of (all_of pieces)
  dialogue_told room q t l [] m d = ap told d ∙ sym (append-nil (told l))
  dialogue_told room q t l (p ∷ more) m d =
      dialogue_told room q (talk_after q t p) d.1 more m d.5
      ∙ ap (λ (x : List ℕ). x ++ bytes_of (all_of more)) (chain_told d.0 d.4.texts d.1 d.4.said ∙ (hs l (bytes_of p) d.0 d.2).0)
      ∙ append_assoc (told l) (bytes_of p) (bytes_of (all_of more))
      ∙ ap (λ (x : List ℕ). told l ++ x) (sym (bytes_more p (all_of more)))

  dialogue_log : (room : L → ℕ) (q : Looked) (t : Talk) (l : L) (pieces : List (List Byte)) (m : L)
      → Dialogue hears says room q t l pieces m → log m ≡ log l ++ said_to q t (all_of pieces)
  dialogue_log room q t l [] m d = ap log d ∙ sym (append-nil (log l))
  dialogue_log room q t l (p ∷ more) m d =
      let rest = said_to q (talk_after q t p) (all_of more) in
      dialogue_log room q (talk_after q t p) d.1 more m d.5
      ∙ ap (λ (x : List ℕ). x ++ rest) (chain_log d.0 d.4.texts d.1 d.4.said ∙ ap (λ (x : List ℕ). log d.0 ++ x) d.4.whole
      ∙ ap (λ (x : List ℕ). x ++ said_to q t p) (hs l (bytes_of p) d.0 d.2).1)
      ∙ append_assoc (log l) (said_to q t p) rest ∙ ap (λ (x : List ℕ). log l ++ x) (sym (said_more q t p (all_of more)))

pub headline_of : {L A E : Type 0} (hears says : L → List ℕ → L → Type 0) (room : L → ℕ) (q : Looked) (l m : L) (result : Result A E)
    → Answered hears says room q l m result → Headline hears says q l m result
headline_of hears says room q l m (Ok a) w = λ told log hs ss ok. (
  all_of w.pieces,
  dialogue_told hears says told log hs ss room q first_talk l w.pieces m w.dialogue,
  dialogue_log hears says told log hs
      ss room q first_talk l w.pieces m w.dialogue,
)
headline_of hears says room q l m (Err e) w = λ told log hs ss ok. cc (ok)
