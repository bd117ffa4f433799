-- Talks, piece by piece.
use Rattle.std.proofs.Common.{◌≡◌, inl, inr, ℕ, ◌+◌, true, List, [], ◌∷◌, ◌++◌, length, refl, sym, ap, subst, ◌∙◌, arith, length-append}
use Rattle.mx_model.specs.State.{Flat}
use Rattle.mx_packets.specs.Lines.{Speaks}
use Rattle.mx_debug.specs.Session.{Looked}
use Rattle.mx_debug.specs.Talking.{HasAnswered, IsTalkedTo}
use Rattle.mx_debug.specs.Talks.{Byte, Dialogue, IsWhole, Talk, bytes_of, first_talk, said_to, talk_after, talk_pieces}

pieces_more : (q : Looked) (t : Talk) (pieces : List (List Byte)) (piece : List Byte)
    → talk_pieces q t (pieces ++ piece ∷ []) ≡ talk_after q (talk_pieces q t pieces) piece
pieces_more q t [] piece = refl
pieces_more q t (p ∷ more) piece = pieces_more q (talk_after q t p) more piece

module _ {L : Type 0} (hears says : L → List ℕ → L → Type 0) (room : L → ℕ) (q : Looked) where
  dialogue_more : (t : Talk) (l k heard m : L) (pieces : List (List Byte)) (piece : List Byte) → Dialogue hears says room q t l pieces k
      → hears k (bytes_of piece) heard → room heard ≡ room k
      → Speaks says room heard (said_to q (talk_pieces q t pieces) piece) m → Dialogue hears says room q t l (pieces ++ piece ∷ []) m
  dialogue_more t l k heard m [] piece d came same said =
      subst (λ (x : L). Dialogue hears says room q t x (piece ∷ []) m) d (heard, m, came, same, said, refl)
  dialogue_more t l k heard m (p ∷ more) piece d came same said =
      (d.0, d.1, d.2, d.3, d.4, dialogue_more (talk_after q t p) d.1 k heard m more piece d.5 came same said)

  pub answered_more : (count : ℕ) (now new : Talk) (f g : Flat) (l k heard m : L) (piece : List ℕ)
      → HasAnswered hears says room q count now f l k → hears k piece heard → room heard ≡ room k
      → IsTalkedTo says room q now piece new g heard m → HasAnswered hears says room q (count + 1) new g l m
  answered_more count now new f g l k heard m piece h came same one =
      let long : length (h.pieces ++ one.bytes ∷ []) ≡ length h.pieces + 1 = length-append h.pieces (one.bytes ∷ []) in
      let many : length h.pieces ≡ count = h.many in
      record {
        pieces = h.pieces ++ one.bytes ∷ [];
        dialogue = dialogue_more first_talk l k heard m h.pieces one.bytes h.dialogue
            (subst (λ (x : List ℕ). hears k x heard) (sym one.heard) came) same
            (subst (λ (u : Talk). Speaks says room heard (said_to q u one.bytes) m) h.talk one.said);
        talk = one.talk ∙ ap (λ (u : Talk). talk_after q u one.bytes) h.talk ∙ sym (pieces_more q first_talk h.pieces one.bytes);
        place = one.place;
        many = omega (arith, long, many);
      }

  nothing_heard : (bytes : List Byte) → bytes_of bytes ≡ [] → bytes ≡ []
  nothing_heard [] e = refl
  nothing_heard (b ∷ more) e = absurd (cc (e))

  -- the last piece had no byte, or the session was left
  pub ends_empty : (count : ℕ) (now new : Talk) (f g : Flat) (l k heard m : L) (piece : List ℕ) → piece ≡ []
      → HasAnswered hears says room q count now f l k → hears k piece heard → room heard ≡ room k
      → IsTalkedTo says room q now piece new g heard m → IsWhole hears says room q first_talk l m
  unfolding answered_more
  ends_empty count now new f g l k heard m piece e h came same one =
      let a = answered_more count now new f g l k heard m piece h came same one in
      record {
        pieces = a.pieces;
        dialogue = a.dialogue;
        over =
            inl (h.pieces, ap (λ (p : List Byte). h.pieces ++ p ∷ []) (nothing_heard one.bytes (one.heard ∙ e)));
      }

  pub ends_left : (count : ℕ) (now new : Talk) (f g : Flat) (l k heard m : L) (piece : List ℕ) → new.left ≡ true
      → HasAnswered hears says room q count now f l k → hears k piece heard → room heard ≡ room k
      → IsTalkedTo says room q now piece new g heard m → IsWhole hears says room q first_talk l m
  ends_left count now new f g l k heard m piece e h came same one =
      let a = answered_more count now new f g l k heard m piece h came same one in
      record { pieces = a.pieces; dialogue = a.dialogue; over = inr (inl (sym (ap (λ (u : Talk). u.left) a.talk) ∙ e)) }
