-- A line fails only where it isn't sure to say the answers to what was heard.
use Rattle.std.proofs.Common.{◌≡◌, ◌⊎◌, inl, inr, ℕ, ◌+◌, ◌<◌, ◌≤◌, List, [], ◌∷◌, ◌++◌, length, refl, sym, ap, subst, ◌∙◌, arith}
use Rattle.std.proofs.Common.{append_assoc, length-append}
use Rattle.mx_model.specs.State.{Flat}
use Rattle.mx_packets.specs.Lines.{Fails}
use Rattle.mx_debug.specs.Session.{Looked}
use Rattle.mx_debug.specs.Talking.{HasAnswered, IsTalkLost}
use Rattle.mx_debug.specs.Talks.{Byte, all_of, Dialogue, IsBroken, Talk, first_talk, said_to, talk_after, talk_pieces}
use Rattle.mx_debug.proofs.HeadLaws.{said_more}

-- what is said to pieces and one more
pieces_said : (q : Looked) (t : Talk) (pieces : List (List Byte)) (piece : List Byte)
    → said_to q t (all_of pieces ++ piece) ≡ said_to q t (all_of pieces) ++ said_to q (talk_pieces q t pieces) piece
pieces_said q t [] piece = refl
pieces_said q t (p ∷ more) piece =
    let next = talk_after q t p in
    ap (said_to q t) (append_assoc p (all_of more) piece)
    ∙ said_more q t p (all_of more ++ piece)
    ∙ ap (λ (x : List ℕ). said_to q t p ++ x) (pieces_said q next more piece)
    ∙ sym (append_assoc (said_to q t p) (said_to q next (all_of more)) (said_to q (talk_pieces q next more) piece))
    ∙ ap (λ (x : List ℕ). x ++ said_to q (talk_pieces q next more) piece) (sym (said_more q t p (all_of more)))

few_or_more : (a b : ℕ) → (a ≤ b) ⊎ (b < a)
few_or_more a b = grind arith

module _ {L : Type 0} (hears says : L → List ℕ → L → Type 0) (room : L → ℕ) (q : Looked) where
  -- a dialogue takes so much of the line's room as was said
  room_left : (t : Talk) (l : L) (pieces : List (List Byte)) (m : L) → Dialogue hears says room q t l pieces m
      → length (said_to q t (all_of pieces)) ≤ room l
      → room l ≤ room m + length (said_to q t (all_of pieces))
  room_left t l [] m d few = let same : room m ≡ room l = ap room d in omega (arith, same)
  room_left t l (p ∷ more) m d few =
      let one = said_to q t p in
      let rest = said_to q (talk_after q t p) (all_of more) in
      let long : length (said_to q t (p ++ all_of more)) ≡ length one + length rest = ap length (said_more q t p (all_of more))
      ∙ length-append one rest in
      let same : room d.0 ≡ room l = d.3 in
      let first : length one ≤ room d.0 = omega (arith, few, long, same) in
      let after : room d.0 ≤ room d.1 + length one = d.4.left first in
      let second : length rest ≤ room d.1 = omega (arith, few, long, same, after) in
      let last : room d.1 ≤ room m + length rest = room_left (talk_after q t p) d.1 more m d.5 second in
      omega (arith, long, same, after, last)

  short_of : (t : Talk) (l k heard m : L) (pieces : List (List Byte)) (piece : List Byte) → Dialogue hears says room q t l pieces k
      → room heard ≡ room k → Fails says room heard (said_to q (talk_pieces q t pieces) piece) m
      → room l < length (said_to q t (all_of pieces ++ piece))
  short_of t l k heard m pieces piece d same fails =
      let front = said_to q t (all_of pieces) in
      let last = said_to q (talk_pieces q t pieces) piece in
      let long : length (said_to q t (all_of pieces ++ piece)) ≡ length front + length last = ap length (pieces_said q t pieces piece)
      ∙ length-append front last in
      elim (few_or_more (length (said_to q t (all_of pieces ++ piece))) (room l)) [
        | inl whole ↦
            let left : room l ≤ room k + length front = room_left t l pieces k d (omega (arith, long, whole)) in
            absurd (fails.tight (omega (arith, long, whole, left, same)))
        | inr more ↦ more
      ]

  -- a talk in which the line failed
  pub ends_broken : (count : ℕ) (now : Talk) (f : Flat) (l k heard m : L) (piece : List ℕ) → HasAnswered hears says room q count now f l k
      → hears k piece heard → room heard ≡ room k
      → IsTalkLost says room q now piece heard m → IsBroken hears says room q first_talk l m
  ends_broken count now f l k heard m piece h came same one =
      let fails = subst (λ (u : Talk). Fails says room heard (said_to q u one.bytes) m) h.talk one.fails in
      record {
        pieces = h.pieces;
        before = k;
        dialogue = h.dialogue;
        piece = one.bytes;
        heard = heard;
        came = subst (λ (x : List ℕ). hears k x heard) (sym one.heard) came;
        same = same;
        fails = fails;
        short = short_of first_talk l k heard m h.pieces one.bytes h.dialogue same fails;
      }
