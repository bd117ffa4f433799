-- Two runs of which every list that is made of them is the same: a talk about one is a talk about the other.
use Rattle.std.proofs.Common.{◌≡◌, ◌<◌, length, ℕ, Bool, true, false, List, [], ◌∷◌, ◌++◌, Result, Ok, Err, refl, sym, ap, subst, ◌∙◌, inl}
use Rattle.std.proofs.Common.{inr}
use Rattle.mx_packets.specs.Lines.{Fails, Speaks}
use Rattle.mx_debug.specs.Session.{Looked}
use Rattle.mx_debug.specs.Talks.{Answered, Byte, Dialogue, IsOver, Talk, all_of, first_talk, said_to, talk_after, talk_pieces}
use Rattle.mx_commands.specs.declared.status.Status.{Status}
use Rattle.mx_debugger.specs.Debugs.{TalkEnds}

abbrev pub AreAlike : Looked → Looked → Type 0
AreAlike p q = (list : Looked → List ℕ) → list p ≡ list q

-- the talk after pieces, and after one more
abbrev after : Looked → List (List Byte) → Talk
after q front = talk_pieces q first_talk front

pieces_more : (q : Looked) (t : Talk) (front : List (List Byte)) (piece : List Byte)
    → talk_pieces q t (front ++ piece ∷ []) ≡ talk_after q (talk_pieces q t front) piece
pieces_more q t [] piece = refl
pieces_more q t (p ∷ front) piece = pieces_more q (talk_after q t p) front piece

abbrev pub to_list : Bool → List ℕ
to_list true = 0 ∷ []
to_list false = []

of_list : (b : Bool) → to_list true ≡ to_list b → b ≡ true
of_list true e = refl
of_list false e = cc

module _ (p q : Looked) (alike : AreAlike p q) where
  same_said : (front : List (List Byte)) (piece : List Byte) → said_to p (after p front) piece ≡ said_to q (after q front) piece
  same_said front piece = alike (λ r. said_to r (after r front) piece)

  same_left : (pieces : List (List Byte)) → (after p pieces).left ≡ true → (after q pieces).left ≡ true
  same_left pieces is = of_list (after q pieces).left (ap to_list (sym is) ∙ alike (λ r. to_list (after r pieces).left))

  module _ {L : Type 0} (hears says : L → List ℕ → L → Type 0) (room : L → ℕ) where
    dialogue_on : (front pieces : List (List Byte)) (t u : Talk) (l m : L) → t ≡ after p front → u ≡ after q front
        → Dialogue hears says room p t l pieces m
        → Dialogue hears says room q u l pieces m
    dialogue_on front [] t u l m at on d = d
    dialogue_on front (piece ∷ more) t u l m at on d =
        let said : said_to p t piece ≡ said_to q u piece =
        ap (λ (x : Talk). said_to p x piece) at ∙ same_said front piece ∙ sym (ap (λ (x : Talk). said_to q x piece) on) in
        let next : talk_after p t piece ≡ after p (front ++ piece ∷ []) = ap (λ (x : Talk). talk_after p x piece) at
        ∙ sym (pieces_more p first_talk front piece) in
        let following : talk_after q u piece ≡ after q (front ++ piece ∷ []) = ap (λ (x : Talk). talk_after q x piece) on
        ∙ sym (pieces_more q first_talk front piece) in (
          d.0,
          d.1,
          d.2,
          d.3,
          subst (λ (text : List ℕ). Speaks says room d.0 text d.1) said d.4,
          dialogue_on (front ++ piece ∷ []) more (talk_after p t piece) (talk_after q u piece) d.1 m next following d.5,
        )

    over_on : (pieces : List (List Byte)) → IsOver p first_talk pieces → IsOver q first_talk pieces
    over_on pieces over = elim over [
      | inl end ↦ inl end
      | inr more ↦
          inr (elim more [ inl left ↦ inl (same_left pieces left) | inr many ↦ inr many ])
    ]

    answered_on : {A E : Type 0} (l m : L) (result : Result A E) → Answered hears says room p l m result
        → Answered hears says room q l m result
    answered_on l m (Ok a) w =
        record {
          pieces = w.pieces;
          dialogue = dialogue_on [] w.pieces first_talk first_talk l m refl refl w.dialogue;
          over = over_on w.pieces w.over;
        }
    answered_on l m (Err e) w =
        record {
          pieces = w.pieces;
          before = w.before;
          dialogue = dialogue_on [] w.pieces first_talk first_talk l w.before refl refl w.dialogue;
          piece = w.piece;
          heard = w.heard;
          came = w.came;
          same = w.same;
          fails = subst (λ (text : List ℕ). Fails says room w.heard text m) (same_said w.pieces w.piece) w.fails;
          short = subst (λ (text : List ℕ). room l < length text) (alike (λ r. said_to r first_talk (all_of w.pieces ++ w.piece))) w.short;
        }

    pub talk_on : (l m : L) (status : Status) → TalkEnds hears says room p l m status → TalkEnds hears says room q l m status
    talk_on l m status t =
        record {
          result = t.result;
          answered = answered_on l m t.result t.answered;
          by = t.by;
        }
