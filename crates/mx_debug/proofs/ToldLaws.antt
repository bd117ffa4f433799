-- What is said tells the console of the run.
use Rattle.std.proofs.Common.{◌≡◌, ◌⊎◌, inl, inr, ℕ, zero, suc, ◌+◌, ◌-◌, ◌<◌, ◌≤◌, ◌==◌, Bool, true, false, not, ◌&&◌, List, [], ◌∷◌, ◌++◌}
use Rattle.std.proofs.Common.{drop, flat_map, length, max, take, Option, Some, None, nat_le, nat_lt, if◌then◌else◌, refl, ap, sym, subst}
use Rattle.std.proofs.Common.{◌∙◌, arith, append_assoc, length-drop}
use Rattle.std.specs.List.{AllByRecursion, list_any}
use Rattle.std.specs.Prelude.{IfSome}
use Rattle.std.proofs.lemmas.Bool.Decides.{nat_tests}
use Rattle.std.proofs.lemmas.List.{append-nil, drop_all, take-append-drop}
use Rattle.mx_model.specs.Run.{hart_of, is_stopped, made_of, turn}
use Rattle.mx_model.specs.State.{Core, Flat, State, flat}
use Rattle.mx_packets.specs.declared.receiver.Heard.{Heard}
use Rattle.mx_packets.specs.declared.receiver.Heard.TheVariants as H
use Rattle.mx_packets.specs.declared.request.Request.{Request}
use Rattle.mx_packets.specs.declared.request.Request.TheVariants as R
use Rattle.mx_packets.specs.declared.request.Thread.{Thread}
use Rattle.mx_packets.specs.declared.request.Thread.TheVariants as T
use Rattle.mx_packets.specs.Frames.{cut}
use Rattle.mx_packets.specs.Packets.{after, heard}
use Rattle.mx_packets.specs.Requests.{request_of}
use Rattle.mx_packets.specs.Streams.{sent}
use Rattle.mx_turns.proofs.RunTexts.{run_ends, run_more}
use Rattle.mx_debug.specs.declared.stop.Step.{Step}
use Rattle.mx_debug_texts.specs.declared.document.Document.{Document}
use Rattle.mx_debug_texts.specs.Documents.{Known, document_text}
use Rattle.mx_debug.specs.declared.stop.Stop.{Stop}
use Rattle.mx_debug.specs.declared.stop.Stop.TheVariants as S
use Rattle.mx_debug.specs.Back.{Sought, backward, bottom, last_stop, stop_back}
use Rattle.mx_debug.specs.Looks.{news_at, shows, shows_to}
use Rattle.mx_debug.specs.Replies.{Reply, after_shown, answered, back_to, behind, clear_break, document_of, find_hart, follow_hart, go_on}
use Rattle.mx_debug.specs.Replies.{go_to, look_text, most_breaks, noted_by, noted_said, object_text, past_all, reply, run_to, set_break}
use Rattle.mx_debug.specs.Replies.{settled, show_hart, sought_of, stands_at, step_of, stop_said, there, thread_hart, told, view_of, want}
use Rattle.mx_debug.specs.Session.{Asked, Looked, Session, asked_of, breaks_at, bytes_at, ends_at, faults_at, forward, found_of, is_past}
use Rattle.mx_debug.specs.Session.{most_turns, next_at, note_at, state_at, stop_after, stop_before, stopped}
use Rattle.mx_debug.specs.Talks.{Byte, Talk, first_talk, mark, reply_byte, reply_to, said_to, talk_after, talk_byte}
use Rattle.mx_debug.specs.Texts.{chunks_said, most_shown, ok, shown_said, shown_text, stop_text, wrong}
use Rattle.mx_debug.specs.Told.{Answers, ConsoleIsTold, IsItem, Item, Marks, NoPacketChangesTheRun, Notes, Shows, Tells, WantChangesNoOther}
use Rattle.mx_debug.specs.Told.{is_shown, item_said, item_shown}
use Rattle.mx_debug.proofs.ForwardLaws.{faults_are_silent, from_here, not_over, on, upward}
use Rattle.mx_debug.proofs.PlainLaws.{plain_about, plain_current, plain_memory, plain_register, plain_registers, plain_stop, plain_threads}
use Rattle.mx_debug.proofs.PlainLaws.{plain_window}

each_more : (a b : List Item) → AllByRecursion IsItem a → AllByRecursion IsItem b → AllByRecursion IsItem (a ++ b)
each_more [] b one two = two
each_more (x ∷ a) b one two = (one.0, each_more a b one.1 two)

said_items : (a b : List Item) → flat_map item_said (a ++ b) ≡ flat_map item_said a ++ flat_map item_said b
said_items [] b = refl
said_items (x ∷ a) b = ap (λ (t : List ℕ). item_said x ++ t) (said_items a b)
    ∙ sym (append_assoc (item_said x) (flat_map item_said a) (flat_map item_said b))

shown_items : (a b : List Item) → flat_map item_shown (a ++ b) ≡ flat_map item_shown a ++ flat_map item_shown b
shown_items [] b = refl
shown_items (x ∷ a) b = ap (λ (t : List ℕ). item_shown x ++ t) (shown_items a b)
    ∙ sym (append_assoc (item_shown x) (flat_map item_shown a) (flat_map item_shown b))

pub tells_nothing : (q : Looked) (k : ℕ) → Tells q k k []
tells_nothing q k = record { items = []; each = tt; whole = refl; told = append-nil (state_at q k).console }

pub tells_more : (q : Looked) (i j k : ℕ) (a b : List ℕ) → Tells q i j a → Tells q j k b → Tells q i k (a ++ b)
tells_more q i j k a b one two = record {
  items = one.items ++ two.items;
  each = each_more one.items two.items one.each two.each;
  whole = ap (λ (t : List ℕ). t ++ b) one.whole ∙ ap (λ (t : List ℕ). flat_map item_said one.items ++ t) two.whole
      ∙ sym (said_items one.items two.items);
  told = ap (λ (t : List ℕ). (state_at q i).console ++ t) (shown_items one.items two.items)
      ∙ sym (append_assoc (state_at q i).console (flat_map item_shown one.items) (flat_map item_shown two.items))
      ∙ ap (λ (t : List ℕ). t ++ flat_map item_shown two.items) one.told ∙ two.told;
}

-- an answer that tells nothing of the console
tells_answer : (q : Looked) (k : ℕ) (text : List ℕ) → is_shown text ≡ false → Tells q k k (sent text)
tells_answer q k text e = record {
  items = Answers text ∷ [];
  each = (e, tt);
  whole = sym (append-nil (sent text));
  told = append-nil (state_at q k).console;
}

tells_mark : (q : Looked) (k : ℕ) (byte : ℕ) → (byte ≡ 43) ⊎ (byte ≡ 45) → (b : Bool) → Tells q k k (if b then byte ∷ [] else [])
tells_mark q k byte is true = record { items = Marks byte ∷ []; each = (is, tt); whole = refl; told = append-nil (state_at q k).console }
tells_mark q k byte is false = tells_nothing q k

-- a turn's bytes are what it adds to the console
drop_front : (a b : List ℕ) → drop (length a) (a ++ b) ≡ b
drop_front [] b = refl
drop_front (x ∷ a) b = let e : length (x ∷ a) ≡ suc (length a) = omega arith in
    subst (λ n. drop n (x ∷ (a ++ b)) ≡ b) (sym e) (drop_front a b)

pub console_more : (q : Looked) (k : ℕ) → (state_at q k).console ++ bytes_at q k ≡ (state_at q (k + 1)).console
console_more q k =
    let s = state_at q k in
    (elim (is_stopped q.schedule s) as (λ b. is_stopped q.schedule s ≡ b → s.console ++ bytes_at q k ≡ (state_at q (k + 1)).console) [
      | true ↦ λ e.
          let same : state_at q (k + 1) ≡ s = run_ends q.schedule k (k + 1) q.start (omega arith) e in
          ap (λ (u : State). s.console ++ drop (length s.console) u.console) same
          ∙ ap (λ (t : List ℕ). s.console ++ t) (drop_all (length s.console) s.console (omega arith)) ∙ append-nil s.console
          ∙ ap (λ (u : State). u.console) (sym same)
      | false ↦ λ e.
          let h = hart_of q.schedule s.core in
          let next : state_at q (k + 1) ≡ turn s h = run_more q.schedule k q.start h e refl in
          ap (λ (u : State). s.console ++ drop (length s.console) u.console) next
          ∙ ap (λ (t : List ℕ). s.console ++ t) (drop_front s.console (made_of s h).console)
          ∙ ap (λ (u : State). u.console) (sym next)
    ]) refl

-- bytes of the console as packets
pub record InPackets (bytes said : List ℕ) : Type 0 where
  pub items : List Item
  pub each : AllByRecursion IsItem items
  pub whole : said ≡ flat_map item_said items
  pub shown : flat_map item_shown items ≡ bytes

few_taken : (n : ℕ) (xs : List ℕ) → length (take n xs) ≤ n
few_taken zero xs = omega arith
few_taken (suc n) [] = omega arith
few_taken (suc n) (x ∷ xs) = let h = few_taken n xs in omega (arith, h)

in_packets : (n : ℕ) (bytes : List ℕ) → length bytes ≤ n → InPackets bytes (chunks_said n bytes)
in_packets zero [] few = record { items = []; each = tt; whole = refl; shown = refl }
in_packets zero (b ∷ more) few = absurd (omega (arith, few))
in_packets (suc n) [] few = record { items = []; each = tt; whole = refl; shown = refl }
in_packets (suc n) (b ∷ more) few =
    let all = b ∷ more in
    let long = length-drop most_shown all in
    let rest = in_packets n (drop most_shown all) (omega (arith, few, long)) in
    record {
      items = Shows (take most_shown all) ∷ rest.items;
      each = (few_taken most_shown all, rest.each);
      whole = ap (λ (t : List ℕ). item_said (Shows (take most_shown all)) ++ t) rest.whole;
      shown = ap (λ (t : List ℕ). take most_shown all ++ t) rest.shown ∙ take-append-drop most_shown all;
    }

tells_turn : (q : Looked) (k : ℕ) → Tells q k (k + 1) (shown_said (bytes_at q k))
tells_turn q k =
    let bytes = bytes_at q k in
    let p = in_packets (length bytes) bytes (omega arith) in
    record {
      items = p.items;
      each = p.each;
      whole = p.whole;
      told = ap (λ (t : List ℕ). (state_at q k).console ++ t) p.shown ∙ console_more q k;
    }

not_below : (k told : ℕ) → told ≤ k → nat_lt k told ≡ false
not_below k told h = grind (arith, nat_tests)

is_below : (k told : ℕ) → k < told → nat_lt k told ≡ true
is_below k told h = grind (arith, nat_tests)

below_or_at : (k told : ℕ) → k ≤ told → (k < told) ⊎ (k ≡ told)
below_or_at k told h = grind arith

few_or_more : (a b : ℕ) → (a ≤ b) ⊎ (b < a)
few_or_more a b = grind arith

below_made : (n made : ℕ) → nat_lt n made ≡ true → n ≤ made
below_made n made e = grind (arith, nat_tests)

right_of : (a b : ℕ) → b ≤ max a b
right_of a b = omega arith

up_from : (a b : ℕ) → a ≤ b → a + (b - a) ≡ b
up_from a b up = omega (arith, up)

both_of : (x y : Bool) → (x && y) ≡ true → (x ≡ true) × (y ≡ true)
both_of true y e = (refl, e)
both_of false y e = absurd (cc (e))

not_true : (b : Bool) → not b ≡ true → b ≡ false
not_true true e = absurd (cc (e))
not_true false e = refl

IfSome_more : (o : Option (ℕ × Stop)) (low n : ℕ) → IfSome o (λ found. found.0 ≤ low + n) → IfSome o (λ found. found.0 ≤ low + suc n)
IfSome_more None low n h = tt
IfSome_more (Some found) low n h = omega (arith, h)

abbrev lowest : Bool → ℕ → ℕ × Stop
lowest b low = if b then (0, S.Begins) else (low, S.Pauses)

lower_of : (b : Bool) (low k : ℕ) → low ≤ k → (lowest b low).0 ≤ k
lower_of true low k few = omega arith
lower_of false low k few = few

abbrev picked : Option (ℕ × Stop) → ℕ → ℕ × Stop
picked o low = elim o [
  | Some found ↦ found
  | None ↦ bottom low
]

below_by : (o : Option (ℕ × Stop)) (low k : ℕ) → low ≤ k → IfSome o (λ found. found.0 ≤ low + (k - low)) → (picked o low).0 ≤ k
below_by None low k few h = lower_of (low == 0) low k few
below_by (Some found) low k few h = omega (arith, few, h)

-- turns of which none was told, and turns of which the first were
tells_new : (q : Looked) (told n k : ℕ) → told ≤ k → Tells q k (k + n) (shows q told k n)
tells_new q told zero k new = let same : k ≡ k + zero = omega arith in subst (λ j. Tells q k j []) same (tells_nothing q k)
tells_new q told (suc n) k new =
    let same : k + 1 + n ≡ k + suc n = omega arith in
    let here : news_at q told k ≡ bytes_at q k = ap (λ b. if b then [] else bytes_at q k) (not_below k told new) in
    subst (λ j. Tells q k j (shows q told k (suc n))) same
    (tells_more q k (k + 1) (k + 1 + n) (shown_said (news_at q told k)) (shows q told (k + 1) n)
    (subst (λ (bytes : List ℕ). Tells q k (k + 1) (shown_said bytes)) (sym here) (tells_turn q k))
    (tells_new q told n (k + 1) (omega (arith, new))))

tells_turns : (q : Looked) (told n k : ℕ) → k ≤ told → Tells q told (max told (k + n)) (shows q told k n)
tells_turns q told zero k old = let same : told ≡ max told (k + zero) = omega (arith, old) in
    subst (λ j. Tells q told j []) same (tells_nothing q told)
tells_turns q told (suc n) k old = elim (below_or_at k told old) [
  | inl less ↦
      let same : max told (k + 1 + n) ≡ max told (k + suc n) = ap (max told) (omega arith) in
      let here : news_at q told k ≡ [] = ap (λ b. if b then [] else bytes_at q k) (is_below k told less) in
      let quiet : shows q told k (suc n) ≡ shows q told (k + 1) n =
      ap (λ (bytes : List ℕ). shown_said bytes ++ shows q told (k + 1) n) here in
      subst (λ j. Tells q told j (shows q told k (suc n))) same
      (subst (λ (t : List ℕ). Tells q told (max told (k + 1 + n)) t) (sym quiet) (tells_turns q told n (k + 1) (omega (arith, less))))
  | inr same ↦
      let whole : k + suc n ≡ max told (k + suc n) = omega (arith, same) in
      let begun : k ≡ told = same in
      subst (λ j. Tells q told j (shows q told k (suc n))) whole
      (subst (λ i. Tells q i (k + suc n) (shows q told k (suc n))) begun (tells_new q told (suc n) k (omega (arith, same))))
]

-- a search forward stays within the most turns of the run
within_after : (q : Looked) (a : Asked) (turns k : ℕ) (after : Option Stop) → k + 1 ≤ q.most
    → (forward q a turns (k + 1) false false).0 ≤ q.most → (on q a turns k after).0 ≤ q.most
within_after q a turns k (Some stop) few rest = few
within_after q a turns k None few rest = rest

within_before : (q : Looked) (a : Asked) (turns k : ℕ) (before : Option Stop) → k ≤ q.most
    → (before ≡ None → (on q a turns k (stop_after q a.step k)).0 ≤ q.most)
    → (from_here q a turns k before).0 ≤ q.most
within_before q a turns k (Some stop) here rest = here
within_before q a turns k None here rest = rest refl

one_below : (n k : ℕ) → nat_le n k ≡ false → k + 1 ≤ n
one_below n k e = grind (arith, nat_tests)

-- where it doesn't stop before a turn, a turn is made
goes_by : (x : Bool) (rest : Option Stop) → (if x then Some S.Ends else rest) ≡ None → x ≡ false
goes_by true rest e = absurd (cc (e))
goes_by false rest e = refl

pub forward_within : (q : Looked) (a : Asked) (turns k : ℕ) (b f : Bool) → k ≤ q.most → (forward q a turns k b f).0 ≤ q.most
forward_within q a zero k b f few = few
forward_within q a (suc turns) k b f few =
    within_before q a turns k (stop_before q a k b f) few (λ e.
    let rest = if breaks_at q a.breaks k && not b then Some (S.Breaks (next_at q k)) else if a.faults && faults_at q k
    && not f then Some (S.Faults (next_at q k) (note_at q k)) else None in
    let going = goes_by (ends_at q k) rest e in
    let more = one_below q.most k (not_over (nat_le q.most k) (is_stopped q.schedule (state_at q k)) going).0 in
    within_after q a turns k (stop_after q a.step k) more (forward_within q a turns (k + 1) false false more))

-- one backward goes back
last_below : (q : Looked) (a : Sought) (low n : ℕ) → IfSome (last_stop q a low n) (λ found. found.0 ≤ low + n)
last_below q a low zero = tt
last_below q a low (suc n) =
    (elim (stop_back q a (low + n)) as (λ o. IfSome (elim o [ Some stop ↦ Some (low + n, stop) | None ↦ last_stop q a low n ])
    (λ (found : ℕ × Stop). found.0 ≤ low + suc n)) [
      | Some stop ↦ omega arith
      | None ↦ IfSome_more (last_stop q a low n) low n (last_below q a low n)
    ])

pub backward_below : (q : Looked) (a : Sought) (turns k : ℕ) → (backward q a turns k).0 ≤ k
backward_below q a turns k =
    let low = k - turns in
    below_by (last_stop q a low (k - low)) low k (omega arith) (last_below q a low (k - low))

-- where a session stands
pub record IsIn (q : Looked) (s : Session) : Type 0 where
  pub made : s.made ≤ s.told
  pub within : s.made ≤ q.most

-- a reply tells what the console got, and leaves the session in the run
pub record ReplyTells (q : Looked) (s : Session) (r : Reply) : Type 0 where
  pub tells : Tells q s.told r.session.told r.said
  pub stands : IsIn q r.session

stays : (q : Looked) (s t : Session) (said : List ℕ) (leaves : Bool) → IsIn q s → t.made ≡ s.made → t.told ≡ s.told
    → Tells q s.told s.told said → ReplyTells q s (record { said = said; session = t; leaves = leaves })
stays q s t said leaves h same told tells =
    let made = h.made in
    let within = h.within in
    record {
      tells = subst (λ j. Tells q s.told j said) (sym told) tells;
      stands = record { made = omega (arith, same, told, made); within = omega (arith, same, within) };
    }

tells_text : (q : Looked) (s t : Session) (text : List ℕ) → IsIn q s → t.made ≡ s.made → t.told ≡ s.told → is_shown (cut text) ≡ false
    → ReplyTells q s (answered t text)
tells_text q s t text h same told plain = stays q s t (sent (cut text)) false h same told (tells_answer q s.told (cut text) plain)

tells_if : (q : Looked) (s : Session) (b : Bool) (x y : Reply) → ReplyTells q s x → ReplyTells q s y → ReplyTells q s (if b then x else y)
tells_if q s true x y one two = one
tells_if q s false x y one two = two

tells_ok : (q : Looked) (s t : Session) → IsIn q s → t.made ≡ s.made → t.told ≡ s.told → ReplyTells q s (answered t ok)
tells_ok q s t h same told = tells_text q s t ok h same told refl

tells_wrong : (q : Looked) (s : Session) → IsIn q s → ReplyTells q s (answered s wrong)
tells_wrong q s h = tells_text q s s wrong h refl refl refl

tells_shown : (q : Looked) (c : Core) (s : Session) (thread : Thread) → IsIn q s → ReplyTells q s (show_hart c s thread)
tells_shown q c s T.Any i = tells_ok q s s i refl refl
tells_shown q c s (T.Hart h) i = tells_if q s (nat_lt h (length c.harts)) (answered (record s { shown = h }) ok) (answered s wrong)
    (tells_ok q s (record s { shown = h }) i refl refl) (tells_wrong q s i)
tells_shown q c s T.Wrong i = tells_wrong q s i

tells_followed : (q : Looked) (c : Core) (s : Session) (thread : Thread) → IsIn q s → ReplyTells q s (follow_hart c s thread)
tells_followed q c s T.Any i = tells_ok q s s i refl refl
tells_followed q c s (T.Hart h) i =
    tells_if q s (nat_lt h (length c.harts)) (answered (record s { followed = h }) ok) (answered s wrong)
    (tells_ok q s (record s { followed = h }) i refl refl) (tells_wrong q s i)
tells_followed q c s T.Wrong i = tells_wrong q s i

tells_found : (q : Looked) (c : Core) (s : Session) (thread : Thread) → IsIn q s → ReplyTells q s (find_hart c s thread)
tells_found q c s T.Any i = tells_ok q s s i refl refl
tells_found q c s (T.Hart h) i = tells_if q s (nat_lt h (length c.harts)) (answered s ok) (answered s wrong) (tells_ok q s s i refl refl)
    (tells_wrong q s i)
tells_found q c s T.Wrong i = tells_wrong q s i

tells_set : (q : Looked) (s : Session) (a : ℕ) → IsIn q s → ReplyTells q s (set_break s a)
tells_set q s a i =
    let more = record s { breaks = s.breaks ++ a ∷ [] } in
    tells_if q s (list_any (λ b. b == a) s.breaks) (answered s ok)
    (if nat_lt (length s.breaks) most_breaks then answered more ok else answered s wrong) (tells_ok q s s i refl refl)
    (tells_if q s (nat_lt (length s.breaks) most_breaks) (answered more ok) (answered s wrong) (tells_ok q s more i refl refl)
    (tells_wrong q s i))

-- what is told of a stop
notes_in : (n : ℕ) (bytes : List ℕ) (q : Looked) (k : ℕ) → Tells q k k (chunks_said n bytes)
notes_in zero bytes q k = tells_nothing q k
notes_in (suc n) [] q k = tells_nothing q k
notes_in (suc n) (b ∷ more) q k =
    let one = sent (cut (shown_text (take most_shown (b ∷ more)))) in
    tells_more q k k k one (chunks_said n (drop most_shown (b ∷ more)))
    (record {
      items = Notes (take most_shown (b ∷ more)) ∷ [];
      each = (tt, tt);
      whole = sym (append-nil one);
      told =
          append-nil (state_at q k).console;
    })
    (notes_in n (drop most_shown (b ∷ more)) q k)

tells_noted : (q : Looked) (k : ℕ) (f : Flat) (known : Known) (document : Option Document) → Tells q k k (noted_by f known document)
tells_noted q k f known None = tells_nothing q k
tells_noted q k f known (Some document) = notes_in 16 (document_text f known document) q k

tells_stop : (q : Looked) (k kept : ℕ) (found : ℕ × Stop) → Tells q k k (stop_said q kept found)
tells_stop q k kept found =
    tells_more q k k k (noted_said q found) (sent (cut (stop_text kept found.1)))
    (tells_noted q k (flat (state_at q found.0)) q.known (document_of found))
    (tells_answer q k (cut (stop_text kept found.1)) (plain_stop kept found.1))

-- the turn of a place past which the run stops adds nothing
quiet_turn : (q : Looked) (k : ℕ) → bytes_at q k ≡ [] → Tells q k (k + 1) []
quiet_turn q k none = record {
  items = [];
  each = tt;
  whole = refl;
  told = ap (λ (t : List ℕ). (state_at q k).console ++ t) (sym none) ∙ console_more q k;
}

tells_past : (q : Looked) (told k : ℕ) → bytes_at q k ≡ [] → Tells q (max told k) (max told (k + 1)) []
tells_past q told k none = elim (few_or_more told k) [
  | inl few ↦
      let one : k ≡ max told k = omega (arith, few) in
      let two : k + 1 ≡ max told (k + 1) = omega (arith, few) in
      subst (λ i. Tells q i (max told (k + 1)) []) one (subst (λ j. Tells q k j []) two (quiet_turn q k none))
  | inr more ↦
      let one : told ≡ max told k = omega (arith, more) in
      let two : told ≡ max told (k + 1) = omega (arith, more) in
      subst (λ i. Tells q i (max told (k + 1)) []) one (subst (λ j. Tells q told j []) two (tells_nothing q told))
]

-- where the run went on to
tells_went : (q : Looked) (s : Session) (found : ℕ × Stop) → IsIn q s → s.made ≤ found.0
    → Tells q s.told (max s.told found.0) (shows_to q s.told s.made found)
tells_went q s found i up =
    let whole = up_from s.made found.0 up in
    subst (λ j. Tells q s.told (max s.told j) (shows_to q s.told s.made found)) whole
    (tells_turns q s.told (found.0 - s.made) s.made i.made)

stands_in : (q : Looked) (s : Session) (found : ℕ × Stop) → found.0 ≤ q.most → IsIn q (stopped s found)
stands_in q s found few = record { made = right_of s.told found.0; within = few }

tells_settled : (q : Looked) (s : Session) (found : ℕ × Stop) (wanting : Bool) → IsIn q s → s.made ≤ found.0 → found.0 ≤ q.most
    → ReplyTells q s (after_shown q s found (settled q wanting s found))
tells_settled q s found wanting i up few =
    (elim (wanting && is_past q found.0) as (λ b. (wanting && is_past q found.0) ≡ b
    → ReplyTells q s (after_shown q s found (if b then told (behind s found) want else stands_at q s found))) [
      | true ↦ λ e.
          let past = (both_of wanting (is_past q found.0) e).1 in
          let going = not_true (ends_at q found.0) (both_of (not (ends_at q found.0)) (faults_at q found.0) past).0 in
          let none = faults_are_silent q found.0 (both_of (not (ends_at q found.0)) (faults_at q found.0) past).1 in
          let more = one_below q.most found.0 (not_over (nat_le q.most found.0) (is_stopped q.schedule (state_at q found.0)) going).0 in
          record {
            tells = tells_more q s.told (max s.told found.0) (max s.told (found.0 + 1)) (shows_to q s.told s.made found) (sent want)
                (tells_went q s found i up)
                (tells_more q (max s.told found.0) (max s.told (found.0 + 1)) (max s.told (found.0 + 1)) [] (sent want)
                (tells_past q s.told found.0 none) (tells_answer q (max s.told (found.0 + 1)) want refl));
            stands = record { made = right_of s.told (found.0 + 1); within = more };
          }
      | false ↦ λ e. record {
        tells = tells_more q s.told (max s.told found.0) (max s.told found.0) (shows_to q s.told s.made found) (stop_said q s.shown found)
            (tells_went q s found i up) (tells_stop q (max s.told found.0) s.shown found);
        stands = stands_in q s found few;
      }
    ]) refl

tells_on : (q : Looked) (wanting : Bool) (s : Session) (step : Option Step) → IsIn q s → ReplyTells q s (go_on q wanting s step)
tells_on q wanting s step i =
    tells_settled q s (found_of q s step) wanting i (upward q (asked_of s step) most_turns s.made s.broke s.faulted)
    (forward_within q (asked_of s step) most_turns s.made s.broke s.faulted i.within)

tells_step : (q : Looked) (wanting : Bool) (s : Session) (h : Option ℕ) (first end : ℕ) → IsIn q s
    → ReplyTells q s (step_of q wanting s h first end)
tells_step q wanting s None first end i = stays q s s (sent wrong) false i refl refl (tells_answer q s.told wrong refl)
tells_step q wanting s (Some h) first end i = tells_on q wanting s (Some (record { hart = h; first = first; end = end })) i

-- back to a place
tells_back : (q : Looked) (wanting : Bool) (s : Session) (found : ℕ × Stop) → IsIn q s → found.0 ≤ s.made
    → ReplyTells q s (back_to q wanting s found)
tells_back q true s found i below = stays q s s (sent want) false i refl refl (tells_answer q s.told want refl)
tells_back q false s found i below =
    let made = i.made in
    let within = i.within in
    let same : s.told ≡ max s.told found.0 = omega (arith, made, below) in
    record {
      tells = subst (λ j. Tells q s.told j (stop_said q s.shown found)) same (tells_stop q s.told s.shown found);
      stands = stands_in q s found (omega (arith, within, below));
    }

tells_run : (q : Looked) (s : Session) (found : ℕ × Stop) → IsIn q s → s.made ≤ found.0 → found.0 ≤ q.most
    → ReplyTells q s (run_to q s found)
tells_run q s found i up few = record {
  tells = tells_more q s.told (max s.told found.0) (max s.told found.0) (shows_to q s.told s.made found) (stop_said q s.shown found)
      (tells_went q s found i up) (tells_stop q (max s.told found.0) s.shown found);
  stands = stands_in q s found few;
}

tells_to : (q : Looked) (wanting : Bool) (s : Session) (n : ℕ) → IsIn q s → ReplyTells q s (go_to q wanting s n)
tells_to q wanting s n i =
    let found = forward q past_all (n - s.made) s.made false false in
    tells_if q s (nat_lt q.most n) (told s wrong) (if nat_lt n s.made then back_to q wanting s (n, S.Pauses) else run_to q s found)
    (stays q s s (sent wrong) false i refl refl (tells_answer q s.told wrong refl))
    ((elim (nat_lt n s.made) as (λ b. nat_lt n s.made ≡ b → ReplyTells q s
    (if b then back_to q wanting s (n, S.Pauses) else run_to q s found)) [
      | true ↦ λ e. tells_back q wanting s (n, S.Pauses) i (below_made n s.made e)
      | false ↦ λ e. tells_run q s found i (upward q past_all (n - s.made) s.made false false)
          (forward_within q past_all (n - s.made) s.made false false i.within)
    ]) refl)

tells_look : (q : Looked) (s : Session) (request : Request) → IsIn q s → is_shown (cut (look_text (view_of q s) s request)) ≡ false
    → ReplyTells q s (answered s (look_text (view_of q s) s request))
tells_look q s request i plain = tells_text q s s (look_text (view_of q s) s request) i refl refl plain

-- every reply does
pub tells_reply : (q : Looked) (w : Bool) (s : Session) (request : Request) → IsIn q s → ReplyTells q s (reply q w s request)
tells_reply q w s R.Why i = tells_text q s s (stop_text s.shown s.stop) i refl refl (plain_stop s.shown s.stop)
tells_reply q w s R.Extend i = tells_ok q s s i refl refl
tells_reply q w s R.NoAcks i = tells_ok q s (record s { acknowledges = false }) i refl refl
tells_reply q w s (R.Show thread) i = tells_shown q (state_at q s.made).core s thread i
tells_reply q w s (R.Follow thread) i = tells_followed q (state_at q s.made).core s thread i
tells_reply q w s (R.IsThere thread) i = tells_found q (state_at q s.made).core s thread i
tells_reply q w s R.Registers i = tells_look q s R.Registers i (plain_registers (state_at q s.made).core s.shown s.made)
tells_reply q w s (R.Register n) i = tells_look q s (R.Register n) i (plain_register (state_at q s.made).core s.shown s.made n)
tells_reply q w s (R.Memory address count) i = tells_look q s (R.Memory address count) i
    (plain_memory (state_at q s.made).core address count)
tells_reply q w s R.Change i = tells_wrong q s i
tells_reply q w s (R.Set address) i = tells_set q s address i
tells_reply q w s (R.Clear address) i = tells_ok q s (clear_break s address).session i refl refl
tells_reply q w s R.Go i = tells_on q w s None i
tells_reply q w s (R.Step thread) i = tells_step q w s (thread_hart (state_at q s.made).core s.followed thread) 0 0 i
tells_reply q w s (R.Range thread first end) i = tells_step q w s (thread_hart (state_at q s.made).core s.followed thread) first end i
tells_reply q w s R.StepBack i =
    tells_back q w s (backward q (sought_of s (Some s.followed)) most_turns s.made) i
    (backward_below q (sought_of s (Some s.followed)) most_turns s.made)
tells_reply q w s R.GoBack i = tells_back q w s (backward q (sought_of s None) most_turns s.made) i
    (backward_below q (sought_of s None) most_turns s.made)
tells_reply q w s (R.After n) i = tells_to q w s n i
tells_reply q w s R.Ways i = tells_look q s R.Ways i refl
tells_reply q w s R.End i = tells_ok q s s i refl refl
tells_reply q w s R.Supported i = tells_look q s R.Supported i refl
tells_reply q w s R.Attached i = tells_look q s R.Attached i refl
tells_reply q w s R.Threads i = tells_look q s R.Threads i (plain_threads (length (state_at q s.made).core.harts))
tells_reply q w s R.MoreThreads i = tells_look q s R.MoreThreads i refl
tells_reply q w s R.Current i = tells_look q s R.Current i (plain_current s.shown)
tells_reply q w s (R.About thread) i = tells_look q s (R.About thread) i (plain_about (view_of q s) (there (state_at q s.made).core thread))
tells_reply q w s (R.Part object at count) i = tells_look q s (R.Part object at count) i
    (plain_window (object_text (view_of q s) object) at count)
tells_reply q w s R.Leave i = stays q s s (sent ok) true i refl refl (tells_answer q s.told ok refl)
tells_reply q w s R.Kill i = stays q s s [] true i refl refl (tells_nothing q s.told)
tells_reply q w s R.Wrong i = tells_wrong q s i
tells_reply q w s R.Unknown i = tells_look q s R.Unknown i refl

tells_heard : (q : Looked) (w : Bool) (s : Session) (body : List ℕ) (heard : Heard) → IsIn q s → ReplyTells q s (reply_to q w s body heard)
tells_heard q w s body H.Nothing i = stays q s s [] false i refl refl (tells_nothing q s.told)
tells_heard q w s body H.Wrong i = stays q s s (mark s 45) false i refl refl (tells_mark q s.told 45 (inr refl) s.acknowledges)
tells_heard q w s body H.Long i =
    stays q s s (mark s 43 ++ sent []) false i refl refl
    (tells_more q s.told s.told s.told (mark s 43) (sent []) (tells_mark q s.told 43 (inl refl) s.acknowledges)
    (tells_answer q s.told [] refl))
tells_heard q w s body H.Packet i =
    let r = reply q w s (request_of body) in
    let one = tells_reply q w s (request_of body) i in
    record {
      tells = tells_more q s.told s.told r.session.told (mark s 43) r.said (tells_mark q s.told 43 (inl refl) s.acknowledges)
          one.tells;
      stands = one.stands;
    }

-- and so does a talk
pub record TalkTells (q : Looked) (t u : Talk) (said : List ℕ) : Type 0 where
  pub tells : Tells q t.session.told u.session.told said
  pub stands : IsIn q u.session

pub tells_all : (q : Looked) (bytes : List Byte) (t : Talk) → IsIn q t.session → TalkTells q t (talk_after q t bytes) (said_to q t bytes)
tells_all q [] t i = record { tells = tells_nothing q t.session.told; stands = i }
tells_all q (b ∷ more) t i =
    (elim t.left as (λ v. TalkTells q t (if v then t else talk_after q (talk_byte q t b) more)
    (if v then [] else (reply_byte q t b).said ++ said_to q (talk_byte q t b) more)) [
      | true ↦ record { tells = tells_nothing q t.session.told; stands = i }
      | false ↦
          let next = talk_byte q t b in
          let one = tells_heard q b.1 t.session (after t.gathered b.0).body (heard t.gathered b.0) i in
          let rest = tells_all q more next one.stands in
          record {
            tells = tells_more q t.session.told next.session.told (talk_after q next more).session.told (reply_byte q t b).said
                (said_to q next more) one.tells rest.tells;
            stands = rest.stands;
          }
    ])

first_in : (q : Looked) → IsIn q first_talk.session
first_in q = record { made = omega arith; within = omega arith }

pub console_is_told : ConsoleIsTold
console_is_told q bytes = let all = tells_all q bytes first_talk (first_in q) in record { tells = all.tells; made = all.stands.made }

pub no_packet_changes_the_run : NoPacketChangesTheRun
no_packet_changes_the_run q bytes = record {
  within = (tells_all q bytes first_talk (first_in q)).stands.within;
  registers = λ wanting. refl;
  memory = λ wanting address count. refl;
}

pub want_changes_no_other : WantChangesNoOther
want_changes_no_other q s R.Why e = refl
want_changes_no_other q s R.Extend e = refl
want_changes_no_other q s R.NoAcks e = refl
want_changes_no_other q s (R.Show thread) e = refl
want_changes_no_other q s (R.Follow thread) e = refl
want_changes_no_other q s (R.IsThere thread) e = refl
want_changes_no_other q s R.Registers e = refl
want_changes_no_other q s (R.Register n) e = refl
want_changes_no_other q s (R.Memory address count) e = refl
want_changes_no_other q s R.Change e = refl
want_changes_no_other q s (R.Set address) e = refl
want_changes_no_other q s (R.Clear address) e = refl
want_changes_no_other q s R.Go e = absurd (cc (e))
want_changes_no_other q s (R.Step thread) e = absurd (cc (e))
want_changes_no_other q s (R.Range thread first end) e = absurd (cc (e))
want_changes_no_other q s R.StepBack e = absurd (cc (e))
want_changes_no_other q s R.GoBack e = absurd (cc (e))
want_changes_no_other q s (R.After n) e = absurd (cc (e))
want_changes_no_other q s R.Ways e = refl
want_changes_no_other q s R.End e = refl
want_changes_no_other q s R.Supported e = refl
want_changes_no_other q s R.Attached e = refl
want_changes_no_other q s R.Threads e = refl
want_changes_no_other q s R.MoreThreads e = refl
want_changes_no_other q s R.Current e = refl
want_changes_no_other q s (R.About thread) e = refl
want_changes_no_other q s (R.Part object at count) e = refl
want_changes_no_other q s R.Leave e = refl
want_changes_no_other q s R.Kill e = refl
want_changes_no_other q s R.Wrong e = refl
want_changes_no_other q s R.Unknown e = refl
