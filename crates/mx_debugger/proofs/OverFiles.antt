-- What a call promises over a store that tells its files, from how it ended.
use Rattle.std.proofs.Common.{◌≡◌, ◌≢◌, ◌≤◌, ◌⊎◌, ℕ, List, [], ◌∷◌, length, Option, Some, None, IsTrue, Result, Ok, Err, refl, sym, ap}
use Rattle.std.proofs.Common.{subst, ◌∙◌, inl, inr, arith}
use Rattle.std.proofs.lemmas.Bool.{le-ltb}
use Rattle.mx_io.specs.declared.Failed.{Failed}
use Rattle.mx_io.specs.Count.{Stays}
use Rattle.mx_io.specs.Sink.{SinkState}
use Rattle.mx_io.specs.Store.{FileMap, StoreState}
use Rattle.mx_io.specs.Answer.{Answer, HasSucceeded, Talks, Tells}
use Rattle.mx_io.specs.Texts.{AppendsWhole}
use Rattle.mx_io.proofs.Text.{Stays-not-Rose}
use Rattle.mx_io.proofs.Talks.{Each, all_succeeded, talks_told}
use Rattle.mx_model.specs.Run.{Schedule, ByBytes}
use Rattle.mx_model.specs.State.{State}
use Rattle.mx_manifest.specs.Plan.{Said}
use Rattle.mx_snapshot.specs.Kept.{kept_of}
use Rattle.mx_turns.specs.declared.fault.SinkFault.{SinkFault}
use Rattle.mx_turns.specs.declared.fault.SinkFault.TheVariants as F
use Rattle.mx_turns.specs.Ends.{HasRoom, IsSinkFault, Texts, sinks, still}
use Rattle.mx_debug.specs.Session.{Looked}
use Rattle.mx_debug.specs.Talks.{Headline}
use Rattle.mx_debug.proofs.HeadLaws.{headline_of}
use Rattle.mx_commands.specs.declared.side.Side.TheVariants.{First}
use Rattle.mx_commands.specs.declared.status.Status.{Status}
use Rattle.mx_commands.specs.declared.status.Status.TheVariants.{Ran, ConsoleFault, WantOfMemory}
use Rattle.mx_commands.specs.declared.order.Way.{Way}
use Rattle.mx_commands.specs.declared.order.Way.TheVariants as way
use Rattle.mx_commands.specs.Order.{Order}
use Rattle.mx_commands.specs.Finding.{Finding, Whole, found_file, found_in}
use Rattle.mx_words.specs.Limits.{most_file_bytes}
use Rattle.mx_commands.specs.Next.{End, Next, Outcome, after_file, refusal}
use Rattle.mx_commands.specs.Commands.{going, schedule_file, scheduled, texts_of}
use Rattle.mx_commands.specs.Leads.{LeadsTo}
use Rattle.mx_commands.specs.Ends.{Ends}
use Rattle.mx_commands.proofs.Leads.{leads_over, over_decided}
use Rattle.mx_run.specs.Leads.{IsOutcome}
use Rattle.mx_run.specs.Plainly.{Boots, HasFile, IsSchedule}
use Rattle.mx_run.specs.Words.{Go}
use Rattle.mx_run.proofs.Promises.{if_some}
use Rattle.mx_run.proofs.RefusalLaw.{IsToldBy, by_way}
use Rattle.mx_run.proofs.RunLaw.{Leads, leads-load}
use Rattle.mx_debugger.specs.Debugs.{Debugs, EndsBefore, TalksOfRun, status_of}
use Rattle.mx_debugger.specs.Looking.{Fixes, Made, loaded_by, looked_at, looking, outcome_of}
use Rattle.mx_debugger.specs.Plainly.{CompletesSo, IsRefused, OverFiles, RefusesSo, RefusesSurely, SaysSo, TalksSo, whole}
use Rattle.mx_debugger.proofs.Alike.{AreAlike, talk_on}

found_whole : (files : FileMap) (most : ℕ) (name bytes : List ℕ) → HasFile files most name bytes → found_in files most name ≡ Whole bytes
found_whole files most name bytes has = ap (found_file most) has.stands ∙ rw (le-ltb most (length bytes) has.fits) refl

-- a schedule that is asked is taken
schedule_led : (files : FileMap) (quantum : ℕ) (made : Schedule → Outcome) (name : Option (List ℕ)) (schedule : Schedule)
    → IsSchedule files quantum name schedule
    → Leads files (scheduled quantum made name) (made schedule)
schedule_led files quantum made None schedule is = (0, ap (λ (p : Schedule). End (made p)) (sym is))
schedule_led files quantum made (Some name) schedule is =
    let found = found_whole files most_file_bytes name is.0 is.1 in
    let file = schedule_file name in
    let step : List Finding → Next = after_file file (λ bytes more. End (made (ByBytes bytes))) in (
      1,
      (
        file,
        refl,
        subst (λ (f : Finding). step (f ∷ []) ≡ End (made schedule)) (sym found)
            (ap (λ (p : Schedule). End (made p)) (sym is.2)),
      ),
    )

-- what boots, with its schedule, leads to the texts that are made of its run
looking_led : (files : FileMap) (o : Order) (made : Made) (plan : Said) (s : State) (schedule : Schedule)
    (boots : Boots files o.file plan s) → IsSchedule files plan.quantum o.schedule schedule
    → Leads files (looking o made) (outcome_of made plan (looked_at o plan boots.images s schedule))
looking_led files o made plan s schedule boots is =
    leads-load files First o.file (loaded_by o made) plan s (outcome_of made plan (looked_at o plan boots.images s schedule)) refl boots
    (schedule_led files plan.quantum (λ schedule. outcome_of made plan (looked_at o plan boots.images s schedule)) o.schedule schedule is)

-- a sink that holds nothing, and surely takes one byte
abbrev pub open_sink : SinkState
open_sink = record { written = Some []; faults = 0; room = 1 }

not_nothing : (x : ℕ) (xs : List ℕ) → [] ≡ x ∷ xs → ⊥
not_nothing x xs e = cc

nothing_held : AppendsWhole (Some []) (Some []) (0 ∷ []) → ⊥
nothing_held a = not_nothing 0 [] a.grows

-- where the counts stay no sink failed
no_fault : (texts : Texts) (before now : SinkState) (which : SinkFault) → Stays before.faults now.faults
    → IsSinkFault which texts (sinks open_sink before open_sink) (sinks open_sink now open_sink) → ⊥
no_fault texts before now F.Console stays f = Stays-not-Rose 0 0 (refl, omega arith) f.2.rose
no_fault texts before now F.Report stays f = Stays-not-Rose before.faults now.faults stays f.2.rose
no_fault texts before now F.Dump stays f = Stays-not-Rose 0 0 (refl, omega arith) f.1.rose

-- what `run` refuses is a line on the report
told_line : (files : FileMap) (o : Order) (outcome : Outcome) → o.way ≡ way.Run → IsOutcome (Some (Go o)) files outcome
    → outcome.status ≢ Ran
    → (name : List ℕ) × (outcome ≡ refusal name outcome.status)
told_line files o outcome runs is refused =
    let h = by_way files o o.way in
    let e : h.0 ≡ outcome = over_decided h.2.0 is.0 (going o o.way) files h.0 outcome h.2.1 is.1 in
    subst (λ (x : Outcome). IsToldBy x) e h.1 refused

-- a report that has room for it
refusal_room : (outcome : Outcome) (name : List ℕ) (before : SinkState) → outcome ≡ refusal name outcome.status
    → length outcome.texts.report ≤ before.room
    → HasRoom outcome.texts (sinks open_sink before open_sink)
refusal_room outcome name before is fits =
    let none : length outcome.texts.console ≡ 0 = ap (λ (x : Outcome). length x.texts.console) is in
    let no : length outcome.texts.dump ≡ 0 = ap (λ (x : Outcome). length x.texts.dump) is in
    record { console = omega (arith, none); report = fits; dump = omega (arith, no) }

headline_whole : {L : Type 0} (hears says : L → List ℕ → L → Type 0) (run : Looked) (l m : L) (r : Result (Unit {0}) Failed)
    → Ran ≡ status_of r → Headline hears says run l m r
    → Headline hears says run l m whole
headline_whole hears says run l m (Ok a) e head = head
headline_whole hears says run l m (Err f) e head = let e : Ran ≡ ConsoleFault = e in cc

module _ {S L : Type 0} (state : S → StoreState) (gives : S → Answer → S → Type 0) (law : (s : S) (a : Answer) (t : S) → gives s a t
    → Tells (state s) a (state t))
    (hears says : L → List ℕ → L → Type 0) (room : L → ℕ) (s t : S) (l m : L) (before now : SinkState) (status : Status) where
  -- every answer of the call was a success
  abbrev pub Succeeds : Type 0
  Succeeds = (answers : List Answer) → Talks gives s answers t → Each HasSucceeded answers

  stays_succeeds : Stays (state s).faults (state t).faults → Succeeds
  stays_succeeds stays answers talks =
      all_succeeded (state s).faults (state t).faults (Stays-not-Rose (state s).faults (state t).faults stays) answers
      (talks_told state gives law s t answers talks).failed

  sure_succeeds : IsTrue (state s).sure → Succeeds
  sure_succeeds sure answers talks = ((talks_told state gives law s t answers talks).sure sure).0

  module _ (files : FileMap) (told : (state s).told ≡ Some files) (all : Succeeds) where
    -- answers that lead to an outcome do so over the files
    over : (step : List Finding → Next) (answers : List Answer) (outcome : Outcome) → Talks gives s answers t → LeadsTo step answers outcome
        → Leads files step outcome
    over step answers outcome talks led = (
      led.0,
      leads_over led.0 step files answers outcome (all answers talks)
          ((talks_told state gives law s t answers talks).told files told) led.1,
    )

    one : (step : List Finding → Next) (a b : Outcome) → Leads files step a → Leads files step b → a ≡ b
    one step a b first second = over_decided first.0 second.0 step files a b first.1 second.1

    module _ (o : Order) (plan : Said) (begin : State) (schedule : Schedule) (boots : Boots files o.file plan begin)
        (is : IsSchedule files plan.quantum o.schedule schedule) where
      -- the run that was fixed is that of the files
      fixed_alike : (other : Said) (run : Looked) → Fixes gives s t o other run
          → AreAlike run (looked_at o plan boots.images begin schedule)
      fixed_alike other run fixed list =
          let made : Made = λ p r. still [] (list r) [] in
          let f = fixed made in
          let e : f.2.0 ≡ outcome_of made plan (looked_at o plan boots.images begin schedule) =
          one (looking o made) f.2.0 (outcome_of made plan (looked_at o plan boots.images begin schedule))
          (over (looking o made) f.0 f.2.0 f.1 f.2.1) (looking_led files o made plan begin schedule boots is) in
          sym f.2.2.report ∙ ap (λ (x : Outcome). x.texts.report) e

      -- and the call didn't end before
      not_before : EndsBefore gives o s t l m before now status → status ≢ WantOfMemory → ⊥
      not_before w enough =
          let made : Made = λ p r. still (0 ∷ []) [] [] in
          let c = w.ends made open_sink open_sink in
          elim c.2 [
            | inl h ↦
                let e : h.0 ≡ outcome_of made plan (looked_at o plan boots.images begin schedule) =
                one (looking o made) h.0 (outcome_of made plan (looked_at o plan boots.images begin schedule))
                (over (looking o made) c.0 h.0 c.1 h.1) (looking_led files o made plan begin schedule boots is) in
                let ends = subst (λ (x : Outcome). Ends x (sinks open_sink before open_sink) (sinks open_sink now open_sink) status) e h.2
                in
                nothing_held (ends.sure (record { console = omega arith; report = omega arith; dump = omega arith })).1.console
            | inr wants ↦ enough wants.0
          ]

    -- what `run` refuses ends as `run` does, and before there is a run
    refused_ends : (o : Order) (outcome : Outcome) → o.way ≡ way.Run
        → TalksOfRun gives hears says room o s t l m before now status ⊎ EndsBefore gives o s t l m before now status
        → IsOutcome (Some (Go o)) files outcome → outcome.status ≢ Ran → status ≢ WantOfMemory
        → Ends outcome (sinks open_sink before open_sink) (sinks open_sink now open_sink) status × (m ≡ l)
    refused_ends o outcome runs d is refused enough =
        let made : Made = λ p r. texts_of o o.way (kept_of p) r.start r.schedule in
        let led : Leads files (looking o made) outcome = subst (λ (w : Way). Leads files (going o w) outcome) runs is in
        elim d [
          | inl h ↦
              let f = h.fixed made in
              let e : f.2.0 ≡ outcome = one (looking o made) f.2.0 outcome (over (looking o made) f.0 f.2.0 f.1 f.2.1) led in
              absurd (refused (ap (λ (x : Outcome). x.status) (sym e) ∙ f.2.2.status))
          | inr w ↦
              let c = w.ends made open_sink open_sink in
              elim c.2 [
                | inl h ↦
                    let e : h.0 ≡ outcome = one (looking o made) h.0 outcome (over (looking o made) c.0 h.0 c.1 h.1) led in (
                      subst (λ (x : Outcome). Ends x (sinks open_sink before open_sink) (sinks open_sink now open_sink) status) e
                          h.2,
                      w.quiet,
                    )
                | inr wants ↦ absurd (enough wants.0)
              ]
        ]

    refused_as : (o : Order) (outcome : Outcome) → o.way ≡ way.Run
        → TalksOfRun gives hears says room o s t l m before now status ⊎ EndsBefore gives o s t l m before now status
        → IsOutcome (Some (Go o)) files outcome → outcome.status ≢ Ran → status ≢ WantOfMemory → Stays before.faults now.faults
        → IsRefused outcome l m before now status
    refused_as o outcome runs d is refused enough kept =
        let r = refused_ends o outcome runs d is refused enough in
        elim r.0.how [
          | inl whole ↦ record { by = whole.0; report = whole.1.report; quiet = r.1 }
          | inr fault ↦ absurd (no_fault outcome.texts before now fault.0 kept fault.2)
        ]

  -- where the store is sure its count is kept
  by_answers : IsTrue (state s).sure → (answers : List Answer) → Talks gives s answers t → (state t).faults ≡ (state s).faults
  by_answers sure answers talks = ((talks_told state gives law s t answers talks).sure sure).1

  kept_store : IsTrue (state s).sure → (asked : Option Order) → Debugs gives hears says room asked s t l m before now status
      → (state t).faults ≡ (state s).faults
  kept_store sure None h = ap (λ (x : S). (state x).faults) h.unread
  kept_store sure (Some o) (inl h) = let f = h.fixed (λ p r. still [] [] []) in by_answers sure f.0 f.1
  kept_store sure (Some o) (inr w) = let c = w.ends (λ p r. still [] [] []) open_sink open_sink in by_answers sure c.0 c.1

  module _ (asked : Option Order) (d : Debugs gives hears says room asked s t l m before now status) where
    asked_for : (o : Order) → asked ≡ Some o → TalksOfRun gives hears says room o s t l m before now status
        ⊎ EndsBefore gives o s t l m before now status
    asked_for o is = subst (λ (a : Option Order). Debugs gives hears says room a s t l m before now status) is d

    talk_for : (files : FileMap) → (state s).told ≡ Some files → Succeeds → status ≢ WantOfMemory
        → TalksSo hears says room asked l m before now status files
    talk_for files told all enough o plan begin schedule is boots by =
        elim (asked_for o is) [
          | inl h ↦ record {
            report = h.report;
            talk = talk_on h.run (looked_at o plan boots.images begin schedule)
                (fixed_alike files told all o plan begin schedule boots by h.plan h.run h.fixed) hears says room l m status h.talk;
          }
          | inr w ↦ absurd (not_before files told all o plan begin schedule boots by w enough)
        ]

    pub talks_so : OverFiles (TalksSo hears says room asked l m before now status) (state s) (state t) status
    talks_so =
        if_some (state s).told (λ files. Stays (state s).faults (state t).faults → status ≢ WantOfMemory
        → TalksSo hears says room asked l m before now status files)
        (λ files told stays. talk_for files told (stays_succeeds stays))

    pub says_so : OverFiles (SaysSo hears says asked l m status) (state s) (state t) status
    says_so =
        if_some (state s).told (λ files. Stays (state s).faults (state t).faults → status ≢ WantOfMemory
        → SaysSo hears says asked l m status files)
        (λ files told stays enough o plan begin schedule is boots by ran.
        let talk = (talk_for files told (stays_succeeds stays) enough o plan begin schedule is boots by).talk in
        let run = looked_at o plan boots.images begin schedule in
        headline_whole hears says run l m talk.result (sym ran ∙ talk.by) (headline_of hears says room run l m talk.result talk.answered))

    pub refuses_so : ((o : Order) → asked ≡ Some o → o.way ≡ way.Run)
        → OverFiles (RefusesSo asked l m before now status) (state s) (state t) status
    refuses_so runs =
        if_some (state s).told (λ files. Stays (state s).faults (state t).faults → status ≢ WantOfMemory
        → RefusesSo asked l m before now status files)
        (λ files told stays enough o outcome is led refused kept.
        refused_as files told (stays_succeeds stays) o outcome (runs o is) (asked_for o is) led refused enough kept)

    pub completes_so : ((o : Order) → asked ≡ Some o → o.way ≡ way.Run)
        → CompletesSo hears says room asked (state s) (state t) l m before now status
    completes_so runs =
        if_some (state s).told
        (λ files. IsTrue (state s).sure → ((state t).faults ≡ (state s).faults)
        × (status ≢ WantOfMemory → TalksSo hears says room asked l m before now status files
        × RefusesSurely asked l m before now status files))
        (λ files told sure. (
          kept_store sure asked d,
          λ enough. (
            talk_for files told (sure_succeeds sure) enough,
            λ o outcome is led refused fits.
                let r = refused_ends files told (sure_succeeds sure) o outcome (runs o is) (asked_for o is) led refused enough in
                let line = told_line files o outcome (runs o is) led refused in
                let sure = r.0.sure (refusal_room outcome line.0 before line.1 fits) in
                (sure.2.report, record { by = sure.0; report = sure.1.report; quiet = r.1 }),
          ),
        ))
