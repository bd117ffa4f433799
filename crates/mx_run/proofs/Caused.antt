-- From the cause of a status to it, and what a status shows of a store.
use Rattle.std.proofs.Common.{◌≡◌, ◌≢◌, ℕ, ◌*◌, ◌⊎◌, Bool, List, [], ◌∷◌, ◌++◌, Option, Some, None, IfSome, Result, Ok, refl, sym, ap}
use Rattle.std.proofs.Common.{subst, ◌∙◌, inl, inr}
use Rattle.std.specs.Prelude.{map as list_map}
use Rattle.std.specs.FinMap.{get}
use Rattle.std.proofs.lemmas.List.{append-nil}
use Rattle.mx_io.specs.Count.{Rose}
use Rattle.mx_io.specs.Store.{FileMap, StoreState}
use Rattle.mx_io.specs.Answer.{Answer, HasSucceeded, IsOf, Tells, Talks}
use Rattle.mx_io.proofs.Talks.{Each, each-front, each-rest, talks_told}
use Rattle.mx_model.specs.State.{State}
use Rattle.mx_manifest.specs.declared.fault.BootFault.{BootFault}
use Rattle.mx_manifest.specs.declared.fault.Key.{Key}
use Rattle.mx_manifest.specs.Plan.{Said}
use Rattle.mx_boot.specs.Boot.{Refusal, Faulty, TooFull, boot_of}
use Rattle.mx_boot.specs.Faults.{ram_words}
use Rattle.mx_snapshot.specs.Stored.{Stored}
use Rattle.mx_resume.specs.Snapshot.{Unread, FaultAt, NeedsMore}
use Rattle.mx_commands.specs.declared.side.Side.{Side}
use Rattle.mx_commands.specs.declared.side.Side.TheVariants.{First, Second}
use Rattle.mx_commands.specs.declared.status.FileRole.{FileRole}
use Rattle.mx_commands.specs.declared.status.Status.{Status}
use Rattle.mx_commands.specs.declared.status.Status.TheVariants.{Ran, Usage, Refused, TablesFull, StoreFault, ShortFile, NoFile}
use Rattle.mx_commands.specs.declared.status.Status.TheVariants.{ConsoleFault, ReportFault, DumpFault, WantOfMemory, AsmFault, Unlike}
use Rattle.mx_commands.specs.declared.status.Status.TheVariants.{NoDomain, SecondRefused, SecondTablesFull, SnapshotFault}
use Rattle.mx_commands.specs.Order.{Pair}
use Rattle.mx_run.specs.Words.{Request, Go, Asm, Audit, Twin, Mill}
use Rattle.mx_commands.specs.declared.order.Way.{Way}
use Rattle.mx_commands.specs.Finding.{Finding, Absent, Large, Short, Broken, Whole}
use Rattle.mx_mill.specs.Mill.{mill_text}
use Rattle.mx_commands.specs.Next.{Outcome, Wanted, Read, End, refusal, reported, lack_of}
use Rattle.mx_commands.specs.Boots.{Rest, refused_by, booted, planned}
use Rattle.mx_commands.specs.Commands.{run_from, going, assembled, after_first}
use Rattle.mx_run.specs.Commands.{next}
use Rattle.mx_commands.specs.Compared.{alike, alike_by, compared, unlike}
use Rattle.mx_commands.specs.Resumed.{unread_by, resumed}
use Rattle.mx_run.specs.Leads.{Leads}
use Rattle.mx_run.specs.Causes.{LeadsToStatus, HasFault, IsFaulty, IsRefused, IsUnread, IsUnassembled, Compares, IsUnlike, HasNoDomain}
use Rattle.mx_run.specs.Causes.{Cause}
use Rattle.mx_commands.specs.Leads.{FindsAll, Reaches, FindsLast}
use Rattle.mx_commands.proofs.FileSteps.{both_taken}
use Rattle.mx_commands.proofs.Leads.{read_end}
use Rattle.mx_run.proofs.Promises.{if_some}
use Rattle.mx_commands.proofs.Shortfalls.{broken_shows, short_never, absent_named, absent_found}
use Rattle.mx_commands.proofs.StepCauses.{status_same, all_found, leads_all, all_with}
use Rattle.mx_run.proofs.Causes.{status_caused}
use Rattle.mx_commands.proofs.Shapes.{Shaped, reached, shape_end, shape_way, shape_assembling, shape_auditing, shape_comparing}

shape_request : (asked : Option Request) → Shaped (next asked)
shape_request None = shape_end (refusal [] Usage)
shape_request (Some (Go o)) = shape_way o o.way
shape_request (Some (Asm source)) = shape_assembling source
shape_request (Some (Mill k)) = shape_end (reported (mill_text k))
shape_request (Some (Twin p)) = shape_comparing p
shape_request (Some (Audit name)) = shape_auditing name

module _ (asked : Option Request) (answers : List Answer) where
  -- what was found leads to this status
  ended_so : (found : List Finding) (outcome : Outcome) → FindsAll (next asked) answers found → next asked found ≡ End outcome
      → LeadsToStatus asked answers outcome.status
  ended_so found outcome all is = (outcome, leads_all (next asked) answers found outcome all is, refl)

  led_by_lack : (file : Wanted) (found : Finding) (status : Status) → FindsLast (next asked) answers file found
      → lack_of file found ≡ Some status → LeadsToStatus asked answers status
  led_by_lack file found status l lack =
      let r = l.1 in
      let all = subst (λ (xs : List Answer). FindsAll (next asked) xs (r.others ++ found ∷ [])) (sym r.parts)
      (all_with (next asked) r.before l.0 r.others file found r.finds r.read l.2) in
      ended_so (r.others ++ found ∷ []) (refusal file.name status) all (shape_request asked r.others file r.read found status lack)

  led_by_fault : (side : Side) (fault : BootFault) → IsFaulty asked answers side fault
      → LeadsToStatus asked answers (refused_by side (Faulty fault))
  led_by_fault side fault c =
      ended_so (c.0 ++ Whole c.3 ∷ []) (refusal c.1 (refused_by side (Faulty fault))) c.4
      (c.2.goes (Whole c.3 ∷ []) ∙ ap (λ (p : Result Said BootFault). planned side c.1 c.2.rest p []) c.5)

  led_by_boot : (side : Side) (why : Refusal) → IsRefused asked answers side why → LeadsToStatus asked answers (refused_by side why)
  led_by_boot side why c =
      let found = list_map Whole c.4 in
      ended_so (c.0 ++ Whole c.3 ∷ found) (refusal c.1 (refused_by side why)) c.5
      (c.2.goes (Whole c.3 ∷ found) ∙ ap (λ (p : Result Said BootFault). planned side c.1 c.2.rest p found) c.7
      ∙ ap (λ (more : List Finding). planned side c.1 c.2.rest (Ok c.6) more) (sym (append-nil found))
      ∙ both_taken side (4 * ram_words c.6) c.6 (λ images inputs. booted side c.1 c.2.rest c.6 (boot_of c.6 images inputs)) c.4 c.8 c.9 []
      c.10
      ∙ ap (λ (b : Result State Refusal). booted side c.1 c.2.rest c.6 b []) c.11)

  led_by_refusal : (side : Side) (fault : BootFault) → HasFault asked answers side fault
      → LeadsToStatus asked answers (refused_by side (Faulty fault))
  led_by_refusal side fault c =
      elim c [
        | inl h ↦ led_by_lack h.0 Large (refused_by side (Faulty fault)) h.2 (ap (λ s. Some s) h.1)
        | inr h ↦ elim h [ inl k ↦ led_by_fault side fault k | inr k ↦ led_by_boot side (Faulty fault) k ]
      ]

  led_by_unread : (why : Unread) → IsUnread asked answers why → LeadsToStatus asked answers (unread_by why)
  led_by_unread why c =
      ended_so (Whole c.3 ∷ []) (refusal c.0.file (unread_by why)) c.4
      (ap (λ (a : Option Request). next a (Whole c.3 ∷ [])) c.1 ∙ ap (λ (w : Way). going c.0 w (Whole c.3 ∷ [])) c.2
      ∙ ap (λ (r : Result Stored Unread). resumed c.0.file (run_from c.0) r []) c.5)

  led_by_source : (status : Status) → IsUnassembled asked answers status → LeadsToStatus asked answers status
  led_by_source status c =
      subst (LeadsToStatus asked answers) c.4
      (ended_so (Whole c.2 ∷ []) (assembled c.0 c.2) c.3 (ap (λ (a : Option Request). next a (Whole c.2 ∷ [])) c.1))

  -- the plans of a comparison lead to its status
  led_by_pair : (p : Pair) (plan other : Said) → (c : Compares asked answers p plan other)
      → LeadsToStatus asked answers (compared p plan c.first.state other c.second.state).status
  led_by_pair p plan other c =
      let later = list_map Whole c.others in
      let rest : Rest = λ other t more. End (compared p plan c.first.state other t) in
      ended_so ((Whole c.bytes ∷ list_map Whole c.files) ++ (Whole c.more ∷ later)) (compared p plan c.first.state other c.second.state)
      c.finds
      (ap (λ (a : Option Request). next a (Whole c.bytes ∷ (list_map Whole c.files ++ (Whole c.more ∷ later)))) c.asks
      ∙ ap (λ (r : Result Said BootFault). planned First p.first (after_first p) r (list_map Whole c.files ++ (Whole c.more ∷ later)))
      c.first.good
      ∙ both_taken First (4 * ram_words plan) plan (λ images inputs. booted First p.first (after_first p) plan (boot_of plan images inputs))
      c.files c.first.images c.first.inputs (Whole c.more ∷ later) c.first.taken
      ∙ ap (λ (b : Result State Refusal). booted First p.first (after_first p) plan b (Whole c.more ∷ later)) c.first.boots
      ∙ ap (λ (r : Result Said BootFault). planned Second p.second rest r later) c.second.good
      ∙ ap (λ (more : List Finding). planned Second p.second rest (Ok other) more) (sym (append-nil later))
      ∙ both_taken Second (4 * ram_words other) other (λ images inputs. booted Second p.second rest other (boot_of other images inputs))
      c.others c.second.images c.second.inputs [] c.second.taken
      ∙ ap (λ (b : Result State Refusal). booted Second p.second rest other b []) c.second.boots)

  led_by_key : (key : Key) → IsUnlike asked answers key → LeadsToStatus asked answers (Unlike key)
  led_by_key key c =
      subst (LeadsToStatus asked answers)
      (ap (λ (k : Option Key). (unlike k (alike c.0 c.1 c.3.first.state c.3.second.state)).status) c.4) (led_by_pair c.0 c.1 c.2 c.3)

  led_by_domain : HasNoDomain asked answers → LeadsToStatus asked answers NoDomain
  led_by_domain c =
      subst (LeadsToStatus asked answers)
      (ap (λ (k : Option Key). (unlike k (alike c.0 c.1 c.3.first.state c.3.second.state)).status) c.4
      ∙ ap (λ (d : Bool). (alike_by d c.0 c.1 c.3.first.state c.3.second.state).status) c.5)
      (led_by_pair c.0 c.1 c.2 c.3)

  -- wherever there is the cause of a status, but for `Ran`, the answers lead to it
  pub caused_status : (status : Status) → Cause asked answers status → status ≢ Ran → LeadsToStatus asked answers status
  caused_status Ran c other = absurd (other refl)
  caused_status Usage c other = (refusal [] Usage, (0, (ap (λ (a : Option Request). next a []) c.0, c.1)), refl)
  caused_status (Refused fault) c other = led_by_refusal First fault c
  caused_status (TablesFull need limit) c other =
      elim c [ inl h ↦ led_by_boot First (TooFull need limit) h | inr h ↦ led_by_unread (NeedsMore need limit) h ]
  caused_status StoreFault c other = led_by_lack c.1.0 Broken StoreFault c.1.2 refl
  caused_status (ShortFile role told got) c other = led_by_lack c.1.0 (Short told got) (ShortFile role told got) c.1.2
      (ap (λ (r : FileRole). Some (ShortFile r told got)) c.1.1)
  caused_status (NoFile role) c other = led_by_lack c.0 Absent (NoFile role) c.2 (ap (λ (r : FileRole). Some (NoFile r)) c.1)
  caused_status (AsmFault line number) c other =
      elim c [
        | inl h ↦ led_by_lack h.0 Large (AsmFault line number) h.2 (ap (λ s. Some s) h.1)
        | inr h ↦
            led_by_source (AsmFault line number) h
      ]
  caused_status ConsoleFault c other = absurd c
  caused_status ReportFault c other = absurd c
  caused_status DumpFault c other = absurd c
  caused_status WantOfMemory c other = absurd c
  caused_status (Unlike key) c other = led_by_key key c
  caused_status NoDomain c other = led_by_domain c
  caused_status (SecondRefused fault) c other = led_by_refusal Second fault c
  caused_status (SecondTablesFull need limit) c other = led_by_boot Second (TooFull need limit) c
  caused_status (SnapshotFault at number) c other =
      elim c [
        | inl h ↦ led_by_lack h.0 Large (SnapshotFault at number) h.2 (ap (λ s. Some s) h.1)
        | inr h ↦
            led_by_unread (FaultAt at number) h
      ]

reached_end : (asked : Option Request) (others : List Finding) (x : Finding) (file : Wanted) (status : Status) (rest : List Answer)
    (more found : List Finding) (outcome : Outcome)
    → next asked others ≡ Read file → lack_of file x ≡ Some status → found ≡ others ++ x ∷ more
    → FindsAll (λ later. next asked (others ++ x ∷ later)) rest more
    → next asked found ≡ End outcome → outcome.status ≡ status
reached_end asked others x file status rest [] found outcome read lack is all end =
    status_same (sym (shape_request asked others file read x status lack) ∙ ap (next asked) (sym is) ∙ end)
reached_end asked others x file status rest (y ∷ more) found outcome read lack is all end =
    absurd (read_end (sym all.3 ∙ shape_request asked others file read x status lack))

untold : (o : Option FileMap) → ((files : FileMap) → o ≡ Some files → ⊥) → o ≡ None
untold None never = refl
untold (Some files) never = absurd (never files refl)

-- over every store that keeps the law of its trait
module _ {S : Type 0} (state : S → StoreState) (gives : S → Answer → S → Type 0) (law : (s : S) (a : Answer) (t : S) → gives s a t
    → Tells (state s) a (state t)) where
  pub store_fault_rose : (asked : Option Request) (s t : S) (answers : List Answer) → Talks gives s answers t
      → LeadsToStatus asked answers StoreFault → Rose (state s).faults (state t).faults
  store_fault_rose asked s t answers talk led =
      let c = status_caused asked answers StoreFault led in
      let last = c.1.2 in
      let rose = Rose (state s).faults (state t).faults in
      let each = (talks_told state gives law s t answers talk).failed in
      broken_shows rose c.1.0.most c.1.0.name last.0
      (each-rest (λ a. (HasSucceeded a → ⊥) → rose) last.1.before last.0
      (subst (Each (λ a. (HasSucceeded a → ⊥) → rose)) last.1.parts each)) last.2

  -- the answers that follow are those of the files
  rest_of : (asked : Option Request) (s t : S) (answers last : List Answer) (file : Wanted) → Talks gives s answers t
      → (r : Reaches (next asked) answers file last)
      → (files : FileMap) → (state s).told ≡ Some files → Each (IsOf files) last
  rest_of asked s t answers last file talk r files told =
      each-rest (IsOf files) r.before last (subst (Each (IsOf files)) r.parts
      ((talks_told state gives law s t answers talk).told files told))

  pub short_untold : (asked : Option Request) (s t : S) (answers : List Answer) (role : FileRole) (told got : ℕ) → Talks gives s answers t
      → LeadsToStatus asked answers (ShortFile role told got)
      → (state s).told ≡ None
  short_untold asked s t answers role told got talk led =
      let c = (status_caused asked answers (ShortFile role told got) led).1 in
      untold (state s).told
      (λ files is. short_never files c.0.name c.0.most c.2.0 told got (rest_of asked s t answers c.2.0 c.0 talk c.2.1 files is) c.2.2)

  pub no_file_absent : (asked : Option Request) (s t : S) (answers : List Answer) (role : FileRole) → Talks gives s answers t
      → LeadsToStatus asked answers (NoFile role)
      → IfSome (state s).told (λ files. (file : Wanted) × (file.role ≡ role) × FindsLast (next asked) answers file Absent
      × (get files file.name ≡ None))
  no_file_absent asked s t answers role talk led =
      let c = status_caused asked answers (NoFile role) led in
      if_some (state s).told (λ files. (file : Wanted) × (file.role ≡ role) × FindsLast (next asked) answers file Absent
      × (get files file.name ≡ None))
      (λ files is. (
        c.0,
        c.1,
        c.2,
        absent_named files c.0.name c.0.most c.2.0 (rest_of asked s t answers c.2.0 c.0 talk c.2.1 files is)
            c.2.2,
      ))

  pub absent_no_file : (asked : Option Request) (s t : S) (answers last : List Answer) (file : Wanted) (outcome : Outcome)
      → Talks gives s answers t → Leads asked answers outcome
      → Reaches (next asked) answers file last
      → IfSome (state s).told (λ files. get files file.name ≡ None → (outcome.status ≡ NoFile file.role) ⊎ (outcome.status ≡ StoreFault))
  absent_no_file asked s t answers last file outcome talk led r =
      if_some (state s).told (λ files. get files file.name ≡ None → (outcome.status ≡ NoFile file.role) ⊎ (outcome.status ≡ StoreFault))
      (λ files is none.
      let all = all_found led.0 (next asked) answers outcome led.1 in
      let p = reached r.others (next asked) answers r.before last all.0 outcome file r.parts all.1 all.2 r.finds r.read in
      let of = each-front (IsOf files) p.2 p.3 (subst (Each (IsOf files)) p.5 (rest_of asked s t answers last file talk r files is)) in
      let ends = λ (status : Status) (lack : lack_of file p.0 ≡ Some status).
      reached_end asked r.others p.0 file status p.3 p.1 all.0 outcome r.read lack p.4 p.7 all.2 in
      elim (absent_found files file.name file.most p.2 p.0 none of p.6) [
        | inl h ↦ inl (ends (NoFile file.role) (ap (lack_of file) h))
        | inr h ↦ inr (ends StoreFault (ap (lack_of file) h))
      ])
