-- How a row of the table of calls meets the model's: by what it changed, and by its answer.
use Rattle.std.proofs.Common.{◌≡◌, ℕ, true, false, List, [], length, refl, sym, subst, inl, ◌∙◌, ap, Some, ◌≤◌, nat_le, arith}
use Rattle.std.proofs.lemmas.Bool.{leb-true}
use Rattle.mx_check.specs.Harts.{Kept, kept_at}
use Rattle.mx_model.specs.declared.values.Call.{Call}
use Rattle.mx_model.specs.declared.values.Gate.{Gate}
use Rattle.mx_words.specs.Newest.{Give, laid}
use Rattle.mx_words.proofs.OverlayLaws.{length-laid}
use Rattle.mx_model.specs.Reads.{Reads, flat_reads}
use Rattle.mx_model.specs.Serve.{Served, answers, code}
use Rattle.mx_model.specs.State.{Core}
use Rattle.mx_supervisor.specs.declared.answer.Answer.{Answer}
use Rattle.mx_supervisor.specs.Answers.{plain, refusal, is_refusal}
use Rattle.mx_supervisor.specs.Looks.{BarsAlike, KeepsHarts}
use Rattle.mx_supervisor.specs.Parts.{Parts, core_of, flat_of, IsSound}
use Rattle.mx_supervisor.specs.Served.{IsServed, ServesAs, IsSpared, KeepsSizes, Meets}

-- the row of a call, on the flat state of the parts
abbrev pub row_on : (Reads → Core → Call → Served) → Call → Parts → Core → Served
row_on row call p rest = row (flat_reads (flat_of rest p)) (core_of rest p) call

-- nothing changed
pub same-harts : (call : Call) (harts : List Kept) → KeepsHarts call (kept_at harts call.hart).flight harts harts
same-harts call harts = record { count = refl; others = λ i ne. refl; halted = refl; flight = refl; domain = inl refl }

pub same-sizes : (p : Parts) → KeepsSizes p p
same-sizes p = record { size = refl; limit = refl; modules = refl }

pub same-parts : (p : Parts) → IsSpared p p []
same-parts p = record { maps = refl; owners = refl; gates = refl; heaps = refl; ram = refl; console = refl }

-- what ties the parts says nothing of the harts
pub with-harts : (p : Parts) (harts : List Kept) → IsSound p → IsSound (record p { harts = harts })
with-harts p harts sound = record {
  few_words = sound.few_words;
  few_maps = sound.few_maps;
  maps = sound.maps;
  ram = sound.ram;
  owners = sound.owners;
  heaps = sound.heaps;
  areas = sound.areas;
}

-- nor of RAM's bytes but how many they are
pub sound-ram : (p : Parts) (ram : List ℕ) → IsSound p → length ram ≡ length p.ram → IsSound (record p { ram = ram })
sound-ram p ram sound e = record {
  few_words = sound.few_words;
  few_maps = sound.few_maps;
  maps = sound.maps;
  ram = e ∙ sound.ram;
  owners = sound.owners;
  heaps = sound.heaps;
  areas = sound.areas;
}

-- an answer with no effect, as every refusal
pub told-rest : (rest : Core) (p : Parts) (n : ℕ) (a : Answer) (s : Served) → a ≡ plain n → s ≡ answers (core_of rest p) n
    → IsServed rest p p [] a s
told-rest rest p n a s ea es = rw (ea, es) (record {
  core = refl;
  maps = refl;
  owners = refl;
  console = refl;
  a0 = refl;
  a1 = refl;
  stop =
      refl;
})

pub told : (row : Reads → Core → Call → Served) (call : Call) (p : Parts) (n : ℕ) (a : Answer) → IsSound p → a ≡ plain n →
    ((rest : Core) → row_on row call p rest ≡ answers (core_of rest p) n) → Meets row call (kept_at p.harts call.hart).flight p p [] a
told row call p n a sound ea es = record {
  served = λ rest bars. told-rest rest p n a (row_on row call p rest) ea (es rest);
  refused = λ e. same-parts p;
  harts = same-harts call p.harts;
  sizes = same-sizes p;
  sound = sound;
}

pub refuses : (row : Reads → Core → Call → Served) (call : Call) (p : Parts) (n : ℕ) (a : Answer) → IsSound p → a ≡ refusal n →
    ((rest : Core) → row_on row call p rest ≡ answers (core_of rest p) (code n))
    → Meets row call (kept_at p.harts call.hart).flight p p [] a
refuses row call p n a sound ea es = told row call p (code n) a sound ea es

-- the same of parts that are those from before
pub refuses-after : (row : Reads → Core → Call → Served) (call : Call) (p q : Parts) (n : ℕ) (a : Answer) → IsSound p → q ≡ p
    → a ≡ refusal n →
    ((rest : Core) → row_on row call p rest ≡ answers (core_of rest p) (code n))
    → Meets row call (kept_at p.harts call.hart).flight p q [] a
refuses-after row call p q n a sound same ea es =
    subst (λ (q : Parts). Meets row call (kept_at p.harts call.hart).flight p q [] a) (sym same) (refuses row call p n a sound ea es)

-- the same, where no console bytes stand
pub told-bytes : (row : Reads → Core → Call → Served) (call : Call) (p : Parts) (n : ℕ) (bytes : List ℕ) (a : Answer) → IsSound p
    → bytes ≡ [] → a ≡ plain n →
    ((rest : Core) → row_on row call p rest ≡ answers (core_of rest p) n) → Meets row call (kept_at p.harts call.hart).flight p p bytes a
told-bytes row call p n bytes a sound none ea es =
    subst (λ (b : List ℕ). Meets row call (kept_at p.harts call.hart).flight p p b a) (sym none) (told row call p n a sound ea es)

-- looks alone, or nothing but what the checker keeps of the harts
pub harts-alone : (row : Reads → Core → Call → Served) (call : Call) (p q : Parts) (bytes : List ℕ) (a : Answer) → IsSound p
    → q ≡ record p { harts = q.harts } →
    KeepsHarts call (kept_at p.harts call.hart).flight p.harts q.harts → (is_refusal a ≡ true → bytes ≡ []) →
    ServesAs row call p q bytes a → Meets row call (kept_at p.harts call.hart).flight p q bytes a
harts-alone row call p q bytes a sound same keeps none served = record {
  served = served;
  refused = λ e. subst (λ (t : Parts). IsSpared p t bytes) (sym same)
      (record { maps = refl; owners = refl; gates = refl; heaps = refl; ram = refl; console = none e });
  harts = keeps;
  sizes = subst (λ (t : Parts). KeepsSizes p t) (sym same) (record { size = refl; limit = refl; modules = refl });
  sound = subst (λ (t : Parts). IsSound t) (sym same) (with-harts p q.harts sound);
}

-- an answer after looks alone
pub looks-served : (rest : Core) (p q : Parts) (n : ℕ) (bytes : List ℕ) (s : Served) → q ≡ record p { harts = q.harts }
    → s ≡ answers (core_of rest q) n → bytes ≡ [] →
    IsServed rest p q bytes (plain n) s
looks-served rest p q n bytes s same es none = rw (es, none) (record {
  core = refl;
  maps = ap (λ (t : Parts). t.maps) same;
  owners = ap (λ (t : Parts). t.owners) same;
  console = refl;
  a0 = refl;
  a1 = refl;
  stop = refl;
})

-- console bytes after looks alone
pub written-served : (rest : Core) (p q : Parts) (n : ℕ) (bytes console : List ℕ) (s : Served) → q ≡ record p { harts = q.harts } →
    s ≡ record (answers (core_of rest q) n) { console = console } → bytes ≡ console → IsServed rest p q bytes (plain n) s
written-served rest p q n bytes console s same es written = rw es (record {
  core = refl;
  maps = ap (λ (t : Parts). t.maps) same;
  owners = ap (λ (t : Parts). t.owners) same;
  console = written;
  a0 = refl;
  a1 = refl;
  stop = refl;
})

-- an answer of at most 4096 is no refusal
pub small-answer : (a : Answer) (n : ℕ) → a ≡ plain n → n ≤ 4096 → is_refusal a ≡ true → ⊥
small-answer a n e few is =
    let told : nat_le (code 15) n ≡ true = sym (ap is_refusal e) ∙ is in
    let big : code 15 ≤ n = leb-true (code 15) n told in
    omega (arith, big, few)

-- a call that is done: its answer is no refusal
pub done : (row : Reads → Core → Call → Served) (call : Call) (p q : Parts) (bytes : List ℕ) (a : Answer) → IsSound q
    → is_refusal a ≡ false →
    q.harts ≡ p.harts → KeepsSizes p q → ServesAs row call p q bytes a → Meets row call (kept_at p.harts call.hart).flight p q bytes a
done row call p q bytes a sound e same sizes served = record {
  served = served;
  refused = λ f. absurd (let q : ⊥ = cc in q);
  harts = subst (λ (harts : List Kept). KeepsHarts call (kept_at p.harts call.hart).flight p.harts harts) (sym same)
      (same-harts call p.harts);
  sizes = sizes;
  sound = sound;
}

-- other gates, answered by 0
pub gates-done : (row : Reads → Core → Call → Served) (call : Call) (p q : Parts) (gates : List Gate) (a : Answer) → IsSound p
    → q ≡ record p { gates = gates } →
    a ≡ plain 0 → ((rest : Core) → row_on row call p rest ≡ answers (record (core_of rest p) { gates = gates }) 0) →
    Meets row call (kept_at p.harts call.hart).flight p q [] a
gates-done row call p q gates a sound eq ea es =
    let t : Parts = record p { gates = gates } in
    let sound_t : IsSound t = record {
      few_words = sound.few_words;
      few_maps = sound.few_maps;
      maps = sound.maps;
      ram = sound.ram;
      owners = sound.owners;
      heaps = sound.heaps;
      areas = sound.areas;
    } in
    let served : ServesAs row call p t [] (plain 0) = λ rest bars. rw (es rest)
    (record { core = refl; maps = refl; owners = refl; console = refl; a0 = refl; a1 = refl; stop = refl }) in
    let m : Meets row call (kept_at p.harts call.hart).flight p t [] (plain 0) =
    done row call p t [] (plain 0) sound_t refl refl (record { size = refl; limit = refl; modules = refl }) served in
    rw (eq, ea) m

-- a give, answered by 0
pub give-done : (row : Reads → Core → Call → Served) (call : Call) (p q : Parts) (give : Give) (a : Answer) → IsSound p
    → q ≡ record p { owners = laid give p.owners } →
    a ≡ plain 0 → ((rest : Core) → row_on row call p rest ≡ record (answers (core_of rest p) 0) { give = Some give }) →
    Meets row call (kept_at p.harts call.hart).flight p q [] a
give-done row call p q give a sound eq ea es =
    let t : Parts = record p { owners = laid give p.owners } in
    let sound_t : IsSound t = record {
      few_words = sound.few_words;
      few_maps = sound.few_maps;
      maps = sound.maps;
      ram = sound.ram;
      owners = length-laid give p.owners ∙ sound.owners;
      heaps = sound.heaps;
      areas = sound.areas;
    } in
    let served : ServesAs row call p t [] (plain 0) = λ rest bars. rw (es rest)
    (record { core = refl; maps = refl; owners = refl; console = refl; a0 = refl; a1 = refl; stop = refl }) in
    let m : Meets row call (kept_at p.harts call.hart).flight p t [] (plain 0) =
    done row call p t [] (plain 0) sound_t refl refl (record { size = refl; limit = refl; modules = refl }) served in
    rw (eq, ea) m

-- bytes of RAM after looks alone, with the answers in a0 and a1
pub ram-done : (row : Reads → Core → Call → Served) (call : Call) (p q t : Parts) (ram : List ℕ) (a : Answer) → IsSound p
    → q ≡ record p { harts = q.harts } →
    KeepsHarts call (kept_at p.harts call.hart).flight p.harts q.harts → t ≡ record q { ram = ram } → length ram ≡ length p.ram
    → is_refusal a ≡ false →
    ((rest : Core) → BarsAlike rest p call.hart → row_on row call p rest
    ≡ record (answers (record (core_of rest q) { ram = ram }) a.a0) { a1 = a.a1; stop = a.stop }) →
    Meets row call (kept_at p.harts call.hart).flight p t [] a
ram-done row call p q t ram a sound same keeps made size ok es =
    let u : Parts = record p { harts = q.harts; ram = ram } in
    let core : t ≡ u = made ∙ ap (λ (x : Parts). record x { ram = ram }) same in
    let m : Meets row call (kept_at p.harts call.hart).flight p u [] a = record {
      served = λ rest bars. rw (es rest bars) (record {
        core = ap (λ (x : Parts). record (core_of rest x) { ram = ram }) (sym same);
        maps = refl;
        owners = refl;
        console = refl;
        a0 = refl;
        a1 = refl;
        stop = refl;
      });
      refused = λ e. absurd (let q : ⊥ = cc in q);
      harts = keeps;
      sizes = record { size = refl; limit = refl; modules = refl };
      sound = sound-ram (record p { harts = q.harts }) ram (with-harts p q.harts sound) size;
    } in
    subst (λ (x : Parts). Meets row call (kept_at p.harts call.hart).flight p x [] a) (sym core) m
