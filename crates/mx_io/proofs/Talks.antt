-- Laws of what a store answers over several calls.
use Rattle.std.proofs.Common.{◌≡◌, ℕ, ◌≤◌, List, [], ◌∷◌, ◌++◌, Option, Some, None, IfSome, IsTrue, refl, subst, ◌∙◌, arith}
use Rattle.std.specs.Prelude.{⊤}
use Rattle.mx_io.specs.Count.{Rose}
use Rattle.mx_io.specs.Store.{FileMap, StoreState}
use Rattle.mx_io.specs.Answer.{Answer, Sized, Gave, HasSucceeded, IsOf, Tells, Talks}
use Rattle.mx_io.proofs.Text.{Rose-later, Rose-earlier}

-- a fact of each answer
abbrev pub Each : (Answer → Type 0) → List Answer → Type 0
Each P [] = ⊤
Each P (answer ∷ more) = P answer × Each P more

pub each-front : (P : Answer → Type 0) (first rest : List Answer) → Each P (first ++ rest) → Each P first
each-front P [] rest e = tt
each-front P (a ∷ first) rest e = (e.0, each-front P first rest e.1)

pub each-rest : (P : Answer → Type 0) (first rest : List Answer) → Each P (first ++ rest) → Each P rest
each-rest P [] rest e = e
each-rest P (a ∷ first) rest e = each-rest P first rest e.1

each-map : (P Q : Answer → Type 0) → ((a : Answer) → P a → Q a) → (answers : List Answer) → Each P answers → Each Q answers
each-map P Q f [] e = tt
each-map P Q f (a ∷ more) e = (f a e.0, each-map P Q f more e.1)

module _ {S : Type 0} (gives : S → Answer → S → Type 0) where
  pub talks_one : {s t : S} (a : Answer) → gives s a t → Talks gives s (a ∷ []) t
  talks_one {s} {t} a step = (t, step, refl)

  pub talks-append : (s m t : S) (xs ys : List Answer) → Talks gives s xs m → Talks gives m ys t → Talks gives s (xs ++ ys) t
  talks-append s m t [] ys first rest = subst (λ (u : S). Talks gives u ys t) first rest
  talks-append s m t (a ∷ xs) ys first rest = (first.0, first.1, talks-append first.0 m t xs ys first.2 rest)

  pub talks_more : (s m t : S) (xs : List Answer) (a : Answer) → Talks gives s xs m → gives m a t → Talks gives s (xs ++ a ∷ []) t
  talks_more s m t xs a first step = talks-append s m t xs (a ∷ []) first (talks_one a step)

-- what answers, one after another, say: the files stay, the count never falls, and each answer is that of the files
pub record Told (before : StoreState) (answers : List Answer) (now : StoreState) : Type 0 where
  pub files : now.told ≡ before.told
  pub later : before.faults ≤ now.faults
  pub failed : Each (λ a. (HasSucceeded a → ⊥) → Rose before.faults now.faults) answers
  pub sure : IsTrue before.sure → Each HasSucceeded answers × (now.faults ≡ before.faults)
  pub told : (files : FileMap) → before.told ≡ Some files → Each (IsOf files) answers

told_of : (o : Option FileMap) (a : Answer) (files : FileMap) → o ≡ Some files → IfSome o (λ fs. IsOf fs a) → IsOf files a
told_of o a files is holds = rw is at holds

pub told_none : (s : StoreState) → Told s [] s
told_none s = record { files = refl; later = omega arith; failed = tt; sure = λ _. (tt, refl); told = λ files is. tt }

pub told_more : (s m t : StoreState) (a : Answer) (more : List Answer) → Tells s a m → Told m more t → Told s (a ∷ more) t
told_more s m t a more step rest =
    record {
      files = rest.files ∙ step.files;
      later = omega (arith, step.later, rest.later);
      failed = (
        λ fails. Rose-later s.faults m.faults t.faults (step.failed fails) rest.later,
        each-map (λ a. (HasSucceeded a → ⊥) → Rose m.faults t.faults) (λ a. (HasSucceeded a → ⊥) → Rose s.faults t.faults)
            (λ b rose fails. Rose-earlier s.faults m.faults t.faults step.later (rose fails)) more rest.failed,
      );
      sure = λ is. let now = step.sure is in let later = rest.sure now.2 in ((now.0, later.0), later.1 ∙ now.1);
      told = λ files is. (told_of s.told a files is step.told, rest.told files (step.files ∙ is));
    }

-- over a store that keeps the law of its trait
pub talks_told : {S : Type 0} (state : S → StoreState) (gives : S → Answer → S → Type 0)
    → ((s : S) (a : Answer) (t : S) → gives s a t → Tells (state s) a (state t))
    → (s t : S) (answers : List Answer) → Talks gives s answers t → Told (state s) answers (state t)
talks_told state gives law s t [] talk = rw talk (told_none (state s))
talks_told state gives law s t (a ∷ more) talk =
    told_more (state s) (state talk.0) (state t) a more (law s a talk.0 talk.1) (talks_told state gives law talk.0 t more talk.2)

-- what didn't fail has succeeded
succeeded : (a : Answer) → ((HasSucceeded a → ⊥) → ⊥) → HasSucceeded a
succeeded (Sized name None) h = h (λ f. f)
succeeded (Sized name (Some size)) h = tt
succeeded (Gave name at room None) h = h (λ f. f)
succeeded (Gave name at room (Some bytes)) h = tt

-- where the count didn't rise every call succeeded
pub all_succeeded : (before now : ℕ) → (Rose before now → ⊥) → (answers : List Answer)
    → Each (λ a. (HasSucceeded a → ⊥) → Rose before now) answers → Each HasSucceeded answers
all_succeeded before now stays [] e = tt
all_succeeded before now stays (a ∷ more) e = (succeeded a (λ fails. stays (e.0 fails)), all_succeeded before now stays more e.1)
