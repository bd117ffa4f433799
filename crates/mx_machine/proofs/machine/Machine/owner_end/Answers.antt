use Rattle.std.proofs.Common.{◌≡◌, ◌≢◌, ℕ, ◌<◌, ◌≤◌, length, sym, subst}
use Rattle.std.specs.Prelude.{slice_index}
use Rattle.mx_model.specs.Reads.{flat_reads}
use Rattle.mx_model.specs.State.{Flat}
use Rattle.mx_machine.proofs.machine.Machine.owner_end.Goals as goal

pub run_end-requires : goal.run_end-requires
run_end-requires g c =
    subst (λ x. c.args.word < length x.bare.parts.owners) (sym c.self-inside.view_is)
    (subst (λ n. c.args.word < n) (sym c.self.invariant.fits.sound.owners)
    (subst (λ (f : Flat). c.args.word < f.core.size) (sym c.self.view_is) c.requires))

pub returns-clause-within : goal.returns-clause-within
returns-clause-within g c =
    let n = c.run_end.result in
    subst (λ (f : Flat). n ≤ f.core.size) c.self.view_is
    (subst (λ k. n ≤ k) c.self.invariant.fits.sound.owners (subst (λ x. n ≤ length x.bare.parts.owners) c.self-inside.view_is
    c.run_end.ensures.within))

pub returns-clause-same : goal.returns-clause-same
returns-clause-same g c =
    let n = c.run_end.result in
    let word = c.args.word in
    subst (λ (f : Flat). (w : ℕ) → word ≤ w → w < n → (flat_reads f).owner w ≡ (flat_reads f).owner word) c.self.view_is
    (subst (λ x. (w : ℕ) → word ≤ w → w < n → slice_index x.bare.parts.owners w ≡ slice_index x.bare.parts.owners word)
    c.self-inside.view_is c.run_end.ensures.same)

pub returns-clause-ends : goal.returns-clause-ends
returns-clause-ends g c =
    let n = c.run_end.result in
    let word = c.args.word in
    let ends = subst (λ x. n < length x.bare.parts.owners → slice_index x.bare.parts.owners n ≢ slice_index x.bare.parts.owners word)
    c.self-inside.view_is c.run_end.ensures.ends in
    subst (λ (f : Flat). n < f.core.size → (flat_reads f).owner n ≢ (flat_reads f).owner word) c.self.view_is
    (λ l. ends (subst (λ k. n < k) (sym c.self.invariant.fits.sound.owners) l))
