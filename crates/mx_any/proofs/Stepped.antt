-- What a turn of a machine of any kind of tables comes to, by its own.
use Rattle.std.proofs.Common.{◌≡◌, ◌≢◌, ℕ, sym, subst}
use Rattle.mx_laws.specs.After.{frames_at}
use Rattle.mx_laws.specs.Crossing.{FramesAfter}
use Rattle.mx_laws.specs.Foreign.{ForeignAfter}
use Rattle.mx_machine.specs.Turning.{IsTold, IsTurn, KeepsBytes}
use Rattle.mx_model.specs.declared.values.TurnKind.{TurnKind}
use Rattle.mx_model.specs.Events.{Events}
use Rattle.mx_model.specs.Reads.{flat_reads}
use Rattle.mx_model.specs.Run.{flat_kind, flat_made, flat_turn}
use Rattle.mx_model.specs.State.{Flat, State, flat, hart_at}

abbrev pub Stepped : Flat → ℕ → Flat → Events → TurnKind → Type 0
Stepped f hart new events answer = record {
  turn : new ≡ flat_turn f hart;
  out : IsTold (flat_made f hart) events;
  kind : answer ≡ flat_kind f hart;
  state : (s : State) → f ≡ flat s → IsTurn s hart new events answer;
  foreign : ForeignAfter (flat_reads f) f.core hart new.core;
  bytes : KeepsBytes answer f new;
  frames : FramesAfter (hart_at f.core hart) (hart_at new.core hart);
  others : (h : ℕ) → h ≢ hart → frames_at new.core h ≡ frames_at f.core h;
}

pub stepped : {f old new : Flat} {hart : ℕ} {out : Events} {answer : TurnKind} → f ≡ old → Stepped old hart new out answer
    → Stepped f hart new out answer
stepped {new = new} {hart} {out} {answer} e s = subst (λ (x : Flat). Stepped x hart new out answer) (sym e) s
