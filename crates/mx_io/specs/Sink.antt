-- What a sink says of itself, and what its calls answer.
-- The rules: docs/PROMISES.md, "The outside".
use Rattle.std.specs.Prelude.{◌≡◌, ℕ, ◌+◌, ◌^◌, ◌<◌, ◌≤◌, List, [], length, take, Option, Result, IsOk, IfOk, OnOk, OnErr}
use Rattle.mx_io.specs.Count.{Rose}
use Rattle.mx_io.specs.Texts.{AppendsWhole, AppendsFront}

-- the bytes written, where the sink tells them; its count of faults; how many more bytes it is sure to take
pub record SinkState : Type 0 where
  pub written : Option (List ℕ)
  pub faults : ℕ
  pub room : ℕ

-- one write: Ok k appended the first k bytes, and the count stays; Err appended nothing, and the count rose
pub record Writes {E : Type 0} (before now : SinkState) (bytes : List ℕ) (result : Result ℕ E)
    : Type 0 where
  pub later : before.faults ≤ now.faults
  pub counted : now.faults < 2 ^ 64
  pub kept : OnOk result (now.faults ≡ before.faults)
  pub bound : IfOk result (λ k. k ≤ length bytes)
  pub moves : IfOk result (λ k. 0 < length bytes → 0 < k)
  pub taken : IfOk result (λ k. AppendsWhole before.written now.written (take k bytes))
  pub nothing : OnErr result (AppendsWhole before.written now.written [])
  pub failed : OnErr result (Rose before.faults now.faults)
  pub sure : 0 < length bytes → length bytes ≤ before.room →
      IsOk result × IfOk result (λ k. before.room ≤ now.room + k)

-- a text put on a sink: whole on Ok, and the count stays; on Err a prefix that isn't the whole text, and the count rose;
-- Ok is sure where the sink has room for the text
pub record Puts {A E : Type 0} (before now : SinkState) (text : List ℕ) (result : Result A E)
    : Type 0 where
  pub later : before.faults ≤ now.faults
  pub kept : OnOk result (now.faults ≡ before.faults)
  pub whole : OnOk result (AppendsWhole before.written now.written text)
  pub front : OnErr result (AppendsFront before.written now.written text)
  pub failed : OnErr result (Rose before.faults now.faults)
  pub sure : length text ≤ before.room →
      IsOk result × (before.room ≤ now.room + length text)
