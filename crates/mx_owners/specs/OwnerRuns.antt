-- Inner: how the owners of all words are stored, as maximal runs of equal owner, each by the word after it. No contract of another crate
-- cites this
-- file; what owners mean is a list with one owner a word.
use Rattle.std.specs.Prelude.{ℕ, ◌≡◌, ◌≢◌, ◌+◌, ◌-◌, ◌<◌, ◌≤◌, Bool, ◌==◌, ◌&&◌, nat_lt, List, [], ◌∷◌, ◌++◌, length, take, drop}
use Rattle.std.specs.Prelude.{slice_index_or, if◌then◌else◌}
use Rattle.std.specs.List.{position_or_len}
use Rattle.mx_words.specs.Counting.{list_below}
use Rattle.mx_words.specs.Ranges.{most_words}
use Rattle.mx_words.specs.Runs.{most_owner_runs}
use Rattle.mx_owners.specs.declared.runs.Run.{Run}

-- what stands beyond the last run
abbrev pub no_run : Run
no_run = record { end = 0; owner = 0 }

abbrev pub run_at : List Run → ℕ → Run
run_at runs i = slice_index_or runs i no_run

-- the owner of a word: that of the first run that ends after it
abbrev pub owner_in : List Run → ℕ → ℕ
owner_in [] w = 0
owner_in (r ∷ rs) w = if nat_lt w r.end then r.owner else owner_in rs w

-- the owners of all words
abbrev pub owners_in : ℕ → List Run → List ℕ
owners_in words runs = list_below words (owner_in runs)

-- runs that fill the words from `low` to before `high`, each with an owner other than the one before it; `before` owns the word
-- before `low`
abbrev pub Fill : ℕ → ℕ → ℕ → List Run → Type 0
Fill low high before [] = low ≡ high
Fill low high before (r ∷ rs) =
    (low < r.end) × (0 < low → r.owner ≢ before) × Fill r.end high r.owner rs

-- what stays true of the stored runs
pub record AreRuns (words : ℕ) (runs : List Run) : Type 0 where
  pub some : 0 < words
  pub in_ram : words ≤ most_words
  pub fill : Fill 0 words 0 runs
  pub few : length runs ≤ most_owner_runs

-- the place of the run of a word: how many runs end at it or before
abbrev pub place_of : List Run → ℕ → ℕ
place_of runs w = position_or_len (λ (r : Run). nat_lt w r.end) runs

-- the runs that stay before a give of words from `first` on to an owner: the last of them is cut where it has another owner, and left
-- out, to be part of the give's run, where it has the same
abbrev pub runs_before : List Run → ℕ → ℕ → List Run
runs_before runs owner first =
    let i : ℕ = place_of runs (first - 1) in
    if first == 0 then []
    else if (run_at runs i).owner == owner then take i runs
    else take i runs ++ record { end = first; owner = (run_at runs i).owner } ∷ []

-- whether the run of the word after a give has the same owner, and so is part of the give's run
abbrev pub goes_on : List Run → ℕ → ℕ → Bool
goes_on runs owner behind =
    nat_lt (place_of runs behind) (length runs)
    && (run_at runs (place_of runs behind)).owner == owner

-- the end of the give's run, and the place of the first run that stays after it
abbrev pub end_behind : List Run → ℕ → ℕ → ℕ
end_behind runs owner behind =
    if goes_on runs owner behind then (run_at runs (place_of runs behind)).end else behind

abbrev pub place_behind : List Run → ℕ → ℕ → ℕ
place_behind runs owner behind =
    if goes_on runs owner behind then place_of runs behind + 1 else place_of runs behind

-- the runs after a give of the words from `first` to before `behind`
abbrev pub given : List Run → ℕ → ℕ → ℕ → List Run
given runs owner first behind =
    runs_before runs owner first
    ++ record { end = end_behind runs owner behind; owner = owner }
    ∷ drop (place_behind runs owner behind) runs

-- the same, with room for the runs of a give on both sides of the exchange
pub record AreOwners (words : ℕ) (runs : List Run) (room next_room : ℕ) : Type 0 where
  pub are : AreRuns words runs
  pub room_is : most_owner_runs + 2 ≤ room
  pub next_is : most_owner_runs + 2 ≤ next_room
