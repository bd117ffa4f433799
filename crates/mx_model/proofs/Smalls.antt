-- Small states for the worked examples: 64 words, packed tables of few frames, modules with their grants and gives, and harts as they
-- stand.
use Rattle.std.specs.Prelude.{ℕ, Bool, List, [], ◌∷◌, flat_map, fold, replicate, slice_set, Some, None}
use Rattle.std.specs.Prelude.{map as list_map}
use Rattle.mx_words.specs.declared.perm.Perm.{Perm}
use Rattle.mx_words.specs.declared.perm.Span.{Span}
use Rattle.mx_words.specs.declared.tables.Kind.TheVariants as K
use Rattle.mx_words.specs.Caches.{Cache, Entry, no_cache}
use Rattle.mx_words.specs.FirstFit.{Area}
use Rattle.mx_words.specs.Newest.{Grant, Give}
use Rattle.mx_words.specs.Runs.{Run}
use Rattle.mx_model.specs.declared.values.Call.{Call}
use Rattle.mx_model.specs.declared.values.Frame.{Frame}
use Rattle.mx_model.specs.declared.values.Gate.{Gate}
use Rattle.mx_model.specs.declared.values.TurnKind.{TurnKind}
use Rattle.mx_model.specs.Run.{kind, turn}
use Rattle.mx_model.specs.State.{Hart, Module, Stack, State, Status}
use Rattle.mx_model.proofs.Boots.{bytes_of}

abbrev pub grant : ℕ → ℕ → Perm → Grant
grant first count p = record { first = first; count = count; value = p }

abbrev pub give : ℕ → ℕ → ℕ → Give
give first count d = record { first = first; count = count; value = d }

abbrev pub gate : ℕ → ℕ → ℕ → Gate
gate domain word target = record { domain = domain; word = word; target = target }

abbrev pub area : ℕ → ℕ → Area
area first count = record { first = first; count = count }

abbrev pub stack : ℕ → ℕ → Stack
stack first words = record { first = first; words = words }

-- a frame, and its fifteen registers by their places among these
abbrev pub frame : ℕ → ℕ → List ℕ → Frame
frame back caller kept = record { back = back; caller = caller; kept = kept }

abbrev pub saved_with : List (ℕ × ℕ) → List ℕ
saved_with values = fold (λ kept (p : ℕ × ℕ). slice_set kept p.0 p.1) (replicate 15 0) values

abbrev pub hart_of : ℕ → ℕ → List ℕ → List Frame → Status → Hart
hart_of domain pc regs frames status = record { regs = regs; pc = pc; domain = domain; frames = frames; status = status }

abbrev pub call : ℕ → List ℕ → ℕ → ℕ → Bool → Call
call number args hart domain nested = record { number = number; args = args; hart = hart; domain = domain; nested = nested }

abbrev pub run_of : {A : Type 0} → ℕ → A → Run A
run_of count value = record { count = count; value = value }

abbrev pub span_of : ℕ → ℕ → Perm → Span
span_of first count p = record { first = first; count = count; perm = p }

-- caches with the spans of some places, the kept spans, and the three counts
abbrev pub cache : List (ℕ × Span) → List Entry → ℕ → ℕ → ℕ → Cache
cache places kept sidecar lookaside walks = record {
  places = fold (λ ps (p : ℕ × Span). slice_set ps p.0 (Some p.1)) (replicate 32 None) places;
  kept = kept;
  sidecar = sidecar;
  lookaside = lookaside;
  walks = walks;
}

-- 64 words that are zero but for some
abbrev pub words_with : List (ℕ × ℕ) → List ℕ
words_with values = fold (λ words (p : ℕ × ℕ). slice_set words p.0 p.1) (replicate 64 0) values

-- these words, modules with their grants, gives, gates, harts with empty caches, and the size of the lookaside buffer
abbrev pub small : List (ℕ × ℕ) → List Module → List (List Grant) → List Give → List Gate → List Hart → ℕ → State
small text modules grants gives gates harts buffer = record {
  core = record {
    ram = flat_map bytes_of (words_with text);
    modules = modules;
    gates = gates;
    harts = harts;
    caches = list_map (λ (hart : Hart). no_cache) harts;
    turns = 0;
    size = 64;
    kind = K.Packed;
    limit = record { upper = 8; leaf = 8; spill = 8 };
    buffer = buffer;
  };
  grants = grants;
  gives = gives;
  console = [];
  notes = [];
}

-- the state after turns of these harts in order, and what each turn was
abbrev pub by : List ℕ → State → State
by harts s = fold turn s harts

abbrev pub kinds : List ℕ → State → List TurnKind
kinds [] s = []
kinds (h ∷ hs) s = kind s h ∷ kinds hs (turn s h)
