-- One more header or symbol at the end of what is written.
use Rattle.std.proofs.Common.{◌≡◌, ℕ, ◌+◌, ◌<◌, true, List, ◌∷◌, ◌++◌, length, drop, get_or, refl, sym, ap, ◌∙◌, append_assoc}
use Rattle.std.proofs.lemmas.List.{at_drop_more}
use Rattle.mx_image.specs.declared.program.NamedAddress.{NamedAddress}
use Rattle.mx_image.specs.declared.segment.Segment.{Segment}
use Rattle.mx_image.specs.Program.{filled, has_bytes}
use Rattle.mx_image.specs.Labels.{label_of, labels_of}
use Rattle.mx_image.specs.Image.{rounded, program_header, program_headers, symbol, symbols_from}

-- the symbol of a label, and the rest
pub symbols-step : (out new total : List ℕ) (at : ℕ) (labels : List NamedAddress) (i : ℕ) (d : NamedAddress) → i < length labels
    → out ++ symbols_from at (labels_of (drop i labels)) ≡ total
    → new ≡ out ++ symbol at (label_of (get_or labels i d))
    → new ++ symbols_from (at + length (get_or labels i d).name.now + 1) (labels_of (drop (i + 1) labels)) ≡ total
symbols-step out new total at labels i d lt h is =
    let here = at_drop_more (λ (rest : List NamedAddress). symbols_from at (labels_of rest)) labels i d lt in
    rw is (append_assoc out (symbol at (label_of (get_or labels i d)))
    (symbols_from (at + length (get_or labels i d).name.now + 1) (labels_of (drop (i + 1) labels)))
    ∙ ap (λ (xs : List ℕ). out ++ xs) (sym here) ∙ h)

-- what is left of the filled segments at one with bytes
pub filled-here : (segments : List Segment) (i : ℕ) (d s : Segment) → i < length segments → s ≡ get_or segments i d → has_bytes s ≡ true
    → filled (drop i segments) ≡ s ∷ filled (drop (i + 1) segments)
filled-here segments i d s lt is some = at_drop_more filled segments i d lt ∙ rw (← is, some) refl

-- the program header of a segment, and the rest
pub headers-step : (out new total : List ℕ) (at : ℕ) (s : Segment) (left rest : List Segment) → left ≡ s ∷ rest
    → out ++ program_headers at left ≡ total
    → new ≡ out ++ program_header at s
    → new ++ program_headers (at + rounded (length s.bytes)) rest ≡ total
headers-step out new total at s left rest here h is =
    rw is (append_assoc out (program_header at s) (program_headers (at + rounded (length s.bytes)) rest)
    ∙ ap (λ (xs : List Segment). out ++ program_headers at xs) (sym here) ∙ h)
