-- The shown packets of a list are as many as its shown indexes.
use Rattle.std.proofs.Common.{◌≡◌, ℕ, zero, suc, ◌+◌, Bool, true, false, cond, List, [], ◌∷◌, take, map, length, refl, ap, ◌∙◌, arith}
use Rattle.std.specs.Int.{from_bool}
use Rattle.frame_header.specs.Tags.{is_shown}
use Rattle.packet_edits.specs.declared.entry.Entry.{Entry}
use Rattle.packet_edits.specs.Saved.{packet_of}
use Rattle.packet_edits.specs.Shown.{shown_from}
use Rattle.stream_facts.proofs.Positions.{shown_among}

among_if : (start : ℕ) (places : List ℕ) (shown : Bool) → length (cond shown (start ∷ places) places) ≡ from_bool shown + length places
among_if start places true = omega arith
among_if start places false = omega arith

pub shown_counted : (start : ℕ) (es : List Entry) (n : ℕ) → length (shown_from start (take n (map (λ (e : Entry). e.bytes) es))) ≡ shown_among (take n (map packet_of es))
shown_counted start es zero = refl
shown_counted start [] (suc n) = refl
shown_counted start (e ∷ es) (suc n) =
    among_if start (shown_from (start + 1) (take n (map (λ (e : Entry). e.bytes) es))) (is_shown e.bytes) ∙ ap (λ (k : ℕ). from_bool (is_shown e.bytes) + k) (shown_counted (start + 1) es n)
