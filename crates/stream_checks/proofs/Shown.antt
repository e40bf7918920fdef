-- The number of shown packets.
use Rattle.std.proofs.Common.{◌≡◌, ℕ, ◌+◌, Bool, true, false, cond, List, ◌∷◌, refl, ap, ◌∙◌}
use Rattle.std.specs.Int.{from_bool}
use Rattle.std.proofs.lemmas.List.Sums.{sum_by-cons}
use Rattle.frame_header.specs.Tags.{is_shown}
use Rattle.stream_files.specs.declared.packets.Packet.{Packet}
use Rattle.stream_checks.specs.Lines.{frames_of}

one-frame : (shown : Bool) → cond shown 1 0 ≡ from_bool shown
one-frame true = refl
one-frame false = refl

pub frames-more : (packet : Packet) (packets : List Packet) → frames_of (packet ∷ packets) ≡ from_bool (is_shown packet.bytes) + frames_of packets
frames-more packet packets =
    sum_by-cons (λ (p : Packet). cond (is_shown p.bytes) 1 0) packet packets ∙ ap (λ (n : ℕ). n + frames_of packets) (one-frame (is_shown packet.bytes))
