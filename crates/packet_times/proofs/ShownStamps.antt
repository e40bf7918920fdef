-- Packets have the time stamps of frames.
use Rattle.std.proofs.Common.{◌≡◌, ℕ, zero, suc, ◌+◌, ◌≤◌, Bool, true, false, List, [], ◌∷◌, length, drop, take, get_or, slice_get, Some, refl, sym, ap, ◌∙◌, arith}
use Rattle.std.proofs.lemmas.List.FromFn.{get_or-map-range_with_len}
use Rattle.frame_header.specs.Tags.{is_shown}
use Rattle.stream_files.specs.declared.packets.Packet.{Packet}
use Rattle.packet_times.specs.Sums.{stamp_at, stamps_of}
use Rattle.packet_times.specs.Stamps.{StampsAreOfFrames, first_stamp, shown_count, stamped}

-- how many of the first packets show a frame
shown_more : (packet : List ℕ) (packets : List (List ℕ)) → is_shown packet ≡ true → shown_count (packet ∷ packets) ≡ suc (shown_count packets)
shown_more packet packets shown = rw shown refl

hidden_more : (packet : List ℕ) (packets : List (List ℕ)) → is_shown packet ≡ false → shown_count (packet ∷ packets) ≡ shown_count packets
hidden_more packet packets hidden = rw hidden refl

after_first : (stamps : List ℕ) (n : ℕ) → get_or (drop 1 stamps) n 0 ≡ get_or stamps (suc n) 0
after_first [] n = refl
after_first (stamp ∷ stamps) n = refl

stamp_is : (stamps : List ℕ) (packets : List (List ℕ)) (place : ℕ) (packet : Packet) → slice_get (stamped stamps packets) place ≡ Some packet → packet.stamp ≡ get_or stamps (shown_count (take place packets)) 0
stamp_is stamps [] place packet found = cc
stamp_is stamps (first ∷ packets) zero packet found = let same : first_stamp stamps ≡ packet.stamp = cc in sym same
stamp_is stamps (first ∷ packets) (suc place) packet found = by_first (is_shown first) refl (λ left there. stamp_is left packets place packet there)
  where
    by_first : (b : Bool) → is_shown first ≡ b → ((left : List ℕ) → slice_get (stamped left packets) place ≡ Some packet → packet.stamp ≡ get_or left (shown_count (take place packets)) 0)
        → packet.stamp ≡ get_or stamps (shown_count (first ∷ take place packets)) 0
    by_first true shown rest =
        let there = rw shown at found in
        rest (drop 1 stamps) there ∙ after_first stamps (shown_count (take place packets)) ∙ ap (λ (n : ℕ). get_or stamps n 0) (sym (shown_more first (take place packets) shown))
    by_first false hidden rest =
        let there = rw hidden at found in
        rest stamps there ∙ ap (λ (n : ℕ). get_or stamps n 0) (sym (hidden_more first (take place packets) hidden))

fewer : (packets : List (List ℕ)) (place : ℕ) → shown_count (take place packets) ≤ shown_count packets
fewer [] zero = omega arith
fewer [] (suc place) = omega arith
fewer (packet ∷ packets) zero = omega arith
fewer (packet ∷ packets) (suc place) = by_first (is_shown packet) refl (fewer packets place)
  where
    by_first : (b : Bool) → is_shown packet ≡ b → shown_count (take place packets) ≤ shown_count packets → shown_count (packet ∷ take place packets) ≤ shown_count (packet ∷ packets)
    by_first true shown rest = omega (arith, shown_more packet packets shown, shown_more packet (take place packets) shown)
    by_first false hidden rest = omega (arith, hidden_more packet packets hidden, hidden_more packet (take place packets) hidden)

pub stamps_are_of_frames : StampsAreOfFrames
stamps_are_of_frames head durations packets place packet few found =
    let n : ℕ = shown_count (take place packets) in
    stamp_is (stamps_of head durations) packets place packet found
    ∙ get_or-map-range_with_len (stamp_at head durations) 0 (length durations + 1) n n 0 (omega (arith, fewer packets place)) (omega arith)
