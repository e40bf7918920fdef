-- Laws about findings.
use Rattle.std.specs.Prelude.{◌≡◌, ℕ, ◌<◌, Bool, true, false, List, [], ◌∷◌, ◌++◌, map, replicate, slice_get, Option, Some, None, Err}
use Rattle.vp8_tables.specs.declared.tables.Tables.{Tables}
use Rattle.frame_header.specs.declared.cause.Cause.TheVariants.{NoKeyFrame}
use Rattle.stream_files.specs.declared.packets.Packet.{Packet}
use Rattle.stream_steps.specs.declared.broken.Broken.{Broken}
use Rattle.stream_steps.specs.Decoding.{Progress as Decoded, left_by, outcomes_from}
use Rattle.macroblock_lists.specs.Known.{Knowledge}
use Rattle.macroblock_lists.specs.KnownLaws.{known_in}
use Rattle.macroblock_lists.specs.PartitionEnds.{no_ends}
use Rattle.macroblock_lists.specs.declared.partition_ends.PartitionEnd.{PartitionEnd}
use Rattle.stream_checks.specs.declared.finding.Finding.{Finding}
use Rattle.stream_checks.specs.declared.finding.Trouble.{Trouble}
use Rattle.stream_checks.specs.declared.finding.Trouble.TheVariants.{NeverShown, PastFirst, PastToken, UnreadToken, EmptyToken, ComesTwice, StampGoesBack, StampRepeats, StampSkips, BreaksStep}
use Rattle.stream_checks.specs.Breaks.{progresses_from}
use Rattle.stream_checks.specs.Partitions.{partition_findings}
use Rattle.stream_checks.specs.Packets.{bytes_of, findings_from, first_position, lost_after}
use Rattle.stream_checks.specs.Stamps.{is_constant}
use Rattle.stream_checks.specs.declared.stamps.Pace.{Pace}

-- each packet that is counted as lost after a break has this break as its outcome
abbrev pub LostAreBroken : Type 0
LostAreBroken = (tables : Tables) (place : ℕ) (broken : Broken) (rest : List Packet) (j : ℕ) → j < lost_after rest
    → slice_get (outcomes_from tables place (Err broken) (bytes_of rest)) j ≡ Some (Err broken)

-- what is known after each packet of a stream is what decoding leaves after it, except the samples: so the breaks and their causes
-- are those of decoding
abbrev pub BreaksAreDecoded : Type 0
BreaksAreDecoded = (tables : Tables) (place : ℕ) (before : Decoded) (packets : List (List ℕ))
    → progresses_from tables place (known_in before) packets ≡ map (λ outcome. known_in (left_by outcome)) (outcomes_from tables place before packets)

-- a packet without a key tag, shown or hidden
abbrev pub shown : ℕ → Packet
shown stamp = record { stamp = stamp; bytes = 0x11 ∷ 0 ∷ 0 ∷ [] }

abbrev pub hidden : ℕ → Packet
hidden stamp = record { stamp = stamp; bytes = 0x01 ∷ 0 ∷ 0 ∷ [] }

-- and one with a key tag
abbrev pub key : ℕ → Packet
key stamp = record { stamp = stamp; bytes = 0x10 ∷ 0 ∷ 0 ∷ [] }

-- the findings at packets that are all lost with a break before them
abbrev pub found_at_pace : Pace → List Packet → List Finding
found_at_pace pace packets =
    let broken : Broken = record { place = 1000; cause = NoKeyFrame } in
    let lost : Knowledge = Err broken in
    findings_from pace first_position packets (map (λ packet. lost) packets) (map (λ packet. no_ends) packets)

abbrev pub found_in : ℕ → List Packet → List Finding
found_in step packets = found_at_pace (record { step = step; is_constant = false }) packets

abbrev pub at_packet : ℕ → Option ℕ → Trouble → Finding
at_packet packet frame trouble = record { spot = Some (record { packet = packet; frame = frame }); trouble = trouble }

-- with steps of 33 in the median a step of 34 does not skip, and one of 66 does, unless a hidden packet is between; a hidden
-- packet may have a time stamp of its own or that of the packet after it
abbrev pub WorkedStamps : Type 0
WorkedStamps = found_in 33 (shown 0 ∷ shown 33 ∷ shown 67 ∷ shown 67 ∷ shown 60 ∷ hidden 93 ∷ shown 126 ∷ hidden 159 ∷ shown 159 ∷ shown 225 ∷ hidden 225 ∷ [])
    ≡ at_packet 2 (Some 2) (ComesTwice false) ∷ at_packet 3 (Some 3) (StampRepeats 67) ∷ at_packet 4 (Some 4) (StampGoesBack 60 67) ∷ at_packet 9 (Some 7) (StampSkips 225 159) ∷ at_packet 10 None NeverShown ∷ []

-- one odd time stamp is one finding, and so is a gap after which the time goes on, or a start from 0
abbrev pub WorkedOddStamps : Type 0
WorkedOddStamps = (found_in 1 (shown 0 ∷ shown 1 ∷ shown 2 ∷ shown 9 ∷ shown 4 ∷ shown 5 ∷ []) ≡ at_packet 3 (Some 3) (StampSkips 9 2) ∷ [])
    × (found_in 1 (shown 0 ∷ shown 1 ∷ shown 2 ∷ shown 10 ∷ shown 11 ∷ []) ≡ at_packet 3 (Some 3) (StampSkips 10 2) ∷ [])
    × (found_in 1 (shown 5 ∷ shown 6 ∷ shown 0 ∷ shown 1 ∷ []) ≡ at_packet 2 (Some 2) (StampGoesBack 0 6) ∷ [])

-- where all other steps are 1, an odd one to an inter packet is damage: a packet is missing, two are in another order, or a shown one is
-- hidden, also if a hidden one has its time stamp. So is an inter packet that comes twice. At a key packet both are notes, and so is another
-- packet with the same time stamp
abbrev pub found_steady : List Packet → List Finding
found_steady packets = found_at_pace (record { step = 1; is_constant = true }) packets

abbrev pub WorkedBreaks : Type 0
WorkedBreaks = (found_steady (shown 0 ∷ shown 1 ∷ shown 3 ∷ shown 4 ∷ []) ≡ at_packet 2 (Some 2) (BreaksStep 3 1 1) ∷ [])
    × (found_steady (shown 0 ∷ shown 2 ∷ shown 1 ∷ shown 3 ∷ []) ≡ at_packet 1 (Some 1) (BreaksStep 2 0 1) ∷ at_packet 2 (Some 2) (BreaksStep 1 2 1) ∷ at_packet 3 (Some 3) (BreaksStep 3 1 1) ∷ [])
    × (found_steady (shown 0 ∷ hidden 1 ∷ shown 1 ∷ hidden 2 ∷ shown 3 ∷ []) ≡ at_packet 4 (Some 2) (BreaksStep 3 1 1) ∷ [])
    × (found_steady (shown 0 ∷ shown 1 ∷ shown 1 ∷ shown 2 ∷ key 3 ∷ key 3 ∷ []) ≡
    at_packet 1 (Some 1) (ComesTwice true) ∷ at_packet 2 (Some 2) (StampRepeats 1) ∷ at_packet 4 (Some 4) (ComesTwice false) ∷ at_packet 5 (Some 5) (StampRepeats 3) ∷ [])
    × (found_steady (shown 5 ∷ key 0 ∷ shown 1 ∷ []) ≡ at_packet 1 (Some 1) (StampGoesBack 0 5) ∷ [])

-- 16 steps, at most three odd ones in a row; not 15, not four, and not two places
abbrev pub even : ℕ → List Bool
even count = replicate count false

abbrev pub odd : ℕ → List Bool
odd count = replicate count true

abbrev pub WorkedPaces : Type 0
WorkedPaces =
    (is_constant (even 16) ≡ true) × (is_constant (even 15) ≡ false) × (is_constant (even 9 ++ odd 3 ++ even 9) ≡ true) × (is_constant (even 9 ++ odd 4 ++ even 9) ≡ false)
    × (is_constant (even 9 ++ odd 1 ++ even 4 ++ odd 1 ++ even 9) ≡ false) × (is_constant (even 15 ++ odd 2) ≡ true)

-- of partitions of 30 bytes: two bytes past the end of the first, three past that of the second token partition, four unread in
-- the third; the fourth is empty, and three unread bytes are not a finding
abbrev pub ended : ℕ → ℕ → ℕ → PartitionEnd
ended size past unread = record { size = size; past = past; unread = unread }

abbrev pub WorkedEnds : Type 0
WorkedEnds =
    partition_findings (record { packet = 12; frame = Some 10 }) (record { first = ended 30 2 0; tokens = record { items = ended 30 0 3 ∷ ended 30 3 0 ∷ ended 30 0 4 ∷ ended 0 0 0 ∷ [] } })
    ≡ map (at_packet 12 (Some 10)) (PastFirst 2 ∷ PastToken 1 3 ∷ UnreadToken 2 4 30 ∷ EmptyToken 3 ∷ [])
