-- The packets of a stream that decoding refuses, a line each.
use Rattle.std.specs.Prelude.{ℕ, Bool, true, false, ◌||◌, not, if◌then◌else◌, List, [], ◌∷◌, ◌++◌, codes, Option, Result, Ok, Err}
use Rattle.std.specs.Fmt.{decimal}
use Rattle.std.specs.List.{flat_map}
use Rattle.stream_files.specs.declared.packets.Packet.{Packet}
use Rattle.frame_header.specs.declared.cause.Cause.{Cause}
use Rattle.frame_header.specs.declared.outline.Outline.{Outline}
use Rattle.stream_facts.specs.declared.facts.Facts.{Facts}
use Rattle.stream_facts.specs.Facts.{facts_in}
use Rattle.stream_facts.specs.Lines.{cause_text}

-- the line of a refused packet
abbrev pub refusal_start : ℕ → List ℕ
refusal_start packet = codes "vp8list: packet " ++ decimal packet ++ codes ": refused "

abbrev pub own_refusal : ℕ → Result (Option Outline) Cause → List ℕ
own_refusal packet (Ok fields) = []
own_refusal packet (Err cause) = refusal_start packet ++ cause_text cause ++ codes "\n"

-- a packet that is lost with an earlier one has none
abbrev pub refusal_of : Facts → List ℕ
refusal_of facts = if facts.is_lost then [] else own_refusal facts.packet facts.header

-- of packets wherever they are in their file (`laws::refusals_have_no_place`)
abbrev pub refusals_of : List Packet → List ℕ
refusals_of packets = flat_map refusal_of (facts_in 0 packets)

-- whether decoding refuses a packet of its own, not because of an earlier one
abbrev pub is_accepted : Result (Option Outline) Cause → Bool
is_accepted (Ok fields) = true
is_accepted (Err cause) = false

abbrev pub is_refused : Facts → Bool
is_refused facts = if facts.is_lost then false else not (is_accepted facts.header)

abbrev pub has_refused : List Facts → Bool
has_refused [] = false
has_refused (facts ∷ rest) = is_refused facts || has_refused rest

-- and one of these packets
abbrev pub refuses_one : List Packet → Bool
refuses_one packets = has_refused (facts_in 0 packets)
