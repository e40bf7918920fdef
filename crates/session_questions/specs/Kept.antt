-- What is kept of a list of packets between questions about it: what is known before one of its packets each.
use Rattle.std.specs.Prelude.{◌≡◌, ◌⊎◌, ℕ, ◌+◌, ◌-◌, ◌≤◌, true, IfSome, drop, length, take}
use Rattle.vp8_tables.specs.Tables.{TableEntries}
use Rattle.packet_edits.specs.Edits.{Listing}
use Rattle.packet_edits.specs.Saved.{packets_of}
use Rattle.packet_edits.specs.Shown.{stream_of}
use Rattle.packet_edits.specs.Sizes.{key_tag_at}
use Rattle.stream_facts.specs.declared.facts.Position.{Position}
use Rattle.macroblock_lists.specs.Known.{Knowledge, progress_over}
use Rattle.macroblock_lists.specs.Texts.{progress_before}
use Rattle.stream_checks.specs.declared.packets.PacketsBefore.{PacketsBefore}
use Rattle.stream_checks.specs.declared.stamps.Pace.{Pace}
use Rattle.stream_checks.specs.Packets.{first_position, position_over}
use Rattle.stream_checks.specs.Stamps.{pace_of}
use Rattle.session_questions.specs.declared.lister.Lister.{Lister}
use Rattle.session_questions.specs.declared.reached.Reached.{Reached}
use Rattle.session_questions.specs.Places.{position_at}

-- a position of the list, by which the lines of the packets after it follow
abbrev pub IsListed : Listing → Position → Type 0
IsListed list position = (position.packets ≤ length list.entries) × (position ≡ position_at list position.packets)

-- how the time stamps of the list go on
abbrev pub IsPace : Listing → Pace → Type 0
IsPace list pace = (pace ≡ pace_of (packets_of list)) × (1 ≤ pace.step)

-- a position of the list, by which the findings at the packets after it follow; `step` is that of its pace
pub record IsCheckedBy (step : ℕ) (list : Listing) (position : PacketsBefore) : Type 0 where
  pub within : position.packets ≤ length list.entries
  pub frames : position.frames ≤ position.packets
  pub is : position ≡ position_over step first_position (take position.packets (packets_of list))

-- what decoding knows before a packet of the list
abbrev pub IsReached : TableEntries → Listing → Reached → Type 0
IsReached tables list reached = (reached.at ≤ length list.entries) × (reached.progress ≡ progress_before tables (packets_of list) reached.at)

-- reading the packets from there up to an index leads to what decoding knows before the packet at the index
abbrev pub LeadsTo : TableEntries → Listing → Reached → ℕ → Type 0
LeadsTo tables list from at =
    (from.at ≤ at) × (progress_over tables from.at from.progress (take (at - from.at) (drop from.at (stream_of list))) ≡ progress_before tables (packets_of list) at)

-- what decoding knows before the first of so many packets, or nothing, if that one has a key tag
pub record IsKnownFor (tables : TableEntries) (list : Listing) (first count : ℕ) (progress : Knowledge) : Type 0 where
  pub known : (progress ≡ progress_before tables (packets_of list) first) ⊎ (key_tag_at (stream_of list) first ≡ true)
  pub leads : LeadsTo tables list (record { at = first; progress = progress }) (first + count)

-- all that is kept is of this list
pub record IsLister (tables : TableEntries) (list : Listing) (lister : Lister) : Type 0 where
  pub listed : IfSome lister.listed (IsListed list)
  pub pace : IfSome lister.pace (IsPace list)
  pub checked : IfSome lister.checked (IsCheckedBy (pace_of (packets_of list)).step list)
  pub reached : IfSome lister.reached (IsReached tables list)
