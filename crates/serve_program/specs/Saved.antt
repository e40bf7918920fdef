-- What is saved after a run: the packets of source 0, and the frames as they were exported.
use Rattle.std.specs.Prelude.{◌≡◌, Bool, ℕ, List, map, IfSome, if◌then◌else◌}
use Rattle.stream_files.specs.Texts.{written_text}
use Rattle.stream_files.specs.declared.streams.Head.{Head}
use Rattle.stream_files.specs.declared.packets.Packet.{Packet}
use Rattle.packet_edits.specs.Edits.{Listing}
use Rattle.packet_edits.specs.Saved.{packets_of, padded_packets_of, restamped}
use Rattle.frame_session.specs.Edits.{list_at}
use Rattle.frame_session.specs.ExportSizes.{padded_packet}
use Rattle.frame_session.specs.Exported.{IsExportFile}
use Rattle.frame_session.specs.Sessions.{SessionState}
use Rattle.frame_session.specs.declared.export.Export.{Export}
use Rattle.serve_arguments.specs.declared.words.Words.{Words}

-- the packets of a list as they are saved: padded or not, with new time stamps or their own
abbrev pub saved_packets : Bool → Bool → Head → Listing → List Packet
saved_packets pads restamps head list =
    if restamps then restamped pads head list.entries else (if pads then padded_packets_of list else packets_of list)

-- the file of the packets of source 0 at the end
abbrev pub saved_text : Bool → Bool → SessionState → List ℕ
saved_text pads restamps end = written_text end.head (saved_packets pads restamps end.head (list_at end.lists 0))

-- the file of an export: its packets are padded
abbrev pub exported_text : Export → List ℕ
exported_text export = written_text export.head (map padded_packet export.packets)

-- the texts that were saved at a path
abbrev pub SavedAt : Type 1
SavedAt = (path text : List ℕ) → Type 0

-- the packets of source 0 of a session were saved, if the arguments name a file for them
abbrev pub ArePacketsSaved : SavedAt → Words → SessionState → Type 0
ArePacketsSaved saved words now = IfSome words.saved (λ path. saved path.now (saved_text words.pads words.restamps now))

-- an export was saved, if the arguments name a file for it
abbrev pub IsExportSaved : SavedAt → Words → Export → Type 0
IsExportSaved saved words export = IfSome words.exported (λ path. saved path.now (exported_text export))

-- the frames of a session were exported and saved, if the arguments name a file for them
abbrev pub AreFramesSaved : SavedAt → Words → SessionState → Type 0
AreFramesSaved saved words now = IfSome words.exported (λ path. (export : Export) × IsExportFile now export × saved path.now (exported_text export))

-- after the last request, at `end`, the frames were exported and the packets saved, as these arguments ask; neither changes the session
pub record AreSaved (saved : SavedAt) (words : Words) (end new : SessionState) : Type 0 where
  pub same : new ≡ end
  pub packets : ArePacketsSaved saved words new
  pub frames : AreFramesSaved saved words end
