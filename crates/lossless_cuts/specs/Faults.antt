-- The errors of an export.
use Rattle.std.specs.Prelude.{ℕ, nat_lt, Bool, not, ◌||◌, if◌then◌else◌, List, [], ◌∷◌, ◌++◌, length, Option, Some, None, codes}
use Rattle.std.specs.Option.{option_map, option_or}
use Rattle.std.specs.Result.{result_err}
use Rattle.vp8_tables.specs.Tables.{TableEntries}
use Rattle.packet_forge.specs.Packets.{hold_of}
use Rattle.packet_forge.specs.declared.faults.ForgeFault.{ForgeFault}
use Rattle.packet_forge.specs.declared.faults.ForgeFault.TheVariants as forging
use Rattle.lossless_cuts.specs.declared.faults.CutFault.{CutFault}
use Rattle.lossless_cuts.specs.declared.faults.CutFault.TheVariants.{Place, Full, Size, TooLarge, NoMemory}
use Rattle.lossless_cuts.specs.declared.targets.Target.{Target}
use Rattle.lossless_cuts.specs.Limits.{is_too_large}
use Rattle.lossless_cuts.specs.Plans.{frame_packets, has_bytes, is_held, packet_at, stream_at}

-- the name of an error
abbrev pub cut_fault_word : CutFault → List ℕ
cut_fault_word Place = codes "Place"
cut_fault_word Full = codes "Full"
cut_fault_word Size = codes "Size"
cut_fault_word TooLarge = codes "TooLarge"
cut_fault_word NoMemory = codes "NoMemory"

-- the error of an export whose hold packet is not forged
abbrev pub cut_fault_by : ForgeFault → CutFault
cut_fault_by forging.Size = Size
cut_fault_by forging.TooLarge = TooLarge
cut_fault_by forging.NoMemory = NoMemory

-- why the packet that shows a frame is not forged, if it is a hold packet
abbrev pub shown_fault : TableEntries → List ℕ → Target → Bool → Option ForgeFault
shown_fault tables packet target is_held = if is_held || not (has_bytes packet) then result_err (hold_of tables target.width target.height) else None

-- why a frame has no packets: its own one does not exist, or the hold packet that shows it is not forged
abbrev pub frame_fault : TableEntries → List (List ℕ) → Option Target → Target → Option CutFault
frame_fault tables packets before target =
    if nat_lt target.place (length packets) then option_map cut_fault_by (shown_fault tables (packet_at packets target.place) target (is_held packets before target)) else Some Place

-- the fault of a frame after these packets: its own, or Full if there are too many packets or bytes with it
abbrev pub target_fault : TableEntries → List (List (List ℕ)) → List (List ℕ) → Option Target → Target → Option CutFault
target_fault tables streams done before target =
    let packets = stream_at streams target.source in
    option_or (frame_fault tables packets before target) (if is_too_large (done ++ frame_packets tables packets before target) then Some Full else None)

-- the fault of the first frame that has one
abbrev pub fault_after : TableEntries → List (List (List ℕ)) → List (List ℕ) → Option Target → List Target → Option CutFault
fault_after tables streams done before [] = None
fault_after tables streams done before (target ∷ targets) =
    option_or (target_fault tables streams done before target)
    (fault_after tables streams (done ++ frame_packets tables (stream_at streams target.source) before target) (Some target) targets)

-- the fault of an export of frames
abbrev pub export_fault : TableEntries → List (List (List ℕ)) → List Target → Option CutFault
export_fault tables streams targets = fault_after tables streams [] None targets
