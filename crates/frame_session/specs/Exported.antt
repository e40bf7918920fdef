-- The frames of a session as packets.
use Rattle.std.specs.Prelude.{◌≡◌, ◌⊎◌, ℕ, ◌+◌, ◌<◌, ◌≤◌, ◌==◌, if◌then◌else◌, true, List, [], ◌∷◌, map, length, slice_get, Option, Some, None, Result, Ok, Err}
use Rattle.std.specs.List.{list_all}
use Rattle.pixel_planes.specs.Pictures.{PictureSamples}
use Rattle.vp8_tables.specs.declared.tables.Tables.{Tables}
use Rattle.packet_edits.specs.Shown.{shown_indexes, stream_of}
use Rattle.stream_steps.specs.Decoding.{outcomes}
use Rattle.stream_refusals.specs.GoodPictures.{HasBytes}
use Rattle.lossless_cuts.specs.Exports.{IsDecoded, ShowsExactly}
use Rattle.lossless_cuts.specs.Faults.{export_fault}
use Rattle.lossless_cuts.specs.Limits.{IsTooLarge, file_size}
use Rattle.lossless_cuts.specs.Plans.{exported, written}
use Rattle.lossless_cuts.specs.declared.faults.CutFault.{CutFault}
use Rattle.lossless_cuts.specs.declared.faults.CutFault.TheVariants as cuts
use Rattle.lossless_cuts.specs.declared.targets.Target.{Target}
use Rattle.script_nodes.specs.Frames.{Origin, traced}
use Rattle.script_nodes.specs.NodeSteps.{changed_nodes, keeps_samples, node_steps}
use Rattle.script_nodes.specs.Shown.{Shown, Shows}
use Rattle.packet_times.specs.Durations.{one_frame}
use Rattle.packet_times.specs.Heads.{IsHeadFor}
use Rattle.packet_times.specs.Stamps.{stamped}
use Rattle.packet_times.specs.Sums.{bases_of, stamps_of}
use Rattle.packet_times.specs.declared.durations.Duration.{Duration}
use Rattle.stream_files.specs.declared.streams.Head.{Head}
use Rattle.std.specs.Option.{option_map_or}
use Rattle.frame_session.specs.declared.export.Export.{Export}
use Rattle.frame_session.specs.declared.session.exports.ExportFault.{ExportFault}
use Rattle.frame_session.specs.declared.session.exports.ExportFault.TheVariants.{Frame, Changed, Packets}
use Rattle.frame_session.specs.declared.refusal.Refusal.{Refusal}
use Rattle.frame_session.specs.declared.refusal.Refusal.TheVariants as refusals
use Rattle.frame_session.specs.Edits.{list_at}
use Rattle.frame_session.specs.Sessions.{SessionState, frame_count, frame_of, outcome_of, picture_from, shown_counts}

-- the packets of each source
abbrev pub streams_in : SessionState → List (List (List ℕ))
streams_in now = map stream_of now.lists

-- frame n of the script comes from this packet, which decoding accepts with this picture, and no step changes a sample of it
pub record IsTarget (now : SessionState) (n : ℕ) (target : Target) (picture : PictureSamples) : Type 0 where
  pub from : Origin
  pub traces : traced (shown_counts now) now.script n ≡ Some from
  pub source : from.source ≡ target.source
  pub place : slice_get (shown_indexes (stream_of (list_at now.lists target.source))) from.frame ≡ Some target.place
  pub keeps : list_all (keeps_samples target.width target.height) from.steps ≡ true
  pub decoded : IsDecoded now.tables (stream_of (list_at now.lists target.source)) target picture

-- consecutive frames, the first of which is frame n
abbrev pub AreTargets : SessionState → ℕ → List Target → List PictureSamples → Type 0
AreTargets now n [] [] = Unit {0}
AreTargets now n (target ∷ targets) (picture ∷ pictures) = IsTarget now n target picture × AreTargets now (n + 1) targets pictures
AreTargets now n [] (picture ∷ pictures) = ⊥
AreTargets now n (target ∷ targets) [] = ⊥

-- the session as if no frame was served: frames of any size are
abbrev pub unsized : SessionState → SessionState
unsized now = record now { size = None }

-- a picture shows frame n of the session, whatever size was served before
abbrev pub IsFrame : SessionState → ℕ → PictureSamples → Type 0
IsFrame now n picture = (shown : Shown) × (frame_of (unsized now) n ≡ Ok shown) × Shows picture shown

-- packets that show exactly the frames of a session: decoding refuses none of them, they have as many shown frames, and frame n of
-- them is frame n of the session, the same size and the same samples
pub record IsExport (now : SessionState) (packets : List (List ℕ)) : Type 0 where
  pub pictures : List PictureSamples
  pub shows : ShowsExactly now.tables packets pictures
  pub count : length pictures ≡ frame_count now
  pub each : (n : ℕ) (picture : PictureSamples) → slice_get pictures n ≡ Some picture → IsFrame now n picture

-- the packets of all frames, padded, do so
abbrev pub ScriptsAreExported : Tables → Type 0
ScriptsAreExported tables =
    (now : SessionState) (targets : List Target) (pictures : List PictureSamples) → now.tables ≡ tables → AreTargets now 0 targets pictures → length targets ≡ frame_count now
    → IsExport now (written (exported now.tables (streams_in now) None targets))

-- frame n can be exported from this packet, whatever its picture is; and so can consecutive frames, the first of which is frame n
abbrev pub HasTarget : SessionState → ℕ → Target → Type 0
HasTarget now n target = (picture : PictureSamples) × IsTarget now n target picture

abbrev pub HaveTargets : SessionState → ℕ → List Target → Type 0
HaveTargets now n [] = Unit {0}
HaveTargets now n (target ∷ targets) = HasTarget now n target × HaveTargets now (n + 1) targets

-- how long the packet of a frame is shown
abbrev pub duration_at : SessionState → Target → Duration
duration_at now target = option_map_or (λ entry. entry.duration) (slice_get (list_at now.lists target.source).entries target.place) one_frame

-- the rate and scale of a head, and the size of the first frame, 0x0 if there is none
abbrev pub export_head : Head → List Target → Head
export_head head [] = record head { width = 0; height = 0 }
export_head head (target ∷ targets) = record head { width = target.width; height = target.height }

-- a file that shows exactly the frames of a session, each as long as its packet is shown: the packets of the frames, which have no fault and
-- are padded as they are written, at most 1,048,576 of them, and at most 1,073,741,824 bytes. Its head has the time base of source 0, or one of
-- which the durations are whole numbers, and the time stamp of a frame is the time after the frames before it
pub record IsExportFile (now : SessionState) (file : Export) : Type 0 where
  pub targets : List Target
  pub frames : HaveTargets now 0 targets
  pub all : length targets ≡ frame_count now
  pub shows : IsExport now (written (exported now.tables (streams_in now) None targets))
  pub head : IsHeadFor (export_head now.head targets) (bases_of (map (duration_at now) targets)) file.head
  pub stamps : file.packets ≡ stamped (stamps_of file.head (map (duration_at now) targets)) (exported now.tables (streams_in now) None targets)
  pub allowed : export_fault now.tables (streams_in now) targets ≡ None
  pub few : length file.packets ≤ 1048576
  pub small : file_size (exported now.tables (streams_in now) None targets) ≤ 1073741824

-- the picture of the packet from which a frame with this origin comes, before the steps of the script
abbrev pub source_picture : SessionState → Option Origin → Result PictureSamples Refusal
source_picture now None = Err refusals.NoSuchFrame
source_picture now (Some from) = picture_from from.source (outcome_of now from.source from.frame)

-- frame n can be served, but the script changes samples of it: this is the number of the first node that does
pub record IsChanged (now : SessionState) (n node : ℕ) : Type 0 where
  pub shown : Shown
  pub served : frame_of (unsized now) n ≡ Ok shown
  pub picture : PictureSamples
  pub decoded : source_picture now (traced (shown_counts now) now.script n) ≡ Ok picture
  pub first : slice_get (changed_nodes (picture.width, picture.height) (node_steps (shown_counts now) now.script n)) 0 ≡ Some node

-- decoding accepts the packet at an index of a source, with a picture of this size
pub record HasPicture (now : SessionState) (source place : ℕ) (size : ℕ × ℕ) : Type 0 where
  pub picture : PictureSamples
  pub accepted : picture_from source (slice_get (outcomes now.tables (stream_of (list_at now.lists source))) place) ≡ Ok picture
  pub wide : picture.width ≡ size.0
  pub high : picture.height ≡ size.1
  pub bytes : HasBytes picture

-- the index of the packet of a frame, if it is of this source
abbrev pub index_in : Option Target → ℕ → Option ℕ
index_in None source = None
index_in (Some target) source = if target.source == source then Some target.place else None

-- why frame n is not exported
abbrev pub IsFrameFault : SessionState → ℕ → ExportFault → Type 0
IsFrameFault now n (Frame frame refusal) = (frame ≡ n) × (frame_of (unsized now) n ≡ Err refusal)
IsFrameFault now n (Changed frame node) = (frame ≡ n) × IsChanged now n node
IsFrameFault now n (Packets fault) = ⊥

-- why frames with these targets have no packets
abbrev pub IsPackingFault : SessionState → List Target → ExportFault → Type 0
IsPackingFault now targets (Packets cuts.NoMemory) = Unit {0}
IsPackingFault now targets (Packets cuts.Full) = (export_fault now.tables (streams_in now) targets ≡ Some cuts.Full) × IsTooLarge (exported now.tables (streams_in now) None targets)
IsPackingFault now targets (Packets fault) = export_fault now.tables (streams_in now) targets ≡ Some fault
IsPackingFault now targets _ = ⊥

-- the first frames, this many, can be exported
abbrev pub CanExport : SessionState → ℕ → Type 0
CanExport now count = (targets : List Target) × HaveTargets now 0 targets × (length targets ≡ count)

-- all frames can be exported, one by one, but their packets have this fault
abbrev pub HaveFault : SessionState → CutFault → Type 0
HaveFault now fault = (targets : List Target) × HaveTargets now 0 targets × (length targets ≡ frame_count now) × (export_fault now.tables (streams_in now) targets ≡ Some fault)

-- the packets of all frames would be too many, or too many bytes; each frame has a packet of its own
abbrev pub IsTooLargeExport : SessionState → Type 0
IsTooLargeExport now =
    (1048576 < frame_count now)
    ⊎ ((targets : List Target) × HaveTargets now 0 targets × (length targets ≡ frame_count now) × (export_fault now.tables (streams_in now) targets ≡ Some cuts.Full) × IsTooLarge (exported now.tables (streams_in now) None targets))

-- why the frames of a session are not exported: all frames before the one that is reported can be. No memory may be reported at any time
abbrev pub IsNotExported : SessionState → ExportFault → Type 0
IsNotExported now (Frame frame refusal) = (frame < frame_count now) × CanExport now frame × (frame_of (unsized now) frame ≡ Err refusal)
IsNotExported now (Changed frame node) = (frame < frame_count now) × CanExport now frame × IsChanged now frame node
IsNotExported now (Packets cuts.NoMemory) = Unit {0}
IsNotExported now (Packets cuts.Place) = ⊥
IsNotExported now (Packets cuts.Full) = IsTooLargeExport now
IsNotExported now (Packets fault) = HaveFault now fault
