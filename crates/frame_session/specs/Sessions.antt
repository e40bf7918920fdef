-- A session as its requests see it, its sources, and the result of a request for a frame.
use Rattle.std.specs.Prelude.{◌≡◌, ℕ, ◌≤◌, ◌==◌, ◌&&◌, Bool, true, if◌then◌else◌, List, [], ◌∷◌, map, min, nat_lt, ◌^◌, ◌-◌, slice_set, sum, Option, Some, None, Result, Ok, Err, is_none, option_and_then, slice_get, length}
use Rattle.std.specs.Result.{result_unwrap_or}
use Rattle.vp8_tables.specs.declared.tables.Tables.{Tables}
use Rattle.pixel_planes.specs.Pictures.{PictureSamples}
use Rattle.stream_files.specs.declared.streams.FrameRate.{FrameRate}
use Rattle.stream_files.specs.declared.streams.Head.{Head}
use Rattle.stream_files.specs.declared.streams.Stream.{Stream}
use Rattle.frame_session.specs.declared.refusal.Refusal.{Refusal}
use Rattle.frame_session.specs.declared.refusal.Refusal.TheVariants as refusals
use Rattle.frame_session.specs.declared.size.Size.{Size}
use Rattle.request_lines.specs.declared.edit.Edit.{Edit}
use Rattle.stream_steps.specs.Decoding.{Outcome, outcomes}
use Rattle.packet_times.specs.Medians.{usual_of}
use Rattle.packet_edits.specs.Edits.{Listing, starting_with}
use Rattle.packet_edits.specs.Shown.{shown_indexes, stream_of}
use Rattle.script_nodes.specs.declared.nodes.Node.{Node}
use Rattle.script_nodes.specs.declared.traces.Step.{Step}
use Rattle.script_nodes.specs.Nodes.{script_of}
use Rattle.script_nodes.specs.Lengths.{script_length}
use Rattle.script_nodes.specs.Frames.{Origin, traced}
use Rattle.script_nodes.specs.Shown.{Shown, shown_in, steps_shown}
use Rattle.frame_session.specs.Edits.{edit_of, edited, list_at}
use Rattle.frame_session.specs.Scripts.{script_reported}

-- the state that answers depend on: the tables, the head of source 0 and the rate of its frames, the packet list of each source, the current source, on
-- which edits act, the script, the number of trailing bytes of all files, the size that the first frame served has fixed, and the
-- number of steps made
pub record SessionState : Type 0 where
  pub tables : Tables
  pub head : Head
  pub frame_rate : FrameRate
  pub lists : List Listing
  pub current : ℕ
  pub script : List Node
  pub spare : ℕ
  pub size : Option Size
  pub decoded : ℕ

-- the head of the first file; each session has one, so the first line is never used
abbrev pub head_of_first : List Stream → Head
head_of_first [] = record { width = 0; height = 0; rate = 0; scale = 0 }
head_of_first (file ∷ files) = file.head

-- the rate of the frames of the first file
abbrev pub rate_of_first : List Stream → FrameRate
rate_of_first [] = record { rate = 0; scale = 0 }
rate_of_first (file ∷ files) = file.frame_rate

-- the greatest number of trailing bytes that is reported
abbrev pub most_spare : ℕ
most_spare = 2 ^ 64 - 1

-- the number of trailing bytes of all files
abbrev pub spare_of : List Stream → ℕ
spare_of files = min (sum (map (λ file. file.spare) files)) most_spare

-- the packets of a file, with ids starting at 0; a packet that has no duration of its own has the median step of the file
abbrev pub list_of_file : Stream → Listing
list_of_file file = starting_with (usual_of file.head file.packets) file.packets

-- a new session over these files: one source for each
abbrev pub start : Tables → List Stream → SessionState
start tables files = record {
  tables = tables;
  head = head_of_first files;
  frame_rate = rate_of_first files;
  lists = map list_of_file files;
  current = 0;
  script = [];
  spare = spare_of files;
  size = None;
  decoded = 0;
}

-- the packet list on which edits act
abbrev pub current_list : SessionState → Listing
current_list now = list_at now.lists now.current

-- the rate of the frames, as long as no frame was served: the line that opens the frames is still to be written with it
abbrev pub rate_due : SessionState → Option FrameRate
rate_due now = if is_none now.size then Some now.frame_rate else None

-- the outcome of shown packet n of a list, if there is one
abbrev pub outcome_in : Tables → Listing → ℕ → Option Outcome
outcome_in tables list n = option_and_then (λ place. slice_get (outcomes tables (stream_of list)) place) (slice_get (shown_indexes (stream_of list)) n)

-- the outcome of shown packet n of a source, if there is one
abbrev pub outcome_of : SessionState → ℕ → ℕ → Option Outcome
outcome_of now source n = outcome_in now.tables (list_at now.lists source) n

-- the number of shown packets of each source, which is the number of its frames in a script
abbrev pub shown_counts : SessionState → List ℕ
shown_counts now = map (λ list. length (shown_indexes (stream_of list))) now.lists

-- the picture of a packet, or the source, the packet and the cause that broke its stream
abbrev pub picture_from : ℕ → Option Outcome → Result PictureSamples Refusal
picture_from source None = Err refusals.NoSuchFrame
picture_from source (Some (Err broken)) = Err (refusals.Packet source broken.place broken.cause)
picture_from source (Some (Ok decoded)) = Ok decoded.1

abbrev pub size_of : Shown → Size
size_of shown = record { width = shown.width; height = shown.height }

-- whether a size is the fixed one, if there is one
abbrev pub fits : Option Size → Size → Bool
fits None size = true
fits (Some fixed) size = (fixed.width == size.width) && (fixed.height == size.height)

-- a frame's shown samples, if it has the size of the stream
abbrev pub fitted : Option Size → Option Shown → Result Shown Refusal
fitted size None = Err refusals.CropOutside
fitted size (Some shown) = if fits size (size_of shown) then Ok shown else Err refusals.SizeDiffers

-- the steps applied to a picture, in the size of the stream
abbrev pub frame_made : Option Size → List Step → Result PictureSamples Refusal → Result Shown Refusal
frame_made size steps (Err refusal) = Err refusal
frame_made size steps (Ok picture) = fitted size (steps_shown steps (shown_in picture))

-- the frame with this origin
abbrev pub frame_from : SessionState → Option Origin → Result Shown Refusal
frame_from now None = Err refusals.NoSuchFrame
frame_from now (Some from) = frame_made now.size from.steps (picture_from from.source (outcome_of now from.source from.frame))

-- frame n of the current script over the current shown packets of the sources: its shown samples, or the first refusal
abbrev pub frame_of : SessionState → ℕ → Result Shown Refusal
frame_of now n = frame_from now (traced (shown_counts now) now.script n)

-- the size of a frame that was served
abbrev pub size_served : Result Shown Refusal → Option Size
size_served (Ok shown) = Some (size_of shown)
size_served (Err refusal) = None

-- the size of a picture that was returned
abbrev pub size_given : Result PictureSamples Refusal → Option Size
size_given (Ok picture) = Some (size_of (shown_in picture))
size_given (Err refusal) = None

-- the first frame that is served fixes the size
abbrev pub after_frame : SessionState → Option Size → SessionState
after_frame now None = now
after_frame now (Some size) = record now { size = Some size }

-- the state after a request for a frame, which may make any number of steps
pub record IsAfterFrame (old : SessionState) (served : Option Size) (new : SessionState) : Type 0 where
  pub rest : new ≡ record (after_frame old served) { decoded = new.decoded }
  pub steps : old.decoded ≤ new.decoded

-- an edit's result: the new number of packets of the current source, or the first refusal
abbrev pub edit_answer : SessionState → Edit (List ℕ) → Result ℕ Refusal
edit_answer now edit = edit_of now.tables now.lists (current_list now) edit

-- the state after an edit with this result: the current source's list is the edited one; a refused edit changes nothing
abbrev pub now_after_edit : Edit (List ℕ) → SessionState → Result ℕ Refusal → SessionState
now_after_edit edit now (Ok count) = record now { lists = slice_set now.lists now.current (edited now.tables now.lists edit (current_list now)) }
now_after_edit edit now (Err refusal) = now

-- the result of choosing a source: the number of its packets, or that it does not exist
abbrev pub choice_answer : SessionState → ℕ → Result ℕ Refusal
choice_answer now source = if nat_lt source (length now.lists) then Ok (length (list_at now.lists source).entries) else Err refusals.Source

-- the state after a source was chosen: edits act on it; a source that does not exist changes nothing
abbrev pub now_after_choice : ℕ → SessionState → SessionState
now_after_choice source now = if nat_lt source (length now.lists) then record now { current = source } else now

-- the result of a script: the number of packets of the current source, or the first error of its text
abbrev pub script_answer : SessionState → List ℕ → Result ℕ Refusal
script_answer now text = script_reported (length (current_list now).entries) (script_of (length now.lists) text)

-- the state after a script with this result: a refused one leaves the one before
abbrev pub now_after_script : List ℕ → SessionState → Result ℕ Refusal → SessionState
now_after_script text now (Ok count) = record now { script = result_unwrap_or (script_of (length now.lists) text) [] }
now_after_script text now (Err refusal) = now

-- the number of packets of the current source
abbrev pub packet_count : SessionState → ℕ
packet_count now = length (current_list now).entries

-- the number of frames that the script serves
abbrev pub frame_count : SessionState → ℕ
frame_count now = script_length (shown_counts now) now.script
