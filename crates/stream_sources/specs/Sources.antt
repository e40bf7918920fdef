-- What bytes are read as: an IVF file, or the video of a WebM or Matroska file.
use Rattle.std.specs.Prelude.{◌≡◌, ℕ, ◌*◌, ◌<◌, ◌≤◌, Bool, true, false, List, Some, None, Result, Ok, Err}
use Rattle.stream_files.specs.declared.packets.Packet.{Packet}
use Rattle.stream_files.specs.declared.streams.FrameRate.{FrameRate}
use Rattle.stream_files.specs.declared.streams.Head.{Head}
use Rattle.stream_files.specs.declared.streams.Stream.{Stream}
use Rattle.stream_files.specs.Ivf.{IsIvf}
use Rattle.stream_files.specs.Streams.{rate_of}
use Rattle.webm_files.specs.declared.files.Webm.{Webm}
use Rattle.webm_files.specs.Files.{IsWebm, is_marked}
use Rattle.webm_files.specs.Rates.{IsFrameRate}
use Rattle.packet_times.specs.Medians.{median_of, steps_of}
use Rattle.stream_sources.specs.declared.faults.StreamFault.{StreamFault}
use Rattle.stream_sources.specs.declared.sources.Source.{Source}
use Rattle.stream_sources.specs.declared.sources.TheConstants.{MAX_FRAME_RATE}
use Rattle.stream_sources.specs.Faults.{StreamRefuses}

-- the stream of a WebM file: the head, the packets and the skipped bytes of its video. The frame rate is by the duration that its track gives a
-- frame, or by the median step between the time stamps of shown packets
pub record IsVideo (file : Webm) (stream : Stream) : Type 0 where
  pub head : stream.head ≡ file.head
  pub packets : stream.packets ≡ file.packets
  pub spare : stream.spare ≡ file.spare
  pub frame_rate : IsFrameRate file.head file.media.default_duration (median_of (steps_of file.packets)) stream.frame_rate

-- a time base is the frame rate of its stream if it has no more units per second: recorders of calls write one of 90,000, and WebM one of 1,000
abbrev pub IsPlausible : Head → Type 0
IsPlausible head = head.rate ≤ MAX_FRAME_RATE * head.scale

-- the frame rate of an IVF file with this head: the time base if it is plausible, or else by the median step between the time stamps of shown packets
pub record IsIvfRate (head : Head) (packets : List Packet) (found : FrameRate) : Type 0 where
  pub by_base : IsPlausible head → found ≡ rate_of head
  pub by_step : ¬ IsPlausible head → IsFrameRate head 0 (median_of (steps_of packets)) found

-- the stream of an IVF file: its head, its packets and its trailing bytes, with this frame rate
pub record IsRated (file stream : Stream) : Type 0 where
  pub head : stream.head ≡ file.head
  pub packets : stream.packets ≡ file.packets
  pub spare : stream.spare ≡ file.spare
  pub frame_rate : IsIvfRate file.head file.packets stream.frame_rate

-- the bytes are an IVF file of this stream
abbrev pub IsIvfStream : List ℕ → Stream → Type 0
IsIvfStream bytes stream = (file : Stream) × IsIvf bytes file × IsRated file stream

-- by whether the bytes begin with EBML's mark
abbrev pub IsStreamBy : Bool → List ℕ → Stream → Type 0
IsStreamBy true bytes stream = (file : Webm) × IsWebm bytes file × IsVideo file stream
IsStreamBy false bytes stream = IsIvfStream bytes stream

-- the bytes are a file of this stream
abbrev pub IsStream : List ℕ → Stream → Type 0
IsStream bytes stream = IsStreamBy (is_marked bytes) bytes stream

-- the result of reading a file
abbrev pub StreamAnswers : List ℕ → Result Stream StreamFault → Type 0
StreamAnswers bytes (Ok stream) = IsStream bytes stream
StreamAnswers bytes (Err fault) = StreamRefuses bytes fault

-- the bytes are a WebM file of this stream, of which this is kept
abbrev pub IsWebmSource : List ℕ → Source → Type 0
IsWebmSource bytes source = (file : Webm) × IsWebm bytes file × IsVideo file source.stream × (source.media ≡ Some file.media)

-- of an IVF file nothing else is kept
abbrev pub IsIvfSource : List ℕ → Source → Type 0
IsIvfSource bytes source = IsIvfStream bytes source.stream × (source.media ≡ None)

abbrev pub IsSourceBy : Bool → List ℕ → Source → Type 0
IsSourceBy true bytes source = IsWebmSource bytes source
IsSourceBy false bytes source = IsIvfSource bytes source

-- the bytes are a file of this stream, of which this is kept
abbrev pub IsSource : List ℕ → Source → Type 0
IsSource bytes source = IsSourceBy (is_marked bytes) bytes source

-- the result of reading a file with what is kept of it
abbrev pub SourceAnswers : List ℕ → Result Source StreamFault → Type 0
SourceAnswers bytes (Ok source) = IsSource bytes source
SourceAnswers bytes (Err fault) = StreamRefuses bytes fault
