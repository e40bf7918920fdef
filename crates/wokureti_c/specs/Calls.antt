-- What the calls of a handle answer.
use Rattle.std.specs.Prelude.{◌≡◌, ℕ, ◌+◌, ◌-◌, ◌^◌, min, Bool, if◌then◌else◌, List, [], Option, Some, None, IfSome, Result, Ok, Err}
use Rattle.std.specs.Io.KnownBytes.{Appends}
use Rattle.pixel_planes.specs.Pictures.{PictureSamples}
use Rattle.pixel_planes.specs.declared.pictures.Component.TheVariants.{Luma, Cb, Cr}
use Rattle.stream_files.specs.Texts.{written_text}
use Rattle.packet_edits.specs.Saved.{packets_of, padded_packets_of}
use Rattle.request_lines.specs.Requests.{asked_by}
use Rattle.frame_header.specs.declared.cause.Cause.{Cause}
use Rattle.frame_session.specs.Answers.{WritesAnswer}
use Rattle.frame_session.specs.Cached.{SessionValue}
use Rattle.frame_session.specs.Edits.{list_at}
use Rattle.frame_session.specs.IsOrNoMemory.{IsFrameOrNoMemory}
use Rattle.frame_session.specs.Sessions.{IsAfterFrame, SessionState, frame_of, size_given}
use Rattle.frame_session.specs.Told.{Tells}
use Rattle.frame_session.specs.declared.refusal.Refusal.{Refusal}
use Rattle.frame_session.specs.declared.refusal.Refusal.TheVariants as refusals
use Rattle.explanations.specs.Details.{IsDetail}
use Rattle.explanations.specs.Refusals.{explained}
use Rattle.explanations.specs.declared.details.Detail.{Detail}
use Rattle.wokureti_c.specs.declared.engine.Engine.{Engine}
use Rattle.wokureti_c.specs.declared.engine.RefusedLine.{RefusedLine}
use Rattle.wokureti_c.specs.declared.frames.Shown.{Shown}
use Rattle.wokureti_c.specs.Rooms.{Fits, with_bytes, with_plane}
use Rattle.wokureti_c.specs.Statuses.{number_of_refusal}

-- the rooms for the three planes of a frame
pub record Planes : Type 0 where
  pub y : List ℕ
  pub cb : List ℕ
  pub cr : List ℕ

-- rooms after a picture was put in them, with these strides
abbrev pub with_picture : PictureSamples → Shown → Planes → Planes
with_picture picture shown rooms = record {
  y = with_plane picture Luma shown.luma_stride rooms.y;
  cb = with_plane picture Cb shown.chroma_stride rooms.cb;
  cr = with_plane picture Cr shown.chroma_stride rooms.cr;
}

-- frame n of a session was asked for, and this is its result, and the session after it
pub record FrameAnswers (old : SessionValue) (n : ℕ) (answer : Result PictureSamples Refusal) (new : SessionValue) : Type 0 where
  pub is_its : IsFrameOrNoMemory (frame_of old.state n) answer
  pub after : IsAfterFrame old.state (size_given answer) new.state

-- a frame that was served has this size, and its planes are in the rooms
pub record IsServed (old : SessionValue) (n : ℕ) (before shown : Shown) (rooms rooms' : Planes) (new : SessionValue) : Type 0 where
  pub picture : PictureSamples
  pub answers : FrameAnswers old n (Ok picture) new
  pub wide : shown.width ≡ picture.width
  pub high : shown.height ≡ picture.height
  pub planes : rooms' ≡ with_picture picture before rooms

-- a frame that does not fit into the rooms: its size, and the rooms as they were
pub record IsTooLarge (old : SessionValue) (n : ℕ) (shown : Shown) (rooms rooms' : Planes) (new : SessionValue) : Type 0 where
  pub picture : PictureSamples
  pub answers : FrameAnswers old n (Ok picture) new
  pub wide : shown.width ≡ picture.width
  pub high : shown.height ≡ picture.height
  pub untouched : rooms' ≡ rooms

-- a frame that was refused, with this number: the packet that broke its source is reported, and the rooms are as they were
pub record IsRefused (old : SessionValue) (n status : ℕ) (shown : Shown) (rooms rooms' : Planes) (new : SessionValue) : Type 0 where
  pub refusal : Refusal
  pub answers : FrameAnswers old n (Err refusal) new
  pub numbered : status ≡ number_of_refusal refusal
  pub broken : (source place : ℕ) (cause : Cause) → refusal ≡ refusals.Packet source place cause → (shown.source ≡ source) × (shown.packet ≡ place)
  pub untouched : rooms' ≡ rooms

-- a line is kept with its number and the refusal that its reply reports
pub record IsKept (count : ℕ) (asked reply : List ℕ) (kept : RefusedLine) : Type 0 where
  pub number : kept.number ≡ count
  pub line : kept.line.items ≡ asked
  pub told : Tells (Some []) (Some reply) (Some kept.refusal)

-- a request line was answered over a session: its reply is the text that is left, and the bytes of frames that it wrote are given to nobody; the line
-- is kept if it was refused
pub record IsAnswered (old : Engine) (line : List ℕ) (new : Engine) : Type 0 where
  pub serves : WritesAnswer old.session.state (asked_by line) None None (Some []) (Some new.text.items) new.session.state
  pub heads : new.heads ≡ old.heads
  pub number : new.answered ≡ min (old.answered + 1) (2 ^ 64 - 1)
  pub kept : IfSome new.refused (IsKept new.answered line new.text.items)

-- the text that explains a line that was refused, or nothing
abbrev pub IsReason : Engine → Option RefusedLine → List ℕ → Type 0
IsReason engine None text = text ≡ []
IsReason engine (Some asked) text =
    (detail : Detail) × IsDetail engine.session.state (asked_by asked.line.items) asked.refusal detail × (text ≡ explained asked.number asked.line.items detail asked.refusal)

-- it is the text that is left, and nothing else changed
pub record IsExplained (old new : Engine) : Type 0 where
  pub rest : new ≡ record old { text = new.text }
  pub reason : IsReason old old.refused new.text.items

-- the file of the packets of source 0
abbrev pub saved_file : Bool → SessionState → List ℕ
saved_file padded now = written_text now.head ((if padded then padded_packets_of (list_at now.lists 0) else packets_of (list_at now.lists 0)))

-- it is the text that is left, and nothing else changed
pub record IsSaved (old : Engine) (padded : Bool) (new : Engine) : Type 0 where
  pub rest : new ≡ record old { text = new.text }
  pub text : new.text.items ≡ saved_file padded old.session.state

-- a handle that holds an engine holds it afterwards, with another session at most
abbrev pub KeepsRest : Option Engine → Option Engine → Type 0
KeepsRest None new = Unit {0}
KeepsRest (Some old) new = (session : SessionValue) × (new ≡ Some (record old { session = session }))

-- a handle holds an engine before and after a call, which are related by this
abbrev pub Over : Option Engine → Option Engine → (Engine → Engine → Type 0) → Type 0
Over before after P = (old : Engine) × (new : Engine) × (before ≡ Some old) × (after ≡ Some new) × P old new
