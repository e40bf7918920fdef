-- The numbers that explain a refusal: they are those of the request, of the session and of the refusal.
use Rattle.std.specs.Prelude.{◌≡◌, ◌≤◌, ℕ, Bool, ◌&&◌, nat_lt, nat_le, if◌then◌else◌, List, Option, Some, None}
use Rattle.packet_edits.specs.Nearest.{IsLast}
use Rattle.pixel_planes.specs.Pictures.{is_side}
use Rattle.packet_edits.specs.Shown.{stream_of}
use Rattle.packet_edits.specs.Sizes.{key_tag_at}
use Rattle.frame_session.specs.declared.refusal.Refusal.{Refusal}
use Rattle.frame_session.specs.declared.refusal.Refusal.TheVariants as refusals
use Rattle.frame_session.specs.declared.size.Size.{Size}
use Rattle.frame_session.specs.Sessions.{SessionState, current_list, frame_count, packet_count}
use Rattle.frame_session.specs.Told.{packet_len, packets_in, stated_size}
use Rattle.request_lines.specs.declared.edit.Edit.{Edit}
use Rattle.request_lines.specs.declared.edit.Edit.TheVariants as edits
use Rattle.request_lines.specs.declared.question.Question.{Question}
use Rattle.request_lines.specs.declared.question.Question.TheVariants as questions
use Rattle.request_lines.specs.declared.lines.Line.{Line}
use Rattle.request_lines.specs.declared.lines.Line.TheVariants as lines
use Rattle.explanations.specs.declared.details.Detail.{Detail}
use Rattle.explanations.specs.declared.details.Detail.TheVariants.{Nothing, Bytes, NoPacket, PastEnd, Width, Height, NoKey, NoSize, NoFrame, Sizes}

-- the packet of the current source that does not exist
abbrev pub no_packet_of : SessionState → ℕ → Detail
no_packet_of now at = NoPacket at now.current (packet_count now)

-- the index of the current source at which nothing can be inserted
abbrev pub past_end_of : SessionState → ℕ → Detail
past_end_of now at = PastEnd at now.current (packet_count now)

-- the packet that a copy does not find, or the index that it does not
abbrev pub copy_detail : SessionState → ℕ → ℕ → ℕ → Detail
copy_detail now source from at = if nat_lt from (packets_in now source) then past_end_of now at else NoPacket from source (packets_in now source)

-- which index of an edit has no packet
abbrev pub edit_detail : SessionState → Edit (List ℕ) → Detail
edit_detail now (edits.Insert at stamp bytes) = past_end_of now at
edit_detail now (edits.Replace at bytes) = no_packet_of now at
edit_detail now (edits.Delete at) = no_packet_of now at
edit_detail now (edits.Move from to) = no_packet_of now (if nat_lt from (packet_count now) then to else from)
edit_detail now (edits.Copy source from at) = copy_detail now source from at
edit_detail now (edits.Blank at width height) = past_end_of now at
edit_detail now (edits.Hold at) = past_end_of now at
edit_detail now (edits.ShowBit at shown) = no_packet_of now at

-- which packet of a question does not exist
abbrev pub question_detail : SessionState → Question → Detail
question_detail now (questions.Packet at) = no_packet_of now at
question_detail now (questions.Macroblocks at) = no_packet_of now at
question_detail now (questions.Header at) = no_packet_of now at
question_detail now questions.Script = Nothing
question_detail now (questions.Origins first count) = Nothing
question_detail now (questions.List first count) = past_end_of now first
question_detail now (questions.Check first count) = past_end_of now first

-- which index of a request has no packet
abbrev pub place_detail : SessionState → Line → Detail
place_detail now (lines.Edit edit) = edit_detail now edit
place_detail now (lines.Ask question) = question_detail now question
place_detail now line = Nothing

-- the frame of a request that does not exist, and how many there are
abbrev pub frame_detail : SessionState → Line → Detail
frame_detail now (lines.Frame n) = NoFrame n (frame_count now)
frame_detail now (lines.Ask (questions.Origins first count)) = NoFrame first (frame_count now)
frame_detail now line = Nothing

-- the size of a frame, by its key packet and the crops, and of the first one served
abbrev pub sizes_of : Option (ℕ × ℕ) → Option Size → Detail
sizes_of (Some asked) (Some first) = Sizes asked first
sizes_of (Some asked) None = Nothing
sizes_of None first = Nothing

abbrev pub sizes_detail : SessionState → Line → Detail
sizes_detail now (lines.Frame n) = sizes_of (stated_size now n) now.size
sizes_detail now line = Nothing

-- the number of bytes of a packet that is broken
abbrev pub bytes_detail : Option ℕ → Detail
bytes_detail None = Nothing
bytes_detail (Some count) = Bytes count

-- the number of bytes of a packet that has no show bit
abbrev pub bit_detail : SessionState → Line → Detail
bit_detail now (lines.Edit (edits.ShowBit at shown)) = bytes_detail (packet_len now now.current at)
bit_detail now line = Nothing

-- which side is not allowed
abbrev pub side_detail : ℕ → ℕ → Detail
side_detail width height = if is_side width then Height height else Width width

-- the last packet with a key tag before an index of the current source: there is none, or it has no size
abbrev pub IsUnsized : SessionState → ℕ → Detail → Type 0
IsUnsized now at (NoKey n) = (n ≡ at) × IsLast (key_tag_at (stream_of (current_list now))) 0 at None
IsUnsized now at (NoSize key n) = (n ≡ at) × IsLast (key_tag_at (stream_of (current_list now))) 0 at (Some key)
IsUnsized now at _ = ⊥

-- why a request has no size
abbrev pub IsSizeDetail : SessionState → Line → Detail → Type 0
IsSizeDetail now (lines.Edit (edits.Blank at width height)) detail = detail ≡ side_detail width height
IsSizeDetail now (lines.Edit (edits.Hold at)) detail = at ≤ packet_count now → IsUnsized now at detail
IsSizeDetail now line detail = detail ≡ Nothing

-- the numbers that explain the refusal of a request
abbrev pub IsDetail : SessionState → Line → Refusal → Detail → Type 0
IsDetail now line refusals.Place detail = detail ≡ place_detail now line
IsDetail now line refusals.NoBit detail = detail ≡ bit_detail now line
IsDetail now line refusals.Size detail = IsSizeDetail now line detail
IsDetail now line refusals.NoSuchFrame detail = detail ≡ frame_detail now line
IsDetail now line refusals.SizeDiffers detail = detail ≡ sizes_detail now line
IsDetail now line (refusals.Packet source place cause) detail = detail ≡ bytes_detail (packet_len now source place)
IsDetail now line refusal detail = detail ≡ Nothing
