-- The line that explains why a request was refused.
use Rattle.std.specs.Prelude.{ℕ, ◌==◌, nat_lt, if◌then◌else◌, List, [], ◌∷◌, ◌++◌, Option, Some, None, codes, unwrap_or}
use Rattle.std.specs.Fmt.{decimal}
use Rattle.std.specs.Option.{option_or}
use Rattle.frame_header.specs.declared.cause.Cause.{Cause}
use Rattle.frame_header.specs.declared.cause.Cause.TheVariants as causes
use Rattle.frame_session.specs.Replies.{source_text}
use Rattle.text_words.specs.Words.{words_of}
use Rattle.frame_session.specs.declared.refusal.Refusal.{Refusal}
use Rattle.frame_session.specs.declared.refusal.Refusal.TheVariants as refusals
use Rattle.explanations.specs.Words.{shown_word}
use Rattle.explanations.specs.Lines.{hidden_reason, reason_of}
use Rattle.explanations.specs.Nodes.{line_syntax_reason}
use Rattle.explanations.specs.declared.details.Detail.{Detail}
use Rattle.explanations.specs.declared.details.Detail.TheVariants.{Nothing, Bytes, NoPacket, PastEnd, Width, Height, NoKey, NoSize, NoFrame, Sizes}

-- why a packet of this many bytes is too short, if their number is known: a tag has 3 bytes, a key frame's header 10 (RFC 6386, section 9.1)
abbrev pub short_text : Option ℕ → List ℕ
short_text None = codes "is too short"
short_text (Some count) = codes "has " ++ decimal count ++ (if nat_lt count 3 then codes " bytes, a tag needs 3" else codes " bytes, a key frame needs 10")

-- the cause that breaks a packet of this many bytes
abbrev pub cause_reason : Option ℕ → Cause → List ℕ
cause_reason count causes.ShortPacket = short_text count
cause_reason count causes.Version = codes "has a version above 3"
cause_reason count causes.StartCode = codes "has a key tag without the start code 9D 01 2A"
cause_reason count causes.Size = codes "has width or height 0"
cause_reason count causes.NoKeyFrame = codes "has no key frame before it"
cause_reason count causes.FirstPartition = codes "ends within its first partition"
cause_reason count causes.TokenSizes = codes "ends within the sizes of its token partitions"
cause_reason count (causes.TokenPartition k) = codes "ends within token partition " ++ decimal k

-- the sides of a size
abbrev pub sides_text : ℕ → ℕ → List ℕ
sides_text width height = decimal width ++ codes "x" ++ decimal height

-- a number of packets, and the source that has them
abbrev pub packets_text : ℕ → ℕ → List ℕ
packets_text source count = codes "source " ++ decimal source ++ codes " has " ++ decimal count ++ codes " packets"

-- what the numbers of a refusal say, or another text if there are none
abbrev pub detail_or : List ℕ → Detail → List ℕ
detail_or text Nothing = text
detail_or text (Bytes count) = text
detail_or text (NoPacket at source count) = codes "packet " ++ decimal at ++ codes " does not exist: " ++ packets_text source count
detail_or text (PastEnd at source count) = codes "index " ++ decimal at ++ codes " is past the end: " ++ packets_text source count
detail_or text (Width width) = codes "width " ++ decimal width ++ codes " is not 1 to 16383"
detail_or text (Height height) = codes "height " ++ decimal height ++ codes " is not 1 to 16383"
detail_or text (NoKey at) = codes "before " ++ decimal at ++ codes " no packet has a key tag, so there is no size"
detail_or text (NoSize key at) = codes "packet " ++ decimal key ++ codes ", the last one with a key tag before " ++ decimal at ++ codes ", has no size"
detail_or text (NoFrame n count) = codes "frame " ++ decimal n ++ codes " does not exist: the script serves " ++ decimal count ++ codes " frames"
detail_or text (Sizes asked first) = sides_text asked.0 asked.1 ++ codes " is not " ++ sides_text first.width first.height ++ codes ", the size of the first frame served"

-- why a packet of this many bytes has no show bit, if their number is known: the bit is in the tag, which has 3 bytes (RFC 6386, section 9.1)
abbrev pub bitless_text : Option ℕ → List ℕ
bitless_text None = codes "the packet has no show bit"
bitless_text (Some count) =
    if count == 0 then codes "the packet has no bytes: delete it instead, which changes no other frame"
    else codes "the packet has " ++ decimal count ++ codes " bytes, a show bit needs 3"

-- the number of bytes of the packet that is broken or has no show bit, if it is known
abbrev pub bytes_of_detail : Detail → Option ℕ
bytes_of_detail (Bytes count) = Some count
bytes_of_detail detail = None

-- what a refusal means
abbrev pub refusal_reason : Detail → Refusal → List ℕ
refusal_reason detail refusals.Line = codes "the line is not a request"
refusal_reason detail refusals.Source = codes "there is no such source"
refusal_reason detail refusals.Place = detail_or (codes "there is no such packet") detail
refusal_reason detail refusals.Full = codes "there are 1048576 packets already"
refusal_reason detail refusals.Spent = codes "no packet id is left"
refusal_reason detail refusals.NoBit = bitless_text (bytes_of_detail detail)
refusal_reason detail refusals.Size = detail_or (codes "there is no such size") detail
refusal_reason detail refusals.TooLarge = codes "the first partition would have over 524287 bytes"
refusal_reason detail refusals.NoSuchFrame = detail_or (codes "there is no such frame") detail
refusal_reason detail (refusals.Packet source place cause) = source_text source ++ codes "packet " ++ decimal place ++ codes " " ++ cause_reason (bytes_of_detail detail) cause
refusal_reason detail refusals.CropOutside = codes "a crop reaches past the edge of the picture"
refusal_reason detail refusals.SizeDiffers = detail_or (codes "the frame has another size than the first one served") detail
refusal_reason detail refusals.Syntax = codes "the text is not a list of nodes"
refusal_reason detail refusals.Nodes = codes "the script has more than 16 nodes"
refusal_reason detail refusals.Reference = codes "a node names a source or node that is not before it"
refusal_reason detail refusals.Number = codes "a number of the script is out of range, or a node has more than 68719476736 frames"
refusal_reason detail refusals.NoMemory = codes "out of memory"

-- the command of a line, and a colon
abbrev pub command_text : List (List ℕ) → List ℕ
command_text [] = []
command_text (command ∷ words) = shown_word command ++ codes ": "

-- the reason of a script's line: what an editor may not show, or the first part that is not a node
abbrev pub script_reason : List ℕ → Option (List ℕ)
script_reason line = option_or (hidden_reason line) (line_syntax_reason line)

-- the reason of a refusal: for `Line` and `Syntax` that of the text of the line
abbrev pub why_text : List ℕ → Detail → Refusal → List ℕ
why_text line detail refusals.Line = unwrap_or (reason_of line) (codes "the line is not a request")
why_text line detail refusals.Syntax = unwrap_or (script_reason line) (codes "the text is not a list of nodes")
why_text line detail refusal = refusal_reason detail refusal

-- the line that explains the refusal of line `number`
abbrev pub explained : ℕ → List ℕ → Detail → Refusal → List ℕ
explained number line detail refusal =
    codes "line " ++ decimal number ++ codes ": " ++ command_text (words_of line) ++ why_text line detail refusal ++ 10 ∷ []
