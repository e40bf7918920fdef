use Rattle.std.specs.Prelude.{ℕ, not, ◌&&◌, ◌||◌, List, length, nat_lt, ◌==◌, Option, is_none, Result, Ok, Err, if◌then◌else◌}
use Rattle.std.specs.Option.{option_map_or}
use Rattle.frame_header.specs.Tags.{tag_of, has_start_code, width_of, height_of}
use Rattle.frame_header.specs.declared.cause.Cause.{Cause}
use Rattle.frame_header.specs.declared.cause.Cause.TheVariants.{ShortPacket, Version, StartCode, Size, NoKeyFrame}
use Rattle.frame_header.specs.declared.context.Context.{Context}
use Rattle.frame_header.specs.declared.start.Start.{Start}
use Rattle.frame_header.specs.declared.tag_fields.Tag.{Tag}

-- a key frame's start, or the first cause against the bytes after its tag (RFC 6386, section 9.1)
abbrev pub key_start : Tag → List ℕ → Result Start Cause
key_start tag packet =
    if not (has_start_code packet) then Err StartCode else
    if (width_of packet == 0) || (height_of packet == 0) then Err Size else
    Ok (record { tag = tag; place = 10; width = width_of packet; height = height_of packet })

-- the start of any other frame, which needs a context to take over
abbrev pub later_start : Tag → Option Context → Result Start Cause
later_start tag before = if is_none before then Err NoKeyFrame else Ok (record { tag = tag; place = 3; width = 0; height = 0 })

-- the start of a frame with this tag, or the first cause against it (RFC 6386, section 9.1)
abbrev pub tagged_start : Tag → Option Context → List ℕ → Result Start Cause
tagged_start tag before packet =
    if tag.key && nat_lt (length packet) 10 then Err ShortPacket else
    if nat_lt 3 tag.version then Err Version else
    if tag.key then key_start tag packet else later_start tag before

-- the start of a frame: its tag, the index of its first partition, and its size
abbrev pub start_of : Option Context → List ℕ → Result Start Cause
start_of before packet = option_map_or (λ tag. tagged_start tag before packet) (tag_of packet) (Err ShortPacket)
