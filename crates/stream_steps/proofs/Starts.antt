-- The start of a frame has the packet's tag, and its first partition follows that tag.
use Rattle.std.proofs.Common.{◌≡◌, ℕ, ◌+◌, ◌-◌, ◌≤◌, ◌==◌, ◌&&◌, ◌||◌, Bool, true, false, not, List, [], length, Option, Some, None, Result, Ok, Err, IfOk, refl, ap, arith, nat_lt, if◌then◌else◌}
use Rattle.std.specs.Prelude.{is_none}
use Rattle.std.specs.Option.{option_map_or}
use Rattle.frame_header.specs.Tags.{tag_of, has_key_tag, has_start_code, width_of, height_of}
use Rattle.frame_header.specs.Start.{key_start, later_start, tagged_start, start_of}
use Rattle.frame_header.specs.Header.{first_end}
use Rattle.frame_header.specs.declared.cause.Cause.{Cause}
use Rattle.frame_header.specs.declared.cause.Cause.TheVariants.{ShortPacket, Version, StartCode, Size, NoKeyFrame, FirstPartition}
use Rattle.frame_header.specs.declared.context.Context.{Context}
use Rattle.frame_header.specs.declared.tag_fields.Tag.{Tag}

-- the type of the value of a result
abbrev pub value_type : {A E : Type 0} → Result A E → Type 0
value_type {A} r = A

-- the start of a frame: frame_header does not export its type
abbrev pub Start : Type 0
Start = value_type (start_of None [])

-- the start of a packet with this tag
pub record IsStart (tag : Option Tag) (start : Start) : Type 0 where
  pub tagged : tag ≡ Some start.tag
  pub following : 3 ≤ start.place

pub either_ok : {A : Type 0} (P : A → Type 0) (b : Bool) (x y : Result A Cause) → IfOk x P → IfOk y P → IfOk (if b then x else y) P
either_ok P true x y first second = first
either_ok P false x y first second = second

key_start-is : (tag : Tag) (packet : List ℕ) → IfOk (key_start tag packet) (IsStart (Some tag))
key_start-is tag packet =
    let P : Start → Type 0 = IsStart (Some tag) in
    let start : Start = record { tag = tag; place = 10; width = width_of packet; height = height_of packet } in
    let is : IsStart (Some tag) start = record { tagged = refl; following = omega arith } in
    let sized : IfOk (if (width_of packet == 0) || (height_of packet == 0) then Err Size else Ok start) P = either_ok P ((width_of packet == 0) || (height_of packet == 0)) (Err Size) (Ok start) tt is in
    either_ok P (not (has_start_code packet)) (Err StartCode) (if (width_of packet == 0) || (height_of packet == 0) then Err Size else Ok start) tt sized

later_start-is : (tag : Tag) (before : Option Context) → IfOk (later_start tag before) (IsStart (Some tag))
later_start-is tag before =
    let P : Start → Type 0 = IsStart (Some tag) in
    let start : Start = record { tag = tag; place = 3; width = 0; height = 0 } in
    let is : IsStart (Some tag) start = record { tagged = refl; following = omega arith } in
    either_ok P (is_none before) (Err NoKeyFrame) (Ok start) tt is

tagged_start-is : (tag : Tag) (before : Option Context) (packet : List ℕ) → IfOk (tagged_start tag before packet) (IsStart (Some tag))
tagged_start-is tag before packet =
    let P : Start → Type 0 = IsStart (Some tag) in
    let chosen : IfOk (if tag.key then key_start tag packet else later_start tag before) P = either_ok P tag.key (key_start tag packet) (later_start tag before) (key_start-is tag packet) (later_start-is tag before) in
    let known : IfOk (if nat_lt 3 tag.version then Err Version else if tag.key then key_start tag packet else later_start tag before) P = either_ok P (nat_lt 3 tag.version) (Err Version) (if tag.key then key_start tag packet else later_start tag before) tt chosen in
    either_ok P (tag.key && nat_lt (length packet) 10) (Err ShortPacket) (if nat_lt 3 tag.version then Err Version else if tag.key then key_start tag packet else later_start tag before) tt known

start_by-is : (before : Option Context) (packet : List ℕ) (tag : Option Tag) → IfOk (option_map_or (λ t. tagged_start t before packet) tag (Err ShortPacket)) (IsStart tag)
start_by-is before packet None = tt
start_by-is before packet (Some tag) = tagged_start-is tag before packet

pub starts : (before : Option Context) (packet : List ℕ) → IfOk (start_of before packet) (IsStart (tag_of packet))
starts before packet = start_by-is before packet (tag_of packet)

-- the end of the first partition is after the tag
pub ends_later : (start : Start) (packet : List ℕ) → 3 ≤ start.place → IfOk (first_end start packet) (λ end. 3 ≤ end)
ends_later start packet following =
    let P : ℕ → Type 0 = λ end. 3 ≤ end in
    let late : 3 ≤ start.place + start.tag.first_partition = omega arith in
    either_ok P (nat_lt (length packet - start.place) start.tag.first_partition) (Err FirstPartition) (Ok (start.place + start.tag.first_partition)) tt late

-- a packet is of a key frame if its start is
pub key_of_start : (packet : List ℕ) (start : Start) → IsStart (tag_of packet) start → has_key_tag packet ≡ start.tag.key
key_of_start packet start is = ap (λ (t : Option Tag). option_map_or (λ (u : Tag). u.key) t false) is.tagged
