-- The header of a packet with its show bit changed.
use Rattle.std.proofs.Common.{◌≡◌, ℕ, ◌-◌, ◌≤◌, ◌==◌, ◌&&◌, ◌||◌, Bool, true, false, not, List, length, Option, Some, None, Result, Ok, Err, IfOk, refl, ap, ◌∙◌, arith, nat_lt, if◌then◌else◌}
use Rattle.std.specs.Prelude.{slice_range, is_none}
use Rattle.std.specs.Option.{option_map, option_map_or}
use Rattle.arrayvec.specs.ArrayVec.{ArrayVec}
use Rattle.vp8_tables.specs.Tables.{TableEntries}
use Rattle.frame_header.specs.Contexts.{first_context}
use Rattle.frame_header.specs.Header.{◌>>=◌, first_end, header_after, header_of}
use Rattle.frame_header.specs.Padding.{readers_of}
use Rattle.frame_header.specs.Places.{token_ranges}
use Rattle.frame_header.specs.Start.{key_start, later_start, tagged_start, start_of}
use Rattle.frame_header.specs.Tags.{tag_of, has_key_tag, has_start_code, width_of, height_of}
use Rattle.frame_header.specs.declared.cause.Cause.{Cause}
use Rattle.frame_header.specs.declared.cause.Cause.TheVariants.{ShortPacket, Version, StartCode, Size, NoKeyFrame}
use Rattle.frame_header.specs.declared.context.Context.{Context}
use Rattle.frame_header.specs.declared.header.Header.{Header}
use Rattle.frame_header.specs.declared.places.PartitionRange.{PartitionRange}
use Rattle.frame_header.specs.declared.tag_fields.Tag.{Tag}
use Rattle.frame_header.proofs.KeyLemmas.{IfOk-following}
use Rattle.frame_header.specs.ShowLaws.{tag_showing}
use Rattle.stream_steps.proofs.Starts.{IsStart, Start, ends_later, starts}
use Rattle.stream_steps.proofs.Alike.{AreAlike, height_alike, part_alike, ranges_alike, readers_alike, start_code_alike, width_alike}

-- a result with its value changed
abbrev pub changed : {A : Type 0} → (A → A) → Result A Cause → Result A Cause
changed to (Ok x) = Ok (to x)
changed to (Err cause) = Err cause

abbrev pub start_showing : Bool → Start → Start
start_showing shown start = record start { tag = tag_showing shown start.tag }

abbrev pub header_showing : Bool → Header → Header
header_showing shown header = record header { is_shown = shown }

either_changed : {A : Type 0} (to : A → A) (b : Bool) (x x' y y' : Result A Cause) → x' ≡ changed to x → y' ≡ changed to y → (if b then x' else y') ≡ changed to (if b then x else y)
either_changed to true x x' y y' first second = first
either_changed to false x x' y y' first second = second

-- an accepted step and then the next, each with its value changed
then_changed : {A B : Type 0} (Q : A → Type 0) (to : A → A) (after : B → B) (first first' : Result A Cause) (next next' : A → Result B Cause)
    → first' ≡ changed to first → IfOk first Q → ((x : A) → Q x → next' (to x) ≡ changed after (next x)) → (first' >>= next') ≡ changed after (first >>= next)
then_changed {A} {B} Q to after (Ok x) first' next next' is holds each = ap (λ (r : Result A Cause). r >>= next') is ∙ each x holds
then_changed {A} {B} Q to after (Err cause) first' next next' is holds each = ap (λ (r : Result A Cause). r >>= next') is

-- an accepted step that is the same, and then the next with its value changed
then_same : {A B : Type 0} (Q : A → Type 0) (after : B → B) (first first' : Result A Cause) (next next' : A → Result B Cause)
    → first' ≡ first → IfOk first Q → ((x : A) → Q x → next' x ≡ changed after (next x)) → (first' >>= next') ≡ changed after (first >>= next)
then_same {A} {B} Q after (Ok x) first' next next' is holds each = ap (λ (r : Result A Cause). r >>= next') is ∙ each x holds
then_same {A} {B} Q after (Err cause) first' next next' is holds each = ap (λ (r : Result A Cause). r >>= next') is

-- ---- the start

keyed : (shown : Bool) (tag : Tag) (packet : List ℕ) → key_start (tag_showing shown tag) packet ≡ changed (start_showing shown) (key_start tag packet)
keyed shown tag packet =
    let to : Start → Start = start_showing shown in
    let start : Start = record { tag = tag; place = 10; width = width_of packet; height = height_of packet } in
    let other : Start = record { tag = tag_showing shown tag; place = 10; width = width_of packet; height = height_of packet } in
    let none : Bool = (width_of packet == 0) || (height_of packet == 0) in
    either_changed to (not (has_start_code packet)) (Err StartCode) (Err StartCode) (if none then Err Size else Ok start) (if none then Err Size else Ok other) refl
    (either_changed to none (Err Size) (Err Size) (Ok start) (Ok other) refl refl)

-- a key frame's start is read after the first byte
key_start-alike : (packet other : List ℕ) → AreAlike packet other → (tag : Tag) → key_start tag other ≡ key_start tag packet
key_start-alike packet other same tag = rw (start_code_alike packet other same, width_alike packet other same, height_alike packet other same) refl

later : (shown : Bool) (tag : Tag) (before : Option Context) → later_start (tag_showing shown tag) before ≡ changed (start_showing shown) (later_start tag before)
later shown tag before =
    let start : Start = record { tag = tag; place = 3; width = 0; height = 0 } in
    let other : Start = record { tag = tag_showing shown tag; place = 3; width = 0; height = 0 } in
    either_changed (start_showing shown) (is_none before) (Err NoKeyFrame) (Err NoKeyFrame) (Ok start) (Ok other) refl refl

tagged : (shown : Bool) (before : Option Context) (packet other : List ℕ) → AreAlike packet other → (tag : Tag) → tagged_start (tag_showing shown tag) before other ≡ changed (start_showing shown) (tagged_start tag before packet)
tagged shown before packet other same tag =
    let to : Start → Start = start_showing shown in
    let tag' : Tag = tag_showing shown tag in
    let first : Result Start Cause = if tag.key then key_start tag packet else later_start tag before in
    let first' : Result Start Cause = if tag.key then key_start tag' packet else later_start tag' before in
    let second : Result Start Cause = if nat_lt 3 tag.version then Err Version else first in
    let second' : Result Start Cause = if nat_lt 3 tag.version then Err Version else first' in
    rw (key_start-alike packet other same (tag_showing shown tag), same.count)
    (either_changed to (tag.key && nat_lt (length packet) 10) (Err ShortPacket) (Err ShortPacket) second second' refl
    (either_changed to (nat_lt 3 tag.version) (Err Version) (Err Version) first first' refl
    (either_changed to tag.key (key_start tag packet) (key_start tag' packet) (later_start tag before) (later_start tag' before) (keyed shown tag packet) (later shown tag before))))

start_by : (shown : Bool) (before : Option Context) (packet other : List ℕ) → AreAlike packet other → (tag : Option Tag)
    → option_map_or (λ t. tagged_start t before other) (option_map (tag_showing shown) tag) (Err ShortPacket) ≡ changed (start_showing shown) (option_map_or (λ t. tagged_start t before packet) tag (Err ShortPacket))
start_by shown before packet other same None = refl
start_by shown before packet other same (Some tag) = tagged shown before packet other same tag

start_changed : (shown : Bool) (before : Option Context) (packet other : List ℕ) → AreAlike packet other → tag_of other ≡ option_map (tag_showing shown) (tag_of packet)
    → start_of before other ≡ changed (start_showing shown) (start_of before packet)
start_changed shown before packet other same tags =
    ap (λ (tag : Option Tag). option_map_or (λ (t : Tag). tagged_start t before other) tag (Err ShortPacket)) tags ∙ start_by shown before packet other same (tag_of packet)

-- ---- the header

later_some : (n : ℕ) → 3 ≤ n → 1 ≤ n
later_some n late = omega arith

end_alike : (shown : Bool) (packet other : List ℕ) → AreAlike packet other → (start : Start) → first_end (start_showing shown start) other ≡ first_end start packet
end_alike shown packet other same start = rw same.count refl

any_ok : (r : Result (ArrayVec PartitionRange) Cause) → IfOk r (λ partitions. Unit {0})
any_ok (Ok partitions) = tt
any_ok (Err cause) = tt

header_after-changed : (tables : TableEntries) (context : Context) (shown : Bool) (packet other : List ℕ) → AreAlike packet other → (start : Start) → 3 ≤ start.place
    → header_after tables context other (start_showing shown start) ≡ changed (header_showing shown) (header_after tables context packet start)
header_after-changed tables context shown packet other same start following =
    let Late : ℕ → Type 0 = λ end. 3 ≤ end in
    let Any : ArrayVec PartitionRange → Type 0 = λ partitions. Unit {0} in
    then_same Late (header_showing shown) (first_end start packet) (first_end (start_showing shown start) other) _ _ (end_alike shown packet other same start) (ends_later start packet following) (λ end late.
    let some : 1 ≤ end = later_some end late in
    let begun : 1 ≤ start.place = later_some start.place following in
    let part : slice_range other start.place end ≡ slice_range packet start.place end = part_alike packet other same (end - start.place) start.place begun in
    rw part (then_same Any (header_showing shown) (token_ranges packet end _) (token_ranges other end _) _ _ (ranges_alike packet other same end _ some) (any_ok (token_ranges packet end _)) (λ partitions any. refl)))

pub header_changed : (tables : TableEntries) (before : Option Context) (shown : Bool) (packet other : List ℕ) → AreAlike packet other → tag_of other ≡ option_map (tag_showing shown) (tag_of packet) → has_key_tag other ≡ has_key_tag packet
    → header_of tables before other ≡ changed (header_showing shown) (header_of tables before packet)
unfolding header_of
header_changed tables before shown packet other same tags key =
    rw key (then_changed (IsStart (tag_of packet)) (start_showing shown) (header_showing shown) (start_of before packet) (start_of before other) _ _ (start_changed shown before packet other same tags) (starts before packet)
    (λ start is. header_after-changed tables (first_context tables (has_key_tag packet) before) shown packet other same start is.following))

-- the token partitions of an accepted packet have the same readers
pub header_readers : (tables : TableEntries) (before : Option Context) (packet other : List ℕ) → AreAlike packet other
    → IfOk (header_of tables before packet) (λ header. readers_of other header.partitions.items ≡ readers_of packet header.partitions.items)
unfolding header_of
header_readers tables before packet other same =
    let P : Header → Type 0 = λ header. readers_of other header.partitions.items ≡ readers_of packet header.partitions.items in
    let Q : ArrayVec PartitionRange → Type 0 = λ partitions. readers_of other partitions.items ≡ readers_of packet partitions.items in
    let Late : ℕ → Type 0 = λ end. 3 ≤ end in
    IfOk-following (IsStart (tag_of packet)) P (start_of before packet) _ (starts before packet) (λ start is.
    IfOk-following Late P (first_end start packet) _ (ends_later start packet is.following) (λ end late.
    IfOk-following Q P (token_ranges packet end _) _ (readers_alike packet other same end _ (later_some end late)) (λ partitions kept. kept)))
