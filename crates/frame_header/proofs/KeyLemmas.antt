-- A packet with a key tag takes nothing over.
use Rattle.std.proofs.Common.{not, ◌&&◌, ◌||◌, ◌==◌, nat_lt, length, ◌≡◌, ℕ, Bool, true, false, List, Option, Some, None, Result, Ok, Err, IfOk, if◌then◌else◌, refl}
use Rattle.std.specs.Option.{option_map_or}
use Rattle.vp8_tables.specs.Tables.{TableEntries}
use Rattle.frame_header.specs.Tags.{has_key_tag, tag_of, has_start_code, width_of, height_of}
use Rattle.frame_header.specs.Contexts.{default_context, first_context}
use Rattle.frame_header.specs.Start.{key_start, later_start, start_of, tagged_start}
use Rattle.frame_header.specs.Fields.{fields}
use Rattle.frame_header.specs.TrailingFields.{trailing_fields}
use Rattle.frame_header.specs.Places.{token_ranges}
use Rattle.frame_header.specs.KeyFrames.{key_context_after}
use Rattle.frame_header.specs.Header.{◌>>=◌, first_end, header_after, header_of}
use Rattle.frame_header.specs.References.{all_refreshed, refreshes}
use Rattle.frame_header.specs.declared.cause.Cause.{Cause}
use Rattle.frame_header.specs.declared.cause.Cause.TheVariants.{ShortPacket, Version, StartCode, Size}
use Rattle.frame_header.specs.declared.context.Context.{Context}
use Rattle.frame_header.specs.declared.header.Header.{Header}
use Rattle.frame_header.specs.declared.start.Start.{Start}
use Rattle.frame_header.specs.declared.tag_fields.Tag.{Tag}

-- the start of a frame, by its tag
start_by : Option Context → List ℕ → Option Tag → Result Start Cause
start_by before packet tag = option_map_or (λ t. tagged_start t before packet) tag (Err ShortPacket)

start_by-key : (before : Option Context) (packet : List ℕ) (tag : Option Tag) → option_map_or (λ t. t.key) tag false ≡ true → start_by before packet tag ≡ start_by None packet tag
unfolding start_by
start_by-key before packet None tagged = cc
start_by-key before packet (Some tag) tagged = rw tagged refl

first_context-default : (tables : TableEntries) (before : Option Context) (is_key : Bool) → is_key ≡ true → first_context tables is_key before ≡ default_context tables
first_context-default tables before is_key tagged = rw tagged refl

pub header_of-key : (tables : TableEntries) (before : Option Context) (packet : List ℕ) → has_key_tag packet ≡ true → header_of tables before packet ≡ header_of tables None packet
unfolding header_of start_by
header_of-key tables before packet tagged =
    let begun : first_context tables (has_key_tag packet) before ≡ default_context tables = first_context-default tables before (has_key_tag packet) tagged in
    let begun_from_none : first_context tables (has_key_tag packet) None ≡ default_context tables = first_context-default tables None (has_key_tag packet) tagged in
    rw (start_by-key before packet (tag_of packet) tagged, begun, begun_from_none) refl

-- a fact of each answer of the next step holds of the answer of both
pub IfOk-then : {A B : Type 0} (P : B → Type 0) (first : Result A Cause) (next : A → Result B Cause) → ((x : A) → IfOk (next x) P) → IfOk (first >>= next) P
IfOk-then P (Ok x) next each = each x
IfOk-then P (Err cause) next each = tt

leaves_default : (tables : TableEntries) (packet : List ℕ) (first : Result Start Cause) → IfOk (first >>= header_after tables (default_context tables) packet) (λ header. header.context_after ≡ key_context_after tables header)
unfolding fields trailing_fields
leaves_default tables packet first =
    let P : Header → Type 0 = λ header. header.context_after ≡ key_context_after tables header in
    IfOk-then P first _ (λ start. IfOk-then P (first_end start packet) _ (λ end. IfOk-then P (token_ranges packet end _) _ (λ partitions. refl)))

pub header_of-leaves : (tables : TableEntries) (before : Option Context) (packet : List ℕ) → has_key_tag packet ≡ true → IfOk (header_of tables before packet) (λ header. header.context_after ≡ key_context_after tables header)
unfolding header_of
header_of-leaves tables before packet tagged =
    let begun : first_context tables (has_key_tag packet) before ≡ default_context tables = first_context-default tables before (has_key_tag packet) tagged in
    rw begun (leaves_default tables packet (start_of before packet))

IfOk-unless : {A : Type 0} (P : A → Type 0) (b : Bool) (cause : Cause) (x : Result A Cause) → IfOk x P → IfOk (if b then Err cause else x) P
IfOk-unless P true cause x holds = tt
IfOk-unless P false cause x holds = holds

IfOk-first : {A : Type 0} (P : A → Type 0) (b : Bool) (x y : Result A Cause) → b ≡ true → IfOk x P → IfOk (if b then x else y) P
IfOk-first P b x y is holds = rw is holds

pub IfOk-following : {A B : Type 0} (Q : A → Type 0) (P : B → Type 0) (first : Result A Cause) (next : A → Result B Cause) → IfOk first Q → ((x : A) → Q x → IfOk (next x) P) → IfOk (first >>= next) P
IfOk-following Q P (Ok x) next holds each = each x holds
IfOk-following Q P (Err cause) next holds each = tt

-- the start of a frame with a key tag has one
abbrev IsKey : Start → Type 0
IsKey start = start.tag.key ≡ true

key_start-key : (tag : Tag) (packet : List ℕ) → tag.key ≡ true → IfOk (key_start tag packet) IsKey
key_start-key tag packet tagged =
    let start : Start = record { tag = tag; place = 10; width = width_of packet; height = height_of packet } in
    let sized : IfOk (if (width_of packet == 0) || (height_of packet == 0) then Err Size else Ok start) IsKey = IfOk-unless IsKey ((width_of packet == 0) || (height_of packet == 0)) Size (Ok start) tagged in
    IfOk-unless IsKey (not (has_start_code packet)) StartCode _ sized

start_by-keeps : (before : Option Context) (packet : List ℕ) (tag : Option Tag) → option_map_or (λ t. t.key) tag false ≡ true → IfOk (start_by before packet tag) IsKey
unfolding start_by
start_by-keeps before packet None tagged = tt
start_by-keeps before packet (Some tag) tagged =
    let is_key : tag.key ≡ true = tagged in
    let chosen : IfOk (if tag.key then key_start tag packet else later_start tag before) IsKey = IfOk-first IsKey tag.key (key_start tag packet) (later_start tag before) is_key (key_start-key tag packet tagged) in
    let known : IfOk (if nat_lt 3 tag.version then Err Version else if tag.key then key_start tag packet else later_start tag before) IsKey = IfOk-unless IsKey (nat_lt 3 tag.version) Version _ chosen in
    IfOk-unless IsKey (tag.key && nat_lt (length packet) 10) ShortPacket _ known

refreshes_each : (tables : TableEntries) (context : Context) (packet : List ℕ) (start : Start) → start.tag.key ≡ true → IfOk (header_after tables context packet start) (λ header. header.references ≡ all_refreshed)
unfolding trailing_fields refreshes
refreshes_each tables context packet start tagged =
    let P : Header → Type 0 = λ header. header.references ≡ all_refreshed in
    IfOk-then P (first_end start packet) _ (λ end. IfOk-then P (token_ranges packet end _) _ (λ partitions. rw tagged refl))

pub header_of-refreshes : (tables : TableEntries) (before : Option Context) (packet : List ℕ) → has_key_tag packet ≡ true → IfOk (header_of tables before packet) (λ header. header.references ≡ all_refreshed)
unfolding header_of start_by
header_of-refreshes tables before packet tagged = IfOk-following IsKey (λ header. header.references ≡ all_refreshed) (start_of before packet) _ (start_by-keeps before packet (tag_of packet) tagged) (refreshes_each tables _ packet)
