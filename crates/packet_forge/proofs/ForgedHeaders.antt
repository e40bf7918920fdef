-- The headers of forged packets.
use Rattle.std.specs.Prelude.{Option, Ok, slice_range, nat_lt, nat_le, ◌==◌}
use Rattle.std.proofs.Common.{◌≡◌, ℕ, ◌+◌, ◌-◌, ◌*◌, ◌/◌, ◌%◌, ◌<◌, ◌≤◌, Bool, true, false, List, [], ◌∷◌, ◌++◌, Some, length, refl, ap, arith}
use Rattle.std.proofs.lemmas.Bool.{le-ltb, le-leb, ne_eqb}
use Rattle.std.proofs.lemmas.List.{length-append}
use Rattle.vp8_tables.specs.Tables.{TableEntries}
use Rattle.bool_coder.specs.Reader.{Reader, started}
use Rattle.frame_header.specs.Contexts.{default_context}
use Rattle.frame_header.specs.Tags.{number_at, tag_in, tag_of, has_key_tag, has_start_code, width_of, height_of}
use Rattle.frame_header.specs.Start.{start_of}
use Rattle.frame_header.specs.Places.{token_ranges}
use Rattle.frame_header.specs.Header.{header_of}
use Rattle.frame_header.specs.References.{all_refreshed}
use Rattle.frame_header.specs.InterFields.{no_reference_probabilities}
use Rattle.frame_header.specs.declared.context.Context.{Context}
use Rattle.frame_header.specs.declared.header.Header.{Header}
use Rattle.frame_header.specs.declared.tag_fields.Tag.{Tag}
use Rattle.packet_forge.specs.Pairs.{zeros, zeros_at, skip_pairs}
use Rattle.packet_forge.specs.Packets.{tag_bytes}
use Rattle.packet_forge.proofs.Readings.{Reads}
use Rattle.packet_forge.proofs.HeaderFields.{no_colors, no_segmentation, no_filter, no_quantizers, fields-key, trailing-key}

-- the tag of a shown frame of version 0
abbrev pub shown_tag : Bool → ℕ → Tag
shown_tag key size = record { key = key; version = 0; shown = true; first_partition = size }

-- a number of three bytes
three_bytes : (n : ℕ) → n < 16777216 → n % 256 + 256 * (n / 256 % 256) + 65536 * (n / 65536 % 256) ≡ n
three_bytes n small = omega arith

tag_in-key : (size : ℕ) → tag_in (16 + 32 * size) ≡ shown_tag true size
tag_in-key size =
    let key : (16 + 32 * size) % 2 ≡ 0 = omega arith in
    let version : (16 + 32 * size) / 2 % 8 ≡ 0 = omega arith in
    let shown : (16 + 32 * size) / 16 % 2 ≡ 1 = omega arith in
    let first : (16 + 32 * size) / 32 ≡ size = omega arith in
    rw (key, version, shown, first) refl

tag_in-later : (size : ℕ) → tag_in (17 + 32 * size) ≡ shown_tag false size
tag_in-later size =
    let key : (17 + 32 * size) % 2 ≡ 1 = omega arith in
    let version : (17 + 32 * size) / 2 % 8 ≡ 0 = omega arith in
    let shown : (17 + 32 * size) / 16 % 2 ≡ 1 = omega arith in
    let first : (17 + 32 * size) / 32 ≡ size = omega arith in
    rw (key, version, shown, first) refl

-- the tag of a packet that begins with these bytes
pub tag_of-key : (size : ℕ) (rest : List ℕ) → size ≤ 524287 → tag_of (tag_bytes 0 size ++ rest) ≡ Some (shown_tag true size)
tag_of-key size rest small =
    let long : nat_le 3 (length (tag_bytes 0 size ++ rest)) ≡ true = le-leb 3 (length (tag_bytes 0 size ++ rest)) (omega (arith, length-append (tag_bytes 0 size) rest)) in
    let number : number_at (tag_bytes 0 size ++ rest) 0 ≡ 16 + 32 * size = three_bytes (16 + 32 * size) (omega (arith, small)) in
    rw (long, number) (ap Some (tag_in-key size))

pub tag_of-later : (size : ℕ) (rest : List ℕ) → size ≤ 524287 → tag_of (tag_bytes 1 size ++ rest) ≡ Some (shown_tag false size)
tag_of-later size rest small =
    let long : nat_le 3 (length (tag_bytes 1 size ++ rest)) ≡ true = le-leb 3 (length (tag_bytes 1 size ++ rest)) (omega (arith, length-append (tag_bytes 1 size) rest)) in
    let number : number_at (tag_bytes 1 size ++ rest) 0 ≡ 17 + 32 * size = three_bytes (17 + 32 * size) (omega (arith, small)) in
    rw (long, number) (ap Some (tag_in-later size))

-- a number of two bytes
pub two_bytes : (n : ℕ) → n ≤ 16383 → (n % 256 + 256 * (n / 256)) % 16384 ≡ n
two_bytes n small = omega arith

start_of-key : (before : Option Context) (packet : List ℕ) (size width height : ℕ) → tag_of packet ≡ Some (shown_tag true size) → 10 ≤ length packet → has_start_code packet ≡ true → width_of packet ≡ width → height_of packet ≡ height → 0 < width → 0 < height → start_of before packet ≡ Ok (record { tag = shown_tag true size; place = 10; width = width; height = height })
start_of-key before packet size width height tag long code wide high some_wide some_high =
    let enough : nat_lt (length packet) 10 ≡ false = le-ltb (length packet) 10 long in
    let has_width : (width == 0) ≡ false = ne_eqb width 0 (λ e. absurd (omega (arith, e, some_wide))) in
    let has_height : (height == 0) ≡ false = ne_eqb height 0 (λ e. absurd (omega (arith, e, some_high))) in
    rw (tag, enough, code, wide, high, has_width, has_height) refl

pub start_of-later : (before : Context) (packet : List ℕ) (size : ℕ) → tag_of packet ≡ Some (shown_tag false size) → start_of (Some before) packet ≡ Ok (record { tag = shown_tag false size; place = 3; width = 0; height = 0 })
start_of-later before packet size tag = rw tag refl

-- the only token partition is empty
pub token_ranges-one : (packet : List ℕ) (end : ℕ) → length packet ≡ end → token_ranges packet end 1 ≡ Ok (record { items = record { start = end; length = 0 } ∷ [] })
unfolding token_ranges
token_ranges-one packet end long =
    let none : nat_lt end end ≡ false = le-ltb end end (omega arith) in
    let nothing : end - end ≡ 0 = omega arith in
    let same : end + 0 ≡ end = omega arith in
    rw (long, same, nothing, same, none) refl

-- the header of a blank packet, with the reader after it
abbrev pub blank_header_of : TableEntries → ℕ → ℕ → ℕ → Reader → Header
blank_header_of tables width height end reader = record {
  is_key = true;
  version = 0;
  is_shown = true;
  width = width;
  height = height;
  colors = no_colors;
  segmentation = no_segmentation;
  filter = no_filter;
  adjusts_level = false;
  quantizers = no_quantizers;
  references = all_refreshed;
  refreshes_entropy = false;
  skip_probability = Some 1;
  reference_probabilities = no_reference_probabilities;
  partitions = record { items = record { start = end; length = 0 } ∷ [] };
  context = default_context tables;
  context_after = default_context tables;
  reader = reader;
}

pub first_end-fits : (place size long : ℕ) → long ≡ place + size → nat_lt (long - place) size ≡ false
first_end-fits place size long is = le-ltb (long - place) size (omega (arith, is))

pub header_of-blank : (tables : TableEntries) (before : Option Context) (packet first : List ℕ) (width height : ℕ) (m s : Reader) → tag_of packet ≡ Some (shown_tag true (length first)) → length packet ≡ 10 + length first → has_start_code packet ≡ true → width_of packet ≡ width → height_of packet ≡ height → 0 < width → 0 < height → slice_range packet 10 (10 + length first) ≡ first →
    Reads (zeros 16) (started first) m → Reads (zeros 13 ++ zeros_at tables.updates ++ skip_pairs) m s → length tables.updates ≡ 1056 → header_of tables before packet ≡ Ok (blank_header_of tables width height (10 + length first) s)
unfolding header_of
header_of-blank tables before packet first width height m s tag long code wide high some_wide some_high range reads_first reads_second updates =
    let start = start_of-key before packet (length first) width height tag (omega (arith, long)) code wide high some_wide some_high in
    let key : has_key_tag packet ≡ true = rw tag refl in
    let fits : nat_lt (length packet - 10) (length first) ≡ false = first_end-fits 10 (length first) (length packet) long in
    let front = fields-key (default_context tables) (started first) m reads_first in
    let places = token_ranges-one packet (10 + length first) long in
    let following = trailing-key tables.updates (default_context tables) m s updates reads_second in
    rw (start, key, fits, range, front, places, following) refl
