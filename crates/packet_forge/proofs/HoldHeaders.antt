-- The header of a hold packet.
use Rattle.std.specs.Prelude.{Ok, slice_range, nat_lt}
use Rattle.std.proofs.Common.{◌≡◌, ℕ, ◌+◌, ◌-◌, ◌≤◌, true, false, List, [], ◌∷◌, ◌++◌, Some, length, refl, arith}
use Rattle.std.proofs.lemmas.List.{take_all, length-append}
use Rattle.vp8_tables.specs.Tables.{TableEntries}
use Rattle.bool_coder.specs.Reader.{Reader, started}
use Rattle.frame_header.specs.Tags.{tag_of, has_key_tag}
use Rattle.frame_header.specs.Header.{header_of}
use Rattle.frame_header.specs.declared.context.Context.{Context}
use Rattle.frame_header.specs.declared.header.Header.{Header}
use Rattle.packet_forge.specs.Pairs.{zeros, zeros_at, skip_pairs, reference_pairs, vector_updates}
use Rattle.packet_forge.specs.Packets.{tag_bytes}
use Rattle.packet_forge.proofs.Readings.{Reads}
use Rattle.packet_forge.proofs.HeaderFields.{no_colors, no_segmentation, no_filter, no_quantizers, fields-inter}
use Rattle.packet_forge.proofs.HoldFields.{no_updates, hold_references, hold_context, trailing-inter}
use Rattle.packet_forge.proofs.ForgedHeaders.{shown_tag, tag_of-later, start_of-later, token_ranges-one, first_end-fits}

-- the header after a context, with the reader after it
abbrev pub hold_header_of : Context → ℕ → Reader → Header
hold_header_of before end reader = record {
  is_key = false;
  version = 0;
  is_shown = true;
  width = 0;
  height = 0;
  colors = no_colors;
  segmentation = no_segmentation;
  filter = no_filter;
  adjusts_level = false;
  quantizers = no_quantizers;
  references = no_updates;
  refreshes_entropy = false;
  skip_probability = Some 1;
  reference_probabilities = hold_references;
  partitions = record { items = record { start = end; length = 0 } ∷ [] };
  context = hold_context before;
  context_after = record (hold_context before) { probabilities = before.probabilities };
  reader = reader;
}

header_of-later : (tables : TableEntries) (before : Context) (packet first : List ℕ) (m s : Reader) → tag_of packet ≡ Some (shown_tag false (length first)) → length packet ≡ 3 + length first → slice_range packet 3 (3 + length first) ≡ first → Reads (zeros 14) (started first) m → Reads (zeros 22 ++ zeros_at tables.updates ++ skip_pairs ++ reference_pairs ++ zeros_at vector_updates) m s → length tables.updates ≡ 1056 →
    header_of tables (Some before) packet ≡ Ok (hold_header_of before (3 + length first) s)
unfolding header_of
header_of-later tables before packet first m s tag long range reads_first reads_second updates =
    let start = start_of-later before packet (length first) tag in
    let key : has_key_tag packet ≡ false = rw tag refl in
    let fits : nat_lt (length packet - 3) (length first) ≡ false = first_end-fits 3 (length first) (length packet) long in
    let front = fields-inter before (started first) m reads_first in
    let places = token_ranges-one packet (3 + length first) long in
    let following = trailing-inter tables.updates before m s updates reads_second in
    rw (start, key, fits, range, front, places, following) refl

pub header_of-hold : (tables : TableEntries) (before : Context) (first : List ℕ) (m s : Reader) → length first ≤ 524287 → Reads (zeros 14) (started first) m → Reads (zeros 22 ++ zeros_at tables.updates ++ skip_pairs ++ reference_pairs ++ zeros_at vector_updates) m s → length tables.updates ≡ 1056 →
    header_of tables (Some before) (tag_bytes 1 (length first) ++ first) ≡ Ok (hold_header_of before (3 + length first) s)
header_of-hold tables before first m s small reads_first reads_second updates =
    let packet : List ℕ = tag_bytes 1 (length first) ++ first in
    let tag : tag_of (tag_bytes 1 (length first) ++ first) ≡ Some (shown_tag false (length first)) = tag_of-later (length first) first small in
    let long : length (tag_bytes 1 (length first) ++ first) ≡ 3 + length first = length-append (tag_bytes 1 (length first)) first in
    let less : 3 + length first - 3 ≡ length first = omega arith in
    let range : slice_range (tag_bytes 1 (length first) ++ first) 3 (3 + length first) ≡ first = rw less (take_all (length first) first (omega arith)) in
    header_of-later tables before packet first m s tag long range reads_first reads_second updates
