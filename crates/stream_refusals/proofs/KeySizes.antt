-- A header that is accepted after nothing is that of a key frame, and has the size in its packet.
use Rattle.std.proofs.Common.{◌≡◌, ℕ, ◌*◌, ◌<◌, ◌≤◌, ◌==◌, ◌&&◌, ◌||◌, ◌%◌, Bool, true, false, not, List, length, Option, Some, None, Result, Ok, Err, IfOk, refl, ap, ◌∙◌, arith, nat_lt, if◌then◌else◌}
use Rattle.std.specs.Prelude.{is_none, nat_le}
use Rattle.std.specs.Option.{option_map_or}
use Rattle.std.proofs.lemmas.Bool.{and_parts}
use Rattle.std.proofs.lemmas.Bool.Decides.{nat_tests}
use Rattle.vp8_tables.specs.Tables.{TableEntries}
use Rattle.frame_header.specs.Contexts.{first_context}
use Rattle.frame_header.specs.Header.{first_end, header_after, header_of}
use Rattle.frame_header.specs.Places.{token_ranges}
use Rattle.frame_header.specs.Start.{start_of, tagged_start}
use Rattle.frame_header.specs.Tags.{has_key_tag, has_start_code, height_of, key_size_of, tag_of, width_of}
use Rattle.frame_header.specs.declared.cause.Cause.{Cause}
use Rattle.frame_header.specs.declared.cause.Cause.TheVariants.{NoKeyFrame, ShortPacket, Size, StartCode, Version}
use Rattle.frame_header.specs.declared.header.Header.{Header}
use Rattle.frame_header.specs.declared.tag_fields.Tag.{Tag}
use Rattle.frame_header.proofs.KeyLemmas.{IfOk-following, IfOk-then}
use Rattle.stream_steps.proofs.Starts.{Start}

-- the start after nothing, and the size in the packet, by the tests of both
started_if : Bool → Bool → Bool → Bool → Bool → Bool → Start → Start → Result Start Cause
started_if key short late code narrow low start other =
    if key && short then Err ShortPacket else if late then Err Version else
    if key then (if not code then Err StartCode else if narrow || low then Err Size else Ok start) else (if true then Err NoKeyFrame else Ok other)

size_if : Bool → Bool → Bool → Bool → Bool → ℕ × ℕ → Option (ℕ × ℕ)
size_if key long code narrow low size = if key && long && code && not narrow && not low then Some size else None

sized : (key short long late code narrow low : Bool) (start other : Start) → long ≡ not short
    → IfOk (started_if key short late code narrow low start other) (λ s. size_if key long code narrow low (start.width, start.height) ≡ Some (s.width, s.height))
unfolding started_if size_if
sized true true long late code narrow low start other is = tt
sized true false long true code narrow low start other is = tt
sized true false long false false narrow low start other is = tt
sized true false long false true true low start other is = tt
sized true false long false true false true start other is = tt
sized true false long false true false false start other is = rw is refl
sized false short long true code narrow low start other is = tt
sized false short long false code narrow low start other is = tt

by-tag : (packet : List ℕ) (tag : Option Tag)
    → IfOk (option_map_or (λ t. tagged_start t None packet) tag (Err ShortPacket)) (λ s. size_if (option_map_or (λ t. t.key) tag false) (nat_le 10 (length packet)) (has_start_code packet) (width_of packet == 0) (height_of packet == 0) (width_of packet, height_of packet) ≡ Some (s.width, s.height))
unfolding started_if size_if
by-tag packet None = tt
by-tag packet (Some tag) =
    let long : nat_le 10 (length packet) ≡ not (nat_lt (length packet) 10) = grind (arith, nat_tests) in
    sized tag.key (nat_lt (length packet) 10) (nat_le 10 (length packet)) (nat_lt 3 tag.version) (has_start_code packet) (width_of packet == 0) (height_of packet == 0)
    (record { tag = tag; place = 10; width = width_of packet; height = height_of packet }) (record { tag = tag; place = 3; width = 0; height = 0 }) long

pub key-size : (tables : TableEntries) (packet : List ℕ) → IfOk (header_of tables None packet) (λ header. key_size_of packet ≡ Some (header.width, header.height))
unfolding header_of size_if
key-size tables packet =
    let P : Header → Type 0 = λ header. key_size_of packet ≡ Some (header.width, header.height) in
    IfOk-following (λ (s : Start). key_size_of packet ≡ Some (s.width, s.height)) P (start_of None packet) _ (by-tag packet (tag_of packet))
    (λ start size. IfOk-then P (first_end start packet) _ (λ end. IfOk-then P (token_ranges packet end _) _ (λ partitions. size)))

-- the sides in a packet are those of a frame
pub record AreSides (width height : ℕ) : Type 0 where
  pub wide : (0 < width) × (width ≤ 16383)
  pub high : (0 < height) × (height ≤ 16383)

some-sides : (b : Bool) (x y width height : ℕ) → ◌≡◌ {A = Option (ℕ × ℕ)} (if b then Some (x, y) else None) (Some (width, height)) → (b ≡ true) × (x ≡ width) × (y ≡ height)
some-sides true x y width height is = let same : ◌≡◌ {A = ℕ × ℕ} (x, y) (width, height) = cc in (refl, ap (λ (s : ℕ × ℕ). s.0) same, ap (λ (s : ℕ × ℕ). s.1) same)
some-sides false x y width height is = cc

pub key-sides : (packet : List ℕ) (width height : ℕ) → key_size_of packet ≡ Some (width, height) → AreSides width height
key-sides packet width height is =
    let wide : Bool = width_of packet == 0 in
    let high : Bool = height_of packet == 0 in
    let first : Bool = has_key_tag packet && nat_le 10 (length packet) && has_start_code packet && not wide in
    let s = some-sides (first && not high) (width_of packet) (height_of packet) width height is in
    let both = and_parts first (not high) s.0 in
    let narrow = and_parts (has_key_tag packet && nat_le 10 (length packet) && has_start_code packet) (not wide) both.0 in
    let some_width : 0 < width_of packet = grind (arith, nat_tests, narrow.1) in
    let some_height : 0 < height_of packet = grind (arith, nat_tests, both.1) in
    record { wide = (omega (arith, s.1, some_width), omega (arith, s.1)); high = (omega (arith, s.2, some_height), omega (arith, s.2)) }
