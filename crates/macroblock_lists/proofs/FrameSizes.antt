-- The size of the frame of a packet is known before its header is read.
use Rattle.std.proofs.Common.{◌≡◌, ℕ, Bool, true, false, List, length, refl, sym, ◌∙◌, arith, Option, Some, None, Result, Ok, Err, IfOk}
use Rattle.std.specs.Prelude.{◌&&◌, ◌||◌, ◌==◌, nat_le, nat_lt, not, unwrap_or, if◌then◌else◌}
use Rattle.std.specs.Option.{option_map_or}
use Rattle.std.proofs.lemmas.Bool.Decides.{nat_tests}
use Rattle.vp8_tables.specs.Tables.{TableEntries}
use Rattle.frame_header.specs.Contexts.{first_context}
use Rattle.frame_header.specs.Header.{first_end, header_after as header_after_start, header_of}
use Rattle.frame_header.specs.Places.{token_ranges}
use Rattle.frame_header.specs.Start.{start_of, tagged_start}
use Rattle.frame_header.specs.Tags.{has_key_tag, has_start_code, height_of, key_size_of, tag_of, width_of}
use Rattle.frame_header.specs.declared.cause.Cause.{Cause}
use Rattle.frame_header.specs.declared.cause.Cause.TheVariants.{NoKeyFrame, ShortPacket, Size, StartCode, Version}
use Rattle.frame_header.specs.declared.context.Context.{Context}
use Rattle.frame_header.specs.declared.header.Header.{Header}
use Rattle.frame_header.proofs.KeyLemmas.{IfOk-then}
use Rattle.macroblock_lists.specs.Known.{Known, header_after, height_of as height_with, known_before, width_of as width_with}
use Rattle.macroblock_lists.specs.FirstChains.{context_in}
use Rattle.macroblock_lists.specs.ProofsOnly.{size_before}

-- the start of a key frame, by the tests of its packet
abbrev pub started_if : {S : Type 0} → Bool → Bool → Bool → Bool → Bool → S → Result S Cause
started_if short late code narrow low start =
    if short then Err ShortPacket else if late then Err Version else if not code then Err StartCode else if narrow || low then Err Size else Ok start

abbrev pub size_if : Bool → Bool → Bool → Bool → ℕ × ℕ → ℕ × ℕ
size_if long code narrow low size = unwrap_or (if long && code && not narrow && not low then Some size else None) (0, 0)

sized : {S : Type 0} (size : S → ℕ × ℕ) (short long late code narrow low : Bool) (start : S) → long ≡ not short
    → IfOk (started_if short late code narrow low start) (λ s. size_if long code narrow low (size start) ≡ size s)
sized size true long late code narrow low start is = tt
sized size false long true code narrow low start is = tt
sized size false long false false narrow low start is = tt
sized size false long false true true low start is = tt
sized size false long false true false true start is = tt
sized size false long false true false false start is = rw is refl

-- the size in a packet with a key tag is that of its start
size-by-tag : (earlier : Option Context) (packet : List ℕ) (tag : _) → tag_of packet ≡ tag → has_key_tag packet ≡ true → option_map_or (λ t. t.key) tag false ≡ true
    → IfOk (option_map_or (λ t. tagged_start t earlier packet) tag (Err ShortPacket)) (λ start. unwrap_or (key_size_of packet) (0, 0) ≡ (start.width, start.height))
size-by-tag earlier packet None is keyed tagged = tt
size-by-tag earlier packet (Some tag) is keyed tagged =
    let long : nat_le 10 (length packet) ≡ not (nat_lt (length packet) 10) = grind (arith, nat_tests) in
    rw (tagged, keyed) (sized (λ start. (start.width, start.height)) (nat_lt (length packet) 10) (nat_le 10 (length packet)) (nat_lt 3 tag.version) (has_start_code packet) (width_of packet == 0) (height_of packet == 0)
    (record { tag = record tag { key = true }; place = 10; width = width_of packet; height = height_of packet }) long)

-- and that of its header
header-size : (tables : TableEntries) (context : Context) (packet : List ℕ) (start : _) → IfOk (header_after_start tables context packet start) (λ header. ◌≡◌ {A = ℕ × ℕ} (header.width, header.height) (start.width, start.height))
header-size tables context packet start =
    let P : Header → Type 0 = λ header. ◌≡◌ {A = ℕ × ℕ} (header.width, header.height) (start.width, start.height) in
    IfOk-then P (first_end start packet) _ (λ end. IfOk-then P (token_ranges packet end _) _ (λ partitions. refl))

key-by-start : (tables : TableEntries) (earlier : Option Context) (packet : List ℕ) (header : Header) (found : Result _ Cause) → start_of earlier packet ≡ found → has_key_tag packet ≡ true
    → header_of tables earlier packet ≡ Ok header → unwrap_or (key_size_of packet) (0, 0) ≡ (header.width, header.height)
unfolding header_of
key-by-start tables earlier packet header (Ok start) start_is tagged accepted =
    let size = rw start_is at (size-by-tag earlier packet (tag_of packet) refl tagged tagged) in
    let read = rw start_is at accepted in
    let sides = rw read at (header-size tables (first_context tables (has_key_tag packet) earlier) packet start) in
    size ∙ sym sides
key-by-start tables earlier packet header (Err cause) start_is tagged accepted = absurd (let none = rw start_is at accepted in cc)

-- without a key tag there is no start if nothing is known
neither : (S : Type 0) (late : Bool) (one other : Cause) → IfOk {T = S} (if late then Err one else Err other) (λ start. ⊥)
neither S true one other = tt
neither S false one other = tt

none-by-tag : (packet : List ℕ) (tag : _) → tag_of packet ≡ tag → option_map_or (λ t. t.key) tag false ≡ false → IfOk (option_map_or (λ t. tagged_start t None packet) tag (Err ShortPacket)) (λ start. ⊥)
none-by-tag packet None is tagged = tt
none-by-tag packet (Some tag) is tagged = rw tagged (neither _ (nat_lt 3 tag.version) Version NoKeyFrame)

none-by-start : (tables : TableEntries) (packet : List ℕ) (header : Header) (found : Result _ Cause) → start_of None packet ≡ found → has_key_tag packet ≡ false → header_of tables None packet ≡ Ok header → ⊥
unfolding header_of
none-by-start tables packet header (Ok start) start_is tagged accepted = rw start_is at (none-by-tag packet (tag_of packet) refl tagged)
none-by-start tables packet header (Err cause) start_is tagged accepted = let none = rw start_is at accepted in cc

later-size : (tables : TableEntries) (known : Option Known) (packet : List ℕ) (header : Header) → has_key_tag packet ≡ false → header_after tables known packet ≡ Ok header → size_before packet known ≡ (width_with header known, height_with header known)
later-size tables None packet header tagged accepted = absurd (none-by-start tables packet header _ refl tagged accepted)
later-size tables (Some known) packet header tagged accepted = refl

by-key : (tables : TableEntries) (known : Option Known) (packet : List ℕ) (header : Header) (is_key : Bool) → has_key_tag packet ≡ is_key → header_after tables known packet ≡ Ok header
    → size_before packet (known_before packet known) ≡ (width_with header (known_before packet known), height_with header (known_before packet known))
by-key tables known packet header true tagged accepted = rw tagged (key-by-start tables (context_in known) packet header _ refl tagged accepted)
by-key tables known packet header false tagged accepted = rw tagged (later-size tables known packet header tagged accepted)

pub size-is : (tables : TableEntries) (known : Option Known) (packet : List ℕ) (header : Header) → header_after tables known packet ≡ Ok header
    → size_before packet (known_before packet known) ≡ (width_with header (known_before packet known), height_with header (known_before packet known))
size-is tables known packet header accepted = by-key tables known packet header _ refl accepted
