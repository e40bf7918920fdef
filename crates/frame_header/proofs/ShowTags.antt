-- The tag and the size of a packet after a change of its show bit.
use Rattle.std.proofs.Common.{◌≡◌, ℕ, zero, suc, ◌+◌, ◌*◌, ◌/◌, ◌%◌, ◌<◌, ◌≤◌, ◌==◌, Bool, true, false, not, ◌&&◌, List, [], ◌∷◌, length, drop, Option, Some, None, refl, sym, ap, ◌∙◌, arith, inl, inr, if◌then◌else◌}
use Rattle.std.specs.Prelude.{nat_le, slice_index}
use Rattle.std.specs.Option.{option_map, option_map_or}
use Rattle.std.proofs.lemmas.Bool.{le-leb, lt-leb, cases_lt, leb-true}
use Rattle.frame_header.specs.Tags.{has_key_tag, has_start_code, height_of, is_shown, key_size_of, number_at, tag_in, tag_of, width_of}
use Rattle.frame_header.specs.declared.tag_fields.Tag.{Tag}
use Rattle.frame_header.specs.ShowBits.{byte_showing, has_show_bit, with_show_bit}
use Rattle.frame_header.specs.ShowLaws.{LeavesTheRest, tag_showing}
use Rattle.frame_header.proofs.ShowBytes.{HasThree, bit_of, bit-cons, has_three, showing-is, with-cons, with-short}

-- the tag of a number by its bits: those below the show bit, the show bit, and those above it
abbrev pub tag_with : ℕ → ℕ → ℕ → Tag
tag_with low bit high = record { key = low % 2 == 0; version = low / 2; shown = bit == 1; first_partition = high }

tag_in-parts : (low bit high : ℕ) → low < 16 → bit < 2 → tag_in (low + 16 * bit + 32 * high) ≡ tag_with low bit high
tag_in-parts low bit high few one =
    let key : (low + 16 * bit + 32 * high) % 2 ≡ low % 2 = omega arith in
    let version : (low + 16 * bit + 32 * high) / 2 % 8 ≡ low / 2 = omega arith in
    let shown : (low + 16 * bit + 32 * high) / 16 % 2 ≡ bit = omega arith in
    let first : (low + 16 * bit + 32 * high) / 32 ≡ high = omega arith in
    rw (key, version, shown, first) refl

-- the bits above the show bit of a number of three bytes
abbrev pub high_of : ℕ → ℕ → ℕ → ℕ
high_of a b c = a / 32 + 8 * b + 2048 * c

number_parts : (a b c : ℕ) → a + 256 * b + 65536 * c ≡ a % 16 + 16 * (a / 16 % 2) + 32 * high_of a b c
number_parts a b c = omega arith

number_joined : (low bit high b c : ℕ) → high * 32 + low + 16 * bit + 256 * b + 65536 * c ≡ low + 16 * bit + 32 * (high + 8 * b + 2048 * c)
number_joined low bit high b c = omega arith

bit_small : (shown : Bool) → bit_of shown < 2
bit_small true = omega arith
bit_small false = omega arith

bit_says : (shown : Bool) → (bit_of shown == 1) ≡ shown
bit_says true = refl
bit_says false = refl

low_small : (a : ℕ) → a % 16 < 16
low_small a = omega arith

half_small : (a : ℕ) → a / 16 % 2 < 2
half_small a = omega arith

-- the tag of three bytes
tag-own : (a b c : ℕ) → tag_in (a + 256 * b + 65536 * c) ≡ tag_with (a % 16) (a / 16 % 2) (high_of a b c)
tag-own a b c = ap tag_in (number_parts a b c) ∙ tag_in-parts (a % 16) (a / 16 % 2) (high_of a b c) (low_small a) (half_small a)

tag-showing : (shown : Bool) (a b c : ℕ) → tag_in (byte_showing shown a + 256 * b + 65536 * c) ≡ tag_with (a % 16) (bit_of shown) (high_of a b c)
tag-showing shown a b c =
    ap (λ (byte : ℕ). tag_in (byte + 256 * b + 65536 * c)) (showing-is shown a)
    ∙ ap tag_in (number_joined (a % 16) (bit_of shown) (a / 32) b c)
    ∙ tag_in-parts (a % 16) (bit_of shown) (high_of a b c) (low_small a) (bit_small shown)

tag-changed : (shown : Bool) (a b c : ℕ) → tag_in (byte_showing shown a + 256 * b + 65536 * c) ≡ tag_showing shown (tag_in (a + 256 * b + 65536 * c))
tag-changed shown a b c =
    tag-showing shown a b c
    ∙ ap (λ (says : Bool). let tag : Tag = record { key = a % 16 % 2 == 0; version = a % 16 / 2; shown = says; first_partition = high_of a b c } in tag) (bit_says shown)
    ∙ sym (ap (tag_showing shown) (tag-own a b c))

tag_of-cons : (a b c : ℕ) (rest : List ℕ) → tag_of (a ∷ b ∷ c ∷ rest) ≡ Some (tag_in (a + 256 * b + 65536 * c))
tag_of-cons a b c rest =
    ap (λ (long : Bool). if long then Some (tag_in (number_at (a ∷ b ∷ c ∷ rest) 0)) else None) (le-leb 3 (length (a ∷ b ∷ c ∷ rest)) (omega arith))

tag_of-short : (packet : List ℕ) → length packet < 3 → tag_of packet ≡ None
tag_of-short packet short = ap (λ (long : Bool). if long then Some (tag_in (number_at packet 0)) else None) (lt-leb 3 (length packet) short)

pub tag_of-long : (shown : Bool) (packet : List ℕ) → HasThree packet → tag_of (with_show_bit shown packet) ≡ option_map (tag_showing shown) (tag_of packet)
tag_of-long shown packet h =
    ap (λ (bytes : List ℕ). tag_of (with_show_bit shown bytes)) h.is
    ∙ ap tag_of (with-cons shown h.first h.second h.third h.rest)
    ∙ tag_of-cons (byte_showing shown h.first) h.second h.third h.rest
    ∙ ap (λ (tag : Tag). Some tag) (tag-changed shown h.first h.second h.third)
    ∙ sym (ap (option_map (tag_showing shown)) (ap tag_of h.is ∙ tag_of-cons h.first h.second h.third h.rest))

pub tag_has_show_bit : (shown : Bool) (packet : List ℕ) → tag_of (with_show_bit shown packet) ≡ option_map (tag_showing shown) (tag_of packet)
tag_has_show_bit shown packet = elim (cases_lt (length packet) 3) [
  | inl short ↦ ap tag_of (with-short shown packet short) ∙ tag_of-short packet short ∙ sym (ap (option_map (tag_showing shown)) (tag_of-short packet short))
  | inr enough ↦ tag_of-long shown packet (has_three packet enough)
]

shown_by : (shown : Bool) (tag : Option Tag) → (tag ≡ None → ⊥) → option_map_or (λ t. t.shown) (option_map (tag_showing shown) tag) true ≡ shown
shown_by shown None some = absurd (some refl)
shown_by shown (Some tag) some = refl

has_tag : (packet : List ℕ) → has_show_bit packet ≡ true → tag_of packet ≡ None → ⊥
has_tag packet has none =
    let enough : 3 ≤ length packet = leb-true 3 (length packet) has in
    let h : HasThree packet = has_three packet enough in
    let some : tag_of packet ≡ Some (tag_in (h.first + 256 * h.second + 65536 * h.third)) = ap tag_of h.is ∙ tag_of-cons h.first h.second h.third h.rest in
    cc

pub show_bit_says : (shown : Bool) (packet : List ℕ) → has_show_bit packet ≡ true → is_shown (with_show_bit shown packet) ≡ shown
show_bit_says shown packet has =
    ap (λ (t : Option Tag). option_map_or (λ (u : Tag). u.shown) t true) (tag_has_show_bit shown packet)
    ∙ shown_by shown (tag_of packet) (has_tag packet has)

key_by : (shown : Bool) (tag : Option Tag) → option_map_or (λ t. t.key) (option_map (tag_showing shown) tag) false ≡ option_map_or (λ t. t.key) tag false
key_by shown None = refl
key_by shown (Some tag) = refl

pub key_tag_stays : (shown : Bool) (packet : List ℕ) → has_key_tag (with_show_bit shown packet) ≡ has_key_tag packet
key_tag_stays shown packet = ap (λ (t : Option Tag). option_map_or (λ (u : Tag). u.key) t false) (tag_has_show_bit shown packet) ∙ key_by shown (tag_of packet)

-- the size of packets of which only the first byte differs
key_size_by : (x a b c : ℕ) (rest : List ℕ) → has_key_tag (x ∷ b ∷ c ∷ rest) ≡ has_key_tag (a ∷ b ∷ c ∷ rest) → key_size_of (x ∷ b ∷ c ∷ rest) ≡ key_size_of (a ∷ b ∷ c ∷ rest)
key_size_by x a b c rest key =
    let size : Bool → Option (ℕ × ℕ) = λ k. if k && nat_le 10 (length (x ∷ b ∷ c ∷ rest)) && has_start_code (x ∷ b ∷ c ∷ rest) && not (width_of (x ∷ b ∷ c ∷ rest) == 0) && not (height_of (x ∷ b ∷ c ∷ rest) == 0) then Some (width_of (x ∷ b ∷ c ∷ rest), height_of (x ∷ b ∷ c ∷ rest)) else None in
    ap size key

low_of : (a bit : ℕ) → (a / 32 * 32 + a % 16 + 16 * bit) % 16 ≡ a % 16
low_of a bit = omega arith

high_half : (a bit : ℕ) → bit < 2 → (a / 32 * 32 + a % 16 + 16 * bit) / 32 ≡ a / 32
high_half a bit small = omega arith

rest-long : (shown : Bool) (packet : List ℕ) → HasThree packet → LeavesTheRest shown packet
rest-long shown packet h =
    let a : ℕ = h.first in
    let changed : with_show_bit shown packet ≡ byte_showing shown a ∷ h.second ∷ h.third ∷ h.rest = ap (with_show_bit shown) h.is ∙ with-cons shown a h.second h.third h.rest in
    let key : has_key_tag (byte_showing shown a ∷ h.second ∷ h.third ∷ h.rest) ≡ has_key_tag (a ∷ h.second ∷ h.third ∷ h.rest) = sym (ap has_key_tag changed) ∙ key_tag_stays shown packet ∙ ap has_key_tag h.is in
    let value : byte_showing shown a ≡ a / 32 * 32 + a % 16 + 16 * bit_of shown = showing-is shown a in
    let small : bit_of shown < 2 = bit_small shown in
    let first : slice_index (with_show_bit shown packet) 0 ≡ byte_showing shown a = ap (λ (bytes : List ℕ). slice_index bytes 0) changed in
    let was : slice_index packet 0 ≡ a = ap (λ (bytes : List ℕ). slice_index bytes 0) h.is in
    record {
      count = ap length changed ∙ sym (ap length h.is);
      later = ap (drop 1) changed ∙ sym (ap (drop 1) h.is);
      low = ap (λ (byte : ℕ). byte % 16) (first ∙ value) ∙ low_of a (bit_of shown) ∙ sym (ap (λ (byte : ℕ). byte % 16) was);
      high = ap (λ (byte : ℕ). byte / 32) (first ∙ value) ∙ high_half a (bit_of shown) small ∙ sym (ap (λ (byte : ℕ). byte / 32) was);
      key_tag = key_tag_stays shown packet;
      key_size = ap key_size_of changed ∙ key_size_by (byte_showing shown a) a h.second h.third h.rest key ∙ sym (ap key_size_of h.is);
    }

pub only_the_bit_changes : (shown : Bool) (packet : List ℕ) → LeavesTheRest shown packet
only_the_bit_changes shown packet = elim (cases_lt (length packet) 3) [
  | inl short ↦
      let same : with_show_bit shown packet ≡ packet = with-short shown packet short in
      record {
        count = ap length same;
        later = ap (drop 1) same;
        low = ap (λ (bytes : List ℕ). slice_index bytes 0 % 16) same;
        high = ap (λ (bytes : List ℕ). slice_index bytes 0 / 32) same;
        key_tag = ap has_key_tag same;
        key_size = ap key_size_of same;
      }
  | inr enough ↦ rest-long shown packet (has_three packet enough)
]

-- the bit that a packet has
own_byte : (a : ℕ) → a / 32 * 32 + a % 16 + 16 * (a / 16 % 2) ≡ a
own_byte a = omega arith

bit_back : (bit : ℕ) → bit < 2 → bit_of (bit == 1) ≡ bit
bit_back zero small = refl
bit_back (suc zero) small = refl
bit_back (suc (suc bit)) small = absurd (omega arith)

shown-cons : (a b c : ℕ) (rest : List ℕ) → is_shown (a ∷ b ∷ c ∷ rest) ≡ (a / 16 % 2 == 1)
shown-cons a b c rest =
    ap (λ (t : Option Tag). option_map_or (λ (u : Tag). u.shown) t true) (tag_of-cons a b c rest) ∙ ap (λ (t : Tag). t.shown) (tag-own a b c)

own-long : (packet : List ℕ) → HasThree packet → with_show_bit (is_shown packet) packet ≡ packet
own-long packet h =
    let a : ℕ = h.first in
    let says : is_shown packet ≡ (a / 16 % 2 == 1) = ap is_shown h.is ∙ shown-cons a h.second h.third h.rest in
    let byte : byte_showing (a / 16 % 2 == 1) a ≡ a = showing-is (a / 16 % 2 == 1) a ∙ ap (λ (bit : ℕ). a / 32 * 32 + a % 16 + 16 * bit) (bit_back (a / 16 % 2) (half_small a)) ∙ own_byte a in
    ap (λ (shown : Bool). with_show_bit shown packet) says
    ∙ ap (with_show_bit (a / 16 % 2 == 1)) h.is
    ∙ with-cons (a / 16 % 2 == 1) a h.second h.third h.rest
    ∙ ap (λ (first : ℕ). first ∷ h.second ∷ h.third ∷ h.rest) byte
    ∙ sym h.is

pub own_bit_stays : (packet : List ℕ) → with_show_bit (is_shown packet) packet ≡ packet
own_bit_stays packet = elim (cases_lt (length packet) 3) [
  | inl short ↦ with-short (is_shown packet) packet short
  | inr enough ↦ own-long packet (has_three packet enough)
]
