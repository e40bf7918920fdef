-- The bytes of packets that are hidden.
use Rattle.std.proofs.Common.{◌≡◌, ℕ, suc, ◌+◌, ◌-◌, ◌<◌, Bool, true, false, cond, List, [], ◌∷◌, length, map, take, drop, slice_get, Option, Some, Result, Ok, Err, refl, sym, ap, ◌∙◌, arith, if◌then◌else◌}
use Rattle.std.specs.Prelude.{slice_range}
use Rattle.std.specs.Option.{option_map_or}
use Rattle.std.specs.Result.{result_ok}
use Rattle.std.proofs.lemmas.List.{drop_more, length-append}
use Rattle.std.proofs.lemmas.Option.{get_or_from_slice_get, slice_get_within}
use Rattle.arrayvec.specs.ArrayVec.{ArrayVec}
use Rattle.vp8_tables.specs.Tables.{TableEntries}
use Rattle.frame_header.specs.Header.{header_of}
use Rattle.frame_header.specs.Padding.{ends_empty, is_last_empty, partitions_in, partitions_of, with_zero, zero_context}
use Rattle.frame_header.specs.ShowBits.{with_show_bit}
use Rattle.frame_header.specs.ShowLaws.{LeavesTheRest, OnlyTheBitChanges, TagHasShowBit}
use Rattle.frame_header.specs.declared.cause.Cause.{Cause}
use Rattle.frame_header.specs.declared.context.Context.{Context}
use Rattle.frame_header.specs.declared.header.Header.{Header}
use Rattle.frame_header.specs.declared.places.PartitionRange.{PartitionRange}
use Rattle.frame_header.proofs.PartitionLemmas.{partitions_need_no_context}
use Rattle.stream_steps.proofs.Alike.{AreAlike, alike}
use Rattle.stream_steps.proofs.ShownHeaders.{changed, header_changed, header_showing}
use Rattle.lossless_cuts.specs.Limits.{record_size, records_size}
use Rattle.lossless_cuts.specs.Plans.{has_bytes, hidden}
use Rattle.lossless_cuts.proofs.HiddenLeads.{hidden_append}
use Rattle.lossless_cuts.proofs.Pushed.{size_append}

-- which packets end empty does not depend on tables
no_tables : TableEntries
no_tables = record { coefficients = []; updates = []; key_subs = [] }

partitions-shown : (shown : Bool) (header : Result Header Cause) → partitions_in (changed (header_showing shown) header) ≡ partitions_in header
partitions-shown shown (Ok header) = refl
partitions-shown shown (Err cause) = refl

ends-shown : TagHasShowBit → OnlyTheBitChanges → (shown : Bool) (packet : List ℕ) → ends_empty (with_show_bit shown packet) ≡ ends_empty packet
unfolding ends_empty
ends-shown tags rest shown packet =
    let other : List ℕ = with_show_bit shown packet in
    let before : Option Context = Some zero_context in
    let left : LeavesTheRest shown packet = rest shown packet in
    let same : AreAlike packet other = alike packet other left.count left.later in
    let header : header_of no_tables before other ≡ changed (header_showing shown) (header_of no_tables before packet) = header_changed no_tables before shown packet other same (tags shown packet) left.key_tag in
    let partitions : partitions_of other ≡ partitions_of packet =
    sym (partitions_need_no_context no_tables zero_context other) ∙ ap partitions_in header ∙ partitions-shown shown (header_of no_tables before packet) ∙ partitions_need_no_context no_tables zero_context packet in
    ap (λ (r : Result (ArrayVec PartitionRange) Cause). option_map_or (λ (ps : ArrayVec PartitionRange). is_last_empty ps.items) (result_ok r) false) partitions

length-if : (ends : Bool) (packet : List ℕ) → length (if ends then with_zero packet else packet) ≡ (if ends then 1 else 0) + length packet
length-if true packet = omega (arith, length-append packet (0 ∷ []))
length-if false packet = omega arith

-- the padding of a packet, by its test
pub padding-is : (packet : List ℕ) (ends : Bool) (padding : ℕ) → ends ≡ ends_empty packet → padding ≡ (if ends then 1 else 0) → 12 + length packet + padding ≡ record_size packet
padding-is packet ends padding is count = omega (arith, count, ap (λ (b : Bool). let n : ℕ = if b then 1 else 0 in n) is, length-if (ends_empty packet) packet)

size-shown : TagHasShowBit → OnlyTheBitChanges → (packet : List ℕ) → record_size (with_show_bit false packet) ≡ record_size packet
size-shown tags rest packet =
    let other : List ℕ = with_show_bit false packet in
    omega (arith, length-if (ends_empty other) other, length-if (ends_empty packet) packet, ap (λ (b : Bool). let n : ℕ = if b then 1 else 0 in n) (ends-shown tags rest false packet), (rest false packet).count)

-- one hidden packet
hidden-one : (packet : List ℕ) → has_bytes packet ≡ true → hidden (packet ∷ []) ≡ with_show_bit false packet ∷ []
hidden-one packet some = ap (λ (b : Bool). map (with_show_bit false) (cond b (packet ∷ []) [])) some

hidden-none : (packet : List ℕ) → has_bytes packet ≡ false → hidden (packet ∷ []) ≡ []
hidden-none packet none = ap (λ (b : Bool). map (with_show_bit false) (cond b (packet ∷ []) [])) none

pub hidden_size-some : TagHasShowBit → OnlyTheBitChanges → (packet : List ℕ) → has_bytes packet ≡ true → record_size packet ≡ records_size (hidden (packet ∷ []))
hidden_size-some tags rest packet some =
    let one : records_size (with_show_bit false packet ∷ []) ≡ record_size (with_show_bit false packet) = omega arith in
    sym (ap records_size (hidden-one packet some) ∙ one ∙ size-shown tags rest packet)

pub hidden_size-none : (packet : List ℕ) → has_bytes packet ≡ false → 0 ≡ records_size (hidden (packet ∷ []))
hidden_size-none packet none = sym (ap records_size (hidden-none packet none))

-- ---- a lead

slice-first : (xs : List (List ℕ)) (place end : ℕ) (x : List ℕ) → place < end → slice_get xs place ≡ Some x → slice_range xs place end ≡ x ∷ slice_range xs (place + 1) end
slice-first xs place end x less here =
    let next : end - place ≡ suc (end - (place + 1)) = omega (arith, less) in
    let rest : drop place xs ≡ x ∷ drop (place + 1) xs = drop_more xs place x (slice_get_within xs place x here) ∙ ap (λ (y : List ℕ). y ∷ drop (place + 1) xs) (get_or_from_slice_get xs place x x here) in
    ap (λ (n : ℕ). take n (drop place xs)) next ∙ ap (take (suc (end - (place + 1)))) rest

-- the bytes of a lead from one index on, with those of its first packet
pub lead_size-more : (xs : List (List ℕ)) (place end : ℕ) (x : List ℕ) → place < end → slice_get xs place ≡ Some x → records_size (hidden (slice_range xs place end)) ≡ records_size (hidden (x ∷ [])) + records_size (hidden (slice_range xs (place + 1) end))
lead_size-more xs place end x less here =
    ap (λ (ys : List (List ℕ)). records_size (hidden ys)) (slice-first xs place end x less here)
    ∙ ap records_size (hidden_append (x ∷ []) (slice_range xs (place + 1) end))
    ∙ size_append (hidden (x ∷ [])) (hidden (slice_range xs (place + 1) end))

pub lead_size-none : (xs : List (List ℕ)) (end : ℕ) → records_size (hidden (slice_range xs end end)) ≡ 0
lead_size-none xs end = let none : end - end ≡ 0 = omega arith in ap (λ (n : ℕ). records_size (hidden (take n (drop end xs)))) none

-- a lead that begins at its end
pub hidden-empty : (xs : List (List ℕ)) (place : ℕ) → hidden (slice_range xs place place) ≡ []
hidden-empty xs place = let none : place - place ≡ 0 = omega arith in ap (λ (n : ℕ). hidden (take n (drop place xs))) none
