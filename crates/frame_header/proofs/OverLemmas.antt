-- The header of a packet is read over its own first partition.
use Rattle.std.proofs.Common.{◌≡◌, ℕ, ◌+◌, ◌-◌, Bool, true, false, List, length, Option, Result, Ok, Err, refl, sym, arith, nat_lt, if◌then◌else◌}
use Rattle.std.specs.Prelude.{slice_range}
use Rattle.vp8_tables.specs.Tables.{TableEntries}
use Rattle.frame_header.specs.Contexts.{first_context}
use Rattle.frame_header.specs.Tags.{has_key_tag}
use Rattle.frame_header.specs.Start.{start_of}
use Rattle.frame_header.specs.Header.{◌>>=◌, HeadersAreOverTheirOwn, first_end, header_after, header_from, header_of, header_over}
use Rattle.frame_header.specs.declared.cause.Cause.{Cause}
use Rattle.frame_header.specs.declared.cause.Cause.TheVariants.{FirstPartition}
use Rattle.frame_header.specs.declared.context.Context.{Context}
use Rattle.frame_header.specs.declared.places.PartitionRange.{PartitionRange}
use Rattle.frame_header.specs.declared.start.Start.{Start}

end_by : (is_past : Bool) (x end : ℕ) → ◌≡◌ {A = Result ℕ Cause} (if is_past then Err FirstPartition else Ok x) (Ok end) → x ≡ end
end_by true x end is = absurd (cc)
end_by false x end is = cc

-- the first partition ends where its size says
end_is : (start : Start) (packet : List ℕ) (end : ℕ) → first_end start packet ≡ Ok end → start.place + (end - start.place) ≡ end
end_is start packet end is =
    let sum : start.place + start.tag.first_partition ≡ end = end_by (nat_lt (length packet - start.place) start.tag.first_partition) _ end is in
    omega (arith, sum)

over_own : (tables : TableEntries) (before : Option Context) (packet : List ℕ) (start : Start) (end : ℕ) → start_of before packet ≡ Ok start → first_end start packet ≡ Ok end
    → header_over tables before packet (slice_range packet start.place (start.place + (end - start.place))) ≡ header_from tables (first_context tables (has_key_tag packet) before) packet start end (slice_range packet start.place end)
unfolding header_over
over_own tables before packet start end start_is end_is_found = rw (start_is, end_is_found, end_is start packet end end_is_found) refl

-- the first partition between the start and this end
abbrev own_place : Start → ℕ → Result PartitionRange Cause
own_place start end = Ok (record { start = start.place; length = end - start.place })

after_end : (tables : TableEntries) (before : Option Context) (packet : List ℕ) (start : Start) (found : Result ℕ Cause) → start_of before packet ≡ Ok start → first_end start packet ≡ found
    → (found >>= (λ end. header_from tables (first_context tables (has_key_tag packet) before) packet start end (slice_range packet start.place end)))
    ≡ ((found >>= (own_place start)) >>= (λ place. header_over tables before packet (slice_range packet place.start (place.start + place.length))))
after_end tables before packet start (Ok end) start_is found_is = sym (over_own tables before packet start end start_is found_is)
after_end tables before packet start (Err cause) start_is found_is = refl

after_start : (tables : TableEntries) (before : Option Context) (packet : List ℕ) (found : Result Start Cause) → start_of before packet ≡ found
    → (found >>= (λ start. header_after tables (first_context tables (has_key_tag packet) before) packet start))
    ≡ ((found >>= (λ start. first_end start packet >>= (own_place start))) >>= (λ place. header_over tables before packet (slice_range packet place.start (place.start + place.length))))
after_start tables before packet (Ok start) found_is = after_end tables before packet start (first_end start packet) found_is refl
after_start tables before packet (Err cause) found_is = refl

pub headers_are_over_their_own : HeadersAreOverTheirOwn
unfolding header_of
headers_are_over_their_own tables before packet = after_start tables before packet (start_of before packet) refl
