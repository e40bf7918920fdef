-- The next header sets both sign biases, so those of the state before it are not read.
use Rattle.std.proofs.Common.{◌≡◌, ℕ, ◌==◌, Bool, true, false, List, length, Some, None, Result, Ok, Err, IfOk, refl, sym, ap, ◌∙◌, inl, inr, if◌then◌else◌}
use Rattle.std.specs.Prelude.{slice_range}
use Rattle.std.proofs.lemmas.Bool.{cases_Bool}
use Rattle.arrayvec.specs.ArrayVec.{ArrayVec}
use Rattle.vp8_tables.specs.Tables.{TableEntries}
use Rattle.bool_coder.specs.Reader.{Reader, started}
use Rattle.frame_header.specs.Fields.{fields}
use Rattle.frame_header.specs.Header.{◌>>=◌, first_end, header_after, header_in, header_of}
use Rattle.frame_header.specs.Places.{token_ranges}
use Rattle.frame_header.specs.References.{refreshes}
use Rattle.frame_header.specs.Start.{start_of}
use Rattle.frame_header.specs.Tags.{has_key_tag, tag_of}
use Rattle.frame_header.specs.TrailingFields.{trailing_fields}
use Rattle.frame_header.specs.declared.cause.Cause.{Cause}
use Rattle.frame_header.specs.declared.context.Context.{Context}
use Rattle.frame_header.specs.declared.header.Header.{Header}
use Rattle.frame_header.specs.declared.places.PartitionRange.{PartitionRange}
use Rattle.frame_header.proofs.KeyLemmas.{header_of-key}
use Rattle.pixel_planes.specs.Pictures.{PictureSamples}
use Rattle.reference_frames.specs.Steps.{decoded, decoded_by, step_of}
use Rattle.reference_frames.specs.declared.states.State.{State}
use Rattle.lossless_cuts.specs.Holds.{context_unbiased, unbiased}
use Rattle.stream_steps.proofs.Starts.{IsStart, Start, key_of_start, starts}

-- two next steps that are the same after each accepted first one
then_alike : {A B : Type 0} (Q : A → Type 0) (first : Result A Cause) (next next' : A → Result B Cause) → IfOk first Q → ((x : A) → Q x → next' x ≡ next x) → (first >>= next') ≡ (first >>= next)
then_alike Q (Ok x) next next' holds each = each x holds
then_alike Q (Err cause) next next' holds each = refl

-- the fields up to the number of token partitions pass the sign biases on
fields_unbiased : (before : Context) (r : Reader) → fields false (context_unbiased before) r ≡ (((fields false before r).0.0, context_unbiased (fields false before r).0.1), (fields false before r).1)
unfolding fields
fields_unbiased before r = refl

-- the fields after it set them
trailing_unbiased : (updates : List ℕ) (before : Context) (r : Reader) → trailing_fields false updates (context_unbiased before) r ≡ trailing_fields false updates before r
unfolding trailing_fields refreshes
trailing_unbiased updates before r = refl

always_ok : {A : Type 0} (r : Result A Cause) → IfOk r (λ x. Unit {0})
always_ok (Ok x) = tt
always_ok (Err cause) = tt

-- the header with these fields
unbiased_with : (tables : TableEntries) (before : Context) (start : Start) (r : Reader) (partitions : ArrayVec PartitionRange) → start.tag.key ≡ false
    → header_in start (fields start.tag.key (context_unbiased before) r).0 partitions (trailing_fields start.tag.key tables.updates (fields start.tag.key (context_unbiased before) r).0.1 (fields start.tag.key (context_unbiased before) r).1)
    ≡ header_in start (fields start.tag.key before r).0 partitions (trailing_fields start.tag.key tables.updates (fields start.tag.key before r).0.1 (fields start.tag.key before r).1)
unbiased_with tables before start r partitions later =
    rw (later, fields_unbiased before r, trailing_unbiased tables.updates (fields false before r).0.1 (fields false before r).1) refl

count_unbiased : (before : Context) (key : Bool) (r : Reader) → key ≡ false → (fields key (context_unbiased before) r).0.0.partition_count ≡ (fields key before r).0.0.partition_count
count_unbiased before key r later = rw (later, fields_unbiased before r) refl

after_unbiased : (tables : TableEntries) (before : Context) (packet : List ℕ) (start : Start) → start.tag.key ≡ false → header_after tables (context_unbiased before) packet start ≡ header_after tables before packet start
after_unbiased tables before packet start later =
    then_alike (λ end. Unit {0}) (first_end start packet) _ _ (always_ok (first_end start packet)) (λ end any.
    let r : Reader = started (slice_range packet start.place end) in
    ap (λ (count : ℕ). token_ranges packet end count >>= (λ partitions. let header : Result Header Cause = Ok (header_in start (fields start.tag.key (context_unbiased before) r).0 partitions (trailing_fields start.tag.key tables.updates (fields start.tag.key (context_unbiased before) r).0.1 (fields start.tag.key (context_unbiased before) r).1)) in header)) (count_unbiased before start.tag.key r later)
    ∙ then_alike (λ partitions. Unit {0}) (token_ranges packet end (fields start.tag.key before r).0.0.partition_count) _ _ (always_ok (token_ranges packet end (fields start.tag.key before r).0.0.partition_count)) (λ partitions any'. ap (λ (header : Header). let accepted : Result Header Cause = Ok header in accepted) (unbiased_with tables before start r partitions later)))

header_later : (tables : TableEntries) (before : Context) (packet : List ℕ) → has_key_tag packet ≡ false → header_of tables (Some (context_unbiased before)) packet ≡ header_of tables (Some before) packet
unfolding header_of
header_later tables before packet later =
    rw later (then_alike (IsStart (tag_of packet)) (start_of (Some before) packet) _ _ (starts (Some before) packet) (λ start is.
    after_unbiased tables before packet start (sym (key_of_start packet start is) ∙ later)))

pub header_unbiased : (tables : TableEntries) (before : Context) (packet : List ℕ) → header_of tables (Some (context_unbiased before)) packet ≡ header_of tables (Some before) packet
header_unbiased tables before packet = elim (cases_Bool (has_key_tag packet)) [
  | inl key ↦ header_of-key tables (Some (context_unbiased before)) packet key ∙ sym (header_of-key tables (Some before) packet key)
  | inr later ↦ header_later tables before packet later
]

decoded_unbiased : (tables : TableEntries) (packet : List ℕ) (header : Header) (state : State) (key : Bool)
    → decoded tables packet header (if key then None else Some (unbiased state)) ≡ decoded tables packet header (if key then None else Some state)
decoded_unbiased tables packet header state true = refl
decoded_unbiased tables packet header state false = refl

by_result : (tables : TableEntries) (packet : List ℕ) (state : State) (result : Result Header Cause) → decoded_by tables packet (Some (unbiased state)) result ≡ decoded_by tables packet (Some state) result
by_result tables packet state (Err cause) = refl
by_result tables packet state (Ok header) = ap (λ (d : State × PictureSamples). let step : Result (State × PictureSamples) Cause = Ok d in step) (decoded_unbiased tables packet header state (has_key_tag packet))

pub step_unbiased : (tables : TableEntries) (state : State) (packet : List ℕ) → (length packet == 0) ≡ false → step_of tables (Some (unbiased state)) packet ≡ step_of tables (Some state) packet
unfolding step_of
step_unbiased tables state packet bytes =
    rw bytes (ap (decoded_by tables packet (Some (unbiased state))) (header_unbiased tables state.context packet) ∙ by_result tables packet state (header_of tables (Some state.context) packet))
