-- A packet without a key tag restores the probabilities that it does not refresh.
use Rattle.std.proofs.Common.{◌≡◌, ℕ, Bool, false, List, Some, Result, IfOk, refl}
use Rattle.vp8_tables.specs.Tables.{TableEntries}
use Rattle.frame_header.specs.Tags.{has_key_tag}
use Rattle.frame_header.specs.Contexts.{first_context}
use Rattle.frame_header.specs.Start.{start_of}
use Rattle.frame_header.specs.Fields.{fields}
use Rattle.frame_header.specs.Places.{token_ranges}
use Rattle.frame_header.specs.Header.{◌>>=◌, first_end, header_after, header_of}
use Rattle.frame_header.specs.declared.cause.Cause.{Cause}
use Rattle.frame_header.specs.declared.context.Context.{Context}
use Rattle.frame_header.specs.declared.header.Header.{Header}
use Rattle.frame_header.specs.declared.start.Start.{Start}
use Rattle.frame_header.proofs.KeyLemmas.{IfOk-then}

-- a header without refresh_entropy leaves the probabilities of a context
abbrev LeavesProbabilities : Context → Header → Type 0
LeavesProbabilities before header = header.refreshes_entropy ≡ false → header.context_after.probabilities ≡ before.probabilities

leaves_probabilities : (tables : TableEntries) (before : Context) (packet : List ℕ) (first : Result Start Cause) → IfOk (first >>= header_after tables before packet) (LeavesProbabilities before)
unfolding fields
leaves_probabilities tables before packet first =
    let P : Header → Type 0 = LeavesProbabilities before in
    IfOk-then P first _ (λ start. IfOk-then P (first_end start packet) _ (λ end. IfOk-then P (token_ranges packet end _) _ (λ partitions. λ stays. rw stays refl)))

first_context-before : (tables : TableEntries) (before : Context) (is_key : Bool) → is_key ≡ false → first_context tables is_key (Some before) ≡ before
first_context-before tables before is_key tagged = rw tagged refl

pub header_of-probabilities : (tables : TableEntries) (before : Context) (packet : List ℕ) → has_key_tag packet ≡ false → IfOk (header_of tables (Some before) packet) (LeavesProbabilities before)
unfolding header_of
header_of-probabilities tables before packet tagged =
    let begun : first_context tables (has_key_tag packet) (Some before) ≡ before = first_context-before tables before (has_key_tag packet) tagged in
    rw begun (leaves_probabilities tables before packet (start_of (Some before) packet))
