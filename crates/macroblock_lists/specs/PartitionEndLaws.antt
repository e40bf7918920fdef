-- What the bytes past an end and the unread bytes count, as laws.
use Rattle.std.specs.Prelude.{◌≡◌, ℕ, ◌+◌, ◌-◌, ◌*◌, ◌/◌, min, List, [], length}
use Rattle.bool_coder.specs.Chains.{Chain, run}
use Rattle.bool_coder.specs.Reader.{read, started}
use Rattle.bool_coder.specs.Taken.{marked, past_end, taken_from}
use Rattle.macroblock_lists.specs.PartitionEnds.{bytes_past, bytes_unread}

-- of a text of one byte or more: the bits that a chain of reads takes in after its end, in bytes
abbrev pub CountsBits : Type 0 → List ℕ → Type 0
CountsBits T bytes =
    (chain : Chain T) (zeros : ℕ) →
    bytes_past zeros (length bytes) (length (run read chain (started (marked zeros bytes))).1.rest) ≡ min zeros ((past_end chain bytes + 7) / 8)

-- and of an empty text: without the eight bits that are in its window before the first is read
abbrev pub CountsBitsOfNone : Type 0 → Type 0
CountsBitsOfNone T =
    (chain : Chain T) (zeros : ℕ) →
    bytes_past zeros 0 (length (run read chain (started (marked zeros []))).1.rest) ≡ min zeros ((past_end chain [] - 8 + 7) / 8)

-- the whole bytes of a text that a chain of reads does not take in
abbrev pub CountsUnread : Type 0 → List ℕ → Type 0
CountsUnread T bytes =
    (chain : Chain T) (zeros : ℕ) →
    bytes_unread zeros (length bytes) (length (run read chain (started (marked zeros bytes))).1.rest)
    ≡ min (length bytes) ((8 * length bytes - taken_from chain bytes) / 8)
