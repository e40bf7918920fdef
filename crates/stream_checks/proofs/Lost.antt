-- The packets that are lost after a break.
use Rattle.std.proofs.Common.{◌≡◌, ℕ, zero, suc, ◌+◌, ◌<◌, Bool, true, false, not, cond, List, [], ◌∷◌, slice_get, Some, None, Err, refl, arith}
use Rattle.std.specs.Prelude.{if◌then◌else◌}
use Rattle.vp8_tables.specs.declared.tables.Tables.{Tables}
use Rattle.frame_header.specs.Tags.{has_key_tag}
use Rattle.reference_frames.specs.Steps.{step_of}
use Rattle.stream_files.specs.declared.packets.Packet.{Packet}
use Rattle.stream_steps.specs.declared.broken.Broken.{Broken}
use Rattle.stream_steps.specs.Decoding.{Outcome, Progress, left_by, outcomes_from, reported_at}
use Rattle.stream_checks.specs.Packets.{bytes_of, lost_after}

-- one packet after a break, by whether it has a key tag
lost_by_key : (key : Bool) (broken : Broken) (stepped : Outcome) (more : Progress → List Outcome) (count j : ℕ)
    → ((k : ℕ) → k < count → slice_get (more (Err broken)) k ≡ Some (Err broken))
    → j < cond (not key) (1 + count) 0
    → slice_get ((if key then stepped else Err broken) ∷ more (left_by (if key then stepped else Err broken))) j ≡ Some (Err broken)
lost_by_key true broken stepped more count j rest within = absurd (omega arith)
lost_by_key false broken stepped more count zero rest within = refl
lost_by_key false broken stepped more count (suc j) rest within = rest j (omega arith)

pub lost_broken : (tables : Tables) (place : ℕ) (broken : Broken) (rest : List Packet) (j : ℕ) → j < lost_after rest
    → slice_get (outcomes_from tables place (Err broken) (bytes_of rest)) j ≡ Some (Err broken)
lost_broken tables place broken [] j within = absurd (omega arith)
lost_broken tables place broken (packet ∷ rest) j within =
    let stepped : Outcome = reported_at place (step_of tables None packet.bytes) in
    lost_by_key (has_key_tag packet.bytes) broken stepped (λ (progress : Progress). outcomes_from tables (place + 1) progress (bytes_of rest)) (lost_after rest) j (lost_broken tables (place + 1) broken rest) within
