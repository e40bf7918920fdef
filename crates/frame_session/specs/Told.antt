-- What the observer of a run is given.
use Rattle.std.specs.Prelude.{◌≡◌, ℕ, ◌+◌, Bool, false, List, Option, Some, None, codes, length, nat_eq, option_and_then, option_map, slice_get}
use Rattle.std.specs.List.{starts_with}
use Rattle.std.specs.Io.KnownBytes.{Appends}
use Rattle.packet_edits.specs.Shown.{shown_indexes, stream_of}
use Rattle.packet_edits.specs.Sizes.{size_at}
use Rattle.script_nodes.specs.Frames.{Origin, traced}
use Rattle.script_nodes.specs.Shown.{steps_size}
use Rattle.frame_session.specs.declared.refusal.Refusal.{Refusal}
use Rattle.frame_session.specs.Edits.{list_at}
use Rattle.frame_session.specs.Replies.{refused_line}
use Rattle.frame_session.specs.Sessions.{SessionState, shown_counts}

-- whether a reply is a refusal
abbrev pub is_refusal : List ℕ → Bool
is_refusal reply = starts_with nat_eq reply (codes "refused ")

-- the refusal is the one that the reply reports: the replies gained its line; without one they gained a reply that is not a refusal, or nothing
abbrev pub Tells : (replies replies' : Option (List ℕ)) → Option Refusal → Type 0
Tells replies replies' None = (reply : List ℕ) × Appends replies replies' reply × (is_refusal reply ≡ false)
Tells replies replies' (Some refusal) = Appends replies replies' (refused_line refusal)

-- the number of bytes of the packet at an index of a source, if there is one
abbrev pub packet_len : SessionState → ℕ → ℕ → Option ℕ
packet_len now source place = option_map length (slice_get (stream_of (list_at now.lists source)) place)

-- the number of packets of a source; 0 if there is no such source
abbrev pub packets_in : SessionState → ℕ → ℕ
packets_in now source = length (list_at now.lists source).entries

-- the size of a frame with this origin: that of the last key packet up to its own, after the crops
abbrev pub size_from : SessionState → Origin → Option (ℕ × ℕ)
size_from now from =
    let list = list_at now.lists from.source in
    option_and_then (λ place. option_and_then (steps_size from.steps) (size_at (place + 1) list)) (slice_get (shown_indexes (stream_of list)) from.frame)

-- the size of frame n of the current script, by the key packets and the crops
abbrev pub stated_size : SessionState → ℕ → Option (ℕ × ℕ)
stated_size now n = option_and_then (size_from now) (traced (shown_counts now) now.script n)
