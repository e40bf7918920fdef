-- The origins of frames of the current script.
use Rattle.std.specs.Prelude.{ℕ, ◌+◌, ◌-◌, min, nat_lt, if◌then◌else◌, List, [], ◌∷◌, ◌++◌, map, unwrap_or, slice_index}
use Rattle.std.specs.List.{range_with_len}
use Rattle.std.specs.Option.{option_map_or}
use Rattle.packet_edits.specs.Shown.{shown_indexes, stream_of}
use Rattle.packet_edits.specs.Sizes.{size_at}
use Rattle.script_nodes.specs.Frames.{traced}
use Rattle.script_nodes.specs.NodeSteps.{changed_nodes, node_steps}
use Rattle.script_nodes.specs.OriginTexts.{origin_text}
use Rattle.script_nodes.specs.declared.origins.FrameOrigin.{FrameOrigin}
use Rattle.frame_session.specs.Edits.{list_at}
use Rattle.frame_session.specs.declared.refusal.Refusal.TheVariants as refusals
use Rattle.frame_session.specs.Replies.{lines_reply, refused_line}
use Rattle.frame_session.specs.Sessions.{SessionState, frame_count, shown_counts}

-- the origin of frame n, which is this frame of this source: the packet that is shown as it
abbrev pub origin_from : SessionState → ℕ → ℕ → ℕ → FrameOrigin
origin_from now n source frame = record { frame = n; source = source; source_frame = frame; packet = slice_index (shown_indexes (stream_of (list_at now.lists source))) frame }

-- the size in the last packet with a key tag of a source, up to this packet; 0 by 0 if there is none
abbrev pub size_up_to : SessionState → ℕ → ℕ → ℕ × ℕ
size_up_to now source packet = unwrap_or (size_at (packet + 1) (list_at now.lists source)) (0, 0)

-- its object, with the nodes that change it at that size
abbrev pub origin_object : SessionState → ℕ → ℕ → ℕ → List ℕ
origin_object now n source frame =
    let from = origin_from now n source frame in
    origin_text from (changed_nodes (size_up_to now source from.packet) (node_steps (shown_counts now) now.script n))

-- the line of frame n of the script
abbrev pub origin_line : SessionState → ℕ → List ℕ
origin_line now n = option_map_or (λ from. origin_object now n from.source from.frame) (traced (shown_counts now) now.script n) [] ++ 10 ∷ []

-- the reply to `origins`: the lines of at most this many frames, starting at a frame
abbrev pub origins_answer : SessionState → ℕ → ℕ → List ℕ
origins_answer now first count =
    if nat_lt (frame_count now) first then refused_line refusals.NoSuchFrame
    else lines_reply (map (origin_line now) (range_with_len first (min count (frame_count now - first))))
