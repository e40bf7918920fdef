-- All frames of an export.
use Rattle.std.proofs.Common.{◌≡◌, ℕ, List, [], ◌∷◌, Option, Some, None, refl, subst}
use Rattle.vp8_tables.specs.declared.tables.Tables.{Tables}
use Rattle.frame_header.specs.Outlines.{OutlinesAreHeaders}
use Rattle.frame_header.specs.Padding.{ShownIsKept}
use Rattle.pixel_planes.specs.Pictures.{PictureSamples}
use Rattle.packet_forge.specs.Laws.{AreUpdates}
use Rattle.reference_frames.specs.StepLaws.{PaddingKeepsSteps}
use Rattle.reference_frames.specs.declared.states.State.{State}
use Rattle.lossless_cuts.specs.Exports.{AreDecoded, IsDecoded}
use Rattle.lossless_cuts.specs.Laws.{ExportsShowTheirFrames}
use Rattle.lossless_cuts.specs.declared.targets.Target.{Target}
use Rattle.lossless_cuts.specs.Plans.{exported, frame_packets, stream_at}
use Rattle.lossless_cuts.proofs.Frames.{After, Knows, Shown, frame_shown}
use Rattle.lossless_cuts.proofs.Leads.{Laws, Like}
use Rattle.lossless_cuts.proofs.PaddedExports.{padded_shows}
use Rattle.lossless_cuts.proofs.Plays.{Plays, plays_append, shows_exactly}

-- the packets play, and there is a state after them
record PlaysAll (tables : Tables) (own : Option State) (packets : List (List ℕ)) (pictures : List PictureSamples) : Type 0 where
  after : Option State
  plays : Plays tables own packets pictures after

-- the export's state is like the one after the frame before
abbrev Follows : Tables → List (List (List ℕ)) → Option State → Option Target → Type 0
Follows tables streams own before = (b : Target) → before ≡ Some b → After tables own (stream_at streams b.source) b

known : (tables : Tables) (streams : List (List (List ℕ))) (own : Option State) (before : Option Target) (target : Target) → Follows tables streams own before → Knows tables own (stream_at streams target.source) before target
known tables streams own before target follows b is source = subst (λ (s : ℕ). After tables own (stream_at streams s) b) source (follows b is)

same_target : (target b : Target) → ◌≡◌ {A = Option Target} (Some target) (Some b) → target ≡ b
same_target target b e = cc

after_shown : (tables : Tables) (streams : List (List (List ℕ))) (target : Target) (own : Option State) (picture : PictureSamples) (h : IsDecoded tables (stream_at streams target.source) target picture) → Like own (Some h.state) → Follows tables streams own (Some target)
after_shown tables streams target own picture h like b is =
    let here : After tables own (stream_at streams target.source) target = record { e = (h.state, picture); accepted = h.accepted; like = like } in
    subst (λ (t : Target). After tables own (stream_at streams t.source) t) (same_target target b is) here

plays_all : Laws → OutlinesAreHeaders → (tables : Tables) (streams : List (List (List ℕ))) (own : Option State) (before : Option Target) (targets : List Target) (pictures : List PictureSamples) → AreUpdates tables → AreDecoded tables streams targets pictures → Follows tables streams own before
    → PlaysAll tables own (exported tables streams before targets) pictures
plays_all laws outlines tables streams own before [] [] updates decoded follows = record { after = own; plays = (refl, refl) }
plays_all laws outlines tables streams own before [] (picture ∷ pictures) updates decoded follows = absurd decoded
plays_all laws outlines tables streams own before (target ∷ targets) [] updates decoded follows = absurd decoded
plays_all laws outlines tables streams own before (target ∷ targets) (picture ∷ pictures) updates decoded follows =
    let packets : List (List ℕ) = stream_at streams target.source in
    let first : Shown tables own (frame_packets tables (stream_at streams target.source) before target) picture decoded.0.state = frame_shown laws outlines tables own packets before target picture updates decoded.0 (known tables streams own before target follows) in
    let rest : PlaysAll tables first.last (exported tables streams (Some target) targets) pictures = plays_all laws outlines tables streams first.last (Some target) targets pictures updates decoded.1 (after_shown tables streams target first.last picture decoded.0 first.like) in
    record { after = rest.after; plays = plays_append tables own first.last rest.after (frame_packets tables (stream_at streams target.source) before target) (exported tables streams (Some target) targets) (picture ∷ []) pictures first.plays rest.plays }

none_before : (tables : Tables) (streams : List (List (List ℕ))) (own : Option State) → Follows tables streams own None
none_before tables streams own b is = cc

pub exports_show_their_frames : Laws → OutlinesAreHeaders → PaddingKeepsSteps → ShownIsKept → (tables : Tables) → AreUpdates tables → ExportsShowTheirFrames tables
exports_show_their_frames laws outlines pads kept tables updates streams targets pictures decoded =
    let all : PlaysAll tables None (exported tables streams None targets) pictures = plays_all laws outlines tables streams None None targets pictures updates decoded (none_before tables streams None) in
    padded_shows pads kept tables (exported tables streams None targets) pictures (shows_exactly laws.keys tables all.after (exported tables streams None targets) pictures all.plays)
