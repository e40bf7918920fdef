-- The entries of Tracks, and the track of the video.
use Rattle.std.specs.Prelude.{◌≡◌, ℕ, ◌/◌, ◌%◌, ◌^◌, ◌==◌, Bool, List, [], map, codes, bytes_eq, Option, option_map, unwrap_or}
use Rattle.std.specs.List.{filter, find}
use Rattle.std.specs.Int.{IsGcd}
use Rattle.stream_files.specs.declared.streams.Head.{Head}
use Rattle.webm_files.specs.declared.ids.TheConstants.{CODEC_ID, ENTRY, PIXEL_HEIGHT, PIXEL_WIDTH, TRACK_NUMBER, TRACK_TYPE, VIDEO}
use Rattle.webm_files.specs.Children.{Child, children, field, number_or, text_field}

-- the entries among some children
abbrev pub entries_in : List Child → List (List ℕ)
entries_in children = map (λ child. child.content) (filter (λ child. child.id == ENTRY) children)

-- the entries of Tracks: one for each track
abbrev pub entries_of : List ℕ → List (List ℕ)
entries_of tracks = entries_in (children tracks)

-- a track is video of VP8
abbrev pub is_video : List ℕ → Bool
is_video entry = bytes_eq (text_field CODEC_ID entry) (codes "V_VP8")

-- the entry of the first such track
abbrev pub video_in : List ℕ → Option (List ℕ)
video_in tracks = find is_video (entries_of tracks)

-- a track is video
abbrev pub is_picture : List ℕ → Bool
is_picture entry = number_or 0 (field TRACK_TYPE entry) == 1

-- the codec of the first such track, or nothing
abbrev pub codec_in : List ℕ → List ℕ
codec_in tracks = unwrap_or (option_map (text_field CODEC_ID) (find is_picture (entries_of tracks))) []

-- the number of a track, which its blocks have
abbrev pub number_of : List ℕ → ℕ
number_of entry = number_or 0 (field TRACK_NUMBER entry)

abbrev pub numbers_of : List ℕ → List ℕ
numbers_of tracks = map number_of (entries_of tracks)

-- a fraction is a / b in lowest terms
pub record IsLowest (rate scale : ℕ) (a b : ℕ) : Type 0 where
  pub common : ℕ
  pub divisor : IsGcd a b common
  pub first : rate ≡ a / common
  pub second : scale ≡ b / common

-- the head of a track, if a unit of time has so many nanoseconds: the size of its pictures, as 16 bits, and the number of units in a second
pub record IsHead (entry : List ℕ) (scale : ℕ) (head : Head) : Type 0 where
  pub width : head.width ≡ number_or 0 (field PIXEL_WIDTH (field VIDEO entry)) % 2 ^ 16
  pub height : head.height ≡ number_or 0 (field PIXEL_HEIGHT (field VIDEO entry)) % 2 ^ 16
  pub rate : IsLowest head.rate head.scale 1000000000 scale
