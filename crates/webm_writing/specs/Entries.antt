-- The parts of a file with one track of VP8, and its times (RFC 9559, sections 5.1.2 and 5.1.4).
use Rattle.std.specs.Prelude.{ℕ, ◌+◌, ◌*◌, ◌/◌, ◌==◌, if◌then◌else◌, List, [], ◌∷◌, ◌++◌, codes}
use Rattle.byteorder.specs.Endian.{big_bytes}
use Rattle.stream_files.specs.declared.streams.FrameRate.{FrameRate}
use Rattle.stream_files.specs.declared.streams.Head.{Head}
use Rattle.webm_files.specs.declared.ids.TheConstants.{CODEC_ID, DEFAULT_DURATION, ENTRY, PIXEL_HEIGHT, PIXEL_WIDTH, TIMESTAMP_SCALE, TRACK_NUMBER, TRACK_TYPE, VIDEO}
use Rattle.webm_writing.specs.Written.{child}

-- Info: the nanoseconds of a unit of time, MuxingApp and WritingApp
abbrev pub info_text : ℕ → List ℕ
info_text scale = child TIMESTAMP_SCALE 3 (big_bytes 4 scale) ++ (child 0x4D80 2 (codes "wokureti") ++ child 0x5741 2 (codes "wokureti"))

-- DefaultDuration: the nanoseconds for which a frame is shown, rounded down, but not 0
abbrev pub duration_of : FrameRate → ℕ
duration_of frames = let duration = 1000000000 * frames.scale / frames.rate in if duration == 0 then 1 else duration

-- Video: the width and the height of pictures in samples
abbrev pub video_text : Head → List ℕ
video_text head = child VIDEO 1 (child PIXEL_WIDTH 1 (big_bytes 2 head.width) ++ child PIXEL_HEIGHT 1 (big_bytes 2 head.height))

-- the entry of a track: its number and TrackUID, which are 1, its kind, which is video, FlagLacing, which is 0, and its codec
abbrev pub entry_text : Head → ℕ → List ℕ
entry_text head duration =
    child TRACK_NUMBER 1 (1 ∷ []) ++ (child 0x73C5 2 (1 ∷ []) ++ (child TRACK_TYPE 1 (1 ∷ []) ++ (child 0x9C 1 (0 ∷ []) ++ (child CODEC_ID 1 (codes "V_VP8")
    ++ (child DEFAULT_DURATION 3 (big_bytes 8 duration) ++ video_text head)))))

-- Tracks: this entry
abbrev pub tracks_text : Head → ℕ → List ℕ
tracks_text head duration = child ENTRY 1 (entry_text head duration)

-- the time in milliseconds of a stamp in units of `scale / rate` seconds: the nearest one, and the later one of two that are as near
abbrev pub time_of : Head → ℕ → ℕ
time_of head stamp = (2000 * (head.scale * stamp) + head.rate) / (2 * head.rate)
