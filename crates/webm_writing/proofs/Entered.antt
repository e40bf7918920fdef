-- The parts of a file with one track as they are written.
use Rattle.std.proofs.Common.{ℕ, List, [], ◌∷◌, ◌++◌, Option, codes}
use Rattle.std.specs.Io.KnownBytes.{Appends}
use Rattle.byteorder.specs.Endian.{big_bytes}
use Rattle.stream_files.specs.declared.streams.Head.{Head}
use Rattle.webm_writing.specs.Entries.{info_text, tracks_text, video_text}
use Rattle.webm_writing.specs.Written.{child}
use Rattle.webm_writing.proofs.Composed.{appends_then}

abbrev pub apps : List ℕ
apps = child 0x4D80 2 (codes "wokureti") ++ child 0x5741 2 (codes "wokureti")

pub info_written : (a b c d : Option (List ℕ)) (scale : ℕ) → Appends a b (42 ∷ 215 ∷ 177 ∷ 16 ∷ 0 ∷ 0 ∷ 4 ∷ []) → Appends b c (big_bytes 4 scale) → Appends c d apps → Appends a d (info_text scale)
info_written a b c d scale p q r = appends_then a b d (42 ∷ 215 ∷ 177 ∷ 16 ∷ 0 ∷ 0 ∷ 4 ∷ []) (big_bytes 4 scale ++ apps) p (appends_then b c d (big_bytes 4 scale) apps q r)

pub video_written : (a b c d e : Option (List ℕ)) (head : Head) → Appends a b (224 ∷ 16 ∷ 0 ∷ 0 ∷ 14 ∷ 176 ∷ 16 ∷ 0 ∷ 0 ∷ 2 ∷ []) → Appends b c (big_bytes 2 head.width) → Appends c d (186 ∷ 16 ∷ 0 ∷ 0 ∷ 2 ∷ [])
    → Appends d e (big_bytes 2 head.height) → Appends a e (video_text head)
video_written a b c d e head p q r s =
    let first : List ℕ = 224 ∷ 16 ∷ 0 ∷ 0 ∷ 14 ∷ 176 ∷ 16 ∷ 0 ∷ 0 ∷ 2 ∷ [] in
    let second : List ℕ = 186 ∷ 16 ∷ 0 ∷ 0 ∷ 2 ∷ [] in
    appends_then a b e first (big_bytes 2 head.width ++ (second ++ big_bytes 2 head.height)) p (
    appends_then b c e (big_bytes 2 head.width) (second ++ big_bytes 2 head.height) q (appends_then c d e second (big_bytes 2 head.height) r s)
    )

-- all of the entry before the duration
abbrev pub track_start : List ℕ
track_start =
    174 ∷ 16 ∷ 0 ∷ 0 ∷ 69 ∷ 215 ∷ 16 ∷ 0 ∷ 0 ∷ 1 ∷ 1 ∷ 115 ∷ 197 ∷ 16 ∷ 0 ∷ 0 ∷ 1 ∷ 1 ∷ 131 ∷ 16 ∷ 0 ∷ 0 ∷ 1 ∷ 1 ∷ 156 ∷ 16 ∷ 0 ∷ 0 ∷ 1 ∷ 0 ∷ 134 ∷ 16 ∷ 0 ∷ 0 ∷ 5 ∷ 86 ∷ 95 ∷ 86 ∷ 80 ∷ 56 ∷ 35 ∷ 227 ∷ 131 ∷ 16 ∷ 0 ∷ 0 ∷ 8 ∷ []

pub tracks_written : (a b c d : Option (List ℕ)) (head : Head) (duration : ℕ) → Appends a b track_start → Appends b c (big_bytes 8 duration) → Appends c d (video_text head) → Appends a d (tracks_text head duration)
tracks_written a b c d head duration p q r = appends_then a b d track_start (big_bytes 8 duration ++ video_text head) p (appends_then b c d (big_bytes 8 duration) (video_text head) q r)
