-- A file by hand.
use Rattle.std.specs.Prelude.{ℕ, true, false, List, [], ◌∷◌, ◌++◌}
use Rattle.webm_writing.specs.Written.{Written}

-- an Info with a TimestampScale of a millisecond, and a key packet at 40 ms and another packet at 73 ms of track 1
abbrev pub tiny : Written
tiny = record {
  parts = record { id = 0x1549A966; content = 0x2A ∷ 0xD7 ∷ 0xB1 ∷ 0x83 ∷ 0x0F ∷ 0x42 ∷ 0x40 ∷ [] } ∷ [];
  most = 5000;
  samples = record { track = 1; stamp = 40; is_key = true; bytes = 0x10 ∷ 0xAA ∷ [] } ∷ record { track = 1; stamp = 73; is_key = false; bytes = 0x11 ∷ [] } ∷ [];
}

-- EBML with 52 bytes: EBMLVersion 1, EBMLReadVersion 1, EBMLMaxIDLength 4, EBMLMaxSizeLength 8, DocType `webm`, DocTypeVersion 4 and DocTypeReadVersion 2
abbrev pub tiny_header : List ℕ
tiny_header =
    0x1A ∷ 0x45 ∷ 0xDF ∷ 0xA3 ∷ 0x10 ∷ 0 ∷ 0 ∷ 52 ∷ 0x42 ∷ 0x86 ∷ 0x10 ∷ 0 ∷ 0 ∷ 1 ∷ 1 ∷ 0x42 ∷ 0xF7 ∷ 0x10 ∷ 0 ∷ 0 ∷ 1 ∷ 1 ∷ 0x42 ∷ 0xF2 ∷ 0x10 ∷ 0 ∷ 0 ∷ 1 ∷ 4 ∷ 0x42 ∷ 0xF3 ∷ 0x10 ∷ 0 ∷ 0 ∷ 1 ∷ 8
    ∷ 0x42 ∷ 0x82 ∷ 0x10 ∷ 0 ∷ 0 ∷ 4 ∷ 119 ∷ 101 ∷ 98 ∷ 109 ∷ 0x42 ∷ 0x87 ∷ 0x10 ∷ 0 ∷ 0 ∷ 1 ∷ 4 ∷ 0x42 ∷ 0x85 ∷ 0x10 ∷ 0 ∷ 0 ∷ 1 ∷ 2 ∷ []

-- Segment with 179 bytes; SeekHead with 60, which says that Info is at 68 and Cues at 129
abbrev pub tiny_seeks : List ℕ
tiny_seeks =
    0x18 ∷ 0x53 ∷ 0x80 ∷ 0x67 ∷ 1 ∷ 0 ∷ 0 ∷ 0 ∷ 0 ∷ 0 ∷ 0 ∷ 179 ∷ 0x11 ∷ 0x4D ∷ 0x9B ∷ 0x74 ∷ 0x10 ∷ 0 ∷ 0 ∷ 60
    ∷ 0x4D ∷ 0xBB ∷ 0x10 ∷ 0 ∷ 0 ∷ 24 ∷ 0x53 ∷ 0xAB ∷ 0x10 ∷ 0 ∷ 0 ∷ 4 ∷ 0x15 ∷ 0x49 ∷ 0xA9 ∷ 0x66 ∷ 0x53 ∷ 0xAC ∷ 0x10 ∷ 0 ∷ 0 ∷ 8 ∷ 0 ∷ 0 ∷ 0 ∷ 0 ∷ 0 ∷ 0 ∷ 0 ∷ 68
    ∷ 0x4D ∷ 0xBB ∷ 0x10 ∷ 0 ∷ 0 ∷ 24 ∷ 0x53 ∷ 0xAB ∷ 0x10 ∷ 0 ∷ 0 ∷ 4 ∷ 0x1C ∷ 0x53 ∷ 0xBB ∷ 0x6B ∷ 0x53 ∷ 0xAC ∷ 0x10 ∷ 0 ∷ 0 ∷ 8 ∷ 0 ∷ 0 ∷ 0 ∷ 0 ∷ 0 ∷ 0 ∷ 0 ∷ 129 ∷ []

-- Info with 7 bytes; at 83 a Cluster with 34: Timestamp 40, a SimpleBlock with 6 bytes, of which decoding can begin, 0 ms later, and one with 5 bytes, 33 ms later
abbrev pub tiny_cluster : List ℕ
tiny_cluster =
    0x15 ∷ 0x49 ∷ 0xA9 ∷ 0x66 ∷ 0x10 ∷ 0 ∷ 0 ∷ 7 ∷ 0x2A ∷ 0xD7 ∷ 0xB1 ∷ 0x83 ∷ 0x0F ∷ 0x42 ∷ 0x40 ∷ 0x1F ∷ 0x43 ∷ 0xB6 ∷ 0x75 ∷ 1 ∷ 0 ∷ 0 ∷ 0 ∷ 0 ∷ 0 ∷ 0 ∷ 34 ∷ 0xE7 ∷ 0x10 ∷ 0 ∷ 0 ∷ 8 ∷ 0 ∷ 0 ∷ 0 ∷ 0 ∷ 0 ∷ 0 ∷ 0 ∷ 40
    ∷ 0xA3 ∷ 0x10 ∷ 0 ∷ 0 ∷ 6 ∷ 0x81 ∷ 0 ∷ 0 ∷ 0x80 ∷ 0x10 ∷ 0xAA ∷ 0xA3 ∷ 0x10 ∷ 0 ∷ 0 ∷ 5 ∷ 0x81 ∷ 0 ∷ 33 ∷ 0 ∷ 0x11 ∷ []

-- Cues with 42 bytes: a CuePoint for the time 40 of track 1, with the cluster at 83
abbrev pub tiny_cues : List ℕ
tiny_cues =
    0x1C ∷ 0x53 ∷ 0xBB ∷ 0x6B ∷ 0x10 ∷ 0 ∷ 0 ∷ 42 ∷ 0xBB ∷ 0x10 ∷ 0 ∷ 0 ∷ 37 ∷ 0xB3 ∷ 0x10 ∷ 0 ∷ 0 ∷ 8 ∷ 0 ∷ 0 ∷ 0 ∷ 0 ∷ 0 ∷ 0 ∷ 0 ∷ 40 ∷ 0xB7 ∷ 0x10 ∷ 0 ∷ 0 ∷ 19 ∷ 0xF7 ∷ 0x10 ∷ 0 ∷ 0 ∷ 1 ∷ 1
    ∷ 0xF1 ∷ 0x10 ∷ 0 ∷ 0 ∷ 8 ∷ 0 ∷ 0 ∷ 0 ∷ 0 ∷ 0 ∷ 0 ∷ 0 ∷ 83 ∷ []

abbrev pub tiny_text : List ℕ
tiny_text = tiny_header ++ tiny_seeks ++ tiny_cluster ++ tiny_cues
