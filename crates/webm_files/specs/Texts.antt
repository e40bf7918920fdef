-- The text of a cluster, with lengths of four bytes.
use Rattle.std.specs.Prelude.{ℕ, ◌+◌, ◌^◌, ◌<◌, List, [], ◌∷◌, ◌++◌, length}
use Rattle.std.specs.List.{flat_map}
use Rattle.byteorder.specs.Endian.{big_bytes}
use Rattle.webm_files.specs.declared.blocks.Block.{Block}

-- the length of a content in four bytes, with the bit that marks them
abbrev pub size_text : ℕ → List ℕ
size_text size = big_bytes 4 (268435456 + size)

-- an element with a name of one byte
abbrev pub element_text : ℕ → List ℕ → List ℕ
element_text id content = id ∷ (size_text (length content) ++ content)

-- a packet that is written: its track, its time less the time of its cluster, its flags and its bytes
pub record Frame : Type 0 where
  pub track : ℕ
  pub time : ℕ
  pub flags : ℕ
  pub bytes : List ℕ

abbrev pub frame_content : Frame → List ℕ
frame_content frame = (128 + frame.track) ∷ (big_bytes 2 frame.time ++ frame.flags ∷ frame.bytes)

abbrev pub frame_text : Frame → List ℕ
frame_text frame = element_text 163 (frame_content frame)

abbrev pub time_text : ℕ → List ℕ
time_text base = element_text 231 (big_bytes 8 base)

-- a cluster: its name, its length in eight bytes, its time, and its blocks
abbrev pub cluster_text : ℕ → List Frame → List ℕ
cluster_text base frames = let content = time_text base ++ flat_map frame_text frames in
    31 ∷ 67 ∷ 182 ∷ 117 ∷ 1 ∷ (big_bytes 7 (length content) ++ content)

-- a packet fits a block of a cluster with this time
pub record FrameFits (base : ℕ) (frame : Frame) : Type 0 where
  pub track : frame.track < 127
  pub time : frame.time < 32768
  pub stamp : base + frame.time < 2 ^ 64
  pub size : length frame.bytes + 5 < 268435456

abbrev pub FramesFit : ℕ → List Frame → Type 0
FramesFit base [] = Unit {0}
FramesFit base (frame ∷ frames) = FrameFits base frame × FramesFit base frames

-- the block that a frame is read as, if its element begins at a position
abbrev pub placed : ℕ → ℕ → Frame → Block
placed at base frame = record {
  track = frame.track;
  stamp = base + frame.time;
  flags = frame.flags;
  place = at;
  start = at + 9;
  end = at + (9 + length frame.bytes);
}

abbrev pub all_placed : ℕ → ℕ → List Frame → List Block
all_placed at base [] = []
all_placed at base (frame ∷ frames) = placed at base frame ∷ all_placed (at + length (frame_text frame)) base frames
