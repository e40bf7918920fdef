-- The text of a file's frames.
use Rattle.std.specs.Prelude.{◌≡◌, ℕ, Bool, if◌then◌else◌, List, [], ◌∷◌, ◌++◌, Option, Some, None}
use Rattle.std.specs.List.{flat_map}
use Rattle.std.specs.Io.KnownBytes.{Appends}
use Rattle.vp8_tables.specs.Tables.{TableEntries}
use Rattle.stream_files.specs.declared.streams.Head.{Head}
use Rattle.stream_files.specs.declared.streams.Stream.{Stream}
use Rattle.stream_checks.specs.declared.hashes.HashFault.{HashFault}
use Rattle.stream_checks.specs.declared.hashes.HashFault.TheVariants.{NoMemory, Write}
use Rattle.stream_checks.specs.declared.time_bases.TimeBase.{TimeBase}
use Rattle.stream_checks.specs.TimeBases.{IsTimeBase}
use Rattle.stream_checks.specs.HashLines.{Frame, head_lines, line_of}
use Rattle.stream_checks.specs.Frames.{frames_of}

-- the lines before these frames: they name the size of the first frame, or the file's if there is none
abbrev pub head_of : Head → TimeBase → List Frame → List ℕ
head_of head base [] = head_lines base head.width head.height
head_of head base (frame ∷ frames) = head_lines base frame.picture.width frame.picture.height

-- the text of these frames
abbrev pub text_of : Head → TimeBase → List Frame → List ℕ
text_of head base frames = head_of head base frames ++ flat_map line_of frames

-- the text that a packet adds: none without a frame; else the line of its frame, after the head lines if it is the first
abbrev pub added_by : TimeBase → Bool → Option Frame → List ℕ
added_by base has_begun None = []
added_by base has_begun (Some frame) = (if has_begun then [] else head_lines base frame.picture.width frame.picture.height) ++ line_of frame

-- the output gained the text of the file's frames
pub record IsHashed (tables : TableEntries) (file : Stream) (output output' : Option (List ℕ)) : Type 0 where
  pub base : TimeBase
  pub unit : IsTimeBase file.head base
  pub written : Appends output output' (text_of file.head base (frames_of tables file.packets))

-- the output gained the front of that text
pub record IsCut (tables : TableEntries) (file : Stream) (output output' : Option (List ℕ)) : Type 0 where
  pub base : TimeBase
  pub unit : IsTimeBase file.head base
  pub gained : List ℕ
  pub rest : List ℕ
  pub front : text_of file.head base (frames_of tables file.packets) ≡ gained ++ rest
  pub written : Appends output output' gained

-- after an error: if memory ran out, the output gained the front of the text; if the writer failed, the writer alone knows what it gained
abbrev pub IsHashFault : TableEntries → Stream → Option (List ℕ) → Option (List ℕ) → HashFault → Type 0
IsHashFault tables file output output' NoMemory = IsCut tables file output output'
IsHashFault tables file output output' Write = Unit {0}
