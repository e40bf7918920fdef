-- The format of a file that is given for a file that is read, and the message that names it and the command that converts it.
use Rattle.std.specs.Prelude.{ℕ, Bool, ◌&&◌, nat_eq, if◌then◌else◌, List, ◌++◌, codes, drop, Option, Some, None}
use Rattle.std.specs.List.{starts_with}
use Rattle.command_lines.specs.InLine.{in_line}
use Rattle.command_lines.specs.declared.formats.Format.{Format}
use Rattle.command_lines.specs.declared.formats.Format.TheVariants.{Mp4, Avi, Y4m}

-- a box `ftyp`, after its size
abbrev pub is_mp4 : List ℕ → Bool
is_mp4 bytes = starts_with nat_eq (drop 4 bytes) (codes "ftyp")

-- a RIFF file of the form AVI
abbrev pub is_avi : List ℕ → Bool
is_avi bytes = starts_with nat_eq bytes (codes "RIFF") && starts_with nat_eq (drop 8 bytes) (codes "AVI ")

abbrev pub is_y4m : List ℕ → Bool
is_y4m bytes = starts_with nat_eq bytes (codes "YUV4MPEG2")

-- the format of a file that begins with these bytes
abbrev pub format_of : List ℕ → Option Format
format_of bytes =
    if is_mp4 bytes then Some Mp4
    else if is_avi bytes then Some Avi
    else if is_y4m bytes then Some Y4m
    else None

-- of a container whose video may be VP8: the command that copies it, and the one that codes it again
abbrev pub copy_text : List ℕ → List ℕ → List ℕ
copy_text path name = in_line path ++ codes " is " ++ name ++ codes "; if its video is VP8: ffmpeg -i " ++ in_line path ++ codes " -an -c copy out.ivf\n"

abbrev pub around_text : List ℕ → List ℕ → List ℕ → List ℕ
around_text start path end = start ++ in_line path ++ end

abbrev pub coding_text : List ℕ → List ℕ
coding_text path = around_text (codes "any other video has to be coded again, which changes each frame: ffmpeg -i ") path (codes " -an -c:v libvpx out.ivf\n")

abbrev pub container_text : List ℕ → List ℕ → List ℕ
container_text path name = copy_text path name ++ coding_text path

-- of a file that one command converts
abbrev pub line_text : List ℕ → List ℕ → List ℕ → List ℕ
line_text path name options = in_line path ++ codes " is " ++ name ++ codes ": ffmpeg -i " ++ in_line path ++ codes " " ++ options ++ codes " out.ivf\n"

-- the message for a file with this path
abbrev pub format_text : List ℕ → Format → List ℕ
format_text path Mp4 = container_text path (codes "an MP4 file")
format_text path Avi = container_text path (codes "an AVI file")
format_text path Y4m = line_text path (codes "a YUV4MPEG2 file, whose frames are not coded") (codes "-c:v libvpx")
