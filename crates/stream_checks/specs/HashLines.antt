-- The lines of ffmpeg's muxer `framemd5`, version 2, for one stream of raw video.
use Rattle.std.specs.Prelude.{ℕ, ◌-◌, List, ◌++◌, codes, length, replicate}
use Rattle.std.specs.Fmt.{decimal}
use Rattle.hex.specs.Hex.{encode_lower}
use Rattle.md5.specs.Md5.{md5}
use Rattle.pixel_planes.specs.Pictures.{PictureSamples, shown_plane}
use Rattle.pixel_planes.specs.declared.pictures.Component.TheVariants.{Luma, Cb, Cr}
use Rattle.stream_checks.specs.declared.time_bases.TimeBase.{TimeBase}

-- a shown frame that decodes: the time stamp of its packet, and its picture
pub record Frame : Type 0 where
  pub stamp : ℕ
  pub picture : PictureSamples

-- the shown samples of the three planes by rows: the frame's YUV4MPEG2 text after its mark
abbrev pub samples_of : PictureSamples → List ℕ
samples_of picture = shown_plane picture Luma ++ shown_plane picture Cb ++ shown_plane picture Cr

-- a number after the spaces that make its text at least this long
abbrev pub right_aligned : ℕ → ℕ → List ℕ
right_aligned width n = replicate (width - length (decimal n)) 32 ++ decimal n

-- the lines before the frames: the format, the time base, the size, no sample aspect ratio, and the names of the columns
abbrev pub head_lines : TimeBase → ℕ → ℕ → List ℕ
head_lines base width height =
    codes "#format: frame checksums\n#version: 2\n#hash: MD5\n#tb 0: " ++ decimal base.numerator ++ codes "/" ++ decimal base.denominator
    ++ codes "\n#media_type 0: video\n#codec_id 0: rawvideo\n#dimensions 0: " ++ decimal width ++ codes "x" ++ decimal height
    ++ codes "\n#sar 0: 0/1\n#stream#, dts,        pts, duration,     size, hash\n"

-- a number in a column of this width, and a comma
abbrev pub number_column : ℕ → ℕ → List ℕ
number_column width n = right_aligned width n ++ codes ", "

-- stream 0, the time stamp for decoding and for showing, and a duration of 1
abbrev pub time_columns : ℕ → List ℕ
time_columns stamp = codes "0, " ++ number_column 10 stamp ++ number_column 10 stamp ++ codes "       1, "

-- the number of bytes of a frame's samples, and their MD5
abbrev pub sample_columns : List ℕ → List ℕ
sample_columns samples = number_column 8 (length samples) ++ encode_lower (md5 samples) ++ codes "\n"

abbrev pub line_of : Frame → List ℕ
line_of frame = time_columns frame.stamp ++ sample_columns (samples_of frame.picture)
