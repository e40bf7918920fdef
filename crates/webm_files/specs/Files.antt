-- What a WebM or Matroska file is read as: its video as a stream and what is kept, or the first refusal.
use Rattle.std.specs.Prelude.{◌≡◌, ℕ, ◌^◌, ◌<◌, ◌≤◌, ◌||◌, ◌↔◌, Bool, true, IsTrue, List, [], ◌∷◌, nat_eq, length, drop, codes, bytes_eq, Option, Some, None, option_map, unwrap_or, Result, Ok, Err}
use Rattle.std.specs.List.{filter, starts_with}
use Rattle.stream_files.specs.declared.packets.TheConstants.{MAX_PACKETS}
use Rattle.webm_files.specs.declared.ids.TheConstants.{DEFAULT_DURATION, DOC_TYPE, EBML, ENCODINGS, INFO, TIMESTAMP_SCALE, TRACKS}
use Rattle.webm_files.specs.declared.files.TheConstants.{MAX_ELEMENTS, MAX_TRACKS}
use Rattle.webm_files.specs.declared.files.Webm.{Webm}
use Rattle.webm_files.specs.declared.files.WebmFault.{WebmFault}
use Rattle.webm_files.specs.declared.files.WebmFault.TheVariants.{Header, DocType, NoTracks, NoVideo, Encoded, Scale, TooMany, NoMemory}
use Rattle.webm_files.specs.Elements.{HasElement, id_of}
use Rattle.webm_files.specs.Walks.{Walk, IsWalk, IsCut, element_of, first_of}
use Rattle.webm_files.specs.Blocks.{content, blocks_of}
use Rattle.webm_files.specs.Children.{field, number_or, text_field}
use Rattle.webm_files.specs.Tracks.{IsHead, codec_in, entries_of, number_of, numbers_of, video_in}
use Rattle.webm_files.specs.Kept.{gaps_of, parts_of, skipped}
use Rattle.webm_files.specs.Clusters.{timeless_of}
use Rattle.webm_files.specs.Lengths.{wrong_lengths}
use Rattle.webm_files.specs.Packets.{is_packet, listed_in, packets_in, unlisted_in}

-- the error's name
abbrev pub webm_fault_word : WebmFault → List ℕ
webm_fault_word Header = codes "Header"
webm_fault_word DocType = codes "DocType"
webm_fault_word NoTracks = codes "NoTracks"
webm_fault_word NoVideo = codes "NoVideo"
webm_fault_word Encoded = codes "Encoded"
webm_fault_word Scale = codes "Scale"
webm_fault_word TooMany = codes "TooMany"
webm_fault_word NoMemory = codes "NoMemory"

-- the bytes begin with the name of such a head
abbrev pub is_marked : List ℕ → Bool
is_marked bytes = starts_with nat_eq bytes (0x1A ∷ 0x45 ∷ 0xDF ∷ 0xA3 ∷ [])

-- the file begins with the head of an EBML file
abbrev pub HasHeader : List ℕ → Type 0
HasHeader file = HasElement file × (id_of file ≡ EBML)

-- the kinds of file that are read
abbrev pub is_doc_type : List ℕ → Bool
is_doc_type text = bytes_eq text (codes "webm") || bytes_eq text (codes "matroska")

-- the head says that the file is of such a kind
abbrev pub HasDocType : List ℕ → Type 0
HasDocType file = HasHeader file × (is_doc_type (text_field DOC_TYPE (content file (element_of file 0))) ≡ true)

-- the content of the first Tracks of a file, and of its first Info, which is empty if there is none
abbrev pub tracks_of : List ℕ → Walk → Option (List ℕ)
tracks_of file walk = option_map (content file) (first_of TRACKS walk.elements)

abbrev pub info_of : List ℕ → Walk → List ℕ
info_of file walk = unwrap_or (option_map (content file) (first_of INFO walk.elements)) []

-- the nanoseconds of a unit of time
abbrev pub scale_of : List ℕ → Walk → ℕ
scale_of file walk = number_or 1000000 (field TIMESTAMP_SCALE (info_of file walk))

-- the unit of time has a rate
abbrev pub HasScale : ℕ → Type 0
HasScale scale = (0 < scale) × (scale < 2 ^ 32)

-- the codec of the first track of a file that is video, or nothing
pub record IsCodec (file : List ℕ) (codec : List ℕ) : Type 0 where
  pub walk : Walk
  pub is : IsWalk file walk
  pub found : codec ≡ codec_in (unwrap_or (tracks_of file walk) [])

-- the file has Tracks with this content
pub record HasTracks (file : List ℕ) (walk : Walk) (tracks : List ℕ) : Type 0 where
  pub doc_type : HasDocType file
  pub is : IsWalk file walk
  pub content : tracks_of file walk ≡ Some tracks

-- and this is the entry of the first track that is video of VP8
pub record HasVideo (file : List ℕ) (walk : Walk) (tracks entry : List ℕ) : Type 0 where
  pub in_tracks : HasTracks file walk tracks
  pub video : video_in tracks ≡ Some entry

-- whose packets are stored as they are
abbrev pub IsPlain : List ℕ → Type 0
IsPlain entry = field ENCODINGS entry ≡ []

-- and the unit of time has a rate: so the video is a stream
pub record HasStream (file : List ℕ) (walk : Walk) (tracks entry : List ℕ) : Type 0 where
  pub video : HasVideo file walk tracks entry
  pub plain : IsPlain entry
  pub scale : HasScale (scale_of file walk)

-- there are no more elements, tracks and packets than a file may have
pub record IsFew (file : List ℕ) (walk : Walk) (tracks entry : List ℕ) : Type 0 where
  pub elements : length walk.elements ≤ MAX_ELEMENTS
  pub entries : length (entries_of tracks) ≤ MAX_TRACKS
  pub packets : length (filter (is_packet (number_of entry)) (blocks_of file walk.elements)) ≤ MAX_PACKETS

-- what a file has besides the head of its video: packets, and what is kept
pub record HasContents (bytes : List ℕ) (walk : Walk) (tracks entry : List ℕ) (file : Webm) : Type 0 where
  pub packets : file.packets ≡ packets_in bytes (number_of entry) (blocks_of bytes walk.elements)
  pub spare : file.spare ≡ skipped (gaps_of bytes walk)
  pub video : file.media.video ≡ number_of entry
  pub duration : file.media.default_duration ≡ number_or 0 (field DEFAULT_DURATION entry)
  pub numbers : file.media.numbers ≡ numbers_of tracks
  pub blocks : file.media.blocks ≡ listed_in (numbers_of tracks) (blocks_of bytes walk.elements)
  pub unlisted : file.media.unlisted ≡ unlisted_in (numbers_of tracks) (blocks_of bytes walk.elements)
  pub gaps : file.media.gaps ≡ gaps_of bytes walk
  pub parts : file.media.parts ≡ parts_of walk.elements
  pub timeless : file.media.timeless ≡ timeless_of walk.elements
  pub lengths : file.media.lengths ≡ wrong_lengths bytes file.media.is_cut walk.elements
  pub cut : IsTrue file.media.is_cut ↔ IsCut (drop walk.end bytes)

-- the bytes are the text of a file with this stream, and this is kept of it
pub record IsWebm (bytes : List ℕ) (file : Webm) : Type 0 where
  pub walk : Walk
  pub tracks : List ℕ
  pub entry : List ℕ
  pub stream : HasStream bytes walk tracks entry
  pub few : IsFew bytes walk tracks entry
  pub head : IsHead entry (scale_of bytes walk) file.head
  pub contents : HasContents bytes walk tracks entry file

-- what each error means for the bytes: none of the earlier errors holds, and this one does
abbrev pub WebmRefuses : List ℕ → WebmFault → Type 0
WebmRefuses bytes Header = ¬ HasHeader bytes
WebmRefuses bytes DocType = HasHeader bytes × ¬ HasDocType bytes
WebmRefuses bytes NoTracks = HasDocType bytes × ((walk : Walk) × IsWalk bytes walk × (tracks_of bytes walk ≡ None))
WebmRefuses bytes NoVideo = (walk : Walk) × (tracks : List ℕ) × HasTracks bytes walk tracks × (video_in tracks ≡ None)
WebmRefuses bytes Encoded = (walk : Walk) × (tracks : List ℕ) × (entry : List ℕ) × HasVideo bytes walk tracks entry × ¬ IsPlain entry
WebmRefuses bytes Scale = (walk : Walk) × (tracks : List ℕ) × (entry : List ℕ) × HasVideo bytes walk tracks entry × IsPlain entry × ¬ HasScale (scale_of bytes walk)
WebmRefuses bytes TooMany = (walk : Walk) × (tracks : List ℕ) × (entry : List ℕ) × HasStream bytes walk tracks entry × ¬ IsFew bytes walk tracks entry
WebmRefuses bytes NoMemory = (file : Webm) × IsWebm bytes file

-- the result of reading a file
abbrev pub WebmAnswers : List ℕ → Result Webm WebmFault → Type 0
WebmAnswers bytes (Ok file) = IsWebm bytes file
WebmAnswers bytes (Err fault) = WebmRefuses bytes fault
