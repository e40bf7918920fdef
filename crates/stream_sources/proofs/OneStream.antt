-- Bytes have one stream, with few packets, and at most one error.
use Rattle.std.proofs.Common.{◌≡◌, ℕ, ◌≤◌, Bool, true, false, List, Option, None, length, unwrap_or, sym, ap, subst, refl, ◌∙◌, ◌↔◌}
use Rattle.std.proofs.lemmas.List.{length-map}
use Rattle.std.specs.List.{filter}
use Rattle.std.specs.Option.{ForSome}
use Rattle.stream_files.specs.declared.packets.Packet.{Packet}
use Rattle.stream_files.specs.declared.streams.Stream.{Stream}
use Rattle.stream_files.specs.declared.ivf.IvfFault.{IvfFault}
use Rattle.stream_files.specs.declared.ivf.IvfFault.TheVariants as ivf
use Rattle.stream_files.specs.Ivf.{IsIvf, IvfRefuses}
use Rattle.stream_files.proofs.OneAnswer as ivf_answers
use Rattle.webm_files.specs.declared.files.Webm.{Webm}
use Rattle.webm_files.specs.declared.files.WebmFault.{WebmFault}
use Rattle.webm_files.specs.declared.files.WebmFault.TheVariants as webm
use Rattle.webm_files.specs.Blocks.{blocks_of}
use Rattle.webm_files.specs.Tracks.{number_of}
use Rattle.webm_files.specs.Packets.{is_packet, packet_of}
use Rattle.webm_files.specs.Files.{is_marked}
use Rattle.webm_files.specs.Media.{IsFewKept, Kept}
use Rattle.webm_files.proofs.OneFile.{one_file, one_fault}
use Rattle.webm_files.proofs.NotIvf.{not_marked}
use Rattle.webm_files.proofs.FewKept.{few_kept}
use Rattle.stream_sources.specs.declared.faults.StreamFault.{StreamFault}
use Rattle.stream_sources.specs.declared.faults.StreamFault.TheVariants.{NoMemory}
use Rattle.stream_sources.specs.Faults.{RefusedBy, StreamRefuses, of_ivf, of_webm}
use Rattle.stream_sources.specs.declared.sources.Source.{Source}
use Rattle.stream_sources.specs.Sources.{IsIvfSource, IsIvfStream, IsPlausible, IsRated, IsSource, IsSourceBy, IsStream, IsStreamBy}

-- ---- IVF files

pub ivf_is_stream : (bytes : List ℕ) (file stream : Stream) → IsIvf bytes file → IsRated file stream → IsStream bytes stream
ivf_is_stream bytes file stream is rated = subst (λ (marked : Bool). IsStreamBy marked bytes stream) (sym (not_marked bytes file is)) (file, is, rated)

-- with a time base that can be a frame rate it is read as it is
rated_as_it_is : (bytes : List ℕ) (file : Stream) → IsIvf bytes file → IsPlausible file.head → IsRated file file
rated_as_it_is bytes file is plausible = record { head = refl; packets = refl; spare = refl; frame_rate = record { by_base = λ p. is.frame_rate; by_step = λ not. absurd (not plausible) } }

pub plausible_is_stream : (bytes : List ℕ) (file : Stream) → IsIvf bytes file → IsPlausible file.head → IsStream bytes file
plausible_is_stream bytes file is plausible = ivf_is_stream bytes file file is (rated_as_it_is bytes file is plausible)

pub stream_is_ivf : (bytes : List ℕ) (stream : Stream) → is_marked bytes ≡ false → IsStream bytes stream ↔ IsIvfStream bytes stream
stream_is_ivf bytes stream not = (λ is. subst (λ (marked : Bool). IsStreamBy marked bytes stream) not is, λ is. subst (λ (marked : Bool). IsStreamBy marked bytes stream) (sym not) is)

-- the same stream, if its frame rate is the same
same_rate : (file stream : Stream) → IsRated file stream → stream.frame_rate ≡ file.frame_rate → file ≡ stream
same_rate file stream rated same =
    ivf_answers.same_file file.head stream.head file.frame_rate stream.frame_rate file.packets stream.packets file.spare stream.spare (sym rated.head) (sym same) (sym rated.packets) (sym rated.spare)

pub plausible_is_ivf : (bytes : List ℕ) (stream : Stream) → is_marked bytes ≡ false → IsStream bytes stream → IsPlausible stream.head → IsIvf bytes stream
plausible_is_ivf bytes stream not is plausible =
    let found = (stream_is_ivf bytes stream not).0 is in
    let of_file : IsPlausible found.0.head = subst IsPlausible found.2.head plausible in
    subst (IsIvf bytes) (same_rate found.0 stream found.2 (found.2.frame_rate.by_base of_file ∙ sym found.1.frame_rate)) found.1

pub refused_as_ivf : (bytes : List ℕ) (fault : IvfFault) → is_marked bytes ≡ false → IvfRefuses bytes fault → StreamRefuses bytes (of_ivf fault)
refused_as_ivf bytes fault not refuses = subst (λ (marked : Bool). RefusedBy marked bytes (of_ivf fault)) (sym not) (fault, refl, refuses)

-- ---- what is read with what is kept

stream_by : (marked : Bool) (bytes : List ℕ) (source : Source) → IsSourceBy marked bytes source → IsStreamBy marked bytes source.stream
stream_by true bytes source is = (is.0, is.1, is.2)
stream_by false bytes source is = is.0

pub source_is_stream : (bytes : List ℕ) (source : Source) → IsSource bytes source → IsStream bytes source.stream
source_is_stream bytes source is = stream_by (is_marked bytes) bytes source is

ivf_by : (marked : Bool) (bytes : List ℕ) (source : Source) → IsSourceBy marked bytes source → source.media ≡ None → IsIvfStream bytes source.stream
ivf_by true bytes source is none = cc
ivf_by false bytes source is none = is.0

pub source_is_ivf : (bytes : List ℕ) (source : Source) → IsSource bytes source → source.media ≡ None → IsIvfStream bytes source.stream
source_is_ivf bytes source is none = ivf_by (is_marked bytes) bytes source is none

-- and they have a header of 32 bytes
pub ivf_has_fields : (bytes : List ℕ) (source : Source) → IsSource bytes source → source.media ≡ None → 32 ≤ length bytes
ivf_has_fields bytes source is none = (source_is_ivf bytes source is none).1.header.0

pub other_source_is_ivf : (bytes : List ℕ) (source : Source) → is_marked bytes ≡ false → IsSource bytes source ↔ IsIvfSource bytes source
other_source_is_ivf bytes source not = (λ is. subst (λ (marked : Bool). IsSourceBy marked bytes source) not is, λ is. subst (λ (marked : Bool). IsSourceBy marked bytes source) (sym not) is)

-- ---- few packets

few_by : (marked : Bool) (bytes : List ℕ) (stream : Stream) → IsStreamBy marked bytes stream → length stream.packets ≤ 1048576
few_by true bytes stream is =
    let few : length (filter (is_packet (number_of is.1.entry)) (blocks_of bytes is.1.walk.elements)) ≤ 1048576 = is.1.few.packets in
    subst (λ (n : ℕ). n ≤ 1048576) (sym (ap length (is.2.packets ∙ is.1.contents.packets) ∙ length-map (filter (is_packet (number_of is.1.entry)) (blocks_of bytes is.1.walk.elements)) (packet_of bytes))) few
few_by false bytes stream is = subst (λ (packets : List Packet). length packets ≤ 1048576) (sym is.2.packets) is.1.few

pub few : (bytes : List ℕ) (stream : Stream) → IsStream bytes stream → length stream.packets ≤ 1048576
few bytes stream is = few_by (is_marked bytes) bytes stream is

pub source_few : (bytes : List ℕ) (source : Source) → IsSource bytes source → length source.stream.packets ≤ 1048576
source_few bytes source is = few bytes source.stream (source_is_stream bytes source is)

-- little is kept of a WebM file
kept_by : (marked : Bool) (bytes : List ℕ) (source : Source) → IsSourceBy marked bytes source → ForSome source.media IsFewKept
kept_by true bytes source is = λ media some.
    let same : is.0.media ≡ media = ap (λ (kept : Option Kept). unwrap_or kept is.0.media) (sym is.3 ∙ some) in
    subst IsFewKept same (few_kept bytes is.0 is.1)
kept_by false bytes source is = λ media some. cc

pub source_kept : (bytes : List ℕ) (source : Source) → IsSource bytes source → ForSome source.media IsFewKept
source_kept bytes source is = kept_by (is_marked bytes) bytes source is

-- ---- one stream

agree_by : (marked : Bool) (bytes : List ℕ) (stream other : Stream) → IsStreamBy marked bytes stream → IsStreamBy marked bytes other → (stream.head ≡ other.head) × (stream.packets ≡ other.packets) × (stream.spare ≡ other.spare)
agree_by true bytes stream other a b =
    let same : a.0 ≡ b.0 = one_file bytes a.0 b.0 a.1 b.1 in
    (a.2.head ∙ ap (λ (file : Webm). file.head) same ∙ sym b.2.head, a.2.packets ∙ ap (λ (file : Webm). file.packets) same ∙ sym b.2.packets, a.2.spare ∙ ap (λ (file : Webm). file.spare) same ∙ sym b.2.spare)
agree_by false bytes stream other a b =
    let same : a.0 ≡ b.0 = ivf_answers.one_file bytes a.0 b.0 a.1 b.1 in
    (a.2.head ∙ ap (λ (file : Stream). file.head) same ∙ sym b.2.head, a.2.packets ∙ ap (λ (file : Stream). file.packets) same ∙ sym b.2.packets, a.2.spare ∙ ap (λ (file : Stream). file.spare) same ∙ sym b.2.spare)

pub agree : (bytes : List ℕ) (stream other : Stream) → IsStream bytes stream → IsStream bytes other → (stream.head ≡ other.head) × (stream.packets ≡ other.packets) × (stream.spare ≡ other.spare)
agree bytes stream other a b = agree_by (is_marked bytes) bytes stream other a b

-- ---- one error

one_by : (marked : Bool) (bytes : List ℕ) (fault other : StreamFault) → RefusedBy marked bytes fault → RefusedBy marked bytes other → fault ≡ other
one_by true bytes fault other a b = a.1 ∙ ap of_webm (one_fault bytes a.0 b.0 a.2 b.2) ∙ sym b.1
one_by false bytes fault other a b = a.1 ∙ ap of_ivf (ivf_answers.one_fault bytes a.0 b.0 a.2 b.2) ∙ sym b.1

pub one_stream_fault : (bytes : List ℕ) (fault other : StreamFault) → StreamRefuses bytes fault → StreamRefuses bytes other → fault ≡ other
one_stream_fault bytes fault other a b = one_by (is_marked bytes) bytes fault other a b

no_memory_by : (marked : Bool) (bytes : List ℕ) (stream : Stream) → IsStreamBy marked bytes stream → RefusedBy marked bytes NoMemory
no_memory_by true bytes stream is = (webm.NoMemory, refl, (is.0, is.1))
no_memory_by false bytes stream is = (ivf.NoMemory, refl, (is.0, is.1))

-- a stream can be refused as out of memory
pub no_memory : (bytes : List ℕ) (stream : Stream) → IsStream bytes stream → StreamRefuses bytes NoMemory
no_memory bytes stream is = no_memory_by (is_marked bytes) bytes stream is

-- and as nothing else
pub stream_refused : (bytes : List ℕ) (stream : Stream) (fault : StreamFault) → IsStream bytes stream → StreamRefuses bytes fault → fault ≡ NoMemory
stream_refused bytes stream fault is refuses = one_stream_fault bytes fault NoMemory refuses (no_memory bytes stream is)
