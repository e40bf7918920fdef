-- A text has at most one file, and at most one error.
use Rattle.std.proofs.Common.{◌≡◌, ℕ, ◌≤◌, ◌<◌, List, length, refl, sym, ◌∙◌, ap, arith}
use Rattle.stream_files.specs.declared.packets.Packet.{Packet}
use Rattle.stream_files.specs.declared.packets.TheConstants.{MAX_PACKETS}
use Rattle.stream_files.specs.declared.streams.FrameRate.{FrameRate}
use Rattle.stream_files.specs.declared.streams.Head.{Head}
use Rattle.stream_files.specs.declared.streams.Stream.{Stream}
use Rattle.stream_files.specs.declared.ivf.IvfFault.{IvfFault}
use Rattle.stream_files.specs.declared.ivf.IvfFault.TheVariants.{Header, Magic, FourCc, HeaderLength, TooMany, NoMemory}
use Rattle.stream_files.specs.Ivf.{HasFields, HasMagic, HasFourCc, HasLength, HasHeader, HasTooMany, IsIvf, IvfRefuses, body}
use Rattle.stream_files.specs.Streams.{rate_of}
use Rattle.stream_files.proofs.Walks.{records-longest, records-one}

pub same_file : (h h' : Head) (f f' : FrameRate) (p p' : List Packet) (s s' : ℕ) → h ≡ h' → f ≡ f' → p ≡ p' → s ≡ s'
    → (let file : Stream = record { head = h; frame_rate = f; packets = p; spare = s } in let other : Stream = record { head = h'; frame_rate = f'; packets = p'; spare = s' } in file ≡ other)
same_file h h' f f' p p' s s' a r b c = cc

-- a text has at most one file
pub one_file : (bytes : List ℕ) (file other : Stream) → IsIvf bytes file → IsIvf bytes other → file ≡ other
one_file bytes file other is is' =
    let walks = records-one (body bytes) file.packets is.rest other.packets is'.rest is.records is.over is'.records is'.over in
    let spare : file.spare ≡ other.spare = is.spare ∙ ap length walks.1 ∙ sym is'.spare in
    let head : file.head ≡ other.head = is.head ∙ sym is'.head in
    let frame_rate : file.frame_rate ≡ other.frame_rate = is.frame_rate ∙ ap rate_of head ∙ sym is'.frame_rate in
    same_file file.head other.head file.frame_rate other.frame_rate file.packets other.packets file.spare other.spare head frame_rate walks.0 spare

-- a file does not have too many packets
not_too_many : (bytes : List ℕ) (file : Stream) → IsIvf bytes file → ¬ HasTooMany (body bytes)
not_too_many bytes file is many =
    let fewer : length many.0 ≤ length file.packets = records-longest (body bytes) file.packets is.rest many.0 many.1 is.records is.over many.2 in
    let more : MAX_PACKETS < length many.0 = many.3 in
    omega (arith, fewer, more, is.few)

-- the text of a file can only be refused as out of memory
pub file_refused : (bytes : List ℕ) (file : Stream) (fault : IvfFault) → IsIvf bytes file → IvfRefuses bytes fault → fault ≡ NoMemory
file_refused bytes file Header is reported = absurd (reported is.header.0)
file_refused bytes file Magic is reported = absurd (reported.1 is.header.1)
file_refused bytes file FourCc is reported = absurd (reported.2 is.header.2)
file_refused bytes file HeaderLength is reported = absurd (reported.3 is.header.3)
file_refused bytes file TooMany is reported = absurd (not_too_many bytes file is reported.1)
file_refused bytes file NoMemory is reported = refl

short_refused : (bytes : List ℕ) (fault : IvfFault) → ¬ HasFields bytes → IvfRefuses bytes fault → fault ≡ Header
short_refused bytes Header not reported = refl
short_refused bytes Magic not reported = absurd (not reported.0)
short_refused bytes FourCc not reported = absurd (not reported.0)
short_refused bytes HeaderLength not reported = absurd (not reported.0)
short_refused bytes TooMany not reported = absurd (not reported.0.0)
short_refused bytes NoMemory not reported = absurd (not reported.1.header.0)

magic_refused : (bytes : List ℕ) (fault : IvfFault) → HasFields bytes → ¬ HasMagic bytes → IvfRefuses bytes fault → fault ≡ Magic
magic_refused bytes Header a not reported = absurd (reported a)
magic_refused bytes Magic a not reported = refl
magic_refused bytes FourCc a not reported = absurd (not reported.1)
magic_refused bytes HeaderLength a not reported = absurd (not reported.1)
magic_refused bytes TooMany a not reported = absurd (not reported.0.1)
magic_refused bytes NoMemory a not reported = absurd (not reported.1.header.1)

four_cc_refused : (bytes : List ℕ) (fault : IvfFault) → HasFields bytes → HasMagic bytes → ¬ HasFourCc bytes → IvfRefuses bytes fault → fault ≡ FourCc
four_cc_refused bytes Header a b not reported = absurd (reported a)
four_cc_refused bytes Magic a b not reported = absurd (reported.1 b)
four_cc_refused bytes FourCc a b not reported = refl
four_cc_refused bytes HeaderLength a b not reported = absurd (not reported.2)
four_cc_refused bytes TooMany a b not reported = absurd (not reported.0.2)
four_cc_refused bytes NoMemory a b not reported = absurd (not reported.1.header.2)

length_refused : (bytes : List ℕ) (fault : IvfFault) → HasFields bytes → HasMagic bytes → HasFourCc bytes → ¬ HasLength bytes → IvfRefuses bytes fault → fault ≡ HeaderLength
length_refused bytes Header a b c not reported = absurd (reported a)
length_refused bytes Magic a b c not reported = absurd (reported.1 b)
length_refused bytes FourCc a b c not reported = absurd (reported.2 c)
length_refused bytes HeaderLength a b c not reported = refl
length_refused bytes TooMany a b c not reported = absurd (not reported.0.3)
length_refused bytes NoMemory a b c not reported = absurd (not reported.1.header.3)

many_refused : (bytes : List ℕ) (fault : IvfFault) → HasHeader bytes → HasTooMany (body bytes) → IvfRefuses bytes fault → fault ≡ TooMany
many_refused bytes Header a many reported = absurd (reported a.0)
many_refused bytes Magic a many reported = absurd (reported.1 a.1)
many_refused bytes FourCc a many reported = absurd (reported.2 a.2)
many_refused bytes HeaderLength a many reported = absurd (reported.3 a.3)
many_refused bytes TooMany a many reported = refl
many_refused bytes NoMemory a many reported = absurd (not_too_many bytes reported.0 reported.1 many)

-- a text has at most one error
pub one_fault : (bytes : List ℕ) (fault other : IvfFault) → IvfRefuses bytes fault → IvfRefuses bytes other → fault ≡ other
one_fault bytes Header other reported told' = sym (short_refused bytes other reported told')
one_fault bytes Magic other reported told' = sym (magic_refused bytes other reported.0 reported.1 told')
one_fault bytes FourCc other reported told' = sym (four_cc_refused bytes other reported.0 reported.1 reported.2 told')
one_fault bytes HeaderLength other reported told' = sym (length_refused bytes other reported.0 reported.1 reported.2 reported.3 told')
one_fault bytes TooMany other reported told' = sym (many_refused bytes other reported.0 reported.1 told')
one_fault bytes NoMemory other reported told' = sym (file_refused bytes reported.0 other reported.1 told')
