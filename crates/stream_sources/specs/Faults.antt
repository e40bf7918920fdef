-- Why bytes are not a stream.
use Rattle.std.specs.Prelude.{◌≡◌, ℕ, Bool, true, false, List, codes}
use Rattle.stream_files.specs.declared.ivf.IvfFault.{IvfFault}
use Rattle.stream_files.specs.declared.ivf.IvfFault.TheVariants as ivf
use Rattle.stream_files.specs.Ivf.{IvfRefuses}
use Rattle.webm_files.specs.declared.files.WebmFault.{WebmFault}
use Rattle.webm_files.specs.declared.files.WebmFault.TheVariants as webm
use Rattle.webm_files.specs.Files.{WebmRefuses, is_marked}
use Rattle.stream_sources.specs.declared.faults.StreamFault.{StreamFault}
use Rattle.stream_sources.specs.declared.faults.StreamFault.TheVariants.{Header, Magic, FourCc, HeaderLength, DocType, NoTracks, NoVideo, Encoded, Scale, TooMany, NoMemory}

-- the error's name
abbrev pub stream_fault_word : StreamFault → List ℕ
stream_fault_word Header = codes "Header"
stream_fault_word Magic = codes "Magic"
stream_fault_word FourCc = codes "FourCc"
stream_fault_word HeaderLength = codes "HeaderLength"
stream_fault_word DocType = codes "DocType"
stream_fault_word NoTracks = codes "NoTracks"
stream_fault_word NoVideo = codes "NoVideo"
stream_fault_word Encoded = codes "Encoded"
stream_fault_word Scale = codes "Scale"
stream_fault_word TooMany = codes "TooMany"
stream_fault_word NoMemory = codes "NoMemory"

-- the error of a file that is read as IVF
abbrev pub of_ivf : IvfFault → StreamFault
of_ivf ivf.Header = Header
of_ivf ivf.Magic = Magic
of_ivf ivf.FourCc = FourCc
of_ivf ivf.HeaderLength = HeaderLength
of_ivf ivf.TooMany = TooMany
of_ivf ivf.NoMemory = NoMemory

-- the error of a file that is read as WebM
abbrev pub of_webm : WebmFault → StreamFault
of_webm webm.Header = Header
of_webm webm.DocType = DocType
of_webm webm.NoTracks = NoTracks
of_webm webm.NoVideo = NoVideo
of_webm webm.Encoded = Encoded
of_webm webm.Scale = Scale
of_webm webm.TooMany = TooMany
of_webm webm.NoMemory = NoMemory

abbrev pub RefusedAsIvf : List ℕ → StreamFault → Type 0
RefusedAsIvf bytes fault = (own : IvfFault) × (fault ≡ of_ivf own) × IvfRefuses bytes own

abbrev pub RefusedAsWebm : List ℕ → StreamFault → Type 0
RefusedAsWebm bytes fault = (own : WebmFault) × (fault ≡ of_webm own) × WebmRefuses bytes own

-- by whether the bytes begin with EBML's mark
abbrev pub RefusedBy : Bool → List ℕ → StreamFault → Type 0
RefusedBy true bytes fault = RefusedAsWebm bytes fault
RefusedBy false bytes fault = RefusedAsIvf bytes fault

-- what each error means for the bytes: it is the one of their reader
abbrev pub StreamRefuses : List ℕ → StreamFault → Type 0
StreamRefuses bytes fault = RefusedBy (is_marked bytes) bytes fault
