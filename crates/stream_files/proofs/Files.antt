-- When bytes are the text of an IVF file.
use Rattle.std.proofs.Common.{◌≡◌, ℕ, ◌-◌, ◌≤◌, List, length, take, drop, refl, ap, ◌∙◌, subst, arith, length-drop}
use Rattle.std.proofs.lemmas.List.{take_rest}
use Rattle.stream_files.specs.declared.packets.Packet.{Packet}
use Rattle.stream_files.specs.declared.packets.TheConstants.{MAX_PACKETS}
use Rattle.stream_files.specs.declared.streams.Head.{Head}
use Rattle.stream_files.specs.declared.streams.Stream.{Stream}
use Rattle.stream_files.specs.Streams.{rate_of}
use Rattle.stream_files.specs.Ivf.{HasHeader, HasRecord, Records, IsRecordCount, IsIvf, body, head_of, header_length}
use Rattle.stream_files.proofs.Walks.{records-longest}

-- the packets of a walk over all records are the file's
pub is_ivf : (bytes : List ℕ) (head : Head) (packets : List Packet) (rest : List ℕ) (spare count : ℕ)
    → HasHeader bytes → head ≡ head_of bytes → Records (body bytes) packets rest → ¬ HasRecord rest → spare ≡ length rest
    → IsRecordCount (body bytes) count → count ≤ MAX_PACKETS
    → IsIvf bytes (record { head = head; frame_rate = rate_of head; packets = packets; spare = spare })
is_ivf bytes head packets rest spare count has_header is_head records over is_spare counted few = record {
  header = has_header;
  head = is_head;
  rest = rest;
  records = records;
  over = over;
  spare = is_spare;
  frame_rate = refl;
  few =
      let fewer = records-longest (body bytes) counted.packets counted.rest packets rest counted.records counted.over records in
      omega (arith, fewer, counted.counted, few);
}

-- if the records can be counted there is a file
pub is_some_ivf : (bytes : List ℕ) (count : ℕ) → HasHeader bytes → IsRecordCount (body bytes) count → count ≤ MAX_PACKETS → (file : Stream) × IsIvf bytes file
is_some_ivf bytes count has_header counted few = (
  record { head = head_of bytes; frame_rate = rate_of (head_of bytes); packets = counted.packets; spare = length counted.rest },
  is_ivf bytes (head_of bytes) counted.packets counted.rest (length counted.rest) count has_header refl counted.records counted.over refl counted few,
)

-- the records that are counted after the header are those of the body
counted_body : (file bytes : List ℕ) (start count : ℕ) → bytes ≡ file → start ≡ header_length file
    → IsRecordCount (take (length bytes - start) (drop start bytes)) count → IsRecordCount (body file) count
counted_body file bytes start count is_file is_start counted =
    subst (λ t. IsRecordCount t count) (take_rest bytes start ∙ ap (drop start) is_file ∙ ap (λ n. drop n file) is_start) counted

-- the result of reading the records after the header
pub reads_ivf : (file bytes : List ℕ) (head : Head) (packets : List Packet) (start end count : ℕ)
    → bytes ≡ file → HasHeader bytes × (head ≡ head_of bytes) × (start ≡ header_length bytes)
    → IsRecordCount (take (length bytes - start) (drop start bytes)) count → count ≤ MAX_PACKETS
    → Records (drop start file) packets (drop end file) → ¬ HasRecord (drop end file) → end ≤ length file
    → IsIvf file (record { head = head; frame_rate = rate_of head; packets = packets; spare = length bytes - end })
reads_ivf file bytes head packets start end count is_file found counted few records over inside =
    let P : List ℕ → Type 0 = λ b. HasHeader b × (head ≡ head_of b) × (start ≡ header_length b) in
    let of_file : P file = subst P is_file found in
    let text : drop start file ≡ body file = ap (λ n. drop n file) of_file.2 in
    let same : length bytes ≡ length file = ap length is_file in
    is_ivf file head packets (drop end file) (length bytes - end) count of_file.0 of_file.1
    (subst (λ t. Records t packets (drop end file)) text records) over (omega (arith, same, length-drop end file))
    (counted_body file bytes start count is_file of_file.2 counted) few

-- the same when there is no memory for the packets
pub lacks_ivf : (file bytes : List ℕ) (start count : ℕ) → bytes ≡ file → HasHeader bytes × (start ≡ header_length bytes)
    → IsRecordCount (take (length bytes - start) (drop start bytes)) count → count ≤ MAX_PACKETS
    → (ivf : Stream) × IsIvf file ivf
lacks_ivf file bytes start count is_file found counted few =
    let of_file = subst (λ b. HasHeader b × (start ≡ header_length b)) is_file found in
    is_some_ivf file count of_file.0 (counted_body file bytes start count is_file of_file.1 counted) few
