-- The blocks of a written file are its samples.
use Rattle.std.proofs.Common.{◌≡◌, ℕ, zero, suc, ◌+◌, ◌-◌, ◌%◌, ◌^◌, ◌<◌, ◌≤◌, true, false, cond, List, [], ◌∷◌, ◌++◌, length, drop, take, map, Some, None, option_to_list, pos, ◌+ℤ◌, refl, sym, ap, ◌∙◌, subst, arith, append_assoc, append-nil, length-append, length-drop, not}
use Rattle.std.specs.Int.{w16, w64, saturate_unsigned, cast_signed}
use Rattle.std.specs.List.{flat_map, prefix_len}
use Rattle.std.proofs.lemmas.Int.{to_z_pos}
use Rattle.std.proofs.lemmas.List.{drop_at, take_at, drop-drop, take_rest}
use Rattle.std.proofs.lemmas.Grind.{flat_map-append}
use Rattle.byteorder.specs.Endian.{big_number, big_bytes}
use Rattle.byteorder.specs.Numbers.{big_number-reads_back}
use Rattle.webm_files.specs.declared.ids.TheConstants.{CLUSTER, EBML, SEGMENT, SIMPLE_BLOCK, TIMESTAMP}
use Rattle.webm_files.specs.declared.blocks.Block.{Block}
use Rattle.webm_files.specs.Elements.{HasNumber, is_block, width, unmarked}
use Rattle.webm_files.specs.Blocks.{Reading, nothing, block_in, whole_number, stamp_of}
use Rattle.webm_files.proofs.Steps.{whole}
use Rattle.webm_files.proofs.WrittenHeads.{zeros_are}
use Rattle.webm_writing.specs.Pieces.{Piece, piece_text, text_of, block_at, read_piece, read_pieces}
use Rattle.webm_writing.specs.declared.samples.Part.{Part}
use Rattle.webm_writing.specs.declared.samples.Sample.{Sample}
use Rattle.webm_writing.specs.Written.{begins, cues_piece, index_size, seek, seeks_from, Written, header, part_piece, groups_up_to, groups, block_content, block_piece, cluster_pieces, clusters_of, segment, pieces_of, webm_text}
use Rattle.webm_writing.specs.Fitting.{AllStay, GroupFits, Stays, PartsFit, FileFits, IsSample, AreSamples, HasSamples}
use Rattle.webm_writing.proofs.WrittenHeads.{head_read}
use Rattle.webm_writing.proofs.ReadPieces.{blocks_are}
use Rattle.webm_writing.proofs.Fitted.{GroupsFit, block_fits, file_fits, groups_fit}

-- what pieces add to the blocks
pub record Adds (text : List ℕ) (at : ℕ) (known : Reading) (pieces : List Piece) (samples : List Sample) : Type 0 where
  pub blocks : List Block
  pub read : (read_pieces at known pieces).blocks ≡ known.blocks ++ blocks
  pub same : AreSamples text blocks samples

read_append : (at : ℕ) (known : Reading) (xs ys : List Piece) → read_pieces at known (xs ++ ys) ≡ read_pieces (at + length (text_of xs)) (read_pieces at known xs) ys
read_append at known [] ys = let same : at ≡ at + 0 = omega arith in ap (λ n. read_pieces n known ys) same
read_append at known (x ∷ xs) ys =
    let next : ℕ = at + length (piece_text x) in
    let long : length (piece_text x ++ text_of xs) ≡ length (piece_text x) + length (text_of xs) = length-append (piece_text x) (text_of xs) in
    let same : next + length (text_of xs) ≡ at + length (piece_text x ++ text_of xs) = omega (arith, long) in
    read_append next (read_piece at known x) xs ys ∙ ap (λ n. read_pieces n (read_pieces next (read_piece at known x) xs) ys) same

same_append : (text : List ℕ) (xs ys : List Block) (s t : List Sample) → AreSamples text xs s → AreSamples text ys t → AreSamples text (xs ++ ys) (s ++ t)
same_append text [] ys [] t a b = b
same_append text [] ys (x ∷ s) t a b = absurd a
same_append text (x ∷ xs) ys [] t a b = absurd a
same_append text (x ∷ xs) ys (y ∷ s) t a b = (a.0, same_append text xs ys s t a.1 b)

adds_append : (text : List ℕ) (at : ℕ) (known : Reading) (xs ys : List Piece) (s t : List Sample) → Adds text at known xs s → Adds text (at + length (text_of xs)) (read_pieces at known xs) ys t
    → Adds text at known (xs ++ ys) (s ++ t)
adds_append text at known xs ys s t a b = record {
  blocks = a.blocks ++ b.blocks;
  read = ap (λ r. r.blocks) (read_append at known xs ys) ∙ b.read ∙ ap (λ k. k ++ b.blocks) a.read ∙ append_assoc known.blocks a.blocks b.blocks;
  same = same_append text a.blocks b.blocks s t a.same b.same;
}

-- pieces that are no blocks
abbrev AllQuiet : List Piece → Type 0
AllQuiet [] = Unit {0}
AllQuiet (piece ∷ pieces) = (is_block piece.id ≡ false) × AllQuiet pieces

no_block : (base at : ℕ) (piece : Piece) → is_block piece.id ≡ false → block_at base at piece ≡ None
no_block base at piece none = ap (λ b. cond b (block_in base at (at + (piece.width + piece.marks)) piece.content) None) none

quiet : (at : ℕ) (known : Reading) (piece : Piece) → is_block piece.id ≡ false → (read_piece at known piece).blocks ≡ known.blocks
quiet at known piece none = ap (λ b. known.blocks ++ option_to_list b) (no_block known.base at piece none) ∙ append-nil known.blocks

quiet_all : (at : ℕ) (known : Reading) (pieces : List Piece) → AllQuiet pieces → (read_pieces at known pieces).blocks ≡ known.blocks
quiet_all at known [] none = refl
quiet_all at known (piece ∷ pieces) none = quiet_all (at + length (piece_text piece)) (read_piece at known piece) pieces none.1 ∙ quiet at known piece none.0

quiet_adds : (text : List ℕ) (at : ℕ) (known : Reading) (pieces : List Piece) → AllQuiet pieces → Adds text at known pieces []
quiet_adds text at known pieces none = record { blocks = []; read = quiet_all at known pieces none ∙ sym (append-nil known.blocks); same = tt }

block_is : is_block SIMPLE_BLOCK ≡ true
unfolding is_block
block_is = refl

cluster_is_none : is_block CLUSTER ≡ false
unfolding is_block
cluster_is_none = refl

time_is_none : is_block TIMESTAMP ≡ false
unfolding is_block
time_is_none = refl

segment_is_none : is_block SEGMENT ≡ false
unfolding is_block
segment_is_none = refl

header_is_none : is_block EBML ≡ false
unfolding is_block
header_is_none = refl

seeks_are_none : is_block 0x114D9B74 ≡ false
unfolding is_block
seeks_are_none = refl

cues_are_none : is_block 0x1C53BB6B ≡ false
unfolding is_block
cues_are_none = refl

-- the time of a block
stamp_read : (base time : ℕ) (rest : List ℕ) → time < 32768 → base + time < 2 ^ 64 → base + time ≡ stamp_of base (big_bytes 2 time ++ rest)
stamp_read base time rest small fits =
    let number : big_number 2 (big_bytes 2 time ++ rest) ≡ time = big_number-reads_back 2 time rest (omega arith) in
    let signed : cast_signed w16 (big_number 2 (big_bytes 2 time ++ rest)) ≡ pos time = ap (cast_signed w16) number ∙ to_z_pos w16 time small in
    let sum : saturate_unsigned w64 (pos base +ℤ pos time) ≡ base + time = omega arith in
    sym (ap (λ z. saturate_unsigned w64 (pos base +ℤ z)) signed ∙ sum)

abbrev flags_of : Sample → ℕ
flags_of sample = cond sample.is_key 128 0

abbrev placed : ℕ → ℕ → Sample → Block
placed place start sample = record { track = sample.track; stamp = sample.stamp; flags = flags_of sample; place = place; start = start + 4; end = start + (4 + length sample.bytes) }

content_read : (place start base : ℕ) (sample : Sample) → Stays base sample → Some (placed place start sample) ≡ block_in base place start (block_content base sample)
content_read place start base sample stay =
    let text : List ℕ = block_content base sample in
    let time : ℕ = sample.stamp - base in
    let following : List ℕ = big_bytes 2 time ++ flags_of sample ∷ sample.bytes in
    let one : width text ≡ 1 = ap (λ z. z + 1) (zeros_are (128 + sample.track) 0 8 refl (omega (arith, stay.fits.track)) (omega arith)) in
    let long : length text ≡ 4 + length sample.bytes = omega arith in
    let has : HasNumber 8 text = (omega (arith, one), omega (arith, one, long)) in
    let value : big_number 1 text ≡ 128 + sample.track = omega arith in
    let track : sample.track ≡ unmarked text = sym (ap (λ k. big_number k text % 128 ^ k) one ∙ ap (λ n. n % 128) value ∙ omega (arith, stay.fits.track)) in
    let sum : base + time ≡ sample.stamp = omega (arith, stay.low) in
    let after : take (length text - 1) (drop 1 text) ≡ following = take_rest text 1 in
    let stamp : sample.stamp ≡ stamp_of base (take (length text - 1) (drop 1 text)) =
    sym sum ∙ stamp_read base time (flags_of sample ∷ sample.bytes) (omega (arith, stay.low, stay.high)) (omega (arith, sum, stay.fits.stamp)) ∙ ap (stamp_of base) (sym after) in
    let found = whole base place start sample.track sample.stamp (flags_of sample) 1 text has (omega (arith, one, long)) (sym one) track stamp refl in
    let end : start + length text ≡ start + (4 + length sample.bytes) = omega (arith, long) in
    ap (λ e. Some (record { track = sample.track; stamp = sample.stamp; flags = flags_of sample; place = place; start = start + 4; end = e })) (sym end) ∙ found

-- the bytes of a sample in the file
bytes_at : (text front rest : List ℕ) (base : ℕ) (sample : Sample) → Stays base sample → text ≡ front ++ (piece_text (block_piece base sample) ++ rest)
    → IsSample text (placed (length front) (length front + (1 + (block_piece base sample).marks)) sample) sample
bytes_at text front rest base sample stay is =
    let piece : Piece = block_piece base sample in
    let start : ℕ = length front + (1 + piece.marks) in
    let here : drop (length front) text ≡ piece_text piece ++ rest = ap (drop (length front)) is ∙ drop_at front (piece_text piece ++ rest) (length front) refl in
    let head = head_read piece rest (block_fits base sample stay) in
    let content : drop start text ≡ block_content base sample ++ rest = sym (drop-drop (1 + piece.marks) (length front) text) ∙ ap (drop (1 + piece.marks)) here ∙ head.rest in
    let bytes : drop (start + 4) text ≡ sample.bytes ++ rest = sym (drop-drop 4 start text) ∙ ap (drop 4) content in
    let few : (start + (4 + length sample.bytes)) - (start + 4) ≡ length sample.bytes = omega arith in
    record {
      track = refl;
      stamp = refl;
      bytes = ap (λ n. take n (drop (start + 4) text)) few ∙ ap (take (length sample.bytes)) bytes ∙ take_at sample.bytes rest (length sample.bytes) refl;
    }

blocks_add : (text front rest : List ℕ) (base : ℕ) (samples : List Sample) (known : Reading) → AllStay base samples → known.base ≡ base → text ≡ front ++ (text_of (map (block_piece base) samples) ++ rest)
    → Adds text (length front) known (map (block_piece base) samples) samples
blocks_add text front rest base [] known stay timed is = record { blocks = []; read = sym (append-nil known.blocks); same = tt }
blocks_add text front rest base (sample ∷ samples) known stay timed is =
    let piece : Piece = block_piece base sample in
    let at : ℕ = length front in
    let start : ℕ = at + (1 + piece.marks) in
    let others : List Piece = map (block_piece base) samples in
    let first : Block = placed at start sample in
    let longer : List ℕ = front ++ piece_text piece in
    let long : length longer ≡ at + length (piece_text piece) = length-append front (piece_text piece) in
    let split : text ≡ front ++ (piece_text piece ++ (text_of others ++ rest)) = is ∙ ap (λ t. front ++ t) (append_assoc (piece_text piece) (text_of others) rest) in
    let moved : text ≡ longer ++ (text_of others ++ rest) = split ∙ sym (append_assoc front (piece_text piece) (text_of others ++ rest)) in
    let next : Reading = read_piece at known piece in
    let one : block_at known.base at piece ≡ Some first =
    ap (λ b. cond b (block_in known.base at start (block_content base sample)) None) block_is ∙ ap (λ b. block_in b at start (block_content base sample)) timed ∙ sym (content_read at start base sample stay.0) in
    let added : next.blocks ≡ known.blocks ++ first ∷ [] = ap (λ b. known.blocks ++ option_to_list b) one in
    let more = subst (λ n. Adds text n next others samples) long (blocks_add text longer rest base samples next stay.1 timed moved) in
    record {
      blocks = first ∷ more.blocks;
      read = more.read ∙ ap (λ b. b ++ more.blocks) added ∙ append_assoc known.blocks (first ∷ []) more.blocks;
      same = (bytes_at text front (text_of others ++ rest) base sample stay.0 split, more.same);
    }

whole_time : (stamp : ℕ) → stamp < 2 ^ 64 → whole_number (big_bytes 8 stamp) ≡ stamp
whole_time stamp fits = ap (big_number 8) (sym (append-nil (big_bytes 8 stamp))) ∙ big_number-reads_back 8 stamp [] fits

cluster_adds : (text front rest : List ℕ) (group : List Sample) (known : Reading) → GroupFits group → text ≡ front ++ (text_of (cluster_pieces group) ++ rest) → Adds text (length front) known (cluster_pieces group) group
cluster_adds text front rest [] known fit is = record { blocks = []; read = sym (append-nil known.blocks); same = tt }
cluster_adds text front rest (sample ∷ samples) known fit is =
    let at : ℕ = length front in
    let blocks : List Piece = map (block_piece sample.stamp) (sample ∷ samples) in
    let content : List ℕ = big_bytes 8 sample.stamp in
    let time : Piece = record { id = TIMESTAMP; width = 1; size = length content; marks = 4; content = content } in
    let head : Piece = record { id = CLUSTER; width = 4; size = length (text_of (time ∷ blocks)); marks = 8; content = [] } in
    let first : Reading = read_piece at known head in
    let second : Reading = read_piece (at + length (piece_text head)) first time in
    let base : second.base ≡ sample.stamp = whole_time sample.stamp fit.0.fits.stamp in
    let same : second.blocks ≡ known.blocks = quiet (at + length (piece_text head)) first time time_is_none ∙ quiet at known head cluster_is_none in
    let lead : List ℕ = piece_text head ++ piece_text time in
    let longer : List ℕ = front ++ lead in
    let moved : text ≡ longer ++ (text_of blocks ++ rest) =
    is ∙ ap (λ t. front ++ (t ++ rest)) (sym (append_assoc (piece_text head) (piece_text time) (text_of blocks))) ∙ ap (λ t. front ++ t) (append_assoc lead (text_of blocks) rest)
    ∙ sym (append_assoc front lead (text_of blocks ++ rest)) in
    let long : length longer ≡ (at + length (piece_text head)) + length (piece_text time) = length-append front lead ∙ omega (arith, length-append (piece_text head) (piece_text time)) in
    let more = subst (λ n. Adds text n second blocks (sample ∷ samples)) long (blocks_add text longer rest sample.stamp (sample ∷ samples) second fit base moved) in
    record { blocks = more.blocks; read = more.read ∙ ap (λ b. b ++ more.blocks) same; same = more.same }

abbrev all_of : List (List Sample) → List Sample
all_of groups = flat_map (λ group. group) groups

clusters_add : (text front rest : List ℕ) (groups : List (List Sample)) (known : Reading) → GroupsFit groups → text ≡ front ++ (text_of (flat_map cluster_pieces groups) ++ rest)
    → Adds text (length front) known (flat_map cluster_pieces groups) (all_of groups)
clusters_add text front rest [] known fit is = record { blocks = []; read = sym (append-nil known.blocks); same = tt }
clusters_add text front rest (group ∷ more) known fit is =
    let at : ℕ = length front in
    let pieces : List Piece = cluster_pieces group in
    let others : List Piece = flat_map cluster_pieces more in
    let longer : List ℕ = front ++ text_of pieces in
    let long : length longer ≡ at + length (text_of pieces) = length-append front (text_of pieces) in
    let split : text ≡ front ++ (text_of pieces ++ (text_of others ++ rest)) =
    is ∙ ap (λ t. front ++ (t ++ rest)) (flat_map-append piece_text pieces others) ∙ ap (λ t. front ++ t) (append_assoc (text_of pieces) (text_of others) rest) in
    let moved : text ≡ longer ++ (text_of others ++ rest) = split ∙ sym (append_assoc front (text_of pieces) (text_of others ++ rest)) in
    let first = cluster_adds text front (text_of others ++ rest) group known fit.0 split in
    let next : Reading = read_pieces at known pieces in
    let second = subst (λ n. Adds text n next others (all_of more)) long (clusters_add text longer rest more next fit.1 moved) in
    adds_append text at known pieces others group (all_of more) first second

-- the groups are all samples
rejoined : (n : ℕ) (samples : List Sample) → take n samples ++ drop n samples ≡ samples
rejoined zero samples = refl
rejoined (suc n) [] = refl
rejoined (suc n) (sample ∷ samples) = ap (λ rest. sample ∷ rest) (rejoined n samples)

groups_are : (n most : ℕ) (samples : List Sample) → length samples ≤ n → all_of (groups_up_to n most samples) ≡ samples
groups_are zero most [] few = refl
groups_are zero most (sample ∷ samples) few = absurd (omega (arith, few))
groups_are (suc n) most [] few = refl
groups_are (suc n) most (sample ∷ samples) few =
    let stay : ℕ = prefix_len (λ next. not (begins most sample.stamp next)) samples in
    let less : length (drop stay samples) ≤ n = omega (arith, few, length-drop stay samples) in
    ap (λ rest. sample ∷ (take stay samples ++ rest)) (groups_are n most (drop stay samples) less) ∙ ap (λ rest. sample ∷ rest) (rejoined stay samples)

quiet_parts : (parts : List Part) → PartsFit parts → AllQuiet (map part_piece parts)
quiet_parts [] fit = tt
quiet_parts (part ∷ parts) fit = (fit.0.plain, quiet_parts parts fit.1)

pub file_has : (file : Written) → FileFits file → HasSamples (webm_text file) file.samples
file_has file fits =
    let text : List ℕ = webm_text file in
    let parts : List Piece = map part_piece file.parts in
    let clusters : List Piece = clusters_of file in
    let first : ℕ = index_size (length file.parts + 1) in
    let place : ℕ = first + length (text_of parts) in
    let cues : Piece = cues_piece place file in
    let content : List ℕ = seeks_from first parts ++ seek cues.id (place + length (text_of clusters)) in
    let seeks : Piece = record { id = 0x114D9B74; width = 4; size = length content; marks = 4; content = content } in
    let head : Piece = record { id = SEGMENT; width = 4; size = length (text_of (segment file)); marks = 8; content = [] } in
    let front : List Piece = header ∷ head ∷ seeks ∷ parts in
    let none : AllQuiet front = (header_is_none, (segment_is_none, (seeks_are_none, quiet_parts file.parts fits.parts))) in
    let is : text ≡ text_of front ++ (text_of clusters ++ text_of (cues ∷ [])) =
    flat_map-append piece_text (front ++ clusters) (cues ∷ []) ∙ ap (λ t. t ++ text_of (cues ∷ [])) (flat_map-append piece_text front clusters) ∙ append_assoc (text_of front) (text_of clusters) (text_of (cues ∷ [])) in
    let before : Reading = read_pieces 0 nothing front in
    let some = clusters_add text (text_of front) (text_of (cues ∷ [])) (groups file.most file.samples) before (groups_fit (length file.samples) file.most file.samples fits.most fits.samples) is in
    let start : length (text_of front) ≡ 0 + length (text_of front) = omega arith in
    let both = adds_append text 0 nothing front clusters [] (all_of (groups file.most file.samples)) (quiet_adds text 0 nothing front none)
    (subst (λ n. Adds text n before clusters (all_of (groups file.most file.samples))) start some) in
    let last = quiet_adds text (0 + length (text_of (front ++ clusters))) (read_pieces 0 nothing (front ++ clusters)) (cues ∷ []) (cues_are_none, tt) in
    let all = adds_append text 0 nothing (front ++ clusters) (cues ∷ []) (all_of (groups file.most file.samples)) [] both last in
    let samples : all_of (groups file.most file.samples) ++ [] ≡ file.samples = append-nil (all_of (groups file.most file.samples)) ∙ groups_are (length file.samples) file.most file.samples (omega arith) in
    record {
      blocks = (read_pieces 0 nothing (pieces_of file)).blocks;
      are = blocks_are (pieces_of file) (file_fits file fits);
      same = subst (λ b. AreSamples text b file.samples) (sym all.read) (subst (AreSamples text all.blocks) samples all.same);
    }
