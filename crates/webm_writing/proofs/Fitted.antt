-- The pieces of a file that can be written fit.
use Rattle.std.proofs.Common.{◌≡◌, ℕ, zero, suc, ◌+◌, ◌*◌, ◌<◌, ◌≤◌, ◌⊎◌, ◌||◌, Bool, true, false, not, cond, inl, inr, List, [], ◌∷◌, ◌++◌, length, drop, take, map, nat_lt, refl, sym, ap, ◌∙◌, subst, arith, length-append}
use Rattle.std.specs.List.{flat_map, prefix_len}
use Rattle.std.proofs.lemmas.Bool.{ltb-false, ltb-true, cases_Bool}
use Rattle.std.proofs.lemmas.Grind.{flat_map-append}
use Rattle.byteorder.specs.Endian.{big_bytes}
use Rattle.webm_files.specs.declared.ids.TheConstants.{CLUSTER, EBML, SEGMENT, SIMPLE_BLOCK, TIMESTAMP}
use Rattle.webm_files.specs.Elements.{is_known, is_opened}
use Rattle.webm_writing.specs.Pieces.{Piece, IsMarked, Fits, AllFit, piece_text, text_of}
use Rattle.webm_writing.specs.declared.samples.Part.{Part}
use Rattle.webm_writing.specs.declared.samples.Sample.{Sample}
use Rattle.webm_writing.specs.Written.{Written, whole, header, part_piece, begins, groups_up_to, groups, block_content, block_piece, cluster_pieces, cues_piece, cues_from, clusters_of, seeks_from, seek, index_size, segment, pieces_of, webm_text}
use Rattle.webm_writing.specs.Fitting.{AllStay, GroupFits, Stays, PartsFit, SampleFits, SamplesFit, FileFits}

pub known_cluster : is_known CLUSTER ≡ true
unfolding is_known
known_cluster = refl

pub known_segment : is_known SEGMENT ≡ true
unfolding is_known
known_segment = refl

pub known_time : is_known TIMESTAMP ≡ true
unfolding is_known
known_time = refl

pub known_block : is_known SIMPLE_BLOCK ≡ true
unfolding is_known
known_block = refl

pub known_header : is_known EBML ≡ true
unfolding is_known
known_header = refl

pub known_seeks : is_known 0x114D9B74 ≡ true
unfolding is_known
known_seeks = refl

pub known_cues : is_known 0x1C53BB6B ≡ true
unfolding is_known
known_cues = refl

pub opened_cluster : is_opened CLUSTER ≡ true
unfolding is_opened
opened_cluster = refl

pub opened_segment : is_opened SEGMENT ≡ true
unfolding is_opened
opened_segment = refl

pub shut_time : is_opened TIMESTAMP ≡ false
unfolding is_opened
shut_time = refl

pub shut_block : is_opened SIMPLE_BLOCK ≡ false
unfolding is_opened
shut_block = refl

pub shut_header : is_opened EBML ≡ false
unfolding is_opened
shut_header = refl

pub shut_seeks : is_opened 0x114D9B74 ≡ false
unfolding is_opened
shut_seeks = refl

pub shut_cues : is_opened 0x1C53BB6B ≡ false
unfolding is_opened
shut_cues = refl

abbrev IsWidth : ℕ → Type 0
IsWidth width = (width ≡ 1) ⊎ ((width ≡ 2) ⊎ ((width ≡ 3) ⊎ (width ≡ 4)))

four : IsWidth 4
four = inr (inr (inr refl))

whole_fits : (id width : ℕ) (content : List ℕ) → IsWidth width → IsMarked width id → is_known id ≡ true → is_opened id ≡ false → length content + 1 < 268435456 → Fits (whole id width content)
whole_fits id width content w name known shut few = record { width = w; name = name; known = known; marks = inl refl; size = omega (arith, few); content = inr (shut, refl) }

opened_fits : (id n : ℕ) → IsMarked 4 id → is_known id ≡ true → is_opened id ≡ true → n + 1 < 72057594037927936 → Fits (record { id = id; width = 4; size = n; marks = 8; content = [] })
opened_fits id n name known is few = record { width = four; name = name; known = known; marks = inr refl; size = omega (arith, few); content = inl (is, refl) }

pub all_append : (xs ys : List Piece) → AllFit xs → AllFit ys → AllFit (xs ++ ys)
all_append [] ys a b = b
all_append (x ∷ xs) ys a b = (a.0, all_append xs ys a.1 b)

pub parts_fit : (parts : List Part) → PartsFit parts → AllFit (map part_piece parts)
parts_fit [] fit = tt
parts_fit (part ∷ parts) fit = (whole_fits part.id 4 part.content four fit.0.name fit.0.known fit.0.shut (omega (arith, fit.0.size)), parts_fit parts fit.1)

abbrev pub GroupsFit : List (List Sample) → Type 0
GroupsFit [] = Unit {0}
GroupsFit (group ∷ more) = GroupFits group × GroupsFit more

-- what the test says of a sample that begins no cluster
none_of : (a b c : Bool) → not (a || (b || c)) ≡ true → (b ≡ false) × (c ≡ false)
none_of false false false e = (refl, refl)
none_of true b c e = let wrong : false ≡ true = e in (cc)
none_of false true c e = let wrong : false ≡ true = e in (cc)
none_of false false true e = let wrong : false ≡ true = e in (cc)

stays : (most base : ℕ) (sample : Sample) → most < 32768 → SampleFits sample → not (begins most base sample) ≡ true → Stays base sample
stays most base sample few fits test =
    let both = none_of sample.is_key (nat_lt sample.stamp base) (nat_lt (base + most) sample.stamp) test in
    let low = ltb-false sample.stamp base both.0 in
    let high = ltb-false (base + most) sample.stamp both.1 in
    record { fits = fits; low = low; high = omega (arith, high, few) }

one_more : (n : ℕ) → suc n ≡ 1 + n
one_more n = omega arith

take_fits : (most base : ℕ) (samples : List Sample) → most < 32768 → SamplesFit samples → AllStay base (take (prefix_len (λ next. not (begins most base next)) samples) samples)
take_fits most base [] few fit = tt
take_fits most base (sample ∷ samples) few fit =
    let more : ℕ = prefix_len (λ next. not (begins most base next)) samples in elim (cases_Bool (not (begins most base sample))) [
      | inl e ↦ subst (λ b. AllStay base (take (cond b (1 + more) 0) (sample ∷ samples))) (sym e) (
          subst (λ n. AllStay base (take n (sample ∷ samples))) (one_more more) (stays most base sample few fit.0 e, take_fits most base samples few fit.1)
          )
      | inr e ↦ subst (λ b. AllStay base (take (cond b (1 + more) 0) (sample ∷ samples))) (sym e) tt
    ]

drop_fits : (n : ℕ) (samples : List Sample) → SamplesFit samples → SamplesFit (drop n samples)
drop_fits zero samples fit = fit
drop_fits (suc n) [] fit = tt
drop_fits (suc n) (sample ∷ samples) fit = drop_fits n samples fit.1

pub groups_fit : (n most : ℕ) (samples : List Sample) → most < 32768 → SamplesFit samples → GroupsFit (groups_up_to n most samples)
groups_fit zero most samples few fit = tt
groups_fit (suc n) most [] few fit = tt
groups_fit (suc n) most (sample ∷ samples) few fit =
    let stay : ℕ = prefix_len (λ next. not (begins most sample.stamp next)) samples in
    let first : Stays sample.stamp sample = record { fits = fit.0; low = omega arith; high = omega arith } in
    ((first, take_fits most sample.stamp samples few fit.1), groups_fit n most (drop stay samples) few (drop_fits stay samples fit.1))

pub block_fits : (base : ℕ) (sample : Sample) → Stays base sample → Fits (block_piece base sample)
block_fits base sample stay = elim (cases_Bool (nat_lt (length (block_content base sample) + 1) 268435456)) [
  | inl e ↦ subst (λ b. Fits (record { id = SIMPLE_BLOCK; width = 1; size = length (block_content base sample); marks = cond b 4 8; content = block_content base sample })) (sym e) (
      record { width = inl refl; name = record { low = omega arith; high = omega arith }; known = known_block; marks = inl refl; size = omega (arith, ltb-true _ _ e); content = inr (shut_block, refl) }
      )
  | inr e ↦ subst (λ b. Fits (record { id = SIMPLE_BLOCK; width = 1; size = length (block_content base sample); marks = cond b 4 8; content = block_content base sample })) (sym e) (
      record { width = inl refl; name = record { low = omega arith; high = omega arith }; known = known_block; marks = inr refl; size = omega (arith, stay.fits.size); content = inr (shut_block, refl) }
      )
]

blocks_fit : (base : ℕ) (samples : List Sample) → AllStay base samples → AllFit (map (block_piece base) samples)
blocks_fit base [] stay = tt
blocks_fit base (sample ∷ samples) stay = (block_fits base sample stay.0, blocks_fit base samples stay.1)

cluster_fits : (group : List Sample) → GroupFits group → length (text_of (cluster_pieces group)) + 1 < 72057594037927936 → AllFit (cluster_pieces group)
cluster_fits [] fit few = tt
cluster_fits (sample ∷ samples) fit few =
    let blocks : List Piece = map (block_piece sample.stamp) (sample ∷ samples) in
    let time : Piece = whole TIMESTAMP 1 (big_bytes 8 sample.stamp) in
    let inner : List Piece = time ∷ blocks in
    let n : ℕ = length (text_of inner) in
    let head : Piece = record { id = CLUSTER; width = 4; size = n; marks = 8; content = [] } in
    let long : length (piece_text head ++ text_of inner) ≡ length (piece_text head) + n = length-append (piece_text head) (text_of inner) in
    let cluster = opened_fits CLUSTER n (record { low = omega arith; high = omega arith }) known_cluster opened_cluster (omega (arith, few, long)) in
    let timed = whole_fits TIMESTAMP 1 (big_bytes 8 sample.stamp) (inl refl) (record { low = omega arith; high = omega arith }) known_time shut_time (omega arith) in
    (cluster, (timed, blocks_fit sample.stamp (sample ∷ samples) fit))

pub text_append : (xs ys : List Piece) → text_of (xs ++ ys) ≡ text_of xs ++ text_of ys
text_append xs ys = flat_map-append piece_text xs ys

clusters_fit : (groups : List (List Sample)) → GroupsFit groups → length (text_of (flat_map cluster_pieces groups)) + 1 < 72057594037927936 → AllFit (flat_map cluster_pieces groups)
clusters_fit [] fit few = tt
clusters_fit (group ∷ more) fit few =
    let rest : List Piece = flat_map cluster_pieces more in
    let long : length (text_of (cluster_pieces group ++ rest)) ≡ length (text_of (cluster_pieces group)) + length (text_of rest)
    = ap length (text_append (cluster_pieces group) rest) ∙ length-append (text_of (cluster_pieces group)) (text_of rest) in
    all_append (cluster_pieces group) rest (cluster_fits group fit.0 (omega (arith, few, long))) (clusters_fit more fit.1 (omega (arith, few, long)))

-- each entry of the index has 30 bytes
pub seek_size : (id at : ℕ) → length (seek id at) ≡ 30
seek_size id at = omega arith

pub seeks_size : (at : ℕ) (pieces : List Piece) → length (seeks_from at pieces) ≡ 30 * length pieces
seeks_size at [] = refl
seeks_size at (piece ∷ pieces) =
    let next : ℕ = at + length (piece_text piece) in
    length-append (seek piece.id at) (seeks_from next pieces) ∙ omega (arith, seek_size piece.id at, seeks_size next pieces)

pub parts_count : (parts : List Part) → length (map part_piece parts) ≡ length parts
parts_count [] = refl
parts_count (part ∷ parts) = ap suc (parts_count parts)

-- what is within a file is no longer than the file
within : (file : Written) → (length (text_of (segment file)) ≤ length (webm_text file)) × (length (text_of (clusters_of file)) ≤ length (webm_text file))
within file =
    let inner : List Piece = segment file in
    let head : Piece = record { id = SEGMENT; width = 4; size = length (text_of inner); marks = 8; content = [] } in
    let parts : List Piece = map part_piece file.parts in
    let first : ℕ = index_size (length file.parts + 1) in
    let place : ℕ = first + length (text_of parts) in
    let cues : Piece = cues_piece place file in
    let seeks : Piece = whole 0x114D9B74 4 (seeks_from first parts ++ seek cues.id (place + length (text_of (clusters_of file)))) in
    let all : length (webm_text file) ≡ length (piece_text header) + (length (piece_text head) + length (text_of inner))
    = length-append (piece_text header) (piece_text head ++ text_of inner) ∙ ap (λ n. length (piece_text header) + n) (length-append (piece_text head) (text_of inner)) in
    let front : List Piece = parts ++ clusters_of file in
    let rest : length (text_of inner) ≡ length (piece_text seeks) + length (text_of (front ++ cues ∷ [])) = length-append (piece_text seeks) (text_of (front ++ cues ∷ [])) in
    let last : length (text_of (front ++ cues ∷ [])) ≡ length (text_of front) + length (text_of (cues ∷ [])) = ap length (text_append front (cues ∷ [])) ∙ length-append (text_of front) (text_of (cues ∷ [])) in
    let both : length (text_of front) ≡ length (text_of parts) + length (text_of (clusters_of file)) = ap length (text_append parts (clusters_of file)) ∙ length-append (text_of parts) (text_of (clusters_of file)) in
    (omega (arith, all), omega (arith, all, rest, last, both))

header_fits : Fits header
header_fits = whole_fits EBML 4 header.content four (record { low = omega arith; high = omega arith }) known_header shut_header (omega arith)

pub file_fits : (file : Written) → FileFits file → AllFit (pieces_of file)
file_fits file fits =
    let inner : List Piece = segment file in
    let less = within file in
    let parts : List Piece = map part_piece file.parts in
    let first : ℕ = index_size (length file.parts + 1) in
    let place : ℕ = first + length (text_of parts) in
    let cues : Piece = cues_piece place file in
    let content : List ℕ = seeks_from first parts ++ seek cues.id (place + length (text_of (clusters_of file))) in
    let long : length content ≡ 30 * length file.parts + 30
    = length-append (seeks_from first parts) (seek cues.id (place + length (text_of (clusters_of file)))) ∙ omega (arith, seeks_size first parts, parts_count file.parts, seek_size cues.id (place + length (text_of (clusters_of file)))) in
    let cues_fit = whole_fits 0x1C53BB6B 4 (cues_from place (groups file.most file.samples)) four (record { low = omega arith; high = omega arith }) known_cues shut_cues (omega (arith, fits.cues place)) in
    let seeks_fit = whole_fits 0x114D9B74 4 content four (record { low = omega arith; high = omega arith }) known_seeks shut_seeks (omega (arith, long, fits.few)) in
    let clusters = clusters_fit (groups file.most file.samples) (groups_fit (length file.samples) file.most file.samples fits.most fits.samples) (omega (arith, less.1, fits.size)) in
    let segment_fits = opened_fits SEGMENT (length (text_of inner)) (record { low = omega arith; high = omega arith }) known_segment opened_segment (omega (arith, less.0, fits.size)) in
    (header_fits, (segment_fits, (seeks_fit, all_append (parts ++ clusters_of file) (cues ∷ []) (all_append parts (clusters_of file) (parts_fit file.parts fits.parts) clusters) (cues_fit, tt))))
