-- A whole file as it is written.
use Rattle.std.proofs.Common.{◌≡◌, ℕ, zero, suc, ◌+◌, ◌^◌, ◌<◌, List, [], ◌∷◌, ◌++◌, length, get_or, map, Option, sym, ap, ◌∙◌, subst, arith, length-append, append_assoc, append-nil}
use Rattle.std.specs.Io.KnownBytes.{Appends}
use Rattle.byteorder.specs.Endian.{big_bytes}
use Rattle.webm_writing.specs.declared.samples.Part.{Part}
use Rattle.webm_writing.specs.Pieces.{Piece, piece_text, text_of}
use Rattle.webm_writing.specs.Written.{Written, clusters_of, cues_from, cues_piece, groups, header, index_size, part_piece, seek, seeks_from, segment, webm_text, whole}
use Rattle.webm_writing.specs.Fitting.{FileFits, PartFits, PartsFit}
use Rattle.webm_writing.proofs.Composed.{appends_then}
use Rattle.webm_writing.proofs.Fitted.{text_append}
use Rattle.webm_writing.proofs.Indexed.{index_long}

-- where the clusters and the cues begin, and the index of the parts
abbrev pub clusters_at : Written → ℕ
clusters_at file = index_size (length file.parts + 1) + length (text_of (map part_piece file.parts))

abbrev pub cues_at : Written → ℕ
cues_at file = clusters_at file + length (text_of (clusters_of file))

abbrev pub index_of : Written → Piece
index_of file = whole 0x114D9B74 4 (seeks_from (index_size (length file.parts + 1)) (map part_piece file.parts) ++ seek 0x1C53BB6B (cues_at file))

pub segment_text : (file : Written) → text_of (segment file) ≡ piece_text (index_of file) ++ (text_of (map part_piece file.parts) ++ (text_of (clusters_of file) ++ piece_text (cues_piece (clusters_at file) file)))
segment_text file =
    let parts : List Piece = map part_piece file.parts in
    let clusters : List Piece = clusters_of file in
    let cues : Piece = cues_piece (clusters_at file) file in
    ap (λ t. piece_text (index_of file) ++ t) (
    text_append (parts ++ clusters) (cues ∷ []) ∙ ap (λ t. t ++ text_of (cues ∷ [])) (text_append parts clusters) ∙ append_assoc (text_of parts) (text_of clusters) (text_of (cues ∷ []))
    ∙ ap (λ t. text_of parts ++ (text_of clusters ++ t)) (append-nil (piece_text cues))
    )

pub segment_long : (file : Written) → length (text_of (segment file)) ≡ (cues_at file + 8) + length (cues_from (clusters_at file) (groups file.most file.samples))
segment_long file =
    let index : List ℕ = piece_text (index_of file) in
    let parts : List ℕ = text_of (map part_piece file.parts) in
    let clusters : List ℕ = text_of (clusters_of file) in
    let cues : List ℕ = piece_text (cues_piece (clusters_at file) file) in
    let entries : List ℕ = seeks_from (index_size (length file.parts + 1)) (map part_piece file.parts) ++ seek 0x1C53BB6B (cues_at file) in
    let first : length index ≡ 8 + length entries = omega arith in
    let all : length (index ++ (parts ++ (clusters ++ cues))) ≡ length index + (length parts + (length clusters + length cues))
    = length-append index (parts ++ (clusters ++ cues))
    ∙ ap (λ n. length index + n) (length-append parts (clusters ++ cues) ∙ ap (λ n. length parts + n) (length-append clusters cues)) in
    let last : length cues ≡ 8 + length (cues_from (clusters_at file) (groups file.most file.samples)) = omega arith in
    ap length (segment_text file) ∙ all ∙ omega (arith, first, last, index_long (index_size (length file.parts + 1)) (cues_at file) file.parts)

pub record Sizes (file : Written) : Type 0 where
  pub parts : length (text_of (map part_piece file.parts)) < 2 ^ 56
  pub clusters : length (text_of (clusters_of file)) < 2 ^ 56
  pub whole : (cues_at file + 8) + length (cues_from (clusters_at file) (groups file.most file.samples)) < 2 ^ 56

pub file_long : (file : Written) → length (webm_text file) ≡ (80 + cues_at file) + length (cues_from (clusters_at file) (groups file.most file.samples))
file_long file =
    let inner : List Piece = segment file in
    let head : Piece = record { id = 0x18538067; width = 4; size = length (text_of inner); marks = 8; content = [] } in
    let all : length (webm_text file) ≡ length (piece_text header) + (length (piece_text head) + length (text_of inner))
    = length-append (piece_text header) (piece_text head ++ text_of inner) ∙ ap (λ n. length (piece_text header) + n) (length-append (piece_text head) (text_of inner)) in
    omega (arith, all, segment_long file)

pub sizes_are : (file : Written) → FileFits file → Sizes file
sizes_are file fits =
    let long = file_long file in
    record { parts = omega (arith, long, fits.size); clusters = omega (arith, long, fits.size); whole = omega (arith, long, fits.size) }

pub file_written : (a b c d e f g : Option (List ℕ)) (file : Written) (n : ℕ) → n ≡ (cues_at file + 8) + length (cues_from (clusters_at file) (groups file.most file.samples)) → Appends a b (piece_text header)
    → Appends b c (big_bytes 4 0x18538067 ++ big_bytes 8 (72057594037927936 + n)) → Appends c d (piece_text (index_of file)) → Appends d e (text_of (map part_piece file.parts))
    → Appends e f (text_of (clusters_of file)) → Appends f g (piece_text (cues_piece (clusters_at file) file)) → Appends a g (webm_text file)
file_written a b c d e f g file n is p q r s t u =
    let inner : List ℕ = text_of (segment file) in
    let index : List ℕ = piece_text (index_of file) in
    let parts : List ℕ = text_of (map part_piece file.parts) in
    let clusters : List ℕ = text_of (clusters_of file) in
    let cues : List ℕ = piece_text (cues_piece (clusters_at file) file) in
    let size : n ≡ length inner = is ∙ sym (segment_long file) in
    let head : Appends b c (big_bytes 4 0x18538067 ++ (big_bytes 8 (72057594037927936 + length inner) ++ [])) =
    subst (λ x. Appends b c (big_bytes 4 0x18538067 ++ x)) (sym (append-nil (big_bytes 8 (72057594037927936 + length inner))))
    (subst (λ k. Appends b c (big_bytes 4 0x18538067 ++ big_bytes 8 (72057594037927936 + k))) size q) in
    let rest : Appends c g inner = subst (Appends c g) (sym (segment_text file)) (
    appends_then c d g index (parts ++ (clusters ++ cues)) r (appends_then d e g parts (clusters ++ cues) s (appends_then e f g clusters cues t u))
    ) in
    appends_then a b g (piece_text header) _ p (appends_then b c g _ inner head rest)

-- the same with the positions that are computed before
pub file_is_written : (a b c d e f g : Option (List ℕ)) (file : Written) (n first place last : ℕ) → first ≡ index_size (length file.parts + 1) → place ≡ clusters_at file → last ≡ cues_at file
    → n ≡ (cues_at file + 8) + length (cues_from (clusters_at file) (groups file.most file.samples)) → Appends a b (piece_text header) → Appends b c (big_bytes 4 0x18538067 ++ big_bytes 8 (72057594037927936 + n))
    → Appends c d (piece_text (whole 0x114D9B74 4 (seeks_from first (map part_piece file.parts) ++ seek 0x1C53BB6B last))) → Appends d e (text_of (map part_piece file.parts))
    → Appends e f (text_of (clusters_of file)) → Appends f g (piece_text (whole 0x1C53BB6B 4 (cues_from place (groups file.most file.samples)))) → Appends a g (webm_text file)
file_is_written a b c d e f g file n first place last one two three is p q r s t u =
    let index : Appends c d (piece_text (whole 0x114D9B74 4 (seeks_from (index_size (length file.parts + 1)) (map part_piece file.parts) ++ seek 0x1C53BB6B last))) =
    subst (λ k. Appends c d (piece_text (whole 0x114D9B74 4 (seeks_from k (map part_piece file.parts) ++ seek 0x1C53BB6B last)))) one r in
    let index' : Appends c d (piece_text (index_of file)) =
    subst (λ k. Appends c d (piece_text (whole 0x114D9B74 4 (seeks_from (index_size (length file.parts + 1)) (map part_piece file.parts) ++ seek 0x1C53BB6B k)))) three index in
    let cues : Appends f g (piece_text (cues_piece (clusters_at file) file)) = subst (λ k. Appends f g (piece_text (whole 0x1C53BB6B 4 (cues_from k (groups file.most file.samples))))) two u in
    file_written a b c d e f g file n is p q index' s t cues

-- a part of those that fit
pub part_at : (i : ℕ) (parts : List Part) (other : Part) → PartsFit parts → i < length parts → PartFits (get_or parts i other)
part_at i [] other fit within = absurd (omega (arith, within))
part_at zero (part ∷ parts) other fit within = fit.0
part_at (suc i) (part ∷ parts) other fit within = part_at i parts other fit.1 (omega (arith, within))
