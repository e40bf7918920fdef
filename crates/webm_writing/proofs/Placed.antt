-- The entries of both indexes have the positions of elements.
use Rattle.std.proofs.Common.{◌≡◌, ℕ, ◌+◌, cond, inl, inr, List, [], ◌∷◌, ◌++◌, length, map, refl, sym, ap, ◌∙◌, subst, arith, append_assoc, append-nil, length-append}
use Rattle.std.specs.List.{Contains, flat_map}
use Rattle.std.proofs.lemmas.Bool.{cases_Bool}
use Rattle.std.proofs.lemmas.Grind.{flat_map-append}
use Rattle.std.proofs.lemmas.List.Elements.{Contains-append_right}
use Rattle.byteorder.specs.Endian.{big_bytes}
use Rattle.webm_files.specs.declared.ids.TheConstants.{CLUSTER, TIMESTAMP}
use Rattle.webm_files.specs.declared.elements.Element.{Element}
use Rattle.webm_writing.specs.declared.samples.Sample.{Sample}
use Rattle.webm_writing.specs.Pieces.{AllFit, Piece, element_at, elements_of, piece_text, text_of}
use Rattle.webm_writing.specs.Written.{Written, block_piece, clusters_of, cluster_pieces, cue, cue_of, cues_from, cues_piece, groups, header, index_size, part_piece, pieces_of, seek, seeks_from, segment, whole}
use Rattle.webm_writing.specs.Fitting.{FileFits}
use Rattle.webm_writing.specs.Places.{AllCued, AllSought, AreCues, AreSeeks, Cue, HasCues, HasSeeks, IsFound, Seek, origin}
use Rattle.webm_writing.proofs.Filed.{clusters_at, cues_at, index_of}
use Rattle.webm_writing.proofs.Fitted.{file_fits, text_append}
use Rattle.webm_writing.proofs.Indexed.{index_long}
use Rattle.webm_writing.proofs.ReadPieces.{walk_is}

elements_append : (at : ℕ) (xs ys : List Piece) → elements_of at (xs ++ ys) ≡ elements_of at xs ++ elements_of (at + length (text_of xs)) ys
elements_append at [] ys = let same : at ≡ at + 0 = omega arith in ap (λ n. elements_of n ys) same
elements_append at (x ∷ xs) ys =
    let next : ℕ = at + length (piece_text x) in
    let long : length (piece_text x ++ text_of xs) ≡ length (piece_text x) + length (text_of xs) = length-append (piece_text x) (text_of xs) in
    let same : next + length (text_of xs) ≡ at + length (piece_text x ++ text_of xs) = omega (arith, long) in
    ap (λ more. element_at at x ∷ more) (elements_append next xs ys ∙ ap (λ n. elements_of next xs ++ elements_of n ys) same)

-- a piece after others is found at its position
found : (all front rest : List Piece) (piece : Piece) (n : ℕ) → AllFit all → all ≡ front ++ (piece ∷ rest) → n ≡ length (text_of front) → IsFound (text_of all) piece.id n
found all front rest piece n fit is here =
    let at : ℕ = 0 + length (text_of front) in
    let later : List Element = elements_of (at + length (piece_text piece)) rest in
    let first : Contains (element_at at piece ∷ later) (element_at at piece) = (0, omega arith, refl) in
    let among : Contains (elements_of 0 front ++ (element_at at piece ∷ later)) (element_at at piece) = Contains-append_right (elements_of 0 front) (element_at at piece ∷ later) (element_at at piece) first in
    let same : elements_of 0 all ≡ elements_of 0 front ++ (element_at at piece ∷ later) = ap (elements_of 0) is ∙ elements_append 0 front (piece ∷ rest) in
    record {
      walk = record { elements = elements_of 0 all; end = length (text_of all) };
      is = walk_is all fit;
      element = element_at at piece;
      among = subst (λ es. Contains es (element_at at piece)) (sym same) among;
      name = refl;
      begins = omega (arith, here);
    }

-- entries of pieces that follow each other
sought : (all front pieces rest : List Piece) (at : ℕ) → AllFit all → all ≡ front ++ (pieces ++ rest) → origin + at ≡ length (text_of front) → AreSeeks (text_of all) (seeks_from at pieces)
sought all front [] rest at fit is here = record { entries = []; spelled = refl; sought = tt }
sought all front (piece ∷ pieces) rest at fit is here =
    let next : ℕ = at + length (piece_text piece) in
    let longer : List Piece = front ++ (piece ∷ []) in
    let moved : all ≡ longer ++ (pieces ++ rest) = is ∙ sym (append_assoc front (piece ∷ []) (pieces ++ rest)) in
    let long : origin + next ≡ length (text_of longer) = omega (arith, here, ap length (text_append front (piece ∷ [])), length-append (text_of front) (text_of (piece ∷ [])), ap length (append-nil (piece_text piece))) in
    let more = sought all longer pieces rest next fit moved long in
    record {
      entries = record { name = piece.id; place = at } ∷ more.entries;
      spelled = ap (λ t. seek piece.id at ++ t) more.spelled;
      sought = (found all front (pieces ++ rest) piece (origin + at) fit is here, more.sought);
    }

all_sought : (file : List ℕ) (xs ys : List Seek) → AllSought file xs → AllSought file ys → AllSought file (xs ++ ys)
all_sought file [] ys a b = b
all_sought file (x ∷ xs) ys a b = (a.0, all_sought file xs ys a.1 b)

seeks_join : (file a b : List ℕ) → AreSeeks file a → AreSeeks file b → AreSeeks file (a ++ b)
seeks_join file a b x y = record {
  entries = x.entries ++ y.entries;
  spelled = ap (λ t. t ++ b) x.spelled ∙ ap (λ t. flat_map (λ (entry : Seek). seek entry.name entry.place) x.entries ++ t) y.spelled
      ∙ sym (flat_map-append (λ (entry : Seek). seek entry.name entry.place) x.entries y.entries);
  sought = all_sought file x.entries y.entries x.sought y.sought;
}

all_cued : (file : List ℕ) (xs ys : List Cue) → AllCued file xs → AllCued file ys → AllCued file (xs ++ ys)
all_cued file [] ys a b = b
all_cued file (x ∷ xs) ys a b = (a.0, all_cued file xs ys a.1 b)

cues_join : (file a b : List ℕ) → AreCues file a → AreCues file b → AreCues file (a ++ b)
cues_join file a b x y = record {
  entries = x.entries ++ y.entries;
  spelled = ap (λ t. t ++ b) x.spelled ∙ ap (λ t. flat_map (λ (entry : Cue). cue entry.track entry.stamp entry.place) x.entries ++ t) y.spelled
      ∙ sym (flat_map-append (λ (entry : Cue). cue entry.track entry.stamp entry.place) x.entries y.entries);
  cued = all_cued file x.entries y.entries x.cued y.cued;
}

-- the entry of one cluster, and those of clusters that follow each other
one_cued : (all front rest : List Piece) (group : List Sample) (at : ℕ) → AllFit all → all ≡ front ++ (cluster_pieces group ++ rest) → origin + at ≡ length (text_of front) → AreCues (text_of all) (cue_of at group)
one_cued all front rest [] at fit is here = record { entries = []; spelled = refl; cued = tt }
one_cued all front rest (sample ∷ samples) at fit is here =
    let inner : List Piece = whole TIMESTAMP 1 (big_bytes 8 sample.stamp) ∷ map (block_piece sample.stamp) (sample ∷ samples) in
    let head : Piece = record { id = CLUSTER; width = 4; size = length (text_of inner); marks = 8; content = [] } in
    let entry : Cue = record { track = sample.track; stamp = sample.stamp; place = at } in
    let begins : IsFound (text_of all) CLUSTER (origin + at) = found all front (inner ++ rest) head (origin + at) fit is here in
    let one : AreCues (text_of all) (cue sample.track sample.stamp at) = record { entries = entry ∷ []; spelled = sym (append-nil (cue sample.track sample.stamp at)); cued = (begins, tt) } in
    let none : AreCues (text_of all) [] = record { entries = []; spelled = refl; cued = tt } in elim (cases_Bool sample.is_key) [
      | inl e ↦ subst (λ b. AreCues (text_of all) (cond b (cue sample.track sample.stamp at) [])) (sym e) one
      | inr e ↦ subst (λ b. AreCues (text_of all) (cond b (cue sample.track sample.stamp at) [])) (sym e) none
    ]

cued : (all front rest : List Piece) (clusters : List (List Sample)) (at : ℕ) → AllFit all → all ≡ front ++ (flat_map cluster_pieces clusters ++ rest) → origin + at ≡ length (text_of front)
    → AreCues (text_of all) (cues_from at clusters)
cued all front rest [] at fit is here = record { entries = []; spelled = refl; cued = tt }
cued all front rest (group ∷ more) at fit is here =
    let pieces : List Piece = cluster_pieces group in
    let others : List Piece = flat_map cluster_pieces more in
    let next : ℕ = at + length (text_of pieces) in
    let longer : List Piece = front ++ pieces in
    let split : all ≡ front ++ (pieces ++ (others ++ rest)) = is ∙ ap (λ t. front ++ t) (append_assoc pieces others rest) in
    let moved : all ≡ longer ++ (others ++ rest) = split ∙ sym (append_assoc front pieces (others ++ rest)) in
    let long : origin + next ≡ length (text_of longer) = omega (arith, here, ap length (text_append front pieces), length-append (text_of front) (text_of pieces)) in
    cues_join (text_of all) (cue_of at group) (cues_from next more) (one_cued all front (others ++ rest) group at fit split here) (cued all longer rest more next fit moved long)

-- the pieces before the parts, and how long they are with what follows
abbrev segment_head : Written → Piece
segment_head file = record { id = 0x18538067; width = 4; size = length (text_of (segment file)); marks = 8; content = [] }

front_long : (file : Written) (pieces : List Piece) → length (text_of (header ∷ segment_head file ∷ index_of file ∷ pieces)) ≡ (origin + index_size (length file.parts + 1)) + length (text_of pieces)
front_long file pieces =
    let index : Piece = index_of file in
    let content : List ℕ = index.content in
    let rest : List ℕ = text_of pieces in
    let third : length (piece_text index ++ rest) ≡ (8 + length content) + length rest = length-append (piece_text index) rest ∙ omega arith in
    let second : length (piece_text (segment_head file) ++ (piece_text index ++ rest)) ≡ 12 + length (piece_text index ++ rest) = omega arith in
    let first : length (piece_text header ++ (piece_text (segment_head file) ++ (piece_text index ++ rest))) ≡ length (piece_text header) + length (piece_text (segment_head file) ++ (piece_text index ++ rest))
    = length-append (piece_text header) (piece_text (segment_head file) ++ (piece_text index ++ rest)) in
    omega (arith, first, second, third, index_long (index_size (length file.parts + 1)) (cues_at file) file.parts)

pub file_seeks : (file : Written) → FileFits file → HasSeeks file
file_seeks file fits =
    let parts : List Piece = map part_piece file.parts in
    let clusters : List Piece = clusters_of file in
    let cues : Piece = cues_piece (clusters_at file) file in
    let index : Piece = index_of file in
    let first : ℕ = index_size (length file.parts + 1) in
    let all : List Piece = pieces_of file in
    let fit : AllFit all = file_fits file fits in
    let front : List Piece = header ∷ segment_head file ∷ index ∷ [] in
    let split : all ≡ front ++ (parts ++ (clusters ++ cues ∷ [])) = ap (λ t. front ++ t) (append_assoc parts clusters (cues ∷ [])) in
    let of_parts : AreSeeks (text_of all) (seeks_from first parts) = sought all front parts (clusters ++ cues ∷ []) first fit split (omega (arith, front_long file [])) in
    let both : length (text_of (parts ++ clusters)) ≡ length (text_of parts) + length (text_of clusters) = ap length (text_append parts clusters) ∙ length-append (text_of parts) (text_of clusters) in
    let last : IsFound (text_of all) cues.id (origin + cues_at file) = found all (header ∷ segment_head file ∷ index ∷ (parts ++ clusters)) [] cues (origin + cues_at file) fit refl (omega (arith, both, front_long file (parts ++ clusters))) in
    let entry : Seek = record { name = cues.id; place = cues_at file } in
    let of_cues : AreSeeks (text_of all) (seek cues.id (cues_at file)) = record { entries = entry ∷ []; spelled = sym (append-nil (seek cues.id (cues_at file))); sought = (last, tt) } in
    record { seeks = index; others = (parts ++ clusters) ++ cues ∷ []; first = refl; name = refl; are = seeks_join (text_of all) (seeks_from first parts) (seek cues.id (cues_at file)) of_parts of_cues }

pub file_cues : (file : Written) → FileFits file → HasCues file
file_cues file fits =
    let parts : List Piece = map part_piece file.parts in
    let clusters : List Piece = clusters_of file in
    let cues : Piece = cues_piece (clusters_at file) file in
    let index : Piece = index_of file in
    let all : List Piece = pieces_of file in
    let fit : AllFit all = file_fits file fits in
    let front : List Piece = header ∷ segment_head file ∷ index ∷ parts in
    let split : all ≡ front ++ (clusters ++ cues ∷ []) = ap (λ t. header ∷ segment_head file ∷ index ∷ t) (append_assoc parts clusters (cues ∷ [])) in
    record {
      front = header ∷ segment_head file ∷ index ∷ (parts ++ clusters);
      cues = cues;
      last = refl;
      name = refl;
      are = cued all front (cues ∷ []) (groups file.most file.samples) (clusters_at file) fit split (omega (arith, front_long file parts));
    }
