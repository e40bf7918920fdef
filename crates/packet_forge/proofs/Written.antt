-- Pairs written in sequence.
use Rattle.std.proofs.Common.{◌≡◌, ℕ, suc, ◌+◌, ◌*◌, ◌<◌, Bool, false, List, [], ◌∷◌, ◌++◌, length, take, get_or, refl, ap, sym, ◌∙◌, add-one}
use Rattle.std.proofs.lemmas.List.{take_more, map-append}
use Rattle.bool_coder.specs.CodeText.{Code, no_code, written, all_written, text_of}
use Rattle.vp8_tables.specs.Tables.{TableEntries}
use Rattle.pixel_planes.specs.Pictures.{macroblocks}
use Rattle.packet_forge.specs.Packets.{blank_partition, hold_partition}
use Rattle.packet_forge.specs.Pairs.{zeros_at, zeros, skip_pairs, reference_pairs, vector_updates, blank_header, hold_header, blank_macroblock, hold_macroblock, macroblock_pairs}

pub written_append : (xs ys : List (Bool × ℕ)) (c : Code) → all_written (xs ++ ys) c ≡ all_written ys (all_written xs c)
written_append [] ys c = refl
written_append (x ∷ xs) ys c = written_append xs ys (written x.0 x.1 c)

-- more is appended to what was written
pub written_more : (xs ys : List (Bool × ℕ)) (a b c : Code) → b ≡ all_written xs a → c ≡ all_written ys b → c ≡ all_written (xs ++ ys) a
written_more xs ys a b c first second = second ∙ ap (all_written ys) first ∙ sym (written_append xs ys a)

-- one more pair
pub pairs_more : (pairs : List (Bool × ℕ)) (i : ℕ) (a b c : Code) → i < length pairs → b ≡ all_written (take i pairs) a → c ≡ written (get_or pairs i (false, 0)).0 (get_or pairs i (false, 0)).1 b → c ≡ all_written (take (i + 1) pairs) a
pairs_more pairs i a b c lt first second =
    written_more (take i pairs) (get_or pairs i (false, 0) ∷ []) a b c first second ∙ ap (λ xs. all_written xs a) (sym (take_more pairs i (false, 0) lt))

-- one more zero
pub zeros_more : (probabilities : List ℕ) (i : ℕ) (a b c : Code) → i < length probabilities → b ≡ all_written (zeros_at (take i probabilities)) a → c ≡ written false (get_or probabilities i 0) b → c ≡ all_written (zeros_at (take (i + 1) probabilities)) a
zeros_more probabilities i a b c lt first second =
    let next : zeros_at (take (i + 1) probabilities) ≡ zeros_at (take i probabilities) ++ (false, get_or probabilities i 0) ∷ [] = ap zeros_at (take_more probabilities i 0 lt) ∙ map-append (λ p. (false, p)) (take i probabilities) (get_or probabilities i 0 ∷ []) in
    written_more (zeros_at (take i probabilities)) ((false, get_or probabilities i 0) ∷ []) a b c first second ∙ ap (λ xs. all_written xs a) (sym next)

pub macroblock_pairs-zero : (pairs : ℕ → List (Bool × ℕ)) → macroblock_pairs pairs 0 ≡ []
unfolding macroblock_pairs
macroblock_pairs-zero pairs = refl

pub macroblock_pairs-suc : (pairs : ℕ → List (Bool × ℕ)) (n : ℕ) → macroblock_pairs pairs (suc n) ≡ macroblock_pairs pairs n ++ pairs n
unfolding macroblock_pairs
macroblock_pairs-suc pairs n = refl

-- one more macroblock
pub macroblocks_more : (pairs : ℕ → List (Bool × ℕ)) (n : ℕ) (a b c : Code) → b ≡ all_written (macroblock_pairs pairs n) a → c ≡ all_written (pairs n) b → c ≡ all_written (macroblock_pairs pairs (n + 1)) a
macroblocks_more pairs n a b c first second =
    let next : macroblock_pairs pairs (n + 1) ≡ macroblock_pairs pairs n ++ pairs n = rw add-one (macroblock_pairs-suc pairs n) in
    written_more (macroblock_pairs pairs n) (pairs n) a b c first second ∙ ap (λ xs. all_written xs a) (sym next)

pub macroblocks_none : (pairs : ℕ → List (Bool × ℕ)) (a : Code) → a ≡ all_written (macroblock_pairs pairs 0) a
macroblocks_none pairs a = ap (λ xs. all_written xs a) (sym (macroblock_pairs-zero pairs))

-- the parts of the headers
pub blank_header_written : (updates : List ℕ) (a b c d : Code) → b ≡ all_written (zeros 29) a → c ≡ all_written (zeros_at updates) b → d ≡ all_written skip_pairs c → d ≡ all_written (blank_header updates) a
unfolding blank_header
blank_header_written updates a b c d first second third =
    written_more (zeros 29 ++ zeros_at updates) skip_pairs a c d (written_more (zeros 29) (zeros_at updates) a b c first second) third

pub hold_header_written : (updates : List ℕ) (a b c d e f : Code) → b ≡ all_written (zeros 36) a → c ≡ all_written (zeros_at updates) b → d ≡ all_written skip_pairs c → e ≡ all_written reference_pairs d → f ≡ all_written (zeros_at vector_updates) e → f ≡ all_written (hold_header updates) a
unfolding hold_header
hold_header_written updates a b c d e f first second third fourth fifth =
    written_more (zeros 36 ++ zeros_at updates ++ skip_pairs ++ reference_pairs) (zeros_at vector_updates) a e f
    (written_more (zeros 36 ++ zeros_at updates ++ skip_pairs) reference_pairs a d e
    (written_more (zeros 36 ++ zeros_at updates) skip_pairs a c d (written_more (zeros 36) (zeros_at updates) a b c first second) third) fourth) fifth

-- the whole partitions
pub blank_partition_written : (tables : TableEntries) (width height columns rows : ℕ) (updates : List ℕ) (a b c : Code) (bytes : List ℕ) → updates ≡ tables.updates → columns ≡ macroblocks width → rows ≡ macroblocks height → a ≡ no_code → b ≡ all_written (blank_header updates) a → c ≡ all_written (macroblock_pairs (λ place. blank_macroblock) (columns * rows)) b → bytes ≡ text_of c → bytes ≡ blank_partition tables width height
unfolding blank_partition
blank_partition_written tables width height columns rows updates a b c bytes updates_are columns_are rows_are start first second text =
    let whole : c ≡ all_written (blank_header updates ++ macroblock_pairs (λ place. blank_macroblock) (columns * rows)) a = written_more (blank_header updates) (macroblock_pairs (λ place. blank_macroblock) (columns * rows)) a b c first second in
    rw (text, whole, start, updates_are, columns_are, rows_are) refl

pub hold_partition_written : (tables : TableEntries) (width height columns rows : ℕ) (updates : List ℕ) (a b c : Code) (bytes : List ℕ) → updates ≡ tables.updates → columns ≡ macroblocks width → rows ≡ macroblocks height → a ≡ no_code → b ≡ all_written (hold_header updates) a → c ≡ all_written (macroblock_pairs (hold_macroblock columns) (columns * rows)) b → bytes ≡ text_of c → bytes ≡ hold_partition tables width height
unfolding hold_partition
hold_partition_written tables width height columns rows updates a b c bytes updates_are columns_are rows_are start first second text =
    let whole : c ≡ all_written (hold_header updates ++ macroblock_pairs (hold_macroblock columns) (columns * rows)) a = written_more (hold_header updates) (macroblock_pairs (hold_macroblock columns) (columns * rows)) a b c first second in
    rw (text, whole, start, updates_are, columns_are, rows_are) refl
