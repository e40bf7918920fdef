-- What is written in steps.
use Rattle.std.proofs.Common.{unwrap_or, Bool, true, false, cond, nat_lt, map, sum_by, length-append, ◌≡◌, ◌<◌, zero, suc, get_or, ℕ, ◌+◌, ◌^◌, ◌≤◌, List, [], ◌∷◌, ◌++◌, length, Option, Some, None, refl, sym, ap, ◌∙◌, subst, arith, append_assoc, append-nil, OnOk, Result, Ok, Err}
use Rattle.std.proofs.lemmas.List.Sums.{sum_by-cons}
use Rattle.std.specs.List.{slice_get}
use Rattle.std.specs.Io.KnownBytes.{Appends}
use Rattle.byteorder.specs.Endian.{big_bytes}
use Rattle.webm_writing.specs.declared.samples.Sample.{Sample}
use Rattle.webm_writing.specs.Fitting.{AllStay, GroupFits, SampleFits, SamplesFit, Stays}
use Rattle.webm_files.specs.declared.ids.TheConstants.{TIMESTAMP}
use Rattle.webm_writing.specs.Pieces.{Piece, piece_text, text_of}
use Rattle.webm_writing.specs.Written.{block_bytes, block_content, block_length, block_marks, block_piece, cluster_bytes, cluster_pieces, whole}

pub appends_then : (a b c : Option (List ℕ)) (xs ys : List ℕ) → Appends a b xs → Appends b c ys → Appends a c (xs ++ ys)
appends_then None b c xs ys p q = tt
appends_then (Some a) None c xs ys p q = absurd p
appends_then (Some a) (Some b) None xs ys p q = absurd q
appends_then (Some a) (Some b) (Some c) xs ys p q = q ∙ ap (λ t. t ++ ys) p ∙ append_assoc a xs ys

pub on_ok : {A E : Type 0} (r : Result A E) {P Q : Type 0} → (P → Q) → OnOk r P → OnOk r Q
on_ok (Ok a) f p = f p
on_ok (Err e) f p = tt

pub opened_written : (a b c : Option (List ℕ)) (id n : ℕ) → Appends a b (big_bytes 4 id) → Appends b c (big_bytes 8 n) → Appends a c (big_bytes 4 id ++ big_bytes 8 n)
opened_written a b c id n p q = appends_then a b c (big_bytes 4 id) (big_bytes 8 n) p q

pub block_written : (a b c : Option (List ℕ)) (base : ℕ) (sample : Sample) (n : ℕ) → n ≡ 4 + length sample.bytes → Appends a b (163 ∷ block_length n) → Appends b c (block_content base sample)
    → Appends a c (piece_text (block_piece base sample))
block_written a b c base sample n is p q =
    let long : n ≡ length (block_content base sample) = is ∙ omega arith in
    appends_then a b c (163 ∷ block_length (length (block_content base sample))) (block_content base sample) (subst (λ k. Appends a b (163 ∷ block_length k)) long p) q

-- a sample of a cluster
pub stays_at : (base i : ℕ) (samples : List Sample) (other : Sample) → AllStay base samples → i < length samples → Stays base (get_or samples i other)
stays_at base i [] other stay within = absurd (omega (arith, within))
stays_at base zero (sample ∷ samples) other stay within = stay.0
stays_at base (suc i) (sample ∷ samples) other stay within = stays_at base i samples other stay.1 (omega (arith, within))

pub sample_at : (i : ℕ) (samples : List Sample) (other : Sample) → SamplesFit samples → i < length samples → SampleFits (get_or samples i other)
sample_at i [] other fit within = absurd (omega (arith, within))
sample_at zero (sample ∷ samples) other fit within = fit.0
sample_at (suc i) (sample ∷ samples) other fit within = sample_at i samples other fit.1 (omega (arith, within))

stay_fit : (base : ℕ) (samples : List Sample) → AllStay base samples → SamplesFit samples
stay_fit base [] stay = tt
stay_fit base (sample ∷ samples) stay = (stay.0.fits, stay_fit base samples stay.1)

pub group_samples : (samples : List Sample) → GroupFits samples → SamplesFit samples
group_samples [] fit = tt
group_samples (sample ∷ samples) fit = stay_fit sample.stamp (sample ∷ samples) fit

-- the bytes of the blocks of a cluster
marked_size : (b : Bool) (x : ℕ) (content : List ℕ) → length (big_bytes 1 163 ++ (big_bytes (cond b 4 8) x ++ content)) ≡ (1 + cond b 4 8) + length content
marked_size true x content = omega arith
marked_size false x content = omega arith

block_size : (base : ℕ) (sample : Sample) → length (piece_text (block_piece base sample)) ≡ block_bytes sample
block_size base sample =
    let content : List ℕ = block_content base sample in
    let long : length content ≡ 4 + length sample.bytes = omega arith in
    marked_size (nat_lt (length content + 1) 268435456) (128 ^ block_marks (length content) + length content) content
    ∙ ap (λ n. (1 + block_marks n) + n) long

blocks_size : (base : ℕ) (samples : List Sample) → length (text_of (map (block_piece base) samples)) ≡ sum_by block_bytes samples
blocks_size base [] = refl
blocks_size base (sample ∷ samples) =
    length-append (piece_text (block_piece base sample)) (text_of (map (block_piece base) samples))
    ∙ ap (λ n. n + length (text_of (map (block_piece base) samples))) (block_size base sample) ∙ ap (λ n. block_bytes sample + n) (blocks_size base samples)
    ∙ sym (sum_by-cons block_bytes sample samples)

pub cluster_written : (a b c d : Option (List ℕ)) (first sample : Sample) (samples : List Sample) (n : ℕ) → first ≡ sample → n ≡ cluster_bytes (sample ∷ samples)
    → Appends a b (big_bytes 4 524531317 ++ big_bytes 8 (72057594037927936 + n)) → Appends b c (piece_text (whole TIMESTAMP 1 (big_bytes 8 first.stamp)))
    → Appends c d (text_of (map (block_piece first.stamp) (sample ∷ samples))) → Appends a d (text_of (cluster_pieces (sample ∷ samples)))
cluster_written a b c d first sample samples n same is p q r =
    let time : Piece = whole TIMESTAMP 1 (big_bytes 8 sample.stamp) in
    let blocks : List Piece = map (block_piece sample.stamp) (sample ∷ samples) in
    let size : length (text_of (time ∷ blocks)) ≡ cluster_bytes (sample ∷ samples) = length-append (piece_text time) (text_of blocks) ∙ omega (arith, blocks_size sample.stamp (sample ∷ samples)) in
    let head : Appends a b (big_bytes 4 524531317 ++ (big_bytes 8 (72057594037927936 + length (text_of (time ∷ blocks))) ++ [])) =
    subst (λ t. Appends a b (big_bytes 4 524531317 ++ t)) (sym (append-nil (big_bytes 8 (72057594037927936 + length (text_of (time ∷ blocks))))))
    (subst (λ k. Appends a b (big_bytes 4 524531317 ++ big_bytes 8 (72057594037927936 + k))) (is ∙ sym size) p) in
    let q' = subst (λ f. Appends b c (piece_text (whole TIMESTAMP 1 (big_bytes 8 f.stamp)))) same q in
    let r' = subst (λ f. Appends c d (text_of (map (block_piece f.stamp) (sample ∷ samples)))) same r in
    appends_then a b d _ (text_of (time ∷ blocks)) head (appends_then b c d (piece_text time) (text_of blocks) q' r')

pub some_is : (first sample : Sample) → Some first ≡ Some sample → first ≡ sample
some_is first sample e = ap (λ (o : Option Sample). unwrap_or o first) e

pub cluster_is_written : (a b c d : Option (List ℕ)) (first : Sample) (samples : List Sample) (n : ℕ) → Some first ≡ slice_get samples 0 → n ≡ cluster_bytes samples
    → Appends a b (big_bytes 4 524531317 ++ big_bytes 8 (72057594037927936 + n)) → Appends b c (piece_text (whole TIMESTAMP 1 (big_bytes 8 first.stamp)))
    → Appends c d (text_of (map (block_piece first.stamp) samples)) → Appends a d (text_of (cluster_pieces samples))
cluster_is_written a b c d first [] n same is p q r = let wrong : Some first ≡ None = same in (cc)
cluster_is_written a b c d first (sample ∷ samples) n same is p q r = cluster_written a b c d first sample samples n (some_is first sample same) is p q r

pub cluster_long : (sample : Sample) (samples : List Sample) → length (text_of (cluster_pieces (sample ∷ samples))) ≡ 12 + cluster_bytes (sample ∷ samples)
cluster_long sample samples =
    let time : Piece = whole TIMESTAMP 1 (big_bytes 8 sample.stamp) in
    let blocks : List Piece = map (block_piece sample.stamp) (sample ∷ samples) in
    let head : Piece = record { id = 524531317; width = 4; size = length (text_of (time ∷ blocks)); marks = 8; content = [] } in
    let size : length (text_of (time ∷ blocks)) ≡ cluster_bytes (sample ∷ samples) = length-append (piece_text time) (text_of blocks) ∙ omega (arith, blocks_size sample.stamp (sample ∷ samples)) in
    omega (arith, size, length-append (piece_text head) (text_of (time ∷ blocks)))

pub cluster_size : (sample : Sample) (samples : List Sample) → cluster_bytes (sample ∷ samples) ≤ length (text_of (cluster_pieces (sample ∷ samples)))
cluster_size sample samples = omega (arith, cluster_long sample samples)
