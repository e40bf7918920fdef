-- The indexes as they are written.
use Rattle.std.proofs.Common.{◌≡◌, ℕ, ◌+◌, ◌*◌, ◌<◌, ◌≤◌, true, false, cond, List, [], ◌∷◌, ◌++◌, length, get_or, drop, take, map, Option, Some, None, sym, ap, ◌∙◌, subst, arith, length-append}
use Rattle.std.specs.List.{slice_get}
use Rattle.std.specs.Io.KnownBytes.{Appends}
use Rattle.std.proofs.lemmas.List.{at_drop_more, at_drop_all}
use Rattle.byteorder.specs.Endian.{big_bytes}
use Rattle.webm_writing.specs.declared.samples.Part.{Part}
use Rattle.webm_writing.specs.declared.samples.Sample.{Sample}
use Rattle.webm_writing.specs.Pieces.{piece_text, text_of}
use Rattle.webm_writing.specs.Written.{cluster_bytes, cluster_pieces, cue, cue_of, cues_from, groups, part_piece, seek, seeks_from, whole}
use Rattle.webm_writing.proofs.Composed.{appends_then, some_is}
use Rattle.webm_writing.proofs.Fitted.{parts_count, seek_size, seeks_size}
use Rattle.webm_writing.proofs.Grouped.{Has, has_end, has_step}
use Rattle.webm_writing.proofs.Lengths.{group_long}

-- an element with a name of four bytes
pub whole_written : (a b c : Option (List ℕ)) (id n : ℕ) (content : List ℕ) → n ≡ length content → Appends a b (big_bytes 4 id ++ big_bytes 4 (268435456 + n)) → Appends b c content → Appends a c (piece_text (whole id 4 content))
whole_written a b c id n content is p q =
    appends_then a b c (big_bytes 4 id ++ big_bytes 4 (268435456 + length content)) content (subst (λ k. Appends a b (big_bytes 4 id ++ big_bytes 4 (268435456 + k))) is p) q

-- the entries of the parts from an index on
seeks_next : (at : ℕ) (parts : List Part) (i : ℕ) (part : Part) → i < length parts → part ≡ get_or parts i part
    → seeks_from at (map part_piece (drop i parts)) ≡ seek part.id at ++ seeks_from (at + length (piece_text (part_piece part))) (map part_piece (drop (i + 1) parts))
seeks_next at parts i part within is =
    at_drop_more (λ ps. seeks_from at (map part_piece ps)) parts i part within ∙ ap (λ p. seeks_from at (map part_piece (p ∷ drop (i + 1) parts))) (sym is)

pub seeks_step : (old now next : Option (List ℕ)) (text : List ℕ) (at after : ℕ) (parts : List Part) (i : ℕ) (part : Part) → i < length parts → part ≡ get_or parts i part
    → after ≡ at + length (piece_text (part_piece part)) → Has old now text (seeks_from at (map part_piece (drop i parts))) → Appends now next (seek part.id at)
    → Has old next text (seeks_from after (map part_piece (drop (i + 1) parts)))
seeks_step old now next text at after parts i part within is moved has wrote =
    let rest : List ℕ = seeks_from (at + length (piece_text (part_piece part))) (map part_piece (drop (i + 1) parts)) in
    let split : Has old now text (seek part.id at ++ rest) = subst (Has old now text) (seeks_next at parts i part within is) has in
    subst (λ n. Has old next text (seeks_from n (map part_piece (drop (i + 1) parts)))) (sym moved) (has_step old now next text (seek part.id at) rest split wrote)

pub seeks_end : (old now : Option (List ℕ)) (text : List ℕ) (at : ℕ) (parts : List Part) (i : ℕ) → length parts ≤ i → Has old now text (seeks_from at (map part_piece (drop i parts))) → Appends old now text
seeks_end old now text at parts i over has = has_end old now text (subst (Has old now text) (at_drop_all (λ ps. seeks_from at (map part_piece ps)) parts i over) has)

-- the index of the parts and of the cues
pub index_long : (first cues : ℕ) (parts : List Part) → length (seeks_from first (map part_piece parts) ++ seek 0x1C53BB6B cues) ≡ 30 * (length parts + 1)
index_long first cues parts =
    length-append (seeks_from first (map part_piece parts)) (seek 0x1C53BB6B cues) ∙ omega (arith, seeks_size first (map part_piece parts), parts_count parts, seek_size 0x1C53BB6B cues)

pub index_written : (a b c d : Option (List ℕ)) (first cues n : ℕ) (parts : List Part) → n ≡ 30 * (length parts + 1) → Appends a b (big_bytes 4 0x114D9B74 ++ big_bytes 4 (268435456 + n))
    → Appends b c (seeks_from first (map part_piece parts)) → Appends c d (seek 0x1C53BB6B cues)
    → Appends a d (piece_text (whole 0x114D9B74 4 (seeks_from first (map part_piece parts) ++ seek 0x1C53BB6B cues)))
index_written a b c d first cues n parts is p q r =
    let seeks : List ℕ = seeks_from first (map part_piece parts) in
    let last : List ℕ = seek 0x1C53BB6B cues in
    whole_written a b d 0x114D9B74 n (seeks ++ last) (is ∙ sym (index_long first cues parts)) p (appends_then b c d seeks last q r)

-- the entry of a cluster
cue_is : (at : ℕ) (first : Sample) (samples : List Sample) → Some first ≡ slice_get samples 0 → cue_of at samples ≡ cond first.is_key (cue first.track first.stamp at) []
cue_is at first [] same = let wrong : Some first ≡ None = same in (cc)
cue_is at first (sample ∷ samples) same = ap (λ (s : Sample). cond s.is_key (cue s.track s.stamp at) []) (sym (some_is first sample same))

pub cue_then : (a b : Option (List ℕ)) (at : ℕ) (first : Sample) (samples : List Sample) → Some first ≡ slice_get samples 0 → first.is_key ≡ true → Appends a b (cue first.track first.stamp at) → Appends a b (cue_of at samples)
cue_then a b at first samples same test wrote = subst (Appends a b) (sym (cue_is at first samples same ∙ ap (λ k. cond k (cue first.track first.stamp at) []) test)) wrote

pub cue_else : (at : ℕ) (first : Sample) (samples : List Sample) → Some first ≡ slice_get samples 0 → first.is_key ≡ false → cue_of at samples ≡ []
cue_else at first samples same test = cue_is at first samples same ∙ ap (λ k. cond k (cue first.track first.stamp at) []) test

-- the entries of the clusters that are left
pub cues_step : (old now next : Option (List ℕ)) (text : List ℕ) (most end at after : ℕ) (samples group others : List Sample) → 0 < end → end ≤ length samples
    → groups most samples ≡ take end samples ∷ groups most (drop end samples) → group ≡ take end samples → others ≡ drop end samples → after ≡ at + (12 + cluster_bytes group)
    → Has old now text (cues_from at (groups most samples)) → Appends now next (cue_of at group) → Has old next text (cues_from after (groups most others))
cues_step old now next text most end at after samples group others least within split front back moved has wrote =
    let first : List Sample = take end samples in
    let place : ℕ = at + length (text_of (cluster_pieces first)) in
    let rest : List ℕ = cues_from place (groups most (drop end samples)) in
    let long : after ≡ place = moved ∙ ap (λ s. at + (12 + cluster_bytes s)) front ∙ ap (λ n. at + n) (sym (group_long end samples least within)) in
    let here : Has old now text (cue_of at first ++ rest) = subst (λ g. Has old now text (cues_from at g)) split has in
    let done : Has old next text rest = has_step old now next text (cue_of at first) rest here (subst (λ s. Appends now next (cue_of at s)) front wrote) in
    subst (λ n. Has old next text (cues_from n (groups most others))) (sym long) (subst (λ s. Has old next text (cues_from place (groups most s))) (sym back) done)

pub cues_end : (old now : Option (List ℕ)) (text : List ℕ) (most at : ℕ) (samples : List Sample) → length samples ≡ 0 → Has old now text (cues_from at (groups most samples)) → Appends old now text
cues_end old now text most at [] none has = has_end old now text has
cues_end old now text most at (sample ∷ samples) none has = absurd (omega (arith, none))

-- entries in steps
pub seek_written : (a b c d e : Option (List ℕ)) (id at : ℕ) → Appends a b (77 ∷ 187 ∷ 16 ∷ 0 ∷ 0 ∷ 24 ∷ 83 ∷ 171 ∷ 16 ∷ 0 ∷ 0 ∷ 4 ∷ []) → Appends b c (big_bytes 4 id) → Appends c d (83 ∷ 172 ∷ 16 ∷ 0 ∷ 0 ∷ 8 ∷ [])
    → Appends d e (big_bytes 8 at) → Appends a e (seek id at)
seek_written a b c d e id at p q r s =
    let head : List ℕ = 77 ∷ 187 ∷ 16 ∷ 0 ∷ 0 ∷ 24 ∷ 83 ∷ 171 ∷ 16 ∷ 0 ∷ 0 ∷ 4 ∷ [] in
    let place : List ℕ = 83 ∷ 172 ∷ 16 ∷ 0 ∷ 0 ∷ 8 ∷ [] in
    appends_then a b e head (big_bytes 4 id ++ (place ++ big_bytes 8 at)) p (appends_then b c e (big_bytes 4 id) (place ++ big_bytes 8 at) q (appends_then c d e place (big_bytes 8 at) r s))

pub cue_written : (a b c d e f g : Option (List ℕ)) (track stamp at : ℕ) → Appends a b (187 ∷ 16 ∷ 0 ∷ 0 ∷ 37 ∷ 179 ∷ 16 ∷ 0 ∷ 0 ∷ 8 ∷ []) → Appends b c (big_bytes 8 stamp)
    → Appends c d (183 ∷ 16 ∷ 0 ∷ 0 ∷ 19 ∷ 247 ∷ 16 ∷ 0 ∷ 0 ∷ 1 ∷ []) → Appends d e (track ∷ []) → Appends e f (241 ∷ 16 ∷ 0 ∷ 0 ∷ 8 ∷ []) → Appends f g (big_bytes 8 at) → Appends a g (cue track stamp at)
cue_written a b c d e f g track stamp at p q r s t u =
    let head : List ℕ = 187 ∷ 16 ∷ 0 ∷ 0 ∷ 37 ∷ 179 ∷ 16 ∷ 0 ∷ 0 ∷ 8 ∷ [] in
    let middle : List ℕ = 183 ∷ 16 ∷ 0 ∷ 0 ∷ 19 ∷ 247 ∷ 16 ∷ 0 ∷ 0 ∷ 1 ∷ [] in
    let last : List ℕ = 241 ∷ 16 ∷ 0 ∷ 0 ∷ 8 ∷ [] in
    appends_then a b g head (big_bytes 8 stamp ++ (middle ++ (track ∷ (last ++ big_bytes 8 at)))) p (
    appends_then b c g (big_bytes 8 stamp) (middle ++ (track ∷ (last ++ big_bytes 8 at))) q (
    appends_then c d g middle (track ∷ (last ++ big_bytes 8 at)) r (
    appends_then d e g (track ∷ []) (last ++ big_bytes 8 at) s (appends_then e f g last (big_bytes 8 at) t u)
    )
    )
    )
