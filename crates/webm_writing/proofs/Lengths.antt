-- The lengths of parts, of clusters and of their index.
use Rattle.std.proofs.Common.{◌≡◌, ℕ, zero, suc, ◌+◌, ◌*◌, ◌<◌, ◌≤◌, ◌||◌, Bool, true, false, not, cond, nat_lt, inl, inr, List, [], ◌∷◌, ◌++◌, length, get_or, drop, take, map, count_by, refl, sym, ap, ◌∙◌, subst, arith, length-append, length-drop}
use Rattle.std.specs.List.{flat_map, prefix_len}
use Rattle.std.proofs.lemmas.Bool.{cases_Bool}
use Rattle.std.proofs.lemmas.List.{at_drop_more}
use Rattle.std.proofs.lemmas.List.Sums.{sum_by-cons}
use Rattle.std.proofs.lemmas.Grind.{flat_map-append}
use Rattle.webm_writing.specs.declared.samples.Part.{Part}
use Rattle.webm_writing.specs.declared.samples.Sample.{Sample}
use Rattle.webm_writing.specs.Pieces.{piece_text, text_of}
use Rattle.webm_writing.specs.Written.{begins, clusters_in, cluster_bytes, cluster_pieces, cue, cue_of, cues_from, groups, groups_up_to, part_piece}
use Rattle.webm_writing.proofs.Composed.{cluster_long}

-- the parts from an index on
pub parts_next : (parts : List Part) (i : ℕ) (part : Part) → i < length parts → part ≡ get_or parts i part
    → length (text_of (map part_piece (drop i parts))) ≡ length (piece_text (part_piece part)) + length (text_of (map part_piece (drop (i + 1) parts)))
parts_next parts i part within is =
    at_drop_more (λ ps. length (text_of (map part_piece ps))) parts i part within
    ∙ ap (λ p. length (text_of (map part_piece (p ∷ drop (i + 1) parts)))) (sym is)
    ∙ length-append (piece_text (part_piece part)) (text_of (map part_piece (drop (i + 1) parts)))

-- the first cluster and the others
pub clusters_split : (most end : ℕ) (samples : List Sample) → groups most samples ≡ take end samples ∷ groups most (drop end samples)
    → text_of (clusters_in most samples) ≡ text_of (cluster_pieces (take end samples)) ++ text_of (clusters_in most (drop end samples))
clusters_split most end samples split =
    ap (λ g. text_of (flat_map cluster_pieces g)) split ∙ flat_map-append piece_text (cluster_pieces (take end samples)) (clusters_in most (drop end samples))

pub group_long : (end : ℕ) (samples : List Sample) → 0 < end → end ≤ length samples → length (text_of (cluster_pieces (take end samples))) ≡ 12 + cluster_bytes (take end samples)
group_long end [] least within = absurd (omega (arith, least, within))
group_long zero (sample ∷ samples) least within = absurd (omega (arith, least))
group_long (suc end) (sample ∷ samples) least within = cluster_long sample (take end samples)

pub clusters_next : (most end : ℕ) (samples : List Sample) → 0 < end → end ≤ length samples → groups most samples ≡ take end samples ∷ groups most (drop end samples)
    → length (text_of (clusters_in most samples)) ≡ (12 + cluster_bytes (take end samples)) + length (text_of (clusters_in most (drop end samples)))
clusters_next most end samples least within split =
    ap length (clusters_split most end samples split) ∙ length-append (text_of (cluster_pieces (take end samples))) (text_of (clusters_in most (drop end samples)))
    ∙ ap (λ n. n + length (text_of (clusters_in most (drop end samples)))) (group_long end samples least within)

-- each entry of the index of clusters has 42 bytes, and there is one for each sample at which decoding can begin
cue_size : (track stamp at : ℕ) → length (cue track stamp at) ≡ 42
cue_size track stamp at = omega arith

cue_of_size : (at : ℕ) (sample : Sample) (samples : List Sample) → length (cue_of at (sample ∷ samples)) ≡ 42 * cond sample.is_key 1 0
cue_of_size at sample samples = elim (cases_Bool sample.is_key) [
  | inl e ↦ subst (λ b. length (cond b (cue sample.track sample.stamp at) []) ≡ 42 * cond b 1 0) (sym e) (cue_size sample.track sample.stamp at)
  | inr e ↦ subst (λ b. length (cond b (cue sample.track sample.stamp at) []) ≡ 42 * cond b 1 0) (sym e) refl
]

not_first : (a b : Bool) → not (a || b) ≡ true → a ≡ false
not_first false b e = refl
not_first true b e = let wrong : false ≡ true = e in (cc)

-- none of the samples that stay in a cluster is counted
keys_after : (most base : ℕ) (samples : List Sample)
    → count_by (λ sample. sample.is_key) samples ≡ count_by (λ sample. sample.is_key) (drop (prefix_len (λ next. not (begins most base next)) samples) samples)
keys_after most base [] = refl
keys_after most base (sample ∷ samples) =
    let more : ℕ = prefix_len (λ next. not (begins most base next)) samples in
    let test : Bool = not (begins most base sample) in elim (cases_Bool test) [
      | inl e ↦ subst (λ b. count_by (λ s. s.is_key) (sample ∷ samples) ≡ count_by (λ s. s.is_key) (drop (cond b (1 + more) 0) (sample ∷ samples))) (sym e) (
          let plain : sample.is_key ≡ false = not_first sample.is_key (nat_lt sample.stamp base || nat_lt (base + most) sample.stamp) e in
          let one : 1 + more ≡ suc more = omega arith in
          let all : count_by (λ s. s.is_key) (sample ∷ samples) ≡ cond {A = ℕ} sample.is_key 1 0 + count_by (λ s. s.is_key) samples = sum_by-cons (λ (s : Sample). cond s.is_key 1 0) sample samples in
          let none : cond {A = ℕ} sample.is_key 1 0 ≡ 0 = ap (λ b. cond {A = ℕ} b 1 0) plain in
          let rest : count_by (λ s. s.is_key) samples ≡ count_by (λ s. s.is_key) (drop more samples) = keys_after most base samples in
          let sum : count_by (λ s. s.is_key) (sample ∷ samples) ≡ count_by (λ s. s.is_key) (drop more samples) = omega (arith, all, none, rest) in
          sum ∙ ap (λ n. count_by (λ s. s.is_key) (drop n (sample ∷ samples))) (sym one)
          )
      | inr e ↦ subst (λ b. count_by (λ s. s.is_key) (sample ∷ samples) ≡ count_by (λ s. s.is_key) (drop (cond b (1 + more) 0) (sample ∷ samples))) (sym e) refl
    ]

cues_size : (at n most : ℕ) (samples : List Sample) → length samples ≤ n → length (cues_from at (groups_up_to n most samples)) ≡ 42 * count_by (λ sample. sample.is_key) samples
cues_size at zero most [] few = refl
cues_size at zero most (sample ∷ samples) few = absurd (omega (arith, few))
cues_size at (suc n) most [] few = refl
cues_size at (suc n) most (sample ∷ samples) few =
    let stay : ℕ = prefix_len (λ next. not (begins most sample.stamp next)) samples in
    let group : List Sample = sample ∷ take stay samples in
    let next : ℕ = at + length (text_of (cluster_pieces group)) in
    let others : List (List Sample) = groups_up_to n most (drop stay samples) in
    let less : length (drop stay samples) ≤ n = omega (arith, few, length-drop stay samples) in
    let both : length (cue_of at group ++ cues_from next others) ≡ length (cue_of at group) + length (cues_from next others) = length-append (cue_of at group) (cues_from next others) in
    let first : length (cue_of at group) ≡ 42 * cond sample.is_key 1 0 = cue_of_size at sample (take stay samples) in
    let rest : length (cues_from next others) ≡ 42 * count_by (λ s. s.is_key) (drop stay samples) = cues_size next n most (drop stay samples) less in
    let same : count_by (λ s. s.is_key) samples ≡ count_by (λ s. s.is_key) (drop stay samples) = keys_after most sample.stamp samples in
    let all : count_by (λ s. s.is_key) (sample ∷ samples) ≡ cond {A = ℕ} sample.is_key 1 0 + count_by (λ s. s.is_key) samples = sum_by-cons (λ (s : Sample). cond s.is_key 1 0) sample samples in
    omega (arith, both, first, rest, same, all)

pub cues_long : (at most : ℕ) (samples : List Sample) → length (cues_from at (groups most samples)) ≡ 42 * count_by (λ sample. sample.is_key) samples
cues_long at most samples = cues_size at (length samples) most samples (omega arith)

-- the bytes of a cluster and of the others
pub next_is : (most end : ℕ) (samples group others : List Sample) → 0 < end → end ≤ length samples → groups most samples ≡ take end samples ∷ groups most (drop end samples) → group ≡ take end samples
    → others ≡ drop end samples → length (text_of (clusters_in most samples)) ≡ (12 + cluster_bytes group) + length (text_of (clusters_in most others))
next_is most end samples group others least within split front back =
    let next = clusters_next most end samples least within split in
    let first : cluster_bytes group ≡ cluster_bytes (take end samples) = ap cluster_bytes front in
    let rest : length (text_of (clusters_in most others)) ≡ length (text_of (clusters_in most (drop end samples))) = ap (λ s. length (text_of (clusters_in most s))) back in
    omega (arith, next, first, rest)
