-- The first group of samples, and the others.
use Rattle.std.proofs.Common.{◌≡◌, ℕ, zero, suc, ◌+◌, ◌<◌, ◌≤◌, not, List, [], ◌∷◌, ◌++◌, length, drop, take, Option, refl, sym, ap, ◌∙◌, subst, arith, append_assoc, append-nil, length-append, length-drop}
use Rattle.std.specs.List.{flat_map, prefix_len}
use Rattle.std.proofs.lemmas.Grind.{flat_map-append}
use Rattle.webm_writing.specs.declared.samples.Sample.{Sample}
use Rattle.webm_writing.specs.Pieces.{piece_text, text_of}
use Rattle.webm_writing.specs.Written.{begins, clusters_in, cluster_bytes, cluster_pieces, groups, groups_up_to}
use Rattle.webm_writing.specs.Fitting.{GroupFits, SamplesFit}
use Rattle.std.specs.Io.KnownBytes.{Appends}
use Rattle.webm_writing.proofs.Fitted.{GroupsFit, groups_fit}
use Rattle.webm_writing.proofs.Composed.{appends_then, cluster_size}

-- a number of groups that is no less than the number of samples is all
enough : (n m most : ℕ) (samples : List Sample) → length samples ≤ n → length samples ≤ m → groups_up_to n most samples ≡ groups_up_to m most samples
enough zero zero most samples _ _ = refl
enough zero (suc m) most [] _ _ = refl
enough zero (suc m) most (sample ∷ samples) low _ = absurd (omega (arith, low))
enough (suc n) zero most [] _ _ = refl
enough (suc n) zero most (sample ∷ samples) _ low = absurd (omega (arith, low))
enough (suc n) (suc m) most [] _ _ = refl
enough (suc n) (suc m) most (sample ∷ samples) low high =
    let stay : ℕ = prefix_len (λ next. not (begins most sample.stamp next)) samples in
    ap (λ more. (sample ∷ take stay samples) ∷ more) (enough n m most (drop stay samples) (omega (arith, low, length-drop stay samples)) (omega (arith, high, length-drop stay samples)))

one_more : (n : ℕ) → suc n ≡ 1 + n
one_more n = omega arith

pub first_group : (most : ℕ) (sample : Sample) (samples : List Sample) (stay : ℕ) → stay ≡ prefix_len (λ next. not (begins most sample.stamp next)) samples
    → groups most (sample ∷ samples) ≡ take (1 + stay) (sample ∷ samples) ∷ groups most (drop (1 + stay) (sample ∷ samples))
first_group most sample samples stay is =
    let real : ℕ = prefix_len (λ next. not (begins most sample.stamp next)) samples in
    ap (λ more. (sample ∷ take real samples) ∷ more) (enough (length samples) (length (drop real samples)) most (drop real samples) (omega (arith, length-drop real samples)) (omega arith))
    ∙ ap (λ n. (sample ∷ take n samples) ∷ groups most (drop n samples)) (sym is)
    ∙ ap (λ n. take n (sample ∷ samples) ∷ groups most (drop n (sample ∷ samples))) (one_more stay)

-- of a text all but a rest is written
pub record Has (old now : Option (List ℕ)) (text rest : List ℕ) : Type 0 where
  pub done : List ℕ
  pub wrote : Appends old now done
  pub left : text ≡ done ++ rest

pub has_none : (old : Option (List ℕ)) (text : List ℕ) → Appends old old [] → Has old old text text
has_none old text wrote = record { done = []; wrote = wrote; left = refl }

-- one more piece of the text
pub has_step : (old now next : Option (List ℕ)) (text one rest : List ℕ) → Has old now text (one ++ rest) → Appends now next one → Has old next text rest
has_step old now next text one rest has wrote = record {
  done = has.done ++ one;
  wrote = appends_then old now next has.done one has.wrote wrote;
  left = has.left ∙ sym (append_assoc has.done one rest);
}

pub has_end : (old now : Option (List ℕ)) (text : List ℕ) → Has old now text [] → Appends old now text
has_end old now text has = subst (Appends old now) (sym (has.left ∙ append-nil has.done)) has.wrote

pub has_more : (old now next : Option (List ℕ)) (most end : ℕ) (text : List ℕ) (samples : List Sample) → groups most samples ≡ take end samples ∷ groups most (drop end samples)
    → Has old now text (text_of (clusters_in most samples)) → Appends now next (text_of (cluster_pieces (take end samples))) → Has old next text (text_of (clusters_in most (drop end samples)))
has_more old now next most end text samples split has wrote =
    let first : List ℕ = text_of (cluster_pieces (take end samples)) in
    let rest : List ℕ = text_of (clusters_in most (drop end samples)) in
    let parts : text_of (clusters_in most samples) ≡ first ++ rest = ap (λ g. text_of (flat_map cluster_pieces g)) split ∙ flat_map-append piece_text (cluster_pieces (take end samples)) (clusters_in most (drop end samples)) in
    record {
      done = has.done ++ first;
      wrote = appends_then old now next has.done first has.wrote wrote;
      left = has.left ∙ ap (λ t. has.done ++ t) parts ∙ sym (append_assoc has.done first rest);
    }

pub has_all : (old now : Option (List ℕ)) (most : ℕ) (text : List ℕ) (samples : List Sample) → length samples ≡ 0 → Has old now text (text_of (clusters_in most samples)) → Appends old now text
has_all old now most text [] none has = subst (Appends old now) (sym (has.left ∙ append-nil has.done)) has.wrote
has_all old now most text (sample ∷ samples) none has = absurd (omega (arith, none))

-- the first group, and its size
pub group_is : (most end : ℕ) (samples : List Sample) → most < 32768 → SamplesFit samples → groups most samples ≡ take end samples ∷ groups most (drop end samples) → GroupFits (take end samples)
group_is most end samples few fit split = (subst GroupsFit split (groups_fit (length samples) most samples few fit)).0

pub rest_fits : (n : ℕ) (samples : List Sample) → SamplesFit samples → SamplesFit (drop n samples)
rest_fits zero samples fit = fit
rest_fits (suc n) [] fit = tt
rest_fits (suc n) (sample ∷ samples) fit = rest_fits n samples fit.1

pub first_fit : (n : ℕ) (samples : List Sample) → SamplesFit samples → SamplesFit (take n samples)
first_fit zero samples fit = tt
first_fit (suc n) [] fit = tt
first_fit (suc n) (sample ∷ samples) fit = (fit.0, first_fit n samples fit.1)

pub group_size : (old now : Option (List ℕ)) (most end : ℕ) (text : List ℕ) (samples : List Sample) → 0 < end → end ≤ length samples → groups most samples ≡ take end samples ∷ groups most (drop end samples)
    → Has old now text (text_of (clusters_in most samples)) → length text < 72057594037927936 → cluster_bytes (take end samples) < 72057594037927936
group_size old now most end text [] least within split has few = absurd (omega (arith, least, within))
group_size old now most zero text (sample ∷ samples) least within split has few = absurd (omega (arith, least))
group_size old now most (suc end) text (sample ∷ samples) least within split has few =
    let group : List Sample = sample ∷ take end samples in
    let first : List ℕ = text_of (cluster_pieces group) in
    let rest : List ℕ = text_of (clusters_in most (drop end samples)) in
    let parts : text_of (clusters_in most (sample ∷ samples)) ≡ first ++ rest = ap (λ g. text_of (flat_map cluster_pieces g)) split ∙ flat_map-append piece_text (cluster_pieces group) (clusters_in most (drop end samples)) in
    let long : length text ≡ length has.done + (length first + length rest) = ap length has.left ∙ length-append has.done (text_of (clusters_in most (sample ∷ samples))) ∙ ap (λ t. length has.done + length t) parts ∙ ap (λ n. length has.done + n) (length-append first rest) in
    omega (arith, few, long, cluster_size sample (take end samples))
