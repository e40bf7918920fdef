use Rattle.std.proofs.Common.{SFits, w32, to_z, of_z, ◌≡◌, ◌∙◌, ◌+◌, ◌*◌, ◌/◌, ◌%◌, ℤ, ◌+ℤ◌, ap, refl, rules}
use Rattle.std.proofs.lemmas.Int.{to_z-of_z}
use Rattle.mode_parser.specs.ChromaVectors.{chroma_component, group_vector, sum_of_group}
use Rattle.mode_parser.specs.Vectors.{MotionVector}
use Rattle.reference_frames.specs.InterPrediction.{block_vector}
use Rattle.reference_frames.proofs.inter.group_vector.Goals as goal

four_same : {a b c d a' b' c' d' : ℤ} → a ≡ a' → b ≡ b' → c ≡ c' → d ≡ d' → a +ℤ b +ℤ c +ℤ d ≡ a' +ℤ b' +ℤ c' +ℤ d'
four_same a b c d = rw (a, b, c, d) refl

pub returns-clause-x : goal.returns-clause-x
unfolding group_vector
returns-clause-x c =
    let fits : SFits w32 c.chroma_vector.result = search rules in
    let sum_fits : SFits w32 c.sum_of-x.result = search rules in
    let fits_a : SFits w32 c.x.result = search rules in
    let fits_b : SFits w32 c.x-2.result = search rules in
    let fits_c : SFits w32 c.x-3.result = search rules in
    let fits_d : SFits w32 c.x-4.result = search rules in
    let a : to_z w32 (of_z w32 c.x.result) ≡ (block_vector c.args.mode c.args.vectors.now (8 * (c.args.group / 2) + 2 * (c.args.group % 2))).x = to_z-of_z w32 _ fits_a ∙ c.x.ensures.value ∙ ap (λ (v : MotionVector). v.x) c.block_vector-first.ensures in
    let b : to_z w32 (of_z w32 c.x-2.result) ≡ (block_vector c.args.mode c.args.vectors.now (8 * (c.args.group / 2) + 2 * (c.args.group % 2) + 1)).x = to_z-of_z w32 _ fits_b ∙ c.x-2.ensures.value ∙ ap (λ (v : MotionVector). v.x) c.block_vector-second.ensures in
    let d : to_z w32 (of_z w32 c.x-3.result) ≡ (block_vector c.args.mode c.args.vectors.now (8 * (c.args.group / 2) + 2 * (c.args.group % 2) + 4)).x = to_z-of_z w32 _ fits_c ∙ c.x-3.ensures.value ∙ ap (λ (v : MotionVector). v.x) c.block_vector-third.ensures in
    let e : to_z w32 (of_z w32 c.x-4.result) ≡ (block_vector c.args.mode c.args.vectors.now (8 * (c.args.group / 2) + 2 * (c.args.group % 2) + 5)).x = to_z-of_z w32 _ fits_d ∙ c.x-4.ensures.value ∙ ap (λ (v : MotionVector). v.x) c.block_vector-fourth.ensures in
    let sum : c.sum_of-x.result ≡ sum_of_group (λ n. (block_vector c.args.mode c.args.vectors.now n).x) c.args.group = c.sum_of-x.ensures ∙ four_same a b d e in
    rw (to_z-of_z w32 c.chroma_vector.result fits) (c.chroma_vector.ensures ∙ ap (λ s. chroma_component s c.args.version) (to_z-of_z w32 _ sum_fits ∙ sum))

pub returns-clause-y : goal.returns-clause-y
unfolding group_vector
returns-clause-y c =
    let fits : SFits w32 c.chroma_vector-2.result = search rules in
    let sum_fits : SFits w32 c.sum_of-y.result = search rules in
    let fits_a : SFits w32 c.y.result = search rules in
    let fits_b : SFits w32 c.y-2.result = search rules in
    let fits_c : SFits w32 c.y-3.result = search rules in
    let fits_d : SFits w32 c.y-4.result = search rules in
    let a : to_z w32 (of_z w32 c.y.result) ≡ (block_vector c.args.mode c.args.vectors.now (8 * (c.args.group / 2) + 2 * (c.args.group % 2))).y = to_z-of_z w32 _ fits_a ∙ c.y.ensures.value ∙ ap (λ (v : MotionVector). v.y) c.block_vector-first.ensures in
    let b : to_z w32 (of_z w32 c.y-2.result) ≡ (block_vector c.args.mode c.args.vectors.now (8 * (c.args.group / 2) + 2 * (c.args.group % 2) + 1)).y = to_z-of_z w32 _ fits_b ∙ c.y-2.ensures.value ∙ ap (λ (v : MotionVector). v.y) c.block_vector-second.ensures in
    let d : to_z w32 (of_z w32 c.y-3.result) ≡ (block_vector c.args.mode c.args.vectors.now (8 * (c.args.group / 2) + 2 * (c.args.group % 2) + 4)).y = to_z-of_z w32 _ fits_c ∙ c.y-3.ensures.value ∙ ap (λ (v : MotionVector). v.y) c.block_vector-third.ensures in
    let e : to_z w32 (of_z w32 c.y-4.result) ≡ (block_vector c.args.mode c.args.vectors.now (8 * (c.args.group / 2) + 2 * (c.args.group % 2) + 5)).y = to_z-of_z w32 _ fits_d ∙ c.y-4.ensures.value ∙ ap (λ (v : MotionVector). v.y) c.block_vector-fourth.ensures in
    let sum : c.sum_of-y.result ≡ sum_of_group (λ n. (block_vector c.args.mode c.args.vectors.now n).y) c.args.group = c.sum_of-y.ensures ∙ four_same a b d e in
    rw (to_z-of_z w32 c.chroma_vector-2.result fits) (c.chroma_vector-2.ensures ∙ ap (λ s. chroma_component s c.args.version) (to_z-of_z w32 _ sum_fits ∙ sum))
