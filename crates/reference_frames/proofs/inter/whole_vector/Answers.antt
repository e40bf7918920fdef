use Rattle.std.proofs.Common.{SFits, w32, to_z, of_z, ◌≡◌, ◌∙◌, ℤ, ◌+ℤ◌, ap, refl, rules}
use Rattle.std.proofs.lemmas.Int.{to_z-of_z}
use Rattle.mode_parser.specs.ChromaVectors.{chroma_component}
use Rattle.mode_parser.specs.Vectors.{MotionVector}
use Rattle.mode_parser.specs.RecordList.{mode_of}
use Rattle.reference_frames.specs.InterPrediction.{block_vector}
use Rattle.reference_frames.proofs.Quarters.{four_times}
use Rattle.reference_frames.proofs.inter.whole_vector.Goals as goal

four_of : {a a' : ℤ} → a ≡ a' → a +ℤ a +ℤ a +ℤ a ≡ a' +ℤ a' +ℤ a' +ℤ a'
four_of a = rw a refl

pub returns : goal.returns
returns c = λ is.
    let vector : c.vector-vector.result ≡ block_vector c.args.mode (mode_of c.args.macroblock.now).vectors 15 = rw is c.vector-vector.ensures in
    let fits : SFits w32 c.chroma_vector.result = search rules in
    let fits' : SFits w32 c.chroma_vector-2.result = search rules in
    let sum_fits : SFits w32 c.sum_of-x.result = search rules in
    let sum_fits' : SFits w32 c.sum_of-y.result = search rules in
    let x_fits : SFits w32 c.x-x.result = search rules in
    let y_fits : SFits w32 c.y-y.result = search rules in
    let x : to_z w32 (of_z w32 c.x-x.result) ≡ (block_vector c.args.mode (mode_of c.args.macroblock.now).vectors 15).x = to_z-of_z w32 _ x_fits ∙ c.x-x.ensures.value ∙ ap (λ (v : MotionVector). v.x) vector in
    let y : to_z w32 (of_z w32 c.y-y.result) ≡ (block_vector c.args.mode (mode_of c.args.macroblock.now).vectors 15).y = to_z-of_z w32 _ y_fits ∙ c.y-y.ensures.value ∙ ap (λ (v : MotionVector). v.y) vector in
    let four = four_times c.args.version c.args.mode (mode_of c.args.macroblock.now).vectors is in (
      rw (to_z-of_z w32 c.chroma_vector.result fits) (c.chroma_vector.ensures ∙ ap (λ s. chroma_component s c.args.version) (to_z-of_z w32 _ sum_fits ∙ c.sum_of-x.ensures ∙ four_of x) ∙ four.0),
      rw (to_z-of_z w32 c.chroma_vector-2.result fits') (c.chroma_vector-2.ensures ∙ ap (λ s. chroma_component s c.args.version) (to_z-of_z w32 _ sum_fits' ∙ c.sum_of-y.ensures ∙ four_of y) ∙ four.1),
    )
