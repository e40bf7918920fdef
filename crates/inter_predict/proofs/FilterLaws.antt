-- Properties of the filters.
use Rattle.std.specs.Prelude.{slice_index_or}
use Rattle.std.proofs.Common.{◌≡◌, ℕ, suc, ◌+◌, ◌-◌, ◌*◌, ◌<◌, [], ℤ, pos, negsuc, ◌+ℤ◌, ◌-ℤ◌, ◌*ℤ◌, refl, ap, subst, sym, ◌∙◌, ◌/◌, ◌%◌, arith}
use Rattle.std.proofs.lemmas.Int.{ints}
use Rattle.vp8_tables.specs.Bounds.{clamped_sample}
use Rattle.vp8_tables.specs.declared.filters.TheConstants.{SIX_TAP_FILTERS}
use Rattle.pixel_planes.specs.ReferenceSamples.{reference_sample}
use Rattle.inter_predict.specs.declared.kinds.Kind.{Kind}
use Rattle.inter_predict.specs.declared.kinds.Kind.TheVariants.{SixTap, Bilinear}
use Rattle.inter_predict.specs.InterSample.{whole_part, fraction, filtered, weighed, between, across, inter_sample}
use Rattle.inter_predict.specs.Laws.{TapsAddUp, KeepsOneValue, CopiesWhole}
use Rattle.inter_predict.specs.Kernels.{six_taps, tapped}
use Rattle.inter_predict.proofs.TapSums.{below_eight, six_small, six_between, two_taps, two_small, two_between}
use Rattle.inter_predict.proofs.Twice.{tapped_whole}

pub taps_add_up : TapsAddUp
taps_add_up eighths less = below_eight (λ f. weighed (slice_index_or SIX_TAP_FILTERS f []) (λ k. 1) ≡ pos 128) refl refl refl refl refl refl refl refl eighths less

six_level : (value eighths : ℕ) → eighths < 8 → value < 256 → tapped (six_taps eighths) (λ k. value) ≡ value
unfolding tapped
six_level value eighths less byte =
    below_eight (λ f. tapped (six_taps f) (λ k. value) ≡ value) (omega arith) (omega arith) (omega arith) (omega arith) (omega arith) (omega arith) (omega arith) (omega arith) eighths less

two_level : (value eighths : ℕ) → eighths < 8 → value < 256 → tapped (two_taps eighths) (λ k. value) ≡ value
unfolding tapped
two_level value eighths less byte =
    below_eight (λ f. tapped (two_taps f) (λ k. value) ≡ value) (omega arith) (omega arith) (omega arith) (omega arith) (omega arith) (omega arith) (omega arith) (omega arith) eighths less

pub keeps_one_value : KeepsOneValue
keeps_one_value SixTap eighths value place less byte = six_between eighths less (λ k. value) place ∙ six_level value eighths less byte
keeps_one_value Bilinear eighths value place less byte = two_between eighths less (λ k. value) place ∙ two_level value eighths less byte

-- zero eighths after a position the sample between is the sample there
pub at_place : (kind : Kind) (line : ℤ → ℕ) (place : ℤ) → line place < 256 → between kind 0 line place ≡ line place
at_place SixTap line place byte =
    let there : (place -ℤ pos 2) +ℤ pos 2 ≡ place = omega (arith, ints) in
    six_between 0 (omega arith) line place ∙ tapped_whole (six_taps 0) (λ k. line ((place -ℤ pos 2) +ℤ pos k)) (six_small 0 (omega arith)) refl (let P : ℤ → Type 0 = λ (z : ℤ). line z < 256 in subst P (sym there) byte) ∙ ap line there
at_place Bilinear line place byte =
    let there : (place -ℤ pos 2) +ℤ pos 2 ≡ place = omega (arith, ints) in
    two_between 0 (omega arith) line place ∙ tapped_whole (two_taps 0) (λ k. line ((place -ℤ pos 2) +ℤ pos k)) (two_small 0 (omega arith)) refl (let P : ℤ → Type 0 = λ (z : ℤ). line z < 256 in subst P (sym there) byte) ∙ ap line there

-- eight eighths are a whole sample
eight_eighths : (z : ℤ) → (whole_part (z *ℤ pos 8) ≡ z) × (fraction (z *ℤ pos 8) ≡ 0)
eight_eighths (pos n) = (let e : n * 8 / 8 ≡ n = omega arith in ap pos e, omega arith)
eight_eighths (negsuc n) =
    let e : suc n * 8 ≡ suc (n * 8 + 7) = omega arith in
    let d : (n * 8 + 7) / 8 ≡ n = omega arith in
    let r : 7 - (n * 8 + 7) % 8 ≡ 0 = omega arith in
    rw e (ap negsuc d, r)

-- the filtered number is a sample
held_byte : (z : ℤ) → clamped_sample z < 256
held_byte (pos n) = omega arith
held_byte (negsuc n) = omega arith

pub between_byte : (kind : Kind) (eighths : ℕ) (line : ℤ → ℕ) (place : ℤ) → between kind eighths line place < 256
unfolding between filtered
between_byte SixTap eighths line place = held_byte _
between_byte Bilinear eighths line place = held_byte _

pub copies_whole : CopiesWhole
unfolding inter_sample
copies_whole kind p x y right below bytes =
    let h = eight_eighths right in
    let v = eight_eighths below in
    rw (v.0, v.1) (at_place kind (across kind p x (right *ℤ pos 8)) (y +ℤ below) (between_byte kind _ _ _) ∙ rw (h.0, h.1) (at_place kind (λ column. reference_sample p column (y +ℤ below)) (x +ℤ right) (bytes _ _)))
