use Rattle.std.proofs.Common.{◌≡◌, ℕ, ◌-◌, ◌<◌, refl, ap, arith, ℤ, pos, negsuc, ◌≤ℤ◌}
use Rattle.std.proofs.lemmas.Int.{ints}
use Rattle.pixel_planes.specs.Samples.{sample_at}
use Rattle.pixel_planes.specs.ReferenceSamples.{clamped_coordinate, reference_sample}
use Rattle.pixel_planes.proofs.laws.edges_go_on.Goals as goal

held_inside : (side x : ℕ) → x < side → clamped_coordinate side (pos x) ≡ x
held_inside side x below = omega arith

held_before : (side : ℕ) (x : ℤ) → x ≤ℤ pos 0 → clamped_coordinate side x ≡ clamped_coordinate side (pos 0)
held_before side (pos x) before = omega (arith, ints)
held_before side (negsuc x) before = omega (arith, ints)

held_behind : (side : ℕ) (x : ℤ) → pos (side - 1) ≤ℤ x → clamped_coordinate side x ≡ clamped_coordinate side (pos (side - 1))
held_behind side (pos x) following = omega (arith, ints)
held_behind side (negsuc x) following = omega (arith, ints)

pub returns : goal.returns
unfolding reference_sample
returns c = record {
  inside = λ p x y in_row in_plane. rw (held_inside p.width x in_row, held_inside p.height y in_plane) refl;
  left = λ p x y before. ap (λ k. sample_at p k (clamped_coordinate p.height y)) (held_before p.width x before);
  right = λ p x y following. ap (λ k. sample_at p k (clamped_coordinate p.height y)) (held_behind p.width x following);
  above = λ p x y before. ap (sample_at p (clamped_coordinate p.width x)) (held_before p.height y before);
  below = λ p x y following. ap (sample_at p (clamped_coordinate p.width x)) (held_behind p.height y following);
}
