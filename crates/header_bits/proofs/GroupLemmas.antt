-- The bits of the groups of fields, and of all fields.
use Rattle.std.proofs.Common.{◌≡◌, ℕ, suc, ◌+◌, ◌^◌, Bool, true, false, ℤ, pos, List, [], ◌∷◌, Some, None, refl, arith}
use Rattle.std.specs.Prelude.{is_some, slice_index_or, ◌==◌, if◌then◌else◌}
use Rattle.std.specs.List.{sum}
use Rattle.vp8_tables.specs.declared.vectors.TheConstants.{VECTOR_UPDATE_PROBABILITIES}
use Rattle.bool_coder.specs.Reader.{Reader}
use Rattle.bool_coder.specs.Reading.{Reading, ◌>>=◌, give, flag, literal, more_bits}
use Rattle.frame_header.specs.Fields.{adjustment, colors, delta, deltas, fields, filter, four_deltas, four_signed, map_probabilities, map_probability, partition_count, segment_data, segment_updates, segmentation}
use Rattle.frame_header.specs.InterFields.{inter_fields, no_reference_probabilities, reference_probabilities, uv_modes, vector_probability, vectors, y_modes}
use Rattle.frame_header.specs.References.{all_refreshed, altref_copy, golden_copy, inter_refreshes, refreshes}
use Rattle.frame_header.specs.TrailingFields.{after_skip, quantizers, skip_probability, trailing_fields, updated}
use Rattle.frame_header.specs.Updates.{first_updated}
use Rattle.frame_header.specs.declared.context.Context.{Context}
use Rattle.frame_header.specs.declared.context.FilterDeltas.{FilterDeltas}
use Rattle.frame_header.specs.declared.context.Probabilities.{Probabilities}
use Rattle.frame_header.specs.declared.context.Segments.{Segments}
use Rattle.frame_header.specs.declared.context.SignBiases.{SignBiases}
use Rattle.frame_header.specs.declared.references.Reference.TheVariants.{Last, Golden, Altref}
use Rattle.bool_coder.specs.Reading.{signed}
use Rattle.header_bits.specs.Bits.{all_bits, data_bits, delta_bits, delta_update_bits, first_bits, four_optional, inter_bits, map_bits, no_delta_bits, no_segment_bits, optional_at, quantizer_bits, reference_bits, segment_bits, segment_update_bits, skip, three_optional, update_bits}
use Rattle.header_bits.specs.declared.bits.HeaderBits.{HeaderBits}
use Rattle.header_bits.specs.Totals.{delta_total, inter_total, reference_total, segment_total}
use Rattle.header_bits.proofs.TakesLemmas.{Takes, bind-takes, counted-as, flag-takes, give-takes, if-takes}
use Rattle.header_bits.proofs.AddLemmas.{IsOptional, Measured, delta-optional, literal-ends, literal-takes, map_probability-optional, signed-optional, skip_probability-optional, updated-update, updates-measured, uv_modes-optional, vector_probability-update, y_modes-optional}

-- one of two readings, by a test
if-ends : {A B : Type 0} (test : Bool) (first other : Reading A) (walk another : Reading B) (s : Reader) → (walk s).1 ≡ (first s).1 → (another s).1 ≡ (other s).1 → ((if test then walk else another) s).1 ≡ ((if test then first else other) s).1
if-ends true first other walk another s one two = one
if-ends false first other walk another s one two = two

-- sums
three-sum : (a b c : ℕ) → a + (b + (c + 0)) ≡ 0 + a + b + c
three-sum a b c = omega arith

four-sum : (a b c d : ℕ) → a + (b + (c + (d + 0))) ≡ 0 + a + b + c + d
four-sum a b c d = omega arith

-- four optional fields
four-measured : {A B : Type 0} (more : ℕ) (a b c d : Reading A) (made : A → A → A → A → B) → IsOptional a more → IsOptional b more → IsOptional c more → IsOptional d more
    → Measured (a >>= (λ w. b >>= (λ x. c >>= (λ y. d >>= (λ z. give (made w x y z)))))) (four_optional more) (λ r. sum (four_optional more r).0)
unfolding four_optional
four-measured more a b c d made oa ob oc od = record {
  takes = counted-as (λ r. sum (four_optional more r).0)
      (bind-takes oa.takes (λ w. bind-takes ob.takes (λ x. bind-takes oc.takes (λ y. bind-takes od.takes (λ z. give-takes (made w x y z))))))
      (λ s. rw (oa.ends s, ob.ends (a s).1, oc.ends (b (a s).1).1) (four-sum _ _ _ _));
  ends = λ s. rw (oa.ends s, ob.ends (a s).1, oc.ends (b (a s).1).1) (od.ends (c (b (a s).1).1).1);
}

four_signed-measured : (n : ℕ) → Measured (four_signed n) (four_optional (suc n)) (λ r. sum (four_optional (suc n) r).0)
unfolding four_signed
four_signed-measured n =
    let one : IsOptional (signed n) (suc n) = signed-optional n in
    four-measured (suc n) (signed n) (signed n) (signed n) (signed n) (λ w x y z. w ∷ x ∷ y ∷ z ∷ []) one one one one

four_deltas-measured : (before : List ℤ) → Measured (four_deltas before) (four_optional 7) (λ r. sum (four_optional 7 r).0)
unfolding four_deltas
four_deltas-measured before = four-measured 7 (delta (slice_index_or before 0 (pos 0))) (delta (slice_index_or before 1 (pos 0))) (delta (slice_index_or before 2 (pos 0))) (delta (slice_index_or before 3 (pos 0))) (λ w x y z. w ∷ x ∷ y ∷ z ∷ []) (delta-optional _) (delta-optional _) (delta-optional _) (delta-optional _)

map_probabilities-measured : Measured map_probabilities (three_optional 8) (λ r. sum (three_optional 8 r).0)
unfolding map_probabilities three_optional
map_probabilities-measured =
    let one : IsOptional map_probability 8 = map_probability-optional in
    record {
      takes = counted-as (λ r. sum (three_optional 8 r).0) (bind-takes one.takes (λ x. bind-takes one.takes (λ y. bind-takes one.takes (λ z. give-takes (x ∷ y ∷ z ∷ [])))))
          (λ s. rw (one.ends s, one.ends (map_probability s).1) (three-sum _ _ _));
      ends = λ s. rw (one.ends s, one.ends (map_probability s).1) (one.ends (map_probability (map_probability s).1).1);
    }

-- the data of segments
data-takes : (before : Segments) → Takes segment_data (λ r. 1 + (sum (four_optional 8 (flag r).1).0 + sum (four_optional 7 (four_signed 7 (flag r).1).1).0))
unfolding segment_data
data-takes before = counted-as (λ r. 1 + (sum (four_optional 8 (flag r).1).0 + sum (four_optional 7 (four_signed 7 (flag r).1).1).0))
    (bind-takes flag-takes (λ a. bind-takes (four_signed-measured 7).takes (λ q. bind-takes (four_signed-measured 6).takes (λ l. give-takes (record { is_absolute = a; quantizers = q; levels = l })))))
    (λ s. omega arith)

data-measured : (is_updated : Bool) (before : Segments) → Measured (if is_updated then segment_data else give before) (data_bits is_updated) (λ r. (if is_updated then 1 else 0) + sum (data_bits is_updated r).0.0 + sum (data_bits is_updated r).0.1)
unfolding data_bits segment_data skip
data-measured false before = record { takes = give-takes before; ends = λ s. refl }
data-measured true before = record {
  takes = counted-as (λ r. 1 + sum (data_bits true r).0.0 + sum (data_bits true r).0.1) (data-takes before) (λ s. rw ((four_signed-measured 7).ends (flag s).1) (omega arith));
  ends = λ s. rw ((four_signed-measured 7).ends (flag s).1) ((four_signed-measured 6).ends (four_signed 7 (flag s).1).1);
}

map-measured : (is_updated : Bool) → Measured (if is_updated then map_probabilities else give (255 ∷ 255 ∷ 255 ∷ [])) (map_bits is_updated) (λ r. sum (map_bits is_updated r).0)
unfolding map_bits
map-measured false = record { takes = give-takes (255 ∷ 255 ∷ 255 ∷ []); ends = λ s. refl }
map-measured true = map_probabilities-measured

-- segments
abbrev update_total : Bool → Reader → ℕ
update_total is_updated r = (if is_updated then 1 else 0) + sum (segment_update_bits r).0.quantizers + sum (segment_update_bits r).0.levels + sum (segment_update_bits r).0.map_probabilities

updates-total : (before : Segments) → Takes (segment_updates before) (λ r. 2 + update_total (segment_updates before r).0.0.updates_data r)
unfolding segment_updates segment_update_bits
updates-total before = counted-as (λ r. 2 + update_total (segment_updates before r).0.0.updates_data r)
    (bind-takes flag-takes (λ map. bind-takes flag-takes (λ data_too. bind-takes (data-measured data_too before).takes (λ segments. bind-takes (map-measured map).takes (λ probabilities. give-takes (record { is_enabled = true; updates_map = map; updates_data = data_too; map_probabilities = probabilities }, segments))))))
    (λ s. rw ((data-measured (flag (flag s).1).0 before).ends (flag (flag s).1).1) (omega arith))

updates-ends : (before : Segments) (s : Reader) → (segment_update_bits s).1 ≡ (segment_updates before s).1
unfolding segment_updates segment_update_bits
updates-ends before s = rw ((data-measured (flag (flag s).1).0 before).ends (flag (flag s).1).1) ((map-measured (flag s).0).ends _)

segments-count : (is_enabled : Bool) (before : Segments) (s : Reader)
    → 1 + (if is_enabled then 2 + update_total (segment_updates before s).0.0.updates_data s else 0)
    ≡ segment_total ((if is_enabled then segment_updates before else give (record { is_enabled = false; updates_map = false; updates_data = false; map_probabilities = 255 ∷ 255 ∷ 255 ∷ [] }, before)) s).0.0 ((if is_enabled then segment_update_bits else give no_segment_bits) s).0
unfolding segment_updates
segments-count false before s = refl
segments-count true before s = omega arith

pub segmentation-measured : (before : Segments) → Measured (segmentation before) segment_bits (λ r. segment_total (segmentation before r).0.0 (segment_bits r).0)
unfolding segmentation segment_bits
segmentation-measured before = record {
  takes = counted-as (λ r. segment_total (segmentation before r).0.0 (segment_bits r).0) (bind-takes flag-takes (λ is_enabled. if-takes is_enabled (updates-total before) (give-takes (record { is_enabled = false; updates_map = false; updates_data = false; map_probabilities = 255 ∷ 255 ∷ 255 ∷ [] }, before)))) (λ s. segments-count (flag s).0 before (flag s).1);
  ends = λ s. if-ends (flag s).0 (segment_updates before) _ segment_update_bits (give no_segment_bits) (flag s).1 (updates-ends before (flag s).1) refl;
}

-- changes of the level
updated-deltas-count : (are_updated : Bool) (before : FilterDeltas) (s : Reader)
    → 1 + (if are_updated then sum (four_optional 7 s).0 + sum (four_optional 7 (four_deltas before.reference s).1).0 else 0)
    ≡ 1 + sum ((if are_updated then (four_optional 7 >>= (λ references. four_optional 7 >>= (λ modes. give (record no_delta_bits { are_updated = true; references = references; modes = modes })))) else give no_delta_bits) s).0.references
    + sum ((if are_updated then (four_optional 7 >>= (λ references. four_optional 7 >>= (λ modes. give (record no_delta_bits { are_updated = true; references = references; modes = modes })))) else give no_delta_bits) s).0.modes
updated-deltas-count false before s = refl
updated-deltas-count true before s = rw ((four_deltas-measured before.reference).ends s) (omega arith)

pub deltas-measured : (before : FilterDeltas) → Measured (deltas before) delta_update_bits (λ r. 1 + sum (delta_update_bits r).0.references + sum (delta_update_bits r).0.modes)
unfolding deltas delta_update_bits
deltas-measured before = record {
  takes = counted-as (λ r. 1 + sum (delta_update_bits r).0.references + sum (delta_update_bits r).0.modes)
      (bind-takes flag-takes (λ are_updated. if-takes are_updated
      (counted-as (λ r. sum (four_optional 7 r).0 + sum (four_optional 7 (four_deltas before.reference r).1).0)
      (bind-takes (four_deltas-measured before.reference).takes (λ reference. bind-takes (four_deltas-measured before.mode).takes (λ mode. give-takes (record { reference = reference; mode = mode })))) (λ s. omega arith))
      (give-takes before)))
      (λ s. updated-deltas-count (flag s).0 before (flag s).1);
  ends = λ s. if-ends (flag s).0 _ (give before) _ (give no_delta_bits) (flag s).1
      (rw ((four_deltas-measured before.reference).ends (flag s).1) ((four_deltas-measured before.mode).ends (four_deltas before.reference (flag s).1).1)) refl;
}

adjustment-count : (is_enabled : Bool) (before : FilterDeltas) (s : Reader)
    → 1 + (if is_enabled then 1 + sum (delta_update_bits s).0.references + sum (delta_update_bits s).0.modes else 0)
    ≡ delta_total ((if is_enabled then (◌>>=◌ {B = Bool × FilterDeltas} (deltas before) (λ after. give (true, after))) else give (false, before)) s).0.0 ((if is_enabled then delta_update_bits else give no_delta_bits) s).0
adjustment-count false before s = refl
adjustment-count true before s = omega arith

pub adjustment-measured : (before : FilterDeltas) → Measured (adjustment before) delta_bits (λ r. delta_total (adjustment before r).0.0 (delta_bits r).0)
unfolding adjustment delta_bits
adjustment-measured before = record {
  takes = counted-as (λ r. delta_total (adjustment before r).0.0 (delta_bits r).0)
      (bind-takes flag-takes (λ is_enabled. if-takes is_enabled
      (counted-as (λ r. 1 + sum (delta_update_bits r).0.references + sum (delta_update_bits r).0.modes) (bind-takes (deltas-measured before).takes (λ after. give-takes (true, after))) (λ s. omega arith))
      (give-takes (false, before))))
      (λ s. adjustment-count (flag s).0 before (flag s).1);
  ends = λ s. if-ends (flag s).0 (◌>>=◌ {B = Bool × FilterDeltas} (deltas before) (λ after. give (true, after))) (give (false, before)) delta_update_bits (give no_delta_bits) (flag s).1 ((deltas-measured before).ends (flag s).1) refl;
}

-- the fields up to the number of token partitions
color-takes : (is_key : Bool) → Takes (if is_key then colors else give (record { color_space = false; clamping_type = false })) (λ r. if is_key then 2 else 0)
unfolding colors
color-takes false = give-takes (record { color_space = false; clamping_type = false })
color-takes true = bind-takes flag-takes (λ space. bind-takes flag-takes (λ clamping. give-takes (record { color_space = space; clamping_type = clamping })))

color-ends : (is_key : Bool) (s : Reader) → (skip (if is_key then 2 else 0) s).1 ≡ ((if is_key then colors else give (record { color_space = false; clamping_type = false })) s).1
unfolding colors skip
color-ends false s = refl
color-ends true s = refl

filter-takes : Takes filter (λ r. 10)
unfolding filter
filter-takes = bind-takes flag-takes (λ simple. bind-takes (literal-takes 6) (λ level. bind-takes (literal-takes 3) (λ sharpness. give-takes (record { is_simple = simple; level = level; sharpness = sharpness }))))

filter-ends : (s : Reader) → (skip 10 s).1 ≡ (filter s).1
unfolding filter skip literal more_bits
filter-ends s = refl

count-takes : Takes partition_count (λ r. 2)
unfolding partition_count
count-takes = bind-takes (literal-takes 2) (λ log2. give-takes (2 ^ log2))

count-ends : (s : Reader) → (skip 2 s).1 ≡ (partition_count s).1
unfolding partition_count skip literal more_bits
count-ends s = refl

abbrev pub first_total : Bool → Context → Reader → ℕ
first_total is_key before r =
    (if is_key then 2 else 0) + segment_total (fields is_key before r).0.0.segmentation (first_bits is_key r).0.0 + 10 + delta_total (fields is_key before r).0.0.adjusts_level (first_bits is_key r).0.1 + 2

pub fields-ends : (is_key : Bool) (before : Context) (s : Reader) → (first_bits is_key s).1 ≡ (fields is_key before s).1
unfolding fields first_bits
fields-ends is_key before s =
    let color : Reader = ((if is_key then colors else give (record { color_space = false; clamping_type = false })) s).1 in
    let segments : Reader = (segmentation before.segments color).1 in
    let loop : Reader = (filter segments).1 in
    rw (color-ends is_key s, (segmentation-measured before.segments).ends color, filter-ends segments, (adjustment-measured before.deltas).ends loop) (count-ends (adjustment before.deltas loop).1)

pub fields-takes : (is_key : Bool) (before : Context) → Takes (fields is_key before) (first_total is_key before)
unfolding fields first_bits
fields-takes is_key before = counted-as (first_total is_key before)
    (bind-takes (color-takes is_key) (λ color. bind-takes (segmentation-measured before.segments).takes (λ segments. bind-takes filter-takes (λ loop. bind-takes (adjustment-measured before.deltas).takes (λ adjusted. bind-takes count-takes (λ count. give-takes (record { colors = color; segmentation = segments.0; filter = loop; adjusts_level = adjusted.0; partition_count = count }, record before { segments = segments.1; deltas = adjusted.1 })))))))
    (λ s.
    let color : Reader = ((if is_key then colors else give (record { color_space = false; clamping_type = false })) s).1 in
    let segments : Reader = (segmentation before.segments color).1 in
    rw (color-ends is_key s, (segmentation-measured before.segments).ends color, filter-ends segments) (omega arith))

-- quantizers
pub quantizers-ends : (s : Reader) → (quantizer_bits s).1 ≡ (quantizers s).1
unfolding quantizers quantizer_bits four_optional
quantizers-ends s =
    let one : IsOptional (signed 4) 5 = signed-optional 4 in
    let a : Reader = (literal 7 s).1 in
    let b : Reader = (signed 4 a).1 in
    let c : Reader = (signed 4 b).1 in
    let d : Reader = (signed 4 c).1 in
    rw (literal-ends 7 s, one.ends a, one.ends b, one.ends c, one.ends d) (one.ends (signed 4 d).1)

five-sum : (a b c d e : ℕ) → 7 + (a + (b + (c + (d + (e + 0))))) ≡ 7 + (0 + a + b + c + d + e)
five-sum a b c d e = omega arith

quantizers-takes : Takes quantizers (λ r. 7 + sum (quantizer_bits r).0)
unfolding quantizers quantizer_bits four_optional
quantizers-takes =
    let one : IsOptional (signed 4) 5 = signed-optional 4 in
    counted-as (λ r. 7 + sum (quantizer_bits r).0)
    (bind-takes (literal-takes 7) (λ index. bind-takes one.takes (λ v. bind-takes one.takes (λ w. bind-takes one.takes (λ x. bind-takes one.takes (λ y. bind-takes one.takes (λ z.
    give-takes (record { y_ac_index = index; y_dc_delta = v; y2_dc_delta = w; y2_ac_delta = x; uv_dc_delta = y; uv_ac_delta = z }))))))))
    (λ s.
    let a : Reader = (literal 7 s).1 in
    let b : Reader = (signed 4 a).1 in
    let c : Reader = (signed 4 b).1 in
    let d : Reader = (signed 4 c).1 in
    rw (literal-ends 7 s, one.ends a, one.ends b, one.ends c, one.ends d) (five-sum _ _ _ _ _))

-- references
golden-takes : (is_refreshed : Bool) → Takes (golden_copy is_refreshed) (λ r. if is_refreshed then 0 else 2)
unfolding golden_copy
golden-takes true = give-takes None
golden-takes false = bind-takes (literal-takes 2) (λ source. give-takes (if source == 1 then Some Last else if source == 2 then Some Altref else None))

golden-ends : (is_refreshed : Bool) (s : Reader) → (skip (if is_refreshed then 0 else 2) s).1 ≡ (golden_copy is_refreshed s).1
unfolding golden_copy skip literal more_bits
golden-ends true s = refl
golden-ends false s = refl

altref-takes : (is_refreshed : Bool) → Takes (altref_copy is_refreshed) (λ r. if is_refreshed then 0 else 2)
unfolding altref_copy
altref-takes true = give-takes None
altref-takes false = bind-takes (literal-takes 2) (λ source. give-takes (if source == 1 then Some Last else if source == 2 then Some Golden else None))

altref-ends : (is_refreshed : Bool) (s : Reader) → (skip (if is_refreshed then 0 else 2) s).1 ≡ (altref_copy is_refreshed s).1
unfolding altref_copy skip literal more_bits
altref-ends true s = refl
altref-ends false s = refl

four-flags : (s : Reader) → (skip 4 s).1 ≡ (flag (flag (flag (flag s).1).1).1).1
unfolding skip
four-flags s = refl

references-ends : (is_key : Bool) (before : SignBiases) (s : Reader) → (reference_bits is_key s).1 ≡ (refreshes is_key before s).1
unfolding refreshes inter_refreshes reference_bits skip
references-ends true before s = refl
references-ends false before s =
    let golden : Bool = (flag s).0 in
    let altref : Bool = (flag (flag s).1).0 in
    let r : Reader = (flag (flag s).1).1 in
    rw (golden-ends golden r, altref-ends altref (golden_copy golden r).1) (four-flags (altref_copy altref (golden_copy golden r).1).1)

references-takes : (is_key : Bool) (before : SignBiases) → Takes (refreshes is_key before) (λ r. reference_total is_key (refreshes is_key before r).0.0.references)
unfolding refreshes inter_refreshes
references-takes true before = bind-takes flag-takes (λ entropy. give-takes (record { references = all_refreshed; refreshes_entropy = entropy }, before))
references-takes false before = counted-as (λ r. reference_total false (refreshes false before r).0.0.references)
    (bind-takes flag-takes (λ golden. bind-takes flag-takes (λ altref. bind-takes (golden-takes golden) (λ to_golden. bind-takes (altref-takes altref) (λ to_altref.
    bind-takes flag-takes (λ golden_bias. bind-takes flag-takes (λ altref_bias. bind-takes flag-takes (λ entropy. bind-takes flag-takes (λ last.
    give-takes (record { references = record { refreshes_last = last; refreshes_golden = golden; refreshes_altref = altref; golden_copy = to_golden; altref_copy = to_altref }; refreshes_entropy = entropy }, record { golden = golden_bias; altref = altref_bias }))))))))))
    (λ s. omega arith)

-- the probability of skipping
skip-count-by : (may_skip : Bool) (s : Reader) → ((if may_skip then (skip 8 >>= (λ bits. give (1 + bits))) else give 1) s).0 ≡ (if is_some ((if may_skip then (literal 8 >>= (λ prob. give (Some prob))) else give None) s).0 then 9 else 1)
unfolding skip
skip-count-by true s = refl
skip-count-by false s = refl

skipping-takes : Takes skip_probability (λ r. if is_some (skip_probability r).0 then 9 else 1)
unfolding skip_probability optional_at
skipping-takes = counted-as (λ r. if is_some (skip_probability r).0 then 9 else 1) skip_probability-optional.takes (λ s. skip-count-by (flag s).0 (flag s).1)

-- the fields of inter frames
references-probabilities-takes : Takes reference_probabilities (λ r. 24)
unfolding reference_probabilities
references-probabilities-takes = bind-takes (literal-takes 8) (λ x. bind-takes (literal-takes 8) (λ y. bind-takes (literal-takes 8) (λ z. give-takes (record { intra = x; last = y; golden = z }))))

references-probabilities-ends : (s : Reader) → (skip 24 s).1 ≡ (reference_probabilities s).1
unfolding reference_probabilities skip literal more_bits
references-probabilities-ends s = refl

row-measured : (before : List ℕ) → Measured (first_updated vector_probability 19 (slice_index_or VECTOR_UPDATE_PROBABILITIES 0 []) before) (update_bits 7 19 (slice_index_or VECTOR_UPDATE_PROBABILITIES 0 [])) (λ r. (update_bits 7 19 (slice_index_or VECTOR_UPDATE_PROBABILITIES 0 []) r).0)
row-measured before = updates-measured vector_probability 7 vector_probability-update 19 (slice_index_or VECTOR_UPDATE_PROBABILITIES 0 []) before

column-measured : (before : List ℕ) → Measured (first_updated vector_probability 19 (slice_index_or VECTOR_UPDATE_PROBABILITIES 1 []) before) (update_bits 7 19 (slice_index_or VECTOR_UPDATE_PROBABILITIES 1 [])) (λ r. (update_bits 7 19 (slice_index_or VECTOR_UPDATE_PROBABILITIES 1 []) r).0)
column-measured before = updates-measured vector_probability 7 vector_probability-update 19 (slice_index_or VECTOR_UPDATE_PROBABILITIES 1 []) before

-- mv_prob_update()
abbrev rows : List ℕ
rows = slice_index_or VECTOR_UPDATE_PROBABILITIES 0 []

abbrev columns : List ℕ
columns = slice_index_or VECTOR_UPDATE_PROBABILITIES 1 []

vectors-takes : (before : List (List ℕ)) → Takes (vectors before) (λ r. (update_bits 7 19 rows r).0 + (update_bits 7 19 columns (update_bits 7 19 rows r).1).0)
unfolding vectors
vectors-takes before =
    let row = row-measured (slice_index_or before 0 []) in
    let column = column-measured (slice_index_or before 1 []) in
    counted-as (λ r. (update_bits 7 19 rows r).0 + (update_bits 7 19 columns (update_bits 7 19 rows r).1).0)
    (bind-takes row.takes (λ x. bind-takes column.takes (λ y. give-takes (x ∷ y ∷ []))))
    (λ s. rw (row.ends s) (omega arith))

vectors-ends : (before : List (List ℕ)) (s : Reader) → (update_bits 7 19 columns (update_bits 7 19 rows s).1).1 ≡ (vectors before s).1
unfolding vectors
vectors-ends before s = rw ((row-measured (slice_index_or before 0 [])).ends s) ((column-measured (slice_index_or before 1 [])).ends _)

inter-takes : (is_key : Bool) (before : Probabilities) → Takes (after_skip is_key before) (λ r. inter_total is_key (inter_bits is_key r).0)
unfolding inter_fields inter_bits
inter-takes true before = give-takes (no_reference_probabilities, before)
inter-takes false before = counted-as (λ r. inter_total false (inter_bits false r).0)
    (bind-takes references-probabilities-takes (λ references. bind-takes (y_modes-optional before.y_modes).takes (λ y. bind-takes (uv_modes-optional before.uv_modes).takes (λ uv. bind-takes (vectors-takes before.vectors) (λ vector.
    give-takes (references, record before { y_modes = y; uv_modes = uv; vectors = vector }))))))
    (λ s.
    let a : Reader = (reference_probabilities s).1 in
    let b : Reader = (y_modes before.y_modes a).1 in
    rw (references-probabilities-ends s, (y_modes-optional before.y_modes).ends a, (uv_modes-optional before.uv_modes).ends b) (omega arith))

inter-ends : (is_key : Bool) (before : Probabilities) (s : Reader) → (inter_bits is_key s).1 ≡ (after_skip is_key before s).1
unfolding inter_fields inter_bits
inter-ends true before s = refl
inter-ends false before s =
    let a : Reader = (reference_probabilities s).1 in
    let b : Reader = (y_modes before.y_modes a).1 in
    let c : Reader = (uv_modes before.uv_modes b).1 in
    rw (references-probabilities-ends s, (y_modes-optional before.y_modes).ends a, (uv_modes-optional before.uv_modes).ends b) (vectors-ends before.vectors c)

-- the fields after the number of token partitions
coefficients-measured : (updates before : List ℕ) → Measured (first_updated updated 1056 updates before) (update_bits 8 1056 updates) (λ r. (update_bits 8 1056 updates r).0)
coefficients-measured updates before = updates-measured updated 8 updated-update 1056 updates before

-- what reads a header, as far as its context
abbrev pub reading_of : Bool → List ℕ → Context → Reading Context
reading_of is_key updates before = fields is_key before >>= (λ first. trailing_fields is_key updates first.1 >>= (λ rest. give rest.1))

pub all-ends : (is_key : Bool) (updates : List ℕ) (before : Context) (s : Reader) → (all_bits is_key updates s).1 ≡ (reading_of is_key updates before s).1
unfolding all_bits trailing_fields
all-ends is_key updates before s =
    let context : Context = (fields is_key before s).0.1 in
    let a : Reader = (fields is_key before s).1 in
    let b : Reader = (quantizers a).1 in
    let c : Reader = (refreshes is_key context.sign_biases b).1 in
    let coefficients = first_updated updated 1056 updates context.probabilities.coefficients c in
    let d : Reader = coefficients.1 in
    let e : Reader = (skip_probability d).1 in
    rw (fields-ends is_key before s, quantizers-ends a, references-ends is_key context.sign_biases b, (coefficients-measured updates context.probabilities.coefficients).ends c, skip_probability-optional.ends d)
    (inter-ends is_key (record context.probabilities { coefficients = coefficients.0 }) e)

abbrev pub total_with : Bool → List ℕ → Context → HeaderBits → Reader → ℕ
total_with is_key updates before bits r =
    let first = fields is_key before r in
    let last = trailing_fields is_key updates first.0.1 first.1 in
    (if is_key then 2 else 0) + segment_total first.0.0.segmentation bits.segments + 10 + delta_total first.0.0.adjusts_level bits.deltas + 2
    + 7 + sum bits.quantizers + reference_total is_key last.0.0.references + bits.coefficients + (if is_some last.0.0.skip_probability then 9 else 1)
    + inter_total is_key bits.inter

abbrev pub all_total : Bool → List ℕ → Context → Reader → ℕ
all_total is_key updates before r = total_with is_key updates before (all_bits is_key updates r).0 r

trailing-takes : (is_key : Bool) (updates : List ℕ) (before : Context) → Takes (trailing_fields is_key updates before)
    (λ r. let b = (quantizers r).1 in let c = (refreshes is_key before.sign_biases b).1 in let d = (first_updated updated 1056 updates before.probabilities.coefficients c).1 in
    7 + sum (quantizer_bits r).0 + reference_total is_key (refreshes is_key before.sign_biases b).0.0.references + (update_bits 8 1056 updates c).0
    + (if is_some (skip_probability d).0 then 9 else 1) + inter_total is_key (inter_bits is_key (skip_probability d).1).0)
unfolding trailing_fields
trailing-takes is_key updates before = counted-as _
    (bind-takes quantizers-takes (λ index. bind-takes (references-takes is_key before.sign_biases) (λ kept. bind-takes (coefficients-measured updates before.probabilities.coefficients).takes (λ coefficients.
    bind-takes skipping-takes (λ skipping. bind-takes (inter-takes is_key (record before.probabilities { coefficients = coefficients })) (λ inter.
    give-takes (record { quantizers = index; references = kept.0.references; refreshes_entropy = kept.0.refreshes_entropy; skip_probability = skipping; reference_probabilities = inter.0 }, record before { probabilities = inter.1; sign_biases = kept.1 })))))))
    (λ s. omega arith)

pub all-takes : (is_key : Bool) (updates : List ℕ) (before : Context) → Takes (reading_of is_key updates before) (all_total is_key updates before)
unfolding all_bits trailing_fields
all-takes is_key updates before = counted-as (all_total is_key updates before)
    (bind-takes (fields-takes is_key before) (λ first. bind-takes (trailing-takes is_key updates first.1) (λ rest. give-takes rest.1)))
    (λ s.
    let context : Context = (fields is_key before s).0.1 in
    let a : Reader = (fields is_key before s).1 in
    let b : Reader = (quantizers a).1 in
    let c : Reader = (refreshes is_key context.sign_biases b).1 in
    let d : Reader = (first_updated updated 1056 updates context.probabilities.coefficients c).1 in
    rw (fields-ends is_key before s, quantizers-ends a, references-ends is_key context.sign_biases b, (coefficients-measured updates context.probabilities.coefficients).ends c, skip_probability-optional.ends d) (omega arith))
