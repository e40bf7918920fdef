-- The bits that records take in
use Rattle.std.proofs.Common.{◌≡◌, ℕ, zero, suc, ◌+◌, ◌-◌, min, Bool, true, false, List, [], ◌∷◌, length, map, refl, ap, ◌∙◌, arith, add-one, subst, inl, inr}
use Rattle.std.specs.Prelude.{Option, nat_le, if◌then◌else◌}
use Rattle.std.specs.List.{range_with_len, sum}
use Rattle.std.proofs.lemmas.Bool.{cases_lt, lt-ltb, le-ltb}
use Rattle.std.proofs.lemmas.List.FromFn.{sum_by-map-range_with_len_more}
use Rattle.bool_coder.specs.Reader.{Reader, after_bit, doubled, renewed, read, split_of}
use Rattle.bool_coder.specs.Chains.{Chain, done, ask, run, IsChain}
use Rattle.bool_coder.specs.Taken.{shifts, taken, taken_by_bit}
use Rattle.vp8_tables.specs.Tables.{TableEntries}
use Rattle.frame_header.specs.declared.header.Header.{Header}
use Rattle.mode_parser.specs.declared.records.MbMode.{MbMode}
use Rattle.mode_parser.specs.FrameModes.{first_modes, mode_at}
use Rattle.mode_parser.specs.RecordFacts.{left_after, record_bits}
use Rattle.mode_parser.specs.Chains.{HaveProbabilities}
use Rattle.mode_parser.proofs.ChainLemmas.{mode_at-chain}

length-after : (rest : List ℕ) → length (after_bit rest) ≡ length rest - 1
length-after [] = refl
length-after (bit ∷ rest) = omega arith

renewed-length : (fuel : ℕ) (s : Reader) → length (renewed fuel s).rest ≡ length s.rest - shifts fuel s.range
unfolding renewed shifts
renewed-length zero s = omega arith
renewed-length (suc fuel) s =
    elim (cases_lt s.range 128) [
      | inl small ↦ rw (lt-ltb s.range 128 small) (renewed-length fuel (doubled s) ∙ rw (length-after s.rest) (omega arith))
      | inr large ↦ rw (le-ltb s.range 128 large) (omega arith)
    ]

told-length : (prob : ℕ) (s : Reader) (bit : Bool) → nat_le (split_of prob s.range) s.d ≡ bit → length (read prob s).1.rest ≡ length s.rest - taken_by_bit prob s
unfolding read taken_by_bit
told-length prob s true is = rw is (renewed-length 7 (record s { d = s.d - split_of prob s.range; range = s.range - split_of prob s.range }))
told-length prob s false is = rw is (renewed-length 7 (record s { range = split_of prob s.range }))

branch-length : {A : Type 0} (bit : Bool) (zeros ones : Chain A) (s : Reader) → length (run read zeros s).1.rest ≡ length s.rest - taken zeros s → length (run read ones s).1.rest ≡ length s.rest - taken ones s → length (if bit then run read ones s else run read zeros s).1.rest ≡ length s.rest - (if bit then taken ones s else taken zeros s)
branch-length true zeros ones s z o = o
branch-length false zeros ones s z o = z

run-length : {A : Type 0} (c : Chain A) (s : Reader) → length (run read c s).1.rest ≡ length s.rest - taken c s
unfolding run taken
run-length (done x) s = omega arith
run-length (ask prob zeros ones) s =
    branch-length (read prob s).0 zeros ones (read prob s).1 (run-length zeros (read prob s).1) (run-length ones (read prob s).1) ∙ rw (told-length prob s _ refl) (omega arith)

-- what a record leaves
left-next : (tables : TableEntries) (header : Header) (columns rows : ℕ) (segments : Option (List ℕ)) (place : ℕ) → left_after (suc place) tables header columns rows segments ≡ length (mode_at tables header columns rows segments place (first_modes place tables header columns rows segments header.reader).0 (first_modes place tables header columns rows segments header.reader).1).1.rest
unfolding first_modes
left-next tables header columns rows segments place = refl

left-more : (tables : TableEntries) (header : Header) (columns rows : ℕ) (segments : Option (List ℕ)) (place : ℕ) → (reads : IsChain (mode_at tables header columns rows segments place (first_modes place tables header columns rows segments header.reader).0)) → left_after (place + 1) tables header columns rows segments ≡ left_after place tables header columns rows segments - taken reads.chain (first_modes place tables header columns rows segments header.reader).1
left-more tables header columns rows segments place reads =
    let before = first_modes place tables header columns rows segments header.reader in
    ap (λ (n : ℕ). left_after n tables header columns rows segments) (add-one place) ∙ left-next tables header columns rows segments place
    ∙ ap (λ (t : MbMode × Reader). length t.1.rest) (reads.same before.1) ∙ run-length reads.chain before.1

pub bits-taken : (tables : TableEntries) (header : Header) (columns rows : ℕ) (segments : Option (List ℕ)) (place : ℕ) → (reads : IsChain (mode_at tables header columns rows segments place (first_modes place tables header columns rows segments header.reader).0)) → record_bits tables header columns rows segments place ≡ min (taken reads.chain (first_modes place tables header columns rows segments header.reader).1) (left_after place tables header columns rows segments)
bits-taken tables header columns rows segments place reads = rw (left-more tables header columns rows segments place reads) (omega arith)

pub bits-add_up : (tables : TableEntries) (header : Header) (columns rows : ℕ) (segments : Option (List ℕ)) (n : ℕ) → HaveProbabilities tables header → sum (map (record_bits tables header columns rows segments) (range_with_len 0 n)) + left_after n tables header columns rows segments ≡ left_after 0 tables header columns rows segments
bits-add_up tables header columns rows segments zero have = omega arith
bits-add_up tables header columns rows segments (suc n) have =
    let so_far = bits-add_up tables header columns rows segments n have in
    let reads = mode_at-chain tables header columns rows segments n (first_modes n tables header columns rows segments header.reader).0 have in
    let next = left-more tables header columns rows segments n reads in
    let f : ℕ → ℕ = record_bits tables header columns rows segments in
    let left : ℕ → ℕ = λ k. left_after k tables header columns rows segments in
    let more : sum (map f (range_with_len 0 (n + 1))) ≡ sum (map f (range_with_len 0 n)) + (left n - left (n + 1)) = sum_by-map-range_with_len_more (λ (x : ℕ). x) f 0 n n (omega arith) in
    let there : sum (map f (range_with_len 0 (n + 1))) + left (n + 1) ≡ left 0 = omega (arith, more, so_far, next) in
    subst (λ (k : ℕ). sum (map f (range_with_len 0 k)) + left k ≡ left 0) (add-one n) there
