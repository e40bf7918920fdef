-- What is said of each record
use Rattle.std.proofs.Common.{◌≡◌, ℕ, ◌+◌, ◌-◌, List, [], ◌∷◌, ◌++◌, length, map, slice_index_or, refl, sym, arith}
use Rattle.std.specs.Prelude.{Option}
use Rattle.std.specs.List.{range_with_len}
use Rattle.std.proofs.lemmas.List.FromFn.{map-range_with_len_more}
use Rattle.bool_coder.specs.Reader.{Reader}
use Rattle.bool_coder.specs.Trees.{leaf_below, leaf}
use Rattle.vp8_tables.specs.Tables.{TableEntries}
use Rattle.vp8_tables.specs.declared.modes.TheConstants.{SPLIT_TREE, SPLIT_PROBABILITIES}
use Rattle.frame_header.specs.declared.header.Header.{Header}
use Rattle.mode_parser.specs.declared.records.MbMode.{MbMode}
use Rattle.mode_parser.specs.declared.records.Split.{Split}
use Rattle.mode_parser.specs.declared.records.Split.TheVariants.{Sixteenths}
use Rattle.mode_parser.specs.declared.record_facts.RecordFacts.{RecordFacts}
use Rattle.frame_header.specs.declared.references.Reference.{Reference}
use Rattle.mode_parser.specs.declared.records.VectorMode.{VectorMode}
use Rattle.mode_parser.specs.declared.nearby.MbPosition.{MbPosition}
use Rattle.mode_parser.specs.declared.nearby.Near.{Near}
use Rattle.mode_parser.specs.NearVectors.{near_of}
use Rattle.mode_parser.specs.InterRecords.{which_reference, vector_mode}
use Rattle.mode_parser.specs.FrameModes.{first_modes}
use Rattle.mode_parser.specs.RecordFacts.{splits, which_split, split_by, referenced_split, split_at, facts_at}

pub which_split-leaf : (number : ℕ) (r s : Reader) → leaf_below 6 SPLIT_TREE SPLIT_PROBABILITIES 0 r ≡ (number, s) → which_split r ≡ (slice_index_or splits number Sixteenths, s)
unfolding which_split leaf
which_split-leaf number r s told = rw told refl

-- one record more
pub facts-more : (tables : TableEntries) (header : Header) (columns rows : ℕ) (segments : Option (List ℕ)) (n : ℕ) (before after : List MbMode) (r s : Reader) (facts : List RecordFacts) (bits : ℕ) (split : Option Split)
    → first_modes n tables header columns rows segments header.reader ≡ (before, r) → first_modes (n + 1) tables header columns rows segments header.reader ≡ (after, s) → length before ≡ n
    → bits ≡ length r.rest - length s.rest → split ≡ (split_at header columns rows segments (length before) before r).0
    → facts ≡ map (facts_at tables header columns rows segments) (range_with_len 0 n)
    → facts ++ record { bits = bits; split = split } ∷ [] ≡ map (facts_at tables header columns rows segments) (range_with_len 0 (n + 1))
facts-more tables header columns rows segments n before after r s facts bits split done more count are_bits is_split so_far =
    let here : ◌≡◌ {A = RecordFacts} record { bits = bits; split = split } (facts_at tables header columns rows segments n) = rw (are_bits, is_split, count, done, more) refl in
    rw (so_far, here) (sym (map-range_with_len_more (facts_at tables header columns rows segments) 0 n n (omega arith)))

-- the split of a macroblock with a reference, by the parts from which the code makes it
pub referenced_split-is : (header : Header) (place : MbPosition) (above left above_left : Option MbMode) (from : Reference) (near : Near) (mode : VectorMode) (split : Option Split) (r s t u : Reader) → which_reference header.reference_probabilities r ≡ (from, s) → near ≡ near_of above left above_left from header.context.sign_biases place → vector_mode near.counts s ≡ (mode, t) → split_by mode t ≡ (split, u) → referenced_split header place above left above_left r ≡ (split, u)
unfolding referenced_split
referenced_split-is header place above left above_left from near mode split r s t u is_from is_near is_mode is_split = rw (is_from, ← is_near, is_mode) is_split
