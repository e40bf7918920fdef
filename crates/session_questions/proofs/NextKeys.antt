-- What is known of the packets after one, by the next key packet and the numbers of shown ones.
use Rattle.std.proofs.Common.{◌≡◌, ℕ, zero, suc, ◌+◌, ◌≤◌, ◌<◌, Bool, true, false, not, cond, List, [], ◌∷◌, take, drop, map, length, refl, sym, ◌∙◌, arith, eqb}
use Rattle.std.proofs.Math.Dec.{eqb-suc-suc, eqb-zero-suc}
use Rattle.frame_header.specs.Tags.{has_key_tag, is_shown}
use Rattle.packet_edits.specs.declared.entry.Entry.{Entry}
use Rattle.packet_edits.specs.Saved.{packet_of}
use Rattle.packet_edits.specs.Shown.{shown_from}
use Rattle.packet_edits.specs.Sizes.{key_tag_at}
use Rattle.stream_checks.specs.Packets.{is_unshown, lost_after}

-- the bytes of entries
abbrev pub stream : List Entry → List (List ℕ)
stream es = map (λ (e : Entry). e.bytes) es

-- the first key packet at an index or after it, or the end
pub record IsNextKey (es : List Entry) (from key : ℕ) : Type 0 where
  pub starts : from ≤ key
  pub within : key ≤ length es
  pub here : key < length es → key_tag_at (stream es) key ≡ true
  pub earlier : (p : ℕ) → from ≤ p → p < key → key_tag_at (stream es) p ≡ false

after_first : (e : Entry) (es : List Entry) (from key : ℕ) → IsNextKey (e ∷ es) (suc from) (suc key) → IsNextKey es from key
after_first e es from key is = record {
  starts = omega (arith, is.starts);
  within = omega (arith, is.within);
  here = λ inside. is.here (omega arith);
  earlier = λ p above below. is.earlier (suc p) (omega arith) (omega arith);
}

after_inter : (e : Entry) (es : List Entry) (key : ℕ) → IsNextKey (e ∷ es) zero (suc key) → IsNextKey es zero key
after_inter e es key is = record {
  starts = omega arith;
  within = omega (arith, is.within);
  here = λ inside. is.here (omega arith);
  earlier = λ p above below. is.earlier (suc p) (omega arith) (omega arith);
}

lost_first : (tagged : Bool) (e : Entry) (es : List Entry) (key : ℕ) → has_key_tag e.bytes ≡ tagged → IsNextKey (e ∷ es) zero key
    → ((k : ℕ) → IsNextKey es zero k → lost_after (map packet_of es) ≡ k) → cond (not tagged) (1 + lost_after (map packet_of es)) 0 ≡ key
lost_first true e es zero tag is later = refl
lost_first true e es (suc key) tag is later = let no : true ≡ false = sym tag ∙ is.earlier zero (omega arith) (omega arith) in cc
lost_first false e es zero tag is later = let no : true ≡ false = sym (is.here (omega arith)) ∙ tag in cc
lost_first false e es (suc key) tag is later = omega (arith, later key (after_inter e es key is))

lost_from_start : (es : List Entry) (key : ℕ) → IsNextKey es zero key → lost_after (map packet_of es) ≡ key
lost_from_start [] key is = omega (arith, is.within)
lost_from_start (e ∷ es) key is = lost_first (has_key_tag e.bytes) e es key refl is (λ k later. lost_from_start es k later)

-- the packets up to it have no key tag
pub lost_is : (es : List Entry) (from key : ℕ) → IsNextKey es from key → key ≡ from + lost_after (drop from (map packet_of es))
lost_is es zero key is = omega (arith, lost_from_start es key is)
lost_is [] (suc from) key is = absurd (omega (arith, is.starts, is.within))
lost_is (e ∷ es) (suc from) zero is = absurd (omega (arith, is.starts))
lost_is (e ∷ es) (suc from) (suc key) is = omega (arith, lost_is es from key (after_first e es from key is))

-- no packet is shown before the next key tag if none of so many is
past_first : (shown unshown : Bool) (start : ℕ) (places : List ℕ) → eqb 0 (length places) ≡ unshown → eqb 0 (length (cond shown (start ∷ places) places)) ≡ cond shown false unshown
past_first true unshown start places later = eqb-zero-suc (length places)
past_first false unshown start places later = later

none_to_key : (tagged : Bool) (start key : ℕ) (e : Entry) (es : List Entry) → key ≡ cond (not tagged) (1 + lost_after (map packet_of es)) 0
    → ((k : ℕ) → k ≡ lost_after (map packet_of es) → eqb 0 (length (shown_from (start + 1) (take k (stream es)))) ≡ is_unshown (map packet_of es))
    → eqb 0 (length (shown_from start (take key (stream (e ∷ es))))) ≡ cond tagged true (cond (is_shown e.bytes) false (is_unshown (map packet_of es)))
none_to_key true start zero e es is later = refl
none_to_key true start (suc k) e es is later = absurd (omega (arith, is))
none_to_key false start zero e es is later = absurd (omega (arith, is))
none_to_key false start (suc k) e es is later = past_first (is_shown e.bytes) (is_unshown (map packet_of es)) start (shown_from (start + 1) (take k (stream es))) (later k (omega (arith, is)))

none_shown : (start key : ℕ) (es : List Entry) → key ≡ lost_after (map packet_of es) → eqb 0 (length (shown_from start (take key (stream es)))) ≡ is_unshown (map packet_of es)
none_shown start zero [] is = refl
none_shown start (suc key) [] is = absurd (omega (arith, is))
none_shown start key (e ∷ es) is = none_to_key (has_key_tag e.bytes) start key e es is (λ k later. none_shown (start + 1) k es later)

-- as many are shown before an index as before the next key tag from there on
same_past : (shown : Bool) (start : ℕ) (low high : List ℕ) → eqb (length (cond shown (start ∷ low) low)) (length (cond shown (start ∷ high) high)) ≡ eqb (length low) (length high)
same_past true start low high = eqb-suc-suc (length low) (length high)
same_past false start low high = refl

pub unshown_is : (start from key : ℕ) (es : List Entry) → key ≡ from + lost_after (drop from (map packet_of es))
    → eqb (length (shown_from start (take from (stream es)))) (length (shown_from start (take key (stream es)))) ≡ is_unshown (drop from (map packet_of es))
unshown_is start zero key es is = none_shown start key es (omega (arith, is))
unshown_is start (suc from) zero es is = absurd (omega (arith, is))
unshown_is start (suc from) (suc key) [] is = refl
unshown_is start (suc from) (suc key) (e ∷ es) is =
    same_past (is_shown e.bytes) start (shown_from (start + 1) (take from (stream es))) (shown_from (start + 1) (take key (stream es)))
    ∙ unshown_is (start + 1) from key es (omega (arith, is))
