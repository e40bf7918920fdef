-- The packets of one run that are accepted.
use Rattle.std.proofs.Common.{◌≡◌, ℕ, zero, suc, ◌+◌, ◌≤◌, Bool, true, false, List, [], slice_get, Some, None, refl, sym, ap, subst, ◌∙◌, arith, inl, inr, nat_lt, if◌then◌else◌}
use Rattle.std.specs.Prelude.{unwrap_or}
use Rattle.std.proofs.lemmas.Bool.{cases_eq}
use Rattle.std.proofs.lemmas.Option.{get_or_from_slice_get}
use Rattle.frame_header.specs.declared.cause.Cause.{Cause}
use Rattle.packet_edits.specs.Sizes.{key_tag_at}
use Rattle.stream_refusals.specs.Refusals.{HaveNoCause, IsBreak, cause_against, cause_at, run_start}
use Rattle.stream_refusals.proofs.Refused.{run_start-same}
use Rattle.lossless_cuts.specs.Plans.{key_place, last_key}

-- a run begins at the last key packet
pub key-run : (packets : List (List ℕ)) (place : ℕ) → key_place packets place ≡ run_start packets place
key-run packets zero = by_first (key_tag_at packets 0)
  where
    by_first : (b : Bool) → ◌≡◌ {A = ℕ} (unwrap_or (if b then Some 0 else None) 0) 0
    by_first true = refl
    by_first false = refl
key-run packets (suc place) = by_key (key_tag_at packets (suc place)) (key-run packets place)
  where
    by_key : (b : Bool) → key_place packets place ≡ run_start packets place → unwrap_or (if b then Some (suc place) else last_key packets (suc place)) 0 ≡ (if b then suc place else run_start packets place)
    by_key true before = refl
    by_key false before = before

pub cause-is : (packets : List (List ℕ)) (first place k : ℕ) (packet : List ℕ) → first ≡ run_start packets place → first ≤ k → k ≤ place → slice_get packets k ≡ Some packet → cause_at packets k ≡ cause_against (nat_lt first k) packet
cause-is packets first place k packet is low high here =
    let start : run_start packets k ≡ first = run_start-same packets place k (omega (arith, is, low)) high ∙ sym is in
    ap (λ (p : List ℕ). cause_against (nat_lt (run_start packets k) k) p) (get_or_from_slice_get packets k packet [] here) ∙ ap (λ (n : ℕ). cause_against (nat_lt n k) packet) start

pub none-more : (packets : List (List ℕ)) (first k : ℕ) → HaveNoCause packets first k → cause_at packets k ≡ None → HaveNoCause packets first (k + 1)
none-more packets first k before here j low high = elim (cases_eq j k) [
  | inl same ↦ ap (cause_at packets) same ∙ here
  | inr other ↦ before j low (omega (arith, high, other))
]

pub break-is : (packets : List (List ℕ)) (first place k : ℕ) (cause : Cause) → first ≡ run_start packets place → first ≤ k → k ≤ place → HaveNoCause packets first k → cause_at packets k ≡ Some cause → IsBreak packets place (record { place = k; cause = cause })
break-is packets first place k cause is low high before here = record {
  same_run = run_start-same packets place k (omega (arith, is, low)) high;
  within = high;
  cause = here;
  first = subst (λ (n : ℕ). HaveNoCause packets n k) is before;
}

-- an earlier packet of the same run that is accepted
pub unread : (packets : List (List ℕ)) (first earlier place : ℕ) → first ≡ run_start packets place → first ≤ earlier → earlier ≤ place → HaveNoCause packets (run_start packets earlier) (earlier + 1) → HaveNoCause packets first (earlier + 1)
unread packets first earlier place is low high accepted =
    let start : run_start packets earlier ≡ first = run_start-same packets place earlier (omega (arith, is, low)) high ∙ sym is in
    subst (λ (n : ℕ). HaveNoCause packets n (earlier + 1)) start accepted
