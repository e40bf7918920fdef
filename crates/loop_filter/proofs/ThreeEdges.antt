-- Three edges four samples apart, each filtered line by line, and rows of sixteen samples that are filtered at a time.
use Rattle.std.specs.Prelude.{slice_index}
use Rattle.std.specs.Simd.Lanes.{put_chunk}
use Rattle.std.proofs.Common.{◌≡◌, ℕ, zero, suc, ◌+◌, ◌*◌, ◌<◌, ◌≤◌, List, [], ◌∷◌, ◌++◌, length, refl, ap, sym, subst, ◌∙◌, arith}
use Rattle.std.proofs.lemmas.Simd.{length-put_chunk, get_or-put_chunk_below, get_or-put_chunk_at, get_or-put_chunk_above}
use Rattle.loop_filter.specs.Lines.{Line}
use Rattle.loop_filter.specs.Edges.{line_in, with_line, lines_filtered}
use Rattle.loop_filter.specs.Lanes.{middle_line, last_line, left_after, right_after, rows_put}
use Rattle.loop_filter.proofs.EdgeFold.{samples_of, same_line, same_line_in, line_is_sets, line_is_put}
use Rattle.loop_filter.proofs.RowsPut.{put_past_sets, earlier_row}

-- a line that is written before a part
with_line_before : (s ys : List ℕ) (at place : ℕ) (l : Line) → at + 8 ≤ place → with_line (put_chunk place s ys) at 1 l ≡ put_chunk place (with_line s at 1 l) ys
with_line_before s ys at place l le =
    let v : ℕ → ℕ = λ (k : ℕ). slice_index (samples_of l) k in
    line_is_sets (put_chunk place s ys) at 1 l ∙ sym (put_past_sets s at 1 v 8 place ys (λ j less. omega arith)) ∙ ap (λ (x : List ℕ). put_chunk place x ys) (sym (line_is_sets s at 1 l))

-- lines that are filtered before a part
lines_before : (f : Line → Line) (s ys : List ℕ) (start stride n place : ℕ) → ((i : ℕ) → i < n → start + i * stride + 8 ≤ place) → lines_filtered f start stride 1 (put_chunk place s ys) n ≡ put_chunk place (lines_filtered f start stride 1 s n) ys
unfolding lines_filtered
lines_before f s ys start stride zero place before = refl
lines_before f s ys start stride (suc n) place before =
    let z : List ℕ = lines_filtered f start stride 1 s n in
    let at = start + n * stride in
    let le : at + 8 ≤ place = before n (omega arith) in
    let same : line_in (put_chunk place z ys) at 1 ≡ line_in z at 1 = same_line_in z (put_chunk place z ys) at 1 (λ k less. get_or-put_chunk_below place z ys (at + k * 1) 0 (omega (arith, le))) in
    ap (λ (b : List ℕ). with_line b at 1 (f (line_in b at 1))) (lines_before f s ys start stride n place (λ i less. before i (omega arith)))
    ∙ ap (λ (l : Line). with_line (put_chunk place z ys) at 1 (f l)) same
    ∙ with_line_before z ys at place (f (line_in z at 1)) le

-- samples after all lines, and their number
lines_other : (f : Line → Line) (s : List ℕ) (start stride n p : ℕ) → ((i : ℕ) → i < n → start + i * stride + 8 ≤ p) → slice_index (lines_filtered f start stride 1 s n) p ≡ slice_index s p
unfolding lines_filtered
lines_other f s start stride zero p before = refl
lines_other f s start stride (suc n) p before =
    let z : List ℕ = lines_filtered f start stride 1 s n in
    let at = start + n * stride in
    let l = f (line_in z at 1) in
    let le : at + 8 ≤ p = before n (omega arith) in
    ap (λ (x : List ℕ). slice_index x p) (sym (line_is_put z at l)) ∙ get_or-put_chunk_above at z (samples_of l) p 0 le ∙ lines_other f s start stride n p (λ i less. before i (omega arith))

length-lines : (f : Line → Line) (s : List ℕ) (start stride n : ℕ) → length (lines_filtered f start stride 1 s n) ≡ length s
unfolding lines_filtered
length-lines f s start stride zero = refl
length-lines f s start stride (suc n) =
    let z : List ℕ = lines_filtered f start stride 1 s n in
    let at = start + n * stride in
    ap length (sym (line_is_put z at (f (line_in z at 1)))) ∙ length-put_chunk at z (samples_of (f (line_in z at 1))) ∙ length-lines f s start stride n

-- a part written over the end of an earlier one
put_again : (at : ℕ) (s b c : List ℕ) → length b ≤ length c → put_chunk at (put_chunk at s b) c ≡ put_chunk at s c
put_again at [] b c le = refl
put_again zero (x ∷ s) [] c le = refl
put_again zero (x ∷ s) (y ∷ b) [] le = absurd (omega arith)
put_again zero (x ∷ s) (y ∷ b) (z ∷ c) le = ap (λ (l : List ℕ). z ∷ l) (put_again zero s b c (omega arith))
put_again (suc at) (x ∷ s) b c le = ap (λ (l : List ℕ). x ∷ l) (put_again at s b c le)

put_over : (at place : ℕ) (s a b c : List ℕ) → at + length a ≡ place → length b ≤ length c → put_chunk place (put_chunk at s (a ++ b)) c ≡ put_chunk at s (a ++ c)
put_over at place s [] b c same le = let is : place ≡ at = omega arith in rw is (put_again at s b c le)
put_over at zero s (y ∷ a) b c same le = absurd (omega arith)
put_over at (suc place) [] (y ∷ a) b c same le = refl
put_over zero (suc place) (x ∷ s) (y ∷ a) b c same le = ap (λ (l : List ℕ). y ∷ l) (put_over zero place s a b c (omega arith) le)
put_over (suc at) (suc place) (x ∷ s) (y ∷ a) b c same le = ap (λ (l : List ℕ). x ∷ l) (put_over at place s (y ∷ a) b c (omega arith) le)

-- one row: its lines across the three edges
abbrev pub first_of : (Line → Line) → List ℕ → ℕ → Line
first_of f s at = f (line_in s at 1)

abbrev pub middle_of : (Line → Line) → List ℕ → ℕ → Line
middle_of f s at = f (middle_line (first_of f s at) (line_in s (at + 8) 1))

abbrev pub last_of : (Line → Line) → List ℕ → ℕ → Line
last_of f s at = f (last_line (middle_of f s at) (line_in s (at + 8) 1))

abbrev pub row_filtered : (Line → Line) → List ℕ → ℕ → List ℕ
row_filtered f s at = samples_of (left_after f (first_of f s at) (line_in s (at + 8) 1)) ++ samples_of (right_after f (first_of f s at) (line_in s (at + 8) 1))

-- a line that begins in the middle of one that was written
line_after : (s : List ℕ) (at place : ℕ) (l : Line) → at + 4 ≡ place → at + 8 ≤ length s
    → line_in (put_chunk at s (samples_of l)) place 1 ≡ record { p3 = l.q0; p2 = l.q1; p1 = l.q2; p0 = l.q3; q0 = slice_index s (at + 8); q1 = slice_index s (at + 9); q2 = slice_index s (at + 10); q3 = slice_index s (at + 11) }
line_after s at place l same room =
    let put : List ℕ = put_chunk at s (samples_of l) in
    let inside : (k : ℕ) → 4 + k < 8 → slice_index put (at + 4 + k) ≡ slice_index (samples_of l) (4 + k) =
    λ (k : ℕ) (less : 4 + k < 8). (let e : at + 4 + k ≡ at + (4 + k) = omega arith in ap (slice_index put) e) ∙ get_or-put_chunk_at at s (samples_of l) (4 + k) 0 less room in
    let past : (k : ℕ) → slice_index put (at + 4 + (4 + k)) ≡ slice_index s (at + (8 + k)) =
    λ (k : ℕ). (let e : at + 4 + (4 + k) ≡ at + (8 + k) = omega arith in ap (slice_index put) e) ∙ get_or-put_chunk_above at s (samples_of l) (at + (8 + k)) 0 (omega arith) in
    subst (λ (p : ℕ). line_in put p 1 ≡ record { p3 = l.q0; p2 = l.q1; p1 = l.q2; p0 = l.q3; q0 = slice_index s (at + 8); q1 = slice_index s (at + 9); q2 = slice_index s (at + 10); q3 = slice_index s (at + 11) }) same
    (same_line (line_in put (at + 4) 1) (record { p3 = l.q0; p2 = l.q1; p1 = l.q2; p0 = l.q3; q0 = slice_index s (at + 8); q1 = slice_index s (at + 9); q2 = slice_index s (at + 10); q3 = slice_index s (at + 11) })
    (get_or-put_chunk_at at s (samples_of l) 4 0 (omega arith) room) (inside 1 (omega arith)) (inside 2 (omega arith)) (inside 3 (omega arith)) (past 0) (past 1) (past 2) (past 3))

-- lines do not reach the next row
room_left : (start stride i n more p : ℕ) → i < n → 16 ≤ stride → more ≤ 16 → start + n * stride ≤ p → start + i * stride + more ≤ p
room_left start stride i n more p less wide le there = let e = earlier_row stride i n less in omega (arith, e)

-- one more line of an edge
one_line : (f : Line → Line) (s z : List ℕ) (start stride n at : ℕ) (l : Line) → start + n * stride ≡ at → lines_filtered f start stride 1 s n ≡ z → line_in z at 1 ≡ l → lines_filtered f start stride 1 s (suc n) ≡ put_chunk at z (samples_of (f l))
unfolding lines_filtered
one_line f s z start stride n at l place done is =
    ap (λ (b : List ℕ). with_line b (start + n * stride) 1 (f (line_in b (start + n * stride) 1))) done
    ∙ ap (λ (p : ℕ). with_line z p 1 (f (line_in z p 1))) place
    ∙ ap (λ (l : Line). with_line z at 1 (f l)) is
    ∙ sym (line_is_put z at (f l))

-- the line across the second edge, and across the third, after those before are filtered
second_line : (s z : List ℕ) (at : ℕ) (l : Line) → at + 8 ≤ length z → ((p : ℕ) → at ≤ p → slice_index z p ≡ slice_index s p) → line_in (put_chunk at z (samples_of l)) (at + 4) 1 ≡ middle_line l (line_in s (at + 8) 1)
second_line s z at l room same =
    let on : (k : ℕ) → at + (8 + k) ≡ at + 8 + k = λ (k : ℕ). omega arith in
    line_after z at (at + 4) l refl room
    ∙ same_line _ (middle_line l (line_in s (at + 8) 1)) refl refl refl refl (same (at + 8) (omega arith)) (same (at + 9) (omega arith) ∙ ap (slice_index s) (on 1)) (same (at + 10) (omega arith) ∙ ap (slice_index s) (on 2)) (same (at + 11) (omega arith) ∙ ap (slice_index s) (on 3))

third_line : (s z : List ℕ) (at : ℕ) (first l : Line) → at + 16 ≤ length z → ((p : ℕ) → at ≤ p → slice_index z p ≡ slice_index s p) → line_in (put_chunk (at + 4) (put_chunk at z (samples_of first)) (samples_of l)) (at + 8) 1 ≡ last_line l (line_in s (at + 8) 1)
third_line s z at first l room same =
    let under : List ℕ = put_chunk at z (samples_of first) in
    let long : length under ≡ length z = length-put_chunk at z (samples_of first) in
    let seen : (k : ℕ) → slice_index under (at + 4 + (8 + k)) ≡ slice_index s (at + 8 + (4 + k)) =
    λ (k : ℕ). get_or-put_chunk_above at z (samples_of first) (at + 4 + (8 + k)) 0 (omega arith) ∙ same (at + 4 + (8 + k)) (omega arith) ∙ (let e : at + 4 + (8 + k) ≡ at + 8 + (4 + k) = omega arith in ap (slice_index s) e) in
    line_after under (at + 4) (at + 8) l (omega arith) (omega (arith, long))
    ∙ same_line _ (last_line l (line_in s (at + 8) 1)) refl refl refl refl (seen 0) (seen 1) (seen 2) (seen 3)

-- three lines that overlap are one row
three_puts : (z : List ℕ) (at : ℕ) (a b c : Line) → put_chunk (at + 8) (put_chunk (at + 4) (put_chunk at z (samples_of a)) (samples_of b)) (samples_of c)
    ≡ put_chunk at z ((a.p3 ∷ a.p2 ∷ a.p1 ∷ a.p0 ∷ b.p3 ∷ b.p2 ∷ b.p1 ∷ b.p0 ∷ []) ++ samples_of c)
three_puts z at a b c =
    ap (λ (x : List ℕ). put_chunk (at + 8) x (samples_of c)) (put_over at (at + 4) z (a.p3 ∷ a.p2 ∷ a.p1 ∷ a.p0 ∷ []) (a.q0 ∷ a.q1 ∷ a.q2 ∷ a.q3 ∷ []) (samples_of b) refl (omega arith))
    ∙ put_over at (at + 8) z (a.p3 ∷ a.p2 ∷ a.p1 ∷ a.p0 ∷ b.p3 ∷ b.p2 ∷ b.p1 ∷ b.p0 ∷ []) (b.q0 ∷ b.q1 ∷ b.q2 ∷ b.q3 ∷ []) (samples_of c) refl (omega arith)

-- the three edges, line by line, are the rows filtered at a time
pub three_edges : (f : Line → Line) (s : List ℕ) (start stride n : ℕ) → 16 ≤ stride → ((i : ℕ) → i < n → start + i * stride + 16 ≤ length s)
    → rows_put s start stride (λ i. row_filtered f s (start + i * stride)) n ≡ lines_filtered f (start + 8) stride 1 (lines_filtered f (start + 4) stride 1 (lines_filtered f start stride 1 s n) n) n
unfolding rows_put lines_filtered
three_edges f s start stride zero wide room = refl
three_edges f s start stride (suc n) wide room =
    let at = start + n * stride in
    let z1 : List ℕ = lines_filtered f start stride 1 s n in
    let z2 : List ℕ = lines_filtered f (start + 4) stride 1 z1 n in
    let z3 : List ℕ = lines_filtered f (start + 8) stride 1 z2 n in
    let first = first_of f s at in
    let middle = middle_of f s at in
    let last = last_of f s at in
    let here : at + 16 ≤ length s = room n (omega arith) in
    let long2 : length z2 ≡ length s = length-lines f z1 (start + 4) stride n ∙ length-lines f s start stride n in
    let long3 : length z3 ≡ length s = length-lines f z2 (start + 8) stride n ∙ long2 in
    let ends : (off i p : ℕ) → off ≤ 8 → at ≤ p → i < n → start + off + i * stride + 8 ≤ p = λ (off i p : ℕ) (few : off ≤ 8) (there : at ≤ p) (less : i < n). let e = room_left start stride i n (off + 8) p less wide (omega arith) there in omega (arith, e) in
    let ends0 : (i p : ℕ) → at ≤ p → i < n → start + i * stride + 8 ≤ p = λ (i p : ℕ) (there : at ≤ p) (less : i < n). room_left start stride i n 8 p less wide (omega arith) there in
    let same1 : (p : ℕ) → at ≤ p → slice_index z1 p ≡ slice_index s p = λ (p : ℕ) (there : at ≤ p). lines_other f s start stride n p (λ i less. ends0 i p there less) in
    let same2 : (p : ℕ) → at ≤ p → slice_index z2 p ≡ slice_index s p = λ (p : ℕ) (there : at ≤ p). lines_other f z1 (start + 4) stride n p (λ i less. ends 4 i p (omega arith) there less) ∙ same1 p there in
    let same3 : (p : ℕ) → at ≤ p → slice_index z3 p ≡ slice_index s p = λ (p : ℕ) (there : at ≤ p). lines_other f z2 (start + 8) stride n p (λ i less. ends 8 i p (omega arith) there less) ∙ same2 p there in
    let y1 = one_line f s z1 start stride n at (line_in s at 1) refl refl (same_line_in s z1 at 1 (λ k less. same1 (at + k * 1) (omega arith))) in
    let y2 = one_line f (put_chunk at z1 (samples_of first)) (put_chunk at z2 (samples_of first)) (start + 4) stride n (at + 4) (middle_line first (line_in s (at + 8) 1)) (omega arith)
    (lines_before f z1 (samples_of first) (start + 4) stride n at (λ i less. ends 4 i at (omega arith) (omega arith) less))
    (second_line s z2 at first (omega (arith, here, long2)) same2) in
    let y3 = one_line f (put_chunk (at + 4) (put_chunk at z2 (samples_of first)) (samples_of middle)) (put_chunk (at + 4) (put_chunk at z3 (samples_of first)) (samples_of middle)) (start + 8) stride n (at + 8) (last_line middle (line_in s (at + 8) 1)) (omega arith)
    (lines_before f (put_chunk at z2 (samples_of first)) (samples_of middle) (start + 8) stride n (at + 4) (λ i less. ends 8 i (at + 4) (omega arith) (omega arith) less)
    ∙ ap (λ (x : List ℕ). put_chunk (at + 4) x (samples_of middle)) (lines_before f z2 (samples_of first) (start + 8) stride n at (λ i less. ends 8 i at (omega arith) (omega arith) less)))
    (third_line s z3 at first middle (omega (arith, here, long3)) same3) in
    ap (λ (x : List ℕ). put_chunk at x (row_filtered f s at)) (three_edges f s start stride n wide (λ i less. room i (omega arith)))
    ∙ sym (three_puts z3 at first middle last)
    ∙ sym y3
    ∙ ap (λ (x : List ℕ). lines_filtered f (start + 8) stride 1 x (suc n)) (sym y2)
    ∙ ap (λ (x : List ℕ). lines_filtered f (start + 8) stride 1 (lines_filtered f (start + 4) stride 1 x (suc n)) (suc n)) (sym y1)
